-- The slow walk lists exactly the listed layouts, and so do its runs.
pub mod WalkLists
pub mod EveryCode
