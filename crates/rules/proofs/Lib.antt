-- The laws that rest on what an edit of must-fail/ changes, and the example drawings.
pub mod Chains
pub mod Places
pub mod PadsOfEdges
pub mod RecordLaws
pub mod CheckedListed
pub mod LineCount
pub mod Examples
