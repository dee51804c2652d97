-- What `common` answers, and what it tells; that records laid over each other are its table.
pub mod Overlay
pub mod Answers
pub mod Filled
pub mod OverlayLaws
pub mod CallLaws
