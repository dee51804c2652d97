-- The rules: what a reader must believe, in the order of document 01, then the laws that a sceptic would ask for.
pub mod Grid
pub mod Drawing
pub mod Record
pub mod Chains
pub mod Tests
pub mod Places
pub mod PadsOfEdges
pub mod RecordLaws
pub mod Sums
pub mod Checked
pub mod CheckedListed
pub mod Loops
pub mod ProperGrid
