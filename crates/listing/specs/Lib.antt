-- What the contracts of the crate cite; that a search which is run again has the head of one run; and that the head and the lines together are what is
-- printed.
pub mod Listing
pub mod BufferRecords
pub mod HeadLaws
pub mod HeadAgain
pub mod Whole
