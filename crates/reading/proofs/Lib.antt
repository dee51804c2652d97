-- The laws of reading and writing that rest on what an edit of must-fail/ changes.
pub mod FirstFault
pub mod PackedSlices
pub mod SlicesAndFiles
pub mod OneSlice
pub mod WriteRead
