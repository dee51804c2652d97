-- Laws of reading a grid file: what every reading gives, that the first 4,096 bytes decide it, where it stops and what it names there; and
-- of writing one: reading what is written gives the grid, writing what is read gives the file. Laws of reading packed decimal: what one pad and
-- what a whole slice gives, and that slices and files of the same codes give the same grid.
pub mod FieldSteps
pub mod ReadingLaws
pub mod LongFiles
pub mod FirstFault
pub mod ReadBack
pub mod WrittenBack
pub mod WriteRead
pub mod PadSteps
pub mod PackedPads
pub mod PackedSlices
pub mod SlicesAndFiles
