-- What the answers of `read` and `write` say, as the model has them. Assumes nothing.
use Rattle.std.specs.Prelude.{ℕ, List, Result, Ok, Err}
use Rattle.model.specs.GridFile as model
use Rattle.model.specs.Writing as writer
use Rattle.grid.specs.Answers.{number_of, index_of}
use Rattle.gridfile.specs.declared.sized.Grid.{Grid}
use Rattle.gridfile.specs.declared.Declined.{Declined}
use Rattle.gridfile.specs.declared.Unwritten.{Unwritten}
use Rattle.gridfile.specs.declared.Unwritten.TheVariants.{BadGrid, NoRoom}
use Rattle.gridfile.specs.Fields.{fault_number}

-- number 0, H, W and the cells; or the number, the line and the field, beside the empty grid
abbrev pub reading_says : Result Grid Declined → model.Reading
reading_says (Ok grid) = record { number = 0; line = 0; field = 0; height = grid.height; width = grid.width; cells = grid.cells }
reading_says (Err declined) = model.declined_reading (fault_number declined.fault) declined.line declined.field

-- the documents' numbers: those of a grid, and 14 where the buffer is shorter than the text
abbrev pub unwritten_number : Unwritten → ℕ
unwritten_number (BadGrid refusal) = number_of refusal
unwritten_number NoRoom = 14

-- the index of the first bad cell
abbrev pub unwritten_index : Unwritten → ℕ
unwritten_index (BadGrid refusal) = index_of refusal
unwritten_index NoRoom = 0

-- number, index, length, and every byte of the buffer
abbrev pub writing_says : Result ℕ Unwritten → List ℕ → writer.Writing
writing_says (Ok length) buffer = record { number = 0; index = 0; length = length; buffer = buffer }
writing_says (Err unwritten) buffer = record { number = unwritten_number unwritten; index = unwritten_index unwritten; length = 0; buffer = buffer }
