-- What the answer of a pad says, as the model has it. Assumes nothing.
use Rattle.std.specs.Prelude.{ℤ, Result, Ok, Err}
use Rattle.model.specs.Packed.{PackedPad, cell, refused}
use Rattle.gridfile.specs.declared.Fault.{Fault}
use Rattle.gridfile.specs.Fields.{fault_number}

abbrev pub pad_says : Result ℤ Fault → PackedPad
pad_says (Ok z) = cell z
pad_says (Err fault) = refused (fault_number fault)
