-- `routes_to::list_file` lends a buffer of the length that is asked for: by the law of its length, since a list of so many bytes is too long to be counted.
-- Assumes nothing.
use Prim.Native.Nat.{ℕ}
use mathlib.Core.Path.{sym}
use lib.ListN.{length-replicate}
use Rattle.routes_to.proofs.list_file.Goals as goal

pub slice_bounds-print_list-end : goal.slice_bounds-print_list-end
slice_bounds-print_list-end c = sym (length-replicate {0} {A = ℕ} 3936256 0)

pub print_list-requires : goal.print_list-requires
print_list-requires c = (c.requires, length-replicate {0} {A = ℕ} 3936256 0)
