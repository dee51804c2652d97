-- `boardparts::join_ends` meets its contract.
use Rattle.boardview.specs.Signed.{end_copied}
use Rattle.boardview.specs.View.{joined}
use mathlib.Core.Path.{refl, ◌∙◌}
use Rattle.boardparts.proofs.join_ends.Goals as goal

pub returns : goal.returns
unfolding joined
returns c = c.put_number-2.ensures ∙ rw (
  c.put_number.ensures,
  c.end_at-first_end.ensures,
  c.end_at-second_end.ensures,
  end_copied c.args.ends.now c.args.v c.requires.0 c.told-ends (record { sfits = c.a-1.given }),
  end_copied c.args.ends.now c.args.q c.requires.1 c.told-ends (record { sfits = c.b-1.given }),
) refl
