-- `Marks::push` meets its contract: the mark is put behind those that stand. Assumes nothing.
use Rattle.std.specs.Prelude.{◌≡◌, length}
use Rattle.std.proofs.Common.{rules, arith}
use Rattle.board.specs.Standing.{as_many, one_more_mark}
use Rattle.board.proofs.marks.Marks.push.Goals as goal

pub bounds-self-self : goal.bounds-self-self
bounds-self-self c = omega (arith, c.requires, as_many c.args.self.now.marks c.args.self.now.standing)

pub invariant_of-self : goal.invariant_of-self
invariant_of-self c = record { few = omega (arith, c.requires, as_many c.args.self.now.marks c.args.self.now.standing) }

pub returns : goal.returns
returns c =
    let long : length c.args.self.now.marks ≡ 256 = search rules in
    one_more_mark _ _ _ (omega (arith, c.requires, as_many c.args.self.now.marks c.args.self.now.standing))
