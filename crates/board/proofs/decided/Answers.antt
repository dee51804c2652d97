-- `board::decided` meets its contract: what the decision promises of the arrays is what the model says of the board. Assumes nothing.
use Rattle.std.proofs.Common.{ap, ◌∙◌}
use Rattle.rules.specs.Drawing.{num}
use Rattle.board.specs.PlaceLaws.{decidable, edge_is}
use Rattle.board.specs.Held.{ready_held}
use Rattle.board.specs.DecisionLaws.{decided_says, decided_held}
use Rattle.board.proofs.decided.Goals as goal

pub decide-requires : goal.decide-requires
decide-requires c = let ready = ready_held c.args.board in let there = decidable _ ready.few_pads c.args.pads c.requires in (there.0, ready, there.1)

pub returns : goal.returns
returns c = λ B held. decided_says c.args.board B held _ _ _ (rw edge_is at c.decide.ensures) _ (c.from-answer.ensures ∙ ap num c.is_flagged.ensures)

pub invariant_of-result : goal.invariant_of-result
invariant_of-result c = record { held = decided_held c.args.board _ _ _ (rw edge_is at c.decide.ensures) }
