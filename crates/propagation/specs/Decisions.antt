-- Decisions made one after another on a board, by any caller: what they keep and what they lose. A decision stands from its accepted call
-- until it is undone, also where it only set the flag. Said of any board that the decisions start from, so that it serves both the
-- preparing of the holes (Preparing.antt) and what callers decide after it (Standing.antt).
use Rattle.std.specs.Prelude.{◌≡◌, refl, Bool, false}
use Rattle.std.proofs.Common.{◌∙◌, ap, ⊎_elim}
use mathlib.Core.List.Memᴰ
use mathlib.Core.List.{List, [], ◌∷◌, Memᴰ}
use Rattle.rules.specs.Grid.{Edge, Grid, OnBoard}
use Rattle.rules.specs.Drawing.{Drawing, drawn}
use Rattle.model.specs.Board.{is_undecided, State, line_or_none, decide, enough}
use Rattle.propagation.specs.Undecided.{DecidedStay}
use Rattle.propagation.specs.Edges.{line_or_none_decided}
use Rattle.propagation.specs.Objects.{AllHold}
use Rattle.propagation.specs.Items.{Onward}
use Rattle.propagation.specs.Kept.{calls_keep}
use Rattle.propagation.specs.Squares.{geometry}
use Rattle.rules.specs.ProperGrid.{Proper}

-- an edge, and whether it was decided to be a line
abbrev pub Decision : Type 0
Decision = Edge × Bool

-- THE STATE AFTER DECISIONS, the last one first, from a state on
pub data After (g : Grid) (start : State) : State → List Decision → Type 0 where
  none_yet : After g start start []
  one_more : {S : State} {decisions : List Decision} (e : Edge) (way : Bool) → OnBoard g e → After g start S decisions
      → After g start (decide g (enough g) e (line_or_none way) S) ((e, way) ∷ decisions)

-- a drawing agrees with decisions: a line where a line was decided, none where none was
abbrev pub AgreesWith : Drawing → List Decision → Type 0
AgreesWith D decisions = (d : Decision) → Memᴰ d decisions → drawn D d.0 ≡ d.1

module _ (g : Grid) (proper : Proper g) where
  -- ONE DECISION: what held before holds after, if the flag is clear
  decision_onward : (S : State) (e : Edge) (way : Bool) → Onward g S (decide g (enough g) e (line_or_none way) S)
  decision_onward S e way = (calls_keep g (geometry g proper.wide) (enough g)).decide_onward e (line_or_none way) S (line_or_none_decided way)

  module _ {start : State} where
    -- A clear flag was clear all along, and what was decided stays
    pub was_clear : {S : State} {decisions : List Decision} → After g start S decisions → S.flag ≡ false → start.flag ≡ false
    was_clear none_yet clear = clear
    was_clear (one_more {S = S} e way on before) clear = was_clear before ((decision_onward S e way).was_clear clear)

    pub decided_stay : {S : State} {decisions : List Decision} → After g start S decisions → DecidedStay start S
    decided_stay none_yet x h = refl
    decided_stay (one_more {S = S} e way on before) x h =
        let earlier = decided_stay before x h in (decision_onward S e way).decided_stay x (ap is_undecided earlier ∙ h) ∙ earlier

    -- EACH DECISION is there, if the flag is clear
    pub decisions_there : {S : State} {decisions : List Decision} → After g start S decisions → S.flag ≡ false
        → (d : Decision) → Memᴰ d decisions → S.edge d.0 ≡ line_or_none d.1
    decisions_there none_yet clear d m = elim m [ ]
    decisions_there (one_more {S = S} e way on before) clear d m =
        let o = decision_onward S e way in
        ⊎_elim
        (λ same. rw same ((calls_keep g (geometry g proper.wide) (enough g)).decide_sets e (line_or_none way) S (line_or_none_decided way) clear))
        (λ k. let there = decisions_there before (o.was_clear clear) d k in
        o.decided_stay d.0 (ap is_undecided there ∙ line_or_none_decided d.1) ∙ there)
        (Memᴰ.cases_cons m)

    -- AT REST: where the start is, with a clear flag, so is what comes after it
    pub rests_after : {S : State} {decisions : List Decision} → (start.flag ≡ false → AllHold g start) → After g start S decisions → S.flag ≡ false → AllHold g S
    rests_after rests none_yet clear = rests clear
    rests_after rests (one_more {S = S} e way on before) clear =
        let o = decision_onward S e way in
        let earlier = rests_after rests before (o.was_clear clear) in
        λ object. o.still_holds clear object (earlier object)
