-- A listed drawing that agrees with a clear state and with the decisions after it is not lost: it agrees with what comes of them.
use Rattle.std.specs.Prelude.{◌≡◌, refl, Bool, false}
use Rattle.std.proofs.Common.{◌∙◌, arith}
use mathlib.Core.List.{List, Memᴰ}
use Rattle.rules.specs.Grid.{Edge, Grid, OnBoard}
use Rattle.rules.specs.Drawing.{Drawing, drawn, Listed}
use Rattle.model.specs.Board.{State, line_or_none, decide, enough}
use Rattle.model.specs.BoardLaws.{on_board_test}
use Rattle.propagation.specs.Undecided.{enough_is_more}
use Rattle.propagation.specs.Edges.{line_or_none_decided, is_way}
use Rattle.propagation.specs.Objects.{AllHold}
use Rattle.propagation.specs.BoardAtRest.{ends_say}
use Rattle.propagation.specs.Agreement.{Agrees}
use Rattle.rules.specs.ProperGrid.{Proper}
use Rattle.propagation.proofs.Sound.{sound}
use Rattle.propagation.specs.Decisions.{Decision, After, none_yet, one_more, AgreesWith, rests_after}

module _ (g : Grid) (proper : Proper g) where
  -- SOUND, one decision: a drawing that agrees with a clear board and with the decision agrees with the result, whose flag is clear
  pub one_decision_sound : (D : Drawing) → Listed g D → (S : State) → AllHold g S → S.flag ≡ false → Agrees D S
      → (e : Edge) (way : Bool) → OnBoard g e → drawn D e ≡ way
      → ((decide g (enough g) e (line_or_none way) S).flag ≡ false) × Agrees D (decide g (enough g) e (line_or_none way) S)
  one_decision_sound D listed S holds clear agrees e way on same =
      let fit = (sound g proper.wide D listed (enough g)).0 e (line_or_none way) S
      (on_board_test g e on) (line_or_none_decided way) (same ∙ is_way way)
      (record { clear = clear; agrees = agrees; ends_say = ends_say g proper.wide S holds }) (let k = enough_is_more g S in omega arith) in
      (fit.clear, fit.agrees)

  module _ {start : State} where
    -- SOUND: a listed drawing that agrees with a clear start and with the decisions agrees with what comes after them, whose flag is clear
    pub sound_after : {S : State} {decisions : List Decision} → (start.flag ≡ false → AllHold g start) → After g start S decisions
        → (D : Drawing) → Listed g D → (start.flag ≡ false) × Agrees D start → AgreesWith D decisions → (S.flag ≡ false) × Agrees D S
    sound_after rests none_yet D listed agreed agrees = agreed
    sound_after rests (one_more {S = S} e way on before) D listed agreed agrees =
        let (clear, so_far) = sound_after rests before D listed agreed (λ d m. agrees d (Memᴰ.tail m)) in
        one_decision_sound D listed S (rests_after g proper rests before clear) clear so_far e way on (agrees (e, way) (Memᴰ.head refl))
