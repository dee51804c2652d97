-- Laws of one step of the walk: a code that is not tried, that is spent or that goes on; a drawing that is full; and the four codes of a pad. They
-- rest on GivenLaws.antt, and on runs' laws of progress and of four turns.
use Prim.Native.Nat.{ℕ, suc, ◌+◌, ◌-◌, ◌%◌, ◌/◌, ◌≤◌, ◌<◌}
use Rattle.std.specs.Prelude.{◌≡◌, Bool, true, false, List, eqb}
use Rattle.std.proofs.Math.Path.{refl, sym, ap}
use Rattle.std.proofs.Common.{◌∙◌, lt-ltb, le-ltb, eq-eqb, ne_eqb}
use native.Mathlib.Omega.{arith}
use Rattle.std.proofs.Math.ListN.{length}
use Rattle.rules.specs.Grid.{right, down, Grid, pads, places}
use Rattle.rules.specs.Drawing.{Drawing}
use Rattle.model.specs.Runs.{Event}
use Rattle.model.specs.Walk.{with_code, may_give, tested, give, walk_on}
use Rattle.runs.specs.Progress.{Progress, advance, entered, stopped, goes_on}
use Rattle.runs.specs.Layouts.{progress}
use Rattle.runs.specs.Turns.{turns_left, four_turns, one_turn}
use Rattle.walking.specs.Given.{Shows, put_edge, tested_record}
use Rattle.walking.specs.GivenLaws.{code_shown, before_shown, all_shown, put_length}
use Rattle.walking.specs.Walked.{from_next, Gave, WalkedOn, codes_left, Going}

module _ (g : Grid) (wide : 2 ≤ g.width) (limit v : ℕ) (bytes : List ℕ) (P : Progress) (inside : P.used ≤ length P.buffer) where
  abbrev size : ℕ
  size = places g.height g.width

  -- ## One code
  module _ (r d : Bool) where
    abbrev events : Drawing → List Event
    events D = give g (from_next g v) v D r d

    -- with a line off the board it is not tried
    pub not_tried : may_give g v r d ≡ false → Gave g limit v r d bytes P bytes P
    unfolding give advance
    not_tried off = record { advanced = λ D shows. (rw (off, give) refl); still_shown = λ D shows. shows; same_size = refl; inside = inside; same_length = refl }

    module _ (on : may_give g v r d ≡ true) where
      -- it would pass the limit
      pub spent : limit ≤ P.visited → Gave g limit v r d bytes P bytes (stopped 1 P)
      unfolding give advance
      spent over = record {
        advanced = λ D shows. (rw (on, give) (rw (le-ltb P.visited limit over, advance) refl));
        still_shown = λ D shows. shows;
        same_size = refl;
        inside = inside;
        same_length = refl;
      }

      -- it is counted and written, and the walk goes on behind the pad
      pub went_on : P.visited < limit → (right_put down_put bytes' : List ℕ) (P' : Progress)
          → right_put ≡ put_edge g (right v) r bytes → down_put ≡ put_edge g (down v) d right_put
          → WalkedOn g limit (v + 1) down_put (entered P) bytes' P' → Gave g limit v r d bytes P bytes' P'
      unfolding give advance
      went_on below right_put down_put bytes' P' one two walked = record {
        advanced = λ D shows. walked.advanced (with_code D v r d) (now_shown D shows) ∙ sym (rw (on, give) (rw (lt-ltb P.visited limit below, advance) refl));
        still_shown = λ D shows. before_shown g wide D v r d bytes' (walked.still_shown (with_code D v r d) (now_shown D shows));
        same_size = walked.same_size ∙ ap length written ∙ put_length g (down v) d (put_edge g (right v) r bytes) ∙ put_length g (right v) r bytes;
        inside = walked.inside;
        same_length = walked.same_length;
      }
        where
          written : down_put ≡ put_edge g (down v) d (put_edge g (right v) r bytes)
          written = two ∙ ap (put_edge g (down v) d) one

          now_shown : (D : Drawing) → Shows g D v bytes → Shows g (with_code D v r d) (v + 1) down_put
          now_shown D shows = rw written (code_shown g wide D v r d bytes shows)

  -- ## A full drawing
  pub all_given : v ≡ pads g → (P' : Progress) → P' ≡ advance limit size P (tested_record g bytes) → P'.used ≤ length P'.buffer → length P'.buffer ≡ length P.buffer
      → WalkedOn g limit v bytes P bytes P'
  unfolding walk_on tested tested_record
  all_given last P' says inside' same = record {
    advanced = λ D shows. says ∙ ap (λ l. advance limit size P (tested_record g l)) (all_shown g wide D bytes (rw last at shows)) ∙ ap (advance limit size P) (at_the_end D);
    still_shown = λ D shows. shows;
    same_size = refl;
    inside = inside';
    same_length = same;
  }
    where
      at_the_end : (D : Drawing) → tested g D ≡ walk_on g (pads g - v) v D
      at_the_end D = let none : pads g - v ≡ 0 = omega arith in rw none refl

  -- ## The four codes of a pad
  module _ (low : v < pads g) (clear : P.outcome ≡ 0) where
    abbrev turn : Drawing → ℕ → List Event
    turn D k = give g (from_next g v) v D (eqb (k % 2) 1) (eqb (k / 2) 1)

    four : (D : Drawing) → walk_on g (pads g - v) v D ≡ codes_left g v D 4 0
    unfolding walk_on
    four D = let next : pads g - v ≡ suc (pads g - (v + 1)) = omega arith in (rw next refl) ∙ four_turns (turn D)

    pub begun : Going g limit v 4 0 bytes P bytes P
    begun = record { so_far = λ D shows. refl; still_shown = λ D shows. shows; same_size = refl; inside = inside; same_length = refl; clear = clear }

    -- the loop over m is over
    pub loop_over : (m : ℕ) → m ≤ 4 → 4 ≤ m → (bytes' : List ℕ) (Q : Progress) → Going g limit v (4 - m) m bytes P bytes' Q → WalkedOn g limit v bytes P bytes' Q
    unfolding advance turns_left
    loop_over m small large bytes' Q going = let all : m ≡ 4 = omega arith in let over = rw all at going in record {
      advanced = λ D shows. sym (ap (advance limit size P) (four D) ∙ over.so_far D shows);
      still_shown = over.still_shown;
      same_size = over.same_size;
      inside = over.inside;
      same_length = over.same_length;
    }

    -- one turn of it
    module _ (m : ℕ) (less : m < 4) (bytes₁ bytes₂ : List ℕ) (Q : Progress) (o tried layouts fewest_lines : ℕ) (buffer : List ℕ)
        (gave : Gave g limit v (eqb (m % 2) 1) (eqb (m / 2) 1) bytes₁ Q bytes₂ (progress size o tried layouts fewest_lines buffer))
        (going : Going g limit v (4 - m) m bytes P bytes₁ Q) where
      abbrev Q' : Progress
      Q' = progress size o tried layouts fewest_lines buffer

      joined : (D : Drawing) → Shows g D v bytes → advance limit size P (codes_left g v D 4 0) ≡ goes_on limit size (codes_left g v D (4 - (m + 1)) (m + 1)) Q'
      joined D shows = one_turn limit size (turn D) m less P Q Q' going.clear (going.so_far D shows) (gave.advanced D (going.still_shown D shows))

      -- an outcome ends it
      pub stops_at : (o ≡ 0 → ⊥) → WalkedOn g limit v bytes P bytes₂ Q'
      unfolding goes_on
      stops_at stop = record {
        advanced = λ D shows. sym (ap (advance limit size P) (four D) ∙ joined D shows ∙ (rw (ne_eqb o 0 stop, goes_on) refl));
        still_shown = λ D shows. gave.still_shown D (going.still_shown D shows);
        same_size = gave.same_size ∙ going.same_size;
        inside = gave.inside;
        same_length = gave.same_length ∙ going.same_length;
      }

      -- with none the next code is tried
      pub next_one : o ≡ 0 → Going g limit v (4 - (m + 1)) (m + 1) bytes P bytes₂ (progress size 0 tried layouts fewest_lines buffer)
      unfolding goes_on
      next_one go = record {
        so_far = λ D shows. joined D shows
            ∙ (rw (eq-eqb o 0 go, goes_on) (ap (λ (k : ℕ). advance limit size (progress size k tried layouts fewest_lines buffer) (codes_left g v D (4 - (m + 1)) (m + 1))) go));
        still_shown = λ D shows. gave.still_shown D (going.still_shown D shows);
        same_size = gave.same_size ∙ going.same_size;
        inside = gave.inside;
        same_length = gave.same_length ∙ going.same_length;
        clear = refl;
      }
