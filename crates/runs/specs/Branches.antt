-- WHAT A LIST OF EVENTS LISTS: the listed drawings of a kind, as records and ascending by codes. The kind is what an engine knows of the drawings
-- that it is after: for the search that they agree with a board, for the walk that they agree with a drawing at the pads before. Four lists of
-- events, one for each code of a pad, one after the other list all of the kind, where the drawings of the kind have the same codes before that pad.
-- It rests on Events.antt and on the rules' laws, and knows nothing of boards.
use Rattle.std.specs.Prelude.{ℕ, zero, suc, ◌+◌, ◌*◌, ◌≤◌, ◌<◌, ◌≡◌, refl, Bool, true, false}
use Rattle.std.proofs.Common.{◌∙◌, ap, ⊎_elim, arith}
use mathlib.Core.List.Memᴰ
use mathlib.Core.List.{List, [], ◌∷◌, ◌++◌, Memᴰ, map}
use Rattle.std.proofs.Math.Decide.{ℕ_discrete}
use Rattle.rules.specs.Grid.{Grid, pads}
use Rattle.rules.specs.Drawing.{Drawing, num, Placed, Listed}
use Rattle.rules.specs.Record.{tabulate, record_of, pad_code, codes, Before, Ascending, lower, later}
use Rattle.model.specs.Runs.{Event, visit}
use Rattle.runs.specs.Events.{layouts_of, layouts_append, shown_codes, codes_shown, ascending_append}

-- A LIST OF EVENTS LISTS the listed drawings of a kind, as records and ascending
pub record Lists (g : Grid) (Kind : Drawing → Type 0) (events : List Event) : Type 1 where
  pub truly : (bytes : List ℕ) → Memᴰ bytes (layouts_of events) → (D : Drawing) × Listed g D × Kind D × (bytes ≡ record_of g D)
  pub wholly : (D : Drawing) → Listed g D → Kind D → Memᴰ (record_of g D) (layouts_of events)
  pub ascending : Ascending (map (shown_codes g) (layouts_of events))

-- those of the kind that have r to the right and d downward at pad v
abbrev pub Coded : (Drawing → Type 0) → ℕ → Bool → Bool → Drawing → Type 0
Coded Kind v r d D = Kind D × (D.right v ≡ r) × (D.down v ≡ d)

module _ (g : Grid) where
  -- of a kind that no listed drawing is of, nothing is to be listed
  pub lists_none : (Kind : Drawing → Type 0) → ((D : Drawing) → Listed g D → Kind D → ⊥) → Lists g Kind []
  unfolding layouts_of Ascending
  lists_none Kind none = record { truly = λ bytes m. absurd (Memᴰ.not-nil m); wholly = λ D listed k. absurd (none D listed k); ascending = tt }

  -- two kinds that have the same listed drawings are listed alike
  pub lists_alike : (Kind Other : Drawing → Type 0) (events : List Event) → ((D : Drawing) → Listed g D → Kind D → Other D) → ((D : Drawing) → Listed g D → Other D → Kind D)
      → Lists g Kind events → Lists g Other events
  lists_alike Kind Other events into back found = record {
    truly = λ bytes m. let (D, listed, k, e) = found.truly bytes m in (D, listed, into D listed k, e);
    wholly = λ D listed k. found.wholly D listed (back D listed k);
    ascending = found.ascending;
  }

  -- what is counted is no layout
  pub lists_counted : (Kind : Drawing → Type 0) (events : List Event) → Lists g Kind events → Lists g Kind (visit ∷ events)
  unfolding layouts_of
  lists_counted Kind events found = record { truly = found.truly; wholly = found.wholly; ascending = found.ascending }

-- two drawings alike before w, and the first with the lower code at w
pub codes_before : (D E : Drawing) (v n w : ℕ) → v ≤ w → w < v + n → ((u : ℕ) → u < w → pad_code D u ≡ pad_code E u) → pad_code D w < pad_code E w
    → Before (tabulate (pad_code D) v n) (tabulate (pad_code E) v n)
unfolding tabulate
codes_before D E v zero w a b h k = absurd (omega arith)
codes_before D E v (suc n) w a b h k = elim (ℕ_discrete v w) [
  | yes e ↦ (let q : pad_code D v < pad_code E v = rw e k in lower q)
  | no ne ↦ rw (h v (omega arith)) (later (codes_before D E (v + 1) n w (omega arith) (omega arith) h k))
]

-- THE FOUR CODES OF PAD v, where the drawings of the kind are alike before it
module _ (g : Grid) (wide : 2 ≤ g.width) (Kind : Drawing → Type 0) (v : ℕ) (inside : v < pads g)
    (alike_before : (D E : Drawing) → Placed g D → Placed g E → Kind D → Kind E → (u : ℕ) → u < v → pad_code D u ≡ pad_code E u) where
  abbrev Branch : Bool → Bool → List Event → Type 1
  Branch r d events = Lists g (Coded Kind v r d) events

  -- what a branch lists comes before what a branch of higher code lists
  branch_before : {r d r' d' : Bool} {x y : List Event} → Branch r d x → Branch r' d' y → num r + 2 * num d < num r' + 2 * num d'
      → (a b : List ℕ) → Memᴰ a (layouts_of x) → Memᴰ b (layouts_of y) → Before (shown_codes g a) (shown_codes g b)
  branch_before p q h a b m n =
      let (D, listed, (k, er, ed), e) = p.truly a m in
      let (E, also_listed, (l, fr, fd), f) = q.truly b n in
      rw (e, f, codes_shown g wide D listed.ordinary.placed, codes_shown g wide E also_listed.ordinary.placed)
      (unfold codes in (codes_before D E 0 (pads g) v (omega arith) (omega arith) (alike_before D E listed.ordinary.placed also_listed.ordinary.placed k l) (rw (er, ed, fr, fd) h)))

  pub four_branches : {a b c d : List Event} → Branch false false a → Branch true false b → Branch false true c → Branch true true d → Lists g Kind (a ++ (b ++ (c ++ d)))
  four_branches {a} {b} {c} {d} pa pb pc pd = record {
    truly = λ x m. ⊎_elim (from pa x) (λ m. ⊎_elim (from pb x) (λ m. ⊎_elim (from pc x) (from pd x)
        (Memᴰ.append_cases rc m)) (Memᴰ.append_cases rb m)) (Memᴰ.append_cases ra (rw all at m));
    wholly = λ D listed k. rw all (in_branch D listed k (D.right v) (D.down v) refl refl);
    ascending = rw all (ascending_append (shown_codes g) ra (rb ++ (rc ++ rd)) pa.ascending
        (ascending_append (shown_codes g) rb (rc ++ rd) pb.ascending
        (ascending_append (shown_codes g) rc rd pc.ascending pd.ascending (branch_before pc pd (omega arith)))
        (λ x y m n. ⊎_elim (branch_before pb pc (omega arith) x y m) (branch_before pb pd (omega arith) x y m) (Memᴰ.append_cases rc n)))
        (λ x y m n. ⊎_elim (branch_before pa pb (omega arith) x y m)
        (λ n. ⊎_elim (branch_before pa pc (omega arith) x y m) (branch_before pa pd (omega arith) x y m) (Memᴰ.append_cases rc n)) (Memᴰ.append_cases rb n)));
  }
    where
      ra : List (List ℕ)
      ra = layouts_of a

      rb : List (List ℕ)
      rb = layouts_of b

      rc : List (List ℕ)
      rc = layouts_of c

      rd : List (List ℕ)
      rd = layouts_of d

      all : layouts_of (a ++ (b ++ (c ++ d))) ≡ ra ++ (rb ++ (rc ++ rd))
      all = layouts_append a (b ++ (c ++ d)) ∙ ap (λ x. ra ++ x) (layouts_append b (c ++ d) ∙ ap (λ x. rb ++ x) (layouts_append c d))

      from : {r e : Bool} {l : List Event} → Branch r e l → (x : List ℕ) → Memᴰ x (layouts_of l) → (D : Drawing) × Listed g D × Kind D × (x ≡ record_of g D)
      from p x m = let (D, listed, (k, er, ed), e) = p.truly x m in (D, listed, k, e)

      in_branch : (D : Drawing) → Listed g D → Kind D → (r e : Bool) → D.right v ≡ r → D.down v ≡ e → Memᴰ (record_of g D) (ra ++ (rb ++ (rc ++ rd)))
      in_branch D listed k false false p q = Memᴰ.append_left _ (pa.wholly D listed (k, p, q))
      in_branch D listed k true false p q = Memᴰ.append_right ra (Memᴰ.append_left _ (pb.wholly D listed (k, p, q)))
      in_branch D listed k false true p q = Memᴰ.append_right ra (Memᴰ.append_right rb (Memᴰ.append_left _ (pc.wholly D listed (k, p, q))))
      in_branch D listed k true true p q = Memᴰ.append_right ra (Memᴰ.append_right rb (Memᴰ.append_right rc (pd.wholly D listed (k, p, q))))
