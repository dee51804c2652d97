-- The search lists exactly the listed drawings that agree with the board it stands on: in the last row the board itself, above it what the
-- four branches list, one after the other, which ascends because the pads before are decided alike and m rises. From the fresh board, with
-- which every listed drawing agrees, these are all of them; where its flag is set, there are none.
use Prim.Native.Nat.{ℕ, zero, suc, ◌+◌, ◌≤◌, ◌<◌}
use Rattle.std.specs.Prelude.{◌≡◌, Bool, List, [], ◌∷◌, ◌++◌}
use Rattle.std.proofs.Math.Path.{refl, subst}
use Rattle.std.proofs.Common.{sym, ◌∙◌, ap, arith, mul-le-mul_right}
use Rattle.std.proofs.Math.Logic.{⊎_elim}
use Rattle.std.proofs.Math.Bool.{true, false}
use mathlib.Core.List.Memᴰ
use Rattle.rules.specs.Grid.{Edge, Grid, pads, OnBoard, right, down}
use Rattle.rules.specs.Drawing.{Drawing, drawn}
use Rattle.rules.specs.Record.{byte_of, record_of, Ascending}
use Rattle.rules.proofs.RecordLaws.{field_same}
use Rattle.rules.specs.Tests.{conflict}
use Rattle.rules.specs.Places.{first_inside}
use Rattle.model.specs.PadTests.{has_down}
use Rattle.model.specs.Board.{EdgeState, is_line, is_undecided, State, fresh, undecided, line, none}
use Rattle.model.specs.Calls.{state_byte}
use Rattle.model.specs.Runs.{Event, visit, layout}
use Rattle.model.specs.Search.{board_record, next_pad, backtrack, search}
use Rattle.model.specs.SearchStart.{flagged_search, clear_search}
use Rattle.propagation.specs.Edges.{drawing}
use Rattle.propagation.specs.Agreement.{Agrees}
use Rattle.rules.specs.ProperGrid.{Proper}
use Rattle.propagation.specs.Preparing.{fresh_rests, fresh_shuts_holes}
use Rattle.propagation.proofs.Preparing.{agrees_with_fresh}
use Rattle.runs.specs.Events.{layouts_of}
use Rattle.runs.specs.Branches.{Lists, lists_none, lists_counted, four_branches}
use Rattle.exact.specs.Passed.{Passed, passed_edge, pass_last_row}
use Rattle.exact.specs.WholeBoard.{whole_listed}
use Rattle.exact.specs.NextPad.{StandsAt, NextFrom, rest_at, same_code, next_from}
use Rattle.exact.specs.Branch.{ListsBranch, branch_lists}

-- the board's own drawing agrees with it
agrees_itself : (S : State) → Agrees (drawing S) S
unfolding drawing
agrees_itself S = record { where_line = lined; where_none = bare }
  where
    lined : (e : Edge) → S.edge e ≡ line → drawn (drawing S) e ≡ true
    lined (right v) h = ap is_line h
    lined (down v) h = ap is_line h

    bare : (e : Edge) → S.edge e ≡ none → drawn (drawing S) e ≡ false
    bare (right v) h = ap is_line h
    bare (down v) h = ap is_line h

module _ (g : Grid) (proper : Proper g) where
  abbrev wide : 2 ≤ g.width
  wide = proper.wide

  -- IN THE LAST ROW every edge is decided, so the board's record is that of each drawing that agrees
  whole_record : (S : State) (D : Drawing) → Agrees D S → Passed g wide S (pads g) → board_record g S ≡ record_of g D
  unfolding board_record record_of
  whole_record S D a passed = field_same g wide (λ e. state_byte (S.edge e)) (λ e. byte_of (drawn D e)) at
    where
      at : (e : Edge) → OnBoard g e → state_byte (S.edge e) ≡ byte_of (drawn D e)
      at e on = go (S.edge e) refl
        where
          go : (m : EdgeState) → S.edge e ≡ m → state_byte (S.edge e) ≡ byte_of (drawn D e)
          go line h = rw (h, a.where_line e h)
          go none h = rw (h, a.where_none e h)
          go undecided h = conflict {b = is_undecided (S.edge e)} (ap is_undecided h) (passed_edge g wide S (pads g) passed e (first_inside g e on) on)

  last_row_lists : (S : State) (v : ℕ) → StandsAt g proper S v → has_down g v ≡ false → Lists g (λ D. Agrees D S) (visit ∷ layout (board_record g S) ∷ [])
  unfolding layouts_of
  last_row_lists S v at last = record {
    truly = λ c m. (
      drawing S,
      whole_listed g wide S proper.blank_past at.holds at.holes_shut whole,
      agrees_itself S,
      ⊎_elim (λ e. e ∙ whole_record S (drawing S) (agrees_itself S) whole) (λ n. absurd (Memᴰ.not-nil n)) (Memᴰ.cases_cons m),
    );
    wholly = λ D listed a. Memᴰ.head (sym (whole_record S D a whole));
    ascending = unfold Ascending in ((λ y m. absurd (Memᴰ.not-nil m)), tt);
  }
    where
      whole : Passed g wide S (pads g)
      whole = pass_last_row g wide S (rest_at g proper S at.holds) v at.inside last at.passed

  -- ABOVE IT the four branches: the drawings that agree with the board have its codes before the pad
  board_branches : (S : State) (v : ℕ) → StandsAt g proper S v → {a b c d : List Event} → ListsBranch g proper S v false false a → ListsBranch g proper S v true false b
      → ListsBranch g proper S v false true c → ListsBranch g proper S v true true d → Lists g (λ D. Agrees D S) (visit ∷ (a ++ (b ++ (c ++ d))))
  board_branches S v at pa pb pc pd = lists_counted g _ _ (four_branches g wide (λ D. Agrees D S) v at.inside
      (λ D E placed also_placed agrees also_agrees u l. same_code g proper D placed S agrees v at.passed u l ∙ sym (same_code g proper E also_placed S also_agrees v at.passed u l))
      pa pb pc pd)

  -- THE RECURSION: each entry is at a later pad
  backtrack_lists : (n v : ℕ) (S : State) → StandsAt g proper S v → pads g ≤ v + n → Lists g (λ D. Agrees D S) (backtrack g n v S)
  unfolding backtrack
  backtrack_lists zero v S at bound = let k = at.inside in absurd (omega arith)
  backtrack_lists (suc n) v S at bound = go (has_down g v) refl (λ w T l j. backtrack_lists n w T j (omega arith))
    where
      go : (b : Bool) → has_down g v ≡ b → ((w : ℕ) (T : State) → v < w → StandsAt g proper T w → Lists g (λ D. Agrees D T) (backtrack g n w T)) → Lists g (λ D. Agrees D S) (backtrack g (suc n) v S)
      go false d deeper = rw (d, backtrack) (last_row_lists S v at d)
      go true d deeper = rw (d, backtrack) (board_branches S v at
          (branch_lists g proper S v at d false false (λ u T. backtrack g n u T) deeper) (branch_lists g proper S v at d true false (λ u T. backtrack g n u T) deeper)
          (branch_lists g proper S v at d false true (λ u T. backtrack g n u T) deeper) (branch_lists g proper S v at d true true (λ u T. backtrack g n u T) deeper))

  -- THE SEARCH BEGINS at the first pad of the fresh board with its right edge undecided, or in the last row: before it all is decided
  first_from : (fresh g).flag ≡ false → NextFrom g proper (fresh g) 0 (next_pad g (pads g) 0 (fresh g))
  first_from clear = next_from g proper (pads g) (fresh g) 0 (fresh_rests g proper clear)
      (record { right = λ u l. absurd (omega arith); down = λ u l. absurd (omega arith) })
      (let k = mul-le-mul_right g.width proper.tall in let w = proper.wide in omega arith) (omega arith)

  stands_first : (fresh g).flag ≡ false → StandsAt g proper (fresh g) (next_pad g (pads g) 0 (fresh g))
  stands_first clear = let p = first_from clear in record {
    clear = clear;
    holds = fresh_rests g proper clear;
    holes_shut = fresh_shuts_holes g proper clear;
    passed = p.passed;
    inside = p.inside;
    right_there = p.right_there;
  }

  -- where preparing has set the flag there is nothing to list
  none_to_list : (fresh g).flag ≡ true → Lists g (λ D. Agrees D (fresh g)) []
  none_to_list set = lists_none g _ (λ D listed a. conflict set (agrees_with_fresh g proper D listed).0)

  pub search_lists : Lists g (λ D. Agrees D (fresh g)) (search g)
  unfolding search
  search_lists = go (fresh g).flag refl
    where
      go : (b : Bool) → (fresh g).flag ≡ b → Lists g (λ D. Agrees D (fresh g)) (search g)
      go true h = subst (Lists g (λ D. Agrees D (fresh g))) (sym (flagged_search g (fresh g) h)) (none_to_list h)
      go false h = subst (Lists g (λ D. Agrees D (fresh g))) (sym (clear_search g (fresh g) h)) (backtrack_lists (pads g) (next_pad g (pads g) 0 (fresh g)) (fresh g) (stands_first h) (omega arith))
