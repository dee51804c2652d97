-- THE TEST OF THE RULES IS THE RULES: a record passes exactly where it is that of an ordinary drawing, and with the listed shape exactly
-- where it is that of a listed one. It rests on Following.antt, on what finished ends mean (crate `ends`), and on the rules' laws.
use Rattle.std.specs.Prelude.{ℕ, ◌≤◌, ◌<◌, ◌≡◌, ◌⊎◌, ◌↔◌, false, ◌&&◌, List, eqb}
use Rattle.std.proofs.Math.Path.{refl, sym}
use Rattle.std.proofs.Common.{◌∙◌, ap, inl, inr, ⊎_elim, arith, eq-eqb, eqb-true}
use Rattle.std.proofs.Math.Bool.{true}
use Rattle.std.proofs.Math.Decide.{dec_lt, ℕ_discrete}
use Rattle.std.proofs.Math.ListN.{length}
use Rattle.std.proofs.Math.Seq.{ext_get_or}
use Rattle.rules.specs.Grid.{Edge, right, down, Place, edge, no_edge, places, Cell, blank, clue, hole, Grid, pads, OnBoard}
use Rattle.rules.specs.Drawing.{Drawing, drawn, Line, NoLine, TwoLines, Joined, Ordinary, on_left, on_right}
use Rattle.rules.specs.Record.{undecided_byte, byte_of, byte_at_place, field, record_of, drawing_of, OrdinaryRecord, ListedRecord}
use Rattle.rules.specs.Places.{zero≢one, first_inside, second_inside}
use Rattle.rules.specs.Tests.{both, both_on, either, either_on, not_so, all_below, all_below_at, all_below_so}
use Rattle.rules.specs.CheckedListed.{squares_checked, corners_checked}
use Rattle.rules.proofs.CheckedListed.{checked_listed, listed_squares, listed_corners}
use Rattle.rules.specs.Chains.{first_line}
use Rattle.rules.proofs.Chains.{edge_of_line, line_of_edge}
use Rattle.rules.specs.RecordLaws.{get_or_from_zero, length_field}
use Rattle.rules.proofs.RecordLaws.{edge_number_in_field, edge_at_number, number_of_edge, record_shows}
use Rattle.model.specs.JoinedEnds.{End, through, at_pad, at_clue, is_through, is_pad}
use Rattle.model.specs.PadTests.{is_clue}
use Rattle.model.specs.BoardLaws.{clue_is_clue, is_through-true, is_pad-true}
use Rattle.model.specs.Judge.{Followed, wrong, so_far, followed, finished, all_finished, is_ordinary_record, has_listed_shape}
use Rattle.ends.specs.Ends.{Ends, Full, Room, two_lines, one_line, other_room, clue_room}
use Rattle.ends.specs.Refutation.{finished_wired}
use Rattle.rules.specs.ProperGrid.{Proper}
use Rattle.ruletest.specs.Following.{byte, number, place, shown, what_is_shown, it_is_shown, shown_placed, MayHold, Known, known_so_far, its_byte, shown_drawn, GoesOn, never_wrong}

module _ (g : Grid) (proper : Proper g) (bytes : List ℕ) where
  abbrev wide : 2 ≤ g.width
  wide = proper.wide

  abbrev everywhere : ℕ
  everywhere = places g.height g.width

  -- WHAT PASSES IS AN ORDINARY DRAWING'S: the one of all the lines that it shows
  abbrev whole : Drawing
  whole = shown g wide bytes everywhere

  module _ (ends : ℕ → End) (known : Known g wide bytes everywhere ends) (all : all_below (λ v. finished (g.cell v) v (ends v)) (pads g) ≡ true) where
    abbrev Wires : ℕ → ℕ → Type 0
    Wires = Line g.width whole

    -- past the pads there is no line
    none_past : (v : ℕ) → pads g ≤ v → NoLine Wires v
    none_past v past u l =
        let t = edge_of_line g.width whole v u l in
        let on = shown_placed g wide bytes everywhere t.edge t.is in
        ⊎_elim (λ (p, q). omega (arith, first_inside g t.edge on, p)) (λ (p, q). omega (arith, second_inside g t.edge on, p)) t.ends

    alone : (v : ℕ) → is_pad (ends v) v ≡ true → NoLine Wires v
    alone v h = known.ends_say.alone v (is_pad-true (ends v) v h)

    done : (v : ℕ) → (ends v ≡ through) ⊎ ((is_clue (g.cell v) ≡ false) × NoLine Wires v)
    done v = elim (dec_lt v (pads g)) [
      | no past ↦ inr (ap is_clue (proper.blank_past v (omega arith)), none_past v (omega arith))
      | yes inside ↦ go (g.cell v) refl (all_below_at _ (pads g) all v inside)
    ]
      where
        go : (C : Cell) → g.cell v ≡ C → finished C v (ends v) ≡ true → (ends v ≡ through) ⊎ ((is_clue (g.cell v) ≡ false) × NoLine Wires v)
        go blank e h = ⊎_elim (λ k. inl (is_through-true (ends v) k)) (λ k. inr (ap is_clue e, alone v k)) (either (is_through (ends v)) (is_pad (ends v) v) h)
        go (clue c) e h = inl (is_through-true (ends v) h)
        go hole e h = inr (ap is_clue e, alone v h)

    no_line_at_holes : (v : ℕ) → g.cell v ≡ hole → NoLine Wires v
    no_line_at_holes v e = elim (dec_lt v (pads g)) [
      | no past ↦ none_past v (omega arith)
      | yes inside ↦ alone v (sym (ap (λ C. finished C v (ends v)) e) ∙ all_below_at (λ v. finished (g.cell v) v (ends v)) (pads g) all v inside)
    ]

    whole_ordinary : Ordinary g whole
    whole_ordinary = record { placed = shown_placed g wide bytes everywhere; wired = finished_wired known.ends_say done no_line_at_holes }

    -- and its record is the record
    each_byte : (i : ℕ) → i < everywhere → byte g wide bytes i ≡ byte_at_place (λ e. byte_of (drawn whole e)) (place g wide bytes i)
    each_byte i inside = go (place g wide bytes i) refl (known.bytes_fit i inside)
      where
        go : (p : Place) → place g wide bytes i ≡ p → MayHold g wide bytes p (byte g wide bytes i) → byte g wide bytes i ≡ byte_at_place (λ e. byte_of (drawn whole e)) p
        go no_edge is h = h
        go (edge e) is h = ⊎_elim
            (λ line. line ∙ sym (ap byte_of (it_is_shown g wide bytes everywhere e (record { on = its.0; before = omega (arith, its.1); line = ap (byte g wide bytes) its.1 ∙ line }))))
            (λ none. none ∙ sym (ap byte_of (not_so (drawn whole e) (λ k. let s = what_is_shown g wide bytes everywhere e k in omega (arith, sym (ap (byte g wide bytes) its.1) ∙ s.line)))))
            h
          where
            its : OnBoard g e × (number g wide bytes e ≡ i)
            its = number_of_edge g wide i inside e is

    its_record : length bytes ≡ everywhere → bytes ≡ record_of g whole
    unfolding record_of field
    its_record long = ext_get_or undecided_byte bytes (record_of g whole) (long ∙ sym (length_field g.height g.width (λ e. byte_of (drawn whole e))))
        (λ i below. each_byte i (omega (arith, long)) ∙ sym (get_or_from_zero _ everywhere i undecided_byte (omega (arith, long))))

  passed : is_ordinary_record g bytes ≡ true → OrdinaryRecord g bytes
  unfolding is_ordinary_record
  passed h = let (long, all) = both (eqb (length bytes) everywhere) _ h in go (followed g bytes everywhere) refl (eqb-true _ _ long) all
    where
      go : (f : Followed) → followed g bytes everywhere ≡ f → length bytes ≡ everywhere → all_finished g f ≡ true → OrdinaryRecord g bytes
      go wrong k long all = absurd (zero≢one (cc))
      go (so_far ends) k long all = let known = known_so_far g wide bytes everywhere (omega arith) ends k in
          record { drawing = whole; ordinary = whole_ordinary ends known all; shown = its_record ends known all long }

  -- AN ORDINARY DRAWING'S RECORD PASSES
  module _ (D : Drawing) (ordinary : Ordinary g D) (of_drawing : bytes ≡ record_of g D) where
    abbrev goes_on : GoesOn g wide bytes D ordinary of_drawing everywhere
    goes_on = never_wrong g wide bytes D ordinary of_drawing everywhere (omega arith)

    abbrev last_ends : ℕ → End
    last_ends = goes_on.ends

    abbrev WiresSeen : ℕ → ℕ → Type 0
    WiresSeen = Line g.width whole

    say : Ends g.cell WiresSeen last_ends
    say = (known_so_far g wide bytes everywhere (omega arith) last_ends goes_on.so).ends_say

    -- the lines seen are the drawing's lines
    seen : (x y : ℕ) → WiresSeen x y → Line g.width D x y
    seen x y l = let t = edge_of_line g.width whole x y l in
        line_of_edge g.width D x y (record { edge = t.edge; is = shown_drawn g wide bytes D ordinary of_drawing everywhere t.edge t.is; ends = t.ends })

    drawn_seen : (e : Edge) → drawn D e ≡ true → drawn whole e ≡ true
    drawn_seen e h =
        let on = ordinary.placed e h in
        let inside = edge_number_in_field g wide e on in
        it_is_shown g wide bytes everywhere e (record {
          on = on;
          before = inside;
          line = its_byte g wide bytes D ordinary of_drawing (number g wide bytes e) inside
              ∙ ap (byte_at_place (λ x. byte_of (drawn D x))) (edge_at_number g wide e on) ∙ ap byte_of h;
        })

    are_seen : (x y : ℕ) → Line g.width D x y → WiresSeen x y
    are_seen x y l = let t = edge_of_line g.width D x y l in line_of_edge g.width whole x y (record { edge = t.edge; is = drawn_seen t.edge t.is; ends = t.ends })

    -- so every pad is finished
    is_passed : (v : ℕ) → (Room g.cell WiresSeen v → ⊥) → is_through (last_ends v) ≡ true
    is_passed v no_room = go (last_ends v) refl
      where
        go : (A : End) → last_ends v ≡ A → is_through A ≡ true
        go through e = refl
        go (at_pad a) e = absurd (no_room (say.else_room v (λ t. zero≢one (cc))))
        go (at_clue c) e = absurd (no_room (say.else_room v (λ t. zero≢one (cc))))

    is_alone : (v : ℕ) → is_clue (g.cell v) ≡ false → NoLine (Line g.width D) v → is_pad (last_ends v) v ≡ true
    is_alone v no_clue none = go (last_ends v) refl
      where
        full : Full g.cell WiresSeen v → ⊥
        full (two_lines k w) = none w.to (seen v w.to w.line)
        full (one_line c k w) = none w.to (seen v w.to w.line)

        nowhere : (w : ℕ) → Joined WiresSeen v w → w ≡ v
        nowhere w j = elim (ℕ_discrete w v) [ yes k ↦ k | no k ↦ let (y, l) = first_line w k j in absurd (none y (seen v y l)) ]

        go : (A : End) → last_ends v ≡ A → is_pad A v ≡ true
        go through e = absurd (full (say.through_full v e))
        go (at_pad a) e = eq-eqb a v (nowhere a (say.pad_end v a e).joined)
        go (at_clue c) e = let o = say.clue_end v c e in clue_is_clue no_clue (ap g.cell (sym (nowhere o.pad o.joined)) ∙ o.clue_at)

    clue_no_room : (v c : ℕ) → g.cell v ≡ clue c → Room g.cell WiresSeen v → ⊥
    clue_no_room v c e (other_room k short) = clue_is_clue k e
    clue_no_room v c e (clue_room d k none) = let o = ordinary.wired.clue_one v c e in none o.to (are_seen v o.to o.line)

    two_no_room : (v : ℕ) → TwoLines (Line g.width D) v → Room g.cell WiresSeen v → ⊥
    two_no_room v o (other_room k short) = o.apart (short o.to o.also_to (are_seen v _ o.line) (are_seen v _ o.also_line))
    two_no_room v o (clue_room d k none) = none o.to (are_seen v o.to o.line)

    is_finished : (v : ℕ) → finished (g.cell v) v (last_ends v) ≡ true
    is_finished v = go (g.cell v) refl
      where
        go : (C : Cell) → g.cell v ≡ C → finished C v (last_ends v) ≡ true
        go blank e = either_on (is_through (last_ends v)) (is_pad (last_ends v) v) (⊎_elim
            (λ none. inr (is_alone v (ap is_clue e) none)) (λ two. inl (is_passed v (two_no_room v two))) (ordinary.wired.blank_none_or_two v e))
        go (clue c) e = is_passed v (clue_no_room v c e)
        go hole e = is_alone v (ap is_clue e) (ordinary.wired.hole_none v e)

    pass : is_ordinary_record g bytes ≡ true
    unfolding is_ordinary_record record_of
    pass = both_on (eq-eqb _ _ (ap length of_drawing ∙ length_field g.height g.width (λ e. byte_of (drawn D e))))
        (rw goes_on.so (all_below_so _ (pads g) (λ v below. is_finished v)))

    -- and the drawing that the record shows is this one
    same_drawing : drawing_of g.width bytes ≡ D
    same_drawing = ap (drawing_of g.width) of_drawing ∙ (λ i. record {
      right = λ v. record_shows g wide D ordinary.placed (right v) i;
      down = λ v. record_shows g wide D ordinary.placed (down v) i;
    })

  -- ORDINARY EXACTLY
  pub ordinary_exactly : (is_ordinary_record g bytes ≡ true) ↔ OrdinaryRecord g bytes
  ordinary_exactly = (passed, λ r. pass r.drawing r.ordinary r.shown)

  -- LISTED EXACTLY
  pub listed_exactly : (is_ordinary_record g bytes && has_listed_shape g bytes ≡ true) ↔ ListedRecord g bytes
  unfolding has_listed_shape
  listed_exactly = (is_listed, passes)
    where
      is_listed : is_ordinary_record g bytes && has_listed_shape g bytes ≡ true → ListedRecord g bytes
      is_listed h =
          let (a, b) = both (is_ordinary_record g bytes) _ h in
          let (squares, corners) = both (squares_checked g (drawing_of g.width bytes)) _ b in
          let (left_side, right_side) = both (corners_checked on_left g (drawing_of g.width bytes)) _ corners in
          let r = passed a in
          let same = same_drawing r.drawing r.ordinary r.shown in
          record { drawing = r.drawing; listed = checked_listed g r.drawing r.ordinary (rw same at squares) (rw same at left_side) (rw same at right_side); shown = r.shown }

      passes : ListedRecord g bytes → is_ordinary_record g bytes && has_listed_shape g bytes ≡ true
      passes r =
          let ordinary = r.listed.ordinary in
          let some : 0 < g.width = omega (arith, wide) in
          let same = same_drawing r.drawing ordinary r.shown in
          both_on (pass r.drawing ordinary r.shown) (rw same
          (both_on (listed_squares g some r.drawing r.listed) (both_on (listed_corners g some r.drawing r.listed on_left) (listed_corners g some r.drawing r.listed on_right))))
