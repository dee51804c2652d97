-- The judge of a drawing depends on the codes of a grid only by which pads carry equal codes: on alike grids its verdict on any bytes is the
-- same. It joins ends by the laws of AlikeEnds.antt, and it looks at the pads for nothing but blanks, clues and holes. It rests on these
-- laws and on the model's Judge.antt.
use Prim.Native.Nat.{ℕ, zero, suc}
use Rattle.std.specs.Prelude.{◌≡◌, refl, Bool, true, false, ◌&&◌, ◌||◌, List, get_or, length, ℤ}
use Rattle.std.proofs.Math.Path.{sym, ap}
use Rattle.std.proofs.Common.{◌∙◌}
use Rattle.std.proofs.Math.Bool.{not}
use Rattle.std.proofs.Math.Dec.{eqb}
use Rattle.rules.specs.Grid.{first, second, Place, edge, no_edge, places, Cell, blank, clue, hole, Grid, grid_of, pads, Accepted}
use Rattle.rules.specs.Drawing.{Drawing, Side, on_left, on_right}
use Rattle.rules.specs.Record.{undecided_byte, line_byte, none_byte, drawing_of}
use Rattle.rules.specs.Tests.{all_below}
use Rattle.rules.specs.CheckedListed.{has_corner, diagonal, not_blank, corners_checked, squares_checked}
use Rattle.std.specs.Prelude.{if◌then◌else◌}
use Rattle.model.specs.PadTests.{is_blank, is_hole}
use Rattle.model.specs.JoinedEnds.{End, is_through, is_pad, unjoinable}
use Rattle.model.specs.RefusalLaws.{accepted_is_not_refused}
use Rattle.model.specs.Judge.{Followed, wrong, so_far, after_line, after_edge, after_place, finished, all_finished, and_then, followed, is_ordinary_record, has_listed_shape, verdict, judge}
use Rattle.alike.specs.Alike.{Alike, recoded, of_one_size}
use Rattle.alike.specs.AlikeEnds.{AlikeEnds, both_through, both_at_pad, both_at_clue, AlikeEverywhere, joined_alike, bare_end_alike}
use Rattle.alike.proofs.AlikeEnds.{unjoinable_alike}

-- what is followed in two grids: something was wrong in both, or the ends are alike so far
data AlikeFollowed (g h : Grid) : Followed → Followed → Type 0 where
  both_wrong : AlikeFollowed g h wrong wrong
  alike_so_far : {A B : ℕ → End} → AlikeEverywhere g h A B → AlikeFollowed g h (so_far A) (so_far B)

-- the tests of a pad by its tests of blank and hole
not_blank_by_test : (C : Cell) → not_blank C ≡ not (is_blank C)
unfolding not_blank
not_blank_by_test blank = refl
not_blank_by_test (clue code) = refl
not_blank_by_test hole = refl

abbrev finished_by : (blank_is hole_is through_is is_own : Bool) → Bool
finished_by blank_is hole_is through_is is_own = if blank_is then through_is || is_own else if hole_is then is_own else through_is

finished_by_tests : (C : Cell) (v : ℕ) (end : End) → finished C v end ≡ finished_by (is_blank C) (is_hole C) (is_through end) (is_pad end v)
finished_by_tests blank v end = refl
finished_by_tests (clue code) v end = refl
finished_by_tests hole v end = refl

module _ (g : Grid) (cell : ℕ → Cell) (alike : Alike g (recoded g cell)) where
  abbrev h : Grid
  h = recoded g cell

  choice_alike : (b : Bool) {F G K L : Followed} → AlikeFollowed g h F K → AlikeFollowed g h G L → AlikeFollowed g h (if b then F else G) (if b then K else L)
  choice_alike true yes_part no_part = yes_part
  choice_alike false yes_part no_part = no_part

  -- PLACE BY PLACE
  module _ {A B : ℕ → End} (ends : AlikeEverywhere g h A B) where
    after_line_alike : (u v : ℕ) → AlikeFollowed g h (after_line u v A) (after_line u v B)
    unfolding after_line
    after_line_alike u v = rw (unjoinable_alike alike (ends u) (ends v) v, after_line)
        (choice_alike (unjoinable (A u) (A v) v) both_wrong (alike_so_far (joined_alike u v ends (ends u) (ends v))))

    after_edge_alike : (u v byte : ℕ) → AlikeFollowed g h (after_edge u v byte A) (after_edge u v byte B)
    unfolding after_edge
    after_edge_alike u v byte = choice_alike (eqb byte line_byte) (after_line_alike u v)
        (choice_alike (eqb byte none_byte) (alike_so_far ends) both_wrong)

    after_place_alike : (width : ℕ) (place : Place) (byte : ℕ) → AlikeFollowed g h (after_place width place byte A) (after_place width place byte B)
    unfolding after_place
    after_place_alike width (edge e) byte = after_edge_alike (first e) (second width e) byte
    after_place_alike width no_edge byte = choice_alike (eqb byte undecided_byte) (alike_so_far ends) both_wrong

  next_alike : {F G : Followed} → AlikeFollowed g h F G → (width : ℕ) (place : Place) (byte : ℕ)
      → AlikeFollowed g h (and_then F (after_place width place byte)) (and_then G (after_place width place byte))
  next_alike both_wrong width place byte = both_wrong
  next_alike (alike_so_far ends) width place byte = after_place_alike ends width place byte

  followed_alike : (bytes : List ℕ) (n : ℕ) → AlikeFollowed g h (followed g bytes n) (followed h bytes n)
  unfolding followed
  followed_alike bytes zero = alike_so_far (bare_end_alike alike)
  followed_alike bytes (suc n) = next_alike (followed_alike bytes n) g.width _ (get_or bytes n undecided_byte)

  -- PAD BY PAD
  finished_same : (v : ℕ) {A B : End} → AlikeEnds g h A B → finished (g.cell v) v A ≡ finished (cell v) v B
  finished_same v {A} {B} ends = finished_by_tests (g.cell v) v A
      ∙ (λ i. finished_by (alike.same_blanks v i) (alike.same_holes v i) ((tests_same ends).0 i) ((tests_same ends).1 i))
      ∙ sym (finished_by_tests (cell v) v B)
    where
      tests_same : {A B : End} → AlikeEnds g h A B → (is_through A ≡ is_through B) × (is_pad A v ≡ is_pad B v)
      tests_same both_through = (refl, refl)
      tests_same (both_at_pad u) = (refl, refl)
      tests_same (both_at_clue u p q) = (refl, refl)

  all_finished_same : {F G : Followed} → AlikeFollowed g h F G → all_finished g F ≡ all_finished h G
  all_finished_same both_wrong = refl
  all_finished_same (alike_so_far ends) = λ i. all_below (λ v. finished_same v (ends v) i) (pads g)

  corners_same : (side : Side) (D : Drawing) → corners_checked side g D ≡ corners_checked side h D
  unfolding corners_checked
  corners_same side D = λ i. all_below (λ p. not (has_corner side D p) || (same (diagonal side g.width p) i || has_corner side D (diagonal side g.width p))) (pads g)
    where
      same : (v : ℕ) → not_blank (g.cell v) ≡ not_blank (cell v)
      same v = not_blank_by_test (g.cell v) ∙ ap not (alike.same_blanks v) ∙ sym (not_blank_by_test (cell v))

  -- THE VERDICT
  ordinary_same : (bytes : List ℕ) → is_ordinary_record g bytes ≡ is_ordinary_record h bytes
  unfolding is_ordinary_record
  ordinary_same bytes = ap (λ b. eqb (length bytes) (places g.height g.width) && b) (all_finished_same (followed_alike bytes (places g.height g.width)))

  shape_same : (bytes : List ℕ) → has_listed_shape g bytes ≡ has_listed_shape h bytes
  unfolding has_listed_shape squares_checked
  shape_same bytes = λ i. let D = drawing_of g.width bytes in squares_checked g D && (corners_same on_left D i && corners_same on_right D i)

  verdict_same : (bytes : List ℕ) → verdict g bytes ≡ verdict h bytes
  unfolding verdict
  verdict_same bytes = λ i. if ordinary_same bytes i then (if shape_same bytes i then 2 else 1) else 0

-- THE VERDICT on any bytes
pub verdict_alike : {g h : Grid} → Alike g h → (bytes : List ℕ) → verdict g bytes ≡ verdict h bytes
verdict_alike {g} alike bytes = of_one_size (λ k. verdict g bytes ≡ verdict k bytes) alike (λ cell a. verdict_same g cell a bytes)

-- JUDGE, on any bytes
pub judge_alike : (height width : ℕ) (cells others : List ℤ) → Accepted height width cells → Accepted height width others
    → Alike (grid_of height width cells) (grid_of height width others)
    → (bytes : List ℕ) → judge height width cells bytes ≡ judge height width others bytes
unfolding judge
judge_alike height width cells others accepted other_accepted alike bytes =
    rw (accepted_is_not_refused height width cells accepted, accepted_is_not_refused height width others other_accepted, verdict_alike alike bytes, judge) refl
