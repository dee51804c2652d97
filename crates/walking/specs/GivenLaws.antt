-- Laws of the record in which the walk writes: a pad that gets its code is shown with it, the pads before it stay as they were, and when every pad
-- has its code the record is that of the drawing. They rest on Given.antt, on the rules' laws of records and on what giving a code changes
-- (everycode's WalkLists.antt).
use Rattle.std.specs.Prelude.{ℕ, ◌+◌, ◌%◌, ◌/◌, ◌≤◌, ◌<◌, ◌≡◌, ◌⊎◌, Bool, List, set, length}
use Rattle.std.proofs.Math.Path.{refl, sym, ap}
use Rattle.std.proofs.Common.{◌∙◌, subst, inl, inr, ⊎_elim, arith, length-set, get_or-set_same, get_or-set_other}
use Rattle.std.proofs.Math.Bool.{true, false}
use Rattle.std.proofs.Math.Decide.{ℕ_discrete}
use Rattle.std.proofs.Math.ListN.{get_or}
use Rattle.std.proofs.Math.Seq.{ext_get_or}
use Rattle.rules.specs.Grid.{Edge, right, down, first, Place, edge, no_edge, place_at, field_side, places, Grid, pads, OnBoard}
use Rattle.rules.specs.Drawing.{Drawing, drawn}
use Rattle.rules.specs.Record.{undecided_byte, byte_of, byte_at_place, field, record_of, place_number}
use Rattle.rules.specs.RecordLaws.{get_or_from_zero, length_field}
use Rattle.rules.proofs.RecordLaws.{edge_number_in_field, edge_at_number, number_of_edge}
use Rattle.rules.specs.Places.{zero≢one, first_inside}
use Rattle.rules.specs.Tests.{conflict}
use Rattle.model.specs.PadTests.{on_board}
use Rattle.model.specs.BoardLaws.{on_board_test, on_board_of_test}
use Rattle.model.specs.Walk.{with_code}
use Rattle.everycode.specs.WalkLists.{right_given, down_given, others_kept}
use Rattle.walking.specs.Given.{Showing, Shows, put_edge}

module _ (g : Grid) (wide : 2 ≤ g.width) where
  abbrev number : Edge → ℕ
  number e = place_number g.width e

  abbrev place : ℕ → Place
  place n = place_at g.width (n / field_side g.width) (n % field_side g.width)

  -- two edges of the board have two places
  one_number : (a b : Edge) → OnBoard g a → OnBoard g b → number a ≡ number b → a ≡ b
  one_number a b on_a on_b same = same_edge (sym (edge_at_number g wide a on_a) ∙ ap place same ∙ edge_at_number g wide b on_b)
    where
      same_edge : {x y : Edge} → edge x ≡ edge y → x ≡ y
      same_edge h = cc

  -- ONE EDGE is written, or is not on the board
  module _ (D : Drawing) (Given : Edge → Type 0) (e : Edge) (bytes : List ℕ) (shows : Showing g D Given bytes) where
    abbrev Now : Edge → Type 0
    Now x = Given x ⊎ (x ≡ e)

    written : OnBoard g e → Showing g D Now (set bytes (number e) (byte_of (drawn D e)))
    written on = record { long = length-set bytes (number e) (byte_of (drawn D e)) ∙ shows.long; given = now_given; between = still_between }
      where
        inside : number e < length bytes
        inside = rw shows.long (edge_number_in_field g wide e on)

        here : (x : Edge) → x ≡ e → get_or (set bytes (number e) (byte_of (drawn D e))) (number x) undecided_byte ≡ byte_of (drawn D x)
        here x same = rw same (get_or-set_same bytes (number e) (byte_of (drawn D e)) undecided_byte inside)

        now_given : (x : Edge) → OnBoard g x → Now x → get_or (set bytes (number e) (byte_of (drawn D e))) (number x) undecided_byte ≡ byte_of (drawn D x)
        now_given x on_x (inr same) = here x same
        now_given x on_x (inl before) = elim (ℕ_discrete (number x) (number e)) [
          | yes same ↦ here x (one_number x e on_x on same)
          | no other ↦ get_or-set_other bytes (number e) (number x) (byte_of (drawn D e)) undecided_byte other ∙ shows.given x on_x before
        ]

        still_between : (n : ℕ) → n < places g.height g.width → place n ≡ no_edge → get_or (set bytes (number e) (byte_of (drawn D e))) n undecided_byte ≡ undecided_byte
        still_between n below none = elim (ℕ_discrete n (number e)) [
          | yes same ↦ (let there = edge_at_number g wide e on in let h = ap place same in zero≢one (cc))
          | no other ↦ get_or-set_other bytes (number e) n (byte_of (drawn D e)) undecided_byte other ∙ shows.between n below none
        ]

    left_out : (OnBoard g e → ⊥) → Showing g D Now bytes
    left_out off = record {
      long = shows.long;
      given = λ x on_x now. ⊎_elim (λ before. shows.given x on_x before) (λ same. absurd (off (subst (OnBoard g) same on_x))) now;
      between = shows.between;
    }

  put_shows : (D : Drawing) (Given : Edge → Type 0) (e : Edge) (line : Bool) → drawn D e ≡ line → (bytes : List ℕ) → Showing g D Given bytes
      → Showing g D (λ x. Given x ⊎ (x ≡ e)) (put_edge g e line bytes)
  unfolding put_edge
  put_shows D Given e line is bytes shows = go (on_board g e) refl
    where
      go : (b : Bool) → on_board g e ≡ b → Showing g D (λ x. Given x ⊎ (x ≡ e)) (put_edge g e line bytes)
      go true h = rw (h, put_edge) (rw (sym is) (written D Given e bytes shows (on_board_of_test g e h)))
      go false h = rw (h, put_edge) (left_out D Given e bytes shows (λ on. conflict (on_board_test g e on) h))

  -- A PAD IS GIVEN ITS CODE: it is shown with it
  module _ (D : Drawing) (v : ℕ) (r d : Bool) where
    abbrev coded : Drawing
    coded = with_code D v r d

    pub code_shown : (bytes : List ℕ) → Shows g D v bytes → Shows g coded (v + 1) (put_edge g (down v) d (put_edge g (right v) r bytes))
    code_shown bytes shows = record { long = both.long; given = λ e on before. both.given e on (one_of e before); between = both.between }
      where
        before_it : Showing g coded (λ e. first e < v) bytes
        before_it = record {
          long = shows.long;
          given = λ e on before. shows.given e on before ∙ ap byte_of (sym (others_kept D v r d e (λ same. omega arith)));
          between = shows.between;
        }

        both : Showing g coded (λ x. ((first x < v) ⊎ (x ≡ right v)) ⊎ (x ≡ down v)) (put_edge g (down v) d (put_edge g (right v) r bytes))
        both = put_shows coded _ (down v) d (down_given D v r d v refl) _ (put_shows coded _ (right v) r (right_given D v r d v refl) bytes before_it)

        one_of : (e : Edge) → first e < v + 1 → ((first e < v) ⊎ (e ≡ right v)) ⊎ (e ≡ down v)
        one_of e below = elim (ℕ_discrete (first e) v) [ yes same ↦ at_pad e same | no other ↦ inl (inl (omega arith)) ]
          where
            at_pad : (e : Edge) → first e ≡ v → ((first e < v) ⊎ (e ≡ right v)) ⊎ (e ≡ down v)
            at_pad (right u) same = inl (inr (ap right same))
            at_pad (down u) same = inr (ap down same)

    -- and the pads before it are shown as they were
    pub before_shown : (bytes : List ℕ) → Shows g coded (v + 1) bytes → Shows g D v bytes
    before_shown bytes shows = record {
      long = shows.long;
      given = λ e on before. shows.given e on (omega arith) ∙ ap byte_of (others_kept D v r d e (λ same. omega arith));
      between = shows.between;
    }

  -- EVERY PAD HAS ITS CODE: the record is that of the drawing
  pub all_shown : (D : Drawing) (bytes : List ℕ) → Shows g D (pads g) bytes → bytes ≡ record_of g D
  unfolding record_of field
  all_shown D bytes shows = ext_get_or undecided_byte bytes (record_of g D) (shows.long ∙ sym (length_field g.height g.width (λ e. byte_of (drawn D e)))) same
    where
      shown_at : (n : ℕ) → n < places g.height g.width → (p : Place) → place n ≡ p → get_or bytes n undecided_byte ≡ byte_at_place (λ e. byte_of (drawn D e)) p
      shown_at n below no_edge is = shows.between n below is
      shown_at n below (edge e) is = let (on, at) = number_of_edge g wide n below e is in
          ap (λ k. get_or bytes k undecided_byte) (sym at) ∙ shows.given e on (first_inside g e on)

      same : (n : ℕ) → n < length bytes → get_or bytes n undecided_byte ≡ get_or (record_of g D) n undecided_byte
      same n below = let inside : n < places g.height g.width = rw shows.long at below in
          shown_at n inside (place n) refl ∙ sym (get_or_from_zero _ (places g.height g.width) n undecided_byte inside)

-- NO PAD HAS A CODE YET: a record of zeros shows what is given, which is nothing
pub none_shown : (g : Grid) (D : Drawing) (bytes : List ℕ) → length bytes ≡ places g.height g.width → ((n : ℕ) → get_or bytes n undecided_byte ≡ undecided_byte) → Shows g D 0 bytes
none_shown g D bytes long zeros = record { long = long; given = λ e on before. absurd (omega arith); between = λ n below none. zeros n }

-- what is written changes no length
pub put_length : (g : Grid) (e : Edge) (line : Bool) (bytes : List ℕ) → length (put_edge g e line bytes) ≡ length bytes
unfolding put_edge
put_length g e line bytes = go (on_board g e) refl
  where
    go : (b : Bool) → on_board g e ≡ b → length (put_edge g e line bytes) ≡ length bytes
    go true h = rw (h, put_edge) (length-set bytes _ _)
    go false h = rw (h, put_edge) refl
