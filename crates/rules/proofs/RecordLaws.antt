-- What is proved of the definitions in specs/RecordLaws.antt.
use Rattle.std.specs.Prelude.{ℕ, ◌+◌, ◌*◌, ◌%◌, ◌/◌, ◌≤◌, ◌<◌, ◌≡◌, Bool, eqb, get_or}
use Rattle.std.proofs.Math.Path.{refl, sym, ap}
use Rattle.std.proofs.Common.{◌∙◌, arith, div-add-mod', mod-lt, div-lt_iff_lt-mul, le-div_iff_mul-le, mul-le-mul_right, lt-ltb, le-ltb}
use Rattle.std.proofs.Math.Bool.{true, false}
use Rattle.std.proofs.Math.Decide.{dec_lt}
use Rattle.std.proofs.Math.Nat.{add-div_right}
use Rattle.std.proofs.Math.ListN.{get_or-eq_default}
use Rattle.rules.specs.Grid.{Edge, right, down, Place, edge, no_edge, place_at, places, field_side, row_of, column_of, Grid, pads, OnBoard}
use Rattle.rules.specs.Drawing.{Drawing, drawn, num, Placed}
use Rattle.rules.specs.Record.{undecided_byte, line_byte, byte_of, byte_at_place, field, record_of, place_number, drawing_of, pad_code, codes}
use Rattle.rules.specs.Tests.{not_so, num_small}
use Rattle.rules.specs.Places.{zero≢one}
use Rattle.rules.proofs.Places.{place_of_edge, row_in_field, column_in_field, edge_of_place}
use Rattle.rules.specs.RecordLaws.{get_or_from_zero, tabulate_same, row_of_number, column_of_number, number_in_field, field_at, length_field}

module _ (g : Grid) (wide : 2 ≤ g.width) where
  some : 0 < g.width
  some = omega arith

  -- at the place number of an edge of the board that edge is found, and a place number tells the edge that is found there
  module _ (e : Edge) (on : OnBoard g e) where
    pub edge_number_in_field : place_number g.width e < places g.height g.width
    edge_number_in_field = number_in_field g.width (row_of g.width e) (column_of g.width e) (column_in_field g wide e on) g.height (row_in_field g wide e on)

    pub edge_at_number : place_at g.width (place_number g.width e / field_side g.width) (place_number g.width e % field_side g.width) ≡ edge e
    edge_at_number =
        rw (
          row_of_number g.width (row_of g.width e) (column_of g.width e) (column_in_field g wide e on),
          column_of_number g.width (row_of g.width e) (column_of g.width e) (column_in_field g wide e on),
        ) (place_of_edge g.width e)

  pub number_of_edge : (i : ℕ) → i < places g.height g.width → (e : Edge) → place_at g.width (i / field_side g.width) (i % field_side g.width) ≡ edge e
      → OnBoard g e × (place_number g.width e ≡ i)
  number_of_edge i inside e held =
      let side : 0 < field_side g.width = omega arith in
      let its = edge_of_place g wide (i / field_side g.width) (i % field_side g.width) ((div-lt_iff_lt-mul side).1 inside) (mod-lt i side) e held in
      (its.on_board, rw (its.its_row, its.its_column) (div-add-mod' i (field_side g.width)))

  -- the byte of each edge of the board stands at its place
  pub field_edge : (bytes : Edge → ℕ) (e : Edge) → OnBoard g e → get_or (field g.height g.width bytes) (place_number g.width e) undecided_byte ≡ bytes e
  field_edge bytes e on =
      field_at g.height g.width bytes (row_of g.width e) (column_of g.width e) (row_in_field g wide e on) (column_in_field g wide e on)
      ∙ ap (byte_at_place bytes) (place_of_edge g.width e)

  -- and the field shows nothing else: bytes that agree on the board give one record
  pub field_same : (bytes others : Edge → ℕ) → ((e : Edge) → OnBoard g e → bytes e ≡ others e) → field g.height g.width bytes ≡ field g.height g.width others
  unfolding field
  field_same bytes others same = tabulate_same _ _ 0 (places g.height g.width) (λ i low high. at i high)
    where
      by_place : (p : Place) → ((e : Edge) → p ≡ edge e → OnBoard g e) → byte_at_place bytes p ≡ byte_at_place others p
      by_place no_edge on = refl
      by_place (edge e) on = same e (on e refl)

      at : (i : ℕ) → i < 0 + places g.height g.width
          → byte_at_place bytes (place_at g.width (i / field_side g.width) (i % field_side g.width)) ≡ byte_at_place others (place_at g.width (i / field_side g.width) (i % field_side g.width))
      at i high = by_place (place_at g.width (i / field_side g.width) (i % field_side g.width)) (λ e held. (number_of_edge i (omega arith) e held).0)

  -- nothing stands past the field
  pub past_field : (bytes : Edge → ℕ) (i : ℕ) → places g.height g.width ≤ i → get_or (field g.height g.width bytes) i undecided_byte ≡ undecided_byte
  past_field bytes i past = get_or-eq_default (field g.height g.width bytes) undecided_byte (rw (length_field g.height g.width bytes) past)

  past_row : (row column : ℕ) → field_side g.height ≤ row → places g.height g.width ≤ row * field_side g.width + column
  past_row row column past = let rows : places g.height g.width ≤ row * field_side g.width = mul-le-mul_right (field_side g.width) past in omega arith

  pub off_line : (D : Drawing) → Placed g D → (e : Edge) → (OnBoard g e → ⊥) → drawn D e ≡ false
  off_line D placed e off = not_so (drawn D e) (λ h. off (placed e h))

  pub is_line_byte : (b : Bool) → eqb (byte_of b) line_byte ≡ b
  is_line_byte true = refl
  is_line_byte false = refl

  -- RECORD AND DRAWING: a record shows the drawing that it was made of
  pub record_shows : (D : Drawing) → Placed g D → (e : Edge) → drawn (drawing_of g.width (record_of g D)) e ≡ drawn D e
  unfolding drawing_of record_of OnBoard
  record_shows D placed (right v) =
      elim (dec_lt (v % g.width + 1) g.width) [
        | no last ↦ rw (le-ltb (v % g.width + 1) g.width (omega arith)) (sym (off_line D placed (right v) (λ on. last on.1)))
        | yes inside ↦
            rw (lt-ltb (v % g.width + 1) g.width inside) (elim (dec_lt v (pads g)) [
              | yes below ↦ rw (field_edge (λ e. byte_of (drawn D e)) (right v) (below, inside)) (is_line_byte (D.right v))
              | no past ↦
                  let rows : g.height ≤ v / g.width = (le-div_iff_mul-le some).1 (omega arith) in
                  rw (past_field (λ e. byte_of (drawn D e)) (place_number g.width (right v)) (past_row (2 * (v / g.width)) (2 * (v % g.width) + 1) (omega arith)))
                  (sym (off_line D placed (right v) (λ on. past on.0)))
            ])
      ]
  record_shows D placed (down v) = elim (dec_lt (v + g.width) (pads g)) [
    | yes below ↦ (rw (field_edge (λ e. byte_of (drawn D e)) (down v) below) (is_line_byte (D.down v)))
    | no past ↦ (let rows : g.height ≤ (v + g.width) / g.width = (le-div_iff_mul-le some).1 (omega arith) in
        let next : (v + g.width) / g.width ≡ v / g.width + 1 = add-div_right v some in
        rw (past_field (λ e. byte_of (drawn D e)) (place_number g.width (down v)) (past_row (2 * (v / g.width) + 1) (2 * (v % g.width)) (omega arith)))
        (sym (off_line D placed (down v) (λ on. past on))))
  ]

  -- equal records mean the same drawing, and drawings that agree on the board have one record
  pub record_determines : (D E : Drawing) → Placed g D → Placed g E → record_of g D ≡ record_of g E → (e : Edge) → drawn D e ≡ drawn E e
  record_determines D E placed_d placed_e same e =
      sym (record_shows D placed_d e) ∙ ap (λ r. drawn (drawing_of g.width r) e) same ∙ record_shows E placed_e e

  pub drawing_determines : (D E : Drawing) → ((e : Edge) → OnBoard g e → drawn D e ≡ drawn E e) → record_of g D ≡ record_of g E
  unfolding record_of
  drawing_determines D E same = field_same (λ e. byte_of (drawn D e)) (λ e. byte_of (drawn E e)) (λ e on. ap byte_of (same e on))

  -- PAD CODES: equal codes at every pad mean the same drawing
  pub codes_determine : (D E : Drawing) → Placed g D → Placed g E → codes g D ≡ codes g E → (e : Edge) → drawn D e ≡ drawn E e
  unfolding OnBoard codes
  codes_determine D E placed_d placed_e same e = go e
    where
      num_same : (a b : Bool) → num a ≡ num b → a ≡ b
      num_same true true h = refl
      num_same true false h = zero≢one (sym h)
      num_same false true h = zero≢one h
      num_same false false h = refl

      at_pad : (v : ℕ) → v < pads g → (D.right v ≡ E.right v) × (D.down v ≡ E.down v)
      at_pad v below =
          let one_code : pad_code D v ≡ pad_code E v =
          sym (get_or_from_zero (pad_code D) (pads g) v 0 below) ∙ ap (λ l. get_or l v 0) same ∙ get_or_from_zero (pad_code E) (pads g) v 0 below in
          let a = num_small (D.right v) in
          let b = num_small (E.right v) in
          (num_same _ _ (omega arith), num_same _ _ (omega arith))

      both_off : (x : Edge) → (OnBoard g x → ⊥) → drawn D x ≡ drawn E x
      both_off x off = off_line D placed_d x off ∙ sym (off_line E placed_e x off)

      go : (x : Edge) → drawn D x ≡ drawn E x
      go (right v) = elim (dec_lt v (pads g)) [ yes below ↦ (at_pad v below).0 | no past ↦ both_off (right v) (λ on. past on.0) ]
      go (down v) = elim (dec_lt v (pads g)) [ yes below ↦ (at_pad v below).1 | no past ↦ both_off (down v) (λ on. past (omega arith)) ]

  pub codes_same : (D E : Drawing) → ((e : Edge) → drawn D e ≡ drawn E e) → codes g D ≡ codes g E
  unfolding codes
  codes_same D E same = tabulate_same (pad_code D) (pad_code E) 0 (pads g) (λ v low high. rw (same (right v), same (down v)) refl)
