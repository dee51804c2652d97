-- What is proved of the definitions in specs/Chains.antt.
use Rattle.std.specs.Prelude.{ℕ, ◌≡◌, refl, true}
use Rattle.std.proofs.Common.{inl, inr, ⊎_elim}
use Rattle.rules.specs.Grid.{Edge, first, second, right, down}
use Rattle.rules.specs.Drawing.{Drawing, drawn, Line, rightward, leftward, downward, upward}
use Rattle.rules.specs.Chains.{line_back, Along}

-- A LINE BETWEEN TWO PADS is an edge that is drawn, read forward or backward
module _ (width : ℕ) (D : Drawing) where
  pub edge_of_line : (x y : ℕ) → Line width D x y → Along width D x y
  edge_of_line x y (rightward p h) = record { edge = right x; is = h; ends = inl (refl, p) }
  edge_of_line x y (leftward p h) = record { edge = right y; is = h; ends = inr (p, refl) }
  edge_of_line x y (downward p h) = record { edge = down x; is = h; ends = inl (refl, p) }
  edge_of_line x y (upward p h) = record { edge = down y; is = h; ends = inr (p, refl) }

  pub line_forward : (e : Edge) → drawn D e ≡ true → Line width D (first e) (second width e)
  line_forward (right v) h = rightward refl h
  line_forward (down v) h = downward refl h

  pub line_of_edge : (x y : ℕ) → Along width D x y → Line width D x y
  line_of_edge x y t = ⊎_elim
      (λ (p, q). rw (p, q) (line_forward t.edge t.is))
      (λ (p, q). rw (p, q) (line_back width D _ _ (line_forward t.edge t.is))) t.ends
