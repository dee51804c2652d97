-- What a record shows is what its drawing has: two drawings that join the same pads have records that show the same pads joined.
-- It rests on the rules' RecordLaws.antt.
use Rattle.std.specs.Prelude.{ℕ, ◌≤◌, ◌≡◌, refl}
use Rattle.std.proofs.Common.{sym, ◌∙◌}
use mathlib.Core.List.{List, [], ◌∷◌, Memᴰ}
use Rattle.rules.specs.Grid.{Edge, Grid}
use Rattle.rules.specs.Drawing.{Drawing, drawn, Placed, Joined, here, more, Line, SamePairs}
use Rattle.rules.specs.Record.{record_of, drawing_of}
use Rattle.rules.proofs.RecordLaws.{record_shows}
use Rattle.shortest.specs.Edges.{line_edge, edge_line}

-- drawings that agree on every edge have the same chains
same_chains : (width : ℕ) (D E : Drawing) → ((e : Edge) → drawn D e ≡ drawn E e) → {u v : ℕ} → Joined (Line width D) u v → Joined (Line width E) u v
same_chains width D E same here = here
same_chains width D E same (more {a = a} {b = b} l j) =
    let (e, joins, h) = line_edge l in more (edge_line width E a b e joins (sym (same e) ∙ h)) (same_chains width D E same j)

module _ (g : Grid) (wide : 2 ≤ g.width) where
  abbrev shown_by : Drawing → Drawing
  shown_by D = drawing_of g.width (record_of g D)

  shown : (D : Drawing) → Placed g D → {u v : ℕ} → Joined (Line g.width (shown_by D)) u v → Joined (Line g.width D) u v
  shown D placed = same_chains g.width (shown_by D) D (record_shows g wide D placed)

  had : (D : Drawing) → Placed g D → {u v : ℕ} → Joined (Line g.width D) u v → Joined (Line g.width (shown_by D)) u v
  had D placed = same_chains g.width D (shown_by D) (λ e. sym (record_shows g wide D placed e))

  pub records_show_same_pairs : (D E : Drawing) → Placed g D → Placed g E → SamePairs g D E
      → SamePairs g (drawing_of g.width (record_of g D)) (drawing_of g.width (record_of g E))
  records_show_same_pairs D E placed_d placed_e same u v cu cv =
      ((λ j. had E placed_e ((same u v cu cv).0 (shown D placed_d j))), (λ j. had D placed_d ((same u v cu cv).1 (shown E placed_e j))))

-- a list without members is empty
pub no_member_empty : (l : List (List ℕ)) → ((bytes : List ℕ) → Memᴰ bytes l → ⊥) → l ≡ []
no_member_empty [] none = refl
no_member_empty (bytes ∷ l) none = absurd (none bytes (Memᴰ.head refl))
