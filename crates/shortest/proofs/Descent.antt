-- From an ordinary drawing to a listed one: while some unit square allows a move, make it. A number falls with each move, so the moves
-- end, and where none is left the drawing is listed. It rests on Step.antt.
use Rattle.std.specs.Prelude.{ℕ, zero, suc, ◌≤◌, ◌<◌, refl, ◌⊎◌}
use Rattle.std.proofs.Common.{inl, inr, ⊎_elim, arith}
use Rattle.std.proofs.Math.Decide.{ℕ_discrete}
use Rattle.rules.specs.Grid.{right, Grid, pads, OnBoard}
use Rattle.rules.specs.Drawing.{Drawing, Side, on_left, on_right, DiagonallyBelow, Corner, NotBlank, Ordinary, Listed}
use Rattle.shortest.specs.Weight.{weigh}
use Rattle.shortest.specs.Step.{Better, Fine, pads_from}
use Rattle.shortest.proofs.Step.{look}
use Rattle.shortest.specs.Descent.{NoWorse}

-- look at the unit squares one by one
scan : (g : Grid) → 2 ≤ g.width → (D : Drawing) → Ordinary g D → (n : ℕ) → ((v : ℕ) → v < n → Fine g D v) ⊎ Better g D
scan g wide D ordinary zero = inl (λ v h. absurd (omega arith))
scan g wide D ordinary (suc n) = ⊎_elim
    (λ before. ⊎_elim (λ last. inl (λ v h. elim (ℕ_discrete v n) [ yes e ↦ rw e last | no ne ↦ before v (omega arith) ])) (λ b. inr b)
    (look g wide D ordinary n))
    (λ b. inr b) (scan g wide D ordinary n)

-- where nothing is left to do the drawing is listed
listed : (g : Grid) (D : Drawing) → Ordinary g D → ((v : ℕ) → v < pads g → Fine g D v) → Listed g D
unfolding OnBoard
listed g D ordinary fine = record { ordinary = ordinary; squares = λ v u. (fine v u.0.0).few u; corners = corners }
  where
    corners : (side : Side) (p q : ℕ) → DiagonallyBelow side g.width p q → Corner side D p → NotBlank g q ⊎ Corner side D q
    corners on_right p q below (h, k) = (fine p (ordinary.placed (right p) h).0).corner on_right q below (h, k)
    corners on_left p q below ((u, e, h), k) =
        (fine u (ordinary.placed (right u) h).0).corner on_left q (rw e below) ((u, refl, h), rw e k)

descend : (n : ℕ) (g : Grid) → 2 ≤ g.width → (D : Drawing) → Ordinary g D → weigh (pads_from g) (pads g) D < n → NoWorse g D
descend zero g wide D ordinary h = absurd (omega arith)
descend (suc n) g wide D ordinary h = ⊎_elim
    (λ fine. record { drawing = D; listed = listed g D ordinary fine; same_pairs = λ u v cu cv. ((λ j. j), (λ j. j)); no_more_lines = omega arith })
    (λ b. let r = descend n g wide b.next b.as_good.ordinary (omega (arith, b.lighter)) in record {
      drawing = r.drawing;
      listed = r.listed;
      same_pairs = λ u v cu cv. (
        (λ j. (r.same_pairs u v cu cv).0 ((b.as_good.same_pairs u v cu cv).0 j)),
        (λ j. (b.as_good.same_pairs u v cu cv).1 ((r.same_pairs u v cu cv).1 j)),
      );
      no_more_lines = omega (arith, r.no_more_lines, b.no_more_lines);
    })
    (scan g wide D ordinary (pads g))

pub listed_no_worse : (g : Grid) → 2 ≤ g.width → (D : Drawing) → Ordinary g D → NoWorse g D
listed_no_worse g wide D ordinary = descend (suc (weigh (pads_from g) (pads g) D)) g wide D ordinary (omega arith)
