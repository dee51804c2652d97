-- THE SLOW WALK LOSES NOTHING AND ADDS NOTHING, on the model, for every grid of every accepted size and code, with holes or without: its layouts are,
-- as records, each listed layout exactly once, ascending by codes, and nothing else; and every record is as long as the field has places. So a run
-- of it, with a limit on its tried codes and with room, gives what runs' ExactLists.antt says. It rests on WalkLists.antt, and on no theory of boards.
use Prim.Native.Nat.{ℕ, zero, suc, ◌+◌}
use Rattle.std.specs.Prelude.{◌≡◌, Bool, List, length, ℤ}
use Rattle.std.proofs.Math.Path.{refl}
use Rattle.std.proofs.Math.Bool.{true, false}
use Rattle.std.proofs.Common.{arith}
use Rattle.std.proofs.Math.Dec.{eqb}
use Rattle.rules.specs.Grid.{Grid, grid_of, pads, places, Accepted}
use Rattle.rules.specs.Drawing.{Drawing, drawn}
use Rattle.rules.specs.Record.{byte_of, record_of}
use Rattle.rules.specs.RecordLaws.{length_field}
use Rattle.rules.specs.ProperGrid.{Proper, accepted_proper}
use Rattle.model.specs.Refusals.{grid_refusal}
use Rattle.model.specs.Runs.{Event, scan, solved, declined_search}
use Rattle.model.specs.Judge.{verdict}
use Rattle.model.specs.Walk.{no_lines, with_code, may_give, tested, give, walk_on, every_code, walk}
use Rattle.runs.specs.Events.{layouts_of, shown_codes, ascending_distinct}
use Rattle.runs.specs.Branches.{Lists}
use Rattle.runs.specs.Progress.{Sized, sized_append}
use Rattle.runs.specs.ExactLists.{Exact, ExactRun, call_is_run, call_is_declined}
use Rattle.runs.proofs.ExactLists.{exact_run}
use Rattle.everycode.specs.WalkLists.{AgreesBefore, every_code_lists}

-- the layouts of the walk with no limit
pub every_code_exact : (g : Grid) → Proper g → Exact g (layouts_of (every_code g))
every_code_exact g p = record {
  nothing_added = λ bytes m. let (D, listed, agrees, shown) = found.truly bytes m in record { drawing = D; listed = listed; shown = shown };
  nothing_lost = λ D listed. found.wholly D listed (λ e on before. absurd (omega arith));
  ascending = found.ascending;
  each_once = ascending_distinct (shown_codes g) (layouts_of (every_code g)) found.ascending;
}
  where
    found : Lists g (AgreesBefore g 0 no_lines) (every_code g)
    found = every_code_lists g p

-- each of its records is as long as the field has places
module _ (g : Grid) where
  abbrev size : ℕ
  size = places g.height g.width

  tested_sized : (D : Drawing) → Sized size (tested g D)
  unfolding tested Sized record_of
  tested_sized D = go (eqb (verdict g (record_of g D)) 2) refl
    where
      go : (b : Bool) → eqb (verdict g (record_of g D)) 2 ≡ b → Sized size (tested g D)
      go true h = rw (h, tested) (length_field g.height g.width (λ e. byte_of (drawn D e)), tt)
      go false h = rw (h, tested) tt

  give_sized : (continue : Drawing → List Event) → ((E : Drawing) → Sized size (continue E)) → (v : ℕ) (D : Drawing) (r d : Bool) → Sized size (give g continue v D r d)
  unfolding give Sized
  give_sized continue all v D r d = go (may_give g v r d) refl
    where
      go : (b : Bool) → may_give g v r d ≡ b → Sized size (give g continue v D r d)
      go true h = rw (h, give) (all (with_code D v r d))
      go false h = rw (h, give) tt

  walk_sized : (n v : ℕ) (D : Drawing) → Sized size (walk_on g n v D)
  unfolding walk_on
  walk_sized zero v D = tested_sized D
  walk_sized (suc n) v D = let one : (r d : Bool) → Sized size (give g (λ E. walk_on g n (v + 1) E) v D r d) = give_sized (λ E. walk_on g n (v + 1) E) (λ E. walk_sized n (v + 1) E) v D in
      sized_append size _ _ (one false false) (sized_append size _ _ (one true false) (sized_append size _ _ (one false true) (one true true)))

pub every_code_sized : (g : Grid) → Sized (places g.height g.width) (every_code g)
unfolding every_code
every_code_sized g = walk_sized g (pads g) 0 no_lines

-- A RUN OF THE WALK of an accepted grid, with any limit and any room
pub walk_run : (height width : ℕ) (cells : List ℤ) → Accepted height width cells → (limit room : ℕ)
    → ExactRun (grid_of height width cells) (every_code (grid_of height width cells)) limit room (scan limit (places height width) 0 room (every_code (grid_of height width cells)))
walk_run height width cells accepted limit room =
    exact_run height width cells accepted (every_code (grid_of height width cells)) (every_code_exact (grid_of height width cells) (accepted_proper height width cells accepted)) limit room

-- WALK of an accepted grid is such a run, with the answer buffer as room: nothing is refused
pub walk_is_run : (height width : ℕ) (cells : List ℤ) → Accepted height width cells → (limit : ℕ) (buffer : List ℕ)
    → walk height width cells limit buffer ≡ solved (scan limit (places height width) 0 (length buffer) (every_code (grid_of height width cells))) buffer
unfolding walk
walk_is_run height width cells accepted limit buffer = call_is_run (λ g. every_code g) height width cells accepted limit buffer

-- and of a grid that is refused it is declined
pub walk_is_declined : (height width : ℕ) (cells : List ℤ) → ((grid_refusal height width cells).0 ≡ 0 → ⊥) → (limit : ℕ) (buffer : List ℕ)
    → walk height width cells limit buffer ≡ declined_search (grid_refusal height width cells).0 (grid_refusal height width cells).1 buffer
unfolding walk
walk_is_declined height width cells refused limit buffer = call_is_declined (λ g. every_code g) height width cells refused limit buffer
