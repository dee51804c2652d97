-- Why each call's answer says what the model's does: the declined calls, the checkpoint, the undo, the decision. It rests on Held.antt.
use Rattle.std.specs.Prelude.{ℕ, suc, ◌%◌, ◌≤◌, ◌<◌, ◌≡◌, refl, true, false, leb, List, [], ◌∷◌, length, Ok, Option, Some, None, unwrap_or}
use Rattle.std.proofs.Common.{ap, sym, subst, arith, lt-ltb, le-ltb, leb-true, leb-false}
use Rattle.std.proofs.Math.Logic.{∥∥₁_map, ∥∥₁_elim}
use Rattle.std.proofs.Props.{props}
use Rattle.rules.specs.Grid.{Grid}
use Rattle.model.specs.Board.{State}
use Rattle.model.specs.Calls as model
use Rattle.boardview.specs.declared.Arrays.{Arrays}
use Rattle.boardview.specs.View.{logged, grid_in, Ready, view}
use Rattle.boardview.specs.Unwind.{back_to}
use Rattle.board.specs.Past.{Past, begun, marked, past_fresh, past_marked, same_many}
use Rattle.board.specs.Standing.{marks_in, Popped}
use Rattle.board.specs.Holds.{Holds, IsHeld}
use Rattle.board.specs.Held.{Held, number_of, index_of, Says, declined_with}
use Rattle.board.specs.declared.Declined.{Declined}
use Rattle.board.specs.declared.Declined.TheVariants.{NoCheckpoint}
use Rattle.board.specs.declared.parts.Board.{Board}
use Rattle.board.specs.declared.marks.Marks.{Marks}

-- a declined call: its number and index, and the board as it was
pub declined : {b : Board} {B : model.Board} (why : Declined) → Held b B → Says (declined_with why b) (record { number = number_of why; answer = index_of why; board = B })
declined why held = record { number = refl; answer = refl; board = held }

-- CHECKPOINT
module _ (b : Board) (B : model.Board) (held : Held b B) where
  standing_same : length B.standing ≡ length (marks_in b.marks)
  standing_same = same_many held.past

  pub checkpoint_declined : true ≡ leb 256 (length (marks_in b.marks)) → Says (declined_with NoCheckpoint b) (model.add_checkpoint B)
  unfolding model.add_checkpoint
  checkpoint_declined full =
      let most : 256 ≤ length (marks_in b.marks) = leb-true 256 (length (marks_in b.marks)) (sym full) in
      rw (le-ltb (length B.standing) 256 (omega (arith, standing_same, most)), model.add_checkpoint) (declined NoCheckpoint held)

  marked_holds : (marks : Marks) → marks_in marks ≡ b.arrays.count ∷ marks_in b.marks
      → Holds b.arrays b.kinds b.fresh marks (record { grid = B.grid; state = B.state; standing = B.state ∷ B.standing })
  marked_holds marks more = record {
    told = held.told;
    ready = held.ready;
    shows = held.shows;
    no_entries = held.no_entries;
    past = rw (more, ← held.shows) (past_marked (grid_in b.kinds) B.grid b.arrays held.ready held.past);
  }

  pub checkpoint_added : length (marks_in b.marks) < 256 → (marks : Marks) → marks_in marks ≡ b.arrays.count ∷ marks_in b.marks
      → (h : ∥ IsHeld b.arrays b.kinds b.fresh marks ∥₁)
      → Says (record { said = Ok 0; board = record { arrays = b.arrays; kinds = b.kinds; fresh = b.fresh; marks = marks; held = h } }) (model.add_checkpoint B)
  unfolding model.add_checkpoint
  checkpoint_added room marks more h = rw (lt-ltb (length B.standing) 256 (omega (arith, standing_same)), model.add_checkpoint) (record {
    number = refl;
    answer = refl;
    board = marked_holds marks more;
  })

pub room_for_mark : (marks : Marks) → false ≡ leb 256 (length (marks_in marks)) → length (marks_in marks) < 256
room_for_mark marks room = leb-false 256 (length (marks_in marks)) (sym room)

pub marked_held : (b : Board) (marks : Marks) → marks_in marks ≡ b.arrays.count ∷ marks_in b.marks → ∥ IsHeld b.arrays b.kinds b.fresh marks ∥₁
marked_held b marks more = ∥∥₁_map b.held (λ h. (_, marked_holds b h.0 h.1 marks more))

-- UNDO
same_grid : (g : Grid) (states : List State) → model.undo_to g states ≡ record { grid = g; state = (model.undo_to g states).state; standing = (model.undo_to g states).standing }
unfolding model.fresh_board
same_grid g [] = refl
same_grid g (state ∷ states) = refl

-- what the past says of the mark to which undo goes back
record Back (told g : Grid) (start : ℕ) (s : Arrays) (mark : ℕ) (marks : List ℕ) (states : List State) : Type 0 where
  low : mark % 1024 ≤ logged s
  ready : Ready told (back_to told.width s mark)
  shows : view (back_to told.width s mark) ≡ (model.undo_to g states).state
  past : Past told g start (back_to told.width s mark) marks (model.undo_to g states).standing

module _ (told g : Grid) (start : ℕ) (empty : start % 1024 ≡ 0) (s : Arrays) where
  back_to_fresh : {marks : List ℕ} (states : List State) → Past told g start s marks states → marks ≡ [] → Back told g start s start [] states
  unfolding model.fresh_board back_to
  back_to_fresh [] (begun ready shows) none = record { low = omega (arith, empty); ready = ready; shows = shows; past = past_fresh told g (back_to told.width s start) ready shows }
  back_to_fresh (state ∷ states) (marked {marks = marks} low ready shows past) none = let long : suc (length marks) ≡ 0 = ap length none in absurd (omega arith)

  back_to_last : (mark : ℕ) (marks : List ℕ) (states : List State) → Past told g start s (mark ∷ marks) states → Back told g start s mark marks states
  back_to_last mark marks [] past = elim past [ ]
  back_to_last mark marks (state ∷ states) (marked low ready shows past) = record { low = low; ready = ready; shows = shows; past = past }

  back : (marks : List ℕ) (last : Option ℕ) (others : List ℕ) (states : List State) → Past told g start s marks states → Popped marks last others
      → Back told g start s (unwrap_or last start) others states
  back marks None others states past popped = rw popped.1 (back_to_fresh states past popped.0)
  back marks (Some mark) others states past popped = back_to_last mark others states (rw popped at past)

module _ (b : Board) (B : model.Board) (held : Held b B) (last : Option ℕ) (marks : Marks) (popped : Popped (marks_in b.marks) last (marks_in marks)) where
  abbrev mark : ℕ
  mark = unwrap_or last b.fresh

  behind : Back (grid_in b.kinds) B.grid b.fresh b.arrays mark (marks_in marks) B.standing
  behind = back (grid_in b.kinds) B.grid b.fresh held.no_entries b.arrays (marks_in b.marks) last (marks_in marks) B.standing held.past popped

  pub undone : {s : Arrays} → s ≡ back_to (grid_in b.kinds).width b.arrays mark → Holds s b.kinds b.fresh marks (model.undo B)
  unfolding model.undo
  undone {s} is = subst (λ (A : model.Board). Holds s b.kinds b.fresh marks A) (sym (same_grid B.grid B.standing)) (rw is (record {
    told = held.told;
    ready = behind.ready;
    shows = behind.shows;
    no_entries = held.no_entries;
    past = behind.past;
  }))

module _ (b : Board) (last : Option ℕ) (marks : Marks) (popped : Popped (marks_in b.marks) last (marks_in marks)) where
  pub mark_low : unwrap_or last b.fresh % 1024 ≤ logged b.arrays
  mark_low = ∥∥₁_elim b.held one_way (λ h. (behind b h.0 h.1 last marks popped).low)
    where
      one_way : IsProp (unwrap_or last b.fresh % 1024 ≤ logged b.arrays)
      one_way = Prim.hlevel props

  pub undone_held : {s : Arrays} → s ≡ back_to (grid_in b.kinds).width b.arrays (unwrap_or last b.fresh) → ∥ IsHeld s b.kinds b.fresh marks ∥₁
  undone_held is = ∥∥₁_map b.held (λ h. (model.undo h.0, undone b h.0 h.1 last marks popped is))
