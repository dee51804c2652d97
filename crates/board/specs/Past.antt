-- What undo gives back: the arrays of a board hold the state at each standing checkpoint, and the fresh board behind them all, in that
-- undoing the entries of the log made since gives them. A checkpoint is marked by the count that stood then: the log's length and the flag;
-- and so is the fresh board, whose log is empty and whose flag may be set.
-- It rests on boardview's View.antt and Unwind.antt.
use Rattle.std.specs.Prelude.{ℕ, suc, ◌+◌, ◌*◌, ◌-◌, ◌%◌, ◌≤◌, ◌<◌, ◌≡◌, List, [], ◌∷◌, get_or, length, ℤ, pos}
use Rattle.std.proofs.Math.Path.{refl}
use Rattle.std.proofs.Common.{ap, ◌∙◌}
use native.Mathlib.Omega.{arith}
use Rattle.rules.specs.Grid.{Grid}
use Rattle.model.specs.Board.{State, fresh}
use Rattle.boardview.specs.declared.Arrays.{Arrays}
use Rattle.boardview.specs.View.{logged, view, Entry, Ready, unwound, Since}
use Rattle.boardview.specs.Stores.{relogged}
use Rattle.boardview.specs.Unwind.{before, back_to, unwound_split, kept_unwound}

-- THE PAST of a board: the marks of the standing checkpoints, the last one first, and the states that stood then; behind them the fresh board,
-- at the mark `start`
pub data Past (told g : Grid) (start : ℕ) : Arrays → List ℕ → List State → Type 0 where
  begun : {s : Arrays} → Ready told (back_to told.width s start) → view (back_to told.width s start) ≡ fresh g → Past told g start s [] []
  marked : {s : Arrays} {mark : ℕ} {marks : List ℕ} {S : State} {states : List State}
      → mark % 1024 ≤ logged s → Ready told (back_to told.width s mark) → view (back_to told.width s mark) ≡ S
      → Past told g start (back_to told.width s mark) marks states → Past told g start s (mark ∷ marks) (S ∷ states)

pub same_many : {told g : Grid} {start : ℕ} {s : Arrays} {marks : List ℕ} {states : List State} → Past told g start s marks states → length states ≡ length marks
same_many (begun ready shows) = refl
same_many (marked low ready shows past) = ap suc (same_many past)

-- WHAT WAS UNDONE LATER: undoing to an earlier mark passes through every later length of the log
module _ (width : ℕ) (s t : Arrays) (since : Since width s t) (mark : ℕ) (low : mark % 1024 ≤ logged s) where
  same_before : before width t mark ≡ before width s mark
  same_before =
      let m = mark % 1024 in
      let all : logged t - m ≡ (logged s - m) + since.more = omega (arith, since.longer) in
      let place : m + (logged s - m) ≡ logged s = omega arith in
      ap (λ (n : ℕ). unwound width t.log m n (t.edges, t.ends)) all
      ∙ unwound_split width t.log m (logged s - m) since.more (t.edges, t.ends)
      ∙ ap (λ (n : ℕ). unwound width t.log m (logged s - m) (unwound width t.log n since.more (t.edges, t.ends))) place
      ∙ ap (λ (E : List ℕ × List ℤ). unwound width t.log m (logged s - m) E) since.back
      ∙ kept_unwound width s.log t.log m (logged s - m) (s.edges, s.ends) (λ i k. since.kept i (omega arith))

  -- the two boards at the mark differ only in the log past it
  pub since_before : Since width (back_to width s mark) (back_to width t mark)
  unfolding back_to unwound
  since_before = record { more = 0; longer = omega arith; kept = λ i k. since.kept i (omega arith); back = same_before }

-- WHAT IS TRUE OF EVERY BOARD'S ARRAYS asks of the log only its length and its first entries
entry_kept : (told : Grid) (log others : List ℤ) (k : ℕ) → ((i : ℕ) → i < 3 * k + 3 → get_or others i (pos 0) ≡ get_or log i (pos 0)) → Entry told log k → Entry told others k
entry_kept told log others k kept entry = record {
  number = rw (kept (3 * k) (omega arith)) entry.number;
  on = rw (kept (3 * k) (omega arith)) entry.on;
  first = rw (kept (3 * k + 1) (omega arith)) entry.first;
  second = rw (kept (3 * k + 1) (omega arith), kept (3 * k + 2) (omega arith)) entry.second;
}

ready_log : (told : Grid) (s : Arrays) (log : List ℤ) → length log ≡ 1440 → ((i : ℕ) → i < 3 * logged s → get_or log i (pos 0) ≡ get_or s.log i (pos 0))
    → Ready told s → Ready told (record { edges = s.edges; ends = s.ends; log = log; count = s.count })
ready_log told s log long kept ready = relogged told s log s.count ready long ready.mode (omega arith)
    (λ k below. entry_kept told s.log log k (λ i low. kept i (omega arith)) (ready.entries k below))

module _ (told g : Grid) where
  ready_before : (s t : Arrays) → Since told.width s t → length t.log ≡ 1440 → (mark : ℕ) → mark % 1024 ≤ logged s
      → Ready told (back_to told.width s mark) → Ready told (back_to told.width t mark)
  unfolding back_to
  ready_before s t since long mark low ready =
      rw (same_before told.width s t since mark low) (ready_log told (back_to told.width s mark) t.log long (λ i below. since.kept i (omega arith)) ready)

  view_before : (s t : Arrays) → Since told.width s t → (mark : ℕ) → mark % 1024 ≤ logged s
      → view (back_to told.width t mark) ≡ view (back_to told.width s mark)
  unfolding back_to view
  view_before s t since mark low = rw (same_before told.width s t since mark low) refl

  -- THE PAST STAYS: what is decided later is undone first
  pub past_since : {start : ℕ} → start % 1024 ≡ 0 → (s t : Arrays) {marks : List ℕ} {states : List State} → Since told.width s t → length t.log ≡ 1440
      → Past told g start s marks states → Past told g start t marks states
  unfolding back_to
  past_since {start} empty s t since long (begun ready shows) = begun (ready_before s t since long start (omega arith) ready) (view_before s t since start (omega arith) ∙ shows)
  past_since empty s t since long (marked {mark = mark} low ready shows past) = marked {s = t} {mark = mark} (omega (arith, since.longer)) (ready_before s t since long mark low ready)
      (view_before s t since mark low ∙ shows) (past_since empty (back_to told.width s mark) (back_to told.width t mark) (since_before told.width s t since mark low) long past)

  -- back to where the board stands
  here : (s : Arrays) → back_to told.width s s.count ≡ s
  unfolding back_to unwound
  here s = rw none refl
    where
      none : logged s - logged s ≡ 0
      none = omega arith

  -- A FRESH BOARD, and a checkpoint
  pub past_fresh : (s : Arrays) → Ready told s → view s ≡ fresh g → Past told g s.count s [] []
  past_fresh s ready shows = let at = here s in begun {s = s} (rw at ready) (rw at shows)

  pub past_marked : (s : Arrays) {start : ℕ} {marks : List ℕ} {states : List State} → Ready told s → Past told g start s marks states
      → Past told g start s (s.count ∷ marks) (view s ∷ states)
  past_marked s {marks} {states} ready past = let at = here s in marked {s = s} {mark = s.count} {marks = marks} {states = states} (omega arith) (rw at ready) (ap view at) (rw at past)
