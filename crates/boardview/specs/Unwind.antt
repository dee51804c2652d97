-- Laws of the log: undoing more entries is undoing some and then the others, undoing a stored edge or a joined line gives back edges and
-- ends, and SINCE goes from step to step. It rests on View.antt, Bytes.antt and Ends.antt.
use Rattle.std.specs.Prelude.{ℕ, zero, suc, ◌+◌, ◌*◌, ◌-◌, ◌%◌, ◌/◌, ◌<◌, ◌≡◌, refl, true, false, List, get_or, set, length, ℤ, pos, negsuc}
use Rattle.std.proofs.Common.{sym, ap, ◌∙◌, arith, length-set, get_or-set_same, get_or-set_other, set-set}
use Rattle.std.proofs.lemmas.List.{set-get_or}
use Rattle.model.specs.JoinedEnds.{unjoinable}
use Rattle.boardview.specs.declared.Arrays.{Arrays}
use Rattle.boardview.specs.View.{logged, end_of, end_at, joined, unjoined, second_pad, undone_one, unwound, Since, stopped, going}

-- UNDOING ENTRIES
pub unwound_split : (w : ℕ) (log : List ℤ) (m j i : ℕ) (E : List ℕ × List ℤ) → unwound w log m (j + i) E ≡ unwound w log m j (unwound w log (m + j) i E)
unfolding unwound
unwound_split w log m j zero E = ap (λ (n : ℕ). unwound w log m n E) none
  where
    none : j + 0 ≡ j
    none = omega arith
unwound_split w log m j (suc i) E = ap (λ (n : ℕ). unwound w log m n E) more
    ∙ (ap (λ (n : ℕ). unwound w log m (j + i) (undone_one w log n E)) place
    ∙ unwound_split w log m j i (undone_one w log (m + j + i) E))
  where
    more : j + suc i ≡ suc (j + i)
    more = omega arith

    place : m + (j + i) ≡ m + j + i
    place = omega arith

pub kept_unwound : (w : ℕ) (log log' : List ℤ) (m j : ℕ) (E : List ℕ × List ℤ) → ((i : ℕ) → i < 3 * (m + j) → get_or log' i (pos 0) ≡ get_or log i (pos 0))
    → unwound w log' m j E ≡ unwound w log m j E
unfolding unwound undone_one
kept_unwound w log log' m zero E h = refl
kept_unwound w log log' m (suc j) E h = ap (λ (x : List ℕ × List ℤ). unwound w log' m j x) same ∙ kept_unwound w log log' m j (undone_one w log (m + j) E) (λ i k. h i (omega arith))
  where
    same : undone_one w log' (m + j) E ≡ undone_one w log (m + j) E
    same = rw (h (3 * (m + j)) (omega arith), h (3 * (m + j) + 1) (omega arith), h (3 * (m + j) + 2) (omega arith)) refl

-- SINCE
pub since_still : (w : ℕ) (s : Arrays) (count : ℕ) → count % 1024 ≡ logged s → Since w s (record { edges = s.edges; ends = s.ends; log = s.log; count = count })
unfolding unwound
since_still w s count h = record { more = 0; longer = omega arith; kept = λ i k. refl; back = refl }

pub since_then : (w : ℕ) (s s₁ s₂ : Arrays) → Since w s s₁ → Since w s₁ s₂ → Since w s s₂
since_then w s s₁ s₂ a b = record {
  more = a.more + b.more;
  longer = omega (arith, a.longer, b.longer);
  kept = λ i k. b.kept i (omega (arith, a.longer)) ∙ a.kept i k;
  back = unwound_split w s₂.log (logged s) a.more b.more (s₂.edges, s₂.ends)
      ∙ (ap (λ (x : List ℕ × List ℤ). unwound w s₂.log (logged s) a.more x) (rw a.longer at b.back)
      ∙ (kept_unwound w s₁.log s₂.log (logged s) a.more (s₁.edges, s₁.ends) (λ i k. b.kept i (omega (arith, a.longer)))
      ∙ a.back));
}

-- BACK TO A MARK, which is the count that stood then: edges and ends as they were when the log had the length of this mark
abbrev pub before : ℕ → Arrays → ℕ → List ℕ × List ℤ
before width s mark = unwound width s.log (mark % 1024) (logged s - mark % 1024) (s.edges, s.ends)

-- the arrays after undoing back to a mark
unfoldable pub back_to : ℕ → Arrays → ℕ → Arrays
back_to width s mark = record { edges = (before width s mark).0; ends = (before width s mark).1; log = s.log; count = mark }

-- AN ENTRY: its slot, and the two ends
abbrev pub log_stored : List ℤ → ℕ → ℕ → List ℤ
log_stored log n s = set (set log (3 * n) (pos s)) (3 * n + 1) (negsuc 0)

abbrev pub log_joined : List ℤ → ℕ → ℕ → ℤ → ℤ → List ℤ
log_joined log n s A B = set (set (set log (3 * n) (pos s)) (3 * n + 1) A) (3 * n + 2) B

-- the state of an edge stored, and an entry of the log for it
abbrev pub stored : Arrays → ℕ → ℕ → Arrays
stored s n b = record { edges = set s.edges n b; ends = s.ends; log = log_stored s.log (logged s) n; count = s.count }

-- A LINE BEGUN at slot n, between pads v and q: its byte and an entry of the log are stored; the ends of its pads are joined, or, where they
-- cannot be, the flag is set and the decision has ended.
pub record LineBegun (s : Arrays) (n v q : ℕ) (s' : Arrays) : Type 0 where
  pub stores : s'.edges ≡ set s.edges n 1
  pub cannot : unjoinable (end_at s.ends v) (end_at s.ends q) q ≡ true
      → (s'.ends ≡ s.ends) × (s'.log ≡ log_stored s.log (logged s) n) × (s'.count ≡ stopped s.count + 1)
  pub joins : unjoinable (end_at s.ends v) (end_at s.ends q) q ≡ false
      → (s'.ends ≡ joined v q s.ends) × (s'.log ≡ log_joined s.log (logged s) n (get_or s.ends v (pos v)) (get_or s.ends q (pos q))) × (s'.count ≡ going s.count + 1)

module _ (log : List ℤ) (n s : ℕ) (h : 3 * n + 2 < length log) where
  pub slot_stored : get_or (log_stored log n s) (3 * n) (pos 0) ≡ pos s
  slot_stored = get_or-set_other (set log (3 * n) (pos s)) (3 * n + 1) (3 * n) (negsuc 0) (pos 0) (omega arith) ∙ get_or-set_same log (3 * n) (pos s) (pos 0) (omega arith)

  pub mark_stored : get_or (log_stored log n s) (3 * n + 1) (pos 0) ≡ negsuc 0
  mark_stored = get_or-set_same (set log (3 * n) (pos s)) (3 * n + 1) (negsuc 0) (pos 0) (omega (arith, length-set log (3 * n) (pos s)))

  pub stored_kept : (i : ℕ) → i < 3 * n → get_or (log_stored log n s) i (pos 0) ≡ get_or log i (pos 0)
  stored_kept i k = get_or-set_other (set log (3 * n) (pos s)) (3 * n + 1) i (negsuc 0) (pos 0) (omega arith) ∙ get_or-set_other log (3 * n) i (pos s) (pos 0) (omega arith)

  -- undoing a stored edge
  edges_back : (b : ℕ) (edges : List ℕ) → get_or edges s 0 ≡ 0 → set (set edges s b) s 0 ≡ edges
  edges_back b edges z = set-set edges s b 0 ∙ (ap (λ (x : ℕ). set edges s x) (sym z) ∙ set-get_or edges s 0)

  pub stored_back : (w b : ℕ) (edges : List ℕ) (ends : List ℤ) → get_or edges s 0 ≡ 0 → undone_one w (log_stored log n s) n (set edges s b, ends) ≡ (edges, ends)
  unfolding undone_one unjoined end_of
  stored_back w b edges ends z = rw (slot_stored, mark_stored) (λ i. (edges_back b edges z i, ends))

  module _ (A B : ℤ) where
    pub slot_joined : get_or (log_joined log n s A B) (3 * n) (pos 0) ≡ pos s
    slot_joined = get_or-set_other (set (set log (3 * n) (pos s)) (3 * n + 1) A) (3 * n + 2) (3 * n) B (pos 0) (omega arith)
        ∙ (get_or-set_other (set log (3 * n) (pos s)) (3 * n + 1) (3 * n) A (pos 0) (omega arith) ∙ get_or-set_same log (3 * n) (pos s) (pos 0) (omega arith))

    pub first_joined : get_or (log_joined log n s A B) (3 * n + 1) (pos 0) ≡ A
    first_joined = get_or-set_other (set (set log (3 * n) (pos s)) (3 * n + 1) A) (3 * n + 2) (3 * n + 1) B (pos 0) (omega arith)
        ∙ get_or-set_same (set log (3 * n) (pos s)) (3 * n + 1) A (pos 0) (omega (arith, length-set log (3 * n) (pos s)))

    pub second_joined : get_or (log_joined log n s A B) (3 * n + 2) (pos 0) ≡ B
    second_joined = get_or-set_same (set (set log (3 * n) (pos s)) (3 * n + 1) A) (3 * n + 2) B (pos 0)
        (omega (arith, length-set (set log (3 * n) (pos s)) (3 * n + 1) A, length-set log (3 * n) (pos s)))

    pub joined_kept : (i : ℕ) → i < 3 * n → get_or (log_joined log n s A B) i (pos 0) ≡ get_or log i (pos 0)
    joined_kept i k = get_or-set_other (set (set log (3 * n) (pos s)) (3 * n + 1) A) (3 * n + 2) i B (pos 0) (omega arith)
        ∙ (get_or-set_other (set log (3 * n) (pos s)) (3 * n + 1) i A (pos 0) (omega arith) ∙ get_or-set_other log (3 * n) i (pos s) (pos 0) (omega arith))

    -- undoing a joined line
    pub joined_back : (w b : ℕ) (edges : List ℕ) (ends ends' : List ℤ) → get_or edges s 0 ≡ 0 → unjoined (s / 2 - 16) (second_pad w s) A B ends' ≡ ends
        → undone_one w (log_joined log n s A B) n (set edges s b, ends') ≡ (edges, ends)
    unfolding undone_one
    joined_back w b edges ends ends' z e = rw (slot_joined, first_joined, second_joined) (λ i. (edges_back b edges z i, e i))

-- one entry more
pub since_one : (w : ℕ) (s s' : Arrays) → logged s' ≡ logged s + 1 → ((i : ℕ) → i < 3 * logged s → get_or s'.log i (pos 0) ≡ get_or s.log i (pos 0))
    → undone_one w s'.log (logged s) (s'.edges, s'.ends) ≡ (s.edges, s.ends) → Since w s s'
unfolding unwound
since_one w s s' h k b = record { more = 1; longer = h; kept = k; back = ap (λ (n : ℕ). undone_one w s'.log n (s'.edges, s'.ends)) place ∙ b }
  where
    place : logged s + 0 ≡ logged s
    place = omega arith

-- ENTRY BY ENTRY
-- the same log and count with other edges and ends
abbrev pub with_shown : Arrays → List ℕ × List ℤ → Arrays
with_shown s E = record { edges = E.0; ends = E.1; log = s.log; count = s.count }

pub unwound_step : (w : ℕ) (log : List ℤ) (least k : ℕ) (E : List ℕ × List ℤ) → least < k → unwound w log least (k - least) E ≡ unwound w log least (k - 1 - least) (undone_one w log (k - 1) E)
unfolding unwound
unwound_step w log least k E h = ap (λ (n : ℕ). unwound w log least n E) more ∙ ap (λ (n : ℕ). unwound w log least (k - 1 - least) (undone_one w log n E)) place
  where
    more : k - least ≡ suc (k - 1 - least)
    more = omega arith

    place : least + (k - 1 - least) ≡ k - 1
    place = omega arith
