-- EXACT LISTS: a list of records that holds each listed layout of a grid exactly once, ascending by codes, and nothing else. A grid has one such
-- list. An engine whose layouts are exact stops early exactly where its count or its room runs out, and its list is then a beginning of that one.
-- Nothing here speaks of how an engine finds its layouts. It rests on Events.antt, Runs.antt and the rules' laws.
use Rattle.std.specs.Prelude.{ℕ, ◌≡◌, length, ℤ}
use Rattle.std.proofs.Math.Path.{refl, sym, ap, subst}
use Rattle.std.proofs.Common.{◌∙◌, arith, ne_eqb}
use Rattle.std.proofs.Math.Logic.{⊎_elim}
use mathlib.Core.List.Memᴰ
use mathlib.Core.List.{List, [], ◌∷◌, ◌++◌, Memᴰ, map}
use Rattle.rules.specs.Grid.{places, Grid, grid_of, Accepted}
use Rattle.rules.specs.Drawing.{Drawing, drawn, Listed}
use Rattle.rules.specs.Record.{byte_of, record_of, ListedRecord, Before, Ascending, lower, later}
use Rattle.rules.specs.RecordLaws.{length_field}
use Rattle.model.specs.Refusals.{grid_refusal}
use Rattle.model.specs.RefusalLaws.{accepted_is_not_refused}
use Rattle.model.specs.Runs.{Event, Run, scan, fewest, solved, declined_search, listed_by}
use Rattle.runs.specs.Events.{layouts_of, visits_of, shown_codes, Distinct, not_before_itself, mem_map, leading, following}
use Rattle.runs.specs.Runs.{RunSays, FewestOf}

-- EXACT: the list holds each listed layout once, ascending, and nothing else
pub record Exact (g : Grid) (layouts : List (List ℕ)) : Type 1 where
  -- nothing is added: each is the record of a listed drawing
  pub nothing_added : (bytes : List ℕ) → Memᴰ bytes layouts → ListedRecord g bytes
  -- nothing is lost: the record of every listed drawing is there
  pub nothing_lost : (D : Drawing) → Listed g D → Memᴰ (record_of g D) layouts
  -- they ascend by the codes of the pads
  pub ascending : Ascending (map (shown_codes g) layouts)
  -- so none stands twice
  pub each_once : Distinct layouts

-- each record of such a list is as long as the field has places
pub exact_long : (g : Grid) (layouts : List (List ℕ)) → Exact g layouts → (r : List ℕ) → Memᴰ r layouts → length r ≡ places g.height g.width
unfolding record_of
exact_long g layouts whole r m = let l = whole.nothing_added r m in ap length l.shown ∙ length_field g.height g.width (λ e. byte_of (drawn l.drawing e))

-- ## One list a grid

-- (the proof takes four lists, equal in pairs: antt matches `Before` only at two different lists)
one_way : (k l : List ℕ) → Before k l → (m n : List ℕ) → Before m n → l ≡ m → k ≡ n → ⊥
one_way [] l p m n q e f = elim p [ ]
one_way (a ∷ k) [] p m n q e f = elim p [ ]
one_way (a ∷ k) (b ∷ l) (lower h) [] n q e f = elim q [ ]
one_way (a ∷ k) (b ∷ l) (later p) [] n q e f = elim q [ ]
one_way (a ∷ k) (b ∷ l) (lower h) (c ∷ m) [] q e f = elim q [ ]
one_way (a ∷ k) (b ∷ l) (later p) (c ∷ m) [] q e f = elim q [ ]
one_way (a ∷ k) (b ∷ l) (lower h) (c ∷ m) (d ∷ n) (lower j) e f = let s = ap leading e in let t = ap leading f in omega (arith, h, j, s, t)
one_way (a ∷ k) (b ∷ l) (lower h) (c ∷ m) (d ∷ n) (later q) e f = let s = ap leading e in let t = ap leading f in omega (arith, h, s, t)
one_way (a ∷ k) (b ∷ l) (later p) (c ∷ m) (d ∷ n) (lower j) e f = let s = ap leading e in let t = ap leading f in omega (arith, j, s, t)
one_way (a ∷ k) (b ∷ l) (later p) (c ∷ m) (d ∷ n) (later q) e f = one_way k l p m n q (ap following e) (ap following f)

-- of two different codes only one comes before the other
before_one_way : (k l : List ℕ) → Before k l → Before l k → ⊥
before_one_way k l p q = one_way k l p l k q refl refl

-- ascending lists with the same members are equal
module _ (f : List ℕ → List ℕ) where
  first_same : (x : List ℕ) (a : List (List ℕ)) (y : List ℕ) (b : List (List ℕ)) → Ascending (map f (x ∷ a)) → Ascending (map f (y ∷ b))
      → Memᴰ x (y ∷ b) → Memᴰ y (x ∷ a) → x ≡ y
  unfolding Ascending
  first_same x a y b p q m n = ⊎_elim (λ e. e)
      (λ m'. ⊎_elim (λ e. sym e)
      (λ n'. absurd (before_one_way (f x) (f y) (p.0 (f y) (mem_map f a y n')) (q.0 (f x) (mem_map f b x m'))))
      (Memᴰ.cases_cons n)) (Memᴰ.cases_cons m)

  -- a member of a list that is not its first is further on
  rest_mem : (x : List ℕ) (a : List (List ℕ)) (y : List ℕ) (b : List (List ℕ)) → Ascending (map f (x ∷ a)) → x ≡ y
      → ((z : List ℕ) → Memᴰ z (x ∷ a) → Memᴰ z (y ∷ b)) → (z : List ℕ) → Memᴰ z a → Memᴰ z b
  unfolding Ascending
  rest_mem x a y b p e into z m = ⊎_elim
      (λ same. absurd (not_before_itself (f x) (subst (λ w. Before (f x) (f w)) (same ∙ sym e) (p.0 (f z) (mem_map f a z m)))))
      (λ m'. m') (Memᴰ.cases_cons (into z (Memᴰ.tail m)))

  pub ascending_same : (a b : List (List ℕ)) → Ascending (map f a) → Ascending (map f b)
      → ((z : List ℕ) → Memᴰ z a → Memᴰ z b) → ((z : List ℕ) → Memᴰ z b → Memᴰ z a) → a ≡ b
  unfolding Ascending
  ascending_same [] [] p q into back = refl
  ascending_same [] (y ∷ b) p q into back = absurd (Memᴰ.not-nil (back y (Memᴰ.head refl)))
  ascending_same (x ∷ a) [] p q into back = absurd (Memᴰ.not-nil (into x (Memᴰ.head refl)))
  ascending_same (x ∷ a) (y ∷ b) p q into back =
      let e = first_same x a y b p q (into x (Memᴰ.head refl)) (back y (Memᴰ.head refl)) in
      let rest = ascending_same a b p.1 q.1 (rest_mem x a y b p e into) (rest_mem y b x a q (sym e) back) in
      (λ i. e i ∷ rest i)

pub exact_same : (g : Grid) (a b : List (List ℕ)) → Exact g a → Exact g b → a ≡ b
exact_same g a b p q = ascending_same (shown_codes g) a b p.ascending q.ascending (into a b p q) (into b a q p)
  where
    into : (a b : List (List ℕ)) → Exact g a → Exact g b → (z : List ℕ) → Memᴰ z a → Memᴰ z b
    into a b p q z m = let l = p.nothing_added z m in Memᴰ.cast l.shown (q.nothing_lost l.drawing l.listed)

-- ## Runs of an engine whose layouts are exact

-- A RUN of an accepted grid, with any limit and any room
pub record ExactRun (g : Grid) (events : List Event) (limit room : ℕ) (run : Run) : Type 1 where
  -- where it stops, and what it then reports: Runs.antt
  pub stops_where : RunSays limit (places g.height g.width) room events run
  -- its records are a beginning of the layouts
  pub rest : List (List ℕ)
  pub beginning : run.records ++ rest ≡ layouts_of events
  -- and each of them is listed
  pub nothing_added : (bytes : List ℕ) → Memᴰ bytes run.records → ListedRecord g bytes
  -- complete: they are all the layouts, and visited counts every entry
  pub complete : run.outcome ≡ 0 → Exact g run.records
  pub complete_visited : run.outcome ≡ 0 → run.visited ≡ visits_of events
  -- the fewest lines, 481 for none
  pub fewest_lines : FewestOf run.records (fewest run.records)

-- ## The call of an engine

-- on an accepted grid it is such a run, with the answer buffer as room: nothing is refused
pub call_is_run : (events : Grid → List Event) (height width : ℕ) (cells : List ℤ) → Accepted height width cells → (limit : ℕ) (buffer : List ℕ)
    → listed_by events height width cells limit buffer ≡ solved (scan limit (places height width) 0 (length buffer) (events (grid_of height width cells))) buffer
unfolding listed_by
call_is_run events height width cells accepted limit buffer = rw (accepted_is_not_refused height width cells accepted, listed_by) refl

-- and on a grid that is refused it is declined
pub call_is_declined : (events : Grid → List Event) (height width : ℕ) (cells : List ℤ) → ((grid_refusal height width cells).0 ≡ 0 → ⊥) → (limit : ℕ) (buffer : List ℕ)
    → listed_by events height width cells limit buffer ≡ declined_search (grid_refusal height width cells).0 (grid_refusal height width cells).1 buffer
unfolding listed_by
call_is_declined events height width cells refused limit buffer = rw (ne_eqb (grid_refusal height width cells).0 0 refused, listed_by) refl
