-- The blocks that replay writes: one list put behind another is the two put at once; a block has as many numbers as the board's size asks,
-- the board's size stays, and the blocks of all calls are as many as the calls. Assumes nothing.
use Prim.Native.Nat.{ℕ, ◌+◌, ◌*◌, ◌≤◌}
use mathlib.Core.Path.{◌≡◌, refl, sym, ap, ◌∙◌}
use mathlib.Core.List.{List, [], ◌∷◌, ◌++◌, map, append_assoc}
use native.Mathlib.Omega.{arith}
use lib.ListN.{length, take, drop, length-append, length-map}
use lib.Seq.{paste, length-paste, take-paste, drop-paste, take-length, drop-drop}
use lib.IntN.{ℤ, pos}
use Rattle.rules.specs.Grid.{places, pads}
use Rattle.rules.specs.Drawing.{num}
use Rattle.rules.specs.RecordLaws.{length_field, length_tabulate}
use Rattle.model.specs.Calls as model
use Rattle.model.specs.Calls.{Board, Answer}
use Rattle.board.specs.Held.{Shows}
use Rattle.board.specs.declared.shown.Shown as shown
use Rattle.hunekowha.specs.Replay.{block, block_size}

-- PUT: a whole list at a place of another
abbrev pub put_at : {A : Type 0} → List A → ℕ → List A → List A
put_at old place new = paste old place new (length new)

pub put_then : {A : Type 0} (old : List A) (place : ℕ) (a b : List A) → place + length a + length b ≤ length old
    → put_at (put_at old place a) (place + length a) b ≡ put_at old place (a ++ b)
put_then {A} old place a b fits =
    let front : take (place + length a) (put_at old place a) ≡ take place old ++ a = take-paste old place a (length a) (omega arith) (omega arith) ∙ ap (λ (l : List A). take place old ++ l) (take-length a) in
    let rest : drop (place + length a + length b) (put_at old place a) ≡ drop (place + length a + length b) old =
    sym (drop-drop (length b) (place + length a) (put_at old place a)) ∙ ap (drop (length b)) (drop-paste old place a (length a) (omega arith) (omega arith)) ∙ drop-drop (length b) (place + length a) old in
    let both : place + length (a ++ b) ≡ place + length a + length b = simp length-append (omega arith) in
    ap (λ (l : List A). l ++ take (length b) b ++ drop (place + length a + length b) (put_at old place a)) front
    ∙ ap (λ (l : List A). take place old ++ a ++ l ++ drop (place + length a + length b) (put_at old place a)) (take-length b)
    ∙ ap (λ (l : List A). take place old ++ a ++ b ++ l) rest
    ∙ ap (λ (l : List A). l ++ drop (place + length a + length b) old) (append_assoc (take place old) a b)
    ∙ ap (λ (n : ℕ). take place old ++ (a ++ b) ++ drop n old) (sym both)
    ∙ ap (λ (l : List A). take place old ++ l ++ drop (place + length (a ++ b)) old) (sym (take-length (a ++ b)))

pub length_put : {A : Type 0} (old : List A) (place : ℕ) (new : List A) → place + length new ≤ length old → length (put_at old place new) ≡ length old
length_put old place new fits = length-paste old place new (length new) fits (omega arith)

-- the size, by what is shown
pub size_shown : {B : Board} {r : shown.Shown} → Shows r B → 3 + places r.height r.width + r.height * r.width ≡ block_size B
size_shown shows = λ i. 3 + places (shows.height i) (shows.width i) + shows.height i * shows.width i

-- A BLOCK has as many numbers as its size says
pub block_long : (A : Answer) → length (block A) ≡ block_size A.board
unfolding block model.shown
block_long A = simp (length-append, length-map, length_field, length_tabulate) (omega arith)

-- THE BLOCK as the code puts it: the head, the edges, the ends
module _ (old : List ℤ) (place : ℕ) (A : Answer) (r : shown.Shown) (shows : Shows r A.board) (fits : place + block_size A.board ≤ length old) where
  abbrev head : List ℤ
  head = map pos (A.number ∷ A.answer ∷ num (model.shown A.board).flag ∷ [])

  abbrev edges : List ℤ
  edges = map pos (model.shown A.board).edges

  abbrev ends : List ℤ
  ends = (model.shown A.board).ends

  edges_long : length edges ≡ places A.board.grid.height A.board.grid.width
  unfolding model.shown
  edges_long = simp (length-map, length_field) refl

  ends_long : length ends ≡ pads A.board.grid
  unfolding model.shown
  ends_long = simp length_tabulate refl

  pub block_put : put_at (put_at (put_at old place head) (place + 3) edges) (place + 3 + places A.board.grid.height A.board.grid.width) ends ≡ put_at old place (block A)
  unfolding block
  block_put =
      let first = put_then old place head edges (omega (arith, edges_long)) in
      let both : length (head ++ edges) ≡ 3 + length edges = simp length-append refl in
      ap (λ (l : List ℤ). put_at l (place + 3 + places A.board.grid.height A.board.grid.width) ends) first
      ∙ ap (λ (n : ℕ). put_at (put_at old place (head ++ edges)) n ends) (let e : place + 3 + places A.board.grid.height A.board.grid.width ≡ place + length (head ++ edges) = omega (arith, edges_long) in e)
      ∙ put_then old place (head ++ edges) ends (omega (arith, edges_long, ends_long))

  -- as the code has it: numbers of its own, and parts of what the board shows
  abbrev shown_edges : List ℕ
  shown_edges = take (places r.height r.width) r.edges

  abbrev shown_ends : List ℤ
  shown_ends = take (r.height * r.width) r.ends

  edges_many : length shown_edges ≡ places A.board.grid.height A.board.grid.width
  edges_many = ap length shows.edges ∙ sym (length-map (model.shown A.board).edges pos) ∙ edges_long

  ends_many : length shown_ends ≡ pads A.board.grid
  ends_many = ap length shows.ends ∙ ends_long

  module _ (number given flag : ℕ) (after₁ : List ℤ) (put₁ : after₁ ≡ paste old place (map pos (number ∷ given ∷ flag ∷ [])) 3) where
    long₁ : length after₁ ≡ length old
    long₁ = ap length put₁ ∙ length-paste old place (map pos (number ∷ given ∷ flag ∷ [])) 3 (omega arith) (omega arith)

    pub room_for_edges : place + 3 + length shown_edges ≤ length after₁
    room_for_edges = omega (arith, long₁, edges_many)

    module _ (after₂ : List ℤ) (put₂ : after₂ ≡ paste after₁ (place + 3) (map pos shown_edges) (length shown_edges)) where
      long₂ : length after₂ ≡ length old
      long₂ = ap length put₂ ∙ length-paste after₁ (place + 3) (map pos shown_edges) (length shown_edges) room_for_edges (omega (arith, length-map shown_edges pos)) ∙ long₁

      pub block_written : number ≡ A.number → given ≡ A.answer → flag ≡ num (model.shown A.board).flag → (after₃ : List ℤ)
          → after₃ ≡ paste after₂ (place + 3 + length shown_edges) shown_ends (length shown_ends) → after₃ ≡ put_at old place (block A)
      block_written same_number same_answer same_flag after₃ put₃ =
          let at₁ : after₁ ≡ put_at old place head = put₁ ∙ (λ i. paste old place (map pos (same_number i ∷ same_answer i ∷ same_flag i ∷ [])) 3) in
          let at₂ : after₂ ≡ put_at (put_at old place head) (place + 3) edges =
          put₂ ∙ (λ i. paste (at₁ i) (place + 3) (map pos (shows.edges i)) (length (shows.edges i)))
          ∙ ap (λ (n : ℕ). paste (put_at old place head) (place + 3) edges n) (sym (length-map (model.shown A.board).edges pos)) in
          put₃ ∙ (λ i. paste (at₂ i) (place + 3 + edges_many i) (shows.ends i) (length (shows.ends i))) ∙ block_put
