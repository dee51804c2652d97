-- The loop over the calls: the grid of the board stays, an answer is small, a call gives one block more, and at the end all blocks are written.
-- It rests on Blocks.antt and on the model. Assumes nothing.
use Prim.Native.Nat.{ℕ, zero, suc, ◌+◌, ◌*◌, ◌/◌, ◌≤◌, ◌<◌}
use mathlib.Core.Path.{◌≡◌, refl, sym, ap, ◌∙◌}
use mathlib.Core.Bool.{Bool, true, false, ◌&&◌}
use mathlib.Core.List.{List, [], ◌∷◌, ◌++◌, append_assoc, append-nil}
use native.Mathlib.Omega.{arith}
use native.Mathlib.Nat.{mul-le-mul, mul-le-mul_right, suc-mul}
use native.Mathlib.Numerals.{add-one}
use lib.Dec.{eqb, ltb}
use lib.ListN.{length, drop, get_or, length-append, length-drop}
use lib.Seq.{paste-zero, drop-cons}
use lib.IntN.{ℤ}
use borrow.Author.Tests.{eqb-true, ltb-true}
use Rattle.rules.specs.Grid.{places, pads, Place, edge, no_edge, Grid}
use Rattle.rules.specs.Tests.{both, num_small}
use Rattle.model.specs.Bounds.{is_size}
use Rattle.model.specs.Board.{EdgeState, undecided, line, none, State, decide, enough}
use Rattle.model.specs.Refusals.{first_bad_cell, grid_refusal}
use Rattle.model.specs.RefusalLaws.{size_of_test}
use Rattle.model.specs.Calls.{Board, Answer, state_byte, decide_edge, decide_at, edge_at, read_edge, read_at, add_checkpoint, undo, undo_to, fresh_board, new}
use Rattle.board.specs.Held.{Held, answer_said, Says}
use Rattle.board.specs.declared.parts.Board as code
use Rattle.board.specs.declared.Answer as code_answer
use Rattle.hunekowha.specs.Replay.{Given, fresh_answer, called, block, block_size, blocks, all_blocks}
use Rattle.hunekowha.proofs.Blocks.{put_at, put_then, length_put, block_long}

-- ONE OF SEVERAL CALLS
by_kind : (P : Answer → Type 0) (g : Given) (b : Board) (kind row column state : ℕ) → P (decide_edge b row column state) → P (read_edge b row column) → P (add_checkpoint b)
    → P (record { number = 0; answer = 0; board = undo b }) → P (fresh_answer g) → P (called g b kind row column state)
unfolding called
by_kind P g b kind row column state p1 p2 p3 p4 p0 = go (eqb kind 1) (eqb kind 2) (eqb kind 3) (eqb kind 4) refl refl refl refl
  where
    go : (a c d e : Bool) → eqb kind 1 ≡ a → eqb kind 2 ≡ c → eqb kind 3 ≡ d → eqb kind 4 ≡ e → P (called g b kind row column state)
    go true c d e h1 h2 h3 h4 = rw h1 p1
    go false true d e h1 h2 h3 h4 = rw (h1, h2) p2
    go false false true e h1 h2 h3 h4 = rw (h1, h2, h3) p3
    go false false false true h1 h2 h3 h4 = rw (h1, h2, h3, h4) p4
    go false false false false h1 h2 h3 h4 = rw (h1, h2, h3, h4) p0

-- THE GRID STAYS
decided_grid : (b : Board) (p : Place) (byte : ℕ) → (decide_at b p byte).board.grid ≡ b.grid
decided_grid b no_edge byte = refl
decided_grid b (edge e) byte = go (eqb byte 1) (eqb byte 2) refl refl
  where
    go : (a c : Bool) → eqb byte 1 ≡ a → eqb byte 2 ≡ c → (decide_at b (edge e) byte).board.grid ≡ b.grid
    go true c h1 h2 = rw (h1, decide_at) refl
    go false true h1 h2 = rw (h1, h2, decide_at) refl
    go false false h1 h2 = rw (h1, h2, decide_at) refl

read_grid : (b : Board) (p : Place) → (read_at b p).board.grid ≡ b.grid
read_grid b no_edge = refl
read_grid b (edge e) = refl

checkpoint_grid : (b : Board) → (add_checkpoint b).board.grid ≡ b.grid
unfolding add_checkpoint
checkpoint_grid b = go (ltb (length b.standing) 256) refl
  where
    go : (t : Bool) → ltb (length b.standing) 256 ≡ t → (add_checkpoint b).board.grid ≡ b.grid
    go true h = rw (h, add_checkpoint) refl
    go false h = rw (h, add_checkpoint) refl

undo_grid : (g : Grid) (states : List State) → (undo_to g states).grid ≡ g
unfolding fresh_board
undo_grid g [] = refl
undo_grid g (S ∷ states) = refl

pub called_grid : (g : Given) (b : Board) (kind row column state : ℕ) → b.grid ≡ (fresh_answer g).board.grid → (called g b kind row column state).board.grid ≡ (fresh_answer g).board.grid
unfolding decide_edge read_edge undo
called_grid g b kind row column state same = by_kind (λ A. A.board.grid ≡ (fresh_answer g).board.grid) g b kind row column state
    (decided_grid b (edge_at b.grid row column) state ∙ same) (read_grid b (edge_at b.grid row column) ∙ same) (checkpoint_grid b ∙ same) (undo_grid b.grid b.standing ∙ same) refl

-- AN ANSWER IS SMALL
byte_small : (m : EdgeState) → state_byte m ≤ 255
byte_small undecided = omega arith
byte_small line = omega arith
byte_small none = omega arith

decided_small : (b : Board) (p : Place) (byte : ℕ) → (decide_at b p byte).answer ≤ 255
decided_small b no_edge byte = omega arith
decided_small b (edge e) byte = go (eqb byte 1) (eqb byte 2) refl refl
  where
    go : (a c : Bool) → eqb byte 1 ≡ a → eqb byte 2 ≡ c → (decide_at b (edge e) byte).answer ≤ 255
    go true c h1 h2 = rw (h1, decide_at) (omega (arith, num_small (decide b.grid (enough b.grid) e line b.state).flag))
    go false true h1 h2 = rw (h1, h2, decide_at) (omega (arith, num_small (decide b.grid (enough b.grid) e none b.state).flag))
    go false false h1 h2 = rw (h1, h2, decide_at) (omega arith)

read_small : (b : Board) (p : Place) → (read_at b p).answer ≤ 255
read_small b no_edge = omega arith
read_small b (edge e) = byte_small (b.state.edge e)

checkpoint_small : (b : Board) → (add_checkpoint b).answer ≤ 255
unfolding add_checkpoint
checkpoint_small b = go (ltb (length b.standing) 256) refl
  where
    go : (t : Bool) → ltb (length b.standing) 256 ≡ t → (add_checkpoint b).answer ≤ 255
    go true h = rw (h, add_checkpoint) (omega arith)
    go false h = rw (h, add_checkpoint) (omega arith)

index_small : (height width : ℕ) (cells : List ℤ) → (grid_refusal height width cells).1 ≤ 255
unfolding grid_refusal
index_small height width cells = go (is_size height && is_size width) (eqb (length cells) (height * width)) (ltb (first_bad_cell cells) (length cells)) refl refl refl
  where
    go : (a c d : Bool) → is_size height && is_size width ≡ a → eqb (length cells) (height * width) ≡ c → ltb (first_bad_cell cells) (length cells) ≡ d → (grid_refusal height width cells).1 ≤ 255
    go false c d h1 h2 h3 = rw h1 (omega arith)
    go true false d h1 h2 h3 = rw (h1, h2) (omega arith)
    go true true false h1 h2 h3 = rw (h1, h2, h3) (omega arith)
    go true true true h1 h2 h3 =
        let sizes = both (is_size height) (is_size width) h1 in
        let few : height * width ≤ 16 * 16 = mul-le-mul (size_of_test height sizes.0).1 (size_of_test width sizes.1).1 in
        let many : length cells ≡ height * width = eqb-true (length cells) (height * width) h2 in
        let below : first_bad_cell cells < length cells = ltb-true (first_bad_cell cells) (length cells) h3 in
        rw (h1, h2, h3) (omega arith)

fresh_small : (g : Given) → (fresh_answer g).answer ≤ 255
unfolding new
fresh_small g = go (eqb (grid_refusal g.height g.width g.cells).0 0) refl
  where
    go : (t : Bool) → eqb (grid_refusal g.height g.width g.cells).0 0 ≡ t → (fresh_answer g).answer ≤ 255
    go true h = rw (h, new) (omega arith)
    go false h = rw (h, new) (index_small g.height g.width g.cells)

pub called_small : (g : Given) (b : Board) (kind row column state : ℕ) → (called g b kind row column state).answer ≤ 255
unfolding decide_edge read_edge
called_small g b kind row column state = by_kind (λ A. A.answer ≤ 255) g b kind row column state
    (decided_small b (edge_at b.grid row column) state) (read_small b (edge_at b.grid row column)) (checkpoint_small b) (omega arith) (fresh_small g)

pub said_small : {r : code_answer.Answer} {A : Answer} → Says r A → A.answer ≤ 255 → answer_said r.said ≤ 255
said_small says small = omega (arith, says.answer)

-- THE BLOCKS, call by call
module _ (g : Given) (calls : List ℕ) where
  -- the call at place i of the list
  abbrev pub call_at : Board → ℕ → Answer
  call_at b i = called g b (get_or calls (4 * i) 0) (get_or calls (4 * i + 1) 0) (get_or calls (4 * i + 2) 0) (get_or calls (4 * i + 3) 0)

  four : (i : ℕ) → 4 * i + 4 ≤ length calls
      → drop (4 * i) calls ≡ get_or calls (4 * i) 0 ∷ get_or calls (4 * i + 1) 0 ∷ get_or calls (4 * i + 2) 0 ∷ get_or calls (4 * i + 3) 0 ∷ drop (4 * (i + 1)) calls
  four i inside =
      drop-cons calls (4 * i) 0 (omega arith)
      ∙ ap (λ (l : List ℕ). get_or calls (4 * i) 0 ∷ l) (ap (λ (n : ℕ). drop n calls) (sym (add-one (4 * i))) ∙ drop-cons calls (4 * i + 1) 0 (omega arith)
      ∙ ap (λ (l : List ℕ). get_or calls (4 * i + 1) 0 ∷ l) (ap (λ (n : ℕ). drop n calls) (let e : suc (4 * i + 1) ≡ 4 * i + 2 = omega arith in e) ∙ drop-cons calls (4 * i + 2) 0 (omega arith)
      ∙ ap (λ (l : List ℕ). get_or calls (4 * i + 2) 0 ∷ l) (ap (λ (n : ℕ). drop n calls) (let e : suc (4 * i + 2) ≡ 4 * i + 3 = omega arith in e) ∙ drop-cons calls (4 * i + 3) 0 (omega arith)
      ∙ ap (λ (l : List ℕ). get_or calls (4 * i + 3) 0 ∷ l) (ap (λ (n : ℕ). drop n calls) (let e : suc (4 * i + 3) ≡ 4 * (i + 1) = omega arith in e)))))

  next_block : (b : Board) (i : ℕ) → 4 * i + 4 ≤ length calls → blocks g b (drop (4 * i) calls) ≡ block (call_at b i) ++ blocks g (call_at b i).board (drop (4 * (i + 1)) calls)
  unfolding blocks
  next_block b i inside = ap (blocks g b) (four i inside)

  short_list : (b : Board) (l : List ℕ) → length l < 4 → blocks g b l ≡ []
  unfolding blocks
  short_list b [] short = refl
  short_list b (k ∷ []) short = refl
  short_list b (k ∷ r ∷ []) short = refl
  short_list b (k ∷ r ∷ c ∷ []) short = refl
  short_list b (k ∷ r ∷ c ∷ s ∷ l) short = absurd (omega arith)

  no_block : (b : Board) (i : ℕ) → length calls < 4 * i + 4 → blocks g b (drop (4 * i) calls) ≡ []
  no_block b i past = short_list b (drop (4 * i) calls) (simp length-drop (omega arith))

-- A LOOP over so many calls, each giving a block of this size
module _ (g : Given) (calls : List ℕ) (size count : ℕ) (is_size_of : size ≡ block_size (fresh_answer g).board) (is_count : count ≡ length calls / 4) where
  block_of_size : (A : Answer) → A.board.grid ≡ (fresh_answer g).board.grid → length (block A) ≡ size
  block_of_size A same = block_long A ∙ (λ i. 3 + places (same i).height (same i).width + pads (same i)) ∙ sym is_size_of

  -- the blocks of the calls that are left
  blocks_left : (n i : ℕ) (b : Board) → b.grid ≡ (fresh_answer g).board.grid → i + n ≡ count → length (blocks g b (drop (4 * i) calls)) ≡ n * size
  blocks_left zero i b same left = ap length (no_block g calls b i (omega (arith, is_count))) ∙ (let e : 0 ≡ 0 * size = omega arith in e)
  blocks_left (suc n) i b same left =
      let next = call_at g calls b i in
      let kept = called_grid g b (get_or calls (4 * i) 0) (get_or calls (4 * i + 1) 0) (get_or calls (4 * i + 2) 0) (get_or calls (4 * i + 3) 0) same in
      ap length (next_block g calls b i (omega (arith, is_count))) ∙ length-append (block next) (blocks g next.board (drop (4 * (i + 1)) calls))
      ∙ (λ j. block_of_size next kept j + blocks_left n (i + 1) next.board kept (omega arith) j) ∙ sum
    where
      sum : size + n * size ≡ suc n * size
      sum = let e = suc-mul n size in omega arith

  pub all_long : length (all_blocks g calls) ≡ count * size
  all_long = blocks_left count 0 (fresh_answer g).board refl (omega arith)

  -- WHERE THE LOOP STANDS: the board holds one of the model's, and the blocks so far are written
  pub record Replaying (start answer : List ℤ) (board : code.Board) (i : ℕ) : Type 0 where
    pub of : Board
    pub held : Held board of
    pub same_grid : of.grid ≡ (fresh_answer g).board.grid
    pub done : List ℤ
    pub many : length done ≡ i * size
    pub written : answer ≡ put_at start 0 done
    pub rest : done ++ blocks g of (drop (4 * i) calls) ≡ all_blocks g calls
    pub within : i ≤ count

  module _ (start : List ℤ) (room : count * size ≤ length start) where
    pub begins : {fresh : code.Board} → Held fresh (fresh_answer g).board → Replaying start start fresh 0
    begins held = record {
      of = (fresh_answer g).board;
      held = held;
      same_grid = refl;
      done = [];
      many = (let e : 0 ≡ 0 * size = omega arith in e);
      written = paste-zero start 0 [];
      rest = refl;
      within = omega arith;
    }

    module _ {answer : List ℤ} {board : code.Board} {i : ℕ} (at : Replaying start answer board i) where
      pub long : length answer ≡ length start
      long = ap length at.written ∙ length_put start 0 at.done (omega (arith, at.many, mul-le-mul_right size at.within))

      module _ (more : i < count) where
        abbrev next : Answer
        next = call_at g calls at.of i

        kept : next.board.grid ≡ (fresh_answer g).board.grid
        kept = called_grid g at.of (get_or calls (4 * i) 0) (get_or calls (4 * i + 1) 0) (get_or calls (4 * i + 2) 0) (get_or calls (4 * i + 3) 0) at.same_grid

        one_more : i * size + size ≤ length start
        one_more = let e = suc-mul i size in omega (arith, mul-le-mul_right size more)

        pub next_fits : i * size + block_size next.board ≤ length answer
        next_fits = omega (arith, long, one_more, block_long next, block_of_size next kept)

        pub place_fits : i * size ≤ length start
        place_fits = omega (arith, one_more)

        pub goes_on : {after : List ℤ} {made : code_answer.Answer} → Says made next → after ≡ put_at answer (i * size) (block next) → Replaying start after made.board (i + 1)
        goes_on {after} says put = record {
          of = next.board;
          held = says.board;
          same_grid = kept;
          done = at.done ++ block next;
          many = length-append at.done (block next) ∙ (let e = suc-mul i size in omega (arith, at.many, block_of_size next kept));
          written = put ∙ (λ j. put_at (at.written j) (place j) (block next)) ∙ put_then start 0 at.done (block next) (omega (arith, at.many, one_more, block_of_size next kept));
          rest = append_assoc at.done (block next) (blocks g next.board (drop (4 * (i + 1)) calls))
              ∙ ap (λ (l : List ℤ). at.done ++ l) (sym (next_block g calls at.of i (omega (arith, is_count)))) ∙ at.rest;
          within = omega arith;
        }
          where
            place : i * size ≡ 0 + length at.done
            place = omega (arith, at.many)

      pub ends : count ≤ i → answer ≡ put_at start 0 (all_blocks g calls)
      ends past = at.written ∙ ap (λ (l : List ℤ). put_at start 0 l)
          (sym (append-nil at.done) ∙ ap (λ (l : List ℤ). at.done ++ l) (sym (no_block g calls at.of i (omega (arith, is_count)))) ∙ at.rest)
