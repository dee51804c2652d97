-- What is proved of the definitions in specs/AlikeCalls.antt.
use Prim.Native.Nat.{ℕ, zero, suc, ◌+◌, ◌*◌}
use Rattle.std.specs.Prelude.{◌≡◌, Bool, true, false, eqb, ltb, ℤ}
use Rattle.std.proofs.Math.Path.{refl, ap}
use Rattle.std.proofs.Common.{sym}
use mathlib.Core.List.{List}
use Rattle.std.proofs.Math.ListN.{length}
use Rattle.rules.specs.Grid.{Edge, Place, edge, no_edge, Grid, grid_of, pads, Accepted}
use Rattle.rules.specs.Drawing.{num}
use Rattle.rules.specs.Record.{field, line_byte, none_byte, tabulate}
use Rattle.model.specs.JoinedEnds.{End, end_number}
use Rattle.model.specs.Board.{EdgeState, line, none, State, decide, enough}
use Rattle.model.specs.RefusalLaws.{accepted_is_not_refused}
use Rattle.model.specs.Calls.{Board, Answer, fresh_board, new, state_byte, edge_at, decided, decide_at, decide_edge, read_at, read_edge, most_checkpoints, add_checkpoint, undo_to, undo, shown}
use Rattle.alike.specs.Alike.{Alike}
use Rattle.alike.specs.AlikeEnds.{AlikeEnds, both_through, both_at_pad, both_at_clue}
use Rattle.alike.specs.AlikeStates.{AlikeStates, OneByOne, no_more, one_more}
use Rattle.alike.proofs.AlikeStates.{edge_same, decide_alike, fresh_alike}
use Rattle.alike.specs.AlikeCalls.{AlikeBoards, AlikeAnswers, AlikeNumbers, AlikeShown, equal, of_clues}

-- alike answers, chosen by one test
answers_by : (test : Bool) {A B C D : Answer} → AlikeAnswers A C → AlikeAnswers B D
    → AlikeAnswers (elim test [ true ↦ A | false ↦ B ]) (elim test [ true ↦ C | false ↦ D ])
answers_by true yes_part no_part = yes_part
answers_by false yes_part no_part = no_part

-- NEW
fresh_boards_alike : {g h : Grid} → Alike g h → AlikeBoards (fresh_board g) (fresh_board h)
unfolding fresh_board
fresh_boards_alike alike = record { alike_grids = alike; alike_states = fresh_alike alike; alike_standing = no_more }

pub new_alike : (height width : ℕ) (cells others : List ℤ) → Accepted height width cells → Accepted height width others
    → Alike (grid_of height width cells) (grid_of height width others) → AlikeAnswers (new height width cells) (new height width others)
unfolding new
new_alike height width cells others accepted other_accepted alike =
    rw (accepted_is_not_refused height width cells accepted, accepted_is_not_refused height width others other_accepted, new)
    (record { same_number = refl; same_answer = refl; alike_boards = fresh_boards_alike alike })

module _ {a b : Board} (alike : AlikeBoards a b) where
  same_place : (row column : ℕ) → edge_at b.grid row column ≡ edge_at a.grid row column
  unfolding edge_at
  same_place row column = rw (alike.alike_grids.same_height, alike.alike_grids.same_width) refl

  declined : (number : ℕ) → AlikeAnswers (record { number = number; answer = 0; board = a }) (record { number = number; answer = 0; board = b })
  declined number = record { same_number = refl; same_answer = refl; alike_boards = alike }

  -- DECIDE
  same_bound : enough b.grid ≡ enough a.grid
  unfolding enough
  same_bound = rw (alike.alike_grids.same_height, alike.alike_grids.same_width) refl

  decided_alike : (e : Edge) (m : EdgeState) → AlikeAnswers (decided a e m) (decided b e m)
  decided_alike e m = rw same_bound (record {
    same_number = refl;
    same_answer = ap num after.same_flag;
    alike_boards = record { alike_grids = alike.alike_grids; alike_states = after; alike_standing = alike.alike_standing };
  })
    where
      after : AlikeStates a.grid b.grid (decide a.grid (enough a.grid) e m a.state) (decide b.grid (enough a.grid) e m b.state)
      after = decide_alike alike.alike_grids _ e m _ _ alike.alike_states

  decide_at_alike : (place : Place) (byte : ℕ) → AlikeAnswers (decide_at a place byte) (decide_at b place byte)
  decide_at_alike no_edge byte = declined 10
  decide_at_alike (edge e) byte = answers_by (eqb byte line_byte) (decided_alike e line)
      (answers_by (eqb byte none_byte) (decided_alike e none) (declined 11))

  pub decide_edge_alike : (row column byte : ℕ) → AlikeAnswers (decide_edge a row column byte) (decide_edge b row column byte)
  unfolding decide_edge
  decide_edge_alike row column byte = rw (same_place row column) (decide_at_alike (edge_at a.grid row column) byte)

  -- READ
  read_at_alike : (place : Place) → AlikeAnswers (read_at a place) (read_at b place)
  read_at_alike no_edge = declined 10
  read_at_alike (edge e) = record { same_number = refl; same_answer = ap state_byte (sym (edge_same alike.alike_states e)); alike_boards = alike }

  pub read_edge_alike : (row column : ℕ) → AlikeAnswers (read_edge a row column) (read_edge b row column)
  unfolding read_edge
  read_edge_alike row column = rw (same_place row column) (read_at_alike (edge_at a.grid row column))

  -- CHECKPOINT
  pub add_checkpoint_alike : AlikeAnswers (add_checkpoint a) (add_checkpoint b)
  unfolding add_checkpoint
  add_checkpoint_alike = rw (same_length alike.alike_standing, add_checkpoint) (answers_by (ltb (length b.standing) most_checkpoints)
      (record {
        same_number = refl;
        same_answer = refl;
        alike_boards = record {
          alike_grids = alike.alike_grids;
          alike_states = alike.alike_states;
          alike_standing = one_more alike.alike_states alike.alike_standing;
        };
      })
      (declined 12))
    where
      same_length : {S T : List State} → OneByOne (AlikeStates a.grid b.grid) S T → length S ≡ length T
      same_length no_more = refl
      same_length (one_more both rest) = ap suc (same_length rest)

  -- UNDO
  pub undo_alike : AlikeBoards (undo a) (undo b)
  unfolding undo
  undo_alike = go alike.alike_standing
    where
      go : {standing others : List State} → OneByOne (AlikeStates a.grid b.grid) standing others → AlikeBoards (undo_to a.grid standing) (undo_to b.grid others)
      go no_more = fresh_boards_alike alike.alike_grids
      go (one_more last rest) = record { alike_grids = alike.alike_grids; alike_states = last; alike_standing = rest }

  -- WHAT THEY SHOW
  number_alike : {A B : End} → AlikeEnds a.grid b.grid A B → AlikeNumbers a.grid b.grid (end_number A) (end_number B)
  unfolding end_number
  number_alike both_through = equal refl
  number_alike (both_at_pad v) = equal refl
  number_alike (both_at_clue v p q) = of_clues v _ _ p q refl refl

  numbers_alike : (v n : ℕ) → OneByOne (AlikeNumbers a.grid b.grid)
      (tabulate (λ u. end_number (a.state.end u)) v n) (tabulate (λ u. end_number (b.state.end u)) v n)
  unfolding tabulate
  numbers_alike v zero = no_more
  numbers_alike v (suc n) = one_more (number_alike (alike.alike_states.alike_ends v)) (numbers_alike (v + 1) n)

  pub shown_alike : AlikeShown a.grid b.grid (shown a) (shown b)
  unfolding shown
  shown_alike = record {
    same_edges = λ i. field (alike.alike_grids.same_height i) (alike.alike_grids.same_width i) (λ e. state_byte (alike.alike_states.same_edges i e));
    same_flag = alike.alike_states.same_flag;
    alike_ends = rw (← same_pads) (numbers_alike 0 (pads a.grid));
  }
    where
      same_pads : pads a.grid ≡ pads b.grid
      same_pads = λ i. alike.alike_grids.same_height i * alike.alike_grids.same_width i
