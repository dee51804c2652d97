-- Step b and step c on a board: storing a none changes no line and no end; storing a line, where step c finds nothing against it, adds one
-- line and joins the ends, and the ends still say what they should.
use Rattle.std.specs.Prelude.{◌≡◌, ◌≢◌, true, false}
use Rattle.std.proofs.Math.Path.{refl}
use Rattle.std.proofs.Common.{sym, ◌∙◌, ap, inl, inr}
use Rattle.std.proofs.Math.Logic.{⊎_elim}
use Rattle.rules.specs.Grid.{Edge, first, second, Grid}
use Rattle.rules.specs.Tests.{conflict}
use Rattle.model.specs.JoinedEnds.{End, joined_ends}
use Rattle.model.specs.PadTests.{on_board}
use Rattle.model.specs.Board.{EdgeState, is_line, is_undecided, State, set_edge, cannot_join, join_ends, line, none}
use Rattle.propagation.specs.Undecided.{DecidedStay}
use Rattle.rules.specs.Chains.{line_back}
use Rattle.ends.specs.Ends.{Added}
use Rattle.ends.specs.Storing.{joined_say}
use Rattle.propagation.specs.Edges.{same_or_not, set_here, set_elsewhere, decided_elsewhere, is_line-true, is_undecided-true, drawing, same_drawing, board_lines, edge_of, forward, line_of}
use Rattle.propagation.specs.Objects.{Holds, Geometry, chains, board}

module _ (g : Grid) (S : State) (e : Edge) (undecided_before : is_undecided (S.edge e) ≡ true) where
  not_a_line : (x : Edge) → x ≡ e → is_line (S.edge x) ≡ false
  not_a_line x p = ap (λ y. is_line (S.edge y)) p ∙ ap is_line (is_undecided-true (S.edge e) undecided_before)

  pub flag_kept : (m : EdgeState) → (set_edge S e m).flag ≡ S.flag
  unfolding set_edge
  flag_kept m = refl

  end_kept : (m : EdgeState) → (set_edge S e m).end ≡ S.end
  unfolding set_edge
  end_kept m = refl

  -- NONE
  none_lines : (x : Edge) → is_line ((set_edge S e none).edge x) ≡ is_line (S.edge x)
  none_lines x = ⊎_elim
      (λ p. ap (λ y. is_line ((set_edge S e none).edge y)) p ∙ ap is_line (set_here S e none) ∙ sym (not_a_line x p))
      (λ n. ap is_line (set_elsewhere S e none x n)) (same_or_not x e)

  pub line_before : (x : Edge) → (set_edge S e none).edge x ≡ line → S.edge x ≡ line
  line_before x h = is_line-true (S.edge x) (sym (none_lines x) ∙ ap is_line h)

  pub none_chains : Holds g S chains → Holds g (set_edge S e none) chains
  unfolding Holds
  none_chains h = rw (same_drawing S (set_edge S e none) none_lines, end_kept none) h

  pub none_board : Holds g S board → Holds g (set_edge S e none) board
  unfolding Holds
  none_board h x k = h x (line_before x k)

  -- LINE: the state after step c
  unfoldable pub with_line : State
  with_line = join_ends g e (set_edge S e line)

  pub line_elsewhere : (x : Edge) → x ≢ e → with_line.edge x ≡ S.edge x
  unfolding with_line join_ends
  line_elsewhere x n = set_elsewhere S e line x n

  pub line_here : with_line.edge e ≡ line
  unfolding with_line join_ends
  line_here = set_here S e line

  pub line_flag : with_line.flag ≡ S.flag
  unfolding with_line join_ends
  line_flag = flag_kept line

  pub line_stays : DecidedStay S with_line
  line_stays x h = line_elsewhere x (decided_elsewhere S e x undecided_before h)

  -- A and B of step c
  abbrev pub end_a : End
  end_a = S.end (first e)

  abbrev pub end_b : End
  end_b = S.end (second g.width e)

  line_ends : with_line.end ≡ joined_ends S.end (first e) (second g.width e) end_a end_b
  unfolding with_line join_ends set_edge
  line_ends = refl

  pub line_board : on_board g e ≡ true → Holds g S board → Holds g with_line board
  unfolding Holds
  line_board on h x k = ⊎_elim (λ p. rw p on) (λ n. h x (sym (line_elsewhere x n) ∙ k)) (same_or_not x e)

  -- there is no line yet between the edge's pads
  pub no_line_before : Geometry g → board_lines g S (first e) (second g.width e) → ⊥
  no_line_before geo l = let t = edge_of g S _ _ l in conflict (ap is_line t.is) (not_a_line t.edge (geo.one_edge t.edge e t.ends))

  -- where step c finds nothing against the line
  module _ (geo : Geometry g) (can_join : cannot_join g e (set_edge S e line) ≡ false) where
    line_added : Added (board_lines g S) (board_lines g with_line) (first e) (second g.width e)
    line_added = record {
      keep = λ x y l. let t = edge_of g S x y l in line_of g with_line x y (record {
        edge = t.edge;
        is = line_elsewhere t.edge (λ p. conflict (ap is_line t.is) (not_a_line t.edge p)) ∙ t.is;
        ends = t.ends;
      });
      there = forward g with_line e line_here;
      back = line_back g.width (drawing with_line) _ _ (forward g with_line e line_here);
      only = λ x y l. let t = edge_of g with_line x y l in ⊎_elim
          (λ p. inr (rw p at t.ends))
          (λ n. inl (line_of g S x y (record { edge = t.edge; is = sym (line_elsewhere t.edge n) ∙ t.is; ends = t.ends }))) (same_or_not t.edge e);
    }

    pub line_chains : Holds g S chains → Holds g with_line chains
    unfolding Holds with_line join_ends set_edge cannot_join
    line_chains h = rw line_ends (joined_say (first e) (second g.width e) (line_back g.width (drawing S)) h line_added (geo.apart e) (no_line_before geo) can_join)
