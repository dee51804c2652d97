-- `judging::is_finished` meets its contract, by the signs of the cell and of the end. Assumes nothing.
use Rattle.judging.proofs.Cells.{passed_through, clue_alone, own_end}
use Rattle.judging.proofs.is_finished.Goals as goal

pub returns-then-end : goal.returns-then-end
returns-then-end c =
    let start = c in
    passed_through _ _ _ start.requires.0 start.requires.1 start.told-ends (record { sfits = c.cell-1.given }) (record { sfits = c.end-1.given }) c.if-end.true

pub returns-then-cell-ge0 : goal.returns-then-cell-ge0
returns-then-cell-ge0 c =
    let start = c in
    clue_alone _ _ _ start.requires.0 start.requires.1 start.told-ends (record { sfits = c.cell-1.given }) (record { sfits = c.end-1.given }) c.if-end.false c.if-cell-ge0.true

pub returns : goal.returns
returns c =
    let start = c in
    own_end _ _ _ start.requires.0 start.requires.1 start.told-ends (record { sfits = c.cell-1.given }) (record { sfits = c.end-1.given }) c.if-end.false c.if-cell-ge0.false
