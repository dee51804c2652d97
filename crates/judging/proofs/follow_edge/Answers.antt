-- `judging::follow_edge` meets its contract, byte by byte. Assumes nothing.
use Rattle.judging.proofs.Lines.{edge_line, edge_other}
use Rattle.judging.proofs.follow_edge.Goals as goal

pub returns-then-byte-eq-LINE : goal.returns-then-byte-eq-LINE
returns-then-byte-eq-LINE c = edge_line _ _ _ c.if-byte-eq-LINE.true c.follow_line.ensures

pub returns : goal.returns
returns c = edge_other _ _ _ c.if-byte-eq-LINE.false c.requires.2
