use Rattle.std.proofs.Common.{take}
use Rattle.rr_named_bits.specs.Pieces.{all_bits}
use Rattle.rr_writers.specs.Marks.{ListMarked}
use Rattle.rr_writers.specs.Tables.{entry}
use Rattle.rr_writers.proofs.marks.mark_pieces.Given as goal

abbrev pub invariant-loop-piece : goal.invariant-loop-piece
invariant-loop-piece l = ListMarked l.number (all_bits (take l.piece-index l.pieces)) (entry l.fn.table) (entry l.table)
