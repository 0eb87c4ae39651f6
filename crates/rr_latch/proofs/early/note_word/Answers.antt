use Rattle.rr_latch.proofs.Noting.{piece_assigned, piece_shut}
use Rattle.rr_latch.proofs.early.note_word.Goals as goal

pub returns-then-is_blank : goal.returns-then-is_blank
returns-then-is_blank c = piece_assigned c.args.early.now c.args.piece.now c.args.table.now (c.is_blank.ensures c.if-is_blank.true)

pub returns-then-is_blank-2 : goal.returns-then-is_blank-2
returns-then-is_blank-2 c = piece_shut c.args.early.now c.args.piece.now c.args.table.now (c.is_blank-2.ensures c.if-is_blank-2.true)
