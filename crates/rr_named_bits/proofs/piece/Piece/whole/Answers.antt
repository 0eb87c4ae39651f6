use Rattle.rr_named_bits.proofs.Sides.{whole_bits, whole_run}
use Rattle.rr_named_bits.proofs.piece.Piece.whole.Goals as goal

pub returns-clause-bits : goal.returns-clause-bits
returns-clause-bits c = whole_bits c.args.flat.now c.args.id _ c.signal_at.result.now c.signal_at.ensures.value c.signal_at.ensures.sound

pub returns-clause-value : goal.returns-clause-value
returns-clause-value c = whole_run c.args.flat.now c.args.id c.signal_at.result.now c.signal_at.ensures.value
