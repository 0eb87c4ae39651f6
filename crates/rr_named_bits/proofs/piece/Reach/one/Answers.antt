use Rattle.rr_named_bits.proofs.Reaching.{reach_one}
use Rattle.rr_named_bits.proofs.piece.Reach.one.Goals as goal

pub returns-clause-bits : goal.returns-clause-bits
returns-clause-bits c = λ b. reach_one c.args.piece b
