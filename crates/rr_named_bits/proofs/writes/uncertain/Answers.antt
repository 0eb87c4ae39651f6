use Rattle.rr_named_bits.proofs.writes.uncertain.Goals as goal

pub returns-clause-bits : goal.returns-clause-bits
returns-clause-bits c = λ b. c.reach_of.ensures b
