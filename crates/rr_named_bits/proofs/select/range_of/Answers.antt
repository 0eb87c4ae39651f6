use Rattle.rr_named_bits.proofs.select.range_of.Goals as goal

pub returns-in-Signal : goal.returns-in-Signal
returns-in-Signal c = rw c.in-Signal.is (c.bounds_of.ensures.value c.in-Signal.id c.in-Signal.signed)
