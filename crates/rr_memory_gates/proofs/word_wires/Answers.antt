use Rattle.std.proofs.Common.{ap, false}
use Rattle.rr_bits.specs.Words.{extend}
use Rattle.rr_word_gates.proofs.Carrying.{Carries-same}
use Rattle.rr_memory_gates.proofs.word_wires.Goals as goal

pub returns-clause-value : goal.returns-clause-value
returns-clause-value c = Carries-same _ _ _ _ c.in_ok-out.ensures.value (λ input. ap (extend c.args.memory.width false) (c.signal_wires-wires.ensures.value c.args.b.now input))
