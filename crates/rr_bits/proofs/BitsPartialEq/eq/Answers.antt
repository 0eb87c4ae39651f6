use Rattle.std.proofs.Common.{arith}
use Rattle.rr_bits.specs.Fields.{length_word}
use Rattle.rr_bits.proofs.Numbers.{number_small}
use Rattle.rr_bits.proofs.BitsPartialEq.eq.Goals as goal

pub returns : goal.returns
returns c = grind (arith, length_word, number_small)
