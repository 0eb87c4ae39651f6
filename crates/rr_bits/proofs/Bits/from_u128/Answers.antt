use Rattle.std.proofs.lemmas.Nat.{and_mask}
use Rattle.rr_bits.proofs.Numbers.{word_mod}
use Rattle.rr_bits.proofs.Bits.from_u128.Goals as goal

pub returns : goal.returns
returns c = rw c.mask.ensures (rw (and_mask c.args.value c.args.width) (word_mod _ _))
