use Rattle.std.proofs.Common.{◌∙◌, ap, List}
use Rattle.rr_named_bits.specs.declared.writes.Write.{Write}
use Rattle.rr_named_bits.specs.Lists.{may}
use Rattle.rr_meaning.proofs.registers.reached.Goals as goal

pub returns : goal.returns
returns c = λ b. c.in_ok-list.ensures b ∙ (ap (λ (ws : List Write). may ws b) c.as_slice.ensures.value ∙ c.in_ok-writes.ensures b)
