use Rattle.std.proofs.Common.{◌∙◌, ap}
use Rattle.rr_flat.specs.Targets.{has_bit}
use Rattle.rr_named_bits.proofs.Runs.{covers_in}
use Rattle.rr_named_bits.proofs.writes.certain.Goals as goal

pub returns-clause-bits : goal.returns-clause-bits
returns-clause-bits c = λ b. c.one.ensures.bits b ∙ (covers_in _ b ∙ ap (λ z. has_bit z b) (rw c.requires.none at c.in_ok-piece.ensures))

pub returns-clause-must : goal.returns-clause-must
returns-clause-must c = λ b. c.one.ensures.bits b ∙ (covers_in _ b ∙ ap (λ z. has_bit z b) (rw c.requires.none at c.in_ok-piece.ensures))
