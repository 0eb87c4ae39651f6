use Rattle.std.proofs.Common.{◌∙◌, ap}
use Rattle.rr_named_bits.specs.Lists.{may, must}
use Rattle.rr_named_bits.proofs.Growing.{may-push, must-push}
use Rattle.rr_named_bits.proofs.writes.push_write.Goals as goal

pub returns-clause-may : goal.returns-clause-may
returns-clause-may c = λ b. ap (λ z. may z b) c.in_ok-push.ensures.items ∙ may-push c.args.list.now.items c.args.write b

pub returns-clause-must : goal.returns-clause-must
returns-clause-must c = λ b. ap (λ z. must z b) c.in_ok-push.ensures.items ∙ must-push c.args.list.now.items c.args.write b
