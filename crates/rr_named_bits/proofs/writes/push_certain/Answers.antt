use Rattle.std.proofs.Common.{◌∙◌, ap, ◌||◌}
use Rattle.std.proofs.lemmas.Result.{on_ok_weaker}
use Rattle.rr_named_bits.specs.Lists.{may, must}
use Rattle.rr_named_bits.proofs.writes.push_certain.Goals as goal

pub returns-clause-may : goal.returns-clause-may
returns-clause-may c = on_ok_weaker c.push_write.result (λ e b. e b ∙ ap (λ z. may c.args.list.now.items b || z) (c.in_ok-write.ensures.bits b)) c.push_write.ensures.may

pub returns-clause-must : goal.returns-clause-must
returns-clause-must c = on_ok_weaker c.push_write.result (λ e b. e b ∙ ap (λ z. must c.args.list.now.items b || z) (c.in_ok-write.ensures.must b)) c.push_write.ensures.must
