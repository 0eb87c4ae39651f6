use Rattle.std.proofs.Common.{◌∙◌, sym, ap}
use Rattle.std.proofs.lemmas.Result.{IfOk-weaker}
use Rattle.rr_flat.specs.Targets.{is_bit_of}
use Rattle.rr_named_bits.proofs.writes.write_at.Goals as goal

pub uncertain-requires : goal.uncertain-requires
uncertain-requires c = rw c.meaning.ensures c.requires.width

pub returns-then-is_constant-clause-may : goal.returns-then-is_constant-clause-may
returns-then-is_constant-clause-may c = IfOk-weaker c.certain.result _ _ (λ w e b. rw (sym c.is_constant.ensures ∙ c.if-is_constant.true) (e b)) c.certain.ensures.bits

pub returns-then-is_constant-clause-must : goal.returns-then-is_constant-clause-must
returns-then-is_constant-clause-must c = IfOk-weaker c.certain.result _ _ (λ w e b. rw (sym c.is_constant.ensures ∙ c.if-is_constant.true) (e b)) c.certain.ensures.must

pub returns-else-is_constant-clause-may : goal.returns-else-is_constant-clause-may
returns-else-is_constant-clause-may c = λ b. rw (sym c.is_constant.ensures ∙ c.if-is_constant.false) (c.uncertain.ensures.bits b ∙ ap (λ e. is_bit_of e b) c.meaning.ensures)

pub returns-else-is_constant-clause-must : goal.returns-else-is_constant-clause-must
returns-else-is_constant-clause-must c = λ b. rw (sym c.is_constant.ensures ∙ c.if-is_constant.false, c.uncertain.ensures.uncertain)
