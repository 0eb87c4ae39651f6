use Rattle.std.proofs.Common.{ap, length, sym, ◌∙◌}
use Rattle.rr_bits.specs.Fields.{length_word}
use Rattle.rr_blast_sites.proofs.GuardLaws.{number_is, number_never}
use Rattle.rr_blast_sites.proofs.guards.is_number.Goals as goal

pub returns-then-to_u128-n-clause-value : goal.returns-then-to_u128-n-clause-value
returns-then-to_u128-n-clause-value c = number_never _ _ _ _ _ c.from_u128-bits.ensures (λ q. c.if-to_u128-n.true (c.to_u128.ensures ∙ q)) c.constant.ensures.wire c.constant.ensures.value

pub matches-requires-clause-width : goal.matches-requires-clause-width
matches-requires-clause-width c = sym (ap length c.from_u128-bits.ensures ∙ length_word (length c.args.xs.now) c.args.n)

pub returns-clause-value : goal.returns-clause-value
returns-clause-value c = number_is _ _ _ _ _ _ (sym c.to_u128.ensures ∙ c.if-to_u128-n.false) c.in_ok-out.ensures.value
