use Rattle.std.proofs.Common.{◌∙◌, sym, ap, length}
use Rattle.rr_bits.specs.Fields.{length_word}
use Rattle.rr_exec.proofs.cases.wild_digits.Goals as goal

pub or-requires : goal.or-requires
or-requires c = ap length c.from_u128-any.ensures ∙ length_word c.args.number.now.width c.args.number.now.any ∙ sym (ap length c.from_u128-else-kind-2.ensures ∙ length_word c.args.number.now.width c.args.number.now.unknown)
