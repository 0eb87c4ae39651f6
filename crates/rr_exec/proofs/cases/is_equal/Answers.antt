use Rattle.std.proofs.Common.{◌∙◌, sym, ap, length}
use Rattle.rr_exec.proofs.Widths.{length_inverted, length_one_of}
use Rattle.rr_exec.proofs.cases.is_equal.Goals as goal

pub and-requires : goal.and-requires
and-requires c = ap length c.xor.ensures ∙ length_one_of c.args.a c.args.b ∙ sym (ap length c.inverted.ensures ∙ length_inverted c.args.wilds ∙ c.requires.one)
