use Rattle.std.proofs.Common.{arith, sym, ap, length, take, ◌∙◌}
use Rattle.rr_bits.specs.Fields.{length_word}
use Rattle.rr_blast_sites.proofs.GuardLaws.{rest_whole}
use Rattle.rr_blast_sites.proofs.SiteLaws.{literal-carried}
use Rattle.rr_blast_sites.proofs.sites.literal_by.Goals as goal

pub chosen_or-requires-clause-widths : goal.chosen_or-requires-clause-widths
chosen_or-requires-clause-widths c =
    ap length c.as_slice.ensures.value ∙ c.in_ok-new.ensures.width ∙ sym (ap length c.from_u128-old.ensures ∙ length_word c.args.number.width c.args.number.value)

pub returns-clause-width : goal.returns-clause-width
returns-clause-width c = c.in_ok-out.ensures.width ∙ ap length c.as_slice.ensures.value ∙ c.in_ok-new.ensures.width

pub returns-clause-value : goal.returns-clause-value
returns-clause-value c =
    literal-carried _ _ c.args.number c.args.own c.args.bits.now _ _ _ _ _ _ (omega (arith, c.requires.room)) (ap (take c.args.own) (rest_whole c.args.bits.now 1)) c.as_slice.ensures.value c.from_u128-old.ensures c.in_ok-new.ensures.value c.in_ok-out.ensures.value
