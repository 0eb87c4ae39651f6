use Rattle.std.proofs.Common.{◌∙◌, ap, length, sym}
use Rattle.rr_transition.proofs.WordLaws.{length_words}
use Rattle.rr_unroll.proofs.rows.ask_row.Goals as goal

pub ask-requires-clause-expected_width : goal.ask-requires-clause-expected_width
ask-requires-clause-expected_width c =
    ap length (c.as_slice-4.ensures.value ∙ c.in_ok-value_bits.ensures) ∙ length_words c.args.widths.now c.as_slice-2.result.now
    ∙ sym (ap length (c.as_slice-3.ensures.value ∙ c.in_ok-known_bits.ensures) ∙ length_words c.args.widths.now c.as_slice.result.now)

pub ask-requires-clause-found_width : goal.ask-requires-clause-found_width
ask-requires-clause-found_width c =
    c.requires.width ∙ sym (ap length (c.as_slice-3.ensures.value ∙ c.in_ok-known_bits.ensures) ∙ length_words c.args.widths.now c.as_slice.result.now)
