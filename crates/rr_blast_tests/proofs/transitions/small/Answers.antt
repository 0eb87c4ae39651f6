use Rattle.std.proofs.Common.{◌≡◌, ◌∙◌, ap, arith, length}
use Rattle.rr_flat.specs.Inputs.{row_inputs}
use Rattle.rr_flat.specs.View.{plain_flat}
use Rattle.rr_blast.specs.Rows.{bits_of_row}
use Rattle.rr_blast_tests.proofs.Fitting.{no_bits}
use Rattle.rr_blast_tests.proofs.transitions.small.Goals as goal

pub transition-requires-clause-few : goal.transition-requires-clause-few
transition-requires-clause-few c =
    let F = plain_flat c.args.design.now.flat in
    let row = c.in_ok-row.ensures.value ∙ ap (bits_of_row F.signals) (c.as_slice.ensures.value ∙ c.in_ok-ids.ensures.value) in
    omega (arith, no_bits c.args.list.now c.requires.none, ap length c.in_ok-registers.ensures.value, ap length row, c.len.ensures, c.len-2.ensures, c.in_ok-registers.registers.ok.0, c.in_ok-row.row.ok.0, c.if-len-gt64.false, c.if-len-gt64-2.false)
