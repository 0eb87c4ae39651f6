use Rattle.std.proofs.Common.{◌∙◌, ap, length, ℕ, min, ◌+◌, List}
use Rattle.std.specs.List.{sum}
use Rattle.rr_flat.specs.View.{plain_flat}
use Rattle.rr_expr.specs.declared.types.Bit.{Bit}
use Rattle.rr_transition.specs.Cycles.{widths_of}
use Rattle.rr_repair.proofs.Telling.{few_bits, few_cycle}
use Rattle.rr_repair.proofs.judging.cycle_of.Goals as goal

-- src/judging.rt
pub bits-requires : goal.bits-requires
bits-requires c = few_bits c.args.list.now c.sites.ensures.kept c.requires.few

pub transition-requires-clause-few : goal.transition-requires-clause-few
transition-requires-clause-few c =
    few_cycle (plain_flat c.args.design.now.flat) c.args.design.now.order.clock c.args.list.now (length c.as_slice-kept.result.now) c.count_row-row.result c.saturating_add.result c.saturating_add-2.result
    (ap (λ (bits : List Bit). length bits) (c.as_slice-kept.ensures.value ∙ c.in_ok-registers.ensures.value))
    (c.count_row-row.ensures ∙ ap (λ (ids : List ℕ). min (sum (widths_of (plain_flat c.args.design.now.flat) ids)) 18446744073709551615) (c.as_slice.ensures.value ∙ c.in_ok-ids.ensures.value))
    (c.saturating_add.ensures ∙ ap (λ (n : ℕ). min (n + (length c.as_slice-kept.result.now)) 18446744073709551615) (c.from-choice.ensures ∙ c.bits.ensures))
    c.saturating_add-2.ensures
    c.if-saturating_add.false
