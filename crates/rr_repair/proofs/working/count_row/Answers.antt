use Rattle.std.proofs.Common.{arith, ℕ, ◌∙◌, ap, min, ◌+◌}
use Rattle.std.proofs.lemmas.List.{get_or-map, length-map}
use Rattle.rr_flat.specs.Signals.{Signal, signal_at}
use Rattle.rr_flat.specs.View.{plain_flat}
use Rattle.rr_transition.specs.Cycles.{widths_of}
use Rattle.rr_repair.proofs.Counting.{Counted-more, Most}
use Rattle.rr_repair.proofs.working.count_row.Goals as goal

-- src/working.rt
pub loop-i-preserved : goal.loop-i-preserved
loop-i-preserved c =
    let l = c.loop-i-test.true in
    let n = length-map c.args.ids.now (λ (id : ℕ). (signal_at (plain_flat c.args.flat.now).signals id).width) in
    Counted-more (widths_of (plain_flat c.args.flat.now) c.args.ids.now) c.loop-i.bits c.saturating_add-bits.result c.loop-i.i _ c.loop-i.invariant (omega (arith, l, n))
    (get_or-map (λ (id : ℕ). (signal_at (plain_flat c.args.flat.now).signals id).width) c.args.ids.now c.loop-i.i 0 0 l)
    (c.saturating_add-bits.ensures ∙ ap (λ (x : ℕ). min (c.loop-i.bits + x) Most) (c.from.ensures ∙ ap (λ (s : Signal). s.width) c.signal_at.ensures.value))
