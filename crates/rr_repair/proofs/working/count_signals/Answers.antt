use Rattle.std.proofs.Common.{map, arith, ◌∙◌, ap, min, ◌+◌, ℕ}
use Rattle.rr_flat.specs.Signals.{Signal}
use Rattle.rr_flat.specs.View.{plain_signal}
use Rattle.rr_repair.proofs.Counting.{Counted-more, Most, width_at, width_count}
use Rattle.rr_repair.proofs.working.count_signals.Goals as goal

-- src/working.rt
pub loop-i-preserved : goal.loop-i-preserved
loop-i-preserved c =
    let l = c.loop-i-test.true in
    let n = width_count c.args.signals.now in
    Counted-more (map (λ (s : Signal). s.width) (map plain_signal c.args.signals.now)) c.loop-i.bits c.saturating_add-bits.result c.loop-i.i _ c.loop-i.invariant (omega (arith, l, n))
    (width_at c.args.signals.now c.loop-i.i _ l)
    (c.saturating_add-bits.ensures ∙ ap (λ (x : ℕ). min (c.loop-i.bits + x) Most) c.from.ensures)
