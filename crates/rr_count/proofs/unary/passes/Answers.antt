use Rattle.std.proofs.Common.{◌+◌, ◌∙◌, sym, arith, subst}
use Rattle.rr_count.proofs.Counters.{Counted, Counted-more, Counted-all}
use Rattle.rr_count.proofs.unary.passes.Goals as goal

pub loop-i-preserved : goal.loop-i-preserved
loop-i-preserved c =
    let e = c.in_ok-counts.ensures in
    subst (λ f. Counted c.args.b.now c.counted.new.b c.args.wires.now c.in_ok-counts.counts.wires.items f c.args.bound (c.loop-i.i + 1)) (sym e.first)
    (Counted-more _ _ _ _ _ _ (record { 0 = 0 }) _ _ _ _ _ c.loop-i.invariant (omega arith) c.requires.bound c.requires.wires c.first_count-first.ensures c.end_count-end.ensures e.extends e.wires e.width e.value)

pub returns-clause-value : goal.returns-clause-value
returns-clause-value c = λ env. c.count_at.ensures.value env ∙ Counted-all _ _ _ _ _ _ _ c.loop-i.invariant (omega arith) env
