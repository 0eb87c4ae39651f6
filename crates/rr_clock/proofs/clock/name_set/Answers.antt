use Rattle.std.proofs.Common.{◌∙◌}
use Rattle.rr_clock.proofs.Finding.{with_added, among_start, among_more, among_done}
use Rattle.rr_clock.proofs.clock.name_set.Goals as goal

pub loop-named-init : goal.loop-named-init
loop-named-init c name = among_start c.new-set.result name _ c.new-set.ensures

pub loop-named-preserved : goal.loop-named-preserved
loop-named-preserved c name =
    among_more c.args.list.now c.loop-named.named-index _ c.loop-named.set c.add.new.self name c.loop-named-test.true
    (with_added c.loop-named.set c.add.new.self _ c.in_ok-add.field-0 c.in_ok-add.ensures.was_new c.in_ok-add.ensures.added)
    ∙ c.loop-named.invariant name

pub returns : goal.returns
returns c name = among_done c.args.list.now c.loop-named.named-index c.loop-named.set name c.loop-named-test.false ∙ c.loop-named.invariant name
