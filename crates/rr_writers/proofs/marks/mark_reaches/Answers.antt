use Rattle.std.proofs.Common.{◌∙◌, sym}
use Rattle.rr_writers.specs.Tables.{entry}
use Rattle.rr_writers.proofs.Marking.{set_none, set_step, set_clash, set_all}
use Rattle.rr_writers.proofs.Options.{none_of_some, none_known, some_map}
use Rattle.rr_writers.proofs.marks.mark_reaches.Goals as goal

pub loop-reach-init : goal.loop-reach-init
loop-reach-init c = set_none c.args.number (entry c.args.table.now)

pub loop-reach-preserved : goal.loop-reach-preserved
loop-reach-preserved c =
    let m = none_known _ _ (sym c.is_some.ensures ∙ c.if-is_some.false) c.in_ok-taken.ensures.none in
    set_step c.args.number c.args.reaches.now c.loop-reach.reach-index _ (entry c.args.table.now) (entry c.loop-reach.table) _ c.loop-reach-test.true c.loop-reach.invariant m

pub returns-then-is_some-clause-none : goal.returns-then-is_some-clause-none
returns-then-is_some-clause-none c = none_of_some _ _ (sym c.is_some.ensures ∙ c.if-is_some.true)

pub returns-then-is_some-clause-some : goal.returns-then-is_some-clause-some
returns-then-is_some-clause-some c =
    some_map _ _ _ (λ b. set_clash c.args.number c.args.reaches.now c.loop-reach.reach-index _ (entry c.args.table.now) (entry c.loop-reach.table) _ b c.loop-reach-test.true c.loop-reach.invariant) c.in_ok-taken.ensures.some

pub returns-clause-none : goal.returns-clause-none
returns-clause-none c = set_all c.args.number c.args.reaches.now c.loop-reach.reach-index (entry c.args.table.now) (entry c.loop-reach.table) c.loop-reach-test.false c.loop-reach.invariant
