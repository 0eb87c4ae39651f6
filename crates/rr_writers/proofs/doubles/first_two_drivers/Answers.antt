use Rattle.std.proofs.Common.{refl}
use Rattle.rr_flat.specs.View.{plain_flat}
use Rattle.rr_writers.specs.Tables.{entry}
use Rattle.rr_writers.proofs.Filling.{filled_step, filled_all, double_step, double_breaks}
use Rattle.rr_writers.proofs.Ordering.{has_walk}
use Rattle.rr_writers.proofs.doubles.first_two_drivers.Goals as goal

pub loop-at-preserved : goal.loop-at-preserved
loop-at-preserved c =
    filled_step (plain_flat c.args.flat.now) c.parts-walk.result.now c.loop-at.at _ _ (entry c.loop-at.table) (entry c.mark_part.new.table) c.parts-walk.ensures.value c.loop-at-test.true refl
    c.loop-at.invariant (rw c.in_default.is at c.in_ok-bit.ensures.none)

pub returns-in-Some-clause-first : goal.returns-in-Some-clause-first
returns-in-Some-clause-first c =
    double_step (plain_flat c.args.flat.now) c.parts-walk.result.now c.loop-at.at _ c.get-first.result _ (entry c.loop-at.table) (entry c.mark_part.new.table) c.in-Some.bit _
    (has_walk c.args.flat.now c.parts-walk.result.now c.parts-walk.ensures.value c.parts-walk.ensures.sound) c.parts-walk.ensures.value c.loop-at-test.true refl
    c.loop-at.invariant (rw c.in-Some.is at c.in_ok-bit.ensures.some) c.get-first.ensures refl c.token_of.ensures c.token_of-in-Some.ensures

pub returns-in-Some-clause-some : goal.returns-in-Some-clause-some
returns-in-Some-clause-some c =
    double_breaks (plain_flat c.args.flat.now) _ (double_step (plain_flat c.args.flat.now) c.parts-walk.result.now c.loop-at.at _ c.get-first.result _ (entry c.loop-at.table) (entry c.mark_part.new.table) c.in-Some.bit
    (record { bit = c.in-Some.bit; first = c.token_of.result; second = c.token_of-in-Some.result })
    (has_walk c.args.flat.now c.parts-walk.result.now c.parts-walk.ensures.value c.parts-walk.ensures.sound) c.parts-walk.ensures.value c.loop-at-test.true refl
    c.loop-at.invariant (rw c.in-Some.is at c.in_ok-bit.ensures.some) c.get-first.ensures refl c.token_of.ensures c.token_of-in-Some.ensures)

pub returns-clause-none : goal.returns-clause-none
returns-clause-none c =
    filled_all (plain_flat c.args.flat.now) c.loop-at.at (entry c.loop-at.table) (has_walk c.args.flat.now c.parts-walk.result.now c.parts-walk.ensures.value c.parts-walk.ensures.sound)
    (rw (← c.parts-walk.ensures.value) c.loop-at-test.false) c.loop-at.invariant
