use Rattle.rr_vcd.proofs.Scoping.{ArePlaces-none, ArePlaces-more}
use Rattle.rr_vcd.proofs.places.Places.of.Goals as goal

pub loop-variable-init : goal.loop-variable-init
loop-variable-init c = ArePlaces-none _ c.new-places.ensures

pub loop-variable-preserved : goal.loop-variable-preserved
loop-variable-preserved c = ArePlaces-more _ _ _ _ _ c.loop-variable-test.true c.loop-variable.invariant c.in_ok-add.ensures
