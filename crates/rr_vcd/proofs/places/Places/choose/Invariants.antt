use Rattle.rr_vcd_text.specs.Dump.{Declared}
use Rattle.rr_vcd.specs.View.{ArePlaces, plain_top}
use Rattle.rr_vcd.proofs.Scoping.{Sought}
use Rattle.rr_vcd.proofs.places.Places.choose.Given as goal

abbrev pub invariant-loop-scope : goal.invariant-loop-scope
invariant-loop-scope l = (d : Declared) → ArePlaces d.variables l.self → Sought (plain_top l.top) d l.scope l.alone
