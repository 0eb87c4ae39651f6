use Rattle.std.proofs.Common.{arith, refl}
use Rattle.rr_blast_sites.proofs.GrowthLaws.{HasWires-extends}
use Rattle.rr_blast_sites.proofs.GuardLaws.{Named-none, Named-more, Named-all}
use Rattle.rr_blast_sites.proofs.guards.chosen_name.Goals as goal

pub loop-i-init : goal.loop-i-init
loop-i-init c = let e = c.in_ok-name.ensures in Named-none c.args.inputs.now _ _ c.args.names.now c.args.bits.now _ _ _ (omega (arith, c.requires.some)) e.extends e.wire e.value

pub loop-i-preserved : goal.loop-i-preserved
loop-i-preserved c =
    let o = c.in_ok-other.ensures in
    let n = c.in_ok-name-2.ensures in
    Named-more _ _ _ _ _ _ _ _ _ _ _ _ _ c.loop-i.invariant (omega (arith, c.loop-i-test.true)) c.requires.bits o.extends n.extends o.value n.value

pub name_wire-requires-in-loop-i : goal.name_wire-requires-in-loop-i
name_wire-requires-in-loop-i c = HasWires-extends _ _ _ c.loop-i.invariant.extends c.requires.wires

pub returns-clause-value : goal.returns-clause-value
returns-clause-value c = Named-all c.args.inputs.now _ _ c.args.names.now c.args.bits.now _ _ _ c.loop-i.invariant (omega arith) refl
