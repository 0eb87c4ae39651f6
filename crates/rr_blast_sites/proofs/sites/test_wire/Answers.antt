use Rattle.std.proofs.Common.{refl, arith}
use Rattle.rr_syntax.specs.View.{plain}
use Rattle.rr_blast_sites.proofs.SiteLaws.{test_here, test_nowhere, guard_room, rest_wires, places_are}
use Rattle.rr_blast_sites.proofs.sites.test_wire.Goals as goal

pub returns-in-None-clause-value : goal.returns-in-None-clause-value
returns-in-None-clause-value c = λ W h before. test_nowhere _ c.args.inputs.now W (plain c.args.test.now) _ c.in-None.ensures before

pub guard_site-requires : goal.guard_site-requires
guard_site-requires c = let r = c.requires.wires.room in omega (arith, r)

pub name_bits-requires : goal.name_bits-requires
name_bits-requires c = c.in-Some.ensures.fit

pub guard_wire-requires-clause-places : goal.guard_wire-requires-clause-places
guard_wire-requires-clause-places c = places_are (plain c.args.test.now) _ _ c.in-Some.found.at _ _ c.in-Some.ensures c.guard_names-names.ensures c.name_bits.ensures

pub guard_wire-requires-clause-bits : goal.guard_wire-requires-clause-bits
guard_wire-requires-clause-bits c = rest_wires c.args.b.now c.args.inputs.now c.in-Some.found.at c.requires.wires

pub guard_wire-requires-clause-room : goal.guard_wire-requires-clause-room
guard_wire-requires-clause-room c = guard_room c.args.b.now c.args.inputs.now (plain c.args.test.now) _ c.in-Some.found.at _ c.requires.wires c.in-Some.ensures c.guard_names-names.ensures

pub returns-in_ok-out-in-Some-clause-value : goal.returns-in_ok-out-in-Some-clause-value
returns-in_ok-out-in-Some-clause-value c = λ W h before.
    test_here _ _ c.args.inputs.now W (plain c.args.test.now) c.in-Some.found.site _ c.in-Some.found.at _ _ _ refl c.guard_names-names.ensures c.in-Some.ensures h before (c.in_ok-out-in-Some.ensures.value W h)
