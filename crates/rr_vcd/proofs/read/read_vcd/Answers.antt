use Rattle.std.proofs.Common.{map, subst, refl}
use Rattle.rr_flat.specs.View.{plain_flat}
use Rattle.rr_trace.specs.View.{plain_table}
use Rattle.rr_vcd_text.specs.View.{plain_declared, plain_variable}
use Rattle.rr_vcd.specs.Sampled.{IsSampled}
use Rattle.rr_vcd.specs.Faults.{RefusesVcd, of_dump}
use Rattle.rr_vcd.specs.View.{plain_top, ArePlaces}
use Rattle.rr_vcd.proofs.Ending.{refused, outcome, no_scope, fails, chosen_some, chosen_none}
use Rattle.rr_vcd.proofs.read.read_vcd.Goals as goal

pub returns-in_err-declared : goal.returns-in_err-declared
returns-in_err-declared c =
    let flat = plain_flat c.args.flat.now in
    let order = c.args.order.now in
    fails (λ table. IsSampled flat order.clock order.rising c.args.bytes.now (plain_table table)) (RefusesVcd flat order.clock order.rising c.args.bytes.now) c.from_residual-in_err-declared.result (of_dump c.in_err-declared.field-0.0)
    c.from_residual-in_err-declared.ensures.1 (refused flat order.clock order.rising c.args.bytes.now c.in_err-declared.field-0.0 c.in_err-declared.ensures)

pub returns-in_err-skip : goal.returns-in_err-skip
returns-in_err-skip c =
    let flat = plain_flat c.args.flat.now in
    let order = c.args.order.now in
    fails (λ table. IsSampled flat order.clock order.rising c.args.bytes.now (plain_table table)) (RefusesVcd flat order.clock order.rising c.args.bytes.now) c.from_residual-in_err-skip.result (of_dump c.in_err-skip.field-0.0)
    c.from_residual-in_err-skip.ensures.1 (refused flat order.clock order.rising c.args.bytes.now c.in_err-skip.field-0.0 (c.in_err-skip.ensures c.args.bytes.now (plain_declared c.in_ok-declared.field-0.declared) c.in_ok-declared.ensures))

pub returns-in_default : goal.returns-in_default
returns-in_default c =
    let d = plain_declared c.in_ok-declared.field-0.declared in
    let places : ArePlaces d.variables c.in_ok-places.places = subst (λ vs. ArePlaces (map plain_variable vs) c.in_ok-places.places) c.as_slice.ensures.value c.in_ok-places.ensures in
    let dump = c.in_ok-skip.ensures c.args.bytes.now d c.in_ok-declared.ensures in
    no_scope (plain_flat c.args.flat.now) c.args.order.now.clock c.args.order.now.rising c.args.bytes.now (plain_top c.in_ok-top.top) d c.in_ok-top.ensures.ports
    (chosen_none (plain_top c.in_ok-top.top) d d.scopes c.choose.result c.in_default.is (c.choose.ensures d places refl)) dump.0 dump.1

pub returns : goal.returns
returns c =
    let d = plain_declared c.in_ok-declared.field-0.declared in
    let top = plain_top c.in_ok-top.top in
    let places : ArePlaces d.variables c.in_ok-places.places = subst (λ vs. ArePlaces (map plain_variable vs) c.in_ok-places.places) c.as_slice.ensures.value c.in_ok-places.ensures in
    let chosen = chosen_some top d d.scopes c.in-Some.scope c.choose.result c.in-Some.is (c.choose.ensures d places refl) in
    let first = c.in_ok-sampler.ensures top d c.in-Some.scope (c.in_ok-probes.ensures.probes d places) in
    outcome c.args.bytes.now top d c.in-Some.scope (plain_flat c.args.flat.now) c.args.order.now.clock c.args.order.now.rising c.in_ok-top.ensures.ports chosen c.sample.result
    (c.sample.ensures c.args.bytes.now top d c.in-Some.scope c.in_ok-declared.ensures first)
