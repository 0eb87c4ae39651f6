use Rattle.std.proofs.Common.{◌≡◌, ◌∙◌, ap, arith, refl, length, get_or, replicate, subst}
use Rattle.std.proofs.lemmas.List.{length-replicate}
use Rattle.rr_flat.specs.Sound.{IsFlat}
use Rattle.rr_flat.specs.View.{Design, plain_flat}
use Rattle.rr_order.proofs.Growing.{sound_of, graph_start, graph_same}
use Rattle.rr_order.proofs.Lists.{none_marked}
use Rattle.rr_order.proofs.steps.graph_of.Goals as goal

pub returns-clause-sound : goal.returns-clause-sound
returns-clause-sound c =
    let K : Design → Type 0 = λ d. IsFlat d.signals d.scopes d.drivers d.clocked d.combinational d.walk d.inputs d.outputs d.owners d.starts d.initials in
    sound_of c.args.flat.now (subst K c.flat.view_is c.flat.invariant)

pub loop-driver-init : goal.loop-driver-init
loop-driver-init c = rw c.in_ok-nodes.ensures.steps (graph_start (plain_flat c.args.flat.now) c.in_ok-nodes.nodes.rows.items c.in_ok-nodes.ensures.graph)

pub loop-block-init : goal.loop-block-init
loop-block-init c =
    let zeros : c.in_ok-own.own.items ≡ replicate c.len.result 0 = c.in_ok-own.ensures.items_if_clones_equal (λ y h. h) in
    let count : length c.in_ok-own.own.items ≡ c.len.result = ap length zeros ∙ length-replicate c.len.result 0 in (
      graph_same (plain_flat c.args.flat.now) c.loop-driver.driver 0 0 (length c.args.flat.now.drivers) 0 0 c.loop-driver.nodes.steps.items c.loop-driver.nodes.rows.items (omega (arith, c.loop-driver-test.false, c.loop-driver.auto.driver-end, c.len-driver-end.ensures, ap (λ (d : Design). length d.drivers) c.flat.view_is)) refl refl c.loop-driver.invariant,
      omega (arith, count, c.len.ensures, c.args.layout.now.table.ok, c.requires.table_of.count),
      λ v. let z = ap (λ xs. get_or xs v 0) zeros ∙ none_marked c.len.result v in omega (arith, z),
    )

pub returns-clause-graph : goal.returns-clause-graph
returns-clause-graph c = graph_same (plain_flat c.args.flat.now) (length c.args.flat.now.drivers) 0 c.loop-block.block (length c.args.flat.now.drivers) 0 (length c.args.flat.now.combinational) c.loop-block.nodes.steps.items c.loop-block.nodes.rows.items refl refl
    (omega (arith, c.loop-block-test.false, c.loop-block.auto.block-end, c.len-block-end.ensures, ap (λ (d : Design). length d.combinational) c.flat.view_is)) c.loop-block.invariant.0
