use Rattle.std.proofs.Common.{◌≡◌, ◌∙◌, sym, ap, Bool, List, Option, None, false, get_or}
use Rattle.std.specs.Prelude.{Vec}
use Rattle.std.specs.Global.{Global}
use Rattle.rr_circuit.specs.declared.Wire.{Wire}
use Rattle.rr_circuit.specs.Values.{wire_value}
use Rattle.rr_expr.specs.declared.types.Bit.{Bit}
use Rattle.rr_flat.specs.View.{plain_driver, plain_flat, plain_side}
use Rattle.rr_flat.specs.Writers.{driven_by}
use Rattle.rr_flat.specs.Plain as plain
use Rattle.rr_choice.specs.declared.pick.Pick.{Pick}
use Rattle.rr_cycle.specs.Exec.{Environment, put}
use Rattle.rr_blast_steps.specs.Designs.{driver_value_of}
use Rattle.rr_flat_instance.specs.Flats.{instance_driver}
use Rattle.rr_signal_wires.specs.Words.{carried}
use Rattle.rr_blast_terms.specs.Choosing.{picks_of}
use Rattle.rr_meaning.proofs.Placing.{wire_none, wire_some}
use Rattle.rr_signal_wires.proofs.WordLaws.{carried-extends}
use Rattle.rr_blast_steps.proofs.wiring.wire.Goals as goal

pub returns-in-Some-clause-value : goal.returns-in-Some-clause-value
returns-in-Some-clause-value c = λ env.
    let F : plain.Flat = plain_flat c.args.flat.now in
    let k : List Pick = picks_of c.args.b.now env c.args.choice.now in
    let e : Environment = carried c.args.b.now env c.args.words.now.items in
    let x = c.in_ok-wire.ensures in
    let v : List Bool = driver_value_of F (instance_driver c.args.choice.now.sites.now k (plain_driver c.args.driver.now)) e in
    let o : Option Bit = get_or (driven_by F (plain_side c.args.driver.now.target)) c.args.place None in
    let w : wire_value c.driver_wire.new.b env c.in_ok-wire.wire ≡ get_or v c.args.place false =
    x.value env ∙ ap (λ (ws : List (Vec Wire Global)). get_or (driver_value_of F (instance_driver c.args.choice.now.sites.now k (plain_driver c.args.driver.now)) (carried c.args.b.now env ws)) c.args.place false) c.as_slice.ensures.value in
    c.set_wire.ensures.value c.driver_wire.new.b env
    ∙ ap (put c.in-Some.bit (wire_value c.driver_wire.new.b env c.in_ok-wire.wire)) (carried-extends c.args.b.now c.driver_wire.new.b env c.args.words.now.items x.extends c.requires.words)
    ∙ wire_some o c.in-Some.bit (wire_value c.driver_wire.new.b env c.in_ok-wire.wire) (get_or v c.args.place false) e (sym c.in_ok-bit.ensures.bit ∙ c.in-Some.is) w

pub returns-in-None-clause-value : goal.returns-in-None-clause-value
returns-in-None-clause-value c = λ env.
    let F : plain.Flat = plain_flat c.args.flat.now in
    let k : List Pick = picks_of c.args.b.now env c.args.choice.now in
    let e : Environment = carried c.args.b.now env c.args.words.now.items in
    let x = c.in_ok-wire.ensures in
    let v : List Bool = driver_value_of F (instance_driver c.args.choice.now.sites.now k (plain_driver c.args.driver.now)) e in
    let o : Option Bit = get_or (driven_by F (plain_side c.args.driver.now.target)) c.args.place None in
    carried-extends c.args.b.now c.driver_wire.new.b env c.args.words.now.items x.extends c.requires.words ∙ wire_none o (get_or v c.args.place false) e (sym c.in_ok-bit.ensures.bit ∙ c.in-None.is)
