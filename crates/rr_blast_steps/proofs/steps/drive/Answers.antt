use Rattle.std.proofs.Common.{◌≡◌, ◌∙◌, ap, ap₂, Bool, List, cond}
use Rattle.std.specs.Prelude.{Vec}
use Rattle.std.specs.Global.{Global}
use Rattle.rr_circuit.specs.declared.Wire.{Wire}
use Rattle.rr_circuit.specs.Values.{wire_values}
use Rattle.rr_flat.specs.Plain as plain
use Rattle.rr_flat.specs.View.{plain_driver, plain_flat}
use Rattle.rr_choice.specs.declared.pick.Pick.{Pick}
use Rattle.rr_cycle.specs.Exec.{Environment}
use Rattle.rr_signal_wires.specs.declared.guarded_pieces.GuardedPiece.{GuardedPiece}
use Rattle.rr_blast_steps.specs.Designs.{driver_value_of, signal_widths}
use Rattle.rr_flat_instance.specs.Flats.{instance_driver}
use Rattle.rr_signal_wires.specs.GuardedPieces.{put_guarded_pieces}
use Rattle.rr_signal_wires.specs.Words.{carried}
use Rattle.rr_blast_terms.specs.Choosing.{picks_of}
use Rattle.rr_signal_wires.proofs.GuardedPieceLaws.{put_guarded_pieces-extends}
use Rattle.rr_signal_wires.proofs.WordLaws.{carried-extends}
use Rattle.rr_blast_steps.proofs.steps.drive.Goals as goal

pub returns-clause-value : goal.returns-clause-value
returns-clause-value c = λ env.
    let F : plain.Flat = plain_flat c.args.flat.now in
    let ss = c.args.choice.now.sites.now in
    let k : List Pick = picks_of c.args.b.now env c.args.choice.now in
    let e : Environment = carried c.args.b.now env c.args.words.now.items in
    let x = c.in_ok-bits.ensures in
    let d : plain.Driver = instance_driver ss k (plain_driver c.args.driver.now) in
    let v : List Bool = driver_value_of F d e in
    let bits : wire_values c.driver_wires.new.b env c.in_ok-bits.bits.items ≡ v =
    x.value env ∙ ap (λ (ws : List (Vec Wire Global)). driver_value_of F d (carried c.args.b.now env ws)) c.as_slice.ensures.value in
    c.in_ok-put_all.ensures.value env
    ∙ ap (λ (g : Bool). cond g (put_guarded_pieces c.driver_wires.new.b env c.as_slice-2.result.now (wire_values c.driver_wires.new.b env c.as_slice-3.result.now) (carried c.driver_wires.new.b env c.args.words.now.items)) (carried c.driver_wires.new.b env c.args.words.now.items)) (c.constant-always.ensures.value env)
    ∙ ap₂ (λ (ps : List GuardedPiece) (bs : List Bool). put_guarded_pieces c.driver_wires.new.b env ps bs (carried c.driver_wires.new.b env c.args.words.now.items)) c.as_slice-2.ensures.value (ap (wire_values c.driver_wires.new.b env) c.as_slice-3.ensures.value ∙ bits)
    ∙ ap (put_guarded_pieces c.driver_wires.new.b env c.in_ok-guarded_pieces.guarded_pieces.items v) (carried-extends c.args.b.now c.driver_wires.new.b env c.args.words.now.items x.extends c.requires.words)
    ∙ put_guarded_pieces-extends c.args.b.now c.driver_wires.new.b env (signal_widths c.args.flat.now.signals) c.in_ok-guarded_pieces.guarded_pieces.items v e x.extends c.in_ok-guarded_pieces.ensures.guarded_pieces
    ∙ c.in_ok-guarded_pieces.ensures.value env v e
