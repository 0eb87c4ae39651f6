use Rattle.std.proofs.Common.{◌≡◌, ◌∙◌, sym, ap, ap₂, Bool, List, cond}
use Rattle.std.specs.Prelude.{Vec}
use Rattle.std.specs.Global.{Global}
use Rattle.rr_circuit.specs.declared.Wire.{Wire}
use Rattle.rr_circuit.specs.Values.{wire_value, wire_values}
use Rattle.rr_circuit.proofs.Netlists.{Extends-trans}
use Rattle.rr_syntax.specs.Tree.{Tree, Assign}
use Rattle.rr_syntax.specs.View.{plain}
use Rattle.rr_flat.specs.Targets.{target_bits}
use Rattle.rr_choice.specs.declared.pick.Pick.{Pick}
use Rattle.rr_instance.specs.Instances.{instance_tree}
use Rattle.rr_cycle.specs.Exec.{Environment, assigned, write}
use Rattle.rr_signal_wires.specs.declared.guarded_pieces.GuardedPiece.{GuardedPiece}
use Rattle.rr_signal_wires.specs.GuardedPieces.{put_guarded_pieces}
use Rattle.rr_signal_wires.specs.Words.{carried, widths_of}
use Rattle.rr_signal_wires.proofs.GuardedPieceLaws.{put_guarded_pieces-extends}
use Rattle.rr_signal_wires.proofs.WordLaws.{carried-extends}
use Rattle.rr_blast_terms.specs.Choosing.{picks_of}
use Rattle.rr_blast_terms.proofs.ChoiceLaws.{picks-extends}
use Rattle.rr_blast_stmt.specs.Running.{Values, held, ran, stored}
use Rattle.rr_blast_stmt.proofs.ArmLaws.{held-extends}
use Rattle.rr_blast_stmt.proofs.RanLaws.{ran_assign}
use Rattle.rr_blast_stmt.proofs.statements.assign.Goals as goal

pub returns-clause-ran : goal.returns-clause-ran
returns-clause-ran c = λ env.
    let x = c.in_ok-guarded_pieces.ensures in
    let y = c.in_ok-bits.ensures in
    let z = Extends-trans _ _ _ x.extends y.extends in
    let s = c.args.scope.now in
    let t = plain c.args.target.now in
    let ss = c.args.choice.now.sites.now in
    let k : List Pick = picks_of c.args.b.now env c.args.choice.now in
    let e : Tree = instance_tree ss k (plain c.args.expr.now) in
    let v : Values = held c.args.b.now env c.args.machine.now in
    let m : Environment = carried c.args.b.now env c.args.machine.now.now.items in
    let g : Bool = wire_value c.args.b.now env c.args.guard in
    let words = c.as_slice-words.ensures.value in
    let vs : wire_values c.right_side.new.b env c.as_slice-2.result.now ≡ assigned s t e m =
    ap (wire_values c.right_side.new.b env) c.as_slice-2.ensures.value ∙ y.value env
    ∙ ap₂ (λ (ps : List Pick) (f : Environment). assigned s t (instance_tree ss ps (plain c.args.expr.now)) f)
    (picks-extends c.args.b.now c.guarded_pieces_of.new.b env c.args.choice.now x.extends c.requires.choice)
    (ap (carried c.guarded_pieces_of.new.b env) words ∙ carried-extends c.args.b.now c.guarded_pieces_of.new.b env c.args.machine.now.now.items x.extends c.requires.machine.now) in
    let put : (us : List Bool) (f : Environment) → put_guarded_pieces c.right_side.new.b env c.as_slice.result.now us f ≡ write (target_bits s m t) us f =
    λ us f. ap (λ (ps : List GuardedPiece). put_guarded_pieces c.right_side.new.b env ps us f) c.as_slice.ensures.value
    ∙ put_guarded_pieces-extends c.guarded_pieces_of.new.b c.right_side.new.b env (widths_of c.as_slice-words.result.now) c.in_ok-guarded_pieces.guarded_pieces.items us f y.extends x.guarded_pieces
    ∙ x.value env us f
    ∙ ap (λ (w : List (Vec Wire Global)). write (target_bits s (carried c.args.b.now env w) t) us f) words in
    c.in_ok-store.ensures.ran env (target_bits s m t) (put (wire_values c.right_side.new.b env c.as_slice-2.result.now))
    ∙ ap₂ (λ (b : Bool) (u : Values). cond b (stored c.args.now (target_bits s m t) (wire_values c.right_side.new.b env c.as_slice-2.result.now) u) u)
    (z.values env c.args.guard c.requires.guard) (held-extends c.args.b.now c.right_side.new.b env (widths_of c.args.machine.now.now.items) c.args.machine.now z c.requires.machine)
    ∙ ap (λ (us : List Bool). cond g (stored c.args.now (target_bits s m t) us v) v) vs
    ∙ ap (λ (u : Values). cond g u v) (sym (ran_assign s t e c.args.now v))
