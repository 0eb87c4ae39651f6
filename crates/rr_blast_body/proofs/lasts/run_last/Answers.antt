use Rattle.std.proofs.Common.{◌≡◌, ◌∙◌, sym, ap, ap₂, arith, ℕ, Bool, List, Option, cond, get_or, length, max, pos, false, ◌&&◌}
use Rattle.std.specs.Prelude.{Vec}
use Rattle.std.specs.Global.{Global}
use Rattle.rr_circuit.specs.declared.Wire.{Wire}
use Rattle.rr_circuit.specs.Values.{wire_value, wire_values}
use Rattle.rr_circuit.proofs.Netlists.{wire_values-extends}
use Rattle.rr_syntax.specs.View.{texts}
use Rattle.rr_expr.specs.declared.types.Bit.{Bit}
use Rattle.rr_expr.specs.declared.types.Entity.TheVariants.{Signal}
use Rattle.rr_expr.specs.Scopes.{meant, range_width}
use Rattle.rr_flat.specs.Targets.{bits_there}
use Rattle.rr_choice.specs.Choices.{picked_form, picked_name}
use Rattle.rr_instance.specs.Instances.{gate}
use Rattle.rr_cycle.specs.Exec.{Environment, is_true, write}
use Rattle.rr_signal_wires.specs.declared.guarded_pieces.GuardedPiece.{GuardedPiece}
use Rattle.rr_signal_wires.specs.GuardedPieces.{put_guarded_pieces}
use Rattle.rr_signal_wires.specs.Words.{carried, widths_of}
use Rattle.rr_signal_wires.proofs.GuardedPieceLaws.{put_guarded_pieces-extends}
use Rattle.rr_signal_wires.proofs.WordLaws.{count_of, width_at}
use Rattle.rr_blast_stmt.specs.Running.{Values, held, stored}
use Rattle.rr_blast_stmt.proofs.ArmLaws.{held-extends}
use Rattle.rr_blast_body.specs.Lasts.{last_pick}
use Rattle.rr_blast_body.proofs.LastLaws.{last_made, last_of_constant, last_of_instance, last_of_memory}
use Rattle.rr_blast_body.proofs.lasts.run_last.Goals as goal

pub whole_guarded_pieces-requires-clause-there : goal.whole_guarded_pieces-requires-clause-there
whole_guarded_pieces-requires-clause-there c =
    let h = c.requires.holds.signals c.args.last.now.target.now c.in-Signal.id c.in-Signal.range c.in-Signal.signed (sym c.meaning.ensures ∙ c.in-Signal.is) in
    omega (arith, h.0, count_of c.args.machine.now.now.items, ap length c.as_slice-words.ensures.value)

pub bounds-words-id : goal.bounds-words-id
bounds-words-id c =
    let h = c.requires.holds.signals c.args.last.now.target.now c.in-Signal.id c.in-Signal.range c.in-Signal.signed (sym c.meaning.ensures ∙ c.in-Signal.is) in
    omega (arith, h.0, count_of c.args.machine.now.now.items, ap length c.as_slice-words.ensures.value)

pub overflow_cast-own : goal.overflow_cast-own
overflow_cast-own c =
    let words = c.as_slice-words.result.now in
    let id : ℕ = c.in-Signal.id in
    let v : Vec Wire Global = c.index-words-id.result in
    let h = c.requires.holds.signals c.args.last.now.target.now id c.in-Signal.range c.in-Signal.signed (sym c.meaning.ensures ∙ c.in-Signal.is) in
    let w : get_or (widths_of words) id 0 ≡ length v.items =
    width_at words id v (omega (arith, h.0, count_of c.args.machine.now.now.items, ap length c.as_slice-words.ensures.value)) ∙ sym (ap (λ (u : Vec Wire Global). length u.items) c.index-words-id.is) in
    omega (arith, w, ap (λ (ws : List (Vec Wire Global)). get_or (widths_of ws) id 0) c.as_slice-words.ensures.value, c.len-own.ensures, c.requires.narrow id, v.ok.0)

pub returns-in_ok-store-in-Signal-clause-ran : goal.returns-in_ok-store-in-Signal-clause-ran
returns-in_ok-store-in-Signal-clause-ran c = λ env.
    let n = c.args.b.now in
    let m = c.last_guard.new.b in
    let s = c.args.scope.now in
    let last = c.args.last.now in
    let words = c.as_slice-words.result.now in
    let same = c.as_slice-words.ensures.value in
    let id : ℕ = c.in-Signal.id in
    let range : Option (ℕ × ℕ) = c.in-Signal.range in
    let signed : Bool = c.in-Signal.signed in
    let q : meant s last.target.now ≡ Signal id range signed = sym c.meaning.ensures ∙ c.in-Signal.is in
    let h = c.requires.holds.signals last.target.now id range signed q in
    let width : get_or (widths_of words) id 0 ≡ range_width range = ap (λ (ws : List (Vec Wire Global)). get_or (widths_of ws) id 0) same ∙ h.1 in
    let u : Vec Wire Global = c.index-words-id.result in
    let w : get_or (widths_of words) id 0 ≡ length u.items =
    width_at words id u (omega (arith, h.0, count_of c.args.machine.now.now.items, ap length same)) ∙ sym (ap (λ (v : Vec Wire Global). length v.items) c.index-words-id.is) in
    let own : c.len-own.result ≡ range_width range = omega (arith, c.len-own.ensures, u.ok.0, w, width) in
    let vs : List Bool = wire_values n env c.args.bits.now in
    let v : Values = held n env c.args.machine.now in
    let x = c.in_ok-guard-in-Signal.ensures in
    let guarded_pieces = c.in_ok-guarded_pieces-in-Signal.ensures in
    let word = c.in_ok-word-in-Signal.ensures in
    let us : List Bool = wire_values m env c.as_slice-in-Signal.result.now in
    let bits : List (Option Bit) = bits_there (Signal id range signed) (pos 0) (range_width range) in
    let put : (e : Environment) → put_guarded_pieces m env c.as_slice.result.now us e ≡ write bits us e =
    λ e. ap (λ (ps : List GuardedPiece). put_guarded_pieces m env ps us e) c.as_slice.ensures.value
    ∙ put_guarded_pieces-extends n m env (widths_of words) c.in_ok-guarded_pieces-in-Signal.guarded_pieces.items us e x.extends guarded_pieces.guarded_pieces
    ∙ guarded_pieces.value range signed width env us e in
    c.in_ok-store-in-Signal.ensures.ran env bits put
    ∙ ap₂ (λ (g : Bool) (y : Values). cond g (stored last.at_once bits us y) y)
    (x.value env
    ∙ ap (λ (ws : List (Vec Wire Global)). get_or vs 0 false && is_true s (gate (picked_form (texts last.names.now) (last_pick last vs).form) (picked_name (texts last.names.now) (last_pick last vs).name)) (carried n env ws)) same)
    (held-extends n m env (widths_of c.args.machine.now.now.items) c.args.machine.now x.extends c.requires.machine)
    ∙ last_made s last vs us v id range signed c.max-width.result q (c.max-width.ensures ∙ ap (λ (o : ℕ). max o last.width) own)
    (ap (wire_values m env) c.as_slice-in-Signal.ensures.value ∙ wire_values-extends n m c.in_ok-word-in-Signal.word.items env x.extends word.wires ∙ word.value env s v.now)

pub returns-in-Constant-clause-ran : goal.returns-in-Constant-clause-ran
returns-in-Constant-clause-ran c = λ env.
    last_of_constant c.args.scope.now c.args.last.now (wire_values c.args.b.now env c.args.bits.now) (held c.args.b.now env c.args.machine.now) c.in-Constant.bits c.in-Constant.signed (sym c.meaning.ensures ∙ c.in-Constant.is)

pub returns-in-Memory-clause-ran : goal.returns-in-Memory-clause-ran
returns-in-Memory-clause-ran c = λ env.
    last_of_memory c.args.scope.now c.args.last.now (wire_values c.args.b.now env c.args.bits.now) (held c.args.b.now env c.args.machine.now) c.in-Memory.first c.in-Memory.low c.in-Memory.words c.in-Memory.range c.in-Memory.signed
    (sym c.meaning.ensures ∙ c.in-Memory.is)

pub returns-in-Instance-clause-ran : goal.returns-in-Instance-clause-ran
returns-in-Instance-clause-ran c = λ env.
    last_of_instance c.args.scope.now c.args.last.now (wire_values c.args.b.now env c.args.bits.now) (held c.args.b.now env c.args.machine.now) (sym c.meaning.ensures ∙ c.in-Instance.is)
