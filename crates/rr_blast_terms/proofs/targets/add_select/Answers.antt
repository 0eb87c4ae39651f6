use Rattle.std.proofs.Common.{◌≡◌, ◌∙◌, sym, ap, ap₂, drop, ℤ}
use Rattle.rr_circuit.specs.Values.{wire_values}
use Rattle.rr_bits.specs.Words.{reading}
use Rattle.rr_syntax.specs.View.{plain}
use Rattle.rr_expr.specs.declared.types.Entity.{Entity}
use Rattle.rr_expr.specs.declared.types.Entity.TheVariants.{Signal}
use Rattle.rr_expr.specs.declared.types.Shape.{Shape}
use Rattle.rr_expr.specs.Scopes.{entity_range, meant}
use Rattle.rr_expr.specs.Selects.{integer_with, lowest_place}
use Rattle.rr_expr.specs.Values.{form, value}
use Rattle.rr_flat.specs.Targets.{bits_there}
use Rattle.rr_cycle.specs.Exec.{Environment, write}
use Rattle.rr_signal_wires.specs.GuardedPieces.{put_guarded_pieces}
use Rattle.rr_signal_wires.specs.Words.{carried, widths_of}
use Rattle.rr_signal_wires.proofs.GuardedPieceLaws.{AreGuardedPieces-extends, none_of_constant, none_of_instance, none_of_memory, put_guarded_pieces-extends}
use Rattle.rr_blast_terms.proofs.targets.add_select.Goals as goal

pub returns-in_ok-add_moving-in-Signal-clause-guarded_pieces : goal.returns-in_ok-add_moving-in-Signal-clause-guarded_pieces
returns-in_ok-add_moving-in-Signal-clause-guarded_pieces c =
    let x = c.in-Signal in
    let h = c.requires.holds.signals c.args.name.now x.id x.range x.signed (sym c.meaning.ensures ∙ x.is) in
    c.in_ok-add_moving-in-Signal.ensures.guarded_pieces (widths_of c.args.words.now) h.0 h.1 (AreGuardedPieces-extends c.args.b.now _ (widths_of c.args.words.now) c.args.list.now.items c.in_ok-bits-in-Signal.ensures.extends c.requires.guarded_pieces)

pub returns-in_ok-add_moving-in-Signal-clause-value : goal.returns-in_ok-add_moving-in-Signal-clause-value
returns-in_ok-add_moving-in-Signal-clause-value c = λ env vs e.
    let x = c.in-Signal in
    let s = c.args.scope.now in
    let i = plain c.args.index.now in
    let m : Environment = carried c.args.b.now env c.args.words.now in
    let q : meant s c.args.name.now ≡ Signal x.id x.range x.signed = sym c.meaning.ensures ∙ x.is in
    let h = c.requires.holds.signals c.args.name.now x.id x.range x.signed q in
    let a = AreGuardedPieces-extends c.args.b.now _ (widths_of c.args.words.now) c.args.list.now.items c.in_ok-bits-in-Signal.ensures.extends c.requires.guarded_pieces in
    let z : reading c.shape_of-own.result.signed (wire_values c.own_wires.new.b env c.as_slice.result.now) ≡ integer_with (form s i) (value s i m) =
    ap (reading c.shape_of-own.result.signed) (ap (wire_values c.own_wires.new.b env) c.as_slice.ensures.value ∙ c.in_ok-bits-in-Signal.ensures.value env)
    ∙ ap (λ (k : Shape). reading k.signed (value s i m (form s i).width (form s i).signed)) c.shape_of-own.ensures.value in
    c.in_ok-add_moving-in-Signal.ensures.value x.signed (widths_of c.args.words.now) h.0 h.1 a env vs e
    ∙ ap₂ (λ (k : ℤ) (d : Environment). write (bits_there (Signal x.id x.range x.signed) (lowest_place (entity_range (Signal x.id x.range x.signed)) c.args.up k c.args.count) c.args.count) (drop c.args.from vs) d)
    z (put_guarded_pieces-extends c.args.b.now c.own_wires.new.b env (widths_of c.args.words.now) c.args.list.now.items vs e c.in_ok-bits-in-Signal.ensures.extends c.requires.guarded_pieces)
    ∙ ap (λ (k : Entity). write (bits_there k (lowest_place (entity_range k) c.args.up (integer_with (form s i) (value s i m)) c.args.count) c.args.count) (drop c.args.from vs) (put_guarded_pieces c.args.b.now env c.args.list.now.items vs e)) (sym q)

pub returns-in-Constant-clause-value : goal.returns-in-Constant-clause-value
returns-in-Constant-clause-value c = λ env vs e. rw (sym c.meaning.ensures ∙ c.in-Constant.is) (sym (none_of_constant c.in-Constant.bits c.in-Constant.signed _ c.args.count (drop c.args.from vs) (put_guarded_pieces c.args.b.now env c.args.list.now.items vs e)))

pub returns-in-Memory-clause-value : goal.returns-in-Memory-clause-value
returns-in-Memory-clause-value c = λ env vs e.
    rw (sym c.meaning.ensures ∙ c.in-Memory.is)
    (sym (none_of_memory c.in-Memory.first c.in-Memory.low c.in-Memory.words c.in-Memory.range c.in-Memory.signed _ c.args.count (drop c.args.from vs) (put_guarded_pieces c.args.b.now env c.args.list.now.items vs e)))

pub returns-in-Instance-clause-value : goal.returns-in-Instance-clause-value
returns-in-Instance-clause-value c = λ env vs e. rw (sym c.meaning.ensures ∙ c.in-Instance.is) (sym (none_of_instance _ c.args.count (drop c.args.from vs) (put_guarded_pieces c.args.b.now env c.args.list.now.items vs e)))
