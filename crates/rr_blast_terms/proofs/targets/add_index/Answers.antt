use Rattle.std.proofs.Common.{◌≡◌, ◌∙◌, sym, ap, ap₂, arith, ◌+◌, ℕ, List, Option, drop, ℤ}
use Rattle.rr_circuit.specs.Values.{wire_values}
use Rattle.rr_bits.specs.Words.{reading}
use Rattle.rr_syntax.specs.View.{plain}
use Rattle.rr_expr.specs.declared.types.Bit.{Bit}
use Rattle.rr_expr.specs.declared.types.Entity.{Entity}
use Rattle.rr_expr.specs.declared.types.Entity.TheVariants.{Memory}
use Rattle.rr_expr.specs.declared.types.Shape.{Shape}
use Rattle.rr_expr.specs.Memories.{index_shape, word_at, word_bits, word_signal}
use Rattle.rr_expr.specs.Scopes.{entity_shape, meant}
use Rattle.rr_expr.specs.Selects.{integer_with}
use Rattle.rr_expr.specs.Values.{form, value}
use Rattle.rr_flat.specs.Targets.{index_bits}
use Rattle.rr_cycle.specs.Exec.{Environment, write}
use Rattle.rr_signal_wires.specs.GuardedPieces.{put_guarded_pieces}
use Rattle.rr_signal_wires.specs.Words.{carried, widths_of}
use Rattle.rr_signal_wires.proofs.GuardedPieceLaws.{AreGuardedPieces-extends, put_guarded_pieces-extends}
use Rattle.rr_blast_terms.proofs.NodeLaws.{bit_of_index, one_bit_of}
use Rattle.rr_blast_terms.proofs.targets.add_index.Goals as goal

pub add_word-requires-clause-width : goal.add_word-requires-clause-width
add_word-requires-clause-width c = omega (arith, ap (λ (e : Entity). (entity_shape e).width) (c.meaning.ensures), ap (λ (e : Entity). (entity_shape e).width) c.in-Memory.is, c.requires.width)

pub add_word-requires-clause-few : goal.add_word-requires-clause-few
add_word-requires-clause-few c = λ k l.
    let x = c.in-Memory in
    let h = c.requires.holds.memories c.args.name.now x.first x.low x.count x.range x.signed (sym c.meaning.ensures ∙ x.is) k l in
    omega (arith, h.0, c.requires.holds.few)

pub add_word-requires-clause-from : goal.add_word-requires-clause-from
add_word-requires-clause-from c = omega (arith, c.requires.few)

pub add_select-requires-clause-few : goal.add_select-requires-clause-few
add_select-requires-clause-few c = omega (arith, one_bit_of (meant c.args.scope.now c.args.name.now) (λ first low words range signed q. c.in_default.not-Memory first low words range signed (c.meaning.ensures ∙ q)), c.requires.few)

pub returns-in-Memory-clause-next : goal.returns-in-Memory-clause-next
returns-in-Memory-clause-next c = c.in_ok-after.ensures.next ∙ ap (λ (e : Entity). c.args.from + (index_shape e).width) (sym c.in-Memory.is ∙ c.meaning.ensures)

pub returns-in-Memory-clause-guarded_pieces : goal.returns-in-Memory-clause-guarded_pieces
returns-in-Memory-clause-guarded_pieces c =
    let x = c.in-Memory in
    let h = c.requires.holds.memories c.args.name.now x.first x.low x.count x.range x.signed (sym c.meaning.ensures ∙ x.is) in
    c.in_ok-after.ensures.guarded_pieces (widths_of c.args.words.now) h (AreGuardedPieces-extends c.args.b.now _ (widths_of c.args.words.now) c.args.list.now.items c.in_ok-bits.ensures.extends c.requires.guarded_pieces)

pub returns-in-Memory-clause-value : goal.returns-in-Memory-clause-value
returns-in-Memory-clause-value c = λ env vs e.
    let x = c.in-Memory in
    let s = c.args.scope.now in
    let i = plain c.args.index.now in
    let m : Environment = carried c.args.b.now env c.args.words.now in
    let q : meant s c.args.name.now ≡ Memory x.first x.low x.count x.range x.signed = sym c.meaning.ensures ∙ x.is in
    let h = c.requires.holds.memories c.args.name.now x.first x.low x.count x.range x.signed q in
    let a = AreGuardedPieces-extends c.args.b.now _ (widths_of c.args.words.now) c.args.list.now.items c.in_ok-bits.ensures.extends c.requires.guarded_pieces in
    let z : reading c.shape_of-own.result.signed (wire_values c.own_wires.new.b env c.as_slice.result.now) ≡ integer_with (form s i) (value s i m) =
    ap (reading c.shape_of-own.result.signed) (ap (wire_values c.own_wires.new.b env) c.as_slice.ensures.value ∙ c.in_ok-bits.ensures.value env)
    ∙ ap (λ (k : Shape). reading k.signed (value s i m (form s i).width (form s i).signed)) c.shape_of-own.ensures.value in
    c.in_ok-after.ensures.value (widths_of c.args.words.now) h a env vs e
    ∙ ap₂ (λ (k : ℤ) (d : Environment). write (word_bits x.range (word_signal x.first (word_at x.low x.count k))) (drop c.args.from vs) d)
    z (put_guarded_pieces-extends c.args.b.now c.own_wires.new.b env (widths_of c.args.words.now) c.args.list.now.items vs e c.in_ok-bits.ensures.extends c.requires.guarded_pieces)
    ∙ ap (λ (k : Entity). write (index_bits k (integer_with (form s i) (value s i m))) (drop c.args.from vs) (put_guarded_pieces c.args.b.now env c.args.list.now.items vs e)) (sym q)

pub returns-clause-next : goal.returns-clause-next
returns-clause-next c = c.in_ok-next.ensures.next ∙ ap (λ (w : ℕ). c.args.from + w) (sym (one_bit_of (meant c.args.scope.now c.args.name.now) (λ first low words range signed q. c.in_default.not-Memory first low words range signed (c.meaning.ensures ∙ q))))

pub returns-clause-value : goal.returns-clause-value
returns-clause-value c = λ env vs e.
    let s = c.args.scope.now in
    let i = plain c.args.index.now in
    let k = meant s c.args.name.now in
    c.in_ok-next.ensures.value env vs e
    ∙ ap (λ (bs : List (Option Bit)). write bs (drop c.args.from vs) (put_guarded_pieces c.args.b.now env c.args.list.now.items vs e))
    (bit_of_index k (integer_with (form s i) (value s i (carried c.args.b.now env c.args.words.now))) (λ first low words range signed q. c.in_default.not-Memory first low words range signed (c.meaning.ensures ∙ q)))
