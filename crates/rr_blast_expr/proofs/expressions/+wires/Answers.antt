use Rattle.std.proofs.Common.{◌≡◌, ◌∙◌, ap, ap₂, sym, refl, not, false, max, length, ◌-◌, arith, rules}
use Rattle.rr_bits.specs.Words.{is_zero, negated, inverted, number, extend}
use Rattle.rr_circuit.proofs.Netlists.{Extends-trans}
use Rattle.rr_syntax.specs.declared.tree.Expr.{the_lemmas}
use Rattle.rr_syntax.specs.View.{plain, plain_list}
use Rattle.rr_expr.specs.declared.types.Shape.{Shape}
use Rattle.rr_expr.specs.declared.operators.Infix.TheVariants.{Arithmetic, Divide, Remainder, Power, Shifted, Compared, Both, Either}
use Rattle.rr_expr.specs.Faults.{fault}
use Rattle.rr_expr.specs.Operators.{joined, reduction_holds, operation_value, shift_value, relation_holds}
use Rattle.rr_expr.specs.Selects.{repeated}
use Rattle.rr_expr.specs.Values.{form}
use Rattle.rr_word_gates.specs.Gates.{connected}
use Rattle.rr_blast_sites.specs.Instances.{place_of, worth, parts_worth}
use Rattle.rr_blast_expr.specs.Forms.{in_context}
use Rattle.rr_word_gates.proofs.Carrying.{Carries-same, Carries-extends, CarriesBit-same, CarriesBit-extends, carried1, carried2, carried_bit1, carried_bit2, carried_bits, carried_word, carried_choice}
use Rattle.rr_blast_expr.proofs.Faultless.{none-Name, none-Literal, none-Bit, none-Part, none-Indexed, none-Unary, none-Cond, none-Concat, none-Repeat, none-Cast, none-Paren, none_at}
use Rattle.rr_blast_sites.proofs.SignalLaws.{AreSignals-extends}
use Rattle.rr_blast_sites.proofs.GrowthLaws.{listed_still, HasWires-extends, Reads-extends}
use Rattle.rr_blast_expr.proofs.Worths.{weaker_to, weaker_constant, Name-arm, Literal-arm, Bit-arm, Part-arm, Indexed-arm, Unary-arm, Cond-arm, Concat-arm, Repeat-arm, Cast-arm, Paren-arm, copied-carried, copied_there, part_width, indexed_width, unary_width, cond_width, paren_width, concat_width, cast_width, own-Concat, own-Cast, own-Paren, plain_binary, Listed-more, HasWires-still, index-arm, name-carried, wired-bits, constant-bits, wired-word, fixed-word, bit-carried, memory-carried, indexed-carried, operands, binary_form, Infix-arm, Constant-arm, Listed-none, Listed-all}
use Rattle.rr_blast_expr.proofs.expressions.+wires.Goals as goal

pub own_word-parts_word-requires : goal.own_word-parts_word-requires
own_word-parts_word-requires t c = (search (rules, the_lemmas), (c.requires.wires, none-Concat c.args.inputs.now.scope.now c.args.expr.now _ c.in-Concat.is c.requires.none))

pub own_word-own_word-requires : goal.own_word-own_word-requires
own_word-own_word-requires t c = (search (rules, the_lemmas), (c.requires.wires, none-Cast c.args.inputs.now.scope.now c.args.expr.now _ _ c.in-Cast.is c.requires.none))

pub own_word-own_word-requires-in-Paren : goal.own_word-own_word-requires-in-Paren
own_word-own_word-requires-in-Paren t c = (search (rules, the_lemmas), (c.requires.wires, none-Paren c.args.inputs.now.scope.now c.args.expr.now _ c.in-Paren.is c.requires.none))

pub own_word-returns-in_ok-out-in-Concat-clause-width : goal.own_word-returns-in_ok-out-in-Concat-clause-width
own_word-returns-in_ok-out-in-Concat-clause-width t c = c.in_ok-out-in-Concat.ensures.width ∙ sym (concat_width c.args.inputs.now.scope.now c.args.expr.now _ c.in-Concat.is)

pub own_word-returns-in_ok-out-in-Concat-clause-value : goal.own_word-returns-in_ok-out-in-Concat-clause-value
own_word-returns-in_ok-out-in-Concat-clause-value t c = λ W h. own-Concat _ (place_of c.args.inputs.now W) c.args.expr.now _ _ c.in-Concat.is c.in_ok-out-in-Concat.ensures.width (c.in_ok-out-in-Concat.ensures.value W h)

pub own_word-returns-in_ok-out-in-Cast-clause-width : goal.own_word-returns-in_ok-out-in-Cast-clause-width
own_word-returns-in_ok-out-in-Cast-clause-width t c = c.in_ok-out-in-Cast.ensures.width ∙ sym (cast_width c.args.inputs.now.scope.now c.args.expr.now _ _ c.in-Cast.is)

pub own_word-returns-in_ok-out-in-Cast-clause-value : goal.own_word-returns-in_ok-out-in-Cast-clause-value
own_word-returns-in_ok-out-in-Cast-clause-value t c = λ W h. own-Cast _ (place_of c.args.inputs.now W) c.args.expr.now _ _ _ c.in-Cast.is c.in_ok-out-in-Cast.ensures.width (c.in_ok-out-in-Cast.ensures.value W h)

pub own_word-returns-in_ok-out-in-Paren-clause-width : goal.own_word-returns-in_ok-out-in-Paren-clause-width
own_word-returns-in_ok-out-in-Paren-clause-width t c = c.in_ok-out-in-Paren.ensures.width ∙ sym (paren_width c.args.inputs.now.scope.now c.args.expr.now _ c.in-Paren.is)

pub own_word-returns-in_ok-out-in-Paren-clause-value : goal.own_word-returns-in_ok-out-in-Paren-clause-value
own_word-returns-in_ok-out-in-Paren-clause-value t c = λ W h. own-Paren _ (place_of c.args.inputs.now W) c.args.expr.now _ _ c.in-Paren.is (c.in_ok-out-in-Paren.ensures.value W h)

pub own_word-returns-in_ok-out-in_default : goal.own_word-returns-in_ok-out-in_default
own_word-returns-in_ok-out-in_default t c = record {
  extends = c.in_ok-out-in_default.ensures.extends;
  wires = c.in_ok-out-in_default.ensures.wires;
  width = c.in_ok-out-in_default.ensures.width ∙ ap (λ (a : Shape). a.width) c.own_shape-shape.ensures.value;
  value = λ W h. Carries-same _ _ _ _ (c.in_ok-out-in_default.ensures.value W h) (λ input. ap (λ a. worth (place_of c.args.inputs.now W) (plain c.args.expr.now) a input) c.own_shape-shape.ensures.value);
}

pub is_true-returns-clause-value : goal.is_true-returns-clause-value
is_true-returns-clause-value t c = λ W h. carried_bit1 (λ vs. not (is_zero vs)) _ _ _ _ _ _ c.as_slice.ensures.value (c.in_ok-word.ensures.value W h) c.in_ok-out.ensures.value

pub prefix_word-returns-in-Plus-clause-value : goal.prefix_word-returns-in-Plus-clause-value
prefix_word-returns-in-Plus-clause-value t c = rw c.in-Plus.is c.word_in.ensures.value

pub prefix_word-returns-in_ok-out-in-Minus-clause-value : goal.prefix_word-returns-in_ok-out-in-Minus-clause-value
prefix_word-returns-in_ok-out-in-Minus-clause-value t c = λ W h. rw c.in-Minus.is (carried1 negated _ _ _ _ _ _ c.as_slice.ensures.value (c.in_ok-word-in-Minus.ensures.value W h) c.in_ok-out-in-Minus.ensures.value)

pub prefix_word-returns-in_ok-out-in-Invert-clause-value : goal.prefix_word-returns-in_ok-out-in-Invert-clause-value
prefix_word-returns-in_ok-out-in-Invert-clause-value t c = λ W h. rw c.in-Invert.is (carried1 inverted _ _ _ _ _ _ c.as_slice-in-Invert.ensures.value (c.in_ok-word-in-Invert.ensures.value W h) c.in_ok-out-in-Invert.ensures.value)

pub prefix_word-returns-in_ok-out-in-Reduced-clause-value : goal.prefix_word-returns-in_ok-out-in-Reduced-clause-value
prefix_word-returns-in_ok-out-in-Reduced-clause-value t c = λ W h. rw c.in-Reduced.is (carried_word (in_context c.args.context) _ _ _ _ _ (carried_bit1 (reduction_holds c.in-Reduced.op) _ _ _ _ _ _ c.as_slice-in-Reduced.ensures.value (c.in_ok-word-in-Reduced.ensures.value W h) c.in_ok-bit-in-Reduced.ensures.value) c.in_ok-out-in-Reduced.ensures.value)

pub operation_word-word_in-requires-2 : goal.operation_word-word_in-requires-2
operation_word-word_in-requires-2 t c = (search (rules, the_lemmas), (HasWires-extends _ _ _ c.in_ok-xs.ensures.extends c.requires.wires, (c.requires.right, (c.requires.right_low, (c.requires.positive, c.requires.high)))))

pub operation_word-returns-clause-value : goal.operation_word-returns-clause-value
operation_word-returns-clause-value t c = λ W h. carried2 (operation_value c.args.op) _ _ _ _ _ _ _ _ _ c.as_slice.ensures.value c.as_slice-2.ensures.value (Carries-extends _ _ _ _ c.in_ok-ys.ensures.extends (c.in_ok-xs.ensures.value W h)) (c.in_ok-ys.ensures.value W (Reads-extends _ _ _ _ c.in_ok-xs.ensures.extends h)) c.in_ok-out.ensures.value

pub shift_word-own_word-requires : goal.shift_word-own_word-requires
shift_word-own_word-requires t c = (search (rules, the_lemmas), (HasWires-extends _ _ _ c.in_ok-xs.ensures.extends c.requires.wires, c.requires.right))

pub shift_word-returns-clause-value : goal.shift_word-returns-clause-value
shift_word-returns-clause-value t c = λ W h. carried2 (λ xs ys. shift_value c.args.op c.args.context.signed xs (number ys)) _ _ _ _ _ _ _ _ _ c.as_slice.ensures.value c.as_slice-2.ensures.value (Carries-extends _ _ _ _ c.in_ok-by.ensures.extends (c.in_ok-xs.ensures.value W h)) (c.in_ok-by.ensures.value W (Reads-extends _ _ _ _ c.in_ok-xs.ensures.extends h)) c.in_ok-out.ensures.value

pub chosen_word-word_in-requires : goal.chosen_word-word_in-requires
chosen_word-word_in-requires t c = (search (rules, the_lemmas), (HasWires-extends _ _ _ (Extends-trans _ _ _ c.in_ok-before.ensures.extends c.in_ok-bit.ensures.extends) c.requires.wires, (c.requires.yes, (c.requires.yes_low, (c.requires.positive, c.requires.high)))))

pub chosen_word-word_in-requires-2 : goal.chosen_word-word_in-requires-2
chosen_word-word_in-requires-2 t c = (search (rules, the_lemmas), (HasWires-extends _ _ _ (Extends-trans _ _ _ (Extends-trans _ _ _ c.in_ok-before.ensures.extends c.in_ok-bit.ensures.extends) c.in_ok-xs.ensures.extends) c.requires.wires, (c.requires.no, (c.requires.no_low, (c.requires.positive, c.requires.high)))))

pub chosen_word-returns-clause-value : goal.chosen_word-returns-clause-value
chosen_word-returns-clause-value t c = λ W h. carried_choice _ _ _ _ _ _ _ _ _ _ _ c.as_slice.ensures.value c.as_slice-2.ensures.value (CarriesBit-extends _ _ _ _ (Extends-trans _ _ _ c.in_ok-xs.ensures.extends c.in_ok-ys.ensures.extends) (c.in_ok-bit.ensures.value W (Reads-extends _ _ _ _ c.in_ok-before.ensures.extends h) (c.in_ok-before.ensures.value W h))) (Carries-extends _ _ _ _ c.in_ok-ys.ensures.extends (c.in_ok-xs.ensures.value W (Reads-extends _ _ _ _ (Extends-trans _ _ _ c.in_ok-before.ensures.extends c.in_ok-bit.ensures.extends) h))) (c.in_ok-ys.ensures.value W (Reads-extends _ _ _ _ (Extends-trans _ _ _ (Extends-trans _ _ _ c.in_ok-before.ensures.extends c.in_ok-bit.ensures.extends) c.in_ok-xs.ensures.extends) h)) c.in_ok-out.ensures.value

pub parts_word-own_word-requires : goal.parts_word-own_word-requires
parts_word-own_word-requires t c = (search (rules, the_lemmas), (HasWires-extends _ _ _ c.loop-i.invariant.extends c.requires.wires, none_at c.args.inputs.now.scope.now c.args.parts.now (length c.args.parts.now - 1 - c.loop-i.i) c.index-parts-parts.result c.requires.none (omega arith) c.index-parts-parts.is))

pub parts_word-loop-i-init : goal.parts_word-loop-i-init
parts_word-loop-i-init t c = Listed-none c.args.inputs.now _ c.args.parts.now _ c.new-out.ensures.items

pub parts_word-loop-i-preserved : goal.parts_word-loop-i-preserved
parts_word-loop-i-preserved t c = let low = c.in_ok-low.ensures in Listed-more c.args.inputs.now _ _ _ c.args.parts.now _ _ _ _ c.index-parts-parts.result _ (length c.args.parts.now - 1 - c.loop-i.i) c.loop-i.invariant c.loop-i-test.true refl c.index-parts-parts.is low.extends low.wires low.width low.value c.as_slice.ensures.value c.in_ok-extend_from_slice.ensures.items

pub parts_word-returns-clause-wires : goal.parts_word-returns-clause-wires
parts_word-returns-clause-wires t c = c.loop-i.invariant.wires

pub parts_word-returns-clause-width : goal.parts_word-returns-clause-width
parts_word-returns-clause-width t c = (Listed-all c.args.inputs.now _ _ c.args.parts.now _ _ c.loop-i.invariant (omega arith)).0

pub parts_word-returns-clause-value : goal.parts_word-returns-clause-value
parts_word-returns-clause-value t c = (Listed-all c.args.inputs.now _ _ c.args.parts.now _ _ c.loop-i.invariant (omega arith)).1

pub relation_word-word_in-requires-2 : goal.relation_word-word_in-requires-2
relation_word-word_in-requires-2 t c = let e : c.joined-shape.result.width ≡ max c.own_shape.result.width c.own_shape-2.result.width = ap (λ (a : Shape). a.width) c.joined-shape.ensures in let r : c.own_shape-2.result.width ≡ (form c.args.inputs.now.scope.now (plain c.args.right.now)).width = ap (λ (a : Shape). a.width) c.own_shape-2.ensures.value in (search (rules, the_lemmas), (HasWires-extends _ _ _ c.in_ok-xs.ensures.extends c.requires.wires, (c.requires.right, (omega (arith, e, r), (omega (arith, e, c.own_shape.ensures.low), omega (arith, e, c.own_shape.ensures.high, c.own_shape-2.ensures.high))))))

pub relation_word-returns-clause-value : goal.relation_word-returns-clause-value
relation_word-returns-clause-value t c = λ W h. carried_word (in_context c.args.context) _ _ _ _ _ (CarriesBit-same _ _ _ _ (carried_bit2 (relation_holds c.args.op c.joined-shape.result.signed) _ _ _ _ _ _ _ _ _ c.as_slice.ensures.value c.as_slice-2.ensures.value (Carries-extends _ _ _ _ c.in_ok-ys.ensures.extends (c.in_ok-xs.ensures.value W h)) (c.in_ok-ys.ensures.value W (Reads-extends _ _ _ _ c.in_ok-xs.ensures.extends h)) c.in_ok-bit.ensures.value) (λ input. ap (λ (a : Shape). relation_holds c.args.op a.signed (worth (place_of c.args.inputs.now W) (plain c.args.left.now) a input) (worth (place_of c.args.inputs.now W) (plain c.args.right.now) a input)) (c.joined-shape.ensures ∙ ap₂ joined c.own_shape.ensures.value c.own_shape-2.ensures.value))) c.in_ok-out.ensures.value

pub logic_word-is_true-requires-2 : goal.logic_word-is_true-requires-2
logic_word-is_true-requires-2 t c = (search (rules, the_lemmas), (HasWires-extends _ _ _ c.in_ok-x.ensures.extends c.requires.wires, c.requires.right))

pub logic_word-returns-clause-value : goal.logic_word-returns-clause-value
logic_word-returns-clause-value t c = λ W h. carried_word (in_context c.args.context) _ _ _ _ _ (carried_bits (connected c.args.op) _ _ _ _ _ _ _ (CarriesBit-extends _ _ _ _ c.in_ok-y.ensures.extends (c.in_ok-x.ensures.value W h)) (c.in_ok-y.ensures.value W (Reads-extends _ _ _ _ c.in_ok-x.ensures.extends h)) c.in_ok-bit.ensures.value) c.in_ok-out.ensures.value

pub bits_at-word_in-requires : goal.bits_at-word_in-requires
bits_at-word_in-requires t c = (search (rules, the_lemmas), (HasWires-still _ c.args.inputs.now c.unsited-still.result c.unsited-still.ensures.signals (listed_still c.unsited-still.result c.unsited-still.ensures.still) c.unsited-still.ensures.choice c.requires.wires.signals, (ap (λ s. fault s (plain c.args.index.now) false) c.unsited-still.ensures.scope ∙ c.requires.none, (let w : (form c.unsited-still.result.scope.now (plain c.args.index.now)).width ≡ c.own_shape-shape.result.width = ap (λ s. (form s (plain c.args.index.now)).width) c.unsited-still.ensures.scope ∙ sym (ap (λ (a : Shape). a.width) c.own_shape-shape.ensures.value) in omega (arith, w), (c.own_shape-shape.ensures.low, c.own_shape-shape.ensures.high)))))

pub bits_at-returns-in_ok-out-in-None-clause-value : goal.bits_at-returns-in_ok-out-in-None-clause-value
bits_at-returns-in_ok-out-in-None-clause-value t c = λ W h. wired-bits (place_of c.args.inputs.now W) _ _ _ c.own_shape-shape.result c.args.range c.args.below c.args.count (plain c.args.index.now) _ _ _ _ c.own_shape-shape.ensures.value c.as_slice-by.ensures.value c.in_ok-at-in-None.ensures.extends c.requires.word (index-arm _ _ c.args.inputs.now c.unsited-still.result W _ (plain c.args.index.now) c.unsited-still.ensures.scope c.unsited-still.ensures.signals (listed_still c.unsited-still.result c.unsited-still.ensures.still) c.unsited-still.ensures.choice h (λ V r. Carries-same _ _ _ _ (c.in_ok-at-in-None.ensures.value V r) (λ input. ap (λ a. worth (place_of c.unsited-still.result V) (plain c.args.index.now) a input) (c.own_shape-shape.ensures.value ∙ ap (λ s. form s (plain c.args.index.now)) (sym c.unsited-still.ensures.scope))))) c.in_ok-out-in-None.ensures.value

pub bits_at-returns-in_ok-out-in-Some-clause-value : goal.bits_at-returns-in_ok-out-in-Some-clause-value
bits_at-returns-in_ok-out-in-Some-clause-value t c = λ W h. constant-bits (place_of c.args.inputs.now W) _ _ c.args.range c.args.below c.args.count (plain c.args.index.now) _ _ c.in-Some.ensures.constant c.in-Some.ensures.value c.in_ok-out-in-Some.ensures.value

pub memory_word-word_in-requires : goal.memory_word-word_in-requires
memory_word-word_in-requires t c = (search (rules, the_lemmas), (HasWires-still _ c.args.inputs.now c.unsited-still.result c.unsited-still.ensures.signals (listed_still c.unsited-still.result c.unsited-still.ensures.still) c.unsited-still.ensures.choice c.requires.wires.signals, (ap (λ s. fault s (plain c.args.index.now) false) c.unsited-still.ensures.scope ∙ c.requires.none, (let w : (form c.unsited-still.result.scope.now (plain c.args.index.now)).width ≡ c.own_shape-shape.result.width = ap (λ s. (form s (plain c.args.index.now)).width) c.unsited-still.ensures.scope ∙ sym (ap (λ (a : Shape). a.width) c.own_shape-shape.ensures.value) in omega (arith, w), (c.own_shape-shape.ensures.low, c.own_shape-shape.ensures.high)))))

pub memory_word-moving_word-requires-clause-signals : goal.memory_word-moving_word-requires-clause-signals
memory_word-moving_word-requires-clause-signals t c = AreSignals-extends _ _ _ c.in_ok-at-in-None.ensures.extends c.requires.wires.signals

pub memory_word-returns-in_ok-out-in-None-clause-value : goal.memory_word-returns-in_ok-out-in-None-clause-value
memory_word-returns-in_ok-out-in-None-clause-value t c = λ W h. wired-word _ _ _ c.args.inputs.now W c.args.memory c.own_shape-shape.result (plain c.args.index.now) _ _ _ h c.own_shape-shape.ensures.value c.as_slice-by.ensures.value c.in_ok-at-in-None.ensures.extends (index-arm _ _ c.args.inputs.now c.unsited-still.result W _ (plain c.args.index.now) c.unsited-still.ensures.scope c.unsited-still.ensures.signals (listed_still c.unsited-still.result c.unsited-still.ensures.still) c.unsited-still.ensures.choice h (λ V r. Carries-same _ _ _ _ (c.in_ok-at-in-None.ensures.value V r) (λ input. ap (λ a. worth (place_of c.unsited-still.result V) (plain c.args.index.now) a input) (c.own_shape-shape.ensures.value ∙ ap (λ s. form s (plain c.args.index.now)) (sym c.unsited-still.ensures.scope))))) c.in_ok-out-in-None.ensures.value

pub memory_word-returns-in_ok-out-in-Some-clause-value : goal.memory_word-returns-in_ok-out-in-Some-clause-value
memory_word-returns-in_ok-out-in-Some-clause-value t c = λ W h. fixed-word _ c.args.inputs.now W c.args.memory _ (plain c.args.index.now) _ h c.in-Some.ensures.constant c.in-Some.ensures.value c.in_ok-out-in-Some.ensures.value

pub bit_select-returns-in-Memory-clause-value : goal.bit_select-returns-in-Memory-clause-value
bit_select-returns-in-Memory-clause-value t c = λ W h. carried1 (extend c.args.context.width c.args.context.signed) _ _ _ _ _ _ c.as_slice.ensures.value (memory-carried (place_of c.args.inputs.now W) _ _ c.index_shape-width.result c.in-Memory.first c.in-Memory.low c.in-Memory.words c.in-Memory.range c.in-Memory.signed c.args.name.now (plain c.args.index.now) _ c.meaning-entity.ensures c.in-Memory.is c.index_shape-width.ensures.value (c.in_ok-stored.ensures.value W h)) c.in_ok-whole.ensures.value

pub bit_select-returns-clause-value : goal.bit_select-returns-clause-value
bit_select-returns-clause-value t c = λ W h. carried1 (extend c.args.context.width c.args.context.signed) _ _ _ _ _ _ c.as_slice-3.ensures.value (bit-carried (place_of c.args.inputs.now W) _ _ _ _ c.args.name.now (plain c.args.index.now) _ _ _ c.in_default.not-Memory c.meaning-entity.ensures c.entity_range-range.ensures c.as_slice-2.ensures.value (name-carried _ c.args.inputs.now W _ _ c.args.name.now c.meaning-entity.ensures h c.in_ok-word.ensures.value) (c.in_ok-bit.ensures.value W h)) c.in_ok-out.ensures.value

pub indexed_select-returns-clause-value : goal.indexed_select-returns-clause-value
indexed_select-returns-clause-value t c = λ W h. carried1 (extend c.args.context.width c.args.context.signed) _ _ _ _ _ _ c.as_slice-2.ensures.value (indexed-carried (place_of c.args.inputs.now W) _ _ _ _ c.below_index-below.result c.args.count c.args.up c.args.name.now (plain c.args.from.now) _ _ _ c.meaning-entity.ensures c.entity_range-range.ensures c.as_slice.ensures.value c.below_index-below.ensures.place (name-carried _ c.args.inputs.now W _ _ c.args.name.now c.meaning-entity.ensures h c.in_ok-word.ensures.value) (c.in_ok-part.ensures.value W h)) c.in_ok-out.ensures.value

pub concat_word-returns-clause-value : goal.concat_word-returns-clause-value
concat_word-returns-clause-value t c = λ W h. carried1 (extend c.args.context.width c.args.context.signed) _ _ _ _ _ _ c.as_slice.ensures.value (c.in_ok-word.ensures.value W h) c.in_ok-out.ensures.value

pub cast_word-returns-clause-value : goal.cast_word-returns-clause-value
cast_word-returns-clause-value t c = λ W h. carried1 (extend c.args.context.width c.args.context.signed) _ _ _ _ _ _ c.as_slice.ensures.value (c.in_ok-word.ensures.value W h) c.in_ok-out.ensures.value

pub repeat_word-returns-clause-value : goal.repeat_word-returns-clause-value
repeat_word-returns-clause-value t c = λ W h. Carries-same _ _ _ _ (carried1 (extend c.args.context.width c.args.context.signed) _ _ _ _ _ _ c.as_slice-2.ensures.value (copied-carried _ _ _ _ _ _ _ c.as_slice.ensures.value c.in_ok-word.ensures refl (c.in_ok-part.ensures.value W h)) c.in_ok-out.ensures.value) (λ input. ap (λ n. extend c.args.context.width c.args.context.signed (repeated n (parts_worth (place_of c.args.inputs.now W) (plain_list c.args.parts.now) input))) c.copies_of-copies.ensures)

pub repeat_word-extended-requires : goal.repeat_word-extended-requires
repeat_word-extended-requires t c = copied_there _ _ _ _ _ _ c.as_slice.ensures.value c.in_ok-word.ensures c.as_slice-2.ensures.value c.in_ok-part.ensures.wires

pub infix_word-operation_word-requires : goal.infix_word-operation_word-requires
infix_word-operation_word-requires t c = let k = operands c.args.inputs.now.scope.now (plain c.args.expr.now) c.args.op.0 (plain c.args.left.now) (plain c.args.right.now) (Arithmetic c.in-Arithmetic.op) c.requires.is c.requires.none (sym c.in-Arithmetic.is ∙ c.infix_of.ensures) refl in let w = binary_form c.args.inputs.now.scope.now (plain c.args.expr.now) c.args.op.0 (plain c.args.left.now) (plain c.args.right.now) (Arithmetic c.in-Arithmetic.op) c.requires.is (sym c.in-Arithmetic.is ∙ c.infix_of.ensures) in (search (rules, the_lemmas), (c.requires.wires, (k.0, (k.1, (omega (arith, w, c.requires.low), (omega (arith, w, c.requires.low), (c.requires.positive, c.requires.high)))))))

pub infix_word-shift_word-requires : goal.infix_word-shift_word-requires
infix_word-shift_word-requires t c = let k = operands c.args.inputs.now.scope.now (plain c.args.expr.now) c.args.op.0 (plain c.args.left.now) (plain c.args.right.now) (Shifted c.in-Shifted.op) c.requires.is c.requires.none (sym c.in-Shifted.is ∙ c.infix_of.ensures) refl in let w = binary_form c.args.inputs.now.scope.now (plain c.args.expr.now) c.args.op.0 (plain c.args.left.now) (plain c.args.right.now) (Shifted c.in-Shifted.op) c.requires.is (sym c.in-Shifted.is ∙ c.infix_of.ensures) in (search (rules, the_lemmas), (c.requires.wires, (k.0, (k.1, (omega (arith, w, c.requires.low), (c.requires.positive, c.requires.high))))))

pub infix_word-relation_word-requires : goal.infix_word-relation_word-requires
infix_word-relation_word-requires t c = let k = operands c.args.inputs.now.scope.now (plain c.args.expr.now) c.args.op.0 (plain c.args.left.now) (plain c.args.right.now) (Compared c.in-Compared.op) c.requires.is c.requires.none (sym c.in-Compared.is ∙ c.infix_of.ensures) refl in (search (rules, the_lemmas), (c.requires.wires, (k.0, k.1)))

pub infix_word-logic_word-requires : goal.infix_word-logic_word-requires
infix_word-logic_word-requires t c = let k = operands c.args.inputs.now.scope.now (plain c.args.expr.now) c.args.op.0 (plain c.args.left.now) (plain c.args.right.now) (Both) c.requires.is c.requires.none (sym c.in-Both.is ∙ c.infix_of.ensures) refl in (search (rules, the_lemmas), (c.requires.wires, (k.0, k.1)))

pub infix_word-logic_word-requires-in-Either : goal.infix_word-logic_word-requires-in-Either
infix_word-logic_word-requires-in-Either t c = let k = operands c.args.inputs.now.scope.now (plain c.args.expr.now) c.args.op.0 (plain c.args.left.now) (plain c.args.right.now) (Either) c.requires.is c.requires.none (sym c.in-Either.is ∙ c.infix_of.ensures) refl in (search (rules, the_lemmas), (c.requires.wires, (k.0, k.1)))

pub infix_word-returns-in-Arithmetic-clause-value : goal.infix_word-returns-in-Arithmetic-clause-value
infix_word-returns-in-Arithmetic-clause-value t c = weaker_to _ _ _ c.args.inputs.now _ (λ W. worth (place_of c.args.inputs.now W) (plain c.args.expr.now) c.args.context) c.operation_word.ensures.value (λ W input. Infix-arm (place_of c.args.inputs.now W) (plain c.args.expr.now) c.args.context input c.args.op.0 (plain c.args.left.now) (plain c.args.right.now) (Arithmetic c.in-Arithmetic.op) c.requires.is (sym c.in-Arithmetic.is ∙ c.infix_of.ensures) refl)

pub infix_word-returns-in-Shifted-clause-value : goal.infix_word-returns-in-Shifted-clause-value
infix_word-returns-in-Shifted-clause-value t c = weaker_to _ _ _ c.args.inputs.now _ (λ W. worth (place_of c.args.inputs.now W) (plain c.args.expr.now) c.args.context) c.shift_word.ensures.value (λ W input. Infix-arm (place_of c.args.inputs.now W) (plain c.args.expr.now) c.args.context input c.args.op.0 (plain c.args.left.now) (plain c.args.right.now) (Shifted c.in-Shifted.op) c.requires.is (sym c.in-Shifted.is ∙ c.infix_of.ensures) refl)

pub infix_word-returns-in-Compared-clause-value : goal.infix_word-returns-in-Compared-clause-value
infix_word-returns-in-Compared-clause-value t c = weaker_to _ _ _ c.args.inputs.now _ (λ W. worth (place_of c.args.inputs.now W) (plain c.args.expr.now) c.args.context) c.relation_word.ensures.value (λ W input. Infix-arm (place_of c.args.inputs.now W) (plain c.args.expr.now) c.args.context input c.args.op.0 (plain c.args.left.now) (plain c.args.right.now) (Compared c.in-Compared.op) c.requires.is (sym c.in-Compared.is ∙ c.infix_of.ensures) refl)

pub infix_word-returns-in-Both-clause-value : goal.infix_word-returns-in-Both-clause-value
infix_word-returns-in-Both-clause-value t c = weaker_to _ _ _ c.args.inputs.now _ (λ W. worth (place_of c.args.inputs.now W) (plain c.args.expr.now) c.args.context) c.logic_word.ensures.value (λ W input. Infix-arm (place_of c.args.inputs.now W) (plain c.args.expr.now) c.args.context input c.args.op.0 (plain c.args.left.now) (plain c.args.right.now) Both c.requires.is (sym c.in-Both.is ∙ c.infix_of.ensures) refl)

pub infix_word-returns-in-Either-clause-value : goal.infix_word-returns-in-Either-clause-value
infix_word-returns-in-Either-clause-value t c = weaker_to _ _ _ c.args.inputs.now _ (λ W. worth (place_of c.args.inputs.now W) (plain c.args.expr.now) c.args.context) c.logic_word-in-Either.ensures.value (λ W input. Infix-arm (place_of c.args.inputs.now W) (plain c.args.expr.now) c.args.context input c.args.op.0 (plain c.args.left.now) (plain c.args.right.now) Either c.requires.is (sym c.in-Either.is ∙ c.infix_of.ensures) refl)

pub infix_word-returns-in-Divide-clause-value : goal.infix_word-returns-in-Divide-clause-value
infix_word-returns-in-Divide-clause-value t c = weaker_constant _ _ _ c.args.inputs.now _ (λ W. worth (place_of c.args.inputs.now W) (plain c.args.expr.now) c.args.context) c.constant_word.ensures.value (λ W input. Constant-arm (place_of c.args.inputs.now W) (plain c.args.expr.now) c.args.context input c.args.op.0 (plain c.args.left.now) (plain c.args.right.now) Divide c.requires.is c.requires.none (sym c.in-Divide.is ∙ c.infix_of.ensures) refl)

pub infix_word-returns-in-Remainder-clause-value : goal.infix_word-returns-in-Remainder-clause-value
infix_word-returns-in-Remainder-clause-value t c = weaker_constant _ _ _ c.args.inputs.now _ (λ W. worth (place_of c.args.inputs.now W) (plain c.args.expr.now) c.args.context) c.constant_word-in-Remainder.ensures.value (λ W input. Constant-arm (place_of c.args.inputs.now W) (plain c.args.expr.now) c.args.context input c.args.op.0 (plain c.args.left.now) (plain c.args.right.now) Remainder c.requires.is c.requires.none (sym c.in-Remainder.is ∙ c.infix_of.ensures) refl)

pub infix_word-returns-in-Power-clause-value : goal.infix_word-returns-in-Power-clause-value
infix_word-returns-in-Power-clause-value t c = weaker_constant _ _ _ c.args.inputs.now _ (λ W. worth (place_of c.args.inputs.now W) (plain c.args.expr.now) c.args.context) c.constant_word-in-Power.ensures.value (λ W input. Constant-arm (place_of c.args.inputs.now W) (plain c.args.expr.now) c.args.context input c.args.op.0 (plain c.args.left.now) (plain c.args.right.now) Power c.requires.is c.requires.none (sym c.in-Power.is ∙ c.infix_of.ensures) refl)

pub word_in-bit_select-requires : goal.word_in-bit_select-requires
word_in-bit_select-requires t c = let f = none-Bit c.args.inputs.now.scope.now c.args.expr.now _ _ _ c.in-Bit.is c.requires.none in (search (rules, the_lemmas), (c.requires.wires, (f.0, f.1)))

pub word_in-chosen_word-requires : goal.word_in-chosen_word-requires
word_in-chosen_word-requires t c = let f = none-Cond c.args.inputs.now.scope.now c.args.expr.now _ _ _ c.in-Cond.is c.requires.none in let w = cond_width c.args.inputs.now.scope.now c.args.expr.now _ _ _ c.in-Cond.is in (search (rules, the_lemmas), (c.requires.wires, (f.test, (f.yes, (f.no, (omega (arith, w, c.requires.low), (omega (arith, w, c.requires.low), (c.requires.positive, c.requires.high))))))))

pub word_in-indexed_select-requires : goal.word_in-indexed_select-requires
word_in-indexed_select-requires t c = let f = none-Indexed c.args.inputs.now.scope.now c.args.expr.now _ _ _ _ _ c.in-Indexed.is c.requires.none in (search (rules, the_lemmas), (c.requires.wires, (f.named, (f.index, (c.width-count.ensures.low, c.width-count.ensures.high)))))

pub word_in-infix_word-requires : goal.word_in-infix_word-requires
word_in-infix_word-requires t c = (search (rules, the_lemmas), (c.requires.wires, (ap plain c.in-Binary.is ∙ plain_binary _ _ _, (c.requires.none, (c.requires.low, (c.requires.positive, c.requires.high))))))

pub word_in-name_in-requires-clause-name : goal.word_in-name_in-requires-clause-name
word_in-name_in-requires-clause-name t c = none-Name c.args.inputs.now.scope.now c.args.expr.now _ _ c.in-Name.is c.requires.none

pub word_in-cast_word-requires : goal.word_in-cast_word-requires
word_in-cast_word-requires t c = (search (rules, the_lemmas), (c.requires.wires, none-Cast c.args.inputs.now.scope.now c.args.expr.now _ _ c.in-Cast.is c.requires.none))

pub word_in-part_select-requires-clause-name : goal.word_in-part_select-requires-clause-name
word_in-part_select-requires-clause-name t c = (none-Part c.args.inputs.now.scope.now c.args.expr.now _ _ _ _ c.in-Part.is c.requires.none).named

pub word_in-part_select-requires-clause-none : goal.word_in-part_select-requires-clause-none
word_in-part_select-requires-clause-none t c = (none-Part c.args.inputs.now.scope.now c.args.expr.now _ _ _ _ c.in-Part.is c.requires.none).right

pub word_in-concat_word-requires : goal.word_in-concat_word-requires
word_in-concat_word-requires t c = (search (rules, the_lemmas), (c.requires.wires, none-Concat c.args.inputs.now.scope.now c.args.expr.now _ c.in-Concat.is c.requires.none))

pub word_in-repeat_word-requires : goal.word_in-repeat_word-requires
word_in-repeat_word-requires t c = let f = none-Repeat c.args.inputs.now.scope.now c.args.expr.now _ _ c.in-Repeat.is c.requires.none in (search (rules, the_lemmas), (c.requires.wires, (f.0, f.1)))

pub word_in-prefix_word-requires : goal.word_in-prefix_word-requires
word_in-prefix_word-requires t c = let w = unary_width c.args.inputs.now.scope.now c.args.expr.now _ _ _ c.in-Unary.is c.prefix_of.ensures in (search (rules, the_lemmas), (c.requires.wires, (none-Unary c.args.inputs.now.scope.now c.args.expr.now _ _ c.in-Unary.is c.requires.none, (omega (arith, w, c.requires.low), (c.requires.positive, c.requires.high)))))

pub word_in-word_in-requires : goal.word_in-word_in-requires
word_in-word_in-requires t c = let w = paren_width c.args.inputs.now.scope.now c.args.expr.now _ c.in-Paren.is in (search (rules, the_lemmas), (c.requires.wires, (none-Paren c.args.inputs.now.scope.now c.args.expr.now _ c.in-Paren.is c.requires.none, (omega (arith, w, c.requires.low), (c.requires.positive, c.requires.high)))))

pub word_in-literal_in-requires-clause-width : goal.word_in-literal_in-requires-clause-width
word_in-literal_in-requires-clause-width t c = none-Literal c.args.inputs.now.scope.now c.args.expr.now _ _ c.in-Literal.is c.requires.none

pub word_in-returns-in-Name-clause-value : goal.word_in-returns-in-Name-clause-value
word_in-returns-in-Name-clause-value t c = weaker_to _ _ _ c.args.inputs.now _ (λ W. worth (place_of c.args.inputs.now W) (plain c.args.expr.now) c.args.context) c.name_in.ensures.value (λ W input. Name-arm (place_of c.args.inputs.now W) c.args.expr.now c.args.context input _ _ c.in-Name.is)

pub word_in-returns-in-Literal-clause-value : goal.word_in-returns-in-Literal-clause-value
word_in-returns-in-Literal-clause-value t c = weaker_to _ _ _ c.args.inputs.now _ (λ W. worth (place_of c.args.inputs.now W) (plain c.args.expr.now) c.args.context) c.literal_in.ensures.value (λ W input. Literal-arm (place_of c.args.inputs.now W) c.args.expr.now c.args.context input _ _ c.in-Literal.is)

pub word_in-returns-in-Bit-clause-value : goal.word_in-returns-in-Bit-clause-value
word_in-returns-in-Bit-clause-value t c = weaker_to _ _ _ c.args.inputs.now _ (λ W. worth (place_of c.args.inputs.now W) (plain c.args.expr.now) c.args.context) c.bit_select.ensures.value (λ W input. Bit-arm (place_of c.args.inputs.now W) c.args.expr.now c.args.context input _ _ _ c.in-Bit.is)

pub word_in-returns-in-Part-clause-value : goal.word_in-returns-in-Part-clause-value
word_in-returns-in-Part-clause-value t c = weaker_to _ _ _ c.args.inputs.now _ (λ W. worth (place_of c.args.inputs.now W) (plain c.args.expr.now) c.args.context) c.part_select.ensures.value (λ W input. Part-arm (place_of c.args.inputs.now W) c.args.expr.now c.args.context input _ _ _ _ _ c.in-Part.is (c.width.ensures.value ∙ part_width c.args.inputs.now.scope.now c.args.expr.now _ _ _ _ c.in-Part.is))

pub word_in-returns-in-Indexed-clause-value : goal.word_in-returns-in-Indexed-clause-value
word_in-returns-in-Indexed-clause-value t c = weaker_to _ _ _ c.args.inputs.now _ (λ W. worth (place_of c.args.inputs.now W) (plain c.args.expr.now) c.args.context) c.indexed_select.ensures.value (λ W input. Indexed-arm (place_of c.args.inputs.now W) c.args.expr.now c.args.context input _ _ _ _ _ _ c.in-Indexed.is (c.width-count.ensures.value ∙ indexed_width c.args.inputs.now.scope.now c.args.expr.now _ _ _ _ _ c.in-Indexed.is))

pub word_in-returns-in-Unary-clause-value : goal.word_in-returns-in-Unary-clause-value
word_in-returns-in-Unary-clause-value t c = weaker_to _ _ _ c.args.inputs.now _ (λ W. worth (place_of c.args.inputs.now W) (plain c.args.expr.now) c.args.context) c.prefix_word.ensures.value (λ W input. Unary-arm (place_of c.args.inputs.now W) c.args.expr.now c.args.context input _ _ _ c.in-Unary.is c.prefix_of.ensures)

pub word_in-returns-in-Binary-clause-value : goal.word_in-returns-in-Binary-clause-value
word_in-returns-in-Binary-clause-value t c = c.infix_word.ensures.value

pub word_in-returns-in-Cond-clause-value : goal.word_in-returns-in-Cond-clause-value
word_in-returns-in-Cond-clause-value t c = weaker_to _ _ _ c.args.inputs.now _ (λ W. worth (place_of c.args.inputs.now W) (plain c.args.expr.now) c.args.context) c.chosen_word.ensures.value (λ W input. Cond-arm (place_of c.args.inputs.now W) c.args.expr.now c.args.context input _ _ _ c.in-Cond.is)

pub word_in-returns-in-Concat-clause-value : goal.word_in-returns-in-Concat-clause-value
word_in-returns-in-Concat-clause-value t c = weaker_to _ _ _ c.args.inputs.now _ (λ W. worth (place_of c.args.inputs.now W) (plain c.args.expr.now) c.args.context) c.concat_word.ensures.value (λ W input. Concat-arm (place_of c.args.inputs.now W) c.args.expr.now c.args.context input _ c.in-Concat.is)

pub word_in-returns-in-Repeat-clause-value : goal.word_in-returns-in-Repeat-clause-value
word_in-returns-in-Repeat-clause-value t c = weaker_to _ _ _ c.args.inputs.now _ (λ W. worth (place_of c.args.inputs.now W) (plain c.args.expr.now) c.args.context) c.repeat_word.ensures.value (λ W input. Repeat-arm (place_of c.args.inputs.now W) c.args.expr.now c.args.context input _ _ _ c.in-Repeat.is refl)

pub word_in-returns-in-Cast-clause-value : goal.word_in-returns-in-Cast-clause-value
word_in-returns-in-Cast-clause-value t c = weaker_to _ _ _ c.args.inputs.now _ (λ W. worth (place_of c.args.inputs.now W) (plain c.args.expr.now) c.args.context) c.cast_word.ensures.value (λ W input. Cast-arm (place_of c.args.inputs.now W) c.args.expr.now c.args.context input _ _ c.in-Cast.is)

pub word_in-returns-in-Paren-clause-value : goal.word_in-returns-in-Paren-clause-value
word_in-returns-in-Paren-clause-value t c = weaker_to _ _ _ c.args.inputs.now _ (λ W. worth (place_of c.args.inputs.now W) (plain c.args.expr.now) c.args.context) c.word_in.ensures.value (λ W input. Paren-arm (place_of c.args.inputs.now W) c.args.expr.now c.args.context input _ c.in-Paren.is)
