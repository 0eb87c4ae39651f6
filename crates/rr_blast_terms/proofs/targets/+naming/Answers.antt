use Rattle.std.proofs.Common.{rules, ◌≡◌, ◌∙◌, sym, ap, arith, ℕ, List, Option, drop, length, ◌+◌, ◌-◌, ◌<◌}
use Rattle.rr_circuit.proofs.Netlists.{Extends-refl, Extends-trans}
use Rattle.rr_syntax.specs.declared.tree.Expr.{Expr, the_lemmas}
use Rattle.rr_syntax.specs.View.{plain, plain_list}
use Rattle.rr_expr.specs.declared.types.Bit.{Bit}
use Rattle.rr_expr.specs.declared.types.Shape.{Shape}
use Rattle.rr_expr.specs.Values.{form, nowhere}
use Rattle.rr_flat.specs.Targets.{target_bits, targets_bits}
use Rattle.rr_named_bits.proofs.Nodes.{shaped-Bit, shaped-Indexed, shaped-Concat}
use Rattle.rr_cycle.specs.Exec.{Environment, write}
use Rattle.rr_signal_wires.specs.GuardedPieces.{put_guarded_pieces}
use Rattle.rr_signal_wires.specs.Words.{carried, widths_of}
use Rattle.rr_blast_terms.proofs.NodeLaws.{none-Literal, none-Unary, none-Binary, none-Cond, none-Repeat, none-Cast, none-Paren, fixed-Name, fixed-Part, fixed-Bit, fixed-Indexed, bits-Bit, bits-Indexed, bits-Concat, size-Bit, size-Indexed, no_bits_next, no_bits_value, parts_size, parts_none, parts_left, parts_shaped, parts_more}
use Rattle.rr_signal_wires.proofs.WordLaws.{AreWords-extends, carried-extends}
use Rattle.rr_blast_terms.proofs.targets.+naming.Goals as goal

pub add_guarded_pieces-returns-in_ok-next-in-Name-clause-guarded_pieces : goal.add_guarded_pieces-returns-in_ok-next-in-Name-clause-guarded_pieces
add_guarded_pieces-returns-in_ok-next-in-Name-clause-guarded_pieces t c = c.in_ok-next-in-Name.ensures.guarded_pieces (widths_of c.args.words.now) c.requires.holds c.requires.guarded_pieces

pub add_guarded_pieces-returns-in_ok-next-in-Name-clause-value : goal.add_guarded_pieces-returns-in_ok-next-in-Name-clause-value
add_guarded_pieces-returns-in_ok-next-in-Name-clause-value t c = λ env vs e.
    c.in_ok-next-in-Name.ensures.value env vs e
    ∙ ap (λ (bs : List (Option Bit)). write bs (drop c.args.from vs) (put_guarded_pieces c.args.b.now env c.args.list.now.items vs e))
    (sym (rw c.in-Name.is (fixed-Name c.args.scope.now _ _ (carried c.args.b.now env c.args.words.now))))

pub add_guarded_pieces-returns-in_ok-next-in-Part-clause-guarded_pieces : goal.add_guarded_pieces-returns-in_ok-next-in-Part-clause-guarded_pieces
add_guarded_pieces-returns-in_ok-next-in-Part-clause-guarded_pieces t c = c.in_ok-next-in-Part.ensures.guarded_pieces (widths_of c.args.words.now) c.requires.holds c.requires.guarded_pieces

pub add_guarded_pieces-returns-in_ok-next-in-Part-clause-value : goal.add_guarded_pieces-returns-in_ok-next-in-Part-clause-value
add_guarded_pieces-returns-in_ok-next-in-Part-clause-value t c = λ env vs e.
    c.in_ok-next-in-Part.ensures.value env vs e
    ∙ ap (λ (bs : List (Option Bit)). write bs (drop c.args.from vs) (put_guarded_pieces c.args.b.now env c.args.list.now.items vs e))
    (sym (rw c.in-Part.is (fixed-Part c.args.scope.now _ _ _ _ (carried c.args.b.now env c.args.words.now))))

pub add_guarded_pieces-returns-then-is_constant-clause-guarded_pieces : goal.add_guarded_pieces-returns-then-is_constant-clause-guarded_pieces
add_guarded_pieces-returns-then-is_constant-clause-guarded_pieces t c = c.in_ok-next-in-Bit.ensures.guarded_pieces (widths_of c.args.words.now) c.requires.holds c.requires.guarded_pieces

pub add_guarded_pieces-returns-then-is_constant-clause-value : goal.add_guarded_pieces-returns-then-is_constant-clause-value
add_guarded_pieces-returns-then-is_constant-clause-value t c = λ env vs e.
    c.in_ok-next-in-Bit.ensures.value env vs e
    ∙ ap (λ (bs : List (Option Bit)). write bs (drop c.args.from vs) (put_guarded_pieces c.args.b.now env c.args.list.now.items vs e))
    (sym (rw c.in-Bit.is (fixed-Bit c.args.scope.now _ _ _ (carried c.args.b.now env c.args.words.now) (sym c.is_constant.ensures ∙ c.if-is_constant.true))))

pub add_guarded_pieces-returns-then-is_constant-2-clause-guarded_pieces : goal.add_guarded_pieces-returns-then-is_constant-2-clause-guarded_pieces
add_guarded_pieces-returns-then-is_constant-2-clause-guarded_pieces t c = c.in_ok-next-in-Indexed.ensures.guarded_pieces (widths_of c.args.words.now) c.requires.holds c.requires.guarded_pieces

pub add_guarded_pieces-returns-then-is_constant-2-clause-value : goal.add_guarded_pieces-returns-then-is_constant-2-clause-value
add_guarded_pieces-returns-then-is_constant-2-clause-value t c = λ env vs e.
    c.in_ok-next-in-Indexed.ensures.value env vs e
    ∙ ap (λ (bs : List (Option Bit)). write bs (drop c.args.from vs) (put_guarded_pieces c.args.b.now env c.args.list.now.items vs e))
    (sym (rw c.in-Indexed.is (fixed-Indexed c.args.scope.now _ _ _ _ _ (carried c.args.b.now env c.args.words.now) (sym c.is_constant-in-Indexed.ensures ∙ c.if-is_constant-2.true))))

pub add_guarded_pieces-add_index-requires-clause-width : goal.add_guarded_pieces-add_index-requires-clause-width
add_guarded_pieces-add_index-requires-clause-width t c = (shaped-Bit _ _ _ _ (rw c.in-Bit.is at c.requires.shaped)).0

pub add_guarded_pieces-add_index-requires-clause-shaped : goal.add_guarded_pieces-add_index-requires-clause-shaped
add_guarded_pieces-add_index-requires-clause-shaped t c = (shaped-Bit _ _ _ _ (rw c.in-Bit.is at c.requires.shaped)).1

pub add_guarded_pieces-add_index-requires-clause-few : goal.add_guarded_pieces-add_index-requires-clause-few
add_guarded_pieces-add_index-requires-clause-few t c =
    omega (arith, ap (λ (x : Expr). length (target_bits c.args.scope.now nowhere (plain x))) c.in-Bit.is, size-Bit c.args.scope.now c.in-Bit.token c.in-Bit.name c.in-Bit.index nowhere, c.requires.few)

pub add_guarded_pieces-add_select-requires-clause-width : goal.add_guarded_pieces-add_select-requires-clause-width
add_guarded_pieces-add_select-requires-clause-width t c = (shaped-Indexed _ _ _ _ _ _ (rw c.in-Indexed.is at c.requires.shaped)).0

pub add_guarded_pieces-add_select-requires-clause-shaped : goal.add_guarded_pieces-add_select-requires-clause-shaped
add_guarded_pieces-add_select-requires-clause-shaped t c = (shaped-Indexed _ _ _ _ _ _ (rw c.in-Indexed.is at c.requires.shaped)).1

pub add_guarded_pieces-add_select-requires-clause-few : goal.add_guarded_pieces-add_select-requires-clause-few
add_guarded_pieces-add_select-requires-clause-few t c =
    omega (
      arith,
      ap (λ (x : Expr). length (target_bits c.args.scope.now nowhere (plain x))) c.in-Indexed.is,
      size-Indexed c.args.scope.now c.in-Indexed.token c.in-Indexed.name c.in-Indexed.index c.in-Indexed.width c.in-Indexed.up nowhere c.shape_of-count.result.width (ap (λ (x : Shape). x.width) c.shape_of-count.ensures.value ∙ ap (λ (x : Expr). (form c.args.scope.now (plain x)).width) c.in-Indexed.is),
      c.requires.few,
    )

pub add_guarded_pieces-add_guarded_pieces_of_all-requires : goal.add_guarded_pieces-add_guarded_pieces_of_all-requires
add_guarded_pieces-add_guarded_pieces_of_all-requires t c = (
  search (rules, the_lemmas),
  (
    shaped-Concat _ _ (rw c.in-Concat.is at c.requires.shaped),
    (
      omega (arith, ap (λ (x : Expr). length (target_bits c.args.scope.now nowhere (plain x))) c.in-Concat.is, ap length (bits-Concat c.args.scope.now c.in-Concat.parts nowhere), c.requires.few),
      (c.requires.words, (c.requires.holds, c.requires.guarded_pieces)),
    ),
  ),
)

pub add_guarded_pieces-returns-in_ok-next-in-Bit-2-clause-next : goal.add_guarded_pieces-returns-in_ok-next-in-Bit-2-clause-next
add_guarded_pieces-returns-in_ok-next-in-Bit-2-clause-next t c =
    omega (arith, ap (λ (x : Expr). length (target_bits c.args.scope.now nowhere (plain x))) c.in-Bit.is, size-Bit c.args.scope.now c.in-Bit.token c.in-Bit.name c.in-Bit.index nowhere, c.in_ok-next-in-Bit-2.ensures.next)

pub add_guarded_pieces-returns-in_ok-next-in-Bit-2-clause-value : goal.add_guarded_pieces-returns-in_ok-next-in-Bit-2-clause-value
add_guarded_pieces-returns-in_ok-next-in-Bit-2-clause-value t c = λ env vs e.
    c.in_ok-next-in-Bit-2.ensures.value env vs e
    ∙ ap (λ (bs : List (Option Bit)). write bs (drop c.args.from vs) (put_guarded_pieces c.args.b.now env c.args.list.now.items vs e))
    (sym (rw c.in-Bit.is (bits-Bit c.args.scope.now _ _ _ (carried c.args.b.now env c.args.words.now))))

pub add_guarded_pieces-returns-in_ok-next-in-Indexed-2-clause-next : goal.add_guarded_pieces-returns-in_ok-next-in-Indexed-2-clause-next
add_guarded_pieces-returns-in_ok-next-in-Indexed-2-clause-next t c =
    omega (
      arith,
      ap (λ (x : Expr). length (target_bits c.args.scope.now nowhere (plain x))) c.in-Indexed.is,
      size-Indexed c.args.scope.now c.in-Indexed.token c.in-Indexed.name c.in-Indexed.index c.in-Indexed.width c.in-Indexed.up nowhere c.shape_of-count.result.width (ap (λ (x : Shape). x.width) c.shape_of-count.ensures.value ∙ ap (λ (x : Expr). (form c.args.scope.now (plain x)).width) c.in-Indexed.is),
      c.in_ok-next-in-Indexed-2.ensures.next,
    )

pub add_guarded_pieces-returns-in_ok-next-in-Indexed-2-clause-value : goal.add_guarded_pieces-returns-in_ok-next-in-Indexed-2-clause-value
add_guarded_pieces-returns-in_ok-next-in-Indexed-2-clause-value t c = λ env vs e.
    c.in_ok-next-in-Indexed-2.ensures.value env vs e
    ∙ ap (λ (bs : List (Option Bit)). write bs (drop c.args.from vs) (put_guarded_pieces c.args.b.now env c.args.list.now.items vs e))
    (sym (ap (λ (x : Expr). target_bits c.args.scope.now (carried c.args.b.now env c.args.words.now) (plain x)) c.in-Indexed.is
    ∙ bits-Indexed c.args.scope.now c.in-Indexed.token c.in-Indexed.name c.in-Indexed.index c.in-Indexed.width c.in-Indexed.up (carried c.args.b.now env c.args.words.now) c.shape_of-count.result.width (ap (λ (x : Shape). x.width) c.shape_of-count.ensures.value ∙ ap (λ (x : Expr). (form c.args.scope.now (plain x)).width) c.in-Indexed.is)))

pub add_guarded_pieces-returns-in_ok-next-in-Concat-clause-next : goal.add_guarded_pieces-returns-in_ok-next-in-Concat-clause-next
add_guarded_pieces-returns-in_ok-next-in-Concat-clause-next t c =
    omega (arith, ap (λ (x : Expr). length (target_bits c.args.scope.now nowhere (plain x))) c.in-Concat.is, ap length (bits-Concat c.args.scope.now c.in-Concat.parts nowhere), c.in_ok-next-in-Concat.ensures.next)

pub add_guarded_pieces-returns-in_ok-next-in-Concat-clause-value : goal.add_guarded_pieces-returns-in_ok-next-in-Concat-clause-value
add_guarded_pieces-returns-in_ok-next-in-Concat-clause-value t c = λ env vs e.
    c.in_ok-next-in-Concat.ensures.value env vs e
    ∙ ap (λ (bs : List (Option Bit)). write bs (drop c.args.from vs) (put_guarded_pieces c.args.b.now env c.args.list.now.items vs e))
    (sym (rw c.in-Concat.is (bits-Concat c.args.scope.now _ (carried c.args.b.now env c.args.words.now))))

pub add_guarded_pieces-returns-in-Literal-clause-next : goal.add_guarded_pieces-returns-in-Literal-clause-next
add_guarded_pieces-returns-in-Literal-clause-next t c = no_bits_next (target_bits c.args.scope.now nowhere (plain c.args.target.now)) c.args.from (rw c.in-Literal.is (none-Literal c.args.scope.now _ _ nowhere))

pub add_guarded_pieces-returns-in-Literal-clause-value : goal.add_guarded_pieces-returns-in-Literal-clause-value
add_guarded_pieces-returns-in-Literal-clause-value t c = λ env vs e.
    no_bits_value (target_bits c.args.scope.now (carried c.args.b.now env c.args.words.now) (plain c.args.target.now)) (drop c.args.from vs) (put_guarded_pieces c.args.b.now env c.args.list.now.items vs e)
    (rw c.in-Literal.is (none-Literal c.args.scope.now _ _ (carried c.args.b.now env c.args.words.now)))

pub add_guarded_pieces-returns-in-Unary-clause-next : goal.add_guarded_pieces-returns-in-Unary-clause-next
add_guarded_pieces-returns-in-Unary-clause-next t c = no_bits_next (target_bits c.args.scope.now nowhere (plain c.args.target.now)) c.args.from (rw c.in-Unary.is (none-Unary c.args.scope.now _ _ nowhere))

pub add_guarded_pieces-returns-in-Unary-clause-value : goal.add_guarded_pieces-returns-in-Unary-clause-value
add_guarded_pieces-returns-in-Unary-clause-value t c = λ env vs e.
    no_bits_value (target_bits c.args.scope.now (carried c.args.b.now env c.args.words.now) (plain c.args.target.now)) (drop c.args.from vs) (put_guarded_pieces c.args.b.now env c.args.list.now.items vs e)
    (rw c.in-Unary.is (none-Unary c.args.scope.now _ _ (carried c.args.b.now env c.args.words.now)))

pub add_guarded_pieces-returns-in-Binary-clause-next : goal.add_guarded_pieces-returns-in-Binary-clause-next
add_guarded_pieces-returns-in-Binary-clause-next t c = no_bits_next (target_bits c.args.scope.now nowhere (plain c.args.target.now)) c.args.from (rw c.in-Binary.is (none-Binary c.args.scope.now _ _ _ nowhere))

pub add_guarded_pieces-returns-in-Binary-clause-value : goal.add_guarded_pieces-returns-in-Binary-clause-value
add_guarded_pieces-returns-in-Binary-clause-value t c = λ env vs e.
    no_bits_value (target_bits c.args.scope.now (carried c.args.b.now env c.args.words.now) (plain c.args.target.now)) (drop c.args.from vs) (put_guarded_pieces c.args.b.now env c.args.list.now.items vs e)
    (rw c.in-Binary.is (none-Binary c.args.scope.now _ _ _ (carried c.args.b.now env c.args.words.now)))

pub add_guarded_pieces-returns-in-Cond-clause-next : goal.add_guarded_pieces-returns-in-Cond-clause-next
add_guarded_pieces-returns-in-Cond-clause-next t c = no_bits_next (target_bits c.args.scope.now nowhere (plain c.args.target.now)) c.args.from (rw c.in-Cond.is (none-Cond c.args.scope.now _ _ _ nowhere))

pub add_guarded_pieces-returns-in-Cond-clause-value : goal.add_guarded_pieces-returns-in-Cond-clause-value
add_guarded_pieces-returns-in-Cond-clause-value t c = λ env vs e.
    no_bits_value (target_bits c.args.scope.now (carried c.args.b.now env c.args.words.now) (plain c.args.target.now)) (drop c.args.from vs) (put_guarded_pieces c.args.b.now env c.args.list.now.items vs e)
    (rw c.in-Cond.is (none-Cond c.args.scope.now _ _ _ (carried c.args.b.now env c.args.words.now)))

pub add_guarded_pieces-returns-in-Repeat-clause-next : goal.add_guarded_pieces-returns-in-Repeat-clause-next
add_guarded_pieces-returns-in-Repeat-clause-next t c = no_bits_next (target_bits c.args.scope.now nowhere (plain c.args.target.now)) c.args.from (rw c.in-Repeat.is (none-Repeat c.args.scope.now _ _ nowhere))

pub add_guarded_pieces-returns-in-Repeat-clause-value : goal.add_guarded_pieces-returns-in-Repeat-clause-value
add_guarded_pieces-returns-in-Repeat-clause-value t c = λ env vs e.
    no_bits_value (target_bits c.args.scope.now (carried c.args.b.now env c.args.words.now) (plain c.args.target.now)) (drop c.args.from vs) (put_guarded_pieces c.args.b.now env c.args.list.now.items vs e)
    (rw c.in-Repeat.is (none-Repeat c.args.scope.now _ _ (carried c.args.b.now env c.args.words.now)))

pub add_guarded_pieces-returns-in-Cast-clause-next : goal.add_guarded_pieces-returns-in-Cast-clause-next
add_guarded_pieces-returns-in-Cast-clause-next t c = no_bits_next (target_bits c.args.scope.now nowhere (plain c.args.target.now)) c.args.from (rw c.in-Cast.is (none-Cast c.args.scope.now _ _ nowhere))

pub add_guarded_pieces-returns-in-Cast-clause-value : goal.add_guarded_pieces-returns-in-Cast-clause-value
add_guarded_pieces-returns-in-Cast-clause-value t c = λ env vs e.
    no_bits_value (target_bits c.args.scope.now (carried c.args.b.now env c.args.words.now) (plain c.args.target.now)) (drop c.args.from vs) (put_guarded_pieces c.args.b.now env c.args.list.now.items vs e)
    (rw c.in-Cast.is (none-Cast c.args.scope.now _ _ (carried c.args.b.now env c.args.words.now)))

pub add_guarded_pieces-returns-in-Paren-clause-next : goal.add_guarded_pieces-returns-in-Paren-clause-next
add_guarded_pieces-returns-in-Paren-clause-next t c = no_bits_next (target_bits c.args.scope.now nowhere (plain c.args.target.now)) c.args.from (rw c.in-Paren.is (none-Paren c.args.scope.now _ nowhere))

pub add_guarded_pieces-returns-in-Paren-clause-value : goal.add_guarded_pieces-returns-in-Paren-clause-value
add_guarded_pieces-returns-in-Paren-clause-value t c = λ env vs e.
    no_bits_value (target_bits c.args.scope.now (carried c.args.b.now env c.args.words.now) (plain c.args.target.now)) (drop c.args.from vs) (put_guarded_pieces c.args.b.now env c.args.list.now.items vs e)
    (rw c.in-Paren.is (none-Paren c.args.scope.now _ (carried c.args.b.now env c.args.words.now)))

pub add_guarded_pieces_of_all-loop-left-init : goal.add_guarded_pieces_of_all-loop-left-init
add_guarded_pieces_of_all-loop-left-init t c = record {
  left = omega arith;
  extends = Extends-refl c.args.b.now;
  next = omega (arith, ap length (parts_none c.args.scope.now c.args.parts.now nowhere));
  guarded_pieces = c.requires.guarded_pieces;
  value = λ env vs e. no_bits_value _ (drop c.args.from vs) (put_guarded_pieces c.args.b.now env c.args.list.now.items vs e) (parts_none c.args.scope.now c.args.parts.now (carried c.args.b.now env c.args.words.now));
}

pub add_guarded_pieces_of_all-add_guarded_pieces-requires : goal.add_guarded_pieces_of_all-add_guarded_pieces-requires
add_guarded_pieces_of_all-add_guarded_pieces-requires t c =
    let h = c.loop-left.invariant in
    let l : c.loop-left.left - 1 < length c.args.parts.now = omega (arith, h.left) in
    let j : c.loop-left.left ≡ c.loop-left.left - 1 + 1 = omega arith in (
      search (rules, the_lemmas),
      (
        parts_shaped c.args.scope.now c.args.parts.now (c.loop-left.left - 1) c.index-parts-left.result l c.index-parts-left.is c.requires.shaped,
        (
          omega (arith, h.next, parts_size c.args.scope.now c.args.parts.now (c.loop-left.left - 1) c.loop-left.left c.index-parts-left.result nowhere l c.index-parts-left.is j, parts_left c.args.scope.now c.args.parts.now (c.loop-left.left - 1) nowhere, c.requires.few),
          (AreWords-extends c.args.b.now c.loop-left.b c.args.words.now h.extends c.requires.words, (c.requires.holds, h.guarded_pieces)),
        ),
      ),
    )

pub add_guarded_pieces_of_all-loop-left-preserved : goal.add_guarded_pieces_of_all-loop-left-preserved
add_guarded_pieces_of_all-loop-left-preserved t c =
    let h = c.loop-left.invariant in
    let x = c.in_ok-next.ensures in
    let l : c.loop-left.left - 1 < length c.args.parts.now = omega (arith, h.left) in
    let j : c.loop-left.left ≡ c.loop-left.left - 1 + 1 = omega arith in
    record {
      left = omega (arith, h.left);
      extends = Extends-trans _ _ _ h.extends x.extends;
      next = omega (arith, h.next, x.next, parts_size c.args.scope.now c.args.parts.now (c.loop-left.left - 1) c.loop-left.left c.index-parts-left.result nowhere l c.index-parts-left.is j);
      guarded_pieces = x.guarded_pieces;
      value = λ env vs e.
          let m : Environment = carried c.args.b.now env c.args.words.now in
          parts_more c.args.scope.now c.args.parts.now (c.loop-left.left - 1) c.loop-left.left c.index-parts-left.result m (put_guarded_pieces c.args.b.now env c.args.list.now.items vs e) (put_guarded_pieces c.loop-left.b env c.loop-left.list.items vs e) _
          c.args.from c.loop-left.next vs l c.index-parts-left.is j h.next (h.value env vs e)
          (x.value env vs e ∙ ap (λ (k : Environment). write (target_bits c.args.scope.now k (plain c.index-parts-left.result)) (drop c.loop-left.next vs) (put_guarded_pieces c.loop-left.b env c.loop-left.list.items vs e))
          (carried-extends c.args.b.now c.loop-left.b env c.args.words.now h.extends c.requires.words));
    }

pub add_guarded_pieces_of_all-returns-clause-next : goal.add_guarded_pieces_of_all-returns-clause-next
add_guarded_pieces_of_all-returns-clause-next t c =
    let z : c.loop-left.left ≡ 0 = omega (arith, c.loop-left-test.false) in
    omega (arith, c.loop-left.invariant.next, ap (λ (k : ℕ). length (targets_bits c.args.scope.now nowhere (plain_list (drop k c.args.parts.now)))) z)

pub add_guarded_pieces_of_all-returns-clause-value : goal.add_guarded_pieces_of_all-returns-clause-value
add_guarded_pieces_of_all-returns-clause-value t c = λ env vs e.
    let z : c.loop-left.left ≡ 0 = omega (arith, c.loop-left-test.false) in
    c.loop-left.invariant.value env vs e
    ∙ ap (λ (k : ℕ). write (targets_bits c.args.scope.now (carried c.args.b.now env c.args.words.now) (plain_list (drop k c.args.parts.now))) (drop c.args.from vs) (put_guarded_pieces c.args.b.now env c.args.list.now.items vs e)) z
