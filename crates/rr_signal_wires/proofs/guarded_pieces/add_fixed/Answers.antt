use Rattle.std.proofs.Common.{◌≡◌, ◌∙◌, sym, ap, refl, arith, ℕ, Bool, List, cond, drop, length, ◌+◌, ◌-◌, ◌<◌, Option}
use Rattle.std.proofs.lemmas.List.Elements.{All-get_or, All-push}
use Rattle.rr_syntax.specs.View.{plain}
use Rattle.rr_expr.specs.declared.types.Bit.{Bit}
use Rattle.rr_expr.specs.Values.{nowhere}
use Rattle.rr_cycle.specs.Exec.{Environment, write}
use Rattle.rr_named_bits.specs.declared.piece.Piece.{Piece}
use Rattle.rr_named_bits.specs.Pieces.{all_bits, bits_of}
use Rattle.rr_named_bits.proofs.Places.{bits_left, count_more, count_none}
use Rattle.rr_exec.proofs.Pieces.{write_more, write_none}
use Rattle.rr_signal_wires.specs.declared.guarded_pieces.GuardedPiece.{GuardedPiece}
use Rattle.rr_signal_wires.specs.GuardedPieces.{IsGuardedPiece, put_guarded_pieces}
use Rattle.rr_signal_wires.specs.Words.{Fits}
use Rattle.rr_signal_wires.proofs.NameLaws.{drop_drop, none_bits, target_fits}
use Rattle.rr_signal_wires.proofs.GuardedPieceLaws.{put_guarded_pieces-push}
use Rattle.rr_signal_wires.proofs.guarded_pieces.add_fixed.Goals as goal

pub loop-left-init : goal.loop-left-init
loop-left-init c =
    let l : c.len-left.result ≡ length c.add_pieces.new.list.items = omega (arith, c.len-left.ensures, c.add_pieces.new.list.ok.0) in
    record {
      left = omega (arith, l);
      next = omega (arith, count_none c.add_pieces.new.list.items, ap (λ (k : ℕ). length (all_bits (drop k c.add_pieces.new.list.items))) l);
      guarded_pieces = λ widths f a. a;
      value = λ env vs e. write_none c.add_pieces.new.list.items (drop c.args.from vs) (put_guarded_pieces c.args.b.now env c.args.list.now.items vs e)
          ∙ ap (λ (k : ℕ). write (all_bits (drop k c.add_pieces.new.list.items)) (drop c.args.from vs) (put_guarded_pieces c.args.b.now env c.args.list.now.items vs e)) (sym l);
    }

pub overflow_add-next : goal.overflow_add-next
overflow_add-next c =
    let h = c.loop-left.invariant in
    let ps : List Piece = c.add_pieces.new.list.items in
    let l : c.loop-left.left - 1 < length ps = omega (arith, h.left) in
    let j : c.loop-left.left ≡ c.loop-left.left - 1 + 1 = omega arith in
    let m = count_more ps (c.loop-left.left - 1) c.loop-left.left (length (all_bits (drop c.loop-left.left ps))) c.index-piece.result.now c.index-piece.result.now l c.index-piece.ensures j refl in
    let e = none_bits c.args.scope.now (plain c.args.target.now) c.no_values-none.result.values.items c.new-pieces.result.items (all_bits ps) c.no_values-none.ensures c.new-pieces.ensures.items c.in_ok-add_pieces.ensures in
    omega (arith, m, bits_left ps (c.loop-left.left - 1), ap length e, c.requires.few, h.next)

pub loop-left-preserved : goal.loop-left-preserved
loop-left-preserved c =
    let h = c.loop-left.invariant in
    let ps : List Piece = c.add_pieces.new.list.items in
    let p : Piece = c.index-piece.result.now in
    let l : c.loop-left.left - 1 < length ps = omega (arith, h.left) in
    let j : c.loop-left.left ≡ c.loop-left.left - 1 + 1 = omega arith in
    let m = count_more ps (c.loop-left.left - 1) c.loop-left.left (length (all_bits (drop c.loop-left.left ps))) p p l c.index-piece.ensures j refl in
    let guarded_piece : GuardedPiece = record { piece = p; when = c.constant.result; from = c.loop-left.next } in
    let e = none_bits c.args.scope.now (plain c.args.target.now) c.no_values-none.result.values.items c.new-pieces.result.items (all_bits ps) c.no_values-none.ensures c.new-pieces.ensures.items c.in_ok-add_pieces.ensures in
    record {
      left = omega (arith, h.left);
      next = omega (arith, m, h.next);
      guarded_pieces = λ widths f a.
          rw c.in_ok-push_guarded_piece.ensures
          (All-push (IsGuardedPiece c.args.b.now widths) c.loop-left.list.items guarded_piece (h.guarded_pieces widths f a)
          (record {
            piece = rw c.index-piece.ensures (All-get_or (Fits widths) ps (c.loop-left.left - 1) p l f);
            when = c.constant.ensures.wire;
            from = omega (arith, bits_left ps c.loop-left.left, ap length e, c.requires.few, h.next);
          }));
      value = λ env vs d.
          let o : Environment = put_guarded_pieces c.args.b.now env c.args.list.now.items vs d in
          rw c.in_ok-push_guarded_piece.ensures
          (put_guarded_pieces-push c.args.b.now env c.loop-left.list.items guarded_piece vs d
          ∙ ap (λ (t : Bool). cond t (write (bits_of p) (drop c.loop-left.next vs) (put_guarded_pieces c.args.b.now env c.loop-left.list.items vs d)) (put_guarded_pieces c.args.b.now env c.loop-left.list.items vs d)) (c.constant.ensures.value env)
          ∙ ap (λ (us : List Bool). write (bits_of p) us (put_guarded_pieces c.args.b.now env c.loop-left.list.items vs d)) (ap (λ (k : ℕ). drop k vs) h.next ∙ drop_drop c.args.from (length (all_bits (drop c.loop-left.left ps))) vs)
          ∙ write_more ps (c.loop-left.left - 1) c.loop-left.left (length (all_bits (drop c.loop-left.left ps))) p p (drop c.args.from vs) o _ _ l c.index-piece.ensures j refl (h.value env vs d) refl);
    }

pub returns-clause-value : goal.returns-clause-value
returns-clause-value c = λ env vs e.
    let z : c.loop-left.left ≡ 0 = omega (arith, c.loop-left-test.false) in
    c.loop-left.invariant.value env vs e
    ∙ ap (λ (bs : List (Option Bit)). write bs (drop c.args.from vs) (put_guarded_pieces c.args.b.now env c.args.list.now.items vs e))
    (ap (λ (k : ℕ). all_bits (drop k c.add_pieces.new.list.items)) z
    ∙ none_bits c.args.scope.now (plain c.args.target.now) c.no_values-none.result.values.items c.new-pieces.result.items (all_bits c.add_pieces.new.list.items) c.no_values-none.ensures c.new-pieces.ensures.items c.in_ok-add_pieces.ensures)

pub returns-clause-guarded_pieces : goal.returns-clause-guarded_pieces
returns-clause-guarded_pieces c = λ widths h a.
    c.loop-left.invariant.guarded_pieces widths
    (target_fits c.args.scope.now widths nowhere (plain c.args.target.now) c.add_pieces.new.list.items h
    (none_bits c.args.scope.now (plain c.args.target.now) c.no_values-none.result.values.items c.new-pieces.result.items (all_bits c.add_pieces.new.list.items) c.no_values-none.ensures c.new-pieces.ensures.items c.in_ok-add_pieces.ensures)) a

pub returns-clause-next : goal.returns-clause-next
returns-clause-next c =
    let z : c.loop-left.left ≡ 0 = omega (arith, c.loop-left-test.false) in
    let e = none_bits c.args.scope.now (plain c.args.target.now) c.no_values-none.result.values.items c.new-pieces.result.items (all_bits c.add_pieces.new.list.items) c.no_values-none.ensures c.new-pieces.ensures.items c.in_ok-add_pieces.ensures in
    omega (arith, c.loop-left.invariant.next, ap (λ (k : ℕ). length (all_bits (drop k c.add_pieces.new.list.items))) z, ap length e)
