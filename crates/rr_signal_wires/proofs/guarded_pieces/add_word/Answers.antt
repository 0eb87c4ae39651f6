use Rattle.std.proofs.Common.{◌≡◌, ◌∙◌, sym, ap, arith, ◌+◌, ℕ, Bool, List, Option, cond, drop, ℤ, pos}
use Rattle.std.proofs.lemmas.Int.{ints}
use Rattle.std.proofs.lemmas.List.Elements.{All-push}
use mir.Syntax.{w64}
use mir.Val.{to_z, of_z}
use Rattle.std.specs.Ordering.{int_eq}
use Rattle.rr_circuit.specs.Values.{wire_value, wire_values}
use Rattle.rr_circuit.proofs.Netlists.{AreWires-extends, Extends-refl, Extends-trans, wire_values-extends}
use Rattle.rr_bits.specs.Words.{reading}
use Rattle.rr_expr.specs.declared.types.Bit.{Bit}
use Rattle.rr_expr.specs.Selects.{place}
use Rattle.rr_cycle.specs.Exec.{Environment, write}
use Rattle.rr_named_bits.specs.Pieces.{bits_of}
use Rattle.rr_signal_wires.specs.declared.guarded_pieces.GuardedPiece.{GuardedPiece}
use Rattle.rr_signal_wires.specs.GuardedPieces.{IsGuardedPiece, put_guarded_piece, put_guarded_pieces}
use Rattle.rr_signal_wires.proofs.GuardedPieceLaws.{AreGuardedPieces-extends, put_guarded_pieces-extends, put_guarded_pieces-push, signal_fits}
use Rattle.rr_signal_wires.proofs.WordPieces.{word_is, word_piece, written_all, written_more, written_none}
use Rattle.rr_signal_wires.proofs.guarded_pieces.add_word.Goals as goal

pub loop-k-init : goal.loop-k-init
loop-k-init c = record {
  extends = Extends-refl c.args.b.now;
  guarded_pieces = λ widths s a. a;
  value = λ widths s a env vs e.
      written_none c.args.run.now.range c.args.run.now.first c.args.run.now.low (reading c.args.run.now.signed (wire_values c.args.b.now env c.args.run.now.index.now)) (drop c.args.run.now.from vs) (put_guarded_pieces c.args.b.now env c.args.list.now.items vs e);
}

pub names_place-requires-clause-y : goal.names_place-requires-clause-y
names_place-requires-clause-y c = AreWires-extends c.args.b.now c.loop-k.b c.args.run.now.index.now c.loop-k.invariant.extends c.requires.index

pub overflow_add-piece : goal.overflow_add-piece
overflow_add-piece c = omega (arith, c.requires.few c.loop-k.k c.loop-k-test.true)

pub returns-in_err-push_guarded_piece-clause-extends : goal.returns-in_err-push_guarded_piece-clause-extends
returns-in_err-push_guarded_piece-clause-extends c = Extends-trans _ _ _ c.loop-k.invariant.extends c.in_ok-when.ensures.extends

pub loop-k-preserved : goal.loop-k-preserved
loop-k-preserved c =
    let h = c.loop-k.invariant in
    let x = c.in_ok-when.ensures in
    let at : ℤ = to_z w64 c.loop-k.k in
    let guarded_piece : GuardedPiece = record { piece = word_piece (c.args.run.now.first + c.loop-k.k) c.width_of-width.result; when = c.in_ok-when.when; from = c.args.run.now.from } in
    record {
      extends = Extends-trans _ _ _ h.extends x.extends;
      guarded_pieces = λ widths s a.
          let w = s c.loop-k.k c.loop-k-test.true in
          rw c.in_ok-push_guarded_piece.ensures
          (All-push (IsGuardedPiece c.names_place.new.b widths) c.loop-k.list.items guarded_piece (AreGuardedPieces-extends c.loop-k.b c.names_place.new.b widths c.loop-k.list.items x.extends (h.guarded_pieces widths s a))
          (record { piece = signal_fits widths guarded_piece.piece w.0 (w.1 ∙ sym c.width_of-width.ensures); when = x.value.wire; from = c.requires.from }));
      value = λ widths s a env vs e.
          let i : ℤ = reading c.args.run.now.signed (wire_values c.args.b.now env c.args.run.now.index.now) in
          let d : Environment = put_guarded_pieces c.loop-k.b env c.loop-k.list.items vs e in
          let o : Environment = put_guarded_pieces c.args.b.now env c.args.list.now.items vs e in
          let t : wire_value c.names_place.new.b env c.in_ok-when.when ≡ int_eq (place (c.args.run.now.low, c.args.run.now.low) i) at =
          x.value.value env
          ∙ ap (λ (bs : List Bool). int_eq (place (c.args.run.now.low, c.args.run.now.low) (reading c.args.run.now.signed bs)) at) (wire_values-extends c.args.b.now c.loop-k.b c.args.run.now.index.now env h.extends c.requires.index) in
          rw c.in_ok-push_guarded_piece.ensures
          (put_guarded_pieces-push c.names_place.new.b env c.loop-k.list.items guarded_piece vs e
          ∙ ap (put_guarded_piece c.names_place.new.b env guarded_piece vs) (put_guarded_pieces-extends c.loop-k.b c.names_place.new.b env widths c.loop-k.list.items vs e x.extends (h.guarded_pieces widths s a))
          ∙ ap (λ (k : Bool). cond k (write (bits_of guarded_piece.piece) (drop c.args.run.now.from vs) d) d) t
          ∙ ap (λ (bs : List (Option Bit)). cond (int_eq (place (c.args.run.now.low, c.args.run.now.low) i) at) (write bs (drop c.args.run.now.from vs) d) d) (word_is (c.args.run.now.first + c.loop-k.k) c.width_of-width.result c.args.run.now.range c.width_of-width.ensures)
          ∙ written_more c.args.run.now.range c.args.run.now.first c.args.run.now.low c.loop-k.k i at (drop c.args.run.now.from vs) d o (omega (arith, ints)) (h.value widths s a env vs e));
    }

pub returns-clause-next : goal.returns-clause-next
returns-clause-next c = ap (λ (w : ℕ). c.args.run.now.from + w) c.width_of-width.ensures

pub returns-clause-value : goal.returns-clause-value
returns-clause-value c = λ widths s a env vs e.
    c.loop-k.invariant.value widths s a env vs e
    ∙ written_all c.args.run.now.range c.args.run.now.first c.args.run.now.low c.loop-k.k c.args.run.now.words (reading c.args.run.now.signed (wire_values c.args.b.now env c.args.run.now.index.now)) (drop c.args.run.now.from vs) (put_guarded_pieces c.args.b.now env c.args.list.now.items vs e)
    (omega (arith, c.loop-k-test.false, c.loop-k.auto.k-end))

pub returns-clause-guarded_pieces : goal.returns-clause-guarded_pieces
returns-clause-guarded_pieces c = λ widths s a. c.loop-k.invariant.guarded_pieces widths s a

pub returns-in_err-when-clause-extends : goal.returns-in_err-when-clause-extends
returns-in_err-when-clause-extends c = Extends-trans _ _ _ c.loop-k.invariant.extends c.in_err-when.ensures.extends
