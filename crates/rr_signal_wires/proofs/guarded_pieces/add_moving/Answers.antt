use Rattle.std.proofs.Common.{◌≡◌, ◌∙◌, sym, ap, ap₂, refl, arith, ℕ, Bool, List, cond, drop, ℤ, pos, ◌+ℤ◌, ◌-ℤ◌}
use Rattle.std.proofs.lemmas.Int.{ints}
use Rattle.std.proofs.lemmas.List.Elements.{All-push}
use mir.Syntax.{w64}
use mir.Val.{to_z, of_z}
use Rattle.rr_circuit.specs.Values.{wire_value, wire_values}
use Rattle.rr_circuit.proofs.Netlists.{AreWires-extends, Extends-refl, Extends-trans, wire_values-extends}
use Rattle.rr_bits.specs.Words.{reading}
use Rattle.rr_expr.specs.declared.types.Entity.{Entity}
use Rattle.rr_expr.specs.declared.types.Entity.TheVariants.{Signal}
use Rattle.rr_expr.specs.Scopes.{entity_range}
use Rattle.rr_expr.specs.Selects.{lowest_place, place}
use Rattle.rr_flat.specs.Targets.{bits_there}
use Rattle.rr_cycle.specs.Exec.{Environment, write}
use Rattle.rr_named_bits.specs.Pieces.{bits_of}
use Rattle.std.specs.Ordering.{int_eq}
use Rattle.rr_signal_wires.specs.declared.guarded_pieces.GuardedPiece.{GuardedPiece}
use Rattle.rr_signal_wires.specs.GuardedPieces.{IsGuardedPiece, put_guarded_piece, put_guarded_pieces}
use Rattle.rr_signal_wires.proofs.GuardedPieceLaws.{AreGuardedPieces-extends, put_guarded_pieces-extends, put_guarded_pieces-push, same_place, signal_fits, signal_piece, window_all, window_more, window_none}
use Rattle.rr_signal_wires.proofs.guarded_pieces.add_moving.Goals as goal

pub loop-k-init : goal.loop-k-init
loop-k-init c = record {
  extends = Extends-refl c.args.b.now;
  low = omega arith;
  guarded_pieces = λ widths s w a. a;
  value = λ signed widths s w a env vs e. rw (window_none (lowest_place (entity_range (Signal c.args.run.now.signal c.args.run.now.range signed)) c.args.run.now.up (reading c.args.run.now.signed (wire_values c.args.b.now env c.args.run.now.index.now)) c.args.run.now.count) c.args.run.now.count) refl;
}

pub names_place-requires-clause-y : goal.names_place-requires-clause-y
names_place-requires-clause-y c = AreWires-extends c.args.b.now c.loop-k.b c.args.run.now.index.now c.loop-k.invariant.extends c.requires.index

pub returns-in_err-push_guarded_piece-clause-extends : goal.returns-in_err-push_guarded_piece-clause-extends
returns-in_err-push_guarded_piece-clause-extends c = Extends-trans _ _ _ c.loop-k.invariant.extends c.in_ok-when.ensures.extends

pub loop-k-preserved : goal.loop-k-preserved
loop-k-preserved c =
    let h = c.loop-k.invariant in
    let x = c.in_ok-when.ensures in
    let low : ℤ = to_z w64 (of_z w64 (to_z w64 c.loop-k.k -ℤ to_z w64 c.args.run.now.count)) in
    let guarded_piece : GuardedPiece = record { piece = record { signal = c.args.run.now.signal; width = c.width_of-width.result; from = low; count = c.args.run.now.count }; when = c.in_ok-when.when; from = c.args.run.now.from } in
    record {
      extends = Extends-trans _ _ _ h.extends x.extends;
      low = omega arith;
      guarded_pieces = λ widths s w a.
          rw c.in_ok-push_guarded_piece.ensures
          (All-push (IsGuardedPiece c.names_place.new.b widths) c.loop-k.list.items guarded_piece (AreGuardedPieces-extends c.loop-k.b c.names_place.new.b widths c.loop-k.list.items x.extends (h.guarded_pieces widths s w a))
          (record { piece = signal_fits widths guarded_piece.piece s (w ∙ sym c.width_of-width.ensures); when = x.value.wire; from = c.requires.from }));
      value = λ signed widths s w a env vs e.
          let i : ℤ = reading c.args.run.now.signed (wire_values c.args.b.now env c.args.run.now.index.now) in
          let entity : Entity = Signal c.args.run.now.signal c.args.run.now.range signed in
          let at : ℤ = lowest_place (entity_range entity) c.args.run.now.up i c.args.run.now.count in
          let d : Environment = put_guarded_pieces c.loop-k.b env c.loop-k.list.items vs e in
          let o : Environment = put_guarded_pieces c.args.b.now env c.args.list.now.items vs e in
          let r : c.bounds_of-bounds.result ≡ entity_range entity = c.bounds_of-bounds.ensures c.args.run.now.signal signed in
          let t : wire_value c.names_place.new.b env c.in_ok-when.when ≡ int_eq at low =
          x.value.value env
          ∙ ap₂ (λ (s : ℕ × ℕ) (bs : List Bool). int_eq (place s (reading c.args.run.now.signed bs)) (to_z w64 (of_z w64 (low +ℤ to_z w64 c.below_index-below.result)))) r (wire_values-extends c.args.b.now c.loop-k.b c.args.run.now.index.now env h.extends c.requires.index)
          ∙ same_place (place (entity_range entity) i) at low _ c.below_index-below.result
          (ap (λ (s : ℕ × ℕ). place s i -ℤ pos c.below_index-below.result) (sym r) ∙ c.below_index-below.ensures.place i ∙ ap (λ (s : ℕ × ℕ). lowest_place s c.args.run.now.up i c.args.run.now.count) r)
          (omega (arith, ints, h.low, c.below_index-below.ensures.near)) in
          rw c.in_ok-push_guarded_piece.ensures
          (put_guarded_pieces-push c.names_place.new.b env c.loop-k.list.items guarded_piece vs e
          ∙ ap (put_guarded_piece c.names_place.new.b env guarded_piece vs) (put_guarded_pieces-extends c.loop-k.b c.names_place.new.b env widths c.loop-k.list.items vs e x.extends (h.guarded_pieces widths s w a))
          ∙ ap (λ (k : Bool). cond k (write (bits_of guarded_piece.piece) (drop c.args.run.now.from vs) d) d) t
          ∙ window_more at low c.args.run.now.count c.loop-k.k (write (bits_there entity at c.args.run.now.count) (drop c.args.run.now.from vs)) (write (bits_of guarded_piece.piece) (drop c.args.run.now.from vs)) d o h.low (omega (arith, ints))
          (λ q f. ap (λ (bs : _). write bs (drop c.args.run.now.from vs) f) (signal_piece c.args.run.now.signal c.args.run.now.range signed c.width_of-width.result low c.args.run.now.count c.width_of-width.ensures ∙ ap (λ (z : ℤ). bits_there entity z c.args.run.now.count) (sym q)))
          (h.value signed widths s w a env vs e));
    }

pub returns-clause-value : goal.returns-clause-value
returns-clause-value c = λ signed widths s w a env vs e.
    c.loop-k.invariant.value signed widths s w a env vs e
    ∙ window_all c.args.run.now.signal c.args.run.now.range signed (lowest_place (entity_range (Signal c.args.run.now.signal c.args.run.now.range signed)) c.args.run.now.up (reading c.args.run.now.signed (wire_values c.args.b.now env c.args.run.now.index.now)) c.args.run.now.count)
    c.args.run.now.count c.loop-k.k (drop c.args.run.now.from vs) (put_guarded_pieces c.args.b.now env c.args.list.now.items vs e) (omega (arith, c.loop-k-test.false, c.width_of-width.ensures))

pub returns-clause-guarded_pieces : goal.returns-clause-guarded_pieces
returns-clause-guarded_pieces c = λ widths s w a. c.loop-k.invariant.guarded_pieces widths s w a

pub returns-in_err-when-clause-extends : goal.returns-in_err-when-clause-extends
returns-in_err-when-clause-extends c = Extends-trans _ _ _ c.loop-k.invariant.extends c.in_err-when.ensures.extends
