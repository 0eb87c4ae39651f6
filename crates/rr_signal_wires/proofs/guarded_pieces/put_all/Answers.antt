use Rattle.std.proofs.Common.{◌≡◌, ◌∙◌, ap, ap₂, refl, Bool, List, cond, get_or, drop, ◌&&◌}
use Rattle.std.proofs.lemmas.List.Elements.{All-get_or}
use Rattle.rr_circuit.specs.Values.{wire_value, wire_values}
use Rattle.rr_circuit.proofs.Netlists.{AreWires-extends, Extends-refl, Extends-trans, wire_values-extends}
use Rattle.rr_cycle.specs.Exec.{Environment, write}
use Rattle.rr_named_bits.specs.Pieces.{bits_of}
use Rattle.rr_signal_wires.specs.declared.guarded_pieces.GuardedPiece.{GuardedPiece}
use Rattle.rr_signal_wires.specs.GuardedPieces.{IsGuardedPiece}
use Rattle.rr_signal_wires.specs.Words.{carried, widths_of}
use Rattle.rr_signal_wires.proofs.GuardedPieceLaws.{no_guarded_piece, put_left, put_done}
use Rattle.rr_signal_wires.proofs.WordLaws.{AreWords-extends, carried-extends}
use Rattle.rr_signal_wires.proofs.guarded_pieces.put_all.Goals as goal

pub loop-guarded_piece-init : goal.loop-guarded_piece-init
loop-guarded_piece-init c = record { extends = Extends-refl c.args.b.now; words = c.requires.words; widths = refl; value = λ env. refl }

pub and-requires-clause-b : goal.and-requires-clause-b
and-requires-clause-b c =
    c.loop-guarded_piece.invariant.extends.wires _ (All-get_or (IsGuardedPiece c.args.b.now (widths_of c.args.words.now.items)) c.args.guarded_pieces.now c.loop-guarded_piece.guarded_piece-index no_guarded_piece c.loop-guarded_piece-test.true c.requires.guarded_pieces).when

pub put_run-requires : goal.put_run-requires
put_run-requires c =
    let s = All-get_or (IsGuardedPiece c.args.b.now (widths_of c.args.words.now.items)) c.args.guarded_pieces.now c.loop-guarded_piece.guarded_piece-index no_guarded_piece c.loop-guarded_piece-test.true c.requires.guarded_pieces in
    let x = Extends-trans _ _ _ c.loop-guarded_piece.invariant.extends c.in_ok-here.ensures.extends in
    record {
      guard = c.in_ok-here.ensures.wire;
      bits = AreWires-extends c.args.b.now c.and.new.self c.args.bits.now x c.requires.bits;
      words = AreWords-extends c.loop-guarded_piece.b c.and.new.self c.loop-guarded_piece.words.items c.in_ok-here.ensures.extends c.loop-guarded_piece.invariant.words;
      fits = rw (← c.loop-guarded_piece.invariant.widths) at s.piece;
      from = s.from;
    }

pub loop-guarded_piece-preserved : goal.loop-guarded_piece-preserved
loop-guarded_piece-preserved c =
    let h = c.loop-guarded_piece.invariant in
    let a = c.in_ok-here.ensures in
    let r = c.in_ok-put_run.ensures in
    let p : GuardedPiece = get_or c.args.guarded_pieces.now c.loop-guarded_piece.guarded_piece-index no_guarded_piece in
    let s = All-get_or (IsGuardedPiece c.args.b.now (widths_of c.args.words.now.items)) c.args.guarded_pieces.now c.loop-guarded_piece.guarded_piece-index no_guarded_piece c.loop-guarded_piece-test.true c.requires.guarded_pieces in
    let x = Extends-trans _ _ _ h.extends a.extends in
    record {
      extends = Extends-trans _ _ _ x r.extends;
      words = r.words;
      widths = r.widths ∙ h.widths;
      value = λ env.
          let g : Bool = wire_value c.args.b.now env c.args.guard in
          let vs : List Bool = wire_values c.args.b.now env c.args.bits.now in
          let e : Environment = carried c.loop-guarded_piece.b env c.loop-guarded_piece.words.items in
          let w : Bool = wire_value c.args.b.now env p.when in
          let t : wire_value c.and.new.self env c.in_ok-here.here ≡ (g && w) =
          a.value env ∙ ap₂ (λ (y z : Bool). y && z) (h.extends.values env c.args.guard c.requires.guard) (h.extends.values env p.when s.when) in
          let q : carried c.and.new.self env c.loop-guarded_piece.words.items ≡ e = carried-extends c.loop-guarded_piece.b c.and.new.self env c.loop-guarded_piece.words.items a.extends h.words in
          let v : wire_values c.and.new.self env c.args.bits.now ≡ vs = wire_values-extends c.args.b.now c.and.new.self c.args.bits.now env x c.requires.bits in
          put_left c.args.b.now env g w c.args.guarded_pieces.now c.loop-guarded_piece.guarded_piece-index p no_guarded_piece vs e _ _ c.loop-guarded_piece-test.true refl refl
          (r.value env
          ∙ ap (λ (k : Bool). cond k (write (bits_of p.piece) (drop p.from (wire_values c.and.new.self env c.args.bits.now)) (carried c.and.new.self env c.loop-guarded_piece.words.items)) (carried c.and.new.self env c.loop-guarded_piece.words.items)) t
          ∙ ap₂ (λ (us : List Bool) (f : Environment). cond (g && w) (write (bits_of p.piece) (drop p.from us) f) f) v q)
          (h.value env);
    }

pub returns-clause-value : goal.returns-clause-value
returns-clause-value c = λ env.
    put_done c.args.b.now env (wire_value c.args.b.now env c.args.guard) c.args.guarded_pieces.now c.loop-guarded_piece.guarded_piece-index (wire_values c.args.b.now env c.args.bits.now) _ _ c.loop-guarded_piece-test.false (c.loop-guarded_piece.invariant.value env)
