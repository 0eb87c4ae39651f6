use Rattle.std.proofs.Common.{◌≡◌, ◌∙◌, sym, ap, ap₂, arith, ℕ, Bool, List, Option, cond, get_or, length, pos}
use Rattle.std.specs.Prelude.{Vec}
use Rattle.std.specs.Global.{Global}
use Rattle.std.proofs.lemmas.List.Elements.{All-push}
use Rattle.rr_circuit.specs.declared.Wire.{Wire}
use Rattle.rr_expr.specs.declared.types.Bit.{Bit}
use Rattle.rr_expr.specs.declared.types.Entity.TheVariants.{Signal}
use Rattle.rr_expr.specs.Scopes.{range_width}
use Rattle.rr_flat.specs.Targets.{bits_there}
use Rattle.rr_cycle.specs.Exec.{Environment, write}
use Rattle.rr_named_bits.specs.declared.piece.Piece.{Piece}
use Rattle.rr_named_bits.specs.Pieces.{bits_of}
use Rattle.rr_signal_wires.specs.declared.guarded_pieces.GuardedPiece.{GuardedPiece}
use Rattle.rr_signal_wires.specs.GuardedPieces.{IsGuardedPiece, put_guarded_pieces}
use Rattle.rr_signal_wires.specs.Words.{widths_of}
use Rattle.rr_signal_wires.proofs.GuardedPieceLaws.{no_guarded_pieces, put_guarded_pieces-push, signal_fits, signal_piece}
use Rattle.rr_signal_wires.proofs.WordLaws.{count_of, width_at}
use Rattle.rr_signal_wires.proofs.guarded_pieces.whole_guarded_pieces.Goals as goal

pub overflow_cast-width : goal.overflow_cast-width
overflow_cast-width c =
    let v : Vec Wire Global = c.index-words-id.result in
    let w : get_or (widths_of c.args.words.now) c.args.id 0 ≡ length v.items = width_at c.args.words.now c.args.id v c.requires.there ∙ sym (ap (λ (u : Vec Wire Global). length u.items) c.index-words-id.is) in
    omega (arith, w, c.len-width.ensures, c.requires.narrow, v.ok.0)

pub returns-clause-guarded_pieces : goal.returns-clause-guarded_pieces
returns-clause-guarded_pieces c =
    let v : Vec Wire Global = c.index-words-id.result in
    let w : get_or (widths_of c.args.words.now) c.args.id 0 ≡ length v.items = width_at c.args.words.now c.args.id v c.requires.there ∙ sym (ap (λ (u : Vec Wire Global). length u.items) c.index-words-id.is) in
    let e : c.len-width.result ≡ length v.items = omega (arith, c.len-width.ensures, v.ok.0) in
    let piece : Piece = record { signal = c.args.id; width = c.len-width.result; from = pos 0; count = c.len-width.result } in
    rw c.in_ok-push_guarded_piece.ensures
    (All-push (IsGuardedPiece c.args.b.now (widths_of c.args.words.now)) c.new-list.result.items (record { piece = piece; when = c.constant-when.result; from = 0 })
    (λ k d l. absurd (omega (arith, l, ap length c.new-list.ensures.items)))
    (record {
      piece = signal_fits (widths_of c.args.words.now) piece (omega (arith, c.requires.there, count_of c.args.words.now)) (w ∙ sym e);
      when = c.constant-when.ensures.wire;
      from = omega arith;
    }))

pub returns-clause-value : goal.returns-clause-value
returns-clause-value c = λ range signed q env vs d.
    let v : Vec Wire Global = c.index-words-id.result in
    let w : get_or (widths_of c.args.words.now) c.args.id 0 ≡ length v.items = width_at c.args.words.now c.args.id v c.requires.there ∙ sym (ap (λ (u : Vec Wire Global). length u.items) c.index-words-id.is) in
    let e : c.len-width.result ≡ length v.items = omega (arith, c.len-width.ensures, v.ok.0) in
    let r : c.len-width.result ≡ range_width range = e ∙ sym w ∙ q in
    let piece : Piece = record { signal = c.args.id; width = c.len-width.result; from = pos 0; count = c.len-width.result } in
    let guarded_piece : GuardedPiece = record { piece = piece; when = c.constant-when.result; from = 0 } in
    let o : Environment = put_guarded_pieces c.args.b.now env c.new-list.result.items vs d in
    rw c.in_ok-push_guarded_piece.ensures
    (put_guarded_pieces-push c.args.b.now env c.new-list.result.items guarded_piece vs d
    ∙ ap (λ (t : Bool). cond t (write (bits_of piece) vs o) o) (c.constant-when.ensures.value env)
    ∙ ap₂ (λ (bs : List (Option Bit)) (u : Environment). write bs vs u)
    (signal_piece c.args.id range signed c.len-width.result (pos 0) c.len-width.result r ∙ ap (bits_there (Signal c.args.id range signed) (pos 0)) r)
    (no_guarded_pieces c.args.b.now env c.new-list.result.items vs d c.new-list.ensures.items))
