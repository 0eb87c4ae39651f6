use Rattle.std.proofs.Common.{◌≡◌, ◌∙◌, sym, ap, get_or, length, List, Option, Some, None}
use Rattle.rr_expr.specs.declared.types.Bit.{Bit}
use Rattle.rr_named_bits.specs.declared.piece.Piece.{Piece}
use Rattle.rr_named_bits.specs.Pieces.{all_bits}
use Rattle.rr_meaning.proofs.Placing.{fits_at, wire_none, wire_some}
use Rattle.rr_meaning.proofs.steps.wire.Goals as goal

pub named_bit-requires : goal.named_bit-requires
named_bit-requires c = record { few = rw c.as_slice.ensures.value c.in_ok-driven_pieces.ensures.few }

pub set_bit-requires-clause-signal : goal.set_bit-requires-clause-signal
set_bit-requires-clause-signal c =
    let h : get_or (all_bits c.driven_pieces.new.pieces.items) c.args.place None ≡ Some c.in-Some.bit =
    ap (λ (ps : List Piece). get_or (all_bits ps) c.args.place None) (sym c.as_slice.ensures.value) ∙ (sym c.named_bit.ensures ∙ c.in-Some.is) in
    rw c.requires.count (fits_at (length c.args.flat.now.signals) c.driven_pieces.new.pieces.items c.in-Some.bit c.args.place c.in_ok-driven_pieces.ensures.fits h).0

pub set_bit-requires-clause-place : goal.set_bit-requires-clause-place
set_bit-requires-clause-place c =
    let h : get_or (all_bits c.driven_pieces.new.pieces.items) c.args.place None ≡ Some c.in-Some.bit =
    ap (λ (ps : List Piece). get_or (all_bits ps) c.args.place None) (sym c.as_slice.ensures.value) ∙ (sym c.named_bit.ensures ∙ c.in-Some.is) in
    (fits_at (length c.args.flat.now.signals) c.driven_pieces.new.pieces.items c.in-Some.bit c.args.place c.in_ok-driven_pieces.ensures.fits h).1

pub returns-in-Some-clause-env : goal.returns-in-Some-clause-env
returns-in-Some-clause-env c =
    let h : get_or (all_bits c.driven_pieces.new.pieces.items) c.args.place None ≡ Some c.in-Some.bit =
    ap (λ (ps : List Piece). get_or (all_bits ps) c.args.place None) (sym c.as_slice.ensures.value) ∙ (sym c.named_bit.ensures ∙ c.in-Some.is) in
    c.set_bit.ensures.env
    ∙ wire_some _ c.in-Some.bit c.driver_bit-on.result _ _ (ap (λ (bs : List (Option Bit)). get_or bs c.args.place None) (sym c.in_ok-driven_pieces.ensures.bits) ∙ h)
    c.driver_bit-on.ensures

pub returns-in-None-clause-env : goal.returns-in-None-clause-env
returns-in-None-clause-env c =
    let h : get_or (all_bits c.driven_pieces.new.pieces.items) c.args.place None ≡ None =
    ap (λ (ps : List Piece). get_or (all_bits ps) c.args.place None) (sym c.as_slice.ensures.value) ∙ (sym c.named_bit.ensures ∙ c.in-None.is) in
    wire_none _ _ _ (ap (λ (bs : List (Option Bit)). get_or bs c.args.place None) (sym c.in_ok-driven_pieces.ensures.bits) ∙ h)
