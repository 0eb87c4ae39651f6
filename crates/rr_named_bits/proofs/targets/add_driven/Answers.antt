use Rattle.std.proofs.Common.{◌∙◌, ap, ◌++◌, false}
use Rattle.std.proofs.lemmas.Result.{on_ok_weaker}
use Rattle.rr_syntax.specs.View.{plain}
use Rattle.rr_expr.specs.Faults.{fault}
use Rattle.rr_named_bits.specs.Pieces.{all_bits}
use Rattle.rr_named_bits.proofs.Sides.{whole_side, text_side}
use Rattle.rr_named_bits.proofs.targets.add_driven.Goals as goal

pub returns-in-Whole : goal.returns-in-Whole
returns-in-Whole c =
    on_ok_weaker c.push_piece.result
    (λ e. e ∙ ap (λ z. z ++ all_bits c.args.list.now.items) (c.whole.ensures.bits ∙ whole_side c.args.flat.now c.in-Whole.id c.args.target.now c.in-Whole.is)) c.push_piece.ensures.bits

pub returns-in-Text : goal.returns-in-Text
returns-in-Text c =
    on_ok_weaker c.add_pieces.result
    (λ e. e ∙ ap (λ z. z ++ all_bits c.args.list.now.items) (text_side c.args.flat.now c.in-Text.expr c.in-Text.scope c.scope_at.result.now _ c.args.target.now c.in-Text.is c.scope_at.ensures.value c.requires.none)) c.add_pieces.ensures

pub add_pieces-requires : goal.add_pieces-requires
add_pieces-requires c = ap (λ s. fault s (plain c.in-Text.expr.now) false) c.scope_at.ensures.value ∙ (rw c.in-Text.is at c.requires.side).1.shaped
