use Rattle.std.proofs.Common.{◌∙◌, ap, false}
use Rattle.std.proofs.lemmas.Result.{on_ok_weaker}
use Rattle.rr_syntax.specs.View.{plain}
use Rattle.rr_expr.specs.Faults.{fault}
use Rattle.rr_order.proofs.Sided.{whole_taken, text_taken}
use Rattle.rr_order.proofs.sides.add_side.Goals as goal

pub add_taken-requires : goal.add_taken-requires
add_taken-requires c = record { shaped = ap (λ s. fault s (plain c.in-Text.expr.now) false) c.scope_at.ensures.value ∙ (rw c.in-Text.is at c.requires.side).1.shaped; none = c.no_values.ensures }

pub returns-in-Whole : goal.returns-in-Whole
returns-in-Whole c = on_ok_weaker c.push_piece.result (λ e. whole_taken c.args.flat.now c.in-Whole.id c.args.side.now _ _ _ c.in-Whole.is c.requires.none e c.whole.ensures.bits) c.push_piece.ensures.bits

pub returns-in-Text : goal.returns-in-Text
returns-in-Text c = on_ok_weaker c.add_taken.result (λ e. text_taken c.args.flat.now c.in-Text.expr c.in-Text.scope c.scope_at.result.now c.args.side.now _ _ c.in-Text.is c.scope_at.ensures.value c.requires.none e) c.add_taken.ensures
