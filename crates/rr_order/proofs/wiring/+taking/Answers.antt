use Rattle.std.proofs.Common.{◌∙◌, rules}
use Rattle.std.proofs.lemmas.Result.{on_ok_weaker}
use Rattle.rr_syntax.specs.declared.tree.Expr.{the_lemmas}
use Rattle.rr_named_bits.specs.Pieces.{all_bits}
use Rattle.rr_named_bits.proofs.Nodes.{shaped-Concat}
use Rattle.rr_order.proofs.Wirings.{takes-Name, takes-Literal, takes-Bit, takes-Part, takes-Indexed, takes-Unary, takes-Binary, takes-Cond, takes-Concat, takes-Repeat, takes-Cast, takes-Paren, taken_start, taken_here, taken_more, taken_done}
use Rattle.rr_order.proofs.wiring.+taking.Goals as goal

pub add_taken-returns-in-Name : goal.add_taken-returns-in-Name
add_taken-returns-in-Name t c = on_ok_weaker c.add_pieces.result (λ e. rw c.in-Name.is ((rw c.in-Name.is at e) ∙ takes-Name _ _ _ _ _ c.requires.none)) c.add_pieces.ensures

pub add_taken-returns-in-Part : goal.add_taken-returns-in-Part
add_taken-returns-in-Part t c = on_ok_weaker c.add_pieces-in-Part.result (λ e. rw c.in-Part.is ((rw c.in-Part.is at e) ∙ takes-Part _ _ _ _ _ _ _ c.requires.none)) c.add_pieces-in-Part.ensures

pub add_taken-returns-in-Bit : goal.add_taken-returns-in-Bit
add_taken-returns-in-Bit t c = on_ok_weaker c.add_pieces-in-Bit.result (λ e. rw c.in-Bit.is ((rw c.in-Bit.is at e) ∙ takes-Bit _ _ _ _ _ _ c.requires.none)) c.add_pieces-in-Bit.ensures

pub add_taken-returns-in-Indexed : goal.add_taken-returns-in-Indexed
add_taken-returns-in-Indexed t c = on_ok_weaker c.add_pieces-in-Indexed.result (λ e. rw c.in-Indexed.is ((rw c.in-Indexed.is at e) ∙ takes-Indexed _ _ _ _ _ _ _ _ c.requires.none)) c.add_pieces-in-Indexed.ensures

pub add_taken-returns-in-Literal : goal.add_taken-returns-in-Literal
add_taken-returns-in-Literal t c = on_ok_weaker c.push_piece.result (λ e. rw c.in-Literal.is (e ∙ takes-Literal _ _ _ c.absent.result _ c.absent.ensures)) c.push_piece.ensures.bits

pub add_taken-add_all_taken-requires : goal.add_taken-add_all_taken-requires
add_taken-add_all_taken-requires t c = (search (rules, the_lemmas), (shaped-Concat _ _ (rw c.in-Concat.is at c.requires.shaped), c.requires.none))

pub add_taken-returns-in-Concat : goal.add_taken-returns-in-Concat
add_taken-returns-in-Concat t c = on_ok_weaker c.add_all_taken.result (λ e. rw c.in-Concat.is (e ∙ takes-Concat _ _ _)) c.add_all_taken.ensures

pub add_taken-returns-in-Unary : goal.add_taken-returns-in-Unary
add_taken-returns-in-Unary t c = rw c.in-Unary.is (takes-Unary _ _ _ _)

pub add_taken-returns-in-Binary : goal.add_taken-returns-in-Binary
add_taken-returns-in-Binary t c = rw c.in-Binary.is (takes-Binary _ _ _ _ _)

pub add_taken-returns-in-Cond : goal.add_taken-returns-in-Cond
add_taken-returns-in-Cond t c = rw c.in-Cond.is (takes-Cond _ _ _ _ _)

pub add_taken-returns-in-Repeat : goal.add_taken-returns-in-Repeat
add_taken-returns-in-Repeat t c = rw c.in-Repeat.is (takes-Repeat _ _ _ _)

pub add_taken-returns-in-Cast : goal.add_taken-returns-in-Cast
add_taken-returns-in-Cast t c = rw c.in-Cast.is (takes-Cast _ _ _ _)

pub add_taken-returns-in-Paren : goal.add_taken-returns-in-Paren
add_taken-returns-in-Paren t c = rw c.in-Paren.is (takes-Paren _ _ _)

pub add_all_taken-loop-part-init : goal.add_all_taken-loop-part-init
add_all_taken-loop-part-init t c = taken_start c.args.scope.now c.args.parts.now (all_bits c.args.list.now.items) c.requires.shaped

pub add_all_taken-add_taken-requires : goal.add_all_taken-add_taken-requires
add_all_taken-add_taken-requires t c =
    (search (rules, the_lemmas), (taken_here c.args.scope.now c.args.parts.now c.loop-part.part-index c.part-item.result (all_bits c.args.list.now.items) (all_bits c.loop-part.list.items) c.loop-part-test.true c.part-item.is c.loop-part.invariant, c.requires.none))

pub add_all_taken-loop-part-preserved : goal.add_all_taken-loop-part-preserved
add_all_taken-loop-part-preserved t c =
    taken_more c.args.scope.now c.args.parts.now c.loop-part.part-index c.part-item.result (all_bits c.args.list.now.items) (all_bits c.loop-part.list.items) _ c.loop-part-test.true c.part-item.is c.loop-part.invariant c.in_ok-add_taken.ensures

pub add_all_taken-returns : goal.add_all_taken-returns
add_all_taken-returns t c = taken_done c.args.scope.now c.args.parts.now c.loop-part.part-index (all_bits c.args.list.now.items) (all_bits c.loop-part.list.items) c.loop-part-test.false c.loop-part.invariant
