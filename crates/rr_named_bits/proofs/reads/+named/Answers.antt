use Rattle.std.proofs.Common.{◌∙◌, sym, rules}
use Rattle.std.proofs.lemmas.Result.{on_ok_weaker}
use Rattle.rr_syntax.specs.declared.tree.Expr.{the_lemmas}
use Rattle.rr_named_bits.proofs.Naming.{named-Name, named-Part, named-Bit, named-Indexed, whole-Bit, whole-Indexed, grown-Literal, grown-Unary, grown-Cast, grown-Paren, grown-Binary, grown-Cond, grown-Concat, grown-Repeat, names_start, names_here, names_more, names_done}
use Rattle.rr_named_bits.proofs.Nodes.{shaped-Bit, shaped-Indexed, shaped-Unary, shaped-Cast, shaped-Paren, shaped-Binary, shaped-Cond, shaped-Concat, shaped-Repeat}
use Rattle.rr_named_bits.proofs.reads.+named.Goals as goal

pub add_named_by_all-loop-part-init : goal.add_named_by_all-loop-part-init
add_named_by_all-loop-part-init t c = names_start c.args.scope.now c.args.parts.now c.args.list.now.items c.requires.shaped

pub add_named_by_all-add_named_in-requires : goal.add_named_by_all-add_named_in-requires
add_named_by_all-add_named_in-requires t c = (search (rules, the_lemmas), (names_here c.args.scope.now c.args.parts.now c.loop-part.part-index c.part-item.result c.args.list.now.items c.loop-part.list.items c.loop-part-test.true c.part-item.is c.loop-part.invariant, c.requires.none))

pub add_named_by_all-loop-part-preserved : goal.add_named_by_all-loop-part-preserved
add_named_by_all-loop-part-preserved t c = names_more c.args.scope.now c.args.parts.now c.loop-part.part-index c.part-item.result c.args.list.now.items c.loop-part.list.items _ c.loop-part-test.true c.part-item.is c.loop-part.invariant c.in_ok-add_named_in.ensures

pub add_named_by_all-returns : goal.add_named_by_all-returns
add_named_by_all-returns t c = names_done c.args.scope.now c.args.parts.now c.loop-part.part-index c.args.list.now.items c.loop-part.list.items c.loop-part-test.false c.loop-part.invariant

pub add_named_in-push_whole-requires : goal.add_named_in-push_whole-requires
add_named_in-push_whole-requires t c = rw c.meaning.ensures (shaped-Bit _ _ _ _ (rw c.in-Bit.is at c.requires.shaped)).0

pub add_named_in-push_whole-requires-else-is_constant-2 : goal.add_named_in-push_whole-requires-else-is_constant-2
add_named_in-push_whole-requires-else-is_constant-2 t c = rw c.meaning-else-is_constant-2.ensures (shaped-Indexed _ _ _ _ _ _ (rw c.in-Indexed.is at c.requires.shaped)).0

pub add_named_in-add_named_in-requires : goal.add_named_in-add_named_in-requires
add_named_in-add_named_in-requires t c = (search (rules, the_lemmas), ((shaped-Bit _ _ _ _ (rw c.in-Bit.is at c.requires.shaped)).1, c.requires.none))

pub add_named_in-add_named_in-requires-else-is_constant-2 : goal.add_named_in-add_named_in-requires-else-is_constant-2
add_named_in-add_named_in-requires-else-is_constant-2 t c = (search (rules, the_lemmas), ((shaped-Indexed _ _ _ _ _ _ (rw c.in-Indexed.is at c.requires.shaped)).1, c.requires.none))

pub add_named_in-add_named_in-requires-in-Unary : goal.add_named_in-add_named_in-requires-in-Unary
add_named_in-add_named_in-requires-in-Unary t c = (search (rules, the_lemmas), (shaped-Unary _ _ _ (rw c.in-Unary.is at c.requires.shaped), c.requires.none))

pub add_named_in-add_named_in-requires-in-Cast : goal.add_named_in-add_named_in-requires-in-Cast
add_named_in-add_named_in-requires-in-Cast t c = (search (rules, the_lemmas), (shaped-Cast _ _ _ (rw c.in-Cast.is at c.requires.shaped), c.requires.none))

pub add_named_in-add_named_in-requires-in-Paren : goal.add_named_in-add_named_in-requires-in-Paren
add_named_in-add_named_in-requires-in-Paren t c = (search (rules, the_lemmas), (shaped-Paren _ _ (rw c.in-Paren.is at c.requires.shaped), c.requires.none))

pub add_named_in-add_named_in-requires-in-Binary : goal.add_named_in-add_named_in-requires-in-Binary
add_named_in-add_named_in-requires-in-Binary t c = (search (rules, the_lemmas), ((shaped-Binary _ _ _ _ (rw c.in-Binary.is at c.requires.shaped)).0, c.requires.none))

pub add_named_in-add_named_in-requires-in-Binary-2 : goal.add_named_in-add_named_in-requires-in-Binary-2
add_named_in-add_named_in-requires-in-Binary-2 t c = (search (rules, the_lemmas), ((shaped-Binary _ _ _ _ (rw c.in-Binary.is at c.requires.shaped)).1, c.requires.none))

pub add_named_in-add_named_in-requires-in-Cond : goal.add_named_in-add_named_in-requires-in-Cond
add_named_in-add_named_in-requires-in-Cond t c = (search (rules, the_lemmas), ((shaped-Cond _ _ _ _ (rw c.in-Cond.is at c.requires.shaped)).0, c.requires.none))

pub add_named_in-add_named_in-requires-in-Cond-2 : goal.add_named_in-add_named_in-requires-in-Cond-2
add_named_in-add_named_in-requires-in-Cond-2 t c = (search (rules, the_lemmas), ((shaped-Cond _ _ _ _ (rw c.in-Cond.is at c.requires.shaped)).1, c.requires.none))

pub add_named_in-add_named_in-requires-in-Cond-3 : goal.add_named_in-add_named_in-requires-in-Cond-3
add_named_in-add_named_in-requires-in-Cond-3 t c = (search (rules, the_lemmas), ((shaped-Cond _ _ _ _ (rw c.in-Cond.is at c.requires.shaped)).2, c.requires.none))

pub add_named_in-add_named_by_all-requires : goal.add_named_in-add_named_by_all-requires
add_named_in-add_named_by_all-requires t c = (search (rules, the_lemmas), (shaped-Concat _ _ (rw c.in-Concat.is at c.requires.shaped), c.requires.none))

pub add_named_in-add_named_by_all-requires-in-Repeat : goal.add_named_in-add_named_by_all-requires-in-Repeat
add_named_in-add_named_by_all-requires-in-Repeat t c = (search (rules, the_lemmas), (shaped-Repeat _ _ _ (rw c.in-Repeat.is at c.requires.shaped), c.requires.none))

pub add_named_in-returns-then-is_constant : goal.add_named_in-returns-then-is_constant
add_named_in-returns-then-is_constant t c =
    on_ok_weaker c.push_fixed-then-is_constant.result (λ g. rw c.in-Bit.is (named-Bit _ _ _ _ c.args.list.now.items _ (sym c.is_constant.ensures ∙ c.if-is_constant.true) (rw c.in-Bit.is at g))) c.push_fixed-then-is_constant.ensures

pub add_named_in-returns-in_ok-push_whole-in-Bit : goal.add_named_in-returns-in_ok-push_whole-in-Bit
add_named_in-returns-in_ok-push_whole-in-Bit t c =
    on_ok_weaker c.add_named_in.result (λ g. rw c.in-Bit.is (whole-Bit _ _ _ _ c.args.list.now.items _ _ (sym c.is_constant.ensures ∙ c.if-is_constant.false) (rw c.meaning.ensures at c.in_ok-push_whole-in-Bit.ensures) g)) c.add_named_in.ensures

pub add_named_in-returns-then-is_constant-2 : goal.add_named_in-returns-then-is_constant-2
add_named_in-returns-then-is_constant-2 t c =
    on_ok_weaker c.push_fixed-then-is_constant-2.result (λ g. rw c.in-Indexed.is (named-Indexed _ _ _ _ _ _ c.args.list.now.items _ (rw c.in-Indexed.is at c.requires.shaped) (sym c.is_constant-in-Indexed.ensures ∙ c.if-is_constant-2.true) (rw c.in-Indexed.is at g))) c.push_fixed-then-is_constant-2.ensures

pub add_named_in-returns-in_ok-push_whole-in-Indexed : goal.add_named_in-returns-in_ok-push_whole-in-Indexed
add_named_in-returns-in_ok-push_whole-in-Indexed t c =
    on_ok_weaker c.add_named_in-else-is_constant-2.result (λ g. rw c.in-Indexed.is (whole-Indexed _ _ _ _ _ _ c.args.list.now.items _ _ (sym c.is_constant-in-Indexed.ensures ∙ c.if-is_constant-2.false) (rw c.meaning-else-is_constant-2.ensures at c.in_ok-push_whole-in-Indexed.ensures) g)) c.add_named_in-else-is_constant-2.ensures

pub add_named_in-returns-in-Name : goal.add_named_in-returns-in-Name
add_named_in-returns-in-Name t c =
    on_ok_weaker c.push_fixed.result (λ g. rw c.in-Name.is (named-Name _ _ _ c.args.list.now.items _ (rw c.in-Name.is at c.requires.shaped) (rw c.in-Name.is at g))) c.push_fixed.ensures

pub add_named_in-returns-in-Part : goal.add_named_in-returns-in-Part
add_named_in-returns-in-Part t c =
    on_ok_weaker c.push_fixed-in-Part.result (λ g. rw c.in-Part.is (named-Part _ _ _ _ _ c.args.list.now.items _ (rw c.in-Part.is at c.requires.shaped) (rw c.in-Part.is at g))) c.push_fixed-in-Part.ensures

pub add_named_in-returns-in-Unary : goal.add_named_in-returns-in-Unary
add_named_in-returns-in-Unary t c = on_ok_weaker c.add_named_in-in-Unary.result (λ g. rw c.in-Unary.is (grown-Unary _ _ _ _ _ g)) c.add_named_in-in-Unary.ensures

pub add_named_in-returns-in-Cast : goal.add_named_in-returns-in-Cast
add_named_in-returns-in-Cast t c = on_ok_weaker c.add_named_in-in-Cast.result (λ g. rw c.in-Cast.is (grown-Cast _ _ _ _ _ g)) c.add_named_in-in-Cast.ensures

pub add_named_in-returns-in-Paren : goal.add_named_in-returns-in-Paren
add_named_in-returns-in-Paren t c = on_ok_weaker c.add_named_in-in-Paren.result (λ g. rw c.in-Paren.is (grown-Paren _ _ _ _ g)) c.add_named_in-in-Paren.ensures

pub add_named_in-returns-in_ok-add_named_in-in-Binary : goal.add_named_in-returns-in_ok-add_named_in-in-Binary
add_named_in-returns-in_ok-add_named_in-in-Binary t c = on_ok_weaker c.add_named_in-in-Binary-2.result (λ g. rw c.in-Binary.is (grown-Binary _ _ _ _ _ _ _ c.in_ok-add_named_in-in-Binary.ensures g)) c.add_named_in-in-Binary-2.ensures

pub add_named_in-returns-in_ok-add_named_in-in-Cond-2 : goal.add_named_in-returns-in_ok-add_named_in-in-Cond-2
add_named_in-returns-in_ok-add_named_in-in-Cond-2 t c =
    on_ok_weaker c.add_named_in-in-Cond-3.result (λ g. rw c.in-Cond.is (grown-Cond _ _ _ _ _ _ _ _ c.in_ok-add_named_in-in-Cond.ensures c.in_ok-add_named_in-in-Cond-2.ensures g)) c.add_named_in-in-Cond-3.ensures

pub add_named_in-returns-in-Concat : goal.add_named_in-returns-in-Concat
add_named_in-returns-in-Concat t c = on_ok_weaker c.add_named_by_all.result (λ g. rw c.in-Concat.is (grown-Concat _ _ _ _ g)) c.add_named_by_all.ensures

pub add_named_in-returns-in-Repeat : goal.add_named_in-returns-in-Repeat
add_named_in-returns-in-Repeat t c = on_ok_weaker c.add_named_by_all-in-Repeat.result (λ g. rw c.in-Repeat.is (grown-Repeat _ _ _ _ _ g)) c.add_named_by_all-in-Repeat.ensures

pub add_named_in-returns-in-Literal : goal.add_named_in-returns-in-Literal
add_named_in-returns-in-Literal t c = rw c.in-Literal.is (grown-Literal _ _ _ _)
