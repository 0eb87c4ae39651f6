use Rattle.std.proofs.Common.{◌∙◌, sym, ap, rules, ◌||◌}
use Rattle.std.proofs.lemmas.Result.{on_ok_weaker}
use Rattle.rr_syntax.specs.declared.tree.Expr.{the_lemmas}
use Rattle.rr_named_bits.proofs.Nodes.{shaped-Bit, shaped-Indexed, shaped-Concat}
use Rattle.rr_named_bits.proofs.Writing.{writes-Name, writes-Part, writes-Bit, writes-Indexed, writes-Concat, assigns-Name, assigns-Part, assigns-Bit, assigns-Indexed, assigns-Concat, parts-Literal, parts-Unary, parts-Binary, parts-Cond, parts-Repeat, parts-Cast, parts-Paren, may_nothing, must_nothing, writes_start, writes_here, writes_more, writes_done, assigns_done}
use Rattle.rr_named_bits.specs.Lists.{may, must}
use Rattle.rr_named_bits.proofs.writes.+writes.Goals as goal

pub add_writes_of_all-loop-target-init : goal.add_writes_of_all-loop-target-init
add_writes_of_all-loop-target-init t c = writes_start c.args.scope.now c.args.targets.now c.args.list.now.items c.requires.shaped

pub add_writes_of_all-add_writes_in-requires : goal.add_writes_of_all-add_writes_in-requires
add_writes_of_all-add_writes_in-requires t c = (search (rules, the_lemmas), (writes_here c.args.scope.now c.args.targets.now c.loop-target.target-index c.target-item.result c.args.list.now.items c.loop-target.list.items c.loop-target-test.true c.target-item.is c.loop-target.invariant, c.requires.none))

pub add_writes_of_all-loop-target-preserved : goal.add_writes_of_all-loop-target-preserved
add_writes_of_all-loop-target-preserved t c = writes_more c.args.scope.now c.args.targets.now c.loop-target.target-index c.target-item.result c.args.list.now.items c.loop-target.list.items _ c.loop-target-test.true c.target-item.is c.loop-target.invariant c.in_ok-add_writes_in.ensures.may c.in_ok-add_writes_in.ensures.must

pub add_writes_of_all-returns-clause-may : goal.add_writes_of_all-returns-clause-may
add_writes_of_all-returns-clause-may t c = writes_done c.args.scope.now c.args.targets.now c.loop-target.target-index c.args.list.now.items c.loop-target.list.items c.loop-target-test.false c.loop-target.invariant

pub add_writes_of_all-returns-clause-must : goal.add_writes_of_all-returns-clause-must
add_writes_of_all-returns-clause-must t c = assigns_done c.args.scope.now c.args.targets.now c.loop-target.target-index c.args.list.now.items c.loop-target.list.items c.loop-target-test.false c.loop-target.invariant

pub add_writes_in-add_writes_of_all-requires : goal.add_writes_in-add_writes_of_all-requires
add_writes_in-add_writes_of_all-requires t c = (search (rules, the_lemmas), (shaped-Concat _ _ (rw c.in-Concat.is at c.requires.shaped), c.requires.none))

pub add_writes_in-push_at-requires-clause-width : goal.add_writes_in-push_at-requires-clause-width
add_writes_in-push_at-requires-clause-width t c = (shaped-Bit _ _ _ _ (rw c.in-Bit.is at c.requires.shaped)).0

pub add_writes_in-push_at-requires-in-Indexed-clause-width : goal.add_writes_in-push_at-requires-in-Indexed-clause-width
add_writes_in-push_at-requires-in-Indexed-clause-width t c = (shaped-Indexed _ _ _ _ _ _ (rw c.in-Indexed.is at c.requires.shaped)).0

pub add_writes_in-returns-in-Name-clause-may : goal.add_writes_in-returns-in-Name-clause-may
add_writes_in-returns-in-Name-clause-may t c = on_ok_weaker c.push_certain.result (λ e b. e b ∙ ap (λ z. may c.args.list.now.items b || z) (rw c.in-Name.is (sym (writes-Name _ _ _ b)))) c.push_certain.ensures.may

pub add_writes_in-returns-in-Name-clause-must : goal.add_writes_in-returns-in-Name-clause-must
add_writes_in-returns-in-Name-clause-must t c = on_ok_weaker c.push_certain.result (λ e b. e b ∙ ap (λ z. must c.args.list.now.items b || z) (rw c.in-Name.is (sym (assigns-Name _ _ _ b)))) c.push_certain.ensures.must

pub add_writes_in-returns-in-Part-clause-may : goal.add_writes_in-returns-in-Part-clause-may
add_writes_in-returns-in-Part-clause-may t c = on_ok_weaker c.push_certain-in-Part.result (λ e b. e b ∙ ap (λ z. may c.args.list.now.items b || z) (rw c.in-Part.is (sym (writes-Part _ _ _ _ _ b)))) c.push_certain-in-Part.ensures.may

pub add_writes_in-returns-in-Part-clause-must : goal.add_writes_in-returns-in-Part-clause-must
add_writes_in-returns-in-Part-clause-must t c = on_ok_weaker c.push_certain-in-Part.result (λ e b. e b ∙ ap (λ z. must c.args.list.now.items b || z) (rw c.in-Part.is (sym (assigns-Part _ _ _ _ _ b)))) c.push_certain-in-Part.ensures.must

pub add_writes_in-returns-in-Bit-clause-may : goal.add_writes_in-returns-in-Bit-clause-may
add_writes_in-returns-in-Bit-clause-may t c = on_ok_weaker c.push_at.result (λ e b. e b ∙ ap (λ z. may c.args.list.now.items b || z) (rw c.in-Bit.is (sym (writes-Bit _ _ _ _ b)))) c.push_at.ensures.may

pub add_writes_in-returns-in-Bit-clause-must : goal.add_writes_in-returns-in-Bit-clause-must
add_writes_in-returns-in-Bit-clause-must t c = on_ok_weaker c.push_at.result (λ e b. e b ∙ ap (λ z. must c.args.list.now.items b || z) (rw c.in-Bit.is (sym (assigns-Bit _ _ _ _ b)))) c.push_at.ensures.must

pub add_writes_in-returns-in-Indexed-clause-may : goal.add_writes_in-returns-in-Indexed-clause-may
add_writes_in-returns-in-Indexed-clause-may t c = on_ok_weaker c.push_at-in-Indexed.result (λ e b. e b ∙ ap (λ z. may c.args.list.now.items b || z) (rw c.in-Indexed.is (sym (writes-Indexed _ _ _ _ _ _ b)))) c.push_at-in-Indexed.ensures.may

pub add_writes_in-returns-in-Indexed-clause-must : goal.add_writes_in-returns-in-Indexed-clause-must
add_writes_in-returns-in-Indexed-clause-must t c = on_ok_weaker c.push_at-in-Indexed.result (λ e b. e b ∙ ap (λ z. must c.args.list.now.items b || z) (rw c.in-Indexed.is (sym (assigns-Indexed _ _ _ _ _ _ b)))) c.push_at-in-Indexed.ensures.must

pub add_writes_in-returns-in-Concat-clause-may : goal.add_writes_in-returns-in-Concat-clause-may
add_writes_in-returns-in-Concat-clause-may t c = on_ok_weaker c.add_writes_of_all.result (λ e b. e b ∙ ap (λ z. may c.args.list.now.items b || z) (rw c.in-Concat.is (sym (writes-Concat _ _ b)))) c.add_writes_of_all.ensures.may

pub add_writes_in-returns-in-Concat-clause-must : goal.add_writes_in-returns-in-Concat-clause-must
add_writes_in-returns-in-Concat-clause-must t c = on_ok_weaker c.add_writes_of_all.result (λ e b. e b ∙ ap (λ z. must c.args.list.now.items b || z) (rw c.in-Concat.is (sym (assigns-Concat _ _ b)))) c.add_writes_of_all.ensures.must

pub add_writes_in-returns-in-Literal-clause-may : goal.add_writes_in-returns-in-Literal-clause-may
add_writes_in-returns-in-Literal-clause-may t c = λ b. rw c.in-Literal.is (may_nothing _ (may c.args.list.now.items b) _ b (parts-Literal _ _))

pub add_writes_in-returns-in-Literal-clause-must : goal.add_writes_in-returns-in-Literal-clause-must
add_writes_in-returns-in-Literal-clause-must t c = λ b. rw c.in-Literal.is (must_nothing _ (must c.args.list.now.items b) _ b (parts-Literal _ _))

pub add_writes_in-returns-in-Unary-clause-may : goal.add_writes_in-returns-in-Unary-clause-may
add_writes_in-returns-in-Unary-clause-may t c = λ b. rw c.in-Unary.is (may_nothing _ (may c.args.list.now.items b) _ b (parts-Unary _ _))

pub add_writes_in-returns-in-Unary-clause-must : goal.add_writes_in-returns-in-Unary-clause-must
add_writes_in-returns-in-Unary-clause-must t c = λ b. rw c.in-Unary.is (must_nothing _ (must c.args.list.now.items b) _ b (parts-Unary _ _))

pub add_writes_in-returns-in-Binary-clause-may : goal.add_writes_in-returns-in-Binary-clause-may
add_writes_in-returns-in-Binary-clause-may t c = λ b. rw c.in-Binary.is (may_nothing _ (may c.args.list.now.items b) _ b (parts-Binary _ _ _))

pub add_writes_in-returns-in-Binary-clause-must : goal.add_writes_in-returns-in-Binary-clause-must
add_writes_in-returns-in-Binary-clause-must t c = λ b. rw c.in-Binary.is (must_nothing _ (must c.args.list.now.items b) _ b (parts-Binary _ _ _))

pub add_writes_in-returns-in-Cond-clause-may : goal.add_writes_in-returns-in-Cond-clause-may
add_writes_in-returns-in-Cond-clause-may t c = λ b. rw c.in-Cond.is (may_nothing _ (may c.args.list.now.items b) _ b (parts-Cond _ _ _))

pub add_writes_in-returns-in-Cond-clause-must : goal.add_writes_in-returns-in-Cond-clause-must
add_writes_in-returns-in-Cond-clause-must t c = λ b. rw c.in-Cond.is (must_nothing _ (must c.args.list.now.items b) _ b (parts-Cond _ _ _))

pub add_writes_in-returns-in-Repeat-clause-may : goal.add_writes_in-returns-in-Repeat-clause-may
add_writes_in-returns-in-Repeat-clause-may t c = λ b. rw c.in-Repeat.is (may_nothing _ (may c.args.list.now.items b) _ b (parts-Repeat _ _))

pub add_writes_in-returns-in-Repeat-clause-must : goal.add_writes_in-returns-in-Repeat-clause-must
add_writes_in-returns-in-Repeat-clause-must t c = λ b. rw c.in-Repeat.is (must_nothing _ (must c.args.list.now.items b) _ b (parts-Repeat _ _))

pub add_writes_in-returns-in-Cast-clause-may : goal.add_writes_in-returns-in-Cast-clause-may
add_writes_in-returns-in-Cast-clause-may t c = λ b. rw c.in-Cast.is (may_nothing _ (may c.args.list.now.items b) _ b (parts-Cast _ _))

pub add_writes_in-returns-in-Cast-clause-must : goal.add_writes_in-returns-in-Cast-clause-must
add_writes_in-returns-in-Cast-clause-must t c = λ b. rw c.in-Cast.is (must_nothing _ (must c.args.list.now.items b) _ b (parts-Cast _ _))

pub add_writes_in-returns-in-Paren-clause-may : goal.add_writes_in-returns-in-Paren-clause-may
add_writes_in-returns-in-Paren-clause-may t c = λ b. rw c.in-Paren.is (may_nothing _ (may c.args.list.now.items b) _ b (parts-Paren _))

pub add_writes_in-returns-in-Paren-clause-must : goal.add_writes_in-returns-in-Paren-clause-must
add_writes_in-returns-in-Paren-clause-must t c = λ b. rw c.in-Paren.is (must_nothing _ (must c.args.list.now.items b) _ b (parts-Paren _))
