use Rattle.std.proofs.Common.{rules}
use Rattle.std.proofs.lemmas.Result.{on_ok_weaker}
use Rattle.rr_syntax.specs.declared.tree.Expr.{the_lemmas}
use Rattle.rr_named_bits.proofs.Naming.{reads-Bit, reads-Indexed, reads-Concat, reads-Name, reads-Part, reads-Literal, reads-Unary, reads-Binary, reads-Cond, reads-Repeat, reads-Cast, reads-Paren, reads_start, reads_here, reads_more, reads_done}
use Rattle.rr_named_bits.proofs.Nodes.{shaped-Bit, shaped-Indexed, shaped-Concat}
use Rattle.rr_named_bits.proofs.reads.+indices.Goals as goal

pub add_targets_reads-loop-target-init : goal.add_targets_reads-loop-target-init
add_targets_reads-loop-target-init t c = reads_start c.args.scope.now c.args.targets.now c.args.list.now.items c.requires

pub add_targets_reads-add_target_reads-requires : goal.add_targets_reads-add_target_reads-requires
add_targets_reads-add_target_reads-requires t c = (search (rules, the_lemmas), reads_here c.args.scope.now c.args.targets.now c.loop-target.target-index c.target-item.result c.args.list.now.items c.loop-target.list.items c.loop-target-test.true c.target-item.is c.loop-target.invariant)

pub add_targets_reads-loop-target-preserved : goal.add_targets_reads-loop-target-preserved
add_targets_reads-loop-target-preserved t c = reads_more c.args.scope.now c.args.targets.now c.loop-target.target-index c.target-item.result c.args.list.now.items c.loop-target.list.items _ c.loop-target-test.true c.target-item.is c.loop-target.invariant c.in_ok-add_target_reads.ensures

pub add_targets_reads-returns : goal.add_targets_reads-returns
add_targets_reads-returns t c = reads_done c.args.scope.now c.args.targets.now c.loop-target.target-index c.args.list.now.items c.loop-target.list.items c.loop-target-test.false c.loop-target.invariant

pub add_target_reads-add_named_bits-requires : goal.add_target_reads-add_named_bits-requires
add_target_reads-add_named_bits-requires t c = (shaped-Bit _ _ _ _ (rw c.in-Bit.is at c.requires)).1

pub add_target_reads-add_named_bits-requires-in-Indexed : goal.add_target_reads-add_named_bits-requires-in-Indexed
add_target_reads-add_named_bits-requires-in-Indexed t c = (shaped-Indexed _ _ _ _ _ _ (rw c.in-Indexed.is at c.requires)).1

pub add_target_reads-add_targets_reads-requires : goal.add_target_reads-add_targets_reads-requires
add_target_reads-add_targets_reads-requires t c = (search (rules, the_lemmas), shaped-Concat _ _ (rw c.in-Concat.is at c.requires))

pub add_target_reads-returns-in-Bit : goal.add_target_reads-returns-in-Bit
add_target_reads-returns-in-Bit t c = on_ok_weaker c.add_named_bits.result (λ g. rw c.in-Bit.is (reads-Bit _ _ _ _ _ _ g)) c.add_named_bits.ensures

pub add_target_reads-returns-in-Indexed : goal.add_target_reads-returns-in-Indexed
add_target_reads-returns-in-Indexed t c = on_ok_weaker c.add_named_bits-in-Indexed.result (λ g. rw c.in-Indexed.is (reads-Indexed _ _ _ _ _ _ _ _ g)) c.add_named_bits-in-Indexed.ensures

pub add_target_reads-returns-in-Concat : goal.add_target_reads-returns-in-Concat
add_target_reads-returns-in-Concat t c = on_ok_weaker c.add_targets_reads.result (λ g. rw c.in-Concat.is (reads-Concat _ _ _ _ g)) c.add_targets_reads.ensures

pub add_target_reads-returns-in-Name : goal.add_target_reads-returns-in-Name
add_target_reads-returns-in-Name t c = rw c.in-Name.is (reads-Name _ _ _ _)

pub add_target_reads-returns-in-Part : goal.add_target_reads-returns-in-Part
add_target_reads-returns-in-Part t c = rw c.in-Part.is (reads-Part _ _ _ _ _ _)

pub add_target_reads-returns-in-Literal : goal.add_target_reads-returns-in-Literal
add_target_reads-returns-in-Literal t c = rw c.in-Literal.is (reads-Literal _ _ _ _)

pub add_target_reads-returns-in-Unary : goal.add_target_reads-returns-in-Unary
add_target_reads-returns-in-Unary t c = rw c.in-Unary.is (reads-Unary _ _ _ _)

pub add_target_reads-returns-in-Binary : goal.add_target_reads-returns-in-Binary
add_target_reads-returns-in-Binary t c = rw c.in-Binary.is (reads-Binary _ _ _ _ _)

pub add_target_reads-returns-in-Cond : goal.add_target_reads-returns-in-Cond
add_target_reads-returns-in-Cond t c = rw c.in-Cond.is (reads-Cond _ _ _ _ _)

pub add_target_reads-returns-in-Repeat : goal.add_target_reads-returns-in-Repeat
add_target_reads-returns-in-Repeat t c = rw c.in-Repeat.is (reads-Repeat _ _ _ _)

pub add_target_reads-returns-in-Cast : goal.add_target_reads-returns-in-Cast
add_target_reads-returns-in-Cast t c = rw c.in-Cast.is (reads-Cast _ _ _ _)

pub add_target_reads-returns-in-Paren : goal.add_target_reads-returns-in-Paren
add_target_reads-returns-in-Paren t c = rw c.in-Paren.is (reads-Paren _ _ _)
