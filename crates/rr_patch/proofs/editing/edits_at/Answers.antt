use Rattle.rr_edit.specs.View.{plain_edits}
use Rattle.rr_patch.specs.Changes.{plain_changes}
use Rattle.rr_patch.proofs.Walked.{fewer, walked_next, walked_end}
use Rattle.rr_patch.proofs.editing.edits_at.Goals as goal

pub overflow_sub-from : goal.overflow_sub-from
overflow_sub-from c =
    fewer c.args.tokens.now c.args.changes.now c.loop-i.i c.loop-i.from (plain_edits c.loop-i.out.items) c.loop-i.invariant _ c.loop-i-test.true
    c.in_ok-left.left.now (plain_edits c.edit_token.new.out.items) c.in_ok-left.ensures.edits c.in_ok-left.ensures.left

pub loop-i-preserved : goal.loop-i-preserved
loop-i-preserved c =
    walked_next c.args.tokens.now c.args.changes.now c.loop-i.i c.loop-i.from (plain_edits c.loop-i.out.items) c.loop-i.invariant _ c.loop-i-test.true
    c.in_ok-left.left.now (plain_edits c.edit_token.new.out.items) c.in_ok-left.ensures.edits c.in_ok-left.ensures.left

pub returns : goal.returns
returns c = walked_end c.args.tokens.now (plain_changes c.args.changes.now) c.loop-i.i c.loop-i.from (plain_edits c.loop-i.out.items) c.loop-i.invariant c.loop-i-test.false
