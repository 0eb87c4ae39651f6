use Rattle.std.proofs.Common.{sym, ◌∙◌}
use Rattle.rr_edit.specs.View.{plain_edits}
use Rattle.rr_lex.specs.Tokens.{lexeme}
use Rattle.rr_patch.proofs.Changed.{pushed, run_first, run_other, left_other}
use Rattle.rr_patch.proofs.editing.put_behind.Goals as goal

pub returns-in_ok-push-in-Some-clause-edits : goal.returns-in_ok-push-in-Some-clause-edits
returns-in_ok-push-in-Some-clause-edits c =
    pushed c.args.out.now.items c.push.new.self.items _ c.in_ok-push-in-Some.ensures.items
    ∙ run_first c.args.place c.in-Some.first.now c.in-Some._rest.now c.args.changes.now c.in-Some.ensures.cases.0 (plain_edits c.args.out.now.items) (lexeme c.args.token.now) c.new-text.result.items c.push_run.new.out.items
    (sym c.if-is_before_at.ensures) c.new-text.ensures.items c.in_ok-left-in-Some.ensures.text

pub returns-else-is_before_at-clause-edits : goal.returns-else-is_before_at-clause-edits
returns-else-is_before_at-clause-edits c =
    run_other c.args.place c.in-Some.first.now c.in-Some._rest.now c.args.changes.now c.in-Some.ensures.cases.0 (plain_edits c.args.out.now.items) (lexeme c.args.token.now) (sym c.if-is_before_at.ensures)

pub returns-else-is_before_at-clause-left : goal.returns-else-is_before_at-clause-left
returns-else-is_before_at-clause-left c =
    left_other c.args.place c.in-Some.first.now c.in-Some._rest.now c.args.changes.now c.in-Some.ensures.cases.0 (sym c.if-is_before_at.ensures)
