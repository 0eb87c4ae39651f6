use Rattle.std.proofs.Common.{sym, ◌∙◌}
use Rattle.rr_edit.specs.View.{plain_edits}
use Rattle.rr_lex.specs.Tokens.{lexeme}
use Rattle.rr_patch.proofs.Changed.{pushed, over_first, over_other, after_other, fit_rest}
use Rattle.rr_patch.proofs.editing.replace.Goals as goal

pub returns-in_ok-push-in-Some-clause-edits : goal.returns-in_ok-push-in-Some-clause-edits
returns-in_ok-push-in-Some-clause-edits c =
    pushed c.args.out.now.items c.push.new.self.items _ c.in_ok-push-in-Some.ensures.items
    ∙ over_first c.args.place c.in-Some.first.now c.in-Some.rest.now c.args.changes.now c.in-Some.ensures.cases.0 (plain_edits c.args.out.now.items) (lexeme c.args.token.now) c.in_ok-text-in-Some.text.items
    (sym c.if-is_over_at.ensures) c.in_ok-text-in-Some.ensures

pub returns-in_ok-push-in-Some-clause-fit : goal.returns-in_ok-push-in-Some-clause-fit
returns-in_ok-push-in-Some-clause-fit c = fit_rest c.args.place c.in-Some.first.now c.in-Some.rest.now c.args.changes.now c.in-Some.ensures.cases.0 c.requires.fit

pub returns-else-is_over_at-clause-edits : goal.returns-else-is_over_at-clause-edits
returns-else-is_over_at-clause-edits c =
    over_other c.args.place c.in-Some.first.now c.in-Some.rest.now c.args.changes.now c.in-Some.ensures.cases.0 (plain_edits c.args.out.now.items) (lexeme c.args.token.now) (sym c.if-is_over_at.ensures)

pub returns-else-is_over_at-clause-left : goal.returns-else-is_over_at-clause-left
returns-else-is_over_at-clause-left c =
    after_other c.args.place c.in-Some.first.now c.in-Some.rest.now c.args.changes.now c.in-Some.ensures.cases.0 (sym c.if-is_over_at.ensures)
