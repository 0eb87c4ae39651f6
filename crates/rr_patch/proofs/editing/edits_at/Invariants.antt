use Rattle.rr_edit.specs.View.{plain_edits}
use Rattle.rr_lex.specs.Tokens.{lexemes}
use Rattle.rr_patch.specs.Changes.{plain_changes}
use Rattle.rr_patch.proofs.Walked.{Walked}
use Rattle.rr_patch.proofs.editing.edits_at.Given as goal

abbrev pub invariant-loop-i : goal.invariant-loop-i
invariant-loop-i l = Walked (lexemes l.tokens) (plain_changes l.changes) l.i l.from (plain_edits l.out.items)
