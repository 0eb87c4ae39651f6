use Rattle.rr_syntax.specs.View.{texts}
use Rattle.rr_lint_names.specs.Latched.{marks}
use Rattle.rr_lint_names.proofs.Once.{Seen}
use Rattle.rr_lint_names.proofs.cleared.cleared_names.Given as goal

abbrev pub invariant-loop-target : goal.invariant-loop-target
invariant-loop-target l = Seen (marks l.noted l.token) l.target-items l.target-index l.seen (texts l.names.items)
