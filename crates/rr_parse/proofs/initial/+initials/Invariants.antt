use Rattle.std.proofs.Common.{◌≡◌, take, true}
use Rattle.rr_syntax.specs.Statements.{are_initial}
use Rattle.rr_syntax.specs.View.{plain_statements}
use Rattle.rr_parse.proofs.initial.+initials.Given as goal

abbrev pub invariant-are_initial-loop-stmt : goal.invariant-are_initial-loop-stmt
invariant-are_initial-loop-stmt l = are_initial (plain_statements (take l.stmt-index l.body)) ≡ true
