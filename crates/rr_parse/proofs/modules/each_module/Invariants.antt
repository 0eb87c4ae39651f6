use Rattle.std.proofs.Common.{◌≤◌, ◌-◌, length}
use Rattle.rr_grammar.specs.ModuleForms.{one_module}
use Rattle.rr_parse.specs.Answer.{Answers}
use Rattle.rr_parse.specs.Chains.{Run}
use Rattle.rr_syntax.specs.View.{plain_module}
use Rattle.rr_parse.proofs.modules.each_module.Given as goal

abbrev pub invariant-loop-more : goal.invariant-loop-more
invariant-loop-more l = Run (λ at o. Answers (one_module 498 497) plain_module l.fn.input.tokens.now at o) 0 l.list.items l.next × (l.next ≤ length l.fn.input.tokens.now)

abbrev pub decreases-loop-more : goal.decreases-loop-more
decreases-loop-more l = length l.fn.input.tokens.now - l.next
