use Rattle.std.proofs.Common.{◌≤◌, ◌-◌, length}
use Rattle.rr_grammar.specs.ItemForms.{item}
use Rattle.rr_parse.specs.Answer.{Answers}
use Rattle.rr_parse.specs.Chains.{Run}
use Rattle.rr_syntax.specs.View.{plain_item}
use Rattle.rr_parse.proofs.items.each_item.Given as goal

abbrev pub invariant-loop-more : goal.invariant-loop-more
invariant-loop-more l = Run (λ at o. Answers (item l.fn.depth) plain_item l.fn.input.tokens.now at o) l.fn.from l.list.items l.next × (l.next ≤ length l.fn.input.tokens.now)

abbrev pub decreases-loop-more : goal.decreases-loop-more
decreases-loop-more l = length l.fn.input.tokens.now - l.next
