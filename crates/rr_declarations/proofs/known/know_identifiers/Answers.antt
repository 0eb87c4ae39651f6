use Rattle.std.proofs.Common.{◌∙◌, ap, map, drop, fold, ◌+◌}
use Rattle.rr_syntax.specs.View.{plain_identifier}
use Rattle.rr_declarations.specs.Declarations.{know_identifier}
use Rattle.rr_declarations.proofs.Steps.{fold_more}
use Rattle.rr_declarations.proofs.known.know_identifiers.Goals as goal

pub loop-named-preserved : goal.loop-named-preserved
unfolding plain_identifier
loop-named-preserved c = ap (λ s. fold know_identifier s (map plain_identifier (drop (c.loop-named.named-index + 1) c.args.list.now))) c.in_ok-know.ensures ∙ (fold_more plain_identifier know_identifier c.args.list.now c.loop-named.named-index _ c.loop-named.names c.loop-named-test.true ∙ c.loop-named.invariant)
