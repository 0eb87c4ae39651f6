use Rattle.std.proofs.Common.{◌≡◌, drop}
use Rattle.std.specs.Prelude.{flat_map}
use Rattle.rr_syntax.specs.View.{plain}
use Rattle.rr_flat.specs.Reads.{literals_in}
use Rattle.rr_text_names.specs.Firsts.{earliest}
use Rattle.rr_assign.specs.Labels.{wild}
use Rattle.rr_assign.proofs.labels.+literals.Given as goal

abbrev pub invariant-first_wild_of_all-loop-expr : goal.invariant-first_wild_of_all-loop-expr
invariant-first_wild_of_all-loop-expr l =
    earliest (flat_map (λ x. wild (literals_in (plain x))) (drop l.expr-index l.list)) ≡ earliest (flat_map (λ x. wild (literals_in (plain x))) l.list)
