use Rattle.std.proofs.Common.{◌≡◌, ◌++◌, map, drop}
use Rattle.std.specs.Prelude.{flat_map}
use Rattle.rr_syntax.specs.View.{plain, plain_identifier}
use Rattle.rr_flat.specs.Reads.{names_in}
use Rattle.rr_text_names.proofs.lists.+names.Given as goal

abbrev pub invariant-add_names_of_all-loop-expr : goal.invariant-add_names_of_all-loop-expr
invariant-add_names_of_all-loop-expr l =
    map plain_identifier l.list.items ++ flat_map (λ x. names_in (plain x)) (drop l.expr-index l.exprs)
    ≡ map plain_identifier l.fn.list.items ++ flat_map (λ x. names_in (plain x)) l.exprs
