use Rattle.std.proofs.Common.{◌≡◌, ◌++◌, map, drop}
use Rattle.std.specs.Prelude.{flat_map}
use Rattle.rr_syntax.specs.View.{plain, plain_identifier}
use Rattle.rr_flat.specs.Reads.{index_names}
use Rattle.rr_text_names.proofs.lists.+indices.Given as goal

abbrev pub invariant-add_index_names_of_all-loop-target : goal.invariant-add_index_names_of_all-loop-target
invariant-add_index_names_of_all-loop-target l =
    map plain_identifier l.list.items ++ flat_map (λ x. index_names (plain x)) (drop l.target-index l.targets)
    ≡ map plain_identifier l.fn.list.items ++ flat_map (λ x. index_names (plain x)) l.targets
