use Rattle.std.proofs.Common.{◌≡◌, ◌++◌, map, drop}
use Rattle.std.specs.Prelude.{flat_map}
use Rattle.rr_syntax.specs.View.{plain_identifier, plain_statement}
use Rattle.rr_flat.specs.Reads.{names_of}
use Rattle.rr_text_names.proofs.NamesOfNodes.{arm_names}
use Rattle.rr_text_names.proofs.lists.+named.Given as goal

abbrev pub invariant-add_named_in_all-loop-stmt : goal.invariant-add_named_in_all-loop-stmt
invariant-add_named_in_all-loop-stmt l =
    map plain_identifier l.list.items ++ flat_map (λ x. names_of (plain_statement x)) (drop l.stmt-index l.body)
    ≡ map plain_identifier l.fn.list.items ++ flat_map (λ x. names_of (plain_statement x)) l.body

abbrev pub invariant-add_named_in_arms-loop-arm : goal.invariant-add_named_in_arms-loop-arm
invariant-add_named_in_arms-loop-arm l =
    map plain_identifier l.list.items ++ flat_map arm_names (drop l.arm-index l.arms) ≡ map plain_identifier l.fn.list.items ++ flat_map arm_names l.arms
