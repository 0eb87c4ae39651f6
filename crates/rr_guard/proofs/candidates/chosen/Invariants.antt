use Rattle.std.proofs.Common.{◌≡◌, ◌++◌, map, drop}
use Rattle.std.specs.Prelude.{flat_map}
use Rattle.rr_syntax.specs.View.{plain_identifier}
use Rattle.rr_guard.specs.Candidates.{chosen as chosen_of}
use Rattle.rr_guard.proofs.candidates.chosen.Given as goal

abbrev pub invariant-loop-name : goal.invariant-loop-name
invariant-loop-name l =
    map plain_identifier l.list.items ++ flat_map (λ x. chosen_of l.uses l.clocked (plain_identifier x)) (drop l.name-index l.names) ≡ flat_map (λ x. chosen_of l.uses l.clocked (plain_identifier x)) l.names
