use Rattle.std.proofs.Common.{◌≡◌, ◌++◌, ◌∷◌, [], if◌then◌else◌, drop}
use Rattle.std.specs.Prelude.{flat_map}
use Rattle.rr_syntax.specs.View.{plain_statement, texts}
use Rattle.rr_choice.specs.View.{plain_sites}
use Rattle.rr_overwrite.specs.Overwrites.{overwrite_of}
use Rattle.rr_overwrite.specs.Variables.{may_be, plain_whole}
use Rattle.rr_overwrite.proofs.overwrites.add_overwrites_of.Given as goal

abbrev pub invariant-loop-target : goal.invariant-loop-target
invariant-loop-target l =
    plain_sites l.list.items ++ flat_map (λ x. if may_be l.variables (plain_whole x) then overwrite_of l.«module» l.scope (texts l.names) (plain_statement l.body) (plain_whole x) ∷ [] else []) (drop l.target-index l.targets)
    ≡ plain_sites l.fn.list.items ++ flat_map (λ x. if may_be l.variables (plain_whole x) then overwrite_of l.«module» l.scope (texts l.names) (plain_statement l.body) (plain_whole x) ∷ [] else []) l.targets
