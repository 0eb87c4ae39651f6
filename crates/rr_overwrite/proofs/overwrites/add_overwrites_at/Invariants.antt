use Rattle.std.proofs.Common.{◌≡◌, ◌++◌, map, drop}
use Rattle.std.specs.Prelude.{flat_map}
use Rattle.rr_syntax.specs.Tree.{ModuleDeclaration}
use Rattle.rr_syntax.specs.View.{plain_identifier}
use Rattle.rr_choice.specs.View.{plain_sites}
use Rattle.rr_change_places.specs.View.{plain_spot}
use Rattle.rr_guard.specs.Names.{first_names}
use Rattle.rr_overwrite.specs.Overwrites.{overwrites_of}
use Rattle.rr_overwrite.specs.Variables.{AreVariables}
use Rattle.rr_overwrite.proofs.overwrites.add_overwrites_at.Given as goal

abbrev pub invariant-loop-spot : goal.invariant-loop-spot
invariant-loop-spot l =
    (m : ModuleDeclaration) → AreVariables m l.variables →
    plain_sites l.list.items ++ flat_map (λ x. overwrites_of m l.«module» l.scope (first_names (map plain_identifier l.names)) (plain_spot x)) (drop l.spot-index l.spots)
    ≡ plain_sites l.fn.list.items ++ flat_map (λ x. overwrites_of m l.«module» l.scope (first_names (map plain_identifier l.names)) (plain_spot x)) l.spots
