use Rattle.std.proofs.Common.{◌≡◌, ◌++◌, drop}
use Rattle.std.specs.Prelude.{flat_map}
use Rattle.rr_syntax.specs.View.{plain_item}
use Rattle.rr_choice.specs.View.{plain_sites}
use Rattle.rr_change_places.specs.Spots.{spots_of_item}
use Rattle.rr_literal.specs.Literals.{literal_at}
use Rattle.rr_literal.proofs.literals.sites.Given as goal

abbrev pub invariant-loop-item : goal.invariant-loop-item
invariant-loop-item l =
    plain_sites l.list.items ++ flat_map (λ x. flat_map literal_at (spots_of_item (plain_item x))) (drop l.item-index l.module.items.now)
    ≡ flat_map (λ x. flat_map literal_at (spots_of_item (plain_item x))) l.module.items.now
