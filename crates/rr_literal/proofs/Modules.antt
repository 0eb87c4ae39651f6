-- The sites of a module of the arena, item by item.
use Rattle.std.proofs.Common.{◌≡◌, map, refl}
use Rattle.std.specs.Prelude.{flat_map}
use Rattle.rr_syntax.specs.declared.tree.Module.{Module}
use Rattle.rr_syntax.specs.View.{plain_item, plain_module}
use Rattle.rr_change_places.specs.Spots.{spots_of_item}
use Rattle.rr_literal.specs.Literals.{literal_at, literal_sites}

pub module_literals : (m : Module) → literal_sites (plain_module m) ≡ flat_map (λ x. flat_map literal_at (spots_of_item x)) (map plain_item m.items.now)
unfolding plain_module literal_sites
module_literals m = refl
