use Rattle.std.proofs.Common.{◌≡◌, ◌++◌, drop}
use Rattle.std.specs.Prelude.{flat_map}
use Rattle.rr_syntax.specs.View.{plain}
use Rattle.rr_change_places.specs.Spots.{spots}
use Rattle.rr_change_places.specs.View.{plain_spots}
use Rattle.rr_change_places.proofs.walk.+trees.Given as goal

abbrev pub invariant-add_spots_of_parts-loop-expr : goal.invariant-add_spots_of_parts-loop-expr
invariant-add_spots_of_parts-loop-expr l =
    plain_spots l.list.items ++ flat_map (λ x. spots (plain x)) (drop l.expr-index l.exprs) ≡ plain_spots l.fn.list.items ++ flat_map (λ x. spots (plain x)) l.exprs
