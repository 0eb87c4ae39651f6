use Rattle.std.proofs.Common.{map, take, nat_eq}
use Rattle.indexmap.specs.IndexMap.{get}
use Rattle.rr_syntax.specs.View.{plain_item}
use Rattle.rr_kept.proofs.BodyTable.{Adds}
use Rattle.rr_kept.proofs.bodies.items.Given as goal

abbrev pub invariant-loop-one : goal.invariant-loop-one
invariant-loop-one l = record { done : Adds (get nat_eq l.initial.bodies) (get nat_eq l.bodies) (map plain_item (take l.one-index l.entries)) }
