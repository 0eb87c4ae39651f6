use Rattle.std.proofs.Common.{take, nat_eq}
use Rattle.indexmap.specs.IndexMap.{get}
use Rattle.rr_kept.proofs.BodyTable.{Adds, items_of}
use Rattle.rr_kept.proofs.bodies.modules.Given as goal

abbrev pub invariant-loop-one : goal.invariant-loop-one
invariant-loop-one l = record { done : Adds (get nat_eq l.initial.bodies) (get nat_eq l.bodies) (items_of (take l.one-index l.entries)) }
