use Rattle.std.proofs.Common.{◌≤◌, length, map, take}
use Rattle.rr_flat.specs.View.{plain_flat}
use Rattle.rr_text_names.specs.Names.{entry}
use Rattle.rr_assign.specs.Kinds.{HoldsKinds}
use Rattle.rr_assign.specs.View.{plain_aim}
use Rattle.rr_assign.proofs.kinds.first_clash.Given as goal

abbrev pub invariant-loop-assignment : goal.invariant-loop-assignment
invariant-loop-assignment l = record {
  size : length l.flat.signals ≤ length l.kinds.items;
  held : HoldsKinds (map (plain_aim (plain_flat l.flat)) (take l.assignment-index l.list)) (entry l.kinds.items);
}
