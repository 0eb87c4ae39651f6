use Rattle.std.proofs.Common.{◌≡◌, length, map, take}
use Rattle.rr_flat.specs.View.{plain_block, plain_flat}
use Rattle.rr_assign.specs.Races.{HoldsWriters, writer_table, writers_from}
use Rattle.rr_assign.proofs.races.writers_of.Given as goal

abbrev pub invariant-loop-number : goal.invariant-loop-number
invariant-loop-number l = record {
  size : length l.writers.items ≡ length l.flat.signals;
  held : HoldsWriters (writers_from (plain_flat l.flat) 0 (take l.number (map plain_block l.blocks))) (writer_table l.writers.items);
}
