use Rattle.std.proofs.Common.{◌≡◌, length, map, drop, []}
use Rattle.rr_syntax.specs.View.{plain_module}
use Rattle.rr_flat.specs.Faults.{each}
use Rattle.rr_declarations.specs.Sound.{ArePlaces}
use Rattle.rr_flatten.specs.Tables.{add_module}
use Rattle.rr_flatten.proofs.tables.module_table.Given as goal

abbrev pub invariant-loop-own : goal.invariant-loop-own
invariant-loop-own l = record {
  walked : each add_module (map plain_module (drop l.own-index l.modules)) l.table ≡ each add_module (map plain_module l.modules) [];
  place : l.place ≡ l.own-index;
  grown : length l.table ≡ l.own-index;
  places : ArePlaces l.own-index l.table;
}
