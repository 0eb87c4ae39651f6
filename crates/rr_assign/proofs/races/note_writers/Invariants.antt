use Rattle.std.proofs.Common.{◌≡◌, ◌++◌, ℕ, List, Option, length, map, take}
use Rattle.rr_flat.specs.View.{plain_flat}
use Rattle.rr_text_names.specs.View.{plain_target}
use Rattle.rr_assign.specs.Races.{HoldsWriters, writer_of, writer_table}
use Rattle.rr_assign.proofs.races.note_writers.Given as goal

abbrev pub invariant-loop-target : goal.invariant-loop-target
invariant-loop-target l = record {
  size : length l.writers.items ≡ length l.fn.writers.items;
  held : (ws : List (ℕ × Option ℕ)) → HoldsWriters ws (writer_table l.fn.writers.items)
      → HoldsWriters (ws ++ map (λ t. writer_of (plain_flat l.flat) l.scope l.block (plain_target t)) (take l.target-index l.targets)) (writer_table l.writers.items);
}
