-- What the blocks and the drivers of a flat design do to the values of a machine.
use Rattle.std.specs.Prelude.{ℕ, List, Bool, map, max}
use Rattle.rr_flat.specs.declared.signal.Signal.{Signal}
use Rattle.rr_flat.specs.Plain.{Driver, Block, Flat}
use Rattle.rr_cycle.specs.Cycles.{side_shape, side_value}
use Rattle.rr_cycle.specs.Exec.{Environment, applied}
use Rattle.rr_cycle.specs.Performing.{run_blocks, updates_of_blocks}
use Rattle.rr_blast_stmt.specs.Running.{Values}

-- the blocks one after the other, and their updates
unfoldable pub ran_blocks : Flat → List Block → Values → Values
ran_blocks flat blocks v = record { now = run_blocks flat blocks v.now; later = applied (updates_of_blocks flat blocks v.now) v.later }

-- the numbers of bits of the signals
abbrev pub signal_widths : List Signal → List ℕ
signal_widths signals = map (λ (s : Signal). s.width) signals

-- the right side of a driver, as that of an assignment
abbrev pub driver_value_of : Flat → Driver → Environment → List Bool
driver_value_of flat d env = side_value flat d.value env (max (side_shape flat d.target).width (side_shape flat d.value).width) (side_shape flat d.value).signed
