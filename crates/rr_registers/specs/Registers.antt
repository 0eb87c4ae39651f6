-- The bits that keep their values from one clock edge to the next: those that clocked blocks write (IEEE 1364-2005 sections
-- 9.2 and 9.9).
use Rattle.std.specs.Prelude.{ℕ, List, length, map, flat_map}
use Rattle.std.specs.List.{filter, range_with_len}
use Rattle.rr_expr.specs.declared.types.Bit.{Bit}
use Rattle.rr_flat.specs.Signals.{Signal, signal_at}
use Rattle.rr_flat.specs.Plain.{Flat}
use Rattle.rr_cycle.specs.Performing.{any_writes}

-- the bits of a signal, lowest first
abbrev pub bits_of_signal : List Signal → ℕ → List Bit
bits_of_signal signals id = map (λ (p : ℕ). record { signal = id; place = p }) (range_with_len 0 (signal_at signals id).width)

-- signal after signal, those of its bits that some clocked block writes
unfoldable pub registers_of : Flat → List Bit
registers_of flat = flat_map (λ (id : ℕ). filter (any_writes flat flat.clocked) (bits_of_signal flat.signals id)) (range_with_len 0 (length flat.signals))
