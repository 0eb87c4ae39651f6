use Rattle.std.proofs.Common.{◌≡◌, ◌+◌, ◌-◌, ◌≤◌, ◌++◌, length, map, take, vec_len, vec_capacity}
use Rattle.rr_flat.proofs.design.add_starts.Given as goal

abbrev pub invariant-loop-signal : goal.invariant-loop-signal
invariant-loop-signal l =
    (l.starts.items ≡ l.fn.starts.items ++ map (λ s. s.start) (take l.signal-index l.signals))
    × (vec_len l.starts + (length l.signals - l.signal-index) ≤ vec_capacity l.starts)
