use Rattle.std.proofs.Common.{◌≡◌, List, map, take, if◌then◌else◌}
use Rattle.std.specs.Prelude.{All}
use Rattle.rr_vcd_text.specs.Dump.{Told}
use Rattle.rr_vcd.specs.View.{plain_probe, cells_by, AreSlots, IsWatched}
use Rattle.rr_vcd.proofs.sampler.values.Given as goal

abbrev pub invariant-loop-probe : goal.invariant-loop-probe
invariant-loop-probe l = (past told : List Told) → AreSlots past told l.moment l.slots → All (λ x. IsWatched l.slots (plain_probe x)) l.probes
    → l.values.items ≡ map (λ c. c.value) (cells_by (map plain_probe (take l.probe-index l.probes)) (if l.before then past else told))
