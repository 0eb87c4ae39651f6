use Rattle.std.proofs.Common.{map}
use Rattle.rr_flat.specs.Signals.{Signal}
use Rattle.rr_flat.specs.View.{plain_signal}
use Rattle.rr_repair.proofs.Counting.{Counted}
use Rattle.rr_repair.proofs.working.count_signals.Given as goal

abbrev pub invariant-loop-i : goal.invariant-loop-i
invariant-loop-i l = Counted (map (λ (s : Signal). s.width) (map plain_signal l.fn.signals)) l.bits l.i
