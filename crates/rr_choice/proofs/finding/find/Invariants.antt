use Rattle.std.proofs.Common.{◌≡◌, ◌≤◌, ◌-◌, min, length, drop}
use Rattle.rr_choice.specs.Places.{find_pick}
use Rattle.rr_choice.specs.View.{is_at, plain_sites}
use Rattle.rr_choice.proofs.finding.find.Given as goal

abbrev pub invariant-loop-i : goal.invariant-loop-i
invariant-loop-i l = record {
  count : l.end ≡ min (length l.list) (length l.picks);
  first : l.initial.i ≤ l.i;
  same : find_pick (is_at l.extent l.token) (plain_sites l.list) l.picks ≡ find_pick (is_at l.extent l.token) (plain_sites (drop l.i l.list)) (drop l.i l.picks);
}

abbrev pub decreases-loop-i : goal.decreases-loop-i
decreases-loop-i l = l.end - l.i
