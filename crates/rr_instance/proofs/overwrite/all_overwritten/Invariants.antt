use Rattle.std.proofs.Common.{◌≡◌, ◌≤◌, ◌-◌, min, length, drop}
use Rattle.rr_syntax.specs.View.{plain_statement}
use Rattle.rr_instance.specs.Instances.{all_overwritten}
use Rattle.rr_choice.specs.View.{plain_sites}
use Rattle.rr_instance.proofs.overwrite.all_overwritten.Given as goal

abbrev pub invariant-loop-i : goal.invariant-loop-i
invariant-loop-i l = record {
  count : l.end ≡ min (length l.list) (length l.picks);
  first : l.initial.i ≤ l.i;
  same : all_overwritten l.token (plain_sites l.list) l.picks (plain_statement l.body) ≡ all_overwritten l.token (plain_sites (drop l.i l.list)) (drop l.i l.picks) (plain_statement l.whole);
}

abbrev pub decreases-loop-i : goal.decreases-loop-i
decreases-loop-i l = l.end - l.i
