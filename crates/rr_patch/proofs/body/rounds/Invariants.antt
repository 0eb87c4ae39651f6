use Rattle.std.proofs.Common.{◌≡◌, ◌≤◌, ◌-◌, ◌++◌, min, length}
use Rattle.rr_respell.specs.Pieces.{puts}
use Rattle.rr_choice.specs.View.{plain_sites}
use Rattle.rr_patch.specs.Changes.{changes, plain_changes}
use Rattle.rr_patch.specs.Walks.{rounds}
use Rattle.rr_patch.proofs.Bodies.{left_from}
use Rattle.rr_patch.proofs.body.rounds.Given as goal

abbrev pub invariant-loop-i : goal.invariant-loop-i
invariant-loop-i l = record {
  count : l.end ≡ min (length l.sites) (length l.picks);
  first : l.initial.i ≤ l.i;
  done : plain_changes l.out.items ++ left_from l.side l.token l.place l.sites l.picks l.i ≡ plain_changes l.initial.out.items ++ changes l.place (puts (rounds l.side l.token (plain_sites l.sites) l.picks));
}

abbrev pub decreases-loop-i : goal.decreases-loop-i
decreases-loop-i l = l.end - l.i
