use Rattle.std.proofs.Common.{◌≡◌, ◌≤◌, ◌++◌, ◌-◌, length, drop}
use Rattle.rr_lex.specs.Patch.{run_end}
use Rattle.rr_patch.specs.Changes.{after_run, plain_changes, run_at}
use Rattle.rr_patch.proofs.editing.push_run.Given as goal

abbrev pub invariant-loop-i : goal.invariant-loop-i
invariant-loop-i l = record {
  within : l.i ≤ length l.changes;
  text : l.out.items ++ run_end (run_at l.place (plain_changes (drop l.i l.changes))) ≡ l.initial.out.items ++ run_end (run_at l.place (plain_changes l.changes));
  rest : after_run l.place (plain_changes (drop l.i l.changes)) ≡ after_run l.place (plain_changes l.changes);
}

abbrev pub decreases-loop-i : goal.decreases-loop-i
decreases-loop-i l = length l.changes - l.i
