use Rattle.std.proofs.Common.{◌≡◌, ◌+◌, ◌-◌, ◌≤◌, ◌++◌, List, take, drop}
use Rattle.rr_directive.specs.Expand.{Event}
use Rattle.rr_directive.specs.View.{Shows, exact_from}
use Rattle.rr_directive.proofs.output.Output.give_own.Given as goal

abbrev pub invariant-loop-at : goal.invariant-loop-at
invariant-loop-at l = record {
  after : l.from ≤ l.at;
  shows : (events : List Event) → Shows l.initial.self events → Shows l.self (events ++ exact_from l.exact l.from (take (l.at - l.from) (drop l.from l.file)));
  left : l.self.left + (l.at - l.from) ≡ l.initial.self.left;
}
