-- what is asked of a search stands, where its transition stands for a design with its sites
use Rattle.std.proofs.Common.{◌≤◌}
use Rattle.rr_transition.specs.Cycles.{Cycle, Design}
use Rattle.rr_search.specs.Answers.{IsTask, Task}

pub task_stands : (t : Task) (j : Design) → Cycle j t.sites t.transition → 1 ≤ t.members → t.members ≤ 8 → 1 ≤ t.budget → IsTask t
task_stands t j y some most budget = record { bits = y.choice_bits; switches = y.switches; some = some; most = most; budget = budget }
