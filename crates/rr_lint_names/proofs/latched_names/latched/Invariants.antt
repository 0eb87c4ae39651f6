use Rattle.rr_flat.specs.View.{plain_flat}
use Rattle.rr_latch.specs.Rooms.{IsBlank}
use Rattle.rr_lint_names.specs.Latched.{marks}
use Rattle.rr_lint_names.proofs.Latching.{NotedTo}
use Rattle.rr_lint_names.proofs.latched_names.latched.Given as goal

abbrev pub invariant-loop-block : goal.invariant-loop-block
invariant-loop-block l = NotedTo (plain_flat l.flat) l.block-index (marks l.noted) × IsBlank l.room
