use Rattle.std.proofs.Common.{◌≡◌, drop, fold}
use Rattle.rr_syntax.specs.View.{plain_statements}
use Rattle.rr_flat.specs.Faults.{earlier}
use Rattle.rr_starts.specs.Starts.{all_initial_faults}
use Rattle.rr_starts.proofs.initials.+notes.Given as goal

abbrev pub invariant-note_initials-loop-stmt : goal.invariant-note_initials-loop-stmt
invariant-note_initials-loop-stmt l = fold earlier l.found (all_initial_faults l.names (plain_statements (drop l.stmt-index l.body))) ≡ fold earlier l.fn.found (all_initial_faults l.names (plain_statements l.body))
