use Rattle.std.proofs.Common.{map}
use Rattle.rr_syntax.specs.View.{plain_identifier}
use Rattle.rr_guard.specs.Candidates.{Rising}
use Rattle.rr_guard.proofs.Rising.{From}
use Rattle.rr_guard.proofs.candidates.is_rising.Given as goal

abbrev pub invariant-loop-name : goal.invariant-loop-name
invariant-loop-name l = From l.last l.names l.name-index → Rising 0 (map plain_identifier l.names)
