use Rattle.std.proofs.Common.{◌≡◌, take}
use Rattle.rr_syntax.proofs.Lengths.{more_len}
use Rattle.rr_lint.proofs.lengths.commas_len.Given as goal

abbrev pub invariant-loop-part : goal.invariant-loop-part
invariant-loop-part l = record { done : l.total ≡ more_len (take l.part-index l.parts) }
