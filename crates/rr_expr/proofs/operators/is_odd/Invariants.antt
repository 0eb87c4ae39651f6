use Rattle.std.proofs.Common.{◌≡◌, take}
use Rattle.rr_expr.specs.Operators.{parity}
use Rattle.rr_expr.proofs.operators.is_odd.Given as goal

abbrev pub invariant-loop-place : goal.invariant-loop-place
invariant-loop-place l = l.odd ≡ parity (take l.place l.word)
