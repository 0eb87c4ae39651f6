use Rattle.std.proofs.Common.{◌≡◌, map}
use Rattle.rr_unroll.specs.Fixed.{made}
use Rattle.rr_unroll.proofs.copies.all_made.Given as goal

abbrev pub invariant-loop-part : goal.invariant-loop-part
invariant-loop-part l = map made l.parts.items ≡ l.yielded
