use Rattle.std.proofs.Common.{◌≡◌, ◌++◌, drop}
use Rattle.rr_choice.specs.View.{plain_sites}
use Rattle.rr_choice.specs.Codes.{code}
use Rattle.rr_choice_bits.proofs.writing.encode.Given as goal

abbrev pub invariant-loop-k : goal.invariant-loop-k
invariant-loop-k l = l.bits.items ++ code (plain_sites (drop l.k l.list)) (drop l.k l.picks) ≡ code (plain_sites l.list) l.picks
