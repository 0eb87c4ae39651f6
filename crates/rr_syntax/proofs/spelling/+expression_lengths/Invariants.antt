use Rattle.std.proofs.Common.{◌≡◌, take}
use Rattle.rr_syntax.proofs.Lengths.{more_len}
use Rattle.rr_syntax.proofs.spelling.+expression_lengths.Given as goal

abbrev pub invariant-parts_len-loop-part : goal.invariant-parts_len-loop-part
invariant-parts_len-loop-part l = l.total ≡ more_len (take l.part-index l.parts)
