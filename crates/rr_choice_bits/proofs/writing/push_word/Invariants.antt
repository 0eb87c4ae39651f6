use Rattle.std.proofs.Common.{◌≡◌, ◌++◌, take}
use Rattle.rr_bits.specs.Words.{word}
use Rattle.rr_choice_bits.proofs.writing.push_word.Given as goal

abbrev pub invariant-loop-place : goal.invariant-loop-place
invariant-loop-place l = l.bits.items ≡ l.fn.bits.items ++ take l.place (word l.width l.number)
