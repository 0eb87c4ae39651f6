use Rattle.std.proofs.Common.{nat_eq}
use Rattle.indexmap.specs.IndexMap.{get}
use Rattle.rr_lint_names.proofs.KeptWords.{NoneTo}
use Rattle.rr_lint_names.proofs.words.low_from.Given as goal

abbrev pub invariant-loop-word : goal.invariant-loop-word
invariant-loop-word l = record { done : NoneTo (get nat_eq l.lows) l.first l.width l.word }
