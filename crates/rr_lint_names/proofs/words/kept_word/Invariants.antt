use Rattle.std.proofs.Common.{map, nat_eq, take}
use Rattle.indexmap.specs.IndexMap.{get}
use Rattle.rr_text_names.specs.View.{plain_target}
use Rattle.rr_lint_names.specs.Latched.{HaveNoLowWord}
use Rattle.rr_lint_names.proofs.words.kept_word.Given as goal

abbrev pub invariant-loop-target : goal.invariant-loop-target
invariant-loop-target l = record { done : HaveNoLowWord l.names (get nat_eq l.lows) (map plain_target (take l.target-index l.targets)) }
