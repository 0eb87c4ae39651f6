use Rattle.std.proofs.Common.{◌≡◌, ◌++◌, codes, take}
use Rattle.std.specs.List.{flat_map}
use Rattle.rr_derive.specs.Lrat.{step_line}
use Rattle.rr_derive.proofs.write.write_lrat.Given as goal

abbrev pub invariant-loop-line : goal.invariant-loop-line
invariant-loop-line l = l.text.items ≡ flat_map (λ s. step_line s ++ codes "\n") (take l.line-index l.line-items)
