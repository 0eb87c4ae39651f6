use Rattle.std.proofs.Common.{◌≡◌, ◌++◌, map, take}
use Rattle.std.specs.List.{flat_map}
use Rattle.rr_cnf.specs.Dimacs.{literal_text}
use Rattle.rr_derive.specs.Lrat.{positive}
use Rattle.rr_derive.proofs.write.push_hints.Given as goal

abbrev pub invariant-loop-hint : goal.invariant-loop-hint
invariant-loop-hint l = l.text.items ≡ l.fn.text.items ++ flat_map literal_text (map positive (take l.hint-index l.hints))
