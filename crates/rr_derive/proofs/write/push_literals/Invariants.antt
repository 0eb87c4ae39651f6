use Rattle.std.proofs.Common.{◌≡◌, ◌++◌, take}
use Rattle.std.specs.List.{flat_map}
use Rattle.rr_cnf.specs.Dimacs.{literal_text}
use Rattle.rr_derive.proofs.write.push_literals.Given as goal

abbrev pub invariant-loop-lit : goal.invariant-loop-lit
invariant-loop-lit l = l.text.items ≡ l.fn.text.items ++ flat_map literal_text (take l.lit-index l.clause)
