use Rattle.std.proofs.Common.{◌≡◌, ◌++◌, take}
use Rattle.std.specs.List.{flat_map}
use Rattle.rr_cnf.specs.Dimacs.{clause_text, header}
use Rattle.rr_cnf.proofs.dimacs.write_dimacs.Given as goal

abbrev pub invariant-loop-clause : goal.invariant-loop-clause
invariant-loop-clause l = l.text.items ≡ header l.formula ++ flat_map clause_text (take l.clause-index l.clause-items)
