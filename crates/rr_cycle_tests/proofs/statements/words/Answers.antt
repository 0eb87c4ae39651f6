use Rattle.std.proofs.Common.{arith}
use Rattle.rr_cycle_tests.proofs.Declaring.{holds_none}
use Rattle.rr_cycle_tests.proofs.statements.words.Goals as goal

pub returns : goal.returns
returns c = c.in_ok-declare_words.ensures 4 (omega arith) (c.in_ok-declare.ensures 4 (omega arith) (rw c.new-scope.ensures (holds_none 4)))
