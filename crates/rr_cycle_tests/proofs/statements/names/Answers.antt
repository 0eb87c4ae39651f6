use Rattle.std.proofs.Common.{arith}
use Rattle.rr_cycle_tests.proofs.Declaring.{holds_none}
use Rattle.rr_cycle_tests.proofs.statements.names.Goals as goal

pub returns : goal.returns
returns c =
    c.in_ok-declare-4.ensures 4 (omega arith)
    (c.in_ok-declare-3.ensures 4 (omega arith) (c.in_ok-declare-2.ensures 4 (omega arith) (c.in_ok-declare.ensures 4 (omega arith) (rw c.new-scope.ensures (holds_none 4)))))
