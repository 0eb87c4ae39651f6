use Rattle.std.proofs.Common.{◌≡◌, ◌++◌, false, get_or}
use Rattle.std.specs.List.{filter}
use Rattle.rr_bits.specs.Words.{word}
use Rattle.rr_expr.specs.declared.types.Bit.{Bit}
use Rattle.rr_registers.proofs.ListLaws.{run}
use Rattle.rr_registers.proofs.registers.add_marked.Given as goal

abbrev pub invariant-loop-place : goal.invariant-loop-place
invariant-loop-place l = l.list.items ≡ l.fn.list.items ++ filter (λ (b : Bit). get_or (word 128 l.mask) b.place false) (run l.signal l.place)
