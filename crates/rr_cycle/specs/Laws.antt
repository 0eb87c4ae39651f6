-- Laws of statements and of cycles.
use Rattle.std.specs.Prelude.{◌≡◌, true, false}
use Rattle.rr_syntax.specs.Tree.{Statement}
use Rattle.rr_expr.specs.declared.types.Bit.{Bit}
use Rattle.rr_expr.specs.Scopes.{Names}
use Rattle.rr_flat.specs.Latches.{NoLatch}
use Rattle.rr_flat.specs.Reads.{StatementReads, writes}
use Rattle.rr_cycle.specs.Exec.{Environment, executed}

-- a statement keeps the bits that it does not write by `=`
abbrev pub OthersKept : Type 0
OthersKept = (s : Names) (t : Statement) (env : Environment) (b : Bit) → writes true s t b ≡ false → executed s t env b ≡ env b

-- without latches, the bits that it writes stand only on those that it reads and does not write
abbrev pub WrittenByReadBits : Type 0
WrittenByReadBits =
    (s : Names) (t : Statement) → NoLatch s t → (env other : Environment) (b : Bit) → writes true s t b ≡ true →
    ((c : Bit) → StatementReads s t c × (writes true s t c ≡ false) → env c ≡ other c) → executed s t env b ≡ executed s t other b
