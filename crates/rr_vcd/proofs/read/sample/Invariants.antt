use Rattle.std.proofs.Common.{ℕ, List, []}
use Rattle.rr_vcd_text.specs.Dump.{Declared, Told}
use Rattle.rr_vcd_text.specs.View.{IsReading, bytes_left}
use Rattle.rr_vcd.specs.Tops.{Top}
use Rattle.rr_vcd.specs.View.{IsTold}
use Rattle.rr_vcd.proofs.read.sample.Given as goal

abbrev pub invariant-loop-sampler : goal.invariant-loop-sampler
invariant-loop-sampler l = (bytes : List ℕ) (top : Top) (d : Declared) (s : ℕ) → IsReading bytes d [] l.initial.changes → IsTold top d s [] l.initial.sampler
    → (told : List Told) × (IsReading bytes d told l.changes × IsTold top d s told l.sampler)

abbrev pub decreases-loop-sampler : goal.decreases-loop-sampler
decreases-loop-sampler l = bytes_left l.changes
