-- the laws of cycles
use Rattle.std.proofs.Common.{◌≡◌, ℕ, List, [], ◌∷◌, Bool, true, Option, None, ◌∙◌}
use Rattle.rr_expr.specs.declared.types.Bit.{Bit}
use Rattle.rr_flat.specs.declared.design.Step.{Step}
use Rattle.rr_flat.specs.Plain.{Flat}
use Rattle.rr_flat.specs.Writers.{Clocked, Writes}
use Rattle.rr_cycle.specs.Cycles.{Settled, IsNext, Runs, ended, cycle, Run, beginning, outputs_of}
use Rattle.rr_flat.specs.Elaborated.{IsSound}
use Rattle.rr_cycle.specs.Designs.{IsInOrder, IsLawful}
use Rattle.rr_cycle.specs.Exec.{Environment, applied}
use Rattle.rr_cycle.specs.Performing.{base, performed, run_blocks, updates_of_blocks}
use Rattle.rr_cycle.proofs.Free.{free_inputs}
use Rattle.rr_cycle.proofs.Sequence.{some_next, next_in_order, only_next}
use Rattle.rr_cycle.proofs.Ranked.{one_settled, run_once}
use Rattle.rr_cycle.proofs.Settling.{settled_by_steps}
use Rattle.rr_cycle.proofs.EmptyDesign.{empty, lawful, ordered, sound}

pub settles : (flat : Flat) (clock : Option ℕ) (rising : Bool) (steps : List Step) → IsSound flat → IsInOrder flat clock rising steps → (state : Environment) (row : List ℕ) →
    Settled flat clock state row (performed flat steps (base flat clock state row))
settles flat clock rising steps e o state row = settled_by_steps flat o.0 clock rising steps o.1.0 o.1.1 (free_inputs flat e (o.0, o.1.0)) state row

pub settled_exists : (flat : Flat) (clock : Option ℕ) (rising : Bool) (steps : List Step) → IsSound flat → IsInOrder flat clock rising steps → (state : Environment) (row : List ℕ) → (env : Environment) × Settled flat clock state row env
settled_exists flat clock rising steps e o state row = (performed flat steps (base flat clock state row), settles flat clock rising steps e o state row)

-- of a state only the bits that clocked blocks write count
pub settled_by_registers : (flat : Flat) (clock : Option ℕ) (state other : Environment) (row : List ℕ) (env : Environment) → Settled flat clock state row env →
    ((k : ℕ) (b : Bit) → Writes flat (Clocked k) b → state b ≡ other b) → Settled flat clock other row env
settled_by_registers flat clock state other row env s same = record {
  registers = λ k b w. s.registers k b w ∙ same k b w;
  inputs = s.inputs;
  drivers = s.drivers;
  blocks = s.blocks;
  others = s.others;
}

pub settled_only : (flat : Flat) → IsLawful flat → (clock : Option ℕ) (state : Environment) (row : List ℕ) (e f : Environment) → Settled flat clock state row e → Settled flat clock state row f → e ≡ f
settled_only flat l clock state row e f h k = one_settled flat l.0 l.1 clock state row e f h k

pub settled_met : (flat : Flat) × ((clock : Option ℕ) × ((rising : Bool) × ((steps : List Step) × (IsSound flat × IsInOrder flat clock rising steps))))
settled_met = (empty, (None, (true, ([], (sound, (None, (lawful, ordered)))))))

-- Next states

pub next_is : (flat : Flat) → IsSound flat → IsLawful flat → (env : Environment) → IsNext flat env (applied (updates_of_blocks flat flat.clocked env) (run_blocks flat flat.clocked env))
next_is flat f l env = next_in_order flat l.1.no_race l.1.one_writer f.variables env

pub next_exists : (flat : Flat) → IsLawful flat → (env : Environment) → (next : Environment) × IsNext flat env next
next_exists flat l env = some_next flat l.1.one_writer env

pub next_only : (flat : Flat) (env e f : Environment) → IsNext flat env e → IsNext flat env f → e ≡ f
next_only flat env e f h k = only_next flat env e f h k

pub ruleset nexts = (next_exists, next_is, next_only)

-- Runs

runs_exist : (flat : Flat) (clock : Option ℕ) (rising : Bool) (steps : List Step) → IsSound flat → IsInOrder flat clock rising steps → (rows : List (List ℕ)) (state : Environment) →
    (outputs : List (List ℕ)) × ((last : Environment) × Runs flat clock state rows outputs last)
runs_exist flat clock rising steps e o [] state = ([], (state, ended))
runs_exist flat clock rising steps e o (row ∷ rows) state =
    let s = settled_exists flat clock rising steps e o state row in
    let n = next_exists flat (o.0, o.1.0) s.0 in
    let r = runs_exist flat clock rising steps e o rows n.0 in
    (outputs_of flat s.0 ∷ r.0, (r.1.0, cycle s.0 n.0 s.1 n.1 r.1.1))

pub run_exists : (flat : Flat) (clock : Option ℕ) (rising : Bool) (steps : List Step) → IsSound flat → IsInOrder flat clock rising steps → (rows : List (List ℕ)) → (outputs : List (List ℕ)) × Run flat clock rows outputs
run_exists flat clock rising steps e o rows = runs_exist flat clock rising steps e o rows (beginning flat)

pub run_only : (flat : Flat) → IsLawful flat → (clock : Option ℕ) (rows a b : List (List ℕ)) → Run flat clock rows a → Run flat clock rows b → a ≡ b
run_only flat l clock rows a b h k = run_once flat l.0 l.1 clock rows a b h k
