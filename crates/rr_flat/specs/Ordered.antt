-- The steps of a cycle, and an order in which each bit is written before it is read.
use Rattle.std.specs.Prelude.{ℕ, ◌<◌, ◌≡◌, List, length, Bool, true, false, Option, get_or}
use Rattle.rr_expr.specs.declared.types.Bit.{Bit}
use Rattle.rr_flat.specs.Signals.{Text}
use Rattle.rr_flat.specs.declared.design.Step.{Step}
use Rattle.rr_flat.specs.declared.design.Step.TheVariants as step
use Rattle.rr_flat.specs.Plain.{Flat}
use Rattle.rr_flat.specs.Clocks.{OneClock}
use Rattle.rr_flat.specs.Writers.{driven, wires, Writes, Driven, Combinational, DriverNames, BlockNames}

-- a driver, a wiring driver bit by bit, and a combinational block
unfoldable pub IsStep : Flat → Step → Type 0
IsStep flat (step.Driver k) = (k < length flat.drivers) × (wires flat k ≡ false)
IsStep flat (step.Wire k i) = (k < length flat.drivers) × (wires flat k ≡ true) × (i < length (driven flat k))
IsStep flat (step.Block k) = k < length flat.combinational

unfoldable pub StepWrites : Flat → Step → Bit → Type 0
StepWrites flat (step.Driver k) b = (i : ℕ) × Writes flat (Driven k i) b
StepWrites flat (step.Wire k i) b = Writes flat (Driven k i) b
StepWrites flat (step.Block k) b = Writes flat (Combinational k) b

-- what the bits that it writes name
unfoldable pub StepNames : Flat → Step → Bit → Type 0
StepNames flat (step.Driver k) b = DriverNames flat k 0 b
StepNames flat (step.Wire k i) b = DriverNames flat k i b
StepNames flat (step.Block k) b = BlockNames flat k b

abbrev pub step_at : List Step → ℕ → Step
step_at steps i = get_or steps i (step.Block 0)

-- the clock and the direction are those of the design with this word, the steps are exactly its steps, each once, and
-- each stands after every step that writes a bit which its own bits name
pub record Ordered (flat : Flat) (word : Option Text) (clock : Option ℕ) (rising : Bool) (steps : List Step) : Type 0 where
  pub one_clock : OneClock flat word clock rising
  pub each : (i : ℕ) → i < length steps → IsStep flat (step_at steps i)
  pub all : (s : Step) → IsStep flat s → (i : ℕ) × ((i < length steps) × (step_at steps i ≡ s))
  pub once : (i j : ℕ) → i < length steps → j < length steps → step_at steps i ≡ step_at steps j → i ≡ j
  pub after : (i j : ℕ) → i < length steps → j < length steps → (b : Bit) →
      StepWrites flat (step_at steps i) b → StepNames flat (step_at steps j) b → i < j
