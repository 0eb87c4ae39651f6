-- Combinational loops, and steps in an order in which each bit is written before it is read.
use Rattle.std.specs.Prelude.{ℕ, ◌<◌, ◌≡◌, ◌⊎◌, List, [], ◌∷◌, length}
use Rattle.rr_expr.specs.declared.types.Bit.{Bit}
use Rattle.rr_flat.specs.declared.design.Step.{Step}
use Rattle.rr_flat.specs.declared.design.Step.TheVariants as step
use Rattle.rr_flat.specs.Lawful.{HasRanks}
use Rattle.rr_flat.specs.Ordered.{IsStep, StepWrites, StepNames, step_at}
use Rattle.rr_flat.specs.Plain.{Flat}
use Rattle.rr_flat.specs.Writers.{BitNames, driver_at, block_at}
use Rattle.rr_order.specs.declared.order.Ordering.{Ordering}
use Rattle.rr_order.specs.declared.order.Ordering.TheVariants as ordering

-- each bit names the next, and the last names t
abbrev pub BitChain : Flat → Bit → List Bit → Bit → Type 0
BitChain flat b [] t = BitNames flat b t
BitChain flat b (c ∷ cs) t = BitNames flat b c × BitChain flat c cs t

-- bits of which each names the next, and the last the first: a combinational loop
abbrev pub OnLoop : Flat → Bit → Type 0
OnLoop flat b = (cs : List Bit) × BitChain flat b cs b

-- the order of the bits: by their signals, and then by their places
abbrev pub IsBefore : Bit → Bit → Type 0
IsBefore a b = (a.signal < b.signal) ⊎ ((a.signal ≡ b.signal) × (a.place < b.place))

-- a loop from the lowest bit that lies on one
abbrev pub BitCycle : Flat → List Bit → Type 0
BitCycle flat [] = ⊥
BitCycle flat (c ∷ cs) = BitChain flat c cs c × ((b : Bit) → IsBefore b c → OnLoop flat b → ⊥)

-- the token of the target of a step's driver, or of its `always`
abbrev pub step_token : Flat → Step → ℕ
step_token flat (step.Driver k) = (driver_at flat k).token
step_token flat (step.Wire k i) = (driver_at flat k).token
step_token flat (step.Block k) = (block_at flat.combinational k).token

-- the token of a step that writes the first bit
abbrev pub FirstWrittenAt : Flat → List Bit → ℕ → Type 0
FirstWrittenAt flat [] token = ⊥
FirstWrittenAt flat (c ∷ cs) token = (s : Step) × (IsStep flat s × (StepWrites flat s c × (token ≡ step_token flat s)))

pub record IsLoop (flat : Flat) (cycle : List Bit) (token : ℕ) : Type 0 where
  pub cycle_of : BitCycle flat cycle
  pub token_of : FirstWrittenAt flat cycle token
  pub unranked : HasRanks flat → ⊥

-- the steps of a design, each once, and each after every step that writes a bit which its own bits name
pub record AreOrdered (flat : Flat) (steps : List Step) : Type 0 where
  pub each : (i : ℕ) → i < length steps → IsStep flat (step_at steps i)
  pub all : (s : Step) → IsStep flat s → (i : ℕ) × ((i < length steps) × (step_at steps i ≡ s))
  pub once : (i j : ℕ) → i < length steps → j < length steps → step_at steps i ≡ step_at steps j → i ≡ j
  pub after : (i j : ℕ) → i < length steps → j < length steps → (b : Bit) →
      StepWrites flat (step_at steps i) b → StepNames flat (step_at steps j) b → i < j

-- such an order, where the bits have ranks, or a loop, where they have none
abbrev pub Tells : Flat → Ordering → Type 0
Tells flat (ordering.Steps steps) = AreOrdered flat steps.items × HasRanks flat
Tells flat (ordering.Loop found) = IsLoop flat found.cycle.items found.token
