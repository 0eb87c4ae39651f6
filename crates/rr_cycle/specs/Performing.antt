-- One way to a settled environment and to the next state: the steps of an order, each performed once, and the clocked
-- blocks one after the other.
use Rattle.std.specs.Prelude.{ℕ, List, [], ◌∷◌, ◌++◌, Bool, false, cond, ◌&&◌, ◌||◌, Option, None, get_or, nat_eq, nat_lt}
use Rattle.rr_expr.specs.declared.types.Bit.{Bit}
use Rattle.rr_flat.specs.Signals.{signal_at}
use Rattle.rr_flat.specs.declared.design.Step.{Step}
use Rattle.rr_flat.specs.declared.design.Step.TheVariants as step
use Rattle.rr_flat.specs.Plain.{Block, Flat}
use Rattle.rr_flat.specs.Writers.{block_at, driven, writes_at_all}
use Rattle.rr_cycle.specs.Exec.{Environment, applied, write, Update}
use Rattle.rr_cycle.specs.Cycles.{driver_value, given, beginning, after_block, updates_of_block}
use Rattle.rr_flat.specs.Inputs.{row_inputs}

-- a driver gives all its bits their values, a wire one of them; a block runs
unfoldable pub act : Flat → Step → Environment → Environment
act flat (step.Driver k) env = write (driven flat k) (driver_value flat k env) env
act flat (step.Wire k i) env = write (get_or (driven flat k) i None ∷ []) (get_or (driver_value flat k env) i false ∷ []) env
act flat (step.Block k) env = after_block flat (block_at flat.combinational k) env

unfoldable pub performed : Flat → List Step → Environment → Environment
performed flat [] env = env
performed flat (s ∷ ss) env = performed flat ss (act flat s env)

-- a bit that one of these blocks writes
unfoldable pub any_writes : Flat → List Block → Bit → Bool
any_writes flat [] b = false
any_writes flat (block ∷ blocks) b = writes_at_all flat block b || any_writes flat blocks b

unfoldable pub any_is : List ℕ → ℕ → Bool
any_is [] n = false
any_is (m ∷ ms) n = nat_eq m n || any_is ms n

-- before the first step: the registers from the state, the inputs from the row, the starting values elsewhere
unfoldable pub base : Flat → Option ℕ → Environment → List ℕ → Environment
base flat clock state row b =
    cond (any_writes flat flat.clocked b) (state b)
    (cond (any_is flat.inputs b.signal && nat_lt b.place (signal_at flat.signals b.signal).width) (given (row_inputs clock flat.inputs) row b) (beginning flat b))

-- the clocked blocks in order, each on what those before it left
unfoldable pub run_blocks : Flat → List Block → Environment → Environment
run_blocks flat [] env = env
run_blocks flat (block ∷ blocks) env = run_blocks flat blocks (after_block flat block env)

unfoldable pub updates_of_blocks : Flat → List Block → Environment → List Update
updates_of_blocks flat [] env = []
updates_of_blocks flat (block ∷ blocks) env = updates_of_block flat env block ++ updates_of_blocks flat blocks (after_block flat block env)

-- the settled environment
abbrev pub settled_by : Flat → Option ℕ → List Step → Environment → List ℕ → Environment
settled_by flat clock steps state row = performed flat steps (base flat clock state row)

-- the state after the clock edge
abbrev pub next_after : Flat → Environment → Environment
next_after flat env = applied (updates_of_blocks flat flat.clocked env) (run_blocks flat flat.clocked env)
