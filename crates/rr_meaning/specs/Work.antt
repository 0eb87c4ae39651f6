-- What the evaluator's own words stand for.
use Rattle.std.specs.Prelude.{◌≡◌, ℕ, ◌≤◌, max, List, [], ◌∷◌, Bool, false, cond, nat_eq, get_or, Vec}
use Rattle.std.specs.declared.alloc.Global.{Global}
use Rattle.rr_bits.specs.Words.{number, word}
use Rattle.rr_expr.specs.declared.types.Bit.{Bit}
use Rattle.rr_expr.specs.Scopes.{env_of}
use Rattle.rr_flat.specs.Signals.{Signal, signal_at}
use Rattle.rr_flat.specs.Plain.{Driver, Flat}
use Rattle.rr_cycle.specs.Cycles.{beginning, head, side_shape, side_value, tail}
use Rattle.rr_cycle.specs.Exec.{Environment}
use Rattle.rr_cycle.specs.Performing.{any_is}

-- the right side of a driver, as that of an assignment
abbrev pub sides_value : Flat → Driver → Environment → List Bool
sides_value flat d env =
    side_value flat d.value env (max (side_shape flat d.target).width (side_shape flat d.value).width) (side_shape flat d.value).signed

-- the bits of masks, of an environment, and all others of these values
abbrev pub masked : List ℕ → List ℕ → Environment → Environment
masked masks others env b = cond (env_of masks b) (env b) (env_of others b)

-- no signal begins with a bit above its width
abbrev pub NoneAbove : Flat → Type 0
NoneAbove flat = (b : Bit) → (signal_at flat.signals b.signal).width ≤ b.place → beginning flat b ≡ false

-- what the signals begin with that are no inputs of the top; each bit of an input is 0
abbrev pub inner_beginning : Flat → Environment
inner_beginning flat b = cond (any_is flat.inputs b.signal) false (beginning flat b)

-- the bits of a number that a signal has
abbrev pub cut_to : List Signal → ℕ → ℕ → ℕ
cut_to signals id n = number (word (signal_at signals id).width n)

-- the bits that the numbers of a row write in the signals of its inputs, over an environment
unfoldable pub given_over : List Signal → List ℕ → List ℕ → Environment → Environment
given_over signals [] row env b = env b
given_over signals (id ∷ ids) row env b = cond (nat_eq id b.signal) (get_or (word 128 (cut_to signals id (head row))) b.place false) (given_over signals ids (tail row) env b)

abbrev pub row_items : Vec ℕ Global → List ℕ
row_items row = row.items
