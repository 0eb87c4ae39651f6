-- Drivers, blocks and signals of flat designs without token numbers.
use Rattle.std.proofs.Common.{◌≡◌, ◌∙◌, ap, subst, ℕ, zero, suc, ◌<◌, max, pos, Bool, true, false, ◌||◌, List, [], ◌∷◌, ◌++◌, length, map, get_or, Some, None, refl}
use Rattle.std.specs.List.{flat_map}
use Rattle.std.proofs.lemmas.List.{length-map}
use Rattle.rr_bits.specs.Words.{number, extend}
use Rattle.rr_syntax.specs.Tree.{bare_statement}
use Rattle.rr_expr.specs.declared.types.Entity.TheVariants as entity
use Rattle.rr_flat.specs.Signals.{signal_at}
use Rattle.rr_flat.specs.Plain.{Side, Written, Whole, Driver, Block, Initial, Flat}
use Rattle.rr_flat.specs.Reads.{writes}
use Rattle.rr_flat.specs.Targets.{bits_there}
use Rattle.rr_flat.specs.Writers.{scope_at, driver_at, block_at, initial_at, no_driver, signal_bits, driven_by, driven, Writer, Driven, Clocked, Combinational, Writes}
use Rattle.rr_cycle.specs.Cycles.{bit_value, side_shape, side_value, driver_value, IsInputBit, after_block, updates_of_block, outputs_of}
use Rattle.rr_cycle.specs.Exec.{Environment}
use Rattle.rr_token_numbers.specs.Bare.{bare_signal, bare_side, bare_driver, bare_block, bare_initial, bare_flat}
use Rattle.rr_token_numbers.proofs.Shapes.{form-bare, value_path}
use Rattle.rr_token_numbers.proofs.Tables.{signal_at-bare}
use Rattle.rr_token_number_meaning.proofs.Targets.{target_bits-bare}
use Rattle.rr_token_number_meaning.proofs.Statements.{writes-bare, executed-bare, updates-bare}

-- a fact of one of two types that are equal
pub moved : {A B : Type 0} → A ≡ B → A → B
moved e a = subst (λ (X : Type 0). X) e a

-- the right side of a driver
abbrev value_of : Flat → Driver → Environment → List Bool
value_of f d env = side_value f d.value env (max (side_shape f d.target).width (side_shape f d.value).width) (side_shape f d.value).signed

-- entries

drivers_at : (ds : List Driver) (k : ℕ) → get_or (map bare_driver ds) k no_driver ≡ bare_driver (get_or ds k no_driver)
drivers_at [] k = refl
drivers_at (d ∷ ds) zero = refl
drivers_at (d ∷ ds) (suc k) = drivers_at ds k

pub block_at-bare : (bs : List Block) (k : ℕ) → block_at (map bare_block bs) k ≡ bare_block (block_at bs k)
unfolding bare_statement
block_at-bare [] k = refl
block_at-bare (b ∷ bs) zero = refl
block_at-bare (b ∷ bs) (suc k) = block_at-bare bs k

pub initial_at-bare : (is : List Initial) (k : ℕ) → initial_at (map bare_initial is) k ≡ bare_initial (initial_at is k)
unfolding bare_statement
initial_at-bare [] k = refl
initial_at-bare (i ∷ is) zero = refl
initial_at-bare (i ∷ is) (suc k) = initial_at-bare is k

module _ (f : Flat) where
  pub driver_at-bare : (k : ℕ) → driver_at (bare_flat f) k ≡ bare_driver (driver_at f k)
  unfolding bare_flat
  driver_at-bare k = drivers_at f.drivers k

  pub drivers_many : length (bare_flat f).drivers ≡ length f.drivers
  unfolding bare_flat
  drivers_many = length-map f.drivers bare_driver

  pub clocked_many : length (bare_flat f).clocked ≡ length f.clocked
  unfolding bare_flat
  clocked_many = length-map f.clocked bare_block

  pub combinational_many : length (bare_flat f).combinational ≡ length f.combinational
  unfolding bare_flat
  combinational_many = length-map f.combinational bare_block

  pub initials_many : length (bare_flat f).initials ≡ length f.initials
  unfolding bare_flat
  initials_many = length-map f.initials bare_initial

  pub signal_same : (id : ℕ) → signal_at (bare_flat f).signals id ≡ bare_signal (signal_at f.signals id)
  unfolding bare_flat
  signal_same id = signal_at-bare f.signals id

  -- what a signal is
  pub bits-bare : (id : ℕ) → signal_bits (bare_flat f) id ≡ signal_bits f id
  bits-bare id = λ k. bits_there (entity.Signal id (signal_same id k).range (signal_same id k).signed) (pos 0) (signal_same id k).width

  -- sides

  pub driven_by-bare : (s : Side) → driven_by (bare_flat f) (bare_side s) ≡ driven_by f s
  unfolding driven_by bare_flat
  driven_by-bare (Written t i) = target_bits-bare (scope_at f i) _ t
  driven_by-bare (Whole id) = bits-bare id

  pub driven-bare : (k : ℕ) → driven (bare_flat f) k ≡ driven f k
  driven-bare k = ap (λ (d : Driver). driven_by (bare_flat f) d.target) (driver_at-bare k) ∙ driven_by-bare (driver_at f k).target

  pub side_shape-bare : (s : Side) → side_shape (bare_flat f) (bare_side s) ≡ side_shape f s
  unfolding side_shape bare_flat
  side_shape-bare (Written t i) = form-bare (scope_at f i) t
  side_shape-bare (Whole id) = λ k. record { width = (signal_same id k).width; signed = (signal_same id k).signed }

  pub side_value-bare : (s : Side) → side_value (bare_flat f) (bare_side s) ≡ side_value f s
  unfolding side_value bare_flat
  side_value-bare (Written t i) = value_path (scope_at f i) t
  side_value-bare (Whole id) = λ k env w signed. extend w signed (map (bit_value env) (bits-bare id k))

  pub driver_value-bare : (k : ℕ) → driver_value (bare_flat f) k ≡ driver_value f k
  driver_value-bare k =
      ap (value_of (bare_flat f)) (driver_at-bare k)
      ∙ (λ j env. side_value-bare (driver_at f k).value j env (max (side_shape-bare (driver_at f k).target j).width (side_shape-bare (driver_at f k).value j).width) (side_shape-bare (driver_at f k).value j).signed)

  -- blocks

  pub block_writes : (now : Bool) (bs : List Block) (k : ℕ)
      → writes now (scope_at (bare_flat f) (block_at (map bare_block bs) k).scope) (block_at (map bare_block bs) k).body ≡ writes now (scope_at f (block_at bs k).scope) (block_at bs k).body
  unfolding bare_flat
  block_writes now bs k = ap (λ (b : Block). writes now (scope_at f b.scope) b.body) (block_at-bare bs k) ∙ writes-bare now (scope_at f (block_at bs k).scope) (block_at bs k).body

  pub block_after : (b : Block) → after_block (bare_flat f) (bare_block b) ≡ after_block f b
  unfolding bare_flat
  block_after b = executed-bare (scope_at f b.scope) b.body

  pub block_after_at : (bs : List Block) (k : ℕ) → after_block (bare_flat f) (block_at (map bare_block bs) k) ≡ after_block f (block_at bs k)
  block_after_at bs k = ap (λ (b : Block). after_block (bare_flat f) b) (block_at-bare bs k) ∙ block_after (block_at bs k)

  pub block_updates : (env : Environment) (bs : List Block) → flat_map (updates_of_block (bare_flat f) env) (map bare_block bs) ≡ flat_map (updates_of_block f env) bs
  unfolding bare_flat
  block_updates env [] = refl
  block_updates env (b ∷ bs) = λ k. updates-bare (scope_at f b.scope) b.body k env ++ block_updates env bs k

  -- writers

  pub Writes-bare : (x : Writer) → Writes (bare_flat f) x ≡ Writes f x
  unfolding Writes bare_flat
  Writes-bare (Driven n i) = λ k b. (n < drivers_many k) × (get_or (driven-bare n k) i None ≡ Some b)
  Writes-bare (Clocked n) = λ k b. (n < clocked_many k) × ((block_writes true f.clocked n k b || block_writes false f.clocked n k b) ≡ true)
  Writes-bare (Combinational n) = λ k b. (n < combinational_many k) × ((block_writes true f.combinational n k b || block_writes false f.combinational n k b) ≡ true)

  pub IsInputBit-bare : IsInputBit (bare_flat f) ≡ IsInputBit f
  unfolding bare_flat
  IsInputBit-bare = λ k b. ((n : ℕ) × ((n < length f.inputs) × (get_or f.inputs n 0 ≡ b.signal))) × (b.place < (signal_same b.signal k).width)

  pub outputs-bare : outputs_of (bare_flat f) ≡ outputs_of f
  unfolding bare_flat
  outputs-bare = λ k env. map (λ id. number (map (bit_value env) (bits-bare id k))) f.outputs
