-- Designs that are equal without token numbers have the same runs.
use Rattle.std.proofs.Common.{◌≡◌, ◌∙◌, sym, ap, subst, ℕ, ◌<◌, true, false, List, ◌∷◌, length, get_or, Option}
use Rattle.std.specs.List.{flat_map}
use Rattle.rr_expr.specs.declared.types.Bit.{Bit}
use Rattle.rr_flat.specs.Plain.{Flat}
use Rattle.rr_flat.specs.Writers.{block_at, writes_now, Writer, Driven, Clocked, Writes}
use Rattle.rr_cycle.specs.Cycles.{driver_value, given, IsInputBit, Settled, after_block, AfterBlocks, updates_of_block, IsNext, beginning, Runs, ended, cycle, Run}
use Rattle.rr_flat.specs.Inputs.{row_inputs}
use Rattle.rr_cycle.specs.Exec.{Environment, applied}
use Rattle.rr_token_numbers.specs.Bare.{bare_flat, IsSameFlat}
use Rattle.rr_token_number_meaning.proofs.Designs.{moved, clocked_many, combinational_many, driver_value-bare, block_writes, block_after_at, block_updates, Writes-bare, IsInputBit-bare, outputs-bare}

module _ (f : Flat) where
  -- the parts of a settled environment
  module _ (clock : Option ℕ) (state : Environment) (row : List ℕ) (env : Environment) where
    registers_path : ((k : ℕ) (b : Bit) → Writes (bare_flat f) (Clocked k) b → env b ≡ state b) ≡ ((k : ℕ) (b : Bit) → Writes f (Clocked k) b → env b ≡ state b)
    registers_path = λ j. (k : ℕ) (b : Bit) → Writes-bare f (Clocked k) j b → env b ≡ state b

    inputs_path : ((b : Bit) → IsInputBit (bare_flat f) b → env b ≡ given (row_inputs clock (bare_flat f).inputs) row b) ≡ ((b : Bit) → IsInputBit f b → env b ≡ given (row_inputs clock f.inputs) row b)
    unfolding bare_flat
    inputs_path = λ j. (b : Bit) → IsInputBit-bare f j b → env b ≡ given (row_inputs clock f.inputs) row b

    drivers_path : ((k i : ℕ) (b : Bit) → Writes (bare_flat f) (Driven k i) b → env b ≡ get_or (driver_value (bare_flat f) k env) i false)
        ≡ ((k i : ℕ) (b : Bit) → Writes f (Driven k i) b → env b ≡ get_or (driver_value f k env) i false)
    drivers_path = λ j. (k i : ℕ) (b : Bit) → Writes-bare f (Driven k i) j b → env b ≡ get_or (driver_value-bare f k j env) i false

    blocks_path : ((k : ℕ) → k < length (bare_flat f).combinational → after_block (bare_flat f) (block_at (bare_flat f).combinational k) env ≡ env)
        ≡ ((k : ℕ) → k < length f.combinational → after_block f (block_at f.combinational k) env ≡ env)
    unfolding bare_flat
    blocks_path = λ j. (k : ℕ) → k < combinational_many f j → block_after_at f f.combinational k j env ≡ env

    others_path : ((b : Bit) → (IsInputBit (bare_flat f) b → ⊥) → ((x : Writer) → Writes (bare_flat f) x b → ⊥) → env b ≡ beginning (bare_flat f) b)
        ≡ ((b : Bit) → (IsInputBit f b → ⊥) → ((x : Writer) → Writes f x b → ⊥) → env b ≡ beginning f b)
    unfolding bare_flat
    others_path = λ j. (b : Bit) → (IsInputBit-bare f j b → ⊥) → ((x : Writer) → Writes-bare f x j b → ⊥) → env b ≡ beginning f b

    settled_bare : Settled f clock state row env → Settled (bare_flat f) clock state row env
    settled_bare h = record {
      registers = moved (sym registers_path) h.registers;
      inputs = moved (sym inputs_path) h.inputs;
      drivers = moved (sym drivers_path) h.drivers;
      blocks = moved (sym blocks_path) h.blocks;
      others = moved (sym others_path) h.others;
    }

    settled_plain : Settled (bare_flat f) clock state row env → Settled f clock state row env
    settled_plain h = record {
      registers = moved registers_path h.registers;
      inputs = moved inputs_path h.inputs;
      drivers = moved drivers_path h.drivers;
      blocks = moved blocks_path h.blocks;
      others = moved others_path h.others;
    }

  -- the clock edge
  module _ (env mid : Environment) where
    written_path : ((k : ℕ) (b : Bit) → k < length (bare_flat f).clocked → writes_now (bare_flat f) (block_at (bare_flat f).clocked k) b ≡ true → mid b ≡ after_block (bare_flat f) (block_at (bare_flat f).clocked k) env b)
        ≡ ((k : ℕ) (b : Bit) → k < length f.clocked → writes_now f (block_at f.clocked k) b ≡ true → mid b ≡ after_block f (block_at f.clocked k) env b)
    unfolding bare_flat
    written_path = λ j. (k : ℕ) (b : Bit) → k < clocked_many f j → block_writes f true f.clocked k j b ≡ true → mid b ≡ block_after_at f f.clocked k j env b

    kept_path : ((b : Bit) → ((k : ℕ) → k < length (bare_flat f).clocked → writes_now (bare_flat f) (block_at (bare_flat f).clocked k) b ≡ false) → mid b ≡ env b)
        ≡ ((b : Bit) → ((k : ℕ) → k < length f.clocked → writes_now f (block_at f.clocked k) b ≡ false) → mid b ≡ env b)
    unfolding bare_flat
    kept_path = λ j. (b : Bit) → ((k : ℕ) → k < clocked_many f j → block_writes f true f.clocked k j b ≡ false) → mid b ≡ env b

    after_bare : AfterBlocks f env mid → AfterBlocks (bare_flat f) env mid
    after_bare h = record { written = moved (sym written_path) h.written; others = moved (sym kept_path) h.others }

    after_plain : AfterBlocks (bare_flat f) env mid → AfterBlocks f env mid
    after_plain h = record { written = moved written_path h.written; others = moved kept_path h.others }

  updates_path : (env : Environment) → flat_map (updates_of_block (bare_flat f) env) (bare_flat f).clocked ≡ flat_map (updates_of_block f env) f.clocked
  unfolding bare_flat
  updates_path env = block_updates f env f.clocked

  next_bare : (env next : Environment) → IsNext f env next → IsNext (bare_flat f) env next
  next_bare env next h = (h.0, (after_bare env h.0 h.1.0, h.1.1 ∙ ap (λ us. applied us h.0) (sym (updates_path env))))

  next_plain : (env next : Environment) → IsNext (bare_flat f) env next → IsNext f env next
  next_plain env next h = (h.0, (after_plain env h.0 h.1.0, h.1.1 ∙ ap (λ us. applied us h.0) (updates_path env)))

  -- runs

  runs_bare : {clock : Option ℕ} {state last : Environment} {rows outputs : List (List ℕ)} → Runs f clock state rows outputs last → Runs (bare_flat f) clock state rows outputs last
  runs_bare ended = ended
  runs_bare {clock} {state} {last} (cycle {row = row} {rows = rows} {more = more} env next s n r) =
      subst (λ (out : List ℕ). Runs (bare_flat f) clock state (row ∷ rows) (out ∷ more) last) (λ k. outputs-bare f k env) (cycle env next (settled_bare clock state row env s) (next_bare env next n) (runs_bare r))

  runs_plain : {clock : Option ℕ} {state last : Environment} {rows outputs : List (List ℕ)} → Runs (bare_flat f) clock state rows outputs last → Runs f clock state rows outputs last
  runs_plain ended = ended
  runs_plain {clock} {state} {last} (cycle {row = row} {rows = rows} {more = more} env next s n r) =
      subst (λ (out : List ℕ). Runs f clock state (row ∷ rows) (out ∷ more) last) (sym (λ k. outputs-bare f k env)) (cycle env next (settled_plain clock state row env s) (next_plain env next n) (runs_plain r))

pub same_run : (f g : Flat) (clock : Option ℕ) (rows outputs : List (List ℕ)) → IsSameFlat f g → Run f clock rows outputs → Run g clock rows outputs
unfolding bare_flat
same_run f g clock rows outputs same h =
    let here : Runs (bare_flat f) clock (beginning (bare_flat f)) rows outputs h.0 = runs_bare f h.1 in
    let there : Runs (bare_flat g) clock (beginning (bare_flat g)) rows outputs h.0 = subst (λ (x : Flat). Runs x clock (beginning x) rows outputs h.0) same here in
    (h.0, runs_plain g there)
