-- What names stand for (IEEE 1364-2005 section 3.7), and the values of signals.
use Rattle.std.specs.Prelude.{ℕ, ◌+◌, ◌-◌, List, [], ◌∷◌, Bool, true, false, cond, Option, Some, None, length, get_or, nat_lt}
use Rattle.std.specs.Str.{bytes_eq}
use Rattle.rr_bits.specs.Words.{word, tabulate}
use Rattle.rr_expr.specs.declared.types.Entity.{Entity}
use Rattle.rr_expr.specs.declared.types.Entity.TheVariants.{Constant, Signal, Memory, Instance}
use Rattle.rr_expr.specs.declared.types.Bit.{Bit}
use Rattle.rr_expr.specs.declared.types.Shape.{Shape}

-- names and what they stand for
abbrev pub Names : Type 0
Names = List (List ℕ × Entity)

unfoldable pub lookup : List ℕ → Names → Option Entity
lookup name [] = None
lookup name (e ∷ es) = cond (bytes_eq name e.0) (Some e.1) (lookup name es)

abbrev pub or_instance : Option Entity → Entity
or_instance None = Instance
or_instance (Some e) = e

-- what a name in an expression stands for; one that is not there is as useless as one of an instance
unfoldable pub meant : Names → List ℕ → Entity
meant s name = or_instance (lookup name s)

-- the number of bits of a range, and of a scalar
abbrev pub range_width : Option (ℕ × ℕ) → ℕ
range_width None = 1
range_width (Some r) = cond (nat_lt r.0 r.1) (r.1 - r.0) (r.0 - r.1) + 1

-- of a memory the shape of a word
abbrev pub entity_shape : Entity → Shape
entity_shape (Constant bits signed) = record { width = length bits; signed = signed }
entity_shape (Signal id range signed) = record { width = range_width range; signed = signed }
entity_shape (Memory first low words range signed) = record { width = range_width range; signed = signed }
entity_shape Instance = record { width = 0; signed = false }

-- a parameter of width w is read with the range [w-1:0]; a memory is not read by one
abbrev pub entity_range : Entity → ℕ × ℕ
entity_range (Constant bits signed) = (length bits - 1, 0)
entity_range (Signal id None signed) = (0, 0)
entity_range (Signal id (Some r) signed) = r
entity_range (Memory first low words range signed) = (0, 0)
entity_range Instance = (0, 0)

abbrev pub is_scalar : Entity → Bool
is_scalar (Constant bits signed) = false
is_scalar (Signal id None signed) = true
is_scalar (Signal id (Some r) signed) = false
is_scalar (Memory first low words range signed) = false
is_scalar Instance = false

-- the value of a name, where each bit of a signal has a value; a memory is not read but by an index
abbrev pub entity_value : (Bit → Bool) → Entity → List Bool
entity_value env (Constant bits signed) = bits
entity_value env (Signal id range signed) = tabulate (range_width range) (λ i. env (record { signal = id; place = i }))
entity_value env (Memory first low words range signed) = tabulate (range_width range) (λ i. false)
entity_value env Instance = []

-- the bits that numbers by signal write; a signal without a number is 0
abbrev pub env_of : List ℕ → Bit → Bool
env_of values b = get_or (word 128 (get_or values b.signal 0)) b.place false

-- the bits that lists of truth values by signal have, lowest first; a bit that is not there is false
abbrev pub env_of_lists : List (List Bool) → Bit → Bool
env_of_lists values b = get_or (get_or values b.signal []) b.place false
