-- Words of memories (IEEE 1364-2005 section 5.2.2), and what an index of any name reads.
use Rattle.std.specs.Prelude.{ℕ, ◌+◌, List, map, Bool, false, cond, Option, Some, None, ℤ, pos, ◌-ℤ◌, int_lt, nat_lt, unsigned_abs}
use Rattle.std.specs.List.{range_with_len}
use Rattle.rr_bits.specs.Words.{select}
use Rattle.rr_expr.specs.declared.types.Bit.{Bit}
use Rattle.rr_expr.specs.declared.types.Entity.{Entity}
use Rattle.rr_expr.specs.declared.types.Entity.TheVariants.{Constant, Signal, Memory, Instance}
use Rattle.rr_expr.specs.declared.types.Shape.{Shape}
use Rattle.rr_expr.specs.Operators.{one_bit}
use Rattle.rr_expr.specs.Scopes.{entity_shape, entity_range, entity_value, range_width}
use Rattle.rr_expr.specs.Selects.{place}

-- the word of a memory that has an index, counted from the lowest, where there is one
abbrev pub word_at : ℕ → ℕ → ℤ → Option ℕ
word_at low words i = cond (int_lt i (pos low)) None (cond (nat_lt (unsigned_abs (i -ℤ pos low)) words) (Some (unsigned_abs (i -ℤ pos low))) None)

-- the signal of that word, where the first word is that signal
abbrev pub word_signal : ℕ → Option ℕ → Option ℕ
word_signal first None = None
word_signal first (Some k) = Some (first + k)

-- the bits of a signal of a range, lowest first; as many where there is no signal
abbrev pub word_bits : Option (ℕ × ℕ) → Option ℕ → List (Option Bit)
word_bits range None = map (λ i. None) (range_with_len 0 (range_width range))
word_bits range (Some id) = map (λ i. Some (record { signal = id; place = i })) (range_with_len 0 (range_width range))

-- a bit that is not there is false
abbrev pub bit_value : (Bit → Bool) → Option Bit → Bool
bit_value env None = false
bit_value env (Some b) = env b

-- the shape of what an index reads: a bit, but a word of a memory
abbrev pub index_shape : Entity → Shape
index_shape (Constant bits signed) = one_bit
index_shape (Signal id range signed) = one_bit
index_shape (Memory first low words range signed) = entity_shape (Memory first low words range signed)
index_shape Instance = one_bit

-- what an index reads
abbrev pub index_value : (Bit → Bool) → Entity → ℤ → List Bool
index_value env (Constant bits signed) i = select (entity_value env (Constant bits signed)) (place (entity_range (Constant bits signed)) i) 1
index_value env (Signal id range signed) i = select (entity_value env (Signal id range signed)) (place (entity_range (Signal id range signed)) i) 1
index_value env (Memory first low words range signed) i = map (bit_value env) (word_bits range (word_signal first (word_at low words i)))
index_value env Instance i = select (entity_value env Instance) (place (entity_range Instance) i) 1
