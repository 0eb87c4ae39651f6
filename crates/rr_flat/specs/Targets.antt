-- The bits that the targets of assignments name (IEEE 1364-2005 sections 6.1 and 9.2, annex A.8.5).
use Rattle.std.specs.Prelude.{ℕ, zero, suc, ◌+◌, List, [], ◌∷◌, ◌++◌, Bool, true, false, not, cond, ◌&&◌, ◌||◌, Option, Some, None, is_none, nat_eq, nat_lt, ℤ, pos, ◌+ℤ◌, int_lt, unsigned_abs}
use Rattle.rr_syntax.specs.Tree.{Tree, Trees, Name, Literal, Bit as BitSelect, Part, Indexed, Unary, Binary, Cond, Concat, Repeat, Cast, Paren, End, More}
use Rattle.rr_expr.specs.declared.types.Bit.{Bit}
use Rattle.rr_expr.specs.declared.types.Entity.{Entity}
use Rattle.rr_expr.specs.declared.types.Entity.TheVariants.{Constant, Signal, Memory, Instance}
use Rattle.rr_expr.specs.Faults.{fault, constant_count, constant_span}
use Rattle.rr_expr.specs.Memories.{word_at, word_signal, word_bits}
use Rattle.rr_expr.specs.Scopes.{Names, meant, entity_shape, entity_range, range_width}
use Rattle.rr_expr.specs.Selects.{place, lowest_place, integer_with}
use Rattle.rr_expr.specs.Values.{form, value, nowhere}

abbrev pub same_bit : Bit → Bit → Bool
same_bit a b = nat_eq a.signal b.signal && nat_eq a.place b.place

-- the variable or net that a name stands for, a memory by the signal of its first word: 18 and 19 take it as one variable
abbrev pub variable_of : Entity → Option ℕ
variable_of (Constant bits signed) = None
variable_of (Signal id range signed) = Some id
variable_of (Memory first low words range signed) = Some first
variable_of Instance = None

abbrev pub is_memory : Entity → Bool
is_memory (Constant bits signed) = false
is_memory (Signal id range signed) = false
is_memory (Memory first low words range signed) = true
is_memory Instance = false

-- whether a bit is one of the signal or of the words that a name stands for
abbrev pub is_bit_of : Entity → Bit → Bool
is_bit_of (Constant bits signed) b = false
is_bit_of (Signal id range signed) b = nat_eq id b.signal && nat_lt b.place (range_width range)
is_bit_of (Memory first low words range signed) b = not (nat_lt b.signal first) && (nat_lt b.signal (first + words) && nat_lt b.place (range_width range))
is_bit_of Instance b = false

-- the bit of a name at a place, where there is one; a memory has places only in its words
abbrev pub bit_there : Entity → ℤ → Option Bit
bit_there (Constant bits signed) p = None
bit_there (Signal id range signed) p =
    cond (int_lt p (pos 0)) None (cond (nat_lt (unsigned_abs p) (range_width range)) (Some (record { signal = id; place = unsigned_abs p })) None)
bit_there (Memory first low words range signed) p = None
bit_there Instance p = None

-- the bits of a name at n places from one up
unfoldable pub bits_there : Entity → ℤ → ℕ → List (Option Bit)
bits_there e p zero = []
bits_there e p (suc n) = bit_there e p ∷ bits_there e (p +ℤ pos 1) n

-- the bits that an index of a name names: one bit, but all of a word of a memory (section 5.2.2), as many for every index
abbrev pub index_bits : Entity → ℤ → List (Option Bit)
index_bits (Constant bits signed) i = bit_there (Constant bits signed) (place (entity_range (Constant bits signed)) i) ∷ []
index_bits (Signal id range signed) i = bit_there (Signal id range signed) (place (entity_range (Signal id range signed)) i) ∷ []
index_bits (Memory first low words range signed) i = word_bits range (word_signal first (word_at low words i))
index_bits Instance i = bit_there Instance (place (entity_range Instance) i) ∷ []

-- the bits that a target names where its indices are taken in an environment, lowest first; the first part of a
-- concatenation has the top bits, and a bit that is not there is none (section 5.2.1)
unfoldable mutual
  pub target_bits : Names → (Bit → Bool) → Tree → List (Option Bit)
  target_bits s env (Name token name) = bits_there (meant s name) (pos 0) (entity_shape (meant s name)).width
  target_bits s env (Literal token n) = []
  target_bits s env (BitSelect token name i) = index_bits (meant s name) (integer_with (form s i) (value s i env))
  target_bits s env (Part token name l r) =
      bits_there (meant s name) (place (entity_range (meant s name)) (integer_with (form s r) (value s r nowhere))) (constant_span s l r)
  target_bits s env (Indexed token name f n up) =
      bits_there (meant s name) (lowest_place (entity_range (meant s name)) up (integer_with (form s f) (value s f env)) (constant_count s n)) (constant_count s n)
  target_bits s env (Unary op t) = []
  target_bits s env (Binary op l r) = []
  target_bits s env (Cond a b c) = []
  target_bits s env (Concat ts) = targets_bits s env ts
  target_bits s env (Repeat n ts) = []
  target_bits s env (Cast signed t) = []
  target_bits s env (Paren t) = []

  pub targets_bits : Names → (Bit → Bool) → Trees → List (Option Bit)
  targets_bits s env End = []
  targets_bits s env (More t ts) = targets_bits s env ts ++ target_bits s env t

-- whether a list of bits has one
unfoldable pub has_bit : List (Option Bit) → Bit → Bool
has_bit [] b = false
has_bit (None ∷ cs) b = has_bit cs b
has_bit (Some c ∷ cs) b = same_bit c b || has_bit cs b

-- an expression in which no signal stands
abbrev pub is_constant : Names → Tree → Bool
is_constant s t = is_none (fault s t true)

-- the names and selects of a target, in the order of the text
unfoldable mutual
  pub target_parts : Tree → List Tree
  target_parts (Name token name) = Name token name ∷ []
  target_parts (Literal token n) = []
  target_parts (BitSelect token name i) = BitSelect token name i ∷ []
  target_parts (Part token name l r) = Part token name l r ∷ []
  target_parts (Indexed token name f n up) = Indexed token name f n up ∷ []
  target_parts (Unary op t) = []
  target_parts (Binary op l r) = []
  target_parts (Cond a b c) = []
  target_parts (Concat ts) = targets_parts ts
  target_parts (Repeat n ts) = []
  target_parts (Cast signed t) = []
  target_parts (Paren t) = []

  pub targets_parts : Trees → List Tree
  targets_parts End = []
  targets_parts (More t ts) = target_parts t ++ targets_parts ts

-- the name of one of them
abbrev pub part_name : Tree → List ℕ
part_name (Name token name) = name
part_name (Literal token n) = []
part_name (BitSelect token name i) = name
part_name (Part token name l r) = name
part_name (Indexed token name f n up) = name
part_name (Unary op t) = []
part_name (Binary op l r) = []
part_name (Cond a b c) = []
part_name (Concat ts) = []
part_name (Repeat n ts) = []
part_name (Cast signed t) = []
part_name (Paren t) = []

-- whether it has an index
abbrev pub is_indexed : Tree → Bool
is_indexed (Name token name) = false
is_indexed (Literal token n) = false
is_indexed (BitSelect token name i) = true
is_indexed (Part token name l r) = false
is_indexed (Indexed token name f n up) = false
is_indexed (Unary op t) = false
is_indexed (Binary op l r) = false
is_indexed (Cond a b c) = false
is_indexed (Concat ts) = false
is_indexed (Repeat n ts) = false
is_indexed (Cast signed t) = false
is_indexed (Paren t) = false

-- whether its index is constant; the bounds of a part always are
abbrev pub is_fixed : Names → Tree → Bool
is_fixed s (Name token name) = true
is_fixed s (Literal token n) = true
is_fixed s (BitSelect token name i) = is_constant s i
is_fixed s (Part token name l r) = true
is_fixed s (Indexed token name f n up) = is_constant s f
is_fixed s (Unary op t) = true
is_fixed s (Binary op l r) = true
is_fixed s (Cond a b c) = true
is_fixed s (Concat ts) = true
is_fixed s (Repeat n ts) = true
is_fixed s (Cast signed t) = true
is_fixed s (Paren t) = true

-- by an index that is not constant every bit of the name may be written, of a memory those of every word, and none is for
-- certain
unfoldable pub may_write : Names → List Tree → Bit → Bool
may_write s [] b = false
may_write s (t ∷ ts) b = cond (is_fixed s t) (has_bit (target_bits s nowhere t) b) (is_bit_of (meant s (part_name t)) b) || may_write s ts b

unfoldable pub must_write : Names → List Tree → Bit → Bool
must_write s [] b = false
must_write s (t ∷ ts) b = (is_fixed s t && has_bit (target_bits s nowhere t) b) || must_write s ts b

abbrev pub writes_target : Names → Tree → Bit → Bool
writes_target s t b = may_write s (target_parts t) b

abbrev pub assigns_target : Names → Tree → Bit → Bool
assigns_target s t b = must_write s (target_parts t) b
