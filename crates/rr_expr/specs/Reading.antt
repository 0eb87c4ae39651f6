-- The bits of signals that an expression names, and what its value stands on.
use Rattle.std.specs.Prelude.{◌≡◌, ℕ, ◌+◌, ◌<◌, ◌≤◌, ◌⊎◌, Bool, true, false, List, Option, Some, None, is_none, ℤ, pos, ◌+ℤ◌}
use Rattle.rr_syntax.specs.Tree.{Tree, Trees, Name, Literal, Bit as BitSelect, Part, Indexed, Unary, Binary, Cond, Concat, Repeat, Cast, Paren, End, More}
use Rattle.rr_expr.specs.declared.types.Bit.{Bit}
use Rattle.rr_expr.specs.declared.types.Entity.{Entity}
use Rattle.rr_expr.specs.declared.types.Entity.TheVariants.{Constant, Signal, Memory, Instance}
use Rattle.rr_expr.specs.Scopes.{Names, meant, entity_range, range_width}
use Rattle.rr_expr.specs.Selects.{place, lowest_place, integer_with}
use Rattle.rr_expr.specs.Memories.{word_at, word_signal}
use Rattle.rr_expr.specs.Values.{form, value, nowhere}
use Rattle.rr_expr.specs.Faults.{fault, constant_count, constant_span}

-- a bit of the signal, or of a word of the memory, that a name stands for
abbrev pub IsBitOf : Entity → Bit → Type 0
IsBitOf (Constant bits signed) b = ⊥
IsBitOf (Signal id range signed) b = (b.signal ≡ id) × (b.place < range_width range)
IsBitOf (Memory first low words range signed) b = (first ≤ b.signal) × (b.signal < first + words) × (b.place < range_width range)
IsBitOf Instance b = ⊥

-- a bit of one word
abbrev pub IsWordBit : Option (ℕ × ℕ) → Option ℕ → Bit → Type 0
IsWordBit range None b = ⊥
IsWordBit range (Some id) b = (b.signal ≡ id) × (b.place < range_width range)

-- one of n places from a place up
abbrev pub IsWithin : ℤ → ℕ → ℕ → Type 0
IsWithin from n m = (k : ℕ) × (k < n) × (from +ℤ pos k ≡ pos m)

-- of a select: by a constant index only the bits at its places; by any other all bits, and those that the index names
abbrev pub NamesAt : Bool → Entity → ℤ → ℕ → Type 0 → Bit → Type 0
NamesAt true e from n index b = IsBitOf e b × IsWithin from n b.place
NamesAt false e from n index b = IsBitOf e b ⊎ index

-- of a memory: by a constant index only the bits of its word; by any other those of all words, and those that the index names
abbrev pub NamesWord : Bool → Entity → Option (ℕ × ℕ) → Option ℕ → Type 0 → Bit → Type 0
NamesWord true e range word index b = IsWordBit range word b
NamesWord false e range word index b = IsBitOf e b ⊎ index

-- of an index: a bit, but a word of a memory
abbrev pub NamesIndex : Bool → Entity → ℤ → Type 0 → Bit → Type 0
NamesIndex fixed (Constant bits signed) i index b = NamesAt fixed (Constant bits signed) (place (entity_range (Constant bits signed)) i) 1 index b
NamesIndex fixed (Signal id range signed) i index b = NamesAt fixed (Signal id range signed) (place (entity_range (Signal id range signed)) i) 1 index b
NamesIndex fixed (Memory first low words range signed) i index b = NamesWord fixed (Memory first low words range signed) range (word_signal first (word_at low words i)) index b
NamesIndex fixed Instance i index b = NamesAt fixed Instance (place (entity_range Instance) i) 1 index b

-- constants name no bit, so the bounds of a part and the counts of parts and replications are not asked
unfoldable mutual
  pub NamesBit : Names → Tree → Bit → Type 0
  NamesBit s (Name token name) b = IsBitOf (meant s name) b
  NamesBit s (Literal token n) b = ⊥
  NamesBit s (BitSelect token name i) b = NamesIndex (is_none (fault s i true)) (meant s name) (integer_with (form s i) (value s i nowhere)) (NamesBit s i b) b
  NamesBit s (Part token name l r) b = IsBitOf (meant s name) b × IsWithin (place (entity_range (meant s name)) (integer_with (form s r) (value s r nowhere))) (constant_span s l r) b.place
  NamesBit s (Indexed token name f n up) b =
      NamesAt (is_none (fault s f true)) (meant s name) (lowest_place (entity_range (meant s name)) up (integer_with (form s f) (value s f nowhere)) (constant_count s n)) (constant_count s n) (NamesBit s f b) b
  NamesBit s (Unary op t) b = NamesBit s t b
  NamesBit s (Binary op l r) b = NamesBit s l b ⊎ NamesBit s r b
  NamesBit s (Cond a c d) b = NamesBit s a b ⊎ (NamesBit s c b ⊎ NamesBit s d b)
  NamesBit s (Concat ts) b = NamesBits s ts b
  NamesBit s (Repeat n ts) b = NamesBits s ts b
  NamesBit s (Cast signed t) b = NamesBit s t b
  NamesBit s (Paren t) b = NamesBit s t b

  pub NamesBits : Names → Trees → Bit → Type 0
  NamesBits s End b = ⊥
  NamesBits s (More t ts) b = NamesBit s t b ⊎ NamesBits s ts b

-- two environments that agree on the bits that an expression names give it one value
abbrev pub ValueByNamedBits : Type 0
ValueByNamedBits = (s : Names) (t : Tree) (env other : Bit → Bool) → ((b : Bit) → NamesBit s t b → env b ≡ other b) → (w : ℕ) (signed : Bool) → value s t env w signed ≡ value s t other w signed

-- the names that stand in an expression
unfoldable mutual
  pub Occurs : Tree → List ℕ → Type 0
  Occurs (Name token x) name = x ≡ name
  Occurs (Literal token n) name = ⊥
  Occurs (BitSelect token x i) name = (x ≡ name) ⊎ Occurs i name
  Occurs (Part token x l r) name = (x ≡ name) ⊎ (Occurs l name ⊎ Occurs r name)
  Occurs (Indexed token x f n up) name = (x ≡ name) ⊎ (Occurs f name ⊎ Occurs n name)
  Occurs (Unary op t) name = Occurs t name
  Occurs (Binary op l r) name = Occurs l name ⊎ Occurs r name
  Occurs (Cond a b c) name = Occurs a name ⊎ (Occurs b name ⊎ Occurs c name)
  Occurs (Concat ts) name = OccursIn ts name
  Occurs (Repeat n ts) name = Occurs n name ⊎ OccursIn ts name
  Occurs (Cast signed t) name = Occurs t name
  Occurs (Paren t) name = Occurs t name

  pub OccursIn : Trees → List ℕ → Type 0
  OccursIn End name = ⊥
  OccursIn (More t ts) name = Occurs t name ⊎ OccursIn ts name

-- two scopes in which the names of an expression stand for the same
abbrev pub AgreeAt : Names → Names → Tree → Type 0
AgreeAt s u t = (name : List ℕ) → Occurs t name → meant s name ≡ meant u name

-- give it one shape, one value in each environment and context, and one first fault
abbrev pub ShapeByNames : Type 0
ShapeByNames = (s u : Names) (t : Tree) → AgreeAt s u t → form s t ≡ form u t

abbrev pub ValueByNames : Type 0
ValueByNames = (s u : Names) (t : Tree) → AgreeAt s u t → (env : Bit → Bool) (w : ℕ) (signed : Bool) → value s t env w signed ≡ value u t env w signed

abbrev pub FaultByNames : Type 0
FaultByNames = (s u : Names) (t : Tree) → AgreeAt s u t → (constant : Bool) → fault s t constant ≡ fault u t constant
