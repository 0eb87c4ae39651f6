-- Which names are noted for the blocks that keep one of their bits, as the code finds them.
use Rattle.std.specs.Prelude.{◌≡◌, ◌<◌, ◌≤◌, ◌⊎◌, ℕ, ◌+◌, List, Bool, true, false, ◌&&◌, Option, Some, None, nat_eq, nat_lt}
use Rattle.std.specs.List.{list_any}
use Rattle.std.specs.Str.{bytes_eq}
use Rattle.rr_syntax.specs.Tree.{Statement}
use Rattle.rr_expr.specs.declared.types.Bit.{Bit}
use Rattle.rr_expr.specs.declared.types.Entity.{Entity}
use Rattle.rr_expr.specs.declared.types.Entity.TheVariants.{Constant, Signal, Memory, Instance}
use Rattle.rr_expr.specs.Scopes.{Names, meant, range_width}
use Rattle.rr_flat.specs.Reads.{Assigned}
use Rattle.rr_flat.specs.Targets.{is_bit_of, is_memory, part_name}
use Rattle.rr_latch.specs.Immediate.{immediate}
use Rattle.rr_latch.specs.Unassigned.{KeepsBit}
use Rattle.rr_lint_laws.specs.Mended.{Marks, target_names}

-- the names that are noted, each with the token of an `always`
abbrev pub Noted : Type 0
Noted = List (ℕ × List ℕ)

abbrev pub marks : Noted → Marks
marks noted token name = list_any (λ k. nat_eq token k.0 && bytes_eq name k.1) noted

-- a place below a width
abbrev pub is_below : ℕ → Option ℕ → Bool
is_below width None = false
is_below width (Some place) = nat_lt place width

-- by the lowest places of signals: whether one of the bits that a name stands for is there; a memory is not cleared
abbrev pub is_low : (ℕ → Option ℕ) → Entity → Bool
is_low lows (Constant bits signed) = false
is_low lows (Signal id range signed) = is_below (range_width range) (lows id)
is_low lows (Memory first low words range signed) = false
is_low lows Instance = false

-- a bit of a signal below a width, the lowest of its signal; the signal is one of so many from a first one on
pub record IsLowFrom (lows : ℕ → Option ℕ) (first words width : ℕ) (bit : Bit) : Type 0 where
  pub from : first ≤ bit.signal
  pub to : bit.signal < first + words
  pub below : bit.place < width
  pub low : lows bit.signal ≡ Some bit.place

-- the lowest bit of a word of the memory that a name stands for
pub record IsLowWord (lows : ℕ → Option ℕ) (e : Entity) (bit : Bit) : Type 0 where
  pub memory : is_memory e ≡ true
  pub named : is_bit_of e bit ≡ true
  pub low : lows bit.signal ≡ Some bit.place

abbrev pub HasNoLowWord : (ℕ → Option ℕ) → Entity → Type 0
HasNoLowWord lows e = (bit : Bit) → IsLowWord lows e bit → ⊥

-- one of these targets has the name
abbrev pub is_target : List Assigned → List ℕ → Bool
is_target targets name = list_any (λ a. bytes_eq name (part_name a.part)) targets

-- the lowest bit of a word of a memory that one of these targets names
pub record IsLowTarget (names : Names) (lows : ℕ → Option ℕ) (targets : List Assigned) (bit : Bit) : Type 0 where
  pub name : List ℕ
  pub target : is_target targets name ≡ true
  pub low : IsLowWord lows (meant names name) bit

abbrev pub HaveNoLowWord : Names → (ℕ → Option ℕ) → List Assigned → Type 0
HaveNoLowWord names lows targets = (name : List ℕ) → is_target targets name ≡ true → HasNoLowWord lows (meant names name)

-- the target that a block assigns has this name, which the block keeps a bit of
abbrev pub is_noted : Names → (ℕ → Option ℕ) → ℕ → ℕ → List ℕ → Assigned → Bool
is_noted names lows block token name a = nat_eq token block && (bytes_eq name (part_name a.part) && is_low lows (meant names (part_name a.part)))

-- a name of a target of a block with this token, of which the block keeps a bit where it assigns by `=` alone
pub record IsKept (names : Names) (body : Statement) (block token : ℕ) (name : List ℕ) : Type 0 where
  pub is : block ≡ token
  pub target : list_any (bytes_eq name) (target_names body) ≡ true
  pub bit : Bit
  pub named : is_bit_of (meant names name) bit ≡ true
  pub keeps : KeepsBit names (immediate body) bit

-- a bit of a memory that is a target of a block, which the block keeps where it assigns by `=` alone
pub record IsKeptWord (names : Names) (body : Statement) (bit : Bit) : Type 0 where
  pub name : List ℕ
  pub target : list_any (bytes_eq name) (target_names body) ≡ true
  pub memory : is_memory (meant names name) ≡ true
  pub named : is_bit_of (meant names name) bit ≡ true
  pub keeps : KeepsBit names (immediate body) bit

abbrev pub HasNoKeptWord : Names → Statement → Type 0
HasNoKeptWord names body = (bit : Bit) → IsKeptWord names body bit → ⊥

-- such names have been noted, and no others
pub record NotesKept (names : Names) (body : Statement) (block : ℕ) (before after : Marks) : Type 0 where
  pub right : (token : ℕ) (name : List ℕ) → after token name ≡ true → (before token name ≡ true) ⊎ IsKept names body block token name
  pub all : (token : ℕ) (name : List ℕ) → (before token name ≡ true) ⊎ IsKept names body block token name → after token name ≡ true
