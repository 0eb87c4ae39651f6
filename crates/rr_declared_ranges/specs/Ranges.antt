-- What the names that a module declares stand for in an instance: signals with the declared ranges, and memories with the declared
-- words (IEEE 1364-2005 sections 3.2, 3.3.1, 3.9, 4.9.3 and 12.3.3).
use Rattle.std.specs.Prelude.{◌≡◌, ℕ, Bool, false, List, map, Option, Some, None, Ok, nat_lt}
use Rattle.std.specs.List.{AllByRecursion}
use Rattle.rr_syntax.specs.Tree.{Identifier, DeclaredName, Range, ModuleItem, Ports, Nets, Variables, Integers, Parameters, Assigns, Always, Initial, Instances, ModuleDeclaration}
use Rattle.rr_expr.specs.declared.types.Entity.TheVariants as entity
use Rattle.rr_expr.specs.Scopes.{Names, meant, range_width}
use Rattle.rr_flat.specs.Signals.{Text}
use Rattle.rr_memory_words.specs.Words.{words_of}
use Rattle.rr_declarations.specs.Values.{range_in}

-- a name stands for a signal with that range, which has at most 128 bits
pub record IsSet (scope : Names) (name : Text) (range : Option (ℕ × ℕ)) : Type 0 where
  pub id : ℕ
  pub signed : Bool
  pub means : meant scope name ≡ entity.Signal id range signed
  pub narrow : nat_lt 128 (range_width range) ≡ false

-- a name stands for a memory, of which each word has that range, with at most 128 bits; it has at most 256 words, as many as told
-- from the lowest index that is told
pub record IsStored (scope : Names) (name : Text) (range : Option (ℕ × ℕ)) (words : ℕ × ℕ) : Type 0 where
  pub first : ℕ
  pub signed : Bool
  pub means : meant scope name ≡ entity.Memory first words.0 words.1 range signed
  pub narrow : nat_lt 128 (range_width range) ≡ false
  pub few : nat_lt 256 words.1 ≡ false

-- the one where there are no words, else the other
abbrev pub IsMade : Names → Text → Option (ℕ × ℕ) → Option (ℕ × ℕ) → Type 0
IsMade scope name range None = IsSet scope name range
IsMade scope name range (Some words) = IsStored scope name range words

-- a declared name without its value
abbrev pub net_name : DeclaredName → Identifier
net_name n = record { token = n.token; text = n.text }

-- P holds of a name and of the value that its range has where these names are seen, without words
abbrev pub IsBy : (Text → Option (ℕ × ℕ) → Option (ℕ × ℕ) → Type 0) → Names → Option Range → Text → Type 0
IsBy P seen o name = (r : Option (ℕ × ℕ)) × ((range_in seen o ≡ Ok r) × P name r None)

abbrev pub AreBy : (Text → Option (ℕ × ℕ) → Option (ℕ × ℕ) → Type 0) → Names → Option Range → List Identifier → Type 0
AreBy P seen o list = AllByRecursion (λ (y : Identifier). IsBy P seen o y.text) list

-- or with the words that the values of their bounds tell
abbrev pub IsVariableBy : (Text → Option (ℕ × ℕ) → Option (ℕ × ℕ) → Type 0) → Names → Option Range → Option Range → Text → Type 0
IsVariableBy P seen o None name = IsBy P seen o name
IsVariableBy P seen o (Some w) name = (r : Option (ℕ × ℕ)) × ((bounds : ℕ × ℕ) × ((range_in seen o ≡ Ok r) × (range_in seen (Some w) ≡ Ok (Some bounds)) × P name r (words_of (Some bounds))))

abbrev pub AreVariablesBy : (Text → Option (ℕ × ℕ) → Option (ℕ × ℕ) → Type 0) → Names → Option Range → List DeclaredName → Type 0
AreVariablesBy P seen o list = AllByRecursion (λ (n : DeclaredName). IsVariableBy P seen o n.words n.text) list

-- so it is of each name that an item declares, of which the variables alone have words; an `integer` has no range in the text, and 32
-- bits (section 3.9)
abbrev pub ItemBy : (Text → Option (ℕ × ℕ) → Option (ℕ × ℕ) → Type 0) → Names → ModuleItem → Type 0
ItemBy P seen (Ports p) = AreBy P seen p.range (map net_name p.names)
ItemBy P seen (Nets signed range list) = AreBy P seen range (map net_name list)
ItemBy P seen (Variables signed range list) = AreVariablesBy P seen range list
ItemBy P seen (Integers list) = AllByRecursion (λ (y : Identifier). P y.text (Some (31, 0)) None) list
ItemBy P seen (Parameters p) = Unit {0}
ItemBy P seen (Assigns pairs) = Unit {0}
ItemBy P seen (Always events body token) = Unit {0}
ItemBy P seen (Initial body token) = Unit {0}
ItemBy P seen (Instances m token overrides list) = Unit {0}

-- and of each that a module declares
pub record AllBy (P : Text → Option (ℕ × ℕ) → Option (ℕ × ℕ) → Type 0) (seen : Names) (m : ModuleDeclaration) : Type 0 where
  pub groups : AllByRecursion (λ p. AreBy P seen p.range (map net_name p.names)) m.groups
  pub items : AllByRecursion (ItemBy P seen) m.items
