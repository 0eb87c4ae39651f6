-- The laws of the names of an instance.
use Rattle.std.specs.Prelude.{◌≡◌, ℕ, ◌+◌, ◌<◌, Bool, true, length, Option, Some, Ok}
use Rattle.rr_syntax.specs.Tree.{SourceText}
use Rattle.rr_expr.specs.declared.types.Entity.TheVariants as entity
use Rattle.rr_expr.specs.Scopes.{Names, meant}
use Rattle.rr_flat.specs.Plain.{Flat}
use Rattle.rr_flat.specs.Signals.{Text, signal_at}
use Rattle.rr_flat.specs.Writers.{scope_at}
use Rattle.rr_loop_rules.specs.Rules.{loop_names, contains}
use Rattle.rr_flatten.specs.Walk.{flat_of}
use Rattle.rr_flat_laws.specs.Names.{module_of}
use Rattle.rr_declared_ranges.specs.Ranges.{IsSet, IsMade, AllBy}

-- in each instance each name that its module declares with a range, or with none, stands for a signal with that range, by
-- the values that the parameters have there, and an integer for one of 32 bits; a name with words stands for a memory of these
abbrev pub NamesHaveRanges : Type 0
NamesHaveRanges =
    (source : SourceText) (top : Option Text) (flat : Flat) → flat_of source top ≡ Ok flat → (i : ℕ) → i < length flat.scopes →
    (seen : Names) × AllBy (IsMade (scope_at flat i)) seen (module_of source flat i)

-- a signal that a name of an instance stands for has that name, that instance and that range
pub record IsLocated (flat : Flat) (i id : ℕ) (name : Text) (range : Option (ℕ × ℕ)) : Type 0 where
  pub there : id < length flat.signals
  pub instance : (signal_at flat.signals id).instance ≡ i
  pub named : (signal_at flat.signals id).name ≡ name
  pub ranged : (signal_at flat.signals id).range ≡ range

abbrev pub NamesAreLocated : Type 0
NamesAreLocated =
    (source : SourceText) (top : Option Text) (flat : Flat) → flat_of source top ≡ Ok flat → (i : ℕ) → i < length flat.scopes → (name : Text) (id : ℕ) (range : Option (ℕ × ℕ)) (signed : Bool) →
    meant (scope_at flat i) name ≡ entity.Signal id range signed → IsLocated flat i id name range

-- a word of a memory for which a name of an instance stands is such a signal too, with its index
abbrev pub WordsAreLocated : Type 0
WordsAreLocated =
    (source : SourceText) (top : Option Text) (flat : Flat) → flat_of source top ≡ Ok flat → (i : ℕ) → i < length flat.scopes → (name : Text) (first low words : ℕ) (range : Option (ℕ × ℕ)) (signed : Bool) →
    meant (scope_at flat i) name ≡ entity.Memory first low words range signed → (k : ℕ) → k < words → IsLocated flat i (first + k) name range × ((signal_at flat.signals (first + k)).word ≡ Some (low + k))

-- a name of a loop of an instance's module is an integer there, and so no scalar (sections 3.9 and 9.6)
abbrev pub LoopsAreVectors : Type 0
LoopsAreVectors =
    (source : SourceText) (top : Option Text) (flat : Flat) → flat_of source top ≡ Ok flat → (i : ℕ) → i < length flat.scopes → (name : Text) → contains (loop_names (module_of source flat i)) name ≡ true →
    IsSet (scope_at flat i) name (Some (31, 0))
