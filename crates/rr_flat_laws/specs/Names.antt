-- Which signals of a flat design are the names of an instance (IEEE 1364-2005 sections 3.2, 3.3, 4.9.3 and 12.3).
use Rattle.std.specs.Prelude.{◌≡◌, ℕ, ◌+◌, ◌<◌, ◌≤◌, Bool, true, false, length, get_or, Option, Some, None, is_some}
use Rattle.std.specs.List.{Contains}
use Rattle.rr_syntax.specs.Tree.{PortDeclaration, ModuleDeclaration, SourceText}
use Rattle.rr_expr.specs.Scopes.{lookup}
use Rattle.rr_expr.specs.declared.types.Entity.TheVariants as entity
use Rattle.rr_flat.specs.declared.signal.Port.{Port}
use Rattle.rr_flat.specs.declared.signal.Port.TheVariants.{Inner}
use Rattle.rr_flat.specs.Plain.{Flat}
use Rattle.rr_flat.specs.Signals.{Text, Signal, signal_at}
use Rattle.rr_flat.specs.Sound.{IsWord}
use Rattle.rr_flat.specs.Writers.{scope_at, entity_of_signal}
use Rattle.rr_flatten.specs.Walk.{module_at}
use Rattle.rr_flat_laws.specs.Declared.{ports_by, HasDeclaration, way_of, DeclaresAs, ports_of}

-- the module of an instance
abbrev pub module_of : SourceText → Flat → ℕ → ModuleDeclaration
module_of source flat i = module_at source.modules (get_or flat.owners i 0)

-- an input or an output
abbrev pub IsPort : Signal → Type 0
IsPort s = s.port ≡ Inner → ⊥

-- a signal by its number is one of instance i, with this name
pub record IsSignalOf (flat : Flat) (i : ℕ) (name : Text) (id : ℕ) : Type 0 where
  pub there : id < length flat.signals
  pub instance : (signal_at flat.signals id).instance ≡ i
  pub named : (signal_at flat.signals id).name ≡ name

-- there is exactly one, and in that instance the name stands for it
pub record IsOneSignal (flat : Flat) (i : ℕ) (name : Text) : Type 0 where
  pub id : ℕ
  pub is : IsSignalOf flat i name id
  pub alone : (other : ℕ) → IsSignalOf flat i name other → other ≡ id
  pub found : lookup name (scope_at flat i) ≡ Some (entity_of_signal flat id)
  pub whole : (signal_at flat.signals id).word ≡ None

-- from one number on there is a signal for each of its words, in the order of their indices, and there are no others; in that
-- instance the name stands for that memory (sections 4.9.3 and 5.2.2)
pub record IsOneMemory (flat : Flat) (i : ℕ) (name : Text) : Type 0 where
  pub first : ℕ
  pub low : ℕ
  pub words : ℕ
  pub range : Option (ℕ × ℕ)
  pub signed : Bool
  pub some : 1 ≤ words
  pub is : (k : ℕ) → k < words → IsSignalOf flat i name (first + k)
  pub word : (k : ℕ) → k < words → IsWord low range signed k (signal_at flat.signals (first + k))
  pub alone : (other : ℕ) → IsSignalOf flat i name other → (first ≤ other) × (other < first + words)
  pub found : lookup name (scope_at flat i) ≡ Some (entity.Memory first low words range signed)

-- a signal is one of an instance that there is, whose module declares its name: a word where this is a memory; no port has words
pub record IsOfInstance (source : SourceText) (flat : Flat) (s : Signal) : Type 0 where
  pub there : s.instance < length flat.owners
  pub declared : DeclaresAs (module_of source flat s.instance) (is_some s.word) s.name
  pub whole : IsPort s → s.word ≡ None

-- an input or output of an instance with this name
pub record IsPortNamed (flat : Flat) (i : ℕ) (name : Text) : Type 0 where
  pub id : ℕ
  pub is : IsSignalOf flat i name id
  pub port : IsPort (signal_at flat.signals id)

-- a signal of an instance with this name goes this way
pub record GoesWay (flat : Flat) (i : ℕ) (name : Text) (way : Port) : Type 0 where
  pub id : ℕ
  pub is : IsSignalOf flat i name id
  pub goes : (signal_at flat.signals id).port ≡ way

-- the names of each instance's module and the signals are one to one, but for memories, which have a signal for each word; the ports
-- are the inputs and outputs, as they are declared
pub record NamesAre (source : SourceText) (flat : Flat) : Type 0 where
  pub one : (i : ℕ) (name : Text) → i < length flat.owners → DeclaresAs (module_of source flat i) false name → IsOneSignal flat i name
  pub memory : (i : ℕ) (name : Text) → i < length flat.owners → DeclaresAs (module_of source flat i) true name → IsOneMemory flat i name
  pub named : (id : ℕ) → id < length flat.signals → IsOfInstance source flat (signal_at flat.signals id)
  pub ports : (i : ℕ) (name : Text) → i < length flat.owners → Contains (ports_of (module_of source flat i)) name → IsPortNamed flat i name
  pub ways : (i : ℕ) (p : PortDeclaration) (name : Text) → i < length flat.owners → HasDeclaration (module_of source flat i) p → Contains (ports_by p) name → GoesWay flat i name (way_of p.dir)
  pub listed : (id : ℕ) → id < length flat.signals → IsPort (signal_at flat.signals id) → Contains (ports_of (module_of source flat (signal_at flat.signals id).instance)) (signal_at flat.signals id).name
