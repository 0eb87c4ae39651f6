-- What is true of each site as it is listed: its names are such as a guard may be in the item in which it stands, and the
-- target of an overwrite stands in the `always` whose body it follows.
use Rattle.std.specs.Prelude.{ℕ, zero, suc, ◌+◌, ◌<◌, ◌≤◌, ◌≡◌, List, [], ◌∷◌, length, Bool, true, false, Option, slice_index_or}
use Rattle.std.specs.List.{All, AllByRecursion}
use Rattle.rr_syntax.specs.Items.{spell_item, spell_parameters, spell_ports, spell_source, WellFormedSource, NumberedSource}
use Rattle.rr_syntax.specs.Tree.{ModuleItem, Ports, Nets, Variables, Integers, Parameters, Assigns, Always, Initial, Instances, ModuleDeclaration, SourceText}
use Rattle.rr_change_places.specs.Spots.{is_clocked}
use Rattle.rr_flat.specs.Signals.{Text}
use Rattle.rr_flat.specs.Plain.{Flat}
use Rattle.rr_flatten.specs.Walk.{module_at}
use Rattle.rr_flat_instance.specs.Owned.{start_of, InEach, IsFree, IsNumberAt}
use Rattle.rr_flat_instance.specs.Places.{HasWidth, owner_at}
use Rattle.rr_choice.specs.Sites as sites
use Rattle.rr_choice.specs.Sites.{SiteKind, Site, guard_names}
use Rattle.rr_lawful_instance.specs.AreSites.{MayGuard, MayGuardElsewhere, TargetStands}

-- a name that a guard may be in an item, in the instance of a scope
abbrev pub MayGuardIf : Bool → Flat → Option Text → ℕ → Text → Type 0
MayGuardIf true flat word i name = MayGuard flat word i name
MayGuardIf false flat word i name = MayGuardElsewhere flat word i name

abbrev pub MayGuardIn : ModuleItem → Flat → Option Text → ℕ → Text → Type 0
MayGuardIn x flat word i name = MayGuardIf (is_clocked x) flat word i name

-- item n of module k, and the number of its first token
abbrev pub items_of : List ModuleDeclaration → ℕ → List ModuleItem
items_of ms k = (module_at ms k).items

abbrev pub no_item : ModuleItem
no_item = Integers []

abbrev pub item_at : List ModuleDeclaration → ℕ → ℕ → ModuleItem
item_at ms k n = slice_index_or (items_of ms k) n no_item

unfoldable pub items_before : List ModuleItem → ℕ → ℕ
items_before [] n = 0
items_before (x ∷ xs) zero = 0
items_before (x ∷ xs) (suc n) = length (spell_item x) + items_before xs n

abbrev pub item_start : List ModuleDeclaration → ℕ → ℕ → ℕ
item_start ms k n =
    start_of ms k + 2 + length (spell_parameters (module_at ms k).params) + length (spell_ports (module_at ms k).header (module_at ms k).groups) + 1 + items_before (items_of ms k) n

-- a token stands in it
pub record StandsIn (ms : List ModuleDeclaration) (k n token : ℕ) : Type 0 where
  pub there : n < length (items_of ms k)
  pub after : item_start ms k n ≤ token
  pub before : token < item_start ms k n + length (spell_item (item_at ms k n))

-- the body of an `always`, in which a target must stand
abbrev pub TargetFits : ModuleItem → SiteKind → Type 0
TargetFits (Ports p) kind = Unit {0}
TargetFits (Nets signed range list) kind = Unit {0}
TargetFits (Variables signed range list) kind = Unit {0}
TargetFits (Integers list) kind = Unit {0}
TargetFits (Parameters p) kind = Unit {0}
TargetFits (Assigns pairs) kind = Unit {0}
TargetFits (Always events body token) kind = TargetStands body kind
TargetFits (Initial body token) kind = Unit {0}
TargetFits (Instances m token overrides list) kind = Unit {0}

-- a guard or an overwrite of the module with this number stands in an item of it; its names are such as a guard may be there
-- in each instance of the module
pub record IsRight (source : SourceText) (flat : Flat) (word : Option Text) (owner token : ℕ) (kind : SiteKind) : Type 0 where
  pub item : ℕ
  pub stands : StandsIn source.modules owner item token
  pub names : (i : ℕ) → i < length flat.scopes → owner_at flat i ≡ owner → All (MayGuardIn (item_at source.modules owner item) flat word i) (guard_names kind)
  pub target : TargetFits (item_at source.modules owner item) kind

-- by kind: a literal stands where a number does, and brings nothing; a variable has the width of its overwrite, and names no loop
abbrev pub KindIsRight : SourceText → Flat → Option Text → ℕ → SiteKind → Type 0
KindIsRight source flat word token (sites.Literal width signed) = IsNumberAt (spell_source source) token width signed
KindIsRight source flat word token (sites.Guard owner extent names) = IsRight source flat word owner token (sites.Guard owner extent names)
KindIsRight source flat word token (sites.Overwrite owner target width now names) =
    IsRight source flat word owner token (sites.Overwrite owner target width now names) × InEach flat owner (λ scope. HasWidth scope target width × IsFree source.modules owner target)

-- of a source that is well-formed and whose leaves have the numbers of their tokens
pub record AreRight (source : SourceText) (flat : Flat) (word : Option Text) (ss : List Site) : Type 0 where
  pub formed : WellFormedSource source
  pub numbered : NumberedSource source
  pub each : AllByRecursion (λ s. KindIsRight source flat word s.token s.kind) ss
