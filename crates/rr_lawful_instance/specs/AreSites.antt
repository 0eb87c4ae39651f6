-- What a list of sites is for a flat design whose instances keep the laws: where a site stands in the design, its names are
-- such as a guard may be there. So it is with the sites that are listed for a design; a site of a module stands in each
-- instance of that module.
use Rattle.std.specs.Prelude.{ℕ, ◌<◌, ◌≡◌, List, length, Bool, true, Option, Some, None}
use Rattle.std.specs.List.{All, Contains}
use Rattle.rr_syntax.specs.Tree.{Name, Statement}
use Rattle.rr_expr.specs.declared.types.Entity.TheVariants.{Signal as SignalEntity}
use Rattle.rr_expr.specs.Scopes.{meant}
use Rattle.rr_flat.specs.Signals.{Text}
use Rattle.rr_flat.specs.Clocks.{OneClock, NameLeads}
use Rattle.rr_flat.specs.Lawful.{AssignedIn}
use Rattle.rr_flat.specs.Plain.{Side, Written, Whole, Block, Flat}
use Rattle.rr_flat.specs.Reads.{assigned_by}
use Rattle.rr_flat.specs.Writers.{scope_at, driver_at, block_at, writes_later}
use Rattle.rr_instance.specs.Firsts.{first_token}
use Rattle.rr_choice.specs.Places.{is_overwrite_at}
use Rattle.rr_choice.specs.Sites as sites
use Rattle.rr_choice.specs.Sites.{SiteKind, Site}
use Rattle.rr_instance_laws.specs.Tests.{IsGuardName, IsBodyName}

-- Names

-- the clock of the design with this word
abbrev pub IsClock : Flat → Option Text → ℕ → Type 0
IsClock flat word clock = (rising : Bool) × OneClock flat word (Some clock) rising

-- a clocked block writes a scalar by `<=`
abbrev pub IsRegister : Flat → ℕ → Type 0
IsRegister flat id = (k : ℕ) × ((k < length flat.clocked) × (writes_later flat (block_at flat.clocked k) (record { signal = id; place = 0 }) ≡ true))

-- a name that a guard in a clocked block may be: a signal without a range, which does not lead to the clock and which no
-- clocked block writes by `=`
pub record MayGuard (flat : Flat) (word : Option Text) (scope : ℕ) (name : Text) : Type 0 where
  pub signal : ℕ
  pub signed : Bool
  pub scalar : meant (scope_at flat scope) name ≡ SignalEntity signal None signed
  pub no_clock : (clock : ℕ) → IsClock flat word clock → NameLeads flat clock scope name → ⊥
  pub not_now : (k : ℕ) → k < length flat.clocked → AssignedIn flat (block_at flat.clocked k) signal true → ⊥

-- elsewhere it is a register too
pub record MayGuardElsewhere (flat : Flat) (word : Option Text) (scope : ℕ) (name : Text) : Type 0 where
  pub guard : MayGuard flat word scope name
  pub register : IsRegister flat guard.signal

-- Places

-- a variable stands in a statement as a whole target, of an assignment by `=` where `now`
abbrev pub IsTargetOf : Statement → Text → Bool → Type 0
IsTargetOf t name now = (token : ℕ) × Contains (assigned_by t) (record { part = Name token name; now = now })

abbrev pub TargetStands : Statement → SiteKind → Type 0
TargetStands body (sites.Literal width signed) = Unit {0}
TargetStands body (sites.Guard owner extent names) = Unit {0}
TargetStands body (sites.Overwrite owner target width now names) = IsTargetOf body target now

-- P holds of the names of the guards and overwrites of a block, and the targets of these stand in its body
pub record BlockFits (P : Text → Type 0) (ss : List Site) (block : Block) : Type 0 where
  pub names : (name : Text) → IsBodyName ss (first_token block.body) block.body name → P name
  pub targets : All (λ s. is_overwrite_at (first_token block.body) s ≡ true → TargetStands block.body s.kind) ss

abbrev pub SideFits : Flat → Option Text → List Site → Side → Type 0
SideFits flat word ss (Written t i) = (name : Text) → IsGuardName ss t name → MayGuardElsewhere flat word i name
SideFits flat word ss (Whole id) = Unit {0}

pub record AreSitesOf (flat : Flat) (word : Option Text) (ss : List Site) : Type 0 where
  pub drivers : (k : ℕ) → k < length flat.drivers → SideFits flat word ss (driver_at flat k).value
  pub clocked : (k : ℕ) → k < length flat.clocked → BlockFits (MayGuard flat word (block_at flat.clocked k).scope) ss (block_at flat.clocked k)
  pub combinational : (k : ℕ) → k < length flat.combinational →
      BlockFits (MayGuardElsewhere flat word (block_at flat.combinational k).scope) ss (block_at flat.combinational k)
