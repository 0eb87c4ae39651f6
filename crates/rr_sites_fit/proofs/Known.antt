-- What a flat design has of its source: scalars, one name for each variable, and a clocked block, without loops, for each `always`
-- with edges.
use Rattle.std.proofs.Common.{◌≡◌, ℕ, ◌<◌, true, List, length, Some}
use Rattle.std.specs.List.{AllByRecursion, Contains}
use Rattle.rr_syntax.specs.Tree.{Statement, EventControl, Always, ModuleDeclaration}
use Rattle.rr_expr.specs.Scopes.{meant}
use Rattle.rr_flat.specs.Signals.{Text}
use Rattle.rr_flat.specs.Plain.{Flat}
use Rattle.rr_flat.specs.Targets.{variable_of}
use Rattle.rr_flatten.specs.Walk.{module_at}
use Rattle.rr_flat.specs.Writers.{scope_at, block_at}
use Rattle.rr_flat_laws.specs.Blocks.{unfolded_at}
use Rattle.rr_flat_instance.specs.Places.{owner_at, HasWidth}
use Rattle.rr_instance_laws.specs.Truth.{IsScalar}
use Rattle.rr_change_places.specs.Spots.{has_edges}
use Rattle.rr_lawful_instance.specs.Listed.{items_of}
use Rattle.rr_overwrite.specs.Overwrites.{Target, targets_of, may_overwrite, width_in}
use Rattle.rr_sites_listed.specs.Listing.{scope_of}
use Rattle.rr_guard.specs.Names.{scalars}

-- a clocked block of an instance has a body
abbrev pub HasBlock : Flat → ℕ → Statement → Type 0
HasBlock flat i body = (k : ℕ) × ((k < length flat.clocked) × (((block_at flat.clocked k).scope ≡ i) × ((block_at flat.clocked k).body ≡ body)))

-- in each instance the scalars of its module are scalars
abbrev pub HasScalars : List ModuleDeclaration → Flat → Type 0
HasScalars ms flat = (i : ℕ) → i < length flat.scopes → AllByRecursion (λ y. IsScalar (scope_at flat i) y.text) (scalars (module_at ms (owner_at flat i)))

-- a variable or net, of a memory the whole, has one name in one instance
abbrev pub NamesOnce : Flat → Type 0
NamesOnce flat =
    (i j : ℕ) → i < length flat.scopes → j < length flat.scopes → (x y : Text) (id : ℕ) → variable_of (meant (scope_at flat i) x) ≡ Some id → variable_of (meant (scope_at flat j) y) ≡ Some id →
    (i ≡ j) × (x ≡ y)

-- each `always` with edges has a block, without its loops, in each instance of its module
abbrev pub HasBlocks : List ModuleDeclaration → Flat → Type 0
HasBlocks ms flat =
    (i : ℕ) → i < length flat.scopes → (events : EventControl) (body : Statement) (at : ℕ) → Contains (items_of ms (owner_at flat i)) (Always events body at) → has_edges events ≡ true →
    HasBlock flat i (unfolded_at flat i body)

-- a variable that may be overwritten has in each instance the width that it has in the first one
abbrev pub HasWidths : List ModuleDeclaration → Flat → Type 0
HasWidths ms flat =
    (i : ℕ) → i < length flat.scopes → (events : EventControl) (body : Statement) (at : ℕ) → Contains (items_of ms (owner_at flat i)) (Always events body at) →
    AllByRecursion (λ (t : Target). may_overwrite (module_at ms (owner_at flat i)) t ≡ true → HasWidth (scope_at flat i) t.text (width_in (scope_of flat.scopes flat.owners (owner_at flat i)) t.text)) (targets_of body)

pub record Known (ms : List ModuleDeclaration) (flat : Flat) : Type 0 where
  pub scalars_in : HasScalars ms flat
  pub once : NamesOnce flat
  pub blocks : HasBlocks ms flat
  pub widths : HasWidths ms flat
