-- A design in its walk, and what stays as it grows.
use Rattle.std.specs.Prelude.{◌≡◌, ℕ, ◌<◌, ◌≤◌, List, length, map}
use Rattle.std.specs.List.{AllByRecursion}
use Rattle.rr_syntax.specs.Items.{WellFormedModule, FitLiteralsModule}
use Rattle.rr_syntax.specs.Tree.{ModuleDeclaration}
use Rattle.rr_syntax.specs.View.{plain_module}
use Rattle.rr_declarations.specs.Sound.{ArePlaces}
use Rattle.rr_flatten.specs.declared.items.Walked.{Walked as DeclaredWalked}
use Rattle.rr_flatten.specs.declared.walk.Walk.{Walk}
use Rattle.rr_flat.specs.Sound.{names_at}
use Rattle.rr_flat.specs.View.{plain_flat}
use Rattle.rr_unfold.specs.View.{plain_counts}
use Rattle.rr_flatten.specs.Walk.{Walked}

abbrev pub plain_walked : DeclaredWalked → Walked
plain_walked w = record { flat = plain_flat w.flat; bits = w.bits; limit = w.limit; count = plain_counts w.counts; loops = w.loops.items }

-- the same instances, signals, flat bits and names of loops
pub record IsSame (old new : DeclaredWalked) : Type 0 where
  pub scopes : new.flat.scopes ≡ old.flat.scopes
  pub signals : new.flat.signals ≡ old.flat.signals
  pub bits : new.bits ≡ old.bits
  pub loops : new.loops.items ≡ old.loops.items

-- the names of the loops of each instance are there
abbrev pub HasLoops : DeclaredWalked → Type 0
HasLoops w = length w.loops.items ≡ length w.flat.scopes

-- instances came after those that there are, and those before number n have the same names
pub record Keeps (n : ℕ) (old new : DeclaredWalked) : Type 0 where
  pub grown : length old.flat.scopes ≤ length new.flat.scopes
  pub few : new.bits ≤ 65536
  pub loops : HasLoops new
  pub same : (j : ℕ) → j < n → names_at new.flat.scopes j ≡ names_at old.flat.scopes j

-- the modules of a walk as plain trees
abbrev pub modules_of : Walk → List ModuleDeclaration
modules_of walk = map plain_module walk.modules.now

-- the modules of a source that is well-formed, with literals of 1 to 128 bits, and a table that gives names their places
pub record IsReady (walk : Walk) : Type 0 where
  pub places : ArePlaces (length walk.modules.now) walk.table
  pub formed : AllByRecursion WellFormedModule (modules_of walk)
  pub fit : AllByRecursion FitLiteralsModule (modules_of walk)
