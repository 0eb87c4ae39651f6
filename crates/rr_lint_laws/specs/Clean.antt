-- Sources without the two faults of combinational blocks.
use Rattle.std.specs.Prelude.{◌≡◌, ◌<◌, ℕ, true, List, length, nat_eq, Option, Ok, All}
use Rattle.std.specs.List.{AllByRecursion, list_any}
use Rattle.rr_syntax.specs.Tree.{Statement, EventControl, Star, Edges, Levels, ModuleItem, Ports, Nets, Variables, Integers, Parameters, Assigns, Always, Initial, Instances, SourceText}
use Rattle.rr_flat.specs.Lawful.{NoLatches}
use Rattle.rr_flat.specs.Plain.{Flat}
use Rattle.rr_flat.specs.Signals.{Text}
use Rattle.rr_flatten.specs.Walk.{flat_of, module_at}
use Rattle.rr_lint_laws.specs.Ever.{ever_assigned}

-- a body that assigns by `=` alone, in its loops too (IEEE 1364-2005 sections 9.2.1 and 9.6)
abbrev pub IsImmediate : Statement → Type 0
IsImmediate body = All (λ a. a.now ≡ true) (ever_assigned body)

-- where it waits for no edge
abbrev pub IsImmediateAt : EventControl → Statement → Type 0
IsImmediateAt (Star brackets) body = IsImmediate body
IsImmediateAt (Edges list commas) body = Unit {0}
IsImmediateAt (Levels list commas) body = IsImmediate body

abbrev pub HasImmediate : ModuleItem → Type 0
HasImmediate (Ports p) = Unit {0}
HasImmediate (Nets signed range list) = Unit {0}
HasImmediate (Variables signed range list) = Unit {0}
HasImmediate (Integers list) = Unit {0}
HasImmediate (Parameters p) = Unit {0}
HasImmediate (Assigns pairs) = Unit {0}
HasImmediate (Always events body token) = IsImmediateAt events body
HasImmediate (Initial body token) = Unit {0}
HasImmediate (Instances m token overrides list) = Unit {0}

-- each `always` without edges of the modules with these numbers
abbrev pub AllImmediate : List ℕ → SourceText → Type 0
AllImmediate numbers s = (k : ℕ) → k < length s.modules → list_any (nat_eq k) numbers ≡ true → AllByRecursion HasImmediate (module_at s.modules k).items

-- The source has a flat design, no `<=` assigns in a combinational block of a module that has an instance, and no combinational
-- block keeps a value.
pub record IsClean (source : SourceText) (top : Option Text) : Type 0 where
  pub flat : Flat
  pub design : flat_of source top ≡ Ok flat
  pub immediate : AllImmediate flat.reached source
  pub no_latches : NoLatches flat
