-- What is kept of a module to tell its variables.
use Rattle.std.specs.Prelude.{◌≡◌, Bool, true, not, ◌&&◌, ◌||◌, List, IsTrue}
use Rattle.std.specs.List.{list_any}
use Rattle.rr_syntax.specs.Tree.{ModuleDeclaration}
use Rattle.rr_expr.specs.Faults.{is_width}
use Rattle.rr_expr.specs.Scopes.{Names}
use Rattle.rr_flat.specs.Signals.{Text}
use Rattle.rr_guard.specs.Candidates.{is_among}
use Rattle.rr_overwrite.specs.declared.targets.WholeTarget.{WholeTarget}
use Rattle.rr_overwrite.specs.declared.variables.Variables.{Variables}
use Rattle.rr_overwrite.specs.Overwrites.{Target, is_variable, port_opens, item_opens, width_in}

-- a target in the arena
abbrev pub plain_whole : WholeTarget → Target
plain_whole t = record { text = t.name.now; now = t.blocking }

-- the sets have the variables, and the names that are an `integer` or have a range in which a name stands
pub record AreVariables (m : ModuleDeclaration) (v : Variables) : Type 0 where
  pub declared : (name : Text) → is_among name v.declared ≡ is_variable m name
  pub barred : (name : Text) → is_among name v.barred ≡ (list_any (port_opens name) m.groups || list_any (item_opens name) m.items)

-- whether a last assignment may write a variable, by them
abbrev pub may_be : Variables → Target → Bool
may_be v t = is_among t.text v.declared && not (is_among t.text v.barred)

-- each variable has 1 to 128 bits in the scope of an instance
abbrev pub AreFit : ModuleDeclaration → Names → Type 0
AreFit m scope = (name : Text) → is_variable m name ≡ true → IsTrue (is_width (width_in scope name))

-- targets whose variables were not met, each once
abbrev pub new_target : List Text → Target → Bool
new_target seen t = not (is_among t.text seen)
