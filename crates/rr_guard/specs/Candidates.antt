-- What is kept of a module to tell the names of its guards.
use Rattle.std.specs.Prelude.{◌≡◌, ℕ, ◌≤◌, Bool, true, false, not, ◌&&◌, ◌||◌, if◌then◌else◌, List, [], ◌∷◌, map}
use Rattle.std.specs.List.{list_any}
use Rattle.std.specs.Str.{bytes_eq}
use Rattle.rr_syntax.specs.Tree.{Identifier, ModuleDeclaration}
use Rattle.rr_syntax.specs.View.{plain_identifier}
use Rattle.rr_flat.specs.Signals.{Text}
use Rattle.rr_guard.specs.declared.candidates.GuardNames.{GuardNames}
use Rattle.rr_guard.specs.declared.candidates.Uses.{Uses}
use Rattle.rr_guard.specs.Names.{first_names, names_at, writes_now, writes_later}

abbrev pub is_among : Text → List Text → Bool
is_among name list = list_any (bytes_eq name) list

-- the sets have the names of the clock, and what clocked blocks write
pub record AreUses (m : ModuleDeclaration) (clocks : List Text) (u : Uses) : Type 0 where
  pub clock : (name : Text) → is_among name u.clocks ≡ is_among name clocks
  pub now : (name : Text) → is_among name u.at_once ≡ writes_now m name
  pub later : (name : Text) → is_among name u.later ≡ writes_later m name

-- whether a guard may be a name, by them
abbrev pub may_be : Uses → Bool → Text → Bool
may_be u clocked name = not (is_among name u.clocks) && (not (is_among name u.at_once) && (clocked || is_among name u.later))

abbrev pub chosen : Uses → Bool → Identifier → List Identifier
chosen u clocked x = if may_be u clocked x.text then x ∷ [] else []

-- no name is declared before another that it follows, and none before a token
unfoldable pub Rising : ℕ → List Identifier → Type 0
Rising last [] = Unit {0}
Rising last (x ∷ xs) = (last ≤ x.token) × Rising x.token xs

-- the lists tell the names at each token, in a clocked block and elsewhere
pub record AreGuardNames (m : ModuleDeclaration) (clocks : List Text) (g : GuardNames) : Type 0 where
  pub clocked : (token : ℕ) → first_names (map plain_identifier g.clocked.items) token ≡ names_at m clocks true token
  pub elsewhere : (token : ℕ) → first_names (map plain_identifier g.elsewhere.items) token ≡ names_at m clocks false token
