-- What is true of each site as it is listed: it stands in its own module, and what it brings is declared in each
-- instance of that module, and names no loop of it; a literal stands where a number does.
use Rattle.std.specs.Prelude.{◌≡◌, ℕ, zero, suc, ◌+◌, ◌<◌, Bool, true, false, List, [], ◌∷◌, length, get_or}
use Rattle.std.specs.List.{All, AllByRecursion}
use Rattle.rr_syntax.specs.declared.token.Number.{Number}
use Rattle.rr_syntax.specs.Items.{spell_module, spell_source, WellFormedSource, NumberedSource}
use Rattle.rr_syntax.specs.Tree.{ModuleDeclaration, SourceText}
use Rattle.rr_syntax.specs.Words.{Word, Digits, Marked}
use Rattle.rr_expr.specs.Scopes.{Names}
use Rattle.rr_flat.specs.Lawful.{RightTargets}
use Rattle.rr_flat.specs.Plain.{Flat}
use Rattle.rr_flatten.specs.Walk.{module_at}
use Rattle.rr_flat.specs.Writers.{scope_at}
use Rattle.rr_choice.specs.Sites as sites
use Rattle.rr_choice.specs.Sites.{SiteKind, Site}
use Rattle.rr_instance_laws.specs.Truth.{IsScalar}
use Rattle.rr_literal.specs.Literals.{is_known}
use Rattle.rr_loop_rules.specs.Rules.{contains, loop_names}
use Rattle.rr_flat_instance.specs.Places.{HasWidth, owner_at}

-- the number of the first token of module k
unfoldable pub start_of : List ModuleDeclaration → ℕ → ℕ
start_of [] k = 0
start_of (m ∷ ms) zero = 0
start_of (m ∷ ms) (suc k) = length (spell_module m) + start_of ms k

-- a token of module k, other than the first
pub record IsWithin (ms : List ModuleDeclaration) (k token : ℕ) : Type 0 where
  pub after : start_of ms k < token
  pub before : token < start_of ms k + length (spell_module (module_at ms k))

-- it holds of the scope of each instance of module k
abbrev pub InEach : Flat → ℕ → (Names → Type 0) → Type 0
InEach flat k P = (i : ℕ) → i < length flat.scopes → owner_at flat i ≡ k → P (scope_at flat i)

-- a name that is none of a loop of module k
abbrev pub IsFree : List ModuleDeclaration → ℕ → List ℕ → Type 0
IsFree ms k name = contains (loop_names (module_at ms k)) name ≡ false

pub record IsDeclared (source : SourceText) (flat : Flat) (owner token : ℕ) (names : List (List ℕ)) : Type 0 where
  pub within : IsWithin source.modules owner token
  pub scalars : InEach flat owner (λ scope. All (IsScalar scope) names)
  pub free : InEach flat owner (λ scope. All (IsFree source.modules owner) names)

-- at the token of a literal stands a number of its width and sign, without x and z digits
pub record IsNumberAt (ws : List Word) (token w : ℕ) (s : Bool) : Type 0 where
  pub number : Number
  pub there : get_or ws token (Marked 0) ≡ Digits number
  pub width : number.width ≡ w
  pub signed : number.signed ≡ s
  pub known : is_known number ≡ true

-- by kind: a literal stands where a number does, and brings nothing; what an overwrite assigns is no name of a loop
abbrev pub KindFits : SourceText → Flat → ℕ → SiteKind → Type 0
KindFits source flat token (sites.Literal width signed) = IsNumberAt (spell_source source) token width signed
KindFits source flat token (sites.Guard owner extent names) = IsDeclared source flat owner token names
KindFits source flat token (sites.Overwrite owner target width now names) =
    IsDeclared source flat owner token names × InEach flat owner (λ scope. HasWidth scope target width × IsFree source.modules owner target)

abbrev pub SiteFits : SourceText → Flat → Site → Type 0
SiteFits source flat s = KindFits source flat s.token s.kind

-- of a source that is well-formed, whose leaves have the numbers of their tokens, and in whose flat design each target may
-- be assigned
pub record AreListed (ss : List Site) (source : SourceText) (flat : Flat) : Type 0 where
  pub formed : WellFormedSource source
  pub numbered : NumberedSource source
  pub targets : RightTargets flat
  pub each : AllByRecursion (SiteFits source flat) ss
