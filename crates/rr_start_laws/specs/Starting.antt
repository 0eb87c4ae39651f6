-- The `initial` items of instances, and the values that variables begin with (IEEE 1364-2005 sections 6.2.1, 9.6 and 9.9.1).
use Rattle.std.specs.Prelude.{◌≡◌, ◌⊎◌, ℕ, ◌<◌, Bool, List, [], ◌∷◌, ◌++◌, length, nat_eq, All, Option, Some, None}
use Rattle.std.specs.List.{filter, flat_map}
use Rattle.rr_syntax.specs.Tree.{Tree, Name, Literal, Bit as BitSelect, Part, Indexed, Unary, Binary, Cond, Concat, Repeat, Cast, Paren, Statement, Statements, Null, Block, If, IfElse, Case, Assign, For, Done, Then, ModuleItem, Ports, Nets, Variables, Integers, Parameters, Assigns, Always, Initial, Instances, SourceText}
use Rattle.rr_expr.specs.Scopes.{Names, meant}
use Rattle.rr_expr.specs.Selects.{integer_with}
use Rattle.rr_expr.specs.Values.{form, value, nowhere}
use Rattle.rr_flat.specs.Plain as plain
use Rattle.rr_flat.specs.Plain.{Flat}
use Rattle.rr_flat.specs.Signals.{signal_at}
use Rattle.rr_flat.specs.Writers.{scope_at}
use Rattle.rr_starts.specs.Starts.{start_of, whole_signal, started_word}
use Rattle.rr_flat_laws.specs.Blocks.{unfolded_at}
use Rattle.rr_flat_laws.specs.Names.{module_of}

-- Items

-- the `initial` items of instance i that an item of its module makes; each loop is the block of its turns
abbrev pub initials_by : Flat → ℕ → ModuleItem → List plain.Initial
initials_by flat i (Ports p) = []
initials_by flat i (Nets signed range list) = []
initials_by flat i (Variables signed range list) = []
initials_by flat i (Integers list) = []
initials_by flat i (Parameters p) = []
initials_by flat i (Assigns pairs) = []
initials_by flat i (Always events body token) = []
initials_by flat i (Initial body token) = record { body = unfolded_at flat i body; scope = i; token = token } ∷ []
initials_by flat i (Instances m token overrides list) = []

abbrev pub is_initial_of : ℕ → plain.Initial → Bool
is_initial_of i x = nat_eq x.scope i

-- each `initial` item of each instance, once and in the order of the text, and no others
pub record AreInitials (source : SourceText) (flat : Flat) : Type 0 where
  pub items : (i : ℕ) → i < length flat.owners → filter (is_initial_of i) flat.initials ≡ flat_map (initials_by flat i) (module_of source flat i).items
  pub inside : All (λ x. x.scope < length flat.owners) flat.initials

-- Assignments

-- an assignment of an `initial` item: the variable that it sets, which may be a word of a memory, and the number that this then has
pub record Setting : Type 0 where
  pub variable : ℕ
  pub number : ℕ

-- the variable that is a target as a whole, or the word of a memory at a constant index, where there is one (section 5.2.2); other
-- targets stand in no `initial` item
abbrev pub set_variable : Names → Tree → Option ℕ
set_variable s (Name token name) = whole_signal (meant s name)
set_variable s (Literal token n) = None
set_variable s (BitSelect token name i) = started_word (meant s name) (integer_with (form s i) (value s i nowhere))
set_variable s (Part token name l r) = None
set_variable s (Indexed token name f n up) = None
set_variable s (Unary op a) = None
set_variable s (Binary op a b) = None
set_variable s (Cond a b c) = None
set_variable s (Concat ts) = None
set_variable s (Repeat n ts) = None
set_variable s (Cast signed a) = None
set_variable s (Paren a) = None

abbrev pub setting_of : Option ℕ → ℕ → List Setting
setting_of None n = []
setting_of (Some id) n = record { variable = id; number = n } ∷ []

-- the assignments of a statement, where names have these meanings: those of a block in its order (section 9.8.1), and one that
-- gives its target the value of an expression, which is as wide as the wider of the two (section 5.4); loops have been unfolded
unfoldable mutual
  pub settings_of : Names → Statement → List Setting
  settings_of s Null = []
  settings_of s (Block label ss) = all_settings_of s ss
  settings_of s (If t a) = []
  settings_of s (IfElse t a b) = []
  settings_of s (Case kind t arms) = []
  settings_of s (Assign target now t) = setting_of (set_variable s target) (start_of s (form s target).width t)
  settings_of s (For h a) = []

  pub all_settings_of : Names → Statements → List Setting
  all_settings_of s Done = []
  all_settings_of s (Then a rest) = settings_of s a ++ all_settings_of s rest

-- those of a design, item by item
abbrev pub settings : Flat → List Setting
settings flat = flat_map (λ x. settings_of (scope_at flat x.scope) x.body) flat.initials

-- this one sets the variable, and none behind it does
pub record IsLast (id : ℕ) (s : Setting) (all : List Setting) : Type 0 where
  pub before : List Setting
  pub after : List Setting
  pub parts : all ≡ before ++ s ∷ after
  pub sets : s.variable ≡ id
  pub none : All (λ t. t.variable ≡ id → ⊥) after

-- a variable, and a word of a memory, begins with the number of the last assignment to it, and where there is none with that of its declaration
abbrev pub BeginsWith : Flat → ℕ → ℕ → Type 0
BeginsWith flat id n = ((s : Setting) × (IsLast id s (settings flat) × (n ≡ s.number))) ⊎ (All (λ t. t.variable ≡ id → ⊥) (settings flat) × (n ≡ (signal_at flat.signals id).start))
