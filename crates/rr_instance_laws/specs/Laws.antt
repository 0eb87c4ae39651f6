-- What choices and their instances keep.
use Rattle.std.specs.Prelude.{◌≡◌, ◌⊎◌, ℕ, ◌*◌, ◌≤◌, Bool, true, false, List, length, Option, None, Some}
use Rattle.rr_syntax.specs.Tree.{Tree, Statement, ModuleItem, ModuleDeclaration, SourceText}
use Rattle.rr_syntax.specs.Expressions.{WellFormed, Numbered, FitLiterals, is_target}
use Rattle.rr_syntax.specs.Statements.{WellFormedStatement, NumberedStatement, FitLiteralsStatement}
use Rattle.rr_syntax.specs.Items.{WellFormedItem, WellFormedModule, WellFormedSource, FitLiteralsItem, FitLiteralsModule, FitLiteralsSource}
use Rattle.rr_expr.specs.declared.types.Bit.{Bit}
use Rattle.rr_expr.specs.declared.types.Entity.TheVariants.{Signal}
use Rattle.rr_expr.specs.Scopes.{Names, meant}
use Rattle.rr_expr.specs.Values.{form}
use Rattle.rr_expr.specs.Faults.{fault, first}
use Rattle.rr_expr.specs.Reading.{IsBitOf, NamesBit, Occurs}
use Rattle.rr_choice.specs.declared.pick.Pick.{Pick}
use Rattle.rr_choice.specs.Sites.{Site, IsSiteList, FewNames, FitWidths}
use Rattle.rr_instance.specs.Firsts.{told}
use Rattle.rr_choice.specs.Choices.{IsChoice, cost, total_bits, decode}
use Rattle.rr_instance.specs.Instances.{guarded, gate, named, new_test, instance_tree, instance_test, instance_statement, instance_body, instance_item, instance_module, instance_source}
use Rattle.rr_instance_laws.specs.Tests.{IsGuardName, IsTestName}
use Rattle.rr_instance_laws.specs.Truth.{is_true, guard_truth, gate_truth, new_truth, name_truth, IsScalar}

-- a list of bits is read to a choice
abbrev pub IsDecoded : List Site → List Pick → Type 0
IsDecoded sites c = (bits : List Bool) × ((length bits ≡ total_bits sites) × (decode sites bits ≡ c))

-- every choice is, where each site has at most 64 names
abbrev pub ChoicesAreDecoded : Type 0
ChoicesAreDecoded = (sites : List Site) (c : List Pick) → FewNames sites → IsChoice sites c → IsDecoded sites c

-- and every list of bits is read to one
abbrev pub DecodedAreChoices : Type 0
DecodedAreChoices = (sites : List Site) (bits : List Bool) → IsChoice sites (decode sites bits)

-- the sites of a list have at most 138 choice bits each
abbrev pub BitsAreFew : Type 0
BitsAreFew = (sites : List Site) → IsSiteList sites → total_bits sites ≤ 138 * length sites

-- a choice without a switch that is on makes the tree itself
pub record KeepsAtNoCost : Type 0 where
  pub expression : (ss : List Site) (ps : List Pick) (t : Tree) → cost ps ≡ 0 → instance_tree ss ps t ≡ t
  pub statement : (ss : List Site) (ps : List Pick) (t : Statement) → cost ps ≡ 0 → instance_statement ss ps t ≡ t
  pub body : (ss : List Site) (ps : List Pick) (token : ℕ) (t : Statement) → cost ps ≡ 0 → instance_body ss ps token t ≡ t
  pub item : (ss : List Site) (ps : List Pick) (i : ModuleItem) → cost ps ≡ 0 → instance_item ss ps i ≡ i
  pub declaration : (ss : List Site) (ps : List Pick) (m : ModuleDeclaration) → cost ps ≡ 0 → instance_module ss ps m ≡ m
  pub source : (ss : List Site) (ps : List Pick) (s : SourceText) → cost ps ≡ 0 → instance_source ss ps s ≡ s

-- a target is its own instance
abbrev pub TargetsStay : Type 0
TargetsStay = (ss : List Site) (ps : List Pick) (t : Tree) → is_target t ≡ true → instance_tree ss ps t ≡ t

-- an instance has the width and the sign of its expression
abbrev pub FormsStay : Type 0
FormsStay = (ss : List Site) (ps : List Pick) (s : Names) (t : Tree) → form s (instance_tree ss ps t) ≡ form s t

-- and no fault where the expression has none: each name that a guard may be there has none, where no signal may stand if
-- `constant`
abbrev pub NoFaultsMore : Type 0
NoFaultsMore =
    (ss : List Site) (ps : List Pick) (s : Names) (t : Tree) (constant : Bool) →
    ((name : List ℕ) → IsGuardName ss t name → fault s (named name) constant ≡ None) → fault s t constant ≡ None → fault s (instance_tree ss ps t) constant ≡ None

-- so also for names of signals without ranges
abbrev pub NoFaultsByScalars : Type 0
NoFaultsByScalars =
    (ss : List Site) (ps : List Pick) (s : Names) (t : Tree) → ((name : List ℕ) → IsGuardName ss t name → IsScalar s name) → fault s t false ≡ None → fault s (instance_tree ss ps t) false ≡ None

-- the same of a condition with its guard
abbrev pub NoFaultsInTests : Type 0
NoFaultsInTests =
    (ss : List Site) (ps : List Pick) (s : Names) (t : Tree) → ((name : List ℕ) → IsTestName ss t name → IsScalar s name) → fault s t false ≡ None → fault s (instance_test ss ps t) false ≡ None

-- a name that stands in an instance stands in the expression or is one that a guard may be there
abbrev pub NamesFromGuards : Type 0
NamesFromGuards =
    (ss : List Site) (ps : List Pick) (t : Tree) (name : List ℕ) → Occurs (instance_tree ss ps t) name → Occurs t name ⊎ IsGuardName ss t name

-- a bit of one of these names
abbrev pub IsBitNamed : Names → (List ℕ → Type 0) → Bit → Type 0
IsBitNamed s P b = (name : List ℕ) × (P name × IsBitOf (meant s name) b)

-- and so it is with the bits that it names
abbrev pub BitsFromGuards : Type 0
BitsFromGuards =
    (ss : List Site) (ps : List Pick) (s : Names) (t : Tree) (b : Bit) → NamesBit s (instance_tree ss ps t) b → NamesBit s t b ⊎ IsBitNamed s (IsGuardName ss t) b

abbrev pub BitsOfTests : Type 0
BitsOfTests =
    (ss : List Site) (ps : List Pick) (s : Names) (t : Tree) (b : Bit) → NamesBit s (instance_test ss ps t) b → NamesBit s t b ⊎ IsBitNamed s (IsTestName ss t) b

-- the truth of a guarded condition is the function of its form
abbrev pub TruthOfGuards : Type 0
TruthOfGuards =
    (s : Names) (env : Bit → Bool) (k : ℕ) (name : List ℕ) (t : Tree) → is_true s (guarded k name t) env ≡ guard_truth k (is_true s t env) (name_truth s env name)

abbrev pub TruthOfTests : Type 0
TruthOfTests =
    (s : Names) (env : Bit → Bool) (found : Option (Site × Pick)) (t : Tree) → is_true s (new_test found t) env ≡ new_truth found (is_true s t env) (name_truth s env)

-- and that of a last assignment's
abbrev pub TruthOfGates : Type 0
TruthOfGates = (s : Names) (env : Bit → Bool) (k : ℕ) (name : List ℕ) → is_true s (gate k name) env ≡ gate_truth k (name_truth s env name)

-- a name of a signal without a range holds where its bit is one
abbrev pub TruthOfScalars : Type 0
TruthOfScalars =
    (s : Names) (env : Bit → Bool) (name : List ℕ) (id : ℕ) (signed : Bool) → meant s name ≡ Signal id None signed → name_truth s env name ≡ env (record { signal = id; place = 0 })

-- an instance is well-formed where its source is
pub record RulesStay : Type 0 where
  pub expression : (ss : List Site) (ps : List Pick) (t : Tree) → WellFormed t → WellFormed (instance_tree ss ps t)
  pub statement : (ss : List Site) (ps : List Pick) (t : Statement) → WellFormedStatement t → WellFormedStatement (instance_statement ss ps t)
  pub body : (ss : List Site) (ps : List Pick) (token : ℕ) (t : Statement) → WellFormedStatement t → WellFormedStatement (instance_body ss ps token t)
  pub item : (ss : List Site) (ps : List Pick) (i : ModuleItem) → WellFormedItem i → WellFormedItem (instance_item ss ps i)
  pub declaration : (ss : List Site) (ps : List Pick) (m : ModuleDeclaration) → WellFormedModule m → WellFormedModule (instance_module ss ps m)
  pub source : (ss : List Site) (ps : List Pick) (s : SourceText) → WellFormedSource s → WellFormedSource (instance_source ss ps s)

-- and its literals are fit where those of its source are, and each variable that a site assigns has 1 to 128 bits
pub record LiteralsStayFit : Type 0 where
  pub expression : (ss : List Site) (ps : List Pick) (t : Tree) → FitLiterals t → FitLiterals (instance_tree ss ps t)
  pub statement : (ss : List Site) (ps : List Pick) (t : Statement) → FitLiteralsStatement t → FitLiteralsStatement (instance_statement ss ps t)
  pub body : (ss : List Site) (ps : List Pick) (token : ℕ) (t : Statement) → FitWidths ss → FitLiteralsStatement t → FitLiteralsStatement (instance_body ss ps token t)
  pub item : (ss : List Site) (ps : List Pick) (i : ModuleItem) → FitWidths ss → FitLiteralsItem i → FitLiteralsItem (instance_item ss ps i)
  pub declaration : (ss : List Site) (ps : List Pick) (m : ModuleDeclaration) → FitWidths ss → FitLiteralsModule m → FitLiteralsModule (instance_module ss ps m)
  pub source : (ss : List Site) (ps : List Pick) (s : SourceText) → FitWidths ss → FitLiteralsSource s → FitLiteralsSource (instance_source ss ps s)

-- the number that is told, if any, is this one
abbrev pub Tells : Option ℕ → ℕ → Type 0
Tells None at = Unit {0}
Tells (Some n) at = n ≡ at

-- an expression, or a statement with a leaf or a name, tells the number of its first token
abbrev pub FirstsOfExpressions : Type 0
FirstsOfExpressions = (t : Tree) (at : ℕ) → WellFormed t → Numbered t at → first t ≡ at

abbrev pub FirstsOfStatements : Type 0
FirstsOfStatements = (t : Statement) (at : ℕ) → WellFormedStatement t → NumberedStatement t at → Tells (told t) at
