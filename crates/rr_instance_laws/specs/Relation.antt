-- Instances as a relation of a tree and a second tree, by cases on both: at each site that is switched on the second tree
-- has the form of the site's kind, everywhere else the same node. The token numbers of the second tree are free.
use Rattle.std.specs.Prelude.{◌≡◌, ℕ, Bool, true, false, ◌&&◌, List, [], ◌∷◌, map, get_or, Option, Some, None}
use Rattle.rr_syntax.specs.declared.token.Number.{Number}
use Rattle.rr_syntax.specs.Tree.{Tree, Trees, Name, Literal, Bit, Part, Indexed, Unary, Binary, Cond, Concat, Repeat, Cast, Paren, End, More, Statement, Statements, Arm, Arms, Null, Block, If, IfElse, Case, Assign, For, Done, Then, CaseItem, NoArms, MoreArms, DeclaredName, NetAssignment, NamedConnection, Connections, Positions, Names, ModuleInstance, ModuleItem, Ports, Nets, Variables, Integers, Parameters, Assigns, Always, Initial, Instances, ModuleDeclaration, SourceText, IsSame, IsSameStatement, IsSameItem, IsSameSource, bare_label, bare_loop, bare_range, bare_port, bare_parameter, bare_header, bare_events, bare_overrides}
use Rattle.rr_expr.specs.declared.operators.Infix.TheVariants.{Either}
use Rattle.rr_expr.specs.Faults.{takes_constants}
use Rattle.rr_expr.specs.Operators.{infixes}
use Rattle.rr_choice.specs.declared.pick.Pick.{Pick}
use Rattle.rr_instance.specs.Firsts.{first_token}
use Rattle.rr_choice.specs.Sites.{Site, guard_names}
use Rattle.rr_choice.specs.Choices.{picked_form, picked_name}
use Rattle.rr_choice.specs.Places.{is_literal_at, is_overwrite_at, find_pick}
use Rattle.rr_instance.specs.Instances.{is_guard_of, number_with, guarded, overwritten, instance_source}

-- the first where the test holds, else the second
abbrev pub Which : Bool → Type 0 → Type 0 → Type 0
Which true A B = A
Which false A B = B

-- two lists of one length, of whose elements it holds in pairs
unfoldable pub InPairs : {A : Type 0} → (A → A → Type 0) → List A → List A → Type 0
InPairs R [] [] = Unit {0}
InPairs R [] (y ∷ ys) = ⊥
InPairs R (x ∷ xs) [] = ⊥
InPairs R (x ∷ xs) (y ∷ ys) = R x y × InPairs R xs ys

-- the number of a literal: that of its pick where it is switched on
abbrev pub IsNumber : Option (Site × Pick) → Number → Number → Type 0
IsNumber None n m = m ≡ n
IsNumber (Some (s, p)) n m = Which p.on (m ≡ number_with n p.value) (m ≡ n)

-- a condition: in the form of its guard where this is switched on, round what the condition itself stands for
abbrev pub IsGuarded : ℕ → List ℕ → (Tree → Type 0) → Tree → Type 0
IsGuarded form name P u = (e : Tree) × (P e × IsSame u (guarded form name e))

abbrev pub IsTest : Option (Site × Pick) → (Tree → Type 0) → Tree → Type 0
IsTest None P u = P u
IsTest (Some (s, p)) P u = Which p.on (IsGuarded (picked_form (guard_names s.kind) p.form) (picked_name (guard_names s.kind) p.name) P u) (P u)

-- expressions; what `/`, `%` and `**` take, indices, bounds and counts are constant and stay
unfoldable mutual
  pub Stands : List Site → List Pick → Tree → Tree → Type 0
  Stands ss ps (Name token x) (Name at y) = y ≡ x
  Stands ss ps (Literal token n) (Literal at m) = IsNumber (find_pick (is_literal_at token) ss ps) n m
  Stands ss ps (Bit token x i) (Bit at y j) = (y ≡ x) × IsSame j i
  Stands ss ps (Part token x l r) (Part at y m q) = (y ≡ x) × (IsSame m l × IsSame q r)
  Stands ss ps (Indexed token x f n up) (Indexed at y g m rises) = (y ≡ x) × (IsSame g f × (IsSame m n × (rises ≡ up)))
  Stands ss ps (Unary op t) (Unary mark u) = (mark ≡ op) × Stands ss ps t u
  Stands ss ps (Binary op l r) (Binary mark m q) = (mark ≡ op)
      × Which (takes_constants (get_or infixes op Either)) (IsSame m l × IsSame q r) (Stands ss ps l m × Stands ss ps r q)
  Stands ss ps (Cond a b c) (Cond d e f) = IsTest (find_pick (is_guard_of a) ss ps) (Stands ss ps a) d × (Stands ss ps b e × Stands ss ps c f)
  Stands ss ps (Concat ts) (Concat us) = StandIn ss ps ts us
  Stands ss ps (Repeat n ts) (Repeat m us) = IsSame m n × StandIn ss ps ts us
  Stands ss ps (Cast signed t) (Cast sign u) = (sign ≡ signed) × Stands ss ps t u
  Stands ss ps (Paren t) (Paren u) = Stands ss ps t u
  Stands ss ps t u = ⊥

  pub StandIn : List Site → List Pick → Trees → Trees → Type 0
  StandIn ss ps End End = Unit {0}
  StandIn ss ps (More t ts) (More u us) = Stands ss ps t u × StandIn ss ps ts us
  StandIn ss ps ts us = ⊥

abbrev pub StandsTest : List Site → List Pick → Tree → Tree → Type 0
StandsTest ss ps test u = IsTest (find_pick (is_guard_of test) ss ps) (Stands ss ps test) u

-- statements; targets stay, and what a loop tells of its name
unfoldable mutual
  pub StandsStatement : List Site → List Pick → Statement → Statement → Type 0
  StandsStatement ss ps Null Null = Unit {0}
  StandsStatement ss ps (Block label ts) (Block name us) = (bare_label name ≡ bare_label label) × StandInOrder ss ps ts us
  StandsStatement ss ps (If c t) (If d u) = StandsTest ss ps c d × StandsStatement ss ps t u
  StandsStatement ss ps (IfElse c t e) (IfElse d u f) = StandsTest ss ps c d × (StandsStatement ss ps t u × StandsStatement ss ps e f)
  StandsStatement ss ps (Case kind on arms) (Case word by list) = (word ≡ kind) × (Stands ss ps on by × StandInArms ss ps arms list)
  StandsStatement ss ps (Assign t now e) (Assign u blocking f) = IsSame u t × ((blocking ≡ now) × Stands ss ps e f)
  StandsStatement ss ps (For h t) (For g u) = (bare_loop g ≡ bare_loop h) × StandsStatement ss ps t u
  StandsStatement ss ps t u = ⊥

  pub StandInOrder : List Site → List Pick → Statements → Statements → Type 0
  StandInOrder ss ps Done Done = Unit {0}
  StandInOrder ss ps (Then t ts) (Then u us) = StandsStatement ss ps t u × StandInOrder ss ps ts us
  StandInOrder ss ps ts us = ⊥

  pub StandsArm : List Site → List Pick → Arm → Arm → Type 0
  StandsArm ss ps (CaseItem labels colon t) (CaseItem list mark u) = StandIn ss ps labels list × ((mark ≡ colon) × StandsStatement ss ps t u)

  pub StandInArms : List Site → List Pick → Arms → Arms → Type 0
  StandInArms ss ps NoArms NoArms = Unit {0}
  StandInArms ss ps (MoreArms a rest) (MoreArms b more) = StandsArm ss ps a b × StandInArms ss ps rest more
  StandInArms ss ps rest more = ⊥

-- the body of an `always` with the last assignments of the sites at its first token, the first innermost
abbrev pub IsOverwritten : ℕ → Site → Pick → (Statement → Type 0) → Statement → Type 0
IsOverwritten token s p P u = Which (is_overwrite_at token s && p.on) ((v : Statement) × (P v × IsSameStatement u (overwritten s.kind p v))) (P u)

unfoldable pub AreOverwritten : ℕ → List Site → List Pick → (Statement → Type 0) → Statement → Type 0
AreOverwritten token [] ps P u = P u
AreOverwritten token (s ∷ ss) [] P u = P u
AreOverwritten token (s ∷ ss) (p ∷ ps) P u = AreOverwritten token ss ps (IsOverwritten token s p P) u

abbrev pub StandsBody : List Site → List Pick → Statement → Statement → Type 0
StandsBody ss ps t u = AreOverwritten (first_token t) ss ps (StandsStatement ss ps t) u

-- items; declarations of ports, variables and parameters, ranges, overrides, event lists and `initial` items stay
unfoldable pub StandsValue : List Site → List Pick → Option Tree → Option Tree → Type 0
StandsValue ss ps None None = Unit {0}
StandsValue ss ps None (Some u) = ⊥
StandsValue ss ps (Some t) None = ⊥
StandsValue ss ps (Some t) (Some u) = Stands ss ps t u

abbrev pub StandsNet : List Site → List Pick → DeclaredName → DeclaredName → Type 0
StandsNet ss ps n m = (m.text ≡ n.text) × (bare_range m.words ≡ bare_range n.words) × StandsValue ss ps n.value m.value

abbrev pub StandsPair : List Site → List Pick → NetAssignment → NetAssignment → Type 0
StandsPair ss ps p q = IsSame q.target p.target × Stands ss ps p.value q.value

abbrev pub StandsConnection : List Site → List Pick → NamedConnection → NamedConnection → Type 0
StandsConnection ss ps c d = (d.text ≡ c.text) × StandsValue ss ps c.value d.value

unfoldable pub StandConnections : List Site → List Pick → Connections → Connections → Type 0
StandConnections ss ps (Positions ts) (Positions us) = StandIn ss ps ts us
StandConnections ss ps (Positions ts) (Names ds) = ⊥
StandConnections ss ps (Names cs) (Positions us) = ⊥
StandConnections ss ps (Names cs) (Names ds) = InPairs (StandsConnection ss ps) cs ds

abbrev pub StandsInstance : List Site → List Pick → ModuleInstance → ModuleInstance → Type 0
StandsInstance ss ps i j = (j.text ≡ i.text) × StandConnections ss ps i.connections j.connections

unfoldable pub StandsItem : List Site → List Pick → ModuleItem → ModuleItem → Type 0
StandsItem ss ps (Ports p) (Ports q) = bare_port q ≡ bare_port p
StandsItem ss ps (Nets signed range names) (Nets sign bounds list) = (sign ≡ signed) × ((bare_range bounds ≡ bare_range range) × InPairs (StandsNet ss ps) names list)
StandsItem ss ps (Variables signed range names) (Variables sign bounds list) = IsSameItem (Variables sign bounds list) (Variables signed range names)
StandsItem ss ps (Integers names) (Integers list) = IsSameItem (Integers list) (Integers names)
StandsItem ss ps (Parameters p) (Parameters q) = bare_parameter q ≡ bare_parameter p
StandsItem ss ps (Assigns pairs) (Assigns list) = InPairs (StandsPair ss ps) pairs list
StandsItem ss ps (Always events body token) (Always control inner at) = (bare_events control ≡ bare_events events) × StandsBody ss ps body inner
StandsItem ss ps (Initial s token) (Initial t at) = IsSameItem (Initial t at) (Initial s token)
StandsItem ss ps (Instances m token overrides list) (Instances n at settings more) = (n ≡ m) × ((bare_overrides settings ≡ bare_overrides overrides) × InPairs (StandsInstance ss ps) list more)
StandsItem ss ps i j = ⊥

-- modules, and the source
pub record StandsModule (ss : List Site) (ps : List Pick) (m n : ModuleDeclaration) : Type 0 where
  pub name : n.text ≡ m.text
  pub params : map bare_parameter n.params ≡ map bare_parameter m.params
  pub header : bare_header n.header ≡ bare_header m.header
  pub groups : map bare_port n.groups ≡ map bare_port m.groups
  pub items : InPairs (StandsItem ss ps) m.items n.items

abbrev pub StandsSource : List Site → List Pick → SourceText → SourceText → Type 0
StandsSource ss ps s t = InPairs (StandsModule ss ps) s.modules t.modules

-- for every list of picks there is such a tree, the instance of the function
abbrev pub TreesExist : Type 0
TreesExist = (ss : List Site) (ps : List Pick) (s : SourceText) → StandsSource ss ps s (instance_source ss ps s)

-- and each such tree is that one but for token numbers
abbrev pub TreesAgree : Type 0
TreesAgree = (ss : List Site) (ps : List Pick) (s t : SourceText) → StandsSource ss ps s t → IsSameSource (instance_source ss ps s) t
