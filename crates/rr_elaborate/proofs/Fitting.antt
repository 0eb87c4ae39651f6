-- Each literal of a tree is fit where each word of its spelling is.
use Rattle.std.proofs.Common.{◌≡◌, sym, subst, ◌≤◌, List, [], ◌∷◌, ◌++◌, length, Bool, Option, Some, None, arith}
use Rattle.std.specs.Prelude.{All}
use Rattle.std.proofs.lemmas.List.{length-append}
use Rattle.std.proofs.lemmas.List.Elements.{recursion_from_All}
use Rattle.rr_lex.specs.Tokens.{IsSound}
use Rattle.std.specs.List.{AllByRecursion}
use Rattle.rr_syntax.specs.Words.{Word, Named, System, Digits, Reserved, Marked}
use Rattle.rr_syntax.specs.Tree.{Tree, Trees, Name, Literal, Bit, Part, Indexed, Unary, Binary, Cond, Concat, Repeat, Cast, Paren, End, More, LoopHead, Statement, Statements, Arm, Arms, Null, Block, If, IfElse, Case, Assign, For, Done, Then, CaseItem, NoArms, MoreArms, Identifier, Range, PortDeclaration, ParamAssignment, ParameterDeclaration, DeclaredName, NetAssignment, EventControl, Star, Edges, Levels, NamedConnection, Connections, Positions, Names, ModuleInstance, ModuleItem, Ports, Nets, Variables, Integers, Parameters, Assigns, Always, Initial, Instances, ModuleDeclaration, SourceText}
use Rattle.rr_syntax.specs.Expressions.{spell, spell_parts, spell_more, IsFit, FitLiterals, FitLiteralsParts}
use Rattle.rr_syntax.specs.Statements.{spell_label, spell_labels, spell_loop, spell_statement, spell_statements, spell_arm, spell_arms, FitLiteralsLoop, FitLiteralsStatement, FitLiteralsStatements, FitLiteralsArm, FitLiteralsArms}
use Rattle.rr_syntax.specs.Items.{spell_each, spell_separated, spell_all, spell_where, spell_identifier, spell_range, spell_type, spell_dir, spell_port, spell_assignment, spell_parameter, spell_value, spell_declarator, spell_pair, spell_more_levels, spell_levels, spell_events, spell_optional, spell_connection, spell_connections, spell_overrides, spell_instance, spell_item, spell_parameters, spell_ports, spell_module, spell_source, rest, FitLiteralsRange, FitLiteralsPort, FitLiteralsAssignment, FitLiteralsParameter, FitLiteralsValue, FitLiteralsDeclarator, FitLiteralsPair, FitLiteralsEvents, FitLiteralsConnection, FitLiteralsConnections, FitLiteralsOverrides, FitLiteralsInstance, FitLiteralsItem, FitLiteralsModule, FitLiteralsSource, IsHeader, WellFormedModule, WellFormedSource}

abbrev pub IsFitWord : Word → Type 0
IsFitWord (Named s) = Unit {0}
IsFitWord (System s) = Unit {0}
IsFitWord (Digits n) = IsFit n
IsFitWord (Reserved k) = Unit {0}
IsFitWord (Marked m) = Unit {0}

-- each word of a list is
abbrev pub Fit : List Word → Type 0
Fit [] = Unit {0}
Fit (w ∷ ws) = IsFitWord w × Fit ws

front : (a b : List Word) → Fit (a ++ b) → Fit a
front [] b h = tt
front (w ∷ a) b h = (h.0, front a b h.1)

back : (a b : List Word) → Fit (a ++ b) → Fit b
back [] b h = h
back (w ∷ a) b h = back a b h.1

mutual
  unfolding spell FitLiterals

  fit : (t : Tree) → Fit (spell t) → FitLiterals t
  fit (Name n s) h = tt
  fit (Literal n d) h = h.0
  fit (Bit n s i) h = fit i (front (spell i) _ h.1.1)
  fit (Part n s l r) h = (fit l (front (spell l) _ h.1.1), fit r (front (spell r) _ (back (spell l) _ h.1.1).1))
  fit (Indexed n s f w up) h = (fit f (front (spell f) _ h.1.1), fit w (front (spell w) _ (back (spell f) _ h.1.1).1))
  fit (Unary m t) h = fit t h.1
  fit (Binary m l r) h = (fit l (front (spell l) _ h), fit r (back (spell l) _ h).1)
  fit (Cond a b c) h =
      let k = (back (spell a) _ h).1 in
      (fit a (front (spell a) _ h), fit b (front (spell b) _ k), fit c (back (spell b) _ k).1)
  fit (Concat ts) h = fit_parts ts (front (spell_parts ts) _ h.1)
  fit (Repeat t ts) h = (fit t (front (spell t) _ h.1), fit_parts ts (front (spell_parts ts) _ (back (spell t) _ h.1).1))
  fit (Cast signed t) h = fit t (front (spell t) _ h.1.1)
  fit (Paren t) h = fit t (front (spell t) _ h.1)

  fit_parts : (ts : Trees) → Fit (spell_parts ts) → FitLiteralsParts ts
  fit_parts End h = tt
  fit_parts (More t ts) h = (fit t (front (spell t) _ h), fit_more ts (back (spell t) _ h))

  fit_more : (ts : Trees) → Fit (spell_more ts) → FitLiteralsParts ts
  fit_more End h = tt
  fit_more (More t ts) h = (fit t (front (spell t) _ h.1), fit_more ts (back (spell t) _ h.1))

fit_labels : (ts : Trees) (colon : Bool) → Fit (spell_labels ts colon) → FitLiteralsParts ts
unfolding spell_labels FitLiterals
fit_labels End colon h = tt
fit_labels (More t ts) colon h = fit_parts (More t ts) (front (spell_parts (More t ts)) _ h)

fit_loop : (head : LoopHead) → Fit (spell_loop head) → FitLiteralsLoop head
unfolding spell_loop FitLiteralsLoop
fit_loop head h =
    let k = (back (spell head.start) _ h.1.1.1).1 in
    let j = (back (spell head.test) _ k).1.1.1 in
    (fit head.start (front (spell head.start) _ h.1.1.1), fit head.test (front (spell head.test) _ k), fit head.step (front (spell head.step) _ j))

mutual
  unfolding spell_statement FitLiteralsStatement

  fit_statement : (s : Statement) → Fit (spell_statement s) → FitLiteralsStatement s
  fit_statement Null h = tt
  fit_statement (Block label ss) h = fit_statements ss (front (spell_statements ss) _ (back (spell_label label) _ h.1))
  fit_statement (If t s) h = (fit t (front (spell t) _ h.1.1), fit_statement s (back (spell t) _ h.1.1).1)
  fit_statement (IfElse t s u) h =
      let k = (back (spell t) _ h.1.1).1 in
      (fit t (front (spell t) _ h.1.1), fit_statement s (front (spell_statement s) _ k), fit_statement u (back (spell_statement s) _ k).1)
  fit_statement (Case kind t arms) h = (fit t (front (spell t) _ h.1.1), fit_arms arms (front (spell_arms arms) _ (back (spell t) _ h.1.1).1))
  fit_statement (Assign t now v) h = (fit t (front (spell t) _ h), fit v (front (spell v) _ (back (spell t) _ h).1))
  fit_statement (For head s) h = (fit_loop head (front (spell_loop head) _ h.1), fit_statement s (back (spell_loop head) _ h.1))

  fit_statements : (ss : Statements) → Fit (spell_statements ss) → FitLiteralsStatements ss
  fit_statements Done h = tt
  fit_statements (Then s ss) h = (fit_statement s (front (spell_statement s) _ h), fit_statements ss (back (spell_statement s) _ h))

  fit_arm : (a : Arm) → Fit (spell_arm a) → FitLiteralsArm a
  fit_arm (CaseItem labels colon s) h = (fit_labels labels colon (front (spell_labels labels colon) _ h), fit_statement s (back (spell_labels labels colon) _ h))

  fit_arms : (arms : Arms) → Fit (spell_arms arms) → FitLiteralsArms arms
  fit_arms NoArms h = tt
  fit_arms (MoreArms a rest) h = (fit_arm a (front (spell_arm a) _ h), fit_arms rest (back (spell_arm a) _ h))

-- lists
module _ {A : Type 0} (f : A → List Word) (P : A → Type 0) (each : (x : A) → Fit (f x) → P x) where
  fit_each : (xs : List A) → Fit (spell_each f xs) → AllByRecursion P xs
  unfolding spell_each
  fit_each [] h = tt
  fit_each (x ∷ xs) h = (each x (front (f x) _ h.1), fit_each xs (back (f x) _ h.1))

  fit_separated : (xs : List A) → Fit (spell_separated f xs) → AllByRecursion P xs
  unfolding spell_separated
  fit_separated [] h = tt
  fit_separated (x ∷ xs) h = (each x (front (f x) _ h), fit_each xs (back (f x) _ h))

  fit_all : (xs : List A) → Fit (spell_all f xs) → AllByRecursion P xs
  unfolding spell_all
  fit_all [] h = tt
  fit_all (x ∷ xs) h = (each x (front (f x) _ h), fit_all xs (back (f x) _ h))

fit_range : (r : Option Range) → Fit (spell_range r) → FitLiteralsRange r
unfolding spell_range FitLiteralsRange
fit_range None h = tt
fit_range (Some r) h = (fit r.left (front (spell r.left) _ h.1), fit r.right (front (spell r.right) _ (back (spell r.left) _ h.1).1))

fit_type : (signed : Bool) (r : Option Range) → Fit (spell_type signed r) → FitLiteralsRange r
unfolding spell_type
fit_type signed r h = fit_range r (back (spell_where signed _) _ h)

fit_value : (v : Option Tree) → Fit (spell_value v) → FitLiteralsValue v
unfolding spell_value FitLiteralsValue
fit_value None h = tt
fit_value (Some t) h = fit t h.1

fit_declarator : (n : DeclaredName) → Fit (spell_declarator n) → FitLiteralsDeclarator n
unfolding spell_declarator FitLiteralsDeclarator
fit_declarator n h = (fit_range n.words (front (spell_range n.words) _ h.1), fit_value n.value (back (spell_range n.words) _ h.1))

fit_port : (p : PortDeclaration) → Fit (spell_port p) → FitLiteralsPort p
unfolding spell_port FitLiteralsPort
fit_port p h =
    let k = back (spell_dir p.dir) _ h in
    (fit_type p.signed p.range (front (spell_type p.signed p.range) _ k), fit_separated spell_declarator FitLiteralsDeclarator fit_declarator p.names (back (spell_type p.signed p.range) _ k))

fit_assignment : (a : ParamAssignment) → Fit (spell_assignment a) → FitLiteralsAssignment a
unfolding spell_assignment FitLiteralsAssignment
fit_assignment a h = fit a.value h.1.1

fit_parameter : (p : ParameterDeclaration) → Fit (spell_parameter p) → FitLiteralsParameter p
unfolding spell_parameter FitLiteralsParameter
fit_parameter p h =
    let k = back (spell_where p.integer _) _ h.1 in
    (fit_type p.signed p.range (front (spell_type p.signed p.range) _ k), fit_separated spell_assignment FitLiteralsAssignment fit_assignment p.sets (back (spell_type p.signed p.range) _ k))

fit_optional : (v : Option Tree) → Fit (spell_optional v) → FitLiteralsValue v
unfolding spell_optional FitLiteralsValue
fit_optional None h = tt
fit_optional (Some t) h = fit t h

fit_pair : (p : NetAssignment) → Fit (spell_pair p) → FitLiteralsPair p
unfolding spell_pair FitLiteralsPair
fit_pair p h = (fit p.target (front (spell p.target) _ h), fit p.value (back (spell p.target) _ h).1)

fit_more_levels : (ts : Trees) (commas : List Bool) → Fit (spell_more_levels ts commas) → FitLiteralsParts ts
unfolding spell_more_levels FitLiterals
fit_more_levels End commas h = tt
fit_more_levels (More t ts) commas h = (fit t (front (spell t) _ h.1), fit_more_levels ts (rest commas) (back (spell t) _ h.1))

fit_levels : (ts : Trees) (commas : List Bool) → Fit (spell_levels ts commas) → FitLiteralsParts ts
unfolding spell_levels FitLiterals
fit_levels End commas h = tt
fit_levels (More t ts) commas h = (fit t (front (spell t) _ h), fit_more_levels ts commas (back (spell t) _ h))

fit_events : (e : EventControl) → Fit (spell_events e) → FitLiteralsEvents e
unfolding spell_events FitLiteralsEvents
fit_events (Star brackets) h = tt
fit_events (Edges list commas) h = tt
fit_events (Levels list commas) h = fit_levels list commas (front (spell_levels list commas) _ h.1)

fit_connection : (c : NamedConnection) → Fit (spell_connection c) → FitLiteralsConnection c
unfolding spell_connection FitLiteralsConnection
fit_connection c h = fit_optional c.value (front (spell_optional c.value) _ h.1.1.1)

fit_connections : (c : Connections) → Fit (spell_connections c) → FitLiteralsConnections c
unfolding spell_connections FitLiteralsConnections
fit_connections (Positions ts) h = fit_parts ts (front (spell_parts ts) _ h.1)
fit_connections (Names cs) h = fit_separated spell_connection FitLiteralsConnection fit_connection cs (front (spell_separated spell_connection cs) _ h.1)

fit_overrides : (c : Option Connections) → Fit (spell_overrides c) → FitLiteralsOverrides c
unfolding spell_overrides FitLiteralsOverrides
fit_overrides None h = tt
fit_overrides (Some c) h = fit_connections c h.1

fit_instance : (i : ModuleInstance) → Fit (spell_instance i) → FitLiteralsInstance i
unfolding spell_instance FitLiteralsInstance
fit_instance i h = fit_connections i.connections h.1

fit_item : (i : ModuleItem) → Fit (spell_item i) → FitLiteralsItem i
unfolding spell_item FitLiteralsItem
fit_item (Ports p) h = fit_port p (front (spell_port p) _ h)
fit_item (Nets signed range names) h =
    let k = back (spell_type signed range) _ h.1 in
    (fit_type signed range (front (spell_type signed range) _ h.1), fit_separated spell_declarator FitLiteralsDeclarator fit_declarator names (front (spell_separated spell_declarator names) _ k))
fit_item (Variables signed range names) h =
    let k = back (spell_type signed range) _ h.1 in
    (fit_type signed range (front (spell_type signed range) _ h.1), fit_separated spell_declarator FitLiteralsDeclarator fit_declarator names (front (spell_separated spell_declarator names) _ k))
fit_item (Integers names) h = tt
fit_item (Parameters p) h = fit_parameter p (front (spell_parameter p) _ h)
fit_item (Assigns pairs) h = fit_separated spell_pair FitLiteralsPair fit_pair pairs (front (spell_separated spell_pair pairs) _ h.1)
fit_item (Always events s token) h = (fit_events events (front (spell_events events) _ h.1.1), fit_statement s (back (spell_events events) _ h.1.1))
fit_item (Initial s token) h = fit_statement s h.1
fit_item (Instances m token overrides list) h =
    let k = back (spell_overrides overrides) _ h.1 in
    (fit_overrides overrides (front (spell_overrides overrides) _ h.1), fit_separated spell_instance FitLiteralsInstance fit_instance list (front (spell_separated spell_instance list) _ k))

fit_parameters : (ps : List ParameterDeclaration) → Fit (spell_parameters ps) → AllByRecursion FitLiteralsParameter ps
unfolding spell_parameters
fit_parameters [] h = tt
fit_parameters (p ∷ ps) h = fit_separated spell_parameter FitLiteralsParameter fit_parameter (p ∷ ps) (front (spell_separated spell_parameter (p ∷ ps)) _ h.1.1)

none_left : (groups : List PortDeclaration) → length groups ≡ 0 → AllByRecursion FitLiteralsPort groups
none_left [] e = tt
none_left (g ∷ gs) e = absurd (omega (arith, e))

fit_ports : (header : Option (List Identifier)) (groups : List PortDeclaration) → IsHeader header groups → Fit (spell_ports header groups) → AllByRecursion FitLiteralsPort groups
unfolding spell_ports
fit_ports None groups w h = none_left groups w
fit_ports (Some names) groups w h =
    fit_separated spell_port FitLiteralsPort fit_port groups (front (spell_separated spell_port groups) _ (back (spell_separated spell_identifier names) _ h.1))

fit_module : (m : ModuleDeclaration) → WellFormedModule m → Fit (spell_module m) → FitLiteralsModule m
unfolding spell_module WellFormedModule FitLiteralsModule
fit_module m w h =
    let k = back (spell_parameters m.params) _ h.1.1 in
    let j = back (spell_ports m.header m.groups) _ k in (
      fit_parameters m.params (front (spell_parameters m.params) _ h.1.1),
      fit_ports m.header m.groups w.1 (front (spell_ports m.header m.groups) _ k),
      fit_all spell_item FitLiteralsItem fit_item m.items (front (spell_all spell_item m.items) _ j.1),
    )

fit_modules : (ms : List ModuleDeclaration) → AllByRecursion WellFormedModule ms → Fit (spell_all spell_module ms) → AllByRecursion FitLiteralsModule ms
unfolding spell_all
fit_modules [] w h = tt
fit_modules (m ∷ ms) w h = (fit_module m w.0 (front (spell_module m) _ h), fit_modules ms w.1 (back (spell_module m) _ h))

fit_word : (w : Word) → IsSound w → IsFitWord w
fit_word (Named s) h = tt
fit_word (System s) h = tt
fit_word (Digits n) h = record { some = h.0; wide = h.1; value = h.2; any = h.3; unknown = h.4 }
fit_word (Reserved k) h = tt
fit_word (Marked m) h = tt

fit_words : (ws : List Word) → AllByRecursion IsSound ws → Fit ws
fit_words [] h = tt
fit_words (w ∷ ws) h = (fit_word w h.0, fit_words ws h.1)

-- the literals of a source text whose words are those of tokens are fit
pub fit_source : (s : SourceText) (ws : List Word) → WellFormedSource s → spell_source s ≡ ws → All IsSound ws → FitLiteralsSource s
unfolding WellFormedSource spell_source FitLiteralsSource
fit_source s ws w e h = fit_modules s.modules w (subst Fit (sym e) (fit_words ws (recursion_from_All IsSound ws h)))

-- a module has at least one word
modules_spelled : (ms : List ModuleDeclaration) → length ms ≤ length (spell_all spell_module ms)
unfolding spell_all spell_module
modules_spelled [] = omega arith
modules_spelled (m ∷ ms) = omega (arith, modules_spelled ms, length-append (spell_module m) (spell_all spell_module ms))

pub few_modules : (s : SourceText) (ws : List Word) → spell_source s ≡ ws → length s.modules ≤ length ws
unfolding spell_source
few_modules s ws e = rw e at (modules_spelled s.modules)
