-- Each word that a well-formed source text spells has a rule in the profile.
use Rattle.std.proofs.Common.{◌≡◌, ℕ, zero, suc, ◌≤◌, ◌<◌, List, [], ◌∷◌, ◌++◌, length, drop, Bool, true, false, cond, nat_eq, refl, ap, ◌∙◌, sym, arith, Option, Some, None, IsTrue, ◌⊎◌, inl, inr, append_assoc, append-nil, codes, subst}
use Rattle.std.proofs.lemmas.Bool.Decides.{Decides-eqb, nat_tests}
use Rattle.std.proofs.Math.Seq.{drop-nil}
use Rattle.std.specs.List.{AllByRecursion}
use Rattle.rr_syntax.specs.declared.token.Token.{Token}
use Rattle.rr_syntax.specs.declared.tree.Dir.{Dir}
use Rattle.rr_syntax.specs.declared.tree.Dir.TheVariants as dir
use Rattle.rr_syntax.specs.Words.{Word, Named, System, Digits, Marked, Reserved, words, keyword_case, keyword_casex, keyword_casez, keyword_localparam, keyword_negedge, keyword_parameter, keyword_posedge, keyword_signed, mark_equals, mark_hash, mark_less_or_equal, mark_open_parenthesis, mark_part_down, mark_part_up}
use Rattle.rr_syntax.specs.Tree.{Tree, Trees, Name, Literal, Bit, Part, Indexed, Unary, Binary, Cond, Concat, Repeat, Cast, Paren, End, More, Identifier, LoopHead, Statement, Statements, Arm, Arms, Null, Block, If, IfElse, Case, Assign, For, Done, Then, CaseItem, NoArms, MoreArms, Range, PortDeclaration, ParamAssignment, ParameterDeclaration, DeclaredName, NetAssignment, EdgeEvent, EventControl, Star, Edges, Levels, NamedConnection, Connections, Positions, Names, ModuleInstance, ModuleItem, Ports, Nets, Variables, Integers, Parameters, Assigns, Always, Initial, Instances, ModuleDeclaration, SourceText}
use Rattle.rr_syntax.specs.Expressions.{spell, spell_parts, spell_more, WellFormed, WellFormedParts, WellFormedMore, infix_level, is_prefix}
use Rattle.rr_syntax.specs.Statements.{spell_label, spell_labels, spell_loop, spell_statement, spell_statements, spell_arm, spell_arms, is_case, WellFormedLoop, WellFormedStatement, WellFormedStatements, WellFormedArm, WellFormedArms}
use Rattle.rr_syntax.specs.Items as items
use Rattle.rr_syntax.specs.Items.{spell_each, spell_separated, spell_all, spell_where, spell_identifier, spell_range, spell_type, spell_dir, spell_port, spell_assignment, spell_parameter, spell_value, spell_declarator, spell_pair, spell_edge, spell_more_edges, spell_edges, spell_more_levels, spell_levels, spell_events, spell_optional, spell_connection, spell_connections, spell_overrides, spell_instance, spell_item, spell_parameters, spell_ports, spell_module, spell_source, separator, WellFormedRange, WellFormedPort, WellFormedAssignment, WellFormedParameter, WellFormedValue, WellFormedDeclarator, WellFormedPair, WellFormedEvents, WellFormedConnection, WellFormedConnections, WellFormedOverrides, WellFormedInstance, WellFormedItem, WellFormedHead, WellFormedModule, WellFormedSource}
use Rattle.rr_outside_words.specs.Profile.{is_used, is_cast, opens, is_outside, has_no_rule, NoneOutside}

-- each of these words has a rule, whatever stands behind them
record Ruled (ws : List Word) : Type 0 where
  rule : (at : ℕ) (left : List Word) → at < length ws → is_outside (drop at (ws ++ left)) ≡ false

none : Ruled []
none = record { rule = λ at left i. absurd (omega (arith, i)) }

word_rule : (w : Word) → ((left : List Word) → has_no_rule w left ≡ false) → (ws : List Word) → Ruled ws → (at : ℕ) (left : List Word) → at < length (w ∷ ws) → is_outside (drop at ((w ∷ ws) ++ left)) ≡ false
unfolding is_outside
word_rule w h ws r zero left i = h (ws ++ left)
word_rule w h ws r (suc at) left i = r.rule at left (omega (arith, i))

-- a word whose rule asks nothing of what stands behind it
word : (w : Word) → ((left : List Word) → has_no_rule w left ≡ false) → {ws : List Word} → Ruled ws → Ruled (w ∷ ws)
word w h {ws = ws} r = record { rule = word_rule w h ws r }

hash_rule : (ws : List Word) → Ruled ws → (at : ℕ) (left : List Word) → at < length (Marked mark_hash ∷ (Marked mark_open_parenthesis ∷ ws)) → is_outside (drop at ((Marked mark_hash ∷ (Marked mark_open_parenthesis ∷ ws)) ++ left)) ≡ false
unfolding is_outside opens
hash_rule ws r zero left i = refl
hash_rule ws r (suc zero) left i = refl
hash_rule ws r (suc (suc at)) left i = r.rule at left (omega (arith, i))

-- a `#` before its bracket
hash : {ws : List Word} → Ruled ws → Ruled (Marked mark_hash ∷ (Marked mark_open_parenthesis ∷ ws))
hash {ws = ws} r = record { rule = hash_rule ws r }

joined_rule : (us vs : List Word) → ((at : ℕ) (left : List Word) → at < length us → is_outside (drop at (us ++ left)) ≡ false) → Ruled vs → (at : ℕ) (left : List Word) → at < length (us ++ vs) → is_outside (drop at ((us ++ vs) ++ left)) ≡ false
joined_rule [] vs r s at left i = s.rule at left i
joined_rule (u ∷ us) vs r s zero left i = ap (λ (ws : List Word). is_outside (u ∷ ws)) (append_assoc us vs left) ∙ r zero (vs ++ left) (omega arith)
joined_rule (u ∷ us) vs r s (suc at) left i = joined_rule us vs (λ n ws j. r (suc n) ws (omega (arith, j))) s at left (omega (arith, i))

joined : {us vs : List Word} → Ruled us → Ruled vs → Ruled (us ++ vs)
joined {us = us} {vs = vs} r s = record { rule = joined_rule us vs r.rule s }

name : (s : List ℕ) → {ws : List Word} → Ruled ws → Ruled (Named s ∷ ws)
name s r = word (Named s) (λ left. refl) r

mark : (m : ℕ) → nat_eq m mark_hash ≡ false → {ws : List Word} → Ruled ws → Ruled (Marked m ∷ ws)
mark m e r = word (Marked m) (λ left. rw e refl) r

keyword : (k : ℕ) → is_used k ≡ true → {ws : List Word} → Ruled ws → Ruled (Reserved k ∷ ws)
keyword k e r = word (Reserved k) (λ left. rw e refl) r

-- ---- operators

differs : (a b : ℕ) → (a ≡ b → ⊥) → nat_eq a b ≡ false
differs a b h = grind (arith, nat_tests)

prefixed : (m : ℕ) → IsTrue (is_prefix m) → nat_eq m mark_hash ≡ false
unfolding is_prefix
prefixed m w = differs m mark_hash (λ e. let k : nat_eq 0 1 ≡ true = subst (λ (x : ℕ). IsTrue (is_prefix x)) e w in cc k)

infixed : (m : ℕ) → 1 < infix_level m → nat_eq m mark_hash ≡ false
unfolding infix_level
infixed m w = differs m mark_hash (λ e. let k : 1 < 0 = subst (λ (x : ℕ). 1 < infix_level x) e w in omega arith)

cast : (b : Bool) (left : List Word) → has_no_rule (System (cond b (codes "signed") (codes "unsigned"))) left ≡ false
unfolding is_cast
cast true left = refl
cast false left = refl

ends_select : (b : Bool) → nat_eq (cond b mark_part_up mark_part_down) mark_hash ≡ false
ends_select true = refl
ends_select false = refl

-- ---- expressions

mutual
  unfolding spell WellFormed

  expression : (t : Tree) → WellFormed t → Ruled (spell t)
  expression (Name n s) w = name s none
  expression (Literal n d) w = word (Digits d) (λ left. refl) none
  expression (Bit n s i) w = name s (mark _ refl (joined (expression i w) (mark _ refl none)))
  expression (Part n s l r) w = name s (mark _ refl (joined (expression l w.0) (mark _ refl (joined (expression r w.1) (mark _ refl none)))))
  expression (Indexed n s f v up) w = name s (mark _ refl (joined (expression f w.0) (mark _ (ends_select up) (joined (expression v w.1) (mark _ refl none)))))
  expression (Unary m t) w = mark m (prefixed m w.0) (expression t w.1)
  expression (Binary m l r) w = joined (expression l w.1) (mark m (infixed m w.0) (expression r w.2))
  expression (Cond a b c) w = joined (expression a w.0) (mark _ refl (joined (expression b w.1) (mark _ refl (expression c w.2))))
  expression (Concat ts) w = mark _ refl (joined (parts ts w) (mark _ refl none))
  expression (Repeat t ts) w = mark _ refl (joined (expression t w.0) (mark _ refl (joined (parts ts w.1) (mark _ refl (mark _ refl none)))))
  expression (Cast signed t) w = word _ (cast signed) (mark _ refl (joined (expression t w) (mark _ refl none)))
  expression (Paren t) w = mark _ refl (joined (expression t w) (mark _ refl none))

  parts : (ts : Trees) → WellFormedParts ts → Ruled (spell_parts ts)
  parts End w = absurd w
  parts (More t ts) w = joined (expression t w.0) (more ts w.1)

  more : (ts : Trees) → WellFormedMore ts → Ruled (spell_more ts)
  more End w = none
  more (More t ts) w = mark _ refl (joined (expression t w.0) (more ts w.1))

any_parts : (ts : Trees) → WellFormedMore ts → Ruled (spell_parts ts)
unfolding spell WellFormed
any_parts End w = none
any_parts (More t ts) w = joined (expression t w.0) (more ts w.1)

-- ---- statements

by_test : (b : Bool) {P : Type 0} → (b ≡ true → P) → (b ≡ false → P) → P
by_test true f g = f refl
by_test false f g = g refl

used : (k j : ℕ) → nat_eq k j ≡ true → is_used j ≡ true → is_used k ≡ true
used k j e u = let h : k ≡ j = (Decides-eqb k j).0 e in rw h u

case_used : (k : ℕ) → IsTrue (is_case k) → is_used k ≡ true
unfolding is_used
case_used k w = by_test (nat_eq k keyword_case) (λ e. used k keyword_case e refl) (λ e. by_test (nat_eq k keyword_casex) (λ f. used k keyword_casex f refl) (λ f. let h : nat_eq k keyword_casez ≡ true = grind (arith, nat_tests) in used k keyword_casez h refl))

label : (l : Option Identifier) → Ruled (spell_label l)
unfolding spell_label
label None = none
label (Some i) = mark _ refl (name i.text none)

labels : (ts : Trees) (colon : Bool) → WellFormedMore ts → Ruled (spell_labels ts colon)
unfolding spell_labels WellFormed is_used
labels End true w = keyword _ refl (mark _ refl none)
labels End false w = keyword _ refl none
labels (More t ts) colon w = joined (any_parts (More t ts) w) (mark _ refl none)

now_mark : (b : Bool) → nat_eq (cond b mark_equals mark_less_or_equal) mark_hash ≡ false
now_mark true = refl
now_mark false = refl

loop_head : (h : LoopHead) → WellFormedLoop h → Ruled (spell_loop h)
unfolding spell_loop WellFormedLoop
loop_head h w =
    mark _ refl (name h.text (mark _ refl (joined (expression h.start w.0) (mark _ refl (joined (expression h.test w.1) (mark _ refl (name h.step_text (mark _ refl (joined (expression h.step w.2) (mark _ refl none))))))))))

mutual
  unfolding spell_statement WellFormedStatement is_used

  statement : (s : Statement) → WellFormedStatement s → Ruled (spell_statement s)
  statement Null w = mark _ refl none
  statement (Block l ss) w = keyword _ refl (joined (label l) (joined (statements ss w) (keyword _ refl none)))
  statement (If t s) w = keyword _ refl (mark _ refl (joined (expression t w.0) (mark _ refl (statement s w.1))))
  statement (IfElse t s u) w = keyword _ refl (mark _ refl (joined (expression t w.0) (mark _ refl (joined (statement s w.1) (keyword _ refl (statement u w.3))))))
  statement (Case kind t bs) w = keyword kind (case_used kind w.0) (mark _ refl (joined (expression t w.1) (mark _ refl (joined (arms bs w.3) (keyword _ refl none)))))
  statement (Assign t now v) w = joined (expression t w.1) (mark _ (now_mark now) (joined (expression v w.2) (mark _ refl none)))
  statement (For h s) w = keyword _ refl (joined (loop_head h w.0) (statement s w.1))

  statements : (ss : Statements) → WellFormedStatements ss → Ruled (spell_statements ss)
  statements Done w = none
  statements (Then s ss) w = joined (statement s w.0) (statements ss w.1)

  arm : (a : Arm) → WellFormedArm a → Ruled (spell_arm a)
  arm (CaseItem ts colon s) w = joined (labels ts colon w.0) (statement s w.2)

  arms : (bs : Arms) → WellFormedArms bs → Ruled (spell_arms bs)
  arms NoArms w = none
  arms (MoreArms a rest) w = joined (arm a w.0) (arms rest w.1)

-- ---- lists

each_of : {A : Type 0} (f : A → List Word) (W : A → Type 0) → ((a : A) → W a → Ruled (f a)) → (xs : List A) → AllByRecursion W xs → Ruled (spell_each f xs)
unfolding spell_each
each_of f W h [] w = none
each_of f W h (x ∷ xs) w = mark _ refl (joined (h x w.0) (each_of f W h xs w.1))

list_of : {A : Type 0} (f : A → List Word) (W : A → Type 0) → ((a : A) → W a → Ruled (f a)) → (xs : List A) → AllByRecursion W xs → Ruled (spell_separated f xs)
unfolding spell_separated
list_of f W h [] w = none
list_of f W h (x ∷ xs) w = joined (h x w.0) (each_of f W h xs w.1)

all_of : {A : Type 0} (f : A → List Word) (W : A → Type 0) → ((a : A) → W a → Ruled (f a)) → (xs : List A) → AllByRecursion W xs → Ruled (spell_all f xs)
unfolding spell_all
all_of f W h [] w = none
all_of f W h (x ∷ xs) w = joined (h x w.0) (all_of f W h xs w.1)

abbrev Anyhow : {A : Type 0} → A → Type 0
Anyhow a = Unit {0}

anyhow : {A : Type 0} (xs : List A) → AllByRecursion Anyhow xs
anyhow [] = tt
anyhow (x ∷ xs) = (tt, anyhow xs)

-- ---- declarations

flag : (b : Bool) (k : ℕ) → is_used k ≡ true → Ruled (spell_where b k)
unfolding spell_where
flag true k e = keyword k e none
flag false k e = none

identifier : (n : Identifier) → Ruled (spell_identifier n)
unfolding spell_identifier
identifier n = name n.text none

identifiers : (ns : List Identifier) → Ruled (spell_separated spell_identifier ns)
identifiers ns = list_of spell_identifier Anyhow (λ n w. identifier n) ns (anyhow ns)

range : (r : Option Range) → WellFormedRange r → Ruled (spell_range r)
unfolding spell_range WellFormedRange
range None w = none
range (Some r) w = mark _ refl (joined (expression r.left w.0) (mark _ refl (joined (expression r.right w.1) (mark _ refl none))))

type_of : (s : Bool) (r : Option Range) → WellFormedRange r → Ruled (spell_type s r)
unfolding spell_type is_used
type_of s r w = joined (flag s keyword_signed refl) (range r w)

direction : (d : Dir) → Ruled (spell_dir d)
unfolding spell_dir is_used
direction dir.Input = keyword _ refl none
direction dir.InputWire = keyword _ refl (keyword _ refl none)
direction dir.Output = keyword _ refl none
direction dir.OutputWire = keyword _ refl (keyword _ refl none)
direction dir.OutputReg = keyword _ refl (keyword _ refl none)

value : (v : Option Tree) → WellFormedValue v → Ruled (spell_value v)
unfolding spell_value WellFormedValue
value None w = none
value (Some t) w = mark _ refl (expression t w)

declarator : (n : DeclaredName) → WellFormedDeclarator n → Ruled (spell_declarator n)
unfolding spell_declarator WellFormedDeclarator
declarator n w = name n.text (joined (range n.words w.0) (value n.value w.1))

port : (p : PortDeclaration) → WellFormedPort p → Ruled (spell_port p)
unfolding spell_port WellFormedPort
port p w = joined (direction p.dir) (joined (type_of p.signed p.range w.0) (list_of spell_declarator WellFormedDeclarator declarator p.names w.2))

assignment : (a : ParamAssignment) → WellFormedAssignment a → Ruled (spell_assignment a)
unfolding spell_assignment WellFormedAssignment
assignment a w = name a.text (mark _ refl (expression a.value w))

local_word : (b : Bool) → is_used (cond b keyword_localparam keyword_parameter) ≡ true
unfolding is_used
local_word true = refl
local_word false = refl

parameter : (p : ParameterDeclaration) → WellFormedParameter p → Ruled (spell_parameter p)
unfolding spell_parameter WellFormedParameter is_used
parameter p w = keyword _ (local_word p.local) (joined (flag p.integer _ refl) (joined (type_of p.signed p.range w.1) (list_of spell_assignment WellFormedAssignment assignment p.sets w.3)))

pair : (p : NetAssignment) → WellFormedPair p → Ruled (spell_pair p)
unfolding spell_pair WellFormedPair
pair p w = joined (expression p.target w.1) (mark _ refl (expression p.value w.2))

-- ---- events

between : (cs : List Bool) {ws : List Word} → Ruled ws → Ruled (separator cs ∷ ws)
unfolding separator is_used
between [] r = keyword _ refl r
between (true ∷ cs) r = mark _ refl r
between (false ∷ cs) r = keyword _ refl r

edge_word : (b : Bool) → is_used (cond b keyword_posedge keyword_negedge) ≡ true
unfolding is_used
edge_word true = refl
edge_word false = refl

edge : (e : EdgeEvent) → Ruled (spell_edge e)
unfolding spell_edge
edge e = keyword _ (edge_word e.rising) (name e.text none)

more_edges : (es : List EdgeEvent) (cs : List Bool) → Ruled (spell_more_edges es cs)
unfolding spell_more_edges
more_edges [] cs = none
more_edges (e ∷ es) cs = between cs (joined (edge e) (more_edges es (items.rest cs)))

edges : (es : List EdgeEvent) (cs : List Bool) → Ruled (spell_edges es cs)
unfolding spell_edges
edges [] cs = none
edges (e ∷ es) cs = joined (edge e) (more_edges es cs)

more_levels : (ts : Trees) (cs : List Bool) → WellFormedMore ts → Ruled (spell_more_levels ts cs)
unfolding spell_more_levels WellFormed
more_levels End cs w = none
more_levels (More t ts) cs w = between cs (joined (expression t w.0) (more_levels ts (items.rest cs) w.1))

levels : (ts : Trees) (cs : List Bool) → WellFormedMore ts → Ruled (spell_levels ts cs)
unfolding spell_levels WellFormed
levels End cs w = none
levels (More t ts) cs w = joined (expression t w.0) (more_levels ts cs w.1)

events : (e : EventControl) → WellFormedEvents e → Ruled (spell_events e)
unfolding spell_events WellFormedEvents
events (Star true) w = mark _ refl (mark _ refl (mark _ refl none))
events (Star false) w = mark _ refl none
events (Edges list commas) w = mark _ refl (joined (edges list commas) (mark _ refl none))
events (Levels list commas) w = mark _ refl (joined (levels list commas w.1) (mark _ refl none))

-- ---- connections

optional : (v : Option Tree) → WellFormedValue v → Ruled (spell_optional v)
unfolding spell_optional WellFormedValue
optional None w = none
optional (Some t) w = expression t w

connection : (c : NamedConnection) → WellFormedConnection c → Ruled (spell_connection c)
unfolding spell_connection WellFormedConnection
connection c w = mark _ refl (name c.text (mark _ refl (joined (optional c.value w) (mark _ refl none))))

-- behind the opening bracket
inside : Connections → List Word
inside (Positions ts) = spell_parts ts ++ (Marked 1 ∷ [])
inside (Names cs) = spell_separated spell_connection cs ++ (Marked 1 ∷ [])

connections_are : (c : Connections) → spell_connections c ≡ Marked mark_open_parenthesis ∷ inside c
unfolding spell_connections inside
connections_are (Positions ts) = refl
connections_are (Names cs) = refl

inside_ruled : (c : Connections) → WellFormedConnections c → Ruled (inside c)
unfolding inside WellFormedConnections
inside_ruled (Positions ts) w = joined (any_parts ts w) (mark _ refl none)
inside_ruled (Names cs) w = joined (list_of spell_connection WellFormedConnection connection cs w.1) (mark _ refl none)

connections : (c : Connections) → WellFormedConnections c → Ruled (spell_connections c)
connections c w = subst Ruled (sym (connections_are c)) (mark _ refl (inside_ruled c w))

overrides : (o : Option Connections) → WellFormedOverrides o → Ruled (spell_overrides o)
unfolding spell_overrides WellFormedOverrides
overrides None w = none
overrides (Some c) w = subst Ruled (ap (λ (ws : List Word). Marked mark_hash ∷ ws) (sym (connections_are c))) (hash (inside_ruled c w))

instance : (i : ModuleInstance) → WellFormedInstance i → Ruled (spell_instance i)
unfolding spell_instance WellFormedInstance
instance i w = name i.text (connections i.connections w)

-- ---- items and modules

item : (i : ModuleItem) → WellFormedItem i → Ruled (spell_item i)
unfolding spell_item WellFormedItem is_used
item (Ports p) w = joined (port p w) (mark _ refl none)
item (Nets s r ns) w = keyword _ refl (joined (type_of s r w.0) (joined (list_of spell_declarator WellFormedDeclarator declarator ns w.2) (mark _ refl none)))
item (Variables s r ns) w = keyword _ refl (joined (type_of s r w.0) (joined (list_of spell_declarator WellFormedDeclarator declarator ns w.2) (mark _ refl none)))
item (Integers ns) w = keyword _ refl (joined (identifiers ns) (mark _ refl none))
item (Parameters p) w = joined (parameter p w) (mark _ refl none)
item (Assigns ps) w = keyword _ refl (joined (list_of spell_pair WellFormedPair pair ps w.1) (mark _ refl none))
item (Always e s n) w = keyword _ refl (mark _ refl (joined (events e w.0) (statement s w.1)))
item (Initial s n) w = keyword _ refl (statement s w.1)
item (Instances m n o is) w = name m (joined (overrides o w.0) (joined (list_of spell_instance WellFormedInstance instance is w.2) (mark _ refl none)))

head : (p : ParameterDeclaration) → WellFormedHead p → Ruled (spell_parameter p)
unfolding WellFormedHead
head p w = parameter p w.1

parameters : (ps : List ParameterDeclaration) → AllByRecursion WellFormedHead ps → Ruled (spell_parameters ps)
unfolding spell_parameters
parameters [] w = none
parameters (p ∷ ps) w = hash (joined (list_of spell_parameter WellFormedHead head (p ∷ ps) w) (mark _ refl none))

ports : (h : Option (List Identifier)) (g : List PortDeclaration) → AllByRecursion WellFormedPort g → Ruled (spell_ports h g)
unfolding spell_ports
ports None g w = none
ports (Some ns) g w = mark _ refl (joined (identifiers ns) (joined (list_of spell_port WellFormedPort port g w) (mark _ refl none)))

module_ruled : (m : ModuleDeclaration) → WellFormedModule m → Ruled (spell_module m)
unfolding spell_module WellFormedModule is_used
module_ruled m w = keyword _ refl (name m.text (joined (parameters m.params w.0) (joined (ports m.header m.groups w.2) (mark _ refl (joined (all_of spell_item WellFormedItem item m.items w.3) (keyword _ refl none))))))

source : (s : SourceText) → WellFormedSource s → Ruled (spell_source s)
unfolding spell_source WellFormedSource
source s w = all_of spell_module WellFormedModule module_ruled s.modules w

past : (ws : List Word) (at : ℕ) → length ws ≤ at → is_outside (drop at ws) ≡ false
unfolding is_outside
past [] at h = rw (drop-nil {A = Word} at) refl
past (w ∷ ws) zero h = absurd (omega arith)
past (w ∷ ws) (suc at) h = past ws at (omega arith)

below_or_past : (i n : ℕ) → (i < n) ⊎ (n ≤ i)
below_or_past i zero = inr (omega arith)
below_or_past zero (suc n) = inl (omega arith)
below_or_past (suc i) (suc n) = elim (below_or_past i n) [ inl k ↦ inl (omega arith) | inr k ↦ inr (omega arith) ]

none_outside : (ws : List Word) → Ruled ws → (at : ℕ) → is_outside (drop at ws) ≡ false
none_outside ws r at = elim (below_or_past at (length ws)) [
  | inl k ↦ ap (λ (us : List Word). is_outside (drop at us)) (sym (append-nil ws)) ∙ r.rule at [] k
  | inr k ↦ past ws at k
]

not_true : (b : Bool) → b ≡ false → IsTrue b → ⊥
not_true b e h = cc (e, h)

pub words_ruled : (tokens : List Token) (t : SourceText) → WellFormedSource t → spell_source t ≡ words tokens → NoneOutside tokens
words_ruled tokens t w e at o = not_true (is_outside (drop at (words tokens))) (ap (λ (us : List Word). is_outside (drop at us)) (sym e) ∙ none_outside (spell_source t) (source t w) at) o
