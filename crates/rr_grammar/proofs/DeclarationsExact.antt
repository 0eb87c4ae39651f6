-- The formats of declarations and continuous assignments are exact.
use Rattle.std.proofs.Common.{◌≡◌, ℕ, zero, suc, ◌+◌, ◌≤◌, ◌<◌, List, [], ◌∷◌, ◌++◌, length, map, refl, ap, ◌∙◌, sym, arith, Bool, true, false, not, ◌||◌, cond, nat_eq, Option, Some, None, ◌⊎◌, inl, inr, subst, append_assoc}
use Rattle.std.proofs.lemmas.Bool.Decides.{Decides-eqb}
use Rattle.std.specs.List.{list_all}
use Rattle.std.specs.Option.{is_some}
use Rattle.rr_syntax.specs.declared.tree.Dir.{Dir}
use Rattle.rr_syntax.specs.declared.tree.Dir.TheVariants as dir
use Rattle.rr_syntax.specs.Words.{Word, Named, Marked, Reserved, keyword_input, keyword_integer, keyword_localparam, keyword_output, keyword_parameter, keyword_reg, keyword_signed, keyword_wire, mark_open_bracket, mark_comma, mark_equals}
use Rattle.rr_syntax.specs.Tree.{Tree, Range, PortDeclaration, ParamAssignment, DeclaredName, bare, bare_identifier, bare_range, bare_port, bare_assignment, bare_parameter, bare_value, bare_declarator, bare_pair}
use Rattle.rr_syntax.specs.Expressions.{spell, infix_level, unary_level}
use Rattle.rr_syntax.specs.Items.{spell_identifier, spell_where, spell_dir, spell_range, spell_type, spell_port, spell_assignment, spell_parameter, spell_value, spell_declarator, spell_pair, spell_each, spell_separated, NumberedPort}
use Rattle.rr_parse_expr.specs.Reading.{Found, mapped, chain, mark, rest, no_mark}
use Rattle.rr_parse_expr.proofs.Answered.{not_equal}
use Rattle.rr_parse_expr.proofs.Climbs.{mapped_tells, if_tells, if_splits}
use Rattle.rr_parse_stmt.specs.Reading.{keyword, no_word}
use Rattle.rr_grammar.specs.Formats.{Format, IsExact, both, after_mark, shaped, respelled, guarded, list}
use Rattle.rr_grammar.specs.Leaves.{identifier, Ends, expression, EndsTarget, target_of, flag, spell_option, bare_option, where_mark, range, NoType, typed, choice, of_input, of_output, direction}
use Rattle.rr_grammar.specs.Declarations.{to_declarator, of_declarator, declarator, has_no_words, single, is_variable_name, variable, to_port, of_port, is_output_reg, has_no_value, starts_right, port, to_setting, of_setting, setting, to_pair, of_pair, pair, of_kind, kind, to_parameter, of_parameter, parameter, is_global, head_parameter}
use Rattle.rr_grammar.proofs.Exacts.{both_exact, after_mark_exact, shaped_exact, respelled_exact, guarded_exact, list_exact, mapped_some}
use Rattle.rr_grammar.proofs.LeavesExact.{identifier_exact, expression_exact, target_exact, reserved, same, eq_of, flag_exact, where_mark_exact, range_exact, typed_exact, choice_exact, ends_at}

-- ---- the direction of a port

direction_finds : (d : Dir) (left : List Word) → direction.Before left → direction.read (spell_dir d ++ left) ≡ Some (d, left)
unfolding spell_dir keyword rest
direction_finds dir.Input left v = let a = not_equal (keyword left) keyword_wire v.0 in rw a refl
direction_finds dir.InputWire left v = refl
direction_finds dir.Output left v = let a = not_equal (keyword left) keyword_wire v.0 in let b = not_equal (keyword left) keyword_reg v.1 in rw (a, b) refl
direction_finds dir.OutputWire left v = refl
direction_finds dir.OutputReg left v = refl

input_spelled : (ws : List Word) (p : Dir × List Word) → of_input ws ≡ Some p → Reserved keyword_input ∷ ws ≡ spell_dir p.0 ++ p.1
unfolding spell_dir
input_spelled ws p e = elim (if_splits (nat_eq (keyword ws) keyword_wire) (Some (dir.InputWire, rest ws)) (Some (dir.Input, ws)) p e) [
  | inl t ↦ (let q : (dir.InputWire, rest ws) ≡ p = cc (t.1) in ap (λ (us : List Word). Reserved keyword_input ∷ us) (reserved keyword_wire ws (eq_of (keyword ws) keyword_wire t.0) (omega arith)) ∙ ap (λ (x : Dir × List Word). spell_dir x.0 ++ x.1) q)
  | inr t ↦ (let q : (dir.Input, ws) ≡ p = cc (t.1) in ap (λ (x : Dir × List Word). spell_dir x.0 ++ x.1) q)
]

output_spelled : (ws : List Word) (p : Dir × List Word) → of_output ws ≡ Some p → Reserved keyword_output ∷ ws ≡ spell_dir p.0 ++ p.1
unfolding spell_dir
output_spelled ws p e = elim (if_splits (nat_eq (keyword ws) keyword_wire) (Some (dir.OutputWire, rest ws)) (cond (nat_eq (keyword ws) keyword_reg) (Some (dir.OutputReg, rest ws)) (Some (dir.Output, ws))) p e) [
  | inl t ↦ (let q : (dir.OutputWire, rest ws) ≡ p = cc (t.1) in ap (λ (us : List Word). Reserved keyword_output ∷ us) (reserved keyword_wire ws (eq_of (keyword ws) keyword_wire t.0) (omega arith)) ∙ ap (λ (x : Dir × List Word). spell_dir x.0 ++ x.1) q)
  | inr t ↦ elim (if_splits (nat_eq (keyword ws) keyword_reg) (Some (dir.OutputReg, rest ws)) (Some (dir.Output, ws)) p t.1) [
    | inl s ↦ (let q : (dir.OutputReg, rest ws) ≡ p = cc (s.1) in ap (λ (us : List Word). Reserved keyword_output ∷ us) (reserved keyword_reg ws (eq_of (keyword ws) keyword_reg s.0) (omega arith)) ∙ ap (λ (x : Dir × List Word). spell_dir x.0 ++ x.1) q)
    | inr s ↦ (let q : (dir.Output, ws) ≡ p = cc (s.1) in ap (λ (x : Dir × List Word). spell_dir x.0 ++ x.1) q)
  ]
]

direction_spelled : (ws : List Word) (p : Dir × List Word) → direction.read ws ≡ Some p → ws ≡ spell_dir p.0 ++ p.1
direction_spelled ws p e = elim (if_splits (nat_eq (keyword ws) keyword_input) (of_input (rest ws)) (cond (nat_eq (keyword ws) keyword_output) (of_output (rest ws)) None) p e) [
  | inl t ↦ reserved keyword_input ws (eq_of (keyword ws) keyword_input t.0) (omega arith) ∙ input_spelled (rest ws) p t.1
  | inr t ↦ (let s = if_tells (nat_eq (keyword ws) keyword_output) (of_output (rest ws)) p t.1 in reserved keyword_output ws (eq_of (keyword ws) keyword_output s.0) (omega arith) ∙ output_spelled (rest ws) p s.1)
]

pub direction_exact : IsExact direction
direction_exact = record { finds = λ d w left v. direction_finds d left v; good = λ ws p e. tt; bared = λ ws p e. refl; spelled = direction_spelled }

-- ---- what a list of names begins with

abbrev pub OpensNamed : List Word → Type 0
OpensNamed ws = (s : List ℕ) × (us : List Word) × (ws ≡ Named s ∷ us)

pub names_open : (ns : List DeclaredName) → 0 < length ns → (left : List Word) → OpensNamed (spell_separated spell_declarator ns ++ left)
unfolding spell_separated spell_declarator
names_open [] h left = absurd (omega arith)
names_open (n ∷ ns) h left = (n.text, _, refl)

pub named_word : (ws : List Word) → OpensNamed ws → keyword ws ≡ no_word
unfolding keyword
named_word ws o = ap keyword o.2

pub named_mark : (ws : List Word) → OpensNamed ws → mark ws ≡ no_mark
unfolding mark
named_mark ws o = ap mark o.2

pub no_keyword : (ws : List Word) (k : ℕ) → keyword ws ≡ no_word → k < no_word → keyword ws ≡ k → ⊥
no_keyword ws k e h f = absurd (omega (arith, e, f))

pub no_mark_at : (ws : List Word) (m : ℕ) → mark ws ≡ no_mark → m < no_mark → mark ws ≡ m → ⊥
no_mark_at ws m e h f = absurd (omega (arith, e, f))

-- ---- settings and declared names

pub setting_exact : (k : ℕ) → IsExact (setting k)
unfolding spell_assignment spell_identifier bare_assignment bare_identifier
setting_exact k = respelled_exact (shaped (both identifier (after_mark mark_equals (expression k))) to_setting of_setting) (shaped_exact (both identifier (after_mark mark_equals (expression k)))
    (both_exact identifier (after_mark mark_equals (expression k)) identifier_exact (after_mark_exact (expression k) (expression_exact k) mark_equals (omega arith)) (λ b g left v. tt)) to_setting of_setting (λ a. refl)) spell_assignment bare_assignment (λ a. refl) (λ a. refl)

value_words : (v : Option Tree) → spell_value v ≡ spell_option mark_equals spell v
unfolding spell_value
value_words None = refl
value_words (Some t) = refl

value_bare : (v : Option Tree) → bare_value v ≡ bare_option bare v
unfolding bare_value
value_bare None = refl
value_bare (Some t) = refl

pub declarator_words : (n : DeclaredName) → spell_declarator n ≡ Named n.text ∷ (spell_range n.words ++ spell_option mark_equals spell n.value)
unfolding spell_declarator
declarator_words n = ap (λ (us : List Word). Named n.text ∷ (spell_range n.words ++ us)) (value_words n.value)

pub declarator_bare : (n : DeclaredName) → bare_declarator n ≡ to_declarator (record { token = 0; text = n.text }, (bare_range n.words, bare_option bare n.value))
unfolding bare_declarator
declarator_bare n = ap (λ (v : Option Tree). to_declarator (record { token = 0; text = n.text }, (bare_range n.words, v))) (value_bare n.value)

-- no range goes on behind one
no_range : (v : Option Tree) (left : List Word) → Ends left → mark (spell_option mark_equals spell v ++ left) ≡ mark_open_bracket → ⊥
unfolding mark
no_range None left u e = u.no_select e
no_range (Some t) left u e = absurd (omega (arith, e))

pub declarator_exact : (k : ℕ) → IsExact (declarator k)
unfolding spell_identifier bare_identifier
declarator_exact k =
    let w = where_mark_exact (expression k) (expression_exact k) mark_equals (omega arith) in
    let e = both_exact (range k) (where_mark mark_equals (expression k)) (range_exact k) w (λ v g left u. (tt, no_range v left u.0)) in
    let f = both_exact identifier (both (range k) (where_mark mark_equals (expression k))) identifier_exact e (λ b g left v. tt) in
    respelled_exact (shaped (both identifier (both (range k) (where_mark mark_equals (expression k)))) to_declarator of_declarator)
    (shaped_exact (both identifier (both (range k) (where_mark mark_equals (expression k)))) f to_declarator of_declarator (λ a. refl)) spell_declarator bare_declarator declarator_words declarator_bare

words_are_some : (r : Option Range) → is_some (bare_range r) ≡ is_some r
unfolding bare_range
words_are_some None = refl
words_are_some (Some r) = refl

value_is_some : (v : Option Tree) → is_some (bare_value v) ≡ is_some v
unfolding bare_value
value_is_some None = refl
value_is_some (Some t) = refl

pub words_bare : (n : DeclaredName) → has_no_words (bare_declarator n) ≡ has_no_words n
unfolding bare_declarator
words_bare n = ap (λ (b : Bool). not b) (words_are_some n.words)

pub variable_bare : (n : DeclaredName) → is_variable_name (bare_declarator n) ≡ is_variable_name n
unfolding bare_declarator
variable_bare n = let e = words_are_some n.words in let f = value_is_some n.value in rw (e, f) refl

pub single_exact : (k : ℕ) → IsExact (single k)
single_exact k = guarded_exact (declarator k) (declarator_exact k) has_no_words words_bare

pub variable_exact : (k : ℕ) → IsExact (variable k)
variable_exact k = guarded_exact (declarator k) (declarator_exact k) is_variable_name variable_bare

level-comma : infix_level mark_comma ≡ 0
unfolding infix_level
level-comma = refl

pub comma_ends : (left : List Word) → Ends (Marked mark_comma ∷ left)
comma_ends left = ends_at mark_comma left level-comma refl

pub not_equals : (m : ℕ) (left : List Word) → (m ≡ mark_equals → ⊥) → mark (Marked m ∷ left) ≡ mark_equals → ⊥
unfolding mark
not_equals m left h e = h e

pub singles_exact : (k : ℕ) → IsExact (list (single k))
singles_exact k = list_exact (single k) (single_exact k) (λ left. (comma_ends left, not_equals mark_comma left (λ e. absurd (omega (arith, e)))))

pub variables_exact : (k : ℕ) → IsExact (list (variable k))
variables_exact k = list_exact (variable k) (variable_exact k) (λ left. (comma_ends left, not_equals mark_comma left (λ e. absurd (omega (arith, e)))))

-- ---- ports

abbrev Plainly : List Word → Type 0
Plainly ws = (keyword ws ≡ keyword_wire → ⊥) × (keyword ws ≡ keyword_reg → ⊥)

plainly_by : (ws : List Word) (k : ℕ) → keyword ws ≡ k → (k ≡ keyword_wire → ⊥) → (k ≡ keyword_reg → ⊥) → Plainly ws
plainly_by ws k e a b = (λ f. a (sym e ∙ f), λ f. b (sym e ∙ f))

typed_front : (k : ℕ) (s : Bool) (r : Option Range) (ns : List DeclaredName) → 0 < length ns → (left : List Word) → Plainly (((typed k).spell (s, r) ++ spell_separated spell_declarator ns) ++ left)
unfolding spell_where spell_range keyword
typed_front k true r ns h left = plainly_by (((typed k).spell (true, r) ++ spell_separated spell_declarator ns) ++ left) keyword_signed refl (λ e. absurd (omega (arith, e))) (λ e. absurd (omega (arith, e)))
typed_front k false (Some r) ns h left = plainly_by (((typed k).spell (false, Some r) ++ spell_separated spell_declarator ns) ++ left) no_word refl (λ e. absurd (omega (arith, e))) (λ e. absurd (omega (arith, e)))
typed_front k false None ns h left = plainly_by (spell_separated spell_declarator ns ++ left) no_word (named_word (spell_separated spell_declarator ns ++ left) (names_open ns h left)) (λ e. absurd (omega (arith, e))) (λ e. absurd (omega (arith, e)))

typed_names_exact : (k : ℕ) → IsExact (both (typed k) (list (single k)))
typed_names_exact k = both_exact (typed k) (list (single k)) (typed_exact k) (singles_exact k)
    (λ ns g left v. (let o = names_open ns g.0 left in (no_keyword (spell_separated spell_declarator ns ++ left) keyword_signed (named_word (spell_separated spell_declarator ns ++ left) o) (omega arith), no_mark_at (spell_separated spell_declarator ns ++ left) mark_open_bracket (named_mark (spell_separated spell_declarator ns ++ left) o) (omega arith))))

bare_starts : (ns : List DeclaredName) → list_all has_no_value (map bare_declarator ns) ≡ list_all has_no_value ns
unfolding bare_declarator
bare_starts [] = refl
bare_starts (n ∷ ns) = let e = bare_starts ns in let f = value_is_some n.value in rw (e, f) refl

pub starts_bare : (p : PortDeclaration) → starts_right (bare_port p) ≡ starts_right p
unfolding bare_port
starts_bare p = ap (λ (b : Bool). is_output_reg p.dir || b) (bare_starts p.names)

pub port_exact : (k : ℕ) → IsExact (port k)
unfolding spell_port spell_type bare_port
port_exact k =
    let parts = both direction (both (typed k) (list (single k))) in
    let e = both_exact direction (both (typed k) (list (single k))) direction_exact (typed_names_exact k) (λ x g left v. typed_front k x.0.0 x.0.1 x.1 g.1.0 left) in
    let f = respelled_exact (shaped parts to_port of_port) (shaped_exact parts e to_port of_port (λ a. refl)) spell_port bare_port (λ a. refl) (λ a. refl) in
    guarded_exact (respelled (shaped parts to_port of_port) spell_port bare_port NumberedPort) f starts_right starts_bare

-- ---- assignments

equals_low : infix_level mark_equals < unary_level
unfolding infix_level
equals_low = omega arith

target_ends : (left : List Word) → EndsTarget (Marked mark_equals ∷ left)
unfolding mark
target_ends left = record { low = equals_low; no_select = λ e. absurd (omega (arith, e)) }

pub pair_exact : (k : ℕ) → IsExact (pair k)
unfolding spell_pair bare_pair
pair_exact k = respelled_exact (shaped (both (target_of k) (after_mark mark_equals (expression k))) to_pair of_pair) (shaped_exact (both (target_of k) (after_mark mark_equals (expression k)))
    (both_exact (target_of k) (after_mark mark_equals (expression k)) (target_exact k) (after_mark_exact (expression k) (expression_exact k) mark_equals (omega arith)) (λ b g left v. target_ends ((expression k).spell b ++ left))) to_pair of_pair (λ a. refl)) spell_pair bare_pair (λ a. refl) (λ a. refl)

-- ---- parameters

kind_front : (k : ℕ) (s : Bool) (r : Option Range) (left : List Word) → (kind k).Before left → keyword ((typed k).spell (s, r) ++ left) ≡ keyword_integer → ⊥
unfolding spell_where spell_range keyword
kind_front k true r left v e = absurd (omega (arith, e))
kind_front k false (Some r) left v e = absurd (omega (arith, e))
kind_front k false None left v e = v.0 e

kind_finds : (k : ℕ) (x : Bool × (Bool × Option Range)) → (kind k).Good x → (left : List Word) → (kind k).Before left → of_kind k ((kind k).spell x ++ left) ≡ Some ((kind k).bare x, left)
unfolding spell_where spell_range bare_range keyword rest
kind_finds k (true, (true, r)) w left v = absurd (cc (w.0.0))
kind_finds k (true, (false, Some r)) w left v = absurd (cc (w.0.1))
kind_finds k (true, (false, None)) w left v = refl
kind_finds k (false, (s, r)) w left v =
    let e : nat_eq (keyword ((typed k).spell (s, r) ++ left)) keyword_integer ≡ false = not_equal (keyword ((typed k).spell (s, r) ++ left)) keyword_integer (kind_front k s r left v) in
    rw e (mapped_some (λ t. (false, t)) ((typed k).read ((typed k).spell (s, r) ++ left)) ((typed k).bare (s, r), left) ((typed_exact k).finds (s, r) w.1 left v.1))

kind_found : (k : ℕ) (ws : List Word) (p : (Bool × (Bool × Option Range)) × List Word) → of_kind k ws ≡ Some p → ((keyword ws ≡ keyword_integer) × (((true, (false, None)), rest ws) ≡ p)) ⊎ ((a : (Bool × Option Range) × List Word) × ((typed k).read ws ≡ Some a) × (((false, a.0), a.1) ≡ p))
kind_found k ws p e = elim (if_splits (nat_eq (keyword ws) keyword_integer) (Some ((true, (false, None)), rest ws)) (mapped (λ t. (false, t)) ((typed k).read ws)) p e) [
  | inl t ↦ inl (eq_of (keyword ws) keyword_integer t.0, cc (t.1))
  | inr t ↦ (let a = mapped_tells (λ t. (false, t)) ((typed k).read ws) p t.1 in inr (a.0, a.1, ap (λ x. (x, a.0.1)) a.2 ∙ ap (λ (x : List Word). (p.0, x)) a.3))
]

pub kind_exact : (k : ℕ) → IsExact (kind k)
unfolding spell_where spell_range bare_range
kind_exact k = record {
  finds = kind_finds k;
  good = λ ws p e. elim (kind_found k ws p e) [
    | inl t ↦ subst (λ x. (kind k).Good x.0) t.1 ((refl, refl), (tt, tt))
    | inr t ↦ subst (λ x. (kind k).Good x.0) t.2 (tt, (typed_exact k).good ws t.0 t.1)
  ];
  bared = λ ws p e. elim (kind_found k ws p e) [
    | inl t ↦ subst (λ x. (kind k).bare x.0 ≡ x.0) t.1 refl
    | inr t ↦ subst (λ x. (kind k).bare x.0 ≡ x.0) t.2 (ap (λ y. (false, y)) ((typed_exact k).bared ws t.0 t.1))
  ];
  spelled = λ ws p e. elim (kind_found k ws p e) [
    | inl t ↦ subst (λ x. ws ≡ (kind k).spell x.0 ++ x.1) t.1 (reserved keyword_integer ws t.0 (omega arith))
    | inr t ↦ subst (λ x. ws ≡ (kind k).spell x.0 ++ x.1) t.2 ((typed_exact k).spelled ws t.0 t.1)
  ];
}

settings_open : (k : ℕ) (xs : List ParamAssignment) → 0 < length xs → (left : List Word) → OpensNamed (spell_separated (setting k).spell xs ++ left)
unfolding spell_separated spell_assignment
settings_open k [] h left = absurd (omega arith)
settings_open k (x ∷ xs) h left = (x.text, ((Marked mark_equals ∷ spell x.value) ++ spell_each spell_assignment xs) ++ left, refl)

kind_before : (ws : List Word) → OpensNamed ws → (keyword ws ≡ keyword_integer → ⊥) × NoType ws
kind_before ws o = (no_keyword ws keyword_integer (named_word ws o) (omega arith), (no_keyword ws keyword_signed (named_word ws o) (omega arith), no_mark_at ws mark_open_bracket (named_mark ws o) (omega arith)))

pub parameter_exact : (k : ℕ) → IsExact (parameter k)
unfolding spell_parameter spell_type bare_parameter
parameter_exact k =
    let s = list_exact (setting k) (setting_exact k) comma_ends in
    let b = both_exact (kind k) (list (setting k)) (kind_exact k) s (λ xs g left v. kind_before (spell_separated (setting k).spell xs ++ left) (settings_open k xs g.0 left)) in
    let c = both_exact (choice keyword_localparam keyword_parameter) (both (kind k) (list (setting k))) (choice_exact keyword_localparam keyword_parameter (omega arith) (omega arith) (λ e. absurd (omega (arith, e)))) b (λ x g left v. tt) in
    respelled_exact (shaped (both (choice keyword_localparam keyword_parameter) (both (kind k) (list (setting k)))) to_parameter of_parameter)
    (shaped_exact (both (choice keyword_localparam keyword_parameter) (both (kind k) (list (setting k)))) c to_parameter of_parameter (λ a. refl)) spell_parameter bare_parameter
    (λ p. ap (λ (us : List Word). Reserved (cond p.local keyword_localparam keyword_parameter) ∷ us) (sym (append_assoc (spell_where p.integer keyword_integer) (spell_where p.signed keyword_signed ++ spell_range p.range) (spell_separated spell_assignment p.sets)))) (λ p. refl)

pub head_parameter_exact : (k : ℕ) → IsExact (head_parameter k)
unfolding bare_parameter
head_parameter_exact k = guarded_exact (parameter k) (parameter_exact k) is_global (λ a. refl)
