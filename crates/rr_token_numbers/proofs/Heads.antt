-- Heads of modules without token numbers.
use Rattle.std.proofs.Common.{◌≡◌, ◌∙◌, sym, subst, ap, ap₂, ℕ, zero, suc, ◌+◌, ◌-◌, Bool, true, false, not, ◌&&◌, if◌then◌else◌, nat_lt, List, [], ◌∷◌, ◌++◌, length, map, set, Option, Some, None, Result, Ok, Err, refl, fold, is_some, is_none}
use Rattle.std.specs.List.{slice_get, range_with_len}
use Rattle.std.specs.Option.{option_to_list}
use Rattle.std.proofs.lemmas.List.{map-append, length-map, map-set}
use Rattle.rr_syntax.specs.Tree.{Tree, Identifier, Range, PortDeclaration, ParamAssignment, ParameterDeclaration, DeclaredName, ModuleItem, Ports, Nets, Variables, Integers, Parameters, Assigns, Always, Initial, Instances, ModuleDeclaration, bare, bare_value, bare_identifier, bare_range, bare_port, bare_assignment, bare_parameter, bare_declarator, bare_item, bare_header, bare_module}
use Rattle.rr_expr.specs.Faults.{fault, first}
use Rattle.rr_expr.specs.Scopes.{Names, lookup, range_width}
use Rattle.rr_expr.specs.Values.{form, own, nowhere}
use Rattle.rr_expr.specs.declared.types.Entity.{Entity}
use Rattle.rr_expr.specs.declared.types.Entity.TheVariants as entity
use Rattle.rr_flat.specs.declared.fault.FlatFault.{FlatFault}
use Rattle.rr_flat.specs.declared.fault.FlatFault.TheVariants.{NameTwice, UnknownName, BadRange, TooMany}
use Rattle.rr_flat.specs.declared.fault.Limit.TheVariants.{FlatBits, Words}
use Rattle.rr_flat.specs.Faults.{fault_if, faults_in, first_fault_or, among, and_then, each}
use Rattle.rr_declarations.specs.Values.{constant, is_beyond, bound_or_zero, bound_faults, range_in}
use Rattle.rr_flat.specs.Signals.{with_name}
use Rattle.rr_declarations.specs.Parameters.{given_or, override_of, parameter, width_faults, add_parameter, add_parameters, add_item_parameters, parameters}
use Rattle.rr_flat.specs.Signals.{Text, Signal}
use Rattle.rr_declarations.specs.Declarations.{Declared, Declarations, know_identifier, know_declarator, know_ports, know_item, known, know_port_item, plain_names, add_plain_name, brackets, starting, start_faults, start_or, is_port, declared_bits, with_signal, counted, indices, words_in, declared_words, words_faults, declare_new, declared_at, is_same_range, redeclared, start_again, declare_again, again_place, repeated_place, declare_at, declare, port_declaration, inner_declaration, integer_declaration, integer_name, declare_integer, declare_ports, declare_nets, declare_variables, declare_item, declarations}
use Rattle.rr_memory_words.specs.Words.{indexed_word, word_count, words_entity, words_signals}
use Rattle.rr_declarations.specs.Heads.{Head, named_declared, with_port, with_identifier, with_declarator, with_ports, with_inner, declared_in_order, signals_of, entity_of, joined, with_signals, numbered, declared, head}
use Rattle.rr_token_numbers.specs.Bare.{bare_signal}
use Rattle.rr_token_numbers.proofs.Folds.{fold_mapped}
use Rattle.rr_token_numbers.proofs.Results.{Barely, BothNil, nil_append, nil_if, nil_in, settle_bare, answer_bare, among_bare, then_bare, each_bare}
use Rattle.rr_token_numbers.proofs.Shapes.{form-bare, value-bare, fault_both}
use Rattle.rr_token_numbers.proofs.Starts.{start_nil, start_or-bare}

-- constants and ranges

pub constant_bare : (names : Names) (t : Tree) → Barely (λ (v : List Bool × Bool). v) (constant names t) (constant names (bare t))
unfolding constant
constant_bare names t =
    answer_bare (λ (v : List Bool × Bool). v) (fault names t true) (fault names (bare t) true) (own names t nowhere, (form names t).signed) (own names (bare t) nowhere, (form names (bare t)).signed)
    (fault_both names t true) (λ k. (value-bare names t nowhere (form-bare names t k).width (form-bare names t k).signed k, (form-bare names t k).signed))

beyond_bare : (r q : Result (List Bool × Bool) FlatFault) → Barely (λ (v : List Bool × Bool). v) r q → is_beyond q ≡ is_beyond r
beyond_bare (Ok v) q h = rw h refl
beyond_bare (Err f) q h = rw h.1 refl

bound_bare : (r q : Result (List Bool × Bool) FlatFault) → Barely (λ (v : List Bool × Bool). v) r q → bound_or_zero q ≡ bound_or_zero r
bound_bare (Ok v) q h = rw h refl
bound_bare (Err f) q h = rw h.1 refl

bounds_nil : (at to : ℕ) (r q : Result (List Bool × Bool) FlatFault) → Barely (λ (v : List Bool × Bool). v) r q → BothNil (bound_faults at r) (bound_faults to q)
bounds_nil at to r q h =
    nil_append (faults_in r) (fault_if (is_beyond r) (BadRange at)) (faults_in q) (fault_if (is_beyond q) (BadRange to)) (nil_in (λ (v : List Bool × Bool). v) r q h) (rw (beyond_bare r q h) (nil_if (is_beyond r) (BadRange at) (BadRange to)))

range_bare : (names : Names) (range : Option Range) → Barely (λ (r : Option (ℕ × ℕ)). r) (range_in names range) (range_in names (bare_range range))
unfolding range_in bare_range
range_bare names None = refl
range_bare names (Some r) =
    let left = constant_bare names r.left in
    let right = constant_bare names r.right in
    settle_bare (λ (r : Option (ℕ × ℕ)). r) (bound_faults (first r.left - 1) (constant names r.left) ++ bound_faults (first r.left - 1) (constant names r.right))
    (bound_faults (first (bare r.left) - 1) (constant names (bare r.left)) ++ bound_faults (first (bare r.left) - 1) (constant names (bare r.right)))
    (Some (bound_or_zero (constant names r.left), bound_or_zero (constant names r.right))) (Some (bound_or_zero (constant names (bare r.left)), bound_or_zero (constant names (bare r.right))))
    (nil_append (bound_faults (first r.left - 1) (constant names r.left)) _ (bound_faults (first (bare r.left) - 1) (constant names (bare r.left))) _
    (bounds_nil (first r.left - 1) (first (bare r.left) - 1) (constant names r.left) (constant names (bare r.left)) left)
    (bounds_nil (first r.left - 1) (first (bare r.left) - 1) (constant names r.right) (constant names (bare r.right)) right))
    (ap₂ (λ (a b : ℕ). Some (a, b)) (bound_bare (constant names r.left) (constant names (bare r.left)) left) (bound_bare (constant names r.right) (constant names (bare r.right)) right))

-- parameters

parameter_bare : (given : Names) (p : ParameterDeclaration) (range : Option (ℕ × ℕ)) (a : ParamAssignment) (names : Names)
    → Barely (λ (n : Names). n) (add_parameter given p range a names) (add_parameter given (bare_parameter p) range (bare_assignment a) names)
unfolding add_parameter bare_parameter bare_assignment
parameter_bare given p range a names =
    then_bare (λ (v : List Bool × Bool). v) (λ (n : Names). n)
    (among (fault_if (is_some (lookup a.text names)) (NameTwice a.token) ++ width_faults a.token range) (constant names a.value))
    (among (fault_if (is_some (lookup a.text names)) (NameTwice 0) ++ width_faults 0 range) (constant names (bare a.value)))
    (λ own. Ok (with_name names a.text (parameter p range (given_or (override_of p.local (lookup a.text given)) own))))
    (λ own. Ok (with_name names a.text (parameter (bare_parameter p) range (given_or (override_of p.local (lookup a.text given)) own))))
    (among_bare (λ (v : List Bool × Bool). v) (fault_if (is_some (lookup a.text names)) (NameTwice a.token) ++ width_faults a.token range)
    (fault_if (is_some (lookup a.text names)) (NameTwice 0) ++ width_faults 0 range) (constant names a.value) (constant names (bare a.value))
    (nil_append (fault_if (is_some (lookup a.text names)) (NameTwice a.token)) (width_faults a.token range) (fault_if (is_some (lookup a.text names)) (NameTwice 0)) (width_faults 0 range)
    (nil_if (is_some (lookup a.text names)) (NameTwice a.token) (NameTwice 0)) (nil_if _ _ _))
    (constant_bare names a.value))
    (λ own. refl)

parameters_each : (given : Names) (p : ParameterDeclaration) (names : Names) → Barely (λ (n : Names). n) (add_parameters given p names) (add_parameters given (bare_parameter p) names)
unfolding add_parameters bare_parameter
parameters_each given p names =
    then_bare (λ (r : Option (ℕ × ℕ)). r) (λ (n : Names). n) (range_in names p.range) (range_in names (bare_range p.range))
    (λ range. each (add_parameter given p range) p.sets names) (λ range. each (add_parameter given (bare_parameter p) range) (map bare_assignment p.sets) names)
    (range_bare names p.range)
    (λ range. each_bare bare_assignment (λ (n : Names). n) (add_parameter given p range) (add_parameter given (bare_parameter p) range) (parameter_bare given p range) p.sets names)

item_parameters_bare : (given : Names) (i : ModuleItem) (names : Names) → Barely (λ (n : Names). n) (add_item_parameters given i names) (add_item_parameters given (bare_item i) names)
unfolding add_item_parameters bare_item
item_parameters_bare given (Ports p) names = refl
item_parameters_bare given (Nets signed range list) names = refl
item_parameters_bare given (Variables signed range list) names = refl
item_parameters_bare given (Integers list) names = refl
item_parameters_bare given (Parameters p) names = parameters_each given p names
item_parameters_bare given (Assigns pairs) names = refl
item_parameters_bare given (Always events body token) names = refl
item_parameters_bare given (Initial body token) names = refl
item_parameters_bare given (Instances m token over list) names = refl

parameters_bare : (given : Names) (m : ModuleDeclaration) → Barely (λ (n : Names). n) (parameters given m) (parameters given (bare_module m))
unfolding parameters bare_module
parameters_bare given m =
    then_bare (λ (n : Names). n) (λ (n : Names). n) (each (add_parameters given) m.params []) (each (add_parameters given) (map bare_parameter m.params) [])
    (each (add_item_parameters given) m.items) (each (add_item_parameters given) (map bare_item m.items))
    (each_bare bare_parameter (λ (n : Names). n) (add_parameters given) (add_parameters given) (parameters_each given) m.params [])
    (each_bare bare_item (λ (n : Names). n) (add_item_parameters given) (add_item_parameters given) (item_parameters_bare given) m.items)

-- names

know_identifier-bare : (names : Names) (i : Identifier) → know_identifier names (bare_identifier i) ≡ know_identifier names i
unfolding bare_identifier
know_identifier-bare names i = refl

know_declarator-bare : (names : Names) (n : DeclaredName) → know_declarator names (bare_declarator n) ≡ know_declarator names n
unfolding bare_declarator
know_declarator-bare names n = refl

know_ports-bare : (names : Names) (p : PortDeclaration) → know_ports names (bare_port p) ≡ know_ports names p
unfolding know_ports bare_port
know_ports-bare names p = fold_mapped bare_declarator know_declarator know_declarator-bare names p.names

know_item-bare : (names : Names) (i : ModuleItem) → know_item names (bare_item i) ≡ know_item names i
unfolding know_item bare_item
know_item-bare names (Ports p) = know_ports-bare names p
know_item-bare names (Nets signed range list) = fold_mapped bare_declarator know_declarator know_declarator-bare names list
know_item-bare names (Variables signed range list) = fold_mapped bare_declarator know_declarator know_declarator-bare names list
know_item-bare names (Integers list) = fold_mapped bare_identifier know_identifier know_identifier-bare names list
know_item-bare names (Parameters p) = refl
know_item-bare names (Assigns pairs) = refl
know_item-bare names (Always events body token) = refl
know_item-bare names (Initial body token) = refl
know_item-bare names (Instances m token over list) = refl

known-bare : (m : ModuleDeclaration) (names : Names) → known (bare_module m) names ≡ known m names
unfolding known bare_module
known-bare m names =
    fold_mapped bare_item know_item know_item-bare (fold know_ports names (map bare_port m.groups)) m.items
    ∙ ap (λ (n : Names). fold know_item n m.items) (fold_mapped bare_port know_ports know_ports-bare names m.groups)

know_port_item-bare : (names : Names) (i : ModuleItem) → know_port_item names (bare_item i) ≡ know_port_item names i
unfolding know_port_item bare_item
know_port_item-bare names (Ports p) = know_ports-bare names p
know_port_item-bare names (Nets signed range list) = refl
know_port_item-bare names (Variables signed range list) = refl
know_port_item-bare names (Integers list) = refl
know_port_item-bare names (Parameters p) = refl
know_port_item-bare names (Assigns pairs) = refl
know_port_item-bare names (Always events body token) = refl
know_port_item-bare names (Initial body token) = refl
know_port_item-bare names (Instances m token over list) = refl

pub plain_names-bare : (header : Option (List Identifier)) → plain_names (bare_header header) ≡ map bare_identifier (plain_names header)
unfolding bare_header
plain_names-bare None = refl
plain_names-bare (Some list) = refl

plain_name_bare : (directed : Names) (i : Identifier) (names : Names) → Barely (λ (n : Names). n) (add_plain_name directed i names) (add_plain_name directed (bare_identifier i) names)
unfolding add_plain_name bare_identifier
plain_name_bare directed i names =
    settle_bare (λ (n : Names). n) (fault_if (is_some (lookup i.text names)) (NameTwice i.token) ++ fault_if (is_none (lookup i.text directed)) (UnknownName i.token))
    (fault_if (is_some (lookup i.text names)) (NameTwice 0) ++ fault_if (is_none (lookup i.text directed)) (UnknownName 0)) _ _
    (nil_append (fault_if (is_some (lookup i.text names)) (NameTwice i.token)) _ (fault_if (is_some (lookup i.text names)) (NameTwice 0)) _
    (nil_if (is_some (lookup i.text names)) (NameTwice i.token) (NameTwice 0)) (nil_if (is_none (lookup i.text directed)) (UnknownName i.token) (UnknownName 0))) refl

brackets_bare : (m : ModuleDeclaration) → Barely (λ (n : Names). n) (brackets m) (brackets (bare_module m))
unfolding brackets bare_module
brackets_bare m =
    let directed : Names = fold know_port_item [] m.items in
    let same : fold know_port_item [] (map bare_item m.items) ≡ directed = fold_mapped bare_item know_port_item know_port_item-bare [] m.items in
    then_bare (λ (n : Names). n) (λ (n : Names). n) (each (add_plain_name directed) (plain_names m.header) [])
    (each (add_plain_name (fold know_port_item [] (map bare_item m.items))) (plain_names (bare_header m.header)) [])
    (λ names. Ok (fold know_ports names m.groups)) (λ names. Ok (fold know_ports names (map bare_port m.groups)))
    (rw (same, plain_names-bare m.header) (each_bare bare_identifier (λ (n : Names). n) (add_plain_name directed) (add_plain_name directed) (plain_name_bare directed) (plain_names m.header) []))
    (λ names. ap (λ (n : Names). Ok n) (fold_mapped bare_port know_ports know_ports-bare names m.groups))

-- signals

abbrev pub bare_declared : Declared → Declared
bare_declared x = record x { signal = bare_signal x.signal }

abbrev pub bare_declarations : Declarations → Declarations
bare_declarations d = record d { list = map bare_declared d.list }

starting-bare : (k : _) (n : DeclaredName) → starting k (bare_declarator n) ≡ bare_value (starting k n)
unfolding bare_declarator bare_value
starting-bare k n = by_kind k.variable
  where
    by_kind : (b : Bool) → (if b then bare_value n.value else None) ≡ bare_value (if b then n.value else None)
    by_kind true = refl
    by_kind false = refl

starting_nil : (all : Names) (k : _) (n : DeclaredName) → BothNil (start_faults all (starting k n)) (start_faults all (starting k (bare_declarator n)))
starting_nil all k n = rw (starting-bare k n) (start_nil all (starting k n))

started_as : (all : Names) (k : _) (n : DeclaredName) (w start : ℕ) → start_or all w start (starting k (bare_declarator n)) ≡ start_or all w start (starting k n)
started_as all k n w start = ap (λ v. start_or all w start v) (starting-bare k n) ∙ start_or-bare all w start (starting k n)

-- words

indices-bare : (k : _) (n : DeclaredName) → indices k (bare_declarator n) ≡ bare_range (indices k n)
unfolding bare_declarator bare_range
indices-bare k n = by_kind (k.variable && not (is_port k.port))
  where
    by_kind : (b : Bool) → (if b then bare_range n.words else None) ≡ bare_range (if b then n.words else None)
    by_kind true = refl
    by_kind false = refl

words_in_bare : (r q : Result (Option (ℕ × ℕ)) FlatFault) → Barely (λ (v : Option (ℕ × ℕ)). v) r q → words_in q ≡ words_in r
words_in_bare (Ok v) q h = rw h refl
words_in_bare (Err f) q h = rw h.1 refl

indices_bare : (all : Names) (k : _) (n : DeclaredName) → Barely (λ (r : Option (ℕ × ℕ)). r) (range_in all (indices k n)) (range_in all (indices k (bare_declarator n)))
indices_bare all k n = subst (λ (o : Option Range). Barely (λ (r : Option (ℕ × ℕ)). r) (range_in all (indices k n)) (range_in all o)) (sym (indices-bare k n)) (range_bare all (indices k n))

words-bare : (all : Names) (k : _) (n : DeclaredName) → declared_words all k (bare_declarator n) ≡ declared_words all k n
words-bare all k n = words_in_bare (range_in all (indices k n)) (range_in all (indices k (bare_declarator n))) (indices_bare all k n)

words_nil : (words other : Option (ℕ × ℕ)) → other ≡ words → BothNil (words_faults words) (words_faults other)
words_nil words other e =
    subst (λ (w : Option (ℕ × ℕ)). BothNil (words_faults words) (words_faults w)) (sym e) (nil_if (nat_lt 256 (word_count words)) (TooMany Words (word_count words)) (TooMany Words (word_count words)))

none-bare : (o : Option Range) → is_none (bare_range o) ≡ is_none o
unfolding bare_range
none-bare None = refl
none-bare (Some r) = refl

with_signal-bare : (k : _) (n : DeclaredName) (words : Option (ℕ × ℕ)) (start : ℕ) (d : Declarations) → with_signal k (bare_declarator n) words start (bare_declarations d) ≡ bare_declarations (with_signal k n words start d)
unfolding bare_declarator
with_signal-bare k n words start d =
    ap₂ (λ (m : ℕ) (list : List Declared). record d { names = with_name d.names n.text (entity.Signal m None false); list = list; bits = (with_signal k n words start d).bits })
    (length-map d.list bare_declared) (sym (map-append bare_declared d.list _))

counted_bare : (k : _) (n : DeclaredName) (words other : Option (ℕ × ℕ)) (start begin : ℕ) (d : Declarations) → other ≡ words → begin ≡ start →
    Barely bare_declarations (counted k n words start d) (counted k (bare_declarator n) other begin (bare_declarations d))
counted_bare k n words other start begin d e s =
    let bits : ℕ = d.bits + declared_bits k words in
    let full : List FlatFault = fault_if (nat_lt 65536 bits) (TooMany FlatBits bits) in
    subst (λ (w : Option (ℕ × ℕ)). Barely bare_declarations (counted k n words start d) (counted k (bare_declarator n) w begin (bare_declarations d))) (sym e)
    (subst (λ (m : ℕ). Barely bare_declarations (counted k n words start d) (counted k (bare_declarator n) words m (bare_declarations d))) (sym s)
    (settle_bare bare_declarations full full (with_signal k n words start d) (with_signal k (bare_declarator n) words start (bare_declarations d)) (nil_if (nat_lt 65536 bits) _ _) (with_signal-bare k n words start d)))

declare_new_bare : (bracketed all : Names) (k : _) (n : DeclaredName) (d : Declarations) → Barely bare_declarations (declare_new bracketed all k n d) (declare_new bracketed all k (bare_declarator n) (bare_declarations d))
unfolding declare_new bare_declarator
declare_new_bare bracketed all k n d =
    let twice : Bool = is_some (lookup n.text d.names) in
    let stray : Bool = is_port k.port && is_none (lookup n.text bracketed) in
    let faults : List FlatFault = fault_if twice (NameTwice n.token) ++ (fault_if stray (UnknownName n.token) ++ (faults_in (range_in all (indices k n)) ++ (width_faults n.token k.range ++ start_faults all (starting k n)))) in
    let others : List FlatFault =
    fault_if twice (NameTwice 0) ++ (fault_if stray (UnknownName 0) ++ (faults_in (range_in all (indices k (bare_declarator n))) ++ (width_faults 0 k.range ++ start_faults all (starting k (bare_declarator n))))) in
    let words : Option (ℕ × ℕ) = declared_words all k n in
    let same : Option (ℕ × ℕ) = declared_words all k (bare_declarator n) in
    let start : ℕ = start_or all (range_width k.range) 0 (starting k n) in
    let other : ℕ = start_or all (range_width k.range) 0 (starting k (bare_declarator n)) in
    then_bare bare_declarations bare_declarations (first_fault_or faults d) (first_fault_or others (bare_declarations d))
    (λ (e : Declarations). and_then (first_fault_or (words_faults words) e) (counted k n words start)) (λ (e : Declarations). and_then (first_fault_or (words_faults same) e) (counted k (bare_declarator n) same other))
    (settle_bare bare_declarations faults others d (bare_declarations d)
    (nil_append (fault_if twice (NameTwice n.token)) _ (fault_if twice (NameTwice 0)) _ (nil_if twice (NameTwice n.token) (NameTwice 0))
    (nil_append (fault_if stray (UnknownName n.token)) _ (fault_if stray (UnknownName 0)) _ (nil_if stray (UnknownName n.token) (UnknownName 0))
    (nil_append (faults_in (range_in all (indices k n))) _ (faults_in (range_in all (indices k (bare_declarator n)))) _ (nil_in (λ (r : Option (ℕ × ℕ)). r) (range_in all (indices k n)) (range_in all (indices k (bare_declarator n))) (indices_bare all k n))
    (nil_append (width_faults n.token k.range) _ (width_faults 0 k.range) _ (nil_if _ _ _) (starting_nil all k n))))) refl)
    (λ e. then_bare bare_declarations bare_declarations (first_fault_or (words_faults words) e) (first_fault_or (words_faults same) (bare_declarations e)) (counted k n words start) (counted k (bare_declarator n) same other)
    (settle_bare bare_declarations (words_faults words) (words_faults same) e (bare_declarations e) (words_nil words same (words-bare all k n)) refl)
    (λ g. counted_bare k n words same start other g (words-bare all k n) (started_as all k n (range_width k.range) 0)))

declared_at-bare : (list : List Declared) (place : ℕ) → declared_at (map bare_declared list) place ≡ bare_declared (declared_at list place)
declared_at-bare [] place = refl
declared_at-bare (x ∷ xs) zero = refl
declared_at-bare (x ∷ xs) (suc n) = declared_at-bare xs n

declare_again_bare : (all : Names) (k : _) (n : DeclaredName) (place : ℕ) (d : Declarations) → Barely bare_declarations (declare_again all k n place d) (declare_again all k (bare_declarator n) place (bare_declarations d))
unfolding declare_again bare_declarator
declare_again_bare all k n place d =
    let x : Declared = declared_at d.list place in
    let made : Declared → Option Tree → Declared = λ y v. redeclared k (start_again all v y) y in
    let differs : Bool = not (is_same_range x.signal.range k.range) in
    settle_bare bare_declarations (fault_if differs (BadRange n.token) ++ start_faults all (starting k n))
    (fault_if (not (is_same_range (declared_at (map bare_declared d.list) place).signal.range k.range)) (BadRange 0) ++ start_faults all (starting k (bare_declarator n)))
    (record d { list = set d.list place (made x (starting k n)) })
    (record d { list = set (map bare_declared d.list) place (made (declared_at (map bare_declared d.list) place) (starting k (bare_declarator n))) })
    (rw (declared_at-bare d.list place) (nil_append (fault_if differs (BadRange n.token)) _ (fault_if differs (BadRange 0)) _ (nil_if differs (BadRange n.token) (BadRange 0)) (starting_nil all k n)))
    (ap (λ (y : Declared). record d { list = set (map bare_declared d.list) place (made y (starting k (bare_declarator n))) }) (declared_at-bare d.list place)
    ∙ ap (λ (m : ℕ). record d { list = set (map bare_declared d.list) place (redeclared k m (bare_declared x)) }) (started_as all k n x.signal.width x.signal.start)
    ∙ ap (λ (list : List Declared). record d { list = list }) (sym (map-set bare_declared d.list place (made x (starting k n)))))

again_place-bare : (o : Option Entity) (list : List Declared) → again_place o (map bare_declared list) ≡ again_place o list
again_place-bare None list = refl
again_place-bare (Some (entity.Constant bits signed)) list = refl
again_place-bare (Some (entity.Signal id range signed)) list = rw (declared_at-bare list id) refl
again_place-bare (Some (entity.Memory first low words range signed)) list = refl
again_place-bare (Some entity.Instance) list = refl

declare_at_bare : (bracketed all : Names) (k : _) (n : DeclaredName) (d : Declarations) (o : Option ℕ) → Barely bare_declarations (declare_at bracketed all k n d o) (declare_at bracketed all k (bare_declarator n) (bare_declarations d) o)
declare_at_bare bracketed all k n d None = declare_new_bare bracketed all k n d
declare_at_bare bracketed all k n d (Some place) = declare_again_bare all k n place d

declare_bare : (bracketed all : Names) (k : _) (n : DeclaredName) (d : Declarations) → Barely bare_declarations (declare bracketed all k n d) (declare bracketed all k (bare_declarator n) (bare_declarations d))
unfolding declare bare_declarator
declare_bare bracketed all k n d =
    rw (again_place-bare (lookup n.text d.names) d.list, none-bare n.words) (declare_at_bare bracketed all k n d (repeated_place (k.repeats && is_none n.words) (again_place (lookup n.text d.names) d.list)))

integer_bare : (bracketed all : Names) (i : Identifier) (d : Declarations) → Barely bare_declarations (declare_integer bracketed all i d) (declare_integer bracketed all (bare_identifier i) (bare_declarations d))
unfolding bare_identifier bare_declarator bare_range bare_value
integer_bare bracketed all i d = declare_bare bracketed all integer_declaration (integer_name i) d

names_bare : (bracketed all : Names) (k : Option (ℕ × ℕ) → _) (range : Option Range) (list : List DeclaredName) (d : Declarations)
    → Barely bare_declarations (and_then (range_in all range) (λ r. each (declare bracketed all (k r)) list d)) (and_then (range_in all (bare_range range)) (λ r. each (declare bracketed all (k r)) (map bare_declarator list) (bare_declarations d)))
names_bare bracketed all k range list d =
    then_bare (λ (r : Option (ℕ × ℕ)). r) bare_declarations (range_in all range) (range_in all (bare_range range))
    (λ r. each (declare bracketed all (k r)) list d) (λ r. each (declare bracketed all (k r)) (map bare_declarator list) (bare_declarations d))
    (range_bare all range) (λ r. each_bare bare_declarator bare_declarations (declare bracketed all (k r)) (declare bracketed all (k r)) (declare_bare bracketed all (k r)) list d)

ports_bare : (bracketed all : Names) (p : PortDeclaration) (d : Declarations) → Barely bare_declarations (declare_ports bracketed all p d) (declare_ports bracketed all (bare_port p) (bare_declarations d))
unfolding declare_ports bare_port
ports_bare bracketed all p d = names_bare bracketed all (port_declaration p) p.range p.names d

item_bare : (bracketed all : Names) (i : ModuleItem) (d : Declarations) → Barely bare_declarations (declare_item bracketed all i d) (declare_item bracketed all (bare_item i) (bare_declarations d))
unfolding declare_item bare_item declare_nets declare_variables
item_bare bracketed all (Ports p) d = ports_bare bracketed all p d
item_bare bracketed all (Nets signed range list) d = names_bare bracketed all (inner_declaration false signed) range list d
item_bare bracketed all (Variables signed range list) d = names_bare bracketed all (inner_declaration true signed) range list d
item_bare bracketed all (Integers list) d = each_bare bare_identifier bare_declarations (declare_integer bracketed all) (declare_integer bracketed all) (integer_bare bracketed all) list d
item_bare bracketed all (Parameters p) d = refl
item_bare bracketed all (Assigns pairs) d = refl
item_bare bracketed all (Always events body token) d = refl
item_bare bracketed all (Initial body token) d = refl
item_bare bracketed all (Instances m token over list) d = refl

declarations_bare : (bracketed all : Names) (m : ModuleDeclaration) (d : Declarations) → Barely bare_declarations (declarations bracketed all m d) (declarations bracketed all (bare_module m) (bare_declarations d))
unfolding declarations bare_module
declarations_bare bracketed all m d =
    then_bare bare_declarations bare_declarations (each (declare_ports bracketed all) m.groups d) (each (declare_ports bracketed all) (map bare_port m.groups) (bare_declarations d))
    (each (declare_item bracketed all) m.items) (each (declare_item bracketed all) (map bare_item m.items))
    (each_bare bare_port bare_declarations (declare_ports bracketed all) (declare_ports bracketed all) (ports_bare bracketed all) m.groups d)
    (each_bare bare_item bare_declarations (declare_item bracketed all) (declare_item bracketed all) (item_bare bracketed all) m.items)

-- declarations in order

slice_get-bare : (list : List Declared) (id : ℕ) → option_to_list (slice_get (map bare_declared list) id) ≡ map bare_declared (option_to_list (slice_get list id))
slice_get-bare [] id = refl
slice_get-bare (x ∷ xs) zero = refl
slice_get-bare (x ∷ xs) (suc n) = slice_get-bare xs n

named-bare : (list : List Declared) (o : Option Entity) → option_to_list (named_declared (map bare_declared list) o) ≡ map bare_declared (option_to_list (named_declared list o))
named-bare list None = refl
named-bare list (Some (entity.Constant bits signed)) = refl
named-bare list (Some (entity.Signal id range signed)) = slice_get-bare list id
named-bare list (Some (entity.Memory first low words range signed)) = refl
named-bare list (Some entity.Instance) = refl

-- what a fold gathers, without token numbers
gathered : {X : Type 0} (h : X → X) (step other : List Declared → X → List Declared) → ((s : List Declared) (x : X) → other (map bare_declared s) (h x) ≡ map bare_declared (step s x))
    → (s : List Declared) (xs : List X) → fold other (map bare_declared s) (map h xs) ≡ map bare_declared (fold step s xs)
gathered h step other one s [] = refl
gathered h step other one s (x ∷ xs) = ap (λ (z : List Declared). fold other z (map h xs)) (one s x) ∙ gathered h step other one (step s x) xs

with_port-bare : (d : Declarations) (s : List Declared) (name : Text) → with_port (bare_declarations d) (map bare_declared s) name ≡ map bare_declared (with_port d s name)
unfolding with_port
with_port-bare d s name = ap (λ (z : List Declared). map bare_declared s ++ z) (named-bare d.list (lookup name d.names)) ∙ sym (map-append bare_declared s (option_to_list (named_declared d.list (lookup name d.names))))

with_identifier-bare : (d : Declarations) (s : List Declared) (i : Identifier) → with_identifier (bare_declarations d) (map bare_declared s) (bare_identifier i) ≡ map bare_declared (with_identifier d s i)
unfolding bare_identifier
with_identifier-bare d s i = with_port-bare d s i.text

with_declarator-bare : (d : Declarations) (s : List Declared) (n : DeclaredName) → with_declarator (bare_declarations d) (map bare_declared s) (bare_declarator n) ≡ map bare_declared (with_declarator d s n)
unfolding bare_declarator
with_declarator-bare d s n = with_port-bare d s n.text

with_ports-bare : (d : Declarations) (s : List Declared) (p : PortDeclaration) → with_ports (bare_declarations d) (map bare_declared s) (bare_port p) ≡ map bare_declared (with_ports d s p)
unfolding with_ports bare_port
with_ports-bare d s p = gathered bare_declarator (with_declarator d) (with_declarator (bare_declarations d)) (with_declarator-bare d) s p.names

with_inner-bare : (s : List Declared) (x : Declared) → with_inner (map bare_declared s) (bare_declared x) ≡ map bare_declared (with_inner s x)
unfolding with_inner
with_inner-bare s x = by_port (is_port x.signal.port)
  where
    by_port : (b : Bool) → (if b then map bare_declared s else map bare_declared s ++ bare_declared x ∷ []) ≡ map bare_declared (if b then s else s ++ x ∷ [])
    by_port true = refl
    by_port false = sym (map-append bare_declared s (x ∷ []))

order-bare : (m : ModuleDeclaration) (d : Declarations) → declared_in_order (bare_module m) (bare_declarations d) ≡ map bare_declared (declared_in_order m d)
unfolding declared_in_order bare_module
order-bare m d =
    ap (λ (z : List Declared). fold with_inner (fold (with_ports (bare_declarations d)) z (map bare_port m.groups)) (map bare_declared d.list))
    (ap (λ (names : List Identifier). fold (with_identifier (bare_declarations d)) [] names) (plain_names-bare m.header)
    ∙ gathered bare_identifier (with_identifier d) (with_identifier (bare_declarations d)) (with_identifier-bare d) [] (plain_names m.header))
    ∙ (ap (λ (z : List Declared). fold with_inner z (map bare_declared d.list))
    (gathered bare_port (with_ports d) (with_ports (bare_declarations d)) (with_ports-bare d) (fold (with_identifier d) [] (plain_names m.header)) m.groups)
    ∙ gathered bare_declared with_inner with_inner with_inner-bare (fold (with_ports d) (fold (with_identifier d) [] (plain_names m.header)) m.groups) d.list)

-- their signals

all_words-bare : (s : Signal) (low : ℕ) (ks : List ℕ) → map (indexed_word (bare_signal s) low) ks ≡ map bare_signal (map (indexed_word s low) ks)
all_words-bare s low [] = refl
all_words-bare s low (k ∷ ks) = ap (λ (z : List Signal). indexed_word (bare_signal s) low k ∷ z) (all_words-bare s low ks)

signals-bare : (s : Signal) (words : Option (ℕ × ℕ)) → words_signals (bare_signal s) words ≡ map bare_signal (words_signals s words)
signals-bare s None = refl
signals-bare s (Some w) = all_words-bare s w.0 (range_with_len 0 w.1)

joined-bare : (list : List Declared) → joined (map bare_declared list) ≡ map bare_signal (joined list)
unfolding joined
joined-bare [] = refl
joined-bare (x ∷ xs) =
    ap₂ (λ (a b : List Signal). a ++ b) (signals-bare x.signal x.words) (joined-bare xs) ∙ sym (map-append bare_signal (signals_of x) (joined xs))

entity-bare : (k : ℕ) (s : Signal) (words : Option (ℕ × ℕ)) → words_entity k (bare_signal s) words ≡ words_entity k s words
entity-bare k s None = refl
entity-bare k s (Some w) = refl

with_signals-bare : (k : ℕ) (list : List Declared) (names : Names) → with_signals k (map bare_declared list) names ≡ with_signals k list names
unfolding with_signals
with_signals-bare k [] names = refl
with_signals-bare k (x ∷ xs) names =
    ap (λ (e : Entity). with_signals (k + word_count x.words) (map bare_declared xs) (with_name names x.signal.name e)) (entity-bare k x.signal x.words)
    ∙ with_signals-bare (k + word_count x.words) xs (with_name names x.signal.name (entity_of k x))

-- heads

abbrev pub bare_head : Head → Head
bare_head h = record h { signals = map bare_signal h.signals }

numbered_bare : (i base bits : ℕ) (list zs : List Declared) (names : Names) → zs ≡ map bare_declared list → Barely bare_head (numbered i base bits list names) (numbered i base bits zs names)
unfolding numbered
numbered_bare i base bits list zs names e =
    let j : joined zs ≡ map bare_signal (joined list) = ap joined e ∙ joined-bare list in
    let l : length (joined zs) ≡ length (joined list) = ap length j ∙ length-map (joined list) bare_signal in
    let s : with_signals base zs names ≡ with_signals base list names = ap (λ (z : List Declared). with_signals base z names) e ∙ with_signals-bare base list names in
    settle_bare bare_head (fault_if (nat_lt 65536 (base + length (joined list))) (TooMany FlatBits (base + length (joined list)))) (fault_if (nat_lt 65536 (base + length (joined zs))) (TooMany FlatBits (base + length (joined zs))))
    (record { instance = i; base = base; bits = bits; signals = joined list; scope = with_signals base list names }) (record { instance = i; base = base; bits = bits; signals = joined zs; scope = with_signals base zs names })
    (rw l (nil_if _ _ _))
    (ap₂ (λ (ss : List Signal) (n : Names). record { instance = i; base = base; bits = bits; signals = ss; scope = n }) j s)

declared_bare : (i bits : ℕ) (m : ModuleDeclaration) (names : Names) → Barely bare_declarations (declared i bits m names) (declared i bits (bare_module m) names)
unfolding declared
declared_bare i bits m names =
    let start : Declarations = record { instance = i; names = names; list = []; bits = bits } in
    then_bare (λ (n : Names). n) bare_declarations (brackets m) (brackets (bare_module m))
    (λ bracketed. declarations bracketed (known m names) m start) (λ bracketed. declarations bracketed (known (bare_module m) names) (bare_module m) start)
    (brackets_bare m) (λ bracketed. rw (known-bare m names) (declarations_bare bracketed (known m names) m start))

pub head_bare : (i base bits : ℕ) (given : Names) (m : ModuleDeclaration) → Barely bare_head (head i base bits given m) (head i base bits given (bare_module m))
unfolding head
head_bare i base bits given m =
    then_bare (λ (n : Names). n) bare_head (parameters given m) (parameters given (bare_module m))
    (λ names. and_then (declared i bits m names) (λ d. numbered i base d.bits (declared_in_order m d) names))
    (λ names. and_then (declared i bits (bare_module m) names) (λ d. numbered i base d.bits (declared_in_order (bare_module m) d) names))
    (parameters_bare given m)
    (λ names. then_bare bare_declarations bare_head (declared i bits m names) (declared i bits (bare_module m) names)
    (λ d. numbered i base d.bits (declared_in_order m d) names) (λ d. numbered i base d.bits (declared_in_order (bare_module m) d) names)
    (declared_bare i bits m names)
    (λ d. numbered_bare i base d.bits (declared_in_order m d) (declared_in_order (bare_module m) (bare_declarations d)) names (order-bare m d)))
