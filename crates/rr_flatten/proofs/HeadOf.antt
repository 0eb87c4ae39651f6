-- the signals of a head are those of its instance, and its names stand for these alone
use Rattle.std.proofs.Common.{◌≡◌, ℕ, zero, suc, ◌+◌, ◌<◌, ◌≤◌, List, [], ◌∷◌, ◌++◌, length, length-append, map, fold, Bool, true, false, not, ◌&&◌, Option, Some, None, Result, Ok, Err, refl, arith, subst, if◌then◌else◌}
use Rattle.std.specs.Prelude.{slice_get, slice_set, option_to_list, is_some, is_none, nat_lt}
use Rattle.std.specs.List.{AllByRecursion, range_with_len}
use Rattle.rr_flat.proofs.Lists.{all_index}
use Rattle.rr_syntax.specs.Tree.{DeclaredName, Range, PortDeclaration, ParamAssignment, ParameterDeclaration, ModuleItem, Ports, Nets, Variables, Integers, Parameters, Assigns, Always, Initial, Instances, ModuleDeclaration}
use Rattle.rr_bits.specs.Words.{extend}
use Rattle.rr_expr.specs.Scopes.{Names, lookup, range_width}
use Rattle.rr_expr.specs.declared.types.Entity.{Entity}
use Rattle.rr_expr.specs.declared.types.Entity.TheVariants as entity
use Rattle.rr_flat.specs.declared.fault.FlatFault.{FlatFault}
use Rattle.rr_declarations.specs.Declarations.{Declared, Declarations, starting, start_faults, start_or, start_again, with_signal, declared_bits, declared_words, words_faults, new_faults, counted, declare_new, declared_at, redeclared, declare_again, again_place, repeated_place, declare, declare_at, declare_integer, integer_name, declare_ports, declare_nets, declare_variables, declare_item, declarations, known, brackets, plain_names, signal_of, no_declared, is_port, is_same_range, port_declaration, inner_declaration, integer_declaration}
use Rattle.rr_flat.specs.declared.fault.FlatFault.TheVariants.{NameTwice, BadRange, TooMany}
use Rattle.rr_flat.specs.declared.fault.Limit.TheVariants.{FlatBits}
use Rattle.rr_flat.specs.Faults.{among, fault_if, fault_or, first_of, first_fault_or, and_then, each}
use Rattle.rr_declarations.specs.Values.{constant, range_in}
use Rattle.rr_declarations.specs.Heads.{Head, named_declared, with_port, with_identifier, with_declarator, with_ports, with_inner, declared_in_order, joined, entity_of, with_signals, numbered, declared, head}
use Rattle.rr_memory_words.specs.Words.{indexed_word, word_count, words_entity, words_signals}
use Rattle.rr_memory_words.proofs.Named.{words_long}
use Rattle.rr_flat.specs.Signals.{with_name}
use Rattle.rr_declarations.specs.Parameters.{parameter, typed, add_parameter, add_parameters, add_item_parameters, parameters, given_or, override_of, width_faults}
use Rattle.rr_flat.specs.Signals.{Text, Signal}

-- Answers

abbrev pub answer : {A : Type 0} → A → Result A FlatFault
answer a = Ok a

pub ok_is : {A : Type 0} (a b : A) → answer a ≡ answer b → a ≡ b
ok_is a b h = cc

pub not_ok : {A : Type 0} (f : FlatFault) (b : A) → Err f ≡ answer b → ⊥
not_ok f b h = cc

pub settled_is : {A : Type 0} (o : Option FlatFault) (a b : A) → fault_or o a ≡ Ok b → a ≡ b
settled_is None a b h = ok_is a b h
settled_is (Some f) a b h = absurd (not_ok f b h)

-- where the whole has an answer, so has the first step
pub first_ok : {A B : Type 0} (r : Result A FlatFault) (next : A → Result B FlatFault) (b : B) → and_then r next ≡ Ok b → (a : A) × ((r ≡ Ok a) × (next a ≡ Ok b))
first_ok (Ok a) next b h = (a, (refl, h))
first_ok (Err f) next b h = absurd (not_ok f b h)

pub each_keeps : {X S : Type 0} (P : S → Type 0) (step : X → S → Result S FlatFault) → ((x : X) (s t : S) → P s → step x s ≡ Ok t → P t) → (xs : List X) (s t : S) → P s → each step xs s ≡ Ok t → P t
unfolding each
each_keeps P step k [] s t p h = subst P (ok_is s t h) p
each_keeps P step k (x ∷ xs) s t p h =
    let r = first_ok (step x s) (each step xs) t h in
    each_keeps P step k xs r.0 t (k x s r.0 p r.1.0) r.1.1

pub fold_keeps : {X S : Type 0} (P : S → Type 0) (step : S → X → S) → ((x : X) (s : S) → P s → P (step s x)) → (xs : List X) (s : S) → P s → P (fold step s xs)
fold_keeps P step k [] s p = p
fold_keeps P step k (x ∷ xs) s p = fold_keeps P step k xs (step s x) (k x s p)

-- over the entries of a list, of which each has a property
pub fold_over : {X S : Type 0} (Q : X → Type 0) (P : S → Type 0) (step : S → X → S) → ((x : X) (s : S) → Q x → P s → P (step s x)) → (xs : List X) (s : S) → AllByRecursion Q xs → P s → P (fold step s xs)
fold_over Q P step k [] s q p = p
fold_over Q P step k (x ∷ xs) s q p = fold_over Q P step k xs (step s x) q.1 (k x s q.0 p)

pub all_append : {X : Type 0} (P : X → Type 0) (xs ys : List X) → AllByRecursion P xs → AllByRecursion P ys → AllByRecursion P (xs ++ ys)
all_append P [] ys p q = q
all_append P (x ∷ xs) ys p q = (p.0, all_append P xs ys p.1 q)

pub all_weaker : {X : Type 0} (P Q : X → Type 0) (xs : List X) → ((x : X) → P x → Q x) → AllByRecursion P xs → AllByRecursion Q xs
all_weaker P Q [] h p = tt
all_weaker P Q (x ∷ xs) h p = (h x p.0, all_weaker P Q xs h p.1)

pub all_got : {X : Type 0} (P : X → Type 0) (xs : List X) (i : ℕ) (x : X) → AllByRecursion P xs → slice_get xs i ≡ Some x → P x
all_got P [] i x p h = absurd (let g : None ≡ Some x = h in cc)
all_got P (y ∷ ys) zero x p h = subst P (some_is y x h) p.0
  where
    some_is : {X : Type 0} (a b : X) → Some a ≡ Some b → a ≡ b
    some_is a b e = cc
all_got P (y ∷ ys) (suc i) x p h = all_got P ys i x p.1 h

pub all_set : {X : Type 0} (P : X → Type 0) (xs : List X) (i : ℕ) (x : X) → AllByRecursion P xs → (i < length xs → P x) → AllByRecursion P (slice_set xs i x)
all_set P [] i x p h = tt
all_set P (y ∷ ys) zero x p h = (h (omega arith), p.1)
all_set P (y ∷ ys) (suc i) x p h = (p.0, all_set P ys i x p.1 (λ l. h (omega arith)))

-- Names

abbrev pub Entries : (Entity → Type 0) → Names → Type 0
Entries P names = AllByRecursion (λ e. P e.1) names

pub entries_with : (P : Entity → Type 0) (names : Names) (name : Text) (e : Entity) → Entries P names → P e → Entries P (with_name names name e)
entries_with P names name e p q = by (is_some (lookup name names))
  where
    by : (b : Bool) → Entries P (if b then names else names ++ (name, e) ∷ [])
    by true = p
    by false = all_append (λ x. P x.1) names ((name, e) ∷ []) p (q, tt)

-- Parameters are constants

abbrev pub NoSignal : Entity → Type 0
NoSignal (entity.Constant bits signed) = Unit {0}
NoSignal (entity.Signal id range signed) = ⊥
NoSignal (entity.Memory first low words range signed) = ⊥
NoSignal entity.Instance = Unit {0}

typed_constant : (signed : Bool) (range : Option (ℕ × ℕ)) (v : List Bool × Bool) → NoSignal (typed signed range v)
typed_constant signed None v = tt
typed_constant signed (Some r) v = tt

parameter_constant : (p : ParameterDeclaration) (range : Option (ℕ × ℕ)) (v : List Bool × Bool) → NoSignal (parameter p range v)
parameter_constant p range v = by p.integer
  where
    by : (b : Bool) → NoSignal (if b then entity.Constant (extend 32 v.1 v.0) true else typed p.signed range v)
    by true = tt
    by false = typed_constant p.signed range v

added : (given : Names) (p : ParameterDeclaration) (range : Option (ℕ × ℕ)) (a : ParamAssignment) (names out : Names) → Entries NoSignal names → add_parameter given p range a names ≡ Ok out → Entries NoSignal out
unfolding add_parameter
added given p range a names out h e =
    let v : List Bool × Bool → Entity = λ own. parameter p range (given_or (override_of p.local (lookup a.text given)) own) in
    let r = first_ok (among (fault_if (is_some (lookup a.text names)) (NameTwice a.token) ++ width_faults a.token range) (constant names a.value)) (λ own. Ok (with_name names a.text (v own))) out e in
    subst (Entries NoSignal) (ok_is (with_name names a.text (v r.0)) out r.1.1)
    (entries_with NoSignal names a.text (parameter p range (given_or (override_of p.local (lookup a.text given)) r.0)) h (parameter_constant p range (given_or (override_of p.local (lookup a.text given)) r.0)))

added_all : (given : Names) (p : ParameterDeclaration) (names out : Names) → Entries NoSignal names → add_parameters given p names ≡ Ok out → Entries NoSignal out
unfolding add_parameters
added_all given p names out h e =
    let r = first_ok (range_in names p.range) (λ range. each (add_parameter given p range) p.sets names) out e in
    each_keeps (Entries NoSignal) (add_parameter given p r.0) (λ a s t q k. added given p r.0 a s t q k) p.sets names out h r.1.1

added_item : (given : Names) (i : ModuleItem) (names out : Names) → Entries NoSignal names → add_item_parameters given i names ≡ Ok out → Entries NoSignal out
unfolding add_item_parameters
added_item given (Ports p) names out h e = subst (Entries NoSignal) (ok_is names out e) h
added_item given (Nets signed range list) names out h e = subst (Entries NoSignal) (ok_is names out e) h
added_item given (Variables signed range list) names out h e = subst (Entries NoSignal) (ok_is names out e) h
added_item given (Integers list) names out h e = subst (Entries NoSignal) (ok_is names out e) h
added_item given (Parameters p) names out h e = added_all given p names out h e
added_item given (Assigns pairs) names out h e = subst (Entries NoSignal) (ok_is names out e) h
added_item given (Always events body token) names out h e = subst (Entries NoSignal) (ok_is names out e) h
added_item given (Initial body token) names out h e = subst (Entries NoSignal) (ok_is names out e) h
added_item given (Instances m token overrides list) names out h e = subst (Entries NoSignal) (ok_is names out e) h

pub constants : (given : Names) (m : ModuleDeclaration) (out : Names) → parameters given m ≡ Ok out → Entries NoSignal out
unfolding parameters
constants given m out e =
    let r = first_ok (each (add_parameters given) m.params []) (each (add_item_parameters given) m.items) out e in
    each_keeps (Entries NoSignal) (add_item_parameters given) (λ i s t h k. added_item given i s t h k) m.items r.0 out
    (each_keeps (Entries NoSignal) (add_parameters given) (λ p s t h k. added_all given p s t h k) m.params [] r.0 tt r.1.0) r.1.1

-- Declarations

abbrev Mine : ℕ → Declared → Type 0
Mine i x = x.signal.instance ≡ i

abbrev Own : ℕ → Declarations → Type 0
Own i d = (d.instance ≡ i) × AllByRecursion (Mine i) d.list

own_new : (i : ℕ) (k : _) (n : DeclaredName) (words : Option (ℕ × ℕ)) (start : ℕ) (d : Declarations) → Own i d → Own i (with_signal k n words start d)
own_new i k n words start d h = (h.0, all_append (Mine i) d.list (record { signal = signal_of d.instance k n start; words = words; again = is_port k.port && not k.variable } ∷ []) h.1 (h.0, tt))

own_declared : (i : ℕ) (bracketed seen : Names) (k : _) (n : DeclaredName) (d t : Declarations) → Own i d → declare_new bracketed seen k n d ≡ Ok t → Own i t
unfolding declare_new
own_declared i bracketed seen k n d t h e =
    let start = start_or seen (range_width k.range) 0 (starting k n) in
    let words = declared_words seen k n in
    let faults = new_faults bracketed seen k n d in
    let r = first_ok (first_fault_or faults d) (λ x. and_then (first_fault_or (words_faults words) x) (counted k n words start)) t e in
    let same : d ≡ r.0 = settled_is (first_of faults) d r.0 r.1.0 in
    let s = first_ok (first_fault_or (words_faults words) r.0) (counted k n words start) t r.1.1 in
    let still : r.0 ≡ s.0 = settled_is (first_of (words_faults words)) r.0 s.0 s.1.0 in
    let bits = s.0.bits + declared_bits k words in
    let last : with_signal k n words start s.0 ≡ t = settled_is (first_of (fault_if (nat_lt 65536 bits) (TooMany FlatBits bits))) (with_signal k n words start s.0) t s.1.1 in
    subst (Own i) last (own_new i k n words start s.0 (subst (Own i) still (subst (Own i) same h)))

own_again : (i : ℕ) (seen : Names) (k : _) (n : DeclaredName) (place : ℕ) (d t : Declarations) → Own i d → declare_again seen k n place d ≡ Ok t → Own i t
unfolding declare_again
own_again i seen k n place d t h e =
    let x = redeclared k (start_again seen (starting k n) (declared_at d.list place)) (declared_at d.list place) in
    let faults = fault_if (not (is_same_range (declared_at d.list place).signal.range k.range)) (BadRange n.token) ++ start_faults seen (starting k n) in
    subst (Own i) (settled_is (first_of faults) (record d { list = slice_set d.list place x }) t e) (h.0, all_set (Mine i) d.list place x h.1 (λ l. all_index (Mine i) d.list place no_declared h.1 l))

own_at : (i : ℕ) (bracketed seen : Names) (k : _) (n : DeclaredName) (d t : Declarations) (o : Option ℕ) → Own i d → declare_at bracketed seen k n d o ≡ Ok t → Own i t
own_at i bracketed seen k n d t None h e = own_declared i bracketed seen k n d t h e
own_at i bracketed seen k n d t (Some place) h e = own_again i seen k n place d t h e

own_declare : (i : ℕ) (bracketed seen : Names) (k : _) (n : DeclaredName) (d t : Declarations) → Own i d → declare bracketed seen k n d ≡ Ok t → Own i t
unfolding declare
own_declare i bracketed seen k n d t h e = own_at i bracketed seen k n d t (repeated_place (k.repeats && is_none n.words) (again_place (lookup n.text d.names) d.list)) h e

own_names : (i : ℕ) (bracketed seen : Names) (k : Option (ℕ × ℕ) → _) (range : Option Range) (list : List DeclaredName) (d t : Declarations) → Own i d → and_then (range_in seen range) (λ r. each (declare bracketed seen (k r)) list d) ≡ Ok t → Own i t
own_names i bracketed seen k range list d t h e =
    let r = first_ok (range_in seen range) (λ r. each (declare bracketed seen (k r)) list d) t e in
    each_keeps (Own i) (declare bracketed seen (k r.0)) (λ n s u q p. own_declare i bracketed seen (k r.0) n s u q p) list d t h r.1.1

own_ports : (i : ℕ) (bracketed seen : Names) (p : PortDeclaration) (d t : Declarations) → Own i d → declare_ports bracketed seen p d ≡ Ok t → Own i t
unfolding declare_ports
own_ports i bracketed seen p d t h e = own_names i bracketed seen (port_declaration p) p.range p.names d t h e

own_item : (i : ℕ) (bracketed seen : Names) (x : ModuleItem) (d t : Declarations) → Own i d → declare_item bracketed seen x d ≡ Ok t → Own i t
unfolding declare_item declare_nets declare_variables
own_item i bracketed seen (Ports p) d t h e = own_ports i bracketed seen p d t h e
own_item i bracketed seen (Nets signed range list) d t h e = own_names i bracketed seen (inner_declaration false signed) range list d t h e
own_item i bracketed seen (Variables signed range list) d t h e = own_names i bracketed seen (inner_declaration true signed) range list d t h e
own_item i bracketed seen (Integers list) d t h e = each_keeps (Own i) (declare_integer bracketed seen) (λ n s u q p. own_declare i bracketed seen integer_declaration (integer_name n) s u q p) list d t h e
own_item i bracketed seen (Parameters p) d t h e = subst (Own i) (ok_is d t e) h
own_item i bracketed seen (Assigns pairs) d t h e = subst (Own i) (ok_is d t e) h
own_item i bracketed seen (Always events body token) d t h e = subst (Own i) (ok_is d t e) h
own_item i bracketed seen (Initial body token) d t h e = subst (Own i) (ok_is d t e) h
own_item i bracketed seen (Instances m token overrides list) d t h e = subst (Own i) (ok_is d t e) h

own_all : (i bits : ℕ) (m : ModuleDeclaration) (names : Names) (t : Declarations) → declared i bits m names ≡ Ok t → Own i t
unfolding declared declarations
own_all i bits m names t e =
    let first : Declarations = record { instance = i; names = names; list = []; bits = bits } in
    let r = first_ok (brackets m) (λ bracketed. declarations bracketed (known m names) m first) t e in
    let s = first_ok (each (declare_ports r.0 (known m names)) m.groups first) (each (declare_item r.0 (known m names)) m.items) t r.1.1 in
    each_keeps (Own i) (declare_item r.0 (known m names)) (λ x s u q k. own_item i r.0 (known m names) x s u q k) m.items s.0 t
    (each_keeps (Own i) (declare_ports r.0 (known m names)) (λ p s u q k. own_ports i r.0 (known m names) p s u q k) m.groups first s.0 (refl, tt) s.1.0) s.1.1

-- Signals

abbrev Of : ℕ → Signal → Type 0
Of i s = s.instance ≡ i

found_one : (i : ℕ) (list : List Declared) (o : Option Entity) → AllByRecursion (Mine i) list → AllByRecursion (Mine i) (option_to_list (named_declared list o))
found_one i list None h = tt
found_one i list (Some (entity.Constant bits signed)) h = tt
found_one i list (Some (entity.Signal id range signed)) h = by (slice_get list id) refl
  where
    by : (o : Option Declared) → slice_get list id ≡ o → AllByRecursion (Mine i) (option_to_list o)
    by None q = tt
    by (Some x) q = (all_got (Mine i) list id x h q, tt)
found_one i list (Some (entity.Memory first low words range signed)) h = tt
found_one i list (Some entity.Instance) h = tt

with_one : (i : ℕ) (d : Declarations) → Own i d → (n : Text) (s : List Declared) → AllByRecursion (Mine i) s → AllByRecursion (Mine i) (with_port d s n)
unfolding with_port
with_one i d h n s q = all_append (Mine i) s (option_to_list (named_declared d.list (lookup n d.names))) q (found_one i d.list (lookup n d.names) h.1)

inner_one : (i : ℕ) (x : Declared) (s : List Declared) → Mine i x → AllByRecursion (Mine i) s → AllByRecursion (Mine i) (with_inner s x)
unfolding with_inner
inner_one i x s m q = by (is_port x.signal.port)
  where
    by : (b : Bool) → AllByRecursion (Mine i) (if b then s else s ++ x ∷ [])
    by true = q
    by false = all_append (Mine i) s (x ∷ []) q (m, tt)

in_order : (i : ℕ) (m : ModuleDeclaration) (d : Declarations) → Own i d → AllByRecursion (Mine i) (declared_in_order m d)
unfolding declared_in_order with_ports
in_order i m d h =
    fold_over (Mine i) (AllByRecursion (Mine i)) with_inner (λ x s q p. inner_one i x s q p) d.list (fold (with_ports d) (fold (with_identifier d) [] (plain_names m.header)) m.groups) h.1
    (fold_keeps (AllByRecursion (Mine i)) (with_ports d) (λ p s q. fold_keeps (AllByRecursion (Mine i)) (with_declarator d) (λ n s q. with_one i d h n.text s q) p.names s q) m.groups (fold (with_identifier d) [] (plain_names m.header))
    (fold_keeps (AllByRecursion (Mine i)) (with_identifier d) (λ n s q. with_one i d h n.text s q) (plain_names m.header) [] tt))

words_of_one : (i : ℕ) (s : Signal) (low : ℕ) → Of i s → (ks : List ℕ) → AllByRecursion (Of i) (map (indexed_word s low) ks)
words_of_one i s low h [] = tt
words_of_one i s low h (k ∷ ks) = (h, words_of_one i s low h ks)

signals_one : (i : ℕ) (s : Signal) (words : Option (ℕ × ℕ)) → Of i s → AllByRecursion (Of i) (words_signals s words)
signals_one i s None h = (h, tt)
signals_one i s (Some w) h = words_of_one i s w.0 h (range_with_len 0 w.1)

all_joined : (i : ℕ) (list : List Declared) → AllByRecursion (Mine i) list → AllByRecursion (Of i) (joined list)
unfolding joined
all_joined i [] h = tt
all_joined i (x ∷ xs) h = all_append (Of i) (words_signals x.signal x.words) (joined xs) (signals_one i x.signal x.words h.0) (all_joined i xs h.1)

-- a signal with a number from a base up to a bound, or words with such numbers
abbrev pub Between : ℕ → ℕ → Entity → Type 0
Between base end (entity.Constant bits signed) = Unit {0}
Between base end (entity.Signal id range signed) = (base ≤ id) × (id < end)
Between base end (entity.Memory first low words range signed) = (base ≤ first) × (first + words ≤ end)
Between base end entity.Instance = Unit {0}

none_between : (base end : ℕ) (e : Entity) → NoSignal e → Between base end e
none_between base end (entity.Constant bits signed) h = tt
none_between base end (entity.Signal id range signed) h = absurd h
none_between base end (entity.Memory first low words range signed) h = absurd h
none_between base end entity.Instance h = tt

one_between : (base k end : ℕ) (s : Signal) (words : Option (ℕ × ℕ)) → base ≤ k → k + word_count words ≤ end → Between base end (words_entity k s words)
one_between base k end s None l m = (l, omega (arith, m))
one_between base k end s (Some w) l m = (l, m)

all_between : (base k end : ℕ) (list : List Declared) (names : Names) → base ≤ k → k + length (joined list) ≤ end → Entries (Between base end) names → Entries (Between base end) (with_signals k list names)
unfolding with_signals joined
all_between base k end [] names l m h = h
all_between base k end (x ∷ xs) names l m h =
    let n = words_long x.signal x.words in
    let both = length-append (words_signals x.signal x.words) (joined xs) in
    all_between base (k + word_count x.words) end xs (with_name names x.signal.name (entity_of k x)) (omega (arith, l)) (omega (arith, m, n, both))
    (entries_with (Between base end) names x.signal.name (entity_of k x) h (one_between base k end x.signal x.words l (omega (arith, m, n, both))))

pub record HeadOf (i base : ℕ) (h : Head) : Type 0 where
  pub signals : AllByRecursion (λ (s : Signal). s.instance ≡ i) h.signals
  pub scope : Entries (Between base (base + length h.signals)) h.scope

pub head_of : (i base bits : ℕ) (given : Names) (m : ModuleDeclaration) (h : Head) → head i base bits given m ≡ Ok h → HeadOf i base h
unfolding head numbered
head_of i base bits given m h e =
    let r = first_ok (parameters given m) (λ names. and_then (declared i bits m names) (λ d. numbered i base d.bits (declared_in_order m d) names)) h e in
    let s = first_ok (declared i bits m r.0) (λ d. numbered i base d.bits (declared_in_order m d) r.0) h r.1.1 in
    let own = own_all i bits m r.0 s.0 s.1.0 in
    let list = declared_in_order m s.0 in
    let signals = joined list in
    let made : Head = record { instance = i; base = base; bits = s.0.bits; signals = signals; scope = with_signals base list r.0 } in
    subst (HeadOf i base) (settled_is (first_of (fault_if (nat_lt 65536 (base + length signals)) (TooMany FlatBits (base + length signals)))) made h s.1.1) (record {
      signals = all_joined i list (in_order i m s.0 own);
      scope = all_between base base (base + length signals) list r.0 (omega arith) (omega arith)
          (all_weaker (λ e. NoSignal e.1) (λ e. Between base (base + length signals) e.1) r.0 (λ e k. none_between base (base + length signals) e.1 k) (constants given m r.0 r.1.0));
    })
