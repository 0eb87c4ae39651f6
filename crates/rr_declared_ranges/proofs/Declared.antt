-- What the declarations of a module list: each name once, at its place, and a scalar where no range stands.
use Rattle.std.proofs.Common.{◌≡◌, ◌⊎◌, inl, inr, ℕ, ◌-◌, ◌<◌, ◌≤◌, Bool, true, false, not, cond, ◌&&◌, if◌then◌else◌, is_some, is_none, List, [], ◌∷◌, ◌++◌, length, map, Option, Some, None, Result, Ok, refl, sym, subst, ap, ◌∙◌, arith, length-append, nat_lt, nat_eq, ap₂}
use Rattle.std.specs.Prelude.{slice_set}
use Rattle.std.specs.List.{AllByRecursion}
use Rattle.std.specs.Str.{bytes_eq}
use Rattle.std.proofs.lemmas.Bool.{cases_eq, cases_lt, both_ways, and_parts, eqb-true}
use Rattle.std.proofs.lemmas.List.{length-set, get_or-set_same, get_or-set_other, get_or_append_left, get_or-append_right}
use Rattle.std.proofs.lemmas.Slice.Eq.{bytes_eq-Decides}
use Rattle.rr_syntax.specs.Tree.{Identifier, DeclaredName, PortDeclaration, Range, ModuleItem, Ports, Nets, Variables, Integers, Parameters, Assigns, Always, Initial, Instances, ModuleDeclaration}
use Rattle.rr_expr.specs.Faults.{first}
use Rattle.rr_expr.specs.Scopes.{Names, lookup, range_width}
use Rattle.rr_expr.specs.declared.types.Entity.{Entity}
use Rattle.rr_expr.specs.declared.types.Entity.TheVariants as entity
use Rattle.rr_flat.specs.declared.fault.FlatFault.{FlatFault}
use Rattle.rr_flat.specs.declared.fault.FlatFault.TheVariants.{NameTwice, UnknownName, BadRange, TooWide, TooMany}
use Rattle.rr_flat.specs.declared.fault.Limit.TheVariants.{Words}
use Rattle.rr_flat.specs.declared.signal.Port.{Port}
use Rattle.rr_memory_words.specs.Words.{words_of, word_count}
use Rattle.rr_declarations.specs.Declarations.{Declared, Declarations, is_port, signal_of, indices, words_in, declared_words, declare_new, no_declared, declared_at, is_same_range, redeclared, declare_again, again_place, repeated_place, declare_at, declare, declare_integer, integer_name, starting, start_faults, start_or, start_again, port_declaration, inner_declaration, integer_declaration, declare_ports, declare_nets, declare_variables, declare_item, declarations}
use Rattle.rr_flat.specs.Faults.{fault_if, fault_or, faults_in, first_of, and_then, each}
use Rattle.rr_flat.specs.Signals.{with_name, Text}
use Rattle.rr_declarations.specs.Parameters.{width_faults}
use Rattle.rr_declarations.specs.Values.{constant, bound_or_zero, bound_faults, range_in}
use Rattle.rr_flatten.proofs.HeadOf.{ok_is, first_ok}
use Rattle.rr_flat_laws.proofs.Answers.{nil_left, nil_right, settled}
use Rattle.rr_flat_laws.proofs.Words.{Declaration, none_is, no_range, port_indices, no_indices, no_words, again_single, port_is, new_is}
use Rattle.rr_declared_ranges.specs.Ranges.{net_name, IsBy, AreBy, IsVariableBy, AreVariablesBy, ItemBy, AllBy}
use Rattle.rr_declared_ranges.proofs.Members.{all_map, all_weaken}

-- Names

some_is : {X : Type 0} (a b : X) → Some a ≡ Some b → a ≡ b
some_is a b e = cc

none_some : {X : Type 0} (a : X) → None ≡ Some a → ⊥
none_some a e = cc

lookup_more : (x : Text) (names : Names) (more : Names) (e : Entity) → lookup x names ≡ Some e → lookup x (names ++ more) ≡ Some e
unfolding lookup
lookup_more x [] more e h = absurd (none_some e h)
lookup_more x (n ∷ ns) more e h = by (bytes_eq x n.0) h (lookup_more x ns more e)
  where
    by : (b : Bool) → cond b (Some n.1) (lookup x ns) ≡ Some e → (lookup x ns ≡ Some e → lookup x (ns ++ more) ≡ Some e) → cond b (Some n.1) (lookup x (ns ++ more)) ≡ Some e
    by true h r = h
    by false h r = r h

-- a name stays
pub lookup_kept : (x n : Text) (names : Names) (f e : Entity) → lookup x names ≡ Some e → lookup x (with_name names n f) ≡ Some e
lookup_kept x n names f e h = by (is_some (lookup n names))
  where
    by : (b : Bool) → lookup x (if b then names else names ++ (n, f) ∷ []) ≡ Some e
    by true = h
    by false = lookup_more x names ((n, f) ∷ []) e h

lookup_last : (x : Text) (names : Names) (f : Entity) → is_some (lookup x names) ≡ false → lookup x (names ++ (x, f) ∷ []) ≡ Some f
unfolding lookup
lookup_last x [] f h = ap (λ b. cond b (Some f) None) ((bytes_eq-Decides x x).1 refl)
lookup_last x (n ∷ ns) f h = by (bytes_eq x n.0) h (lookup_last x ns f)
  where
    by : (b : Bool) → is_some (cond b (Some n.1) (lookup x ns)) ≡ false → (is_some (lookup x ns) ≡ false → lookup x (ns ++ (x, f) ∷ []) ≡ Some f) → cond b (Some n.1) (lookup x (ns ++ (x, f) ∷ [])) ≡ Some f
    by true h r = absurd (both_ways true h refl)
    by false h r = r h

-- a new name is there
pub lookup_new : (x : Text) (names : Names) (f : Entity) → is_some (lookup x names) ≡ false → lookup x (with_name names x f) ≡ Some f
lookup_new x names f h = ap (λ b. lookup x (if b then names else names ++ (x, f) ∷ [])) h ∙ lookup_last x names f h

lookup_old : (x n : Text) (names : Names) (f e : Entity) → lookup x (names ++ (n, f) ∷ []) ≡ Some e → (lookup x names ≡ Some e) ⊎ ((x ≡ n) × (f ≡ e))
unfolding lookup
lookup_old x n [] f e h = by (bytes_eq x n) refl h
  where
    by : (b : Bool) → bytes_eq x n ≡ b → cond b (Some f) None ≡ Some e → (None ≡ Some e) ⊎ ((x ≡ n) × (f ≡ e))
    by true q h = inr ((bytes_eq-Decides x n).0 q, some_is f e h)
    by false q h = inl h
lookup_old x n (m ∷ ms) f e h = by (bytes_eq x m.0) h (lookup_old x n ms f e)
  where
    by : (b : Bool) → cond b (Some m.1) (lookup x (ms ++ (n, f) ∷ [])) ≡ Some e → (lookup x (ms ++ (n, f) ∷ []) ≡ Some e → (lookup x ms ≡ Some e) ⊎ ((x ≡ n) × (f ≡ e))) → (cond b (Some m.1) (lookup x ms) ≡ Some e) ⊎ ((x ≡ n) × (f ≡ e))
    by true h r = inl h
    by false h r = r h

-- and there are no others
pub lookup_with : (x n : Text) (names : Names) (f e : Entity) → lookup x (with_name names n f) ≡ Some e → (lookup x names ≡ Some e) ⊎ ((x ≡ n) × (f ≡ e))
lookup_with x n names f e h = by (is_some (lookup n names)) h
  where
    by : (b : Bool) → lookup x (if b then names else names ++ (n, f) ∷ []) ≡ Some e → (lookup x names ≡ Some e) ⊎ ((x ≡ n) × (f ≡ e))
    by true h = inl h
    by false h = lookup_old x n names f e h

-- Faults that are not there

no_fault : (b : Bool) (f : FlatFault) (more : List FlatFault) → fault_if b f ++ more ≡ [] → (b ≡ false) × (more ≡ [])
no_fault true f more e = absurd (cc)
no_fault false f more e = (refl, e)

only_fault : (b : Bool) (f : FlatFault) → fault_if b f ≡ [] → b ≡ false
only_fault true f e = absurd (cc)
only_fault false f e = refl

pair_is : (r s : ℕ × ℕ) → r.0 ≡ s.0 → r.1 ≡ s.1 → r ≡ s
pair_is r s a b = ap₂ (λ (x y : ℕ). (x, y)) a b

same_range : (r s : Option (ℕ × ℕ)) → is_same_range r s ≡ true → r ≡ s
same_range None None e = refl
same_range None (Some s) e = absurd (both_ways false refl e)
same_range (Some r) None e = absurd (both_ways false refl e)
same_range (Some r) (Some s) e = let p = and_parts (nat_eq r.0 s.0) (nat_eq r.1 s.1) e in ap Some (pair_is r s (eqb-true r.0 s.0 p.0) (eqb-true r.1 s.1 p.1))

not_false : (b : Bool) → not b ≡ false → b ≡ true
not_false true e = refl
not_false false e = absurd (both_ways true e refl)

-- Places

abbrev pub name_at : List Declared → ℕ → Text
name_at list p = (declared_at list p).signal.name

abbrev pub range_at : List Declared → ℕ → Option (ℕ × ℕ)
range_at list p = (declared_at list p).signal.range

abbrev pub words_at : List Declared → ℕ → Option (ℕ × ℕ)
words_at list p = (declared_at list p).words

abbrev pub port_at : List Declared → ℕ → Port
port_at list p = (declared_at list p).signal.port

at_left : (list more : List Declared) (p : ℕ) → p < length list → declared_at (list ++ more) p ≡ declared_at list p
at_left list more p l = get_or_append_left list more no_declared p l

at_last : (list : List Declared) (x : Declared) → declared_at (list ++ x ∷ []) (length list) ≡ x
at_last list x =
    let z : length list - length list ≡ 0 = omega arith in
    get_or-append_right list (x ∷ []) (length list) (length list) no_declared refl (omega arith) ∙ ap (λ (n : ℕ). declared_at (x ∷ []) n) z

-- what one more declaration of a port keeps
at_set : {A : Type 0} (f : Declared → A) (list : List Declared) (y : Declared) (place p : ℕ) → p < length list → f y ≡ f (declared_at list place) → f (declared_at (slice_set list place y) p) ≡ f (declared_at list p)
at_set f list y place p l same = by (cases_eq p place)
  where
    by : ((p ≡ place) ⊎ (p ≡ place → ⊥)) → f (declared_at (slice_set list place y) p) ≡ f (declared_at list p)
    by (inl e) =
        let there : place < length list = omega (arith, l, e) in
        ap (λ (q : ℕ). f (declared_at (slice_set list place y) q)) e ∙ ap f (get_or-set_same list place y no_declared there) ∙ same ∙ ap (λ (q : ℕ). f (declared_at list q)) (sym e)
    by (inr n) = ap f (get_or-set_other list place p y no_declared n)

-- Declarations of a module

module _ (P Q : Text → Option (ℕ × ℕ) → Option (ℕ × ℕ) → Type 0) (seen : Names) (weaker : (name : Text) (r w : Option (ℕ × ℕ)) → P name r w → Q name r w) where
  pub by_later : (o : Option Range) (list : List Identifier) → AreBy P seen o list → AreBy Q seen o list
  by_later o list h = all_weaken (λ (y : Identifier). IsBy P seen o y.text) list (λ y p. (p.0, (p.1.0, weaker y.text p.0 None p.1.1))) h

  variable_later : (o w : Option Range) (name : Text) → IsVariableBy P seen o w name → IsVariableBy Q seen o w name
  variable_later o None name p = (p.0, (p.1.0, weaker name p.0 None p.1.1))
  variable_later o (Some w) name p = (p.0, (p.1.0, (p.1.1.0, p.1.1.1, weaker name p.0 (words_of (Some p.1.0)) p.1.1.2)))

  pub item_later : (x : ModuleItem) → ItemBy P seen x → ItemBy Q seen x
  item_later (Ports p) h = by_later p.range (map net_name p.names) h
  item_later (Nets signed range list) h = by_later range (map net_name list) h
  item_later (Variables signed range list) h = all_weaken (λ (n : DeclaredName). IsVariableBy P seen range n.words n.text) list (λ n q. variable_later range n.words n.text q) h
  item_later (Integers list) h = all_weaken (λ (y : Identifier). P y.text (Some (31, 0)) None) list (λ y p. weaker y.text (Some (31, 0)) None p) h
  item_later (Parameters p) h = tt
  item_later (Assigns pairs) h = tt
  item_later (Always events body token) h = tt
  item_later (Initial body token) h = tt
  item_later (Instances m token overrides list) h = tt

  pub all_later : (m : ModuleDeclaration) → AllBy P seen m → AllBy Q seen m
  all_later m h = record { groups = all_weaken (λ p. AreBy P seen p.range (map net_name p.names)) m.groups (λ p g. by_later p.range (map net_name p.names) g) h.groups; items = all_weaken (ItemBy P seen) m.items item_later h.items }

module _ (bracketed params : Names) where
  -- names and places tell each other, parameters stay, a port stands in the brackets, no range is too wide and no words are too
  -- many; what may be declared once more has none
  pub record Right (names : Names) (list : List Declared) : Type 0 where
    pub there : (p : ℕ) → p < length list → lookup (name_at list p) names ≡ Some (entity.Signal p None false)
    pub back : (x : Text) (p : ℕ) (r : Option (ℕ × ℕ)) (s : Bool) → lookup x names ≡ Some (entity.Signal p r s) → (p < length list) × (name_at list p ≡ x)
    pub kept : (x : Text) (e : Entity) → lookup x params ≡ Some e → lookup x names ≡ Some e
    pub ports : (p : ℕ) → p < length list → is_port (port_at list p) ≡ true → is_none (lookup (name_at list p) bracketed) ≡ false
    pub narrow : (p : ℕ) → p < length list → nat_lt 128 (range_width (range_at list p)) ≡ false
    pub few : (p : ℕ) → p < length list → nat_lt 256 (word_count (words_at list p)) ≡ false
    pub single : (p : ℕ) → p < length list → (declared_at list p).again ≡ true → words_at list p ≡ None

  abbrev pub IsRight : Declarations → Type 0
  IsRight d = Right d.names d.list

  -- a signal or a memory of that name and range, with these words
  abbrev pub HasIn : List Declared → Text → Option (ℕ × ℕ) → Option (ℕ × ℕ) → Type 0
  HasIn list name range words = (p : ℕ) × ((p < length list) × ((name_at list p ≡ name) × ((range_at list p ≡ range) × (words_at list p ≡ words))))

  abbrev pub Has : Declarations → Text → Option (ℕ × ℕ) → Option (ℕ × ℕ) → Type 0
  Has d name range words = HasIn d.list name range words

  abbrev pub Later : Declarations → Declarations → Type 0
  Later d t = (name : Text) (range words : Option (ℕ × ℕ)) → Has d name range words → Has t name range words

  has_left : (list more : List Declared) (name : Text) (range words : Option (ℕ × ℕ)) → HasIn list name range words → HasIn (list ++ more) name range words
  has_left list more name range words (p, (l, (n, (r, w)))) =
      let long = length-append list more in
      let e = at_left list more p l in
      (p, (omega (arith, l, long), (ap (λ (x : Declared). x.signal.name) e ∙ n, (ap (λ (x : Declared). x.signal.range) e ∙ r, ap (λ (x : Declared). x.words) e ∙ w))))

  -- one more signal
  module _ (x : Declared) (names : Names) (list : List Declared) (g : Right names list) (fresh : is_some (lookup x.signal.name names) ≡ false) (port : (is_port x.signal.port && is_none (lookup x.signal.name bracketed)) ≡ false) (fits : nat_lt 128 (range_width x.signal.range) ≡ false)
      (few : nat_lt 256 (word_count x.words) ≡ false) (single : x.again ≡ true → x.words ≡ None) where
    abbrev name : Text
    name = x.signal.name

    abbrev e : Entity
    e = entity.Signal (length list) None false

    port_there : (a b : Bool) → (a && b) ≡ false → a ≡ true → b ≡ false
    port_there true b h q = h
    port_there false b h q = absurd (both_ways false refl q)

    there_new : (p : ℕ) → p < length (list ++ x ∷ []) → ((p < length list) ⊎ (length list ≤ p)) → lookup (name_at (list ++ x ∷ []) p) (with_name names name e) ≡ Some (entity.Signal p None false)
    there_new p l (inl a) =
        let q = at_left list (x ∷ []) p a in
        ap (λ (y : Declared). lookup y.signal.name (with_name names name e)) q ∙ lookup_kept (name_at list p) name names e (entity.Signal p None false) (g.there p a)
    there_new p l (inr a) =
        let long = length-append list (x ∷ []) in
        let q : length list ≡ p = omega (arith, l, a, long) in
        subst (λ p. lookup (name_at (list ++ x ∷ []) p) (with_name names name e) ≡ Some (entity.Signal p None false)) q
        (ap (λ (y : Declared). lookup y.signal.name (with_name names name e)) (at_last list x) ∙ lookup_new name names e fresh)

    signal_is : (p q : ℕ) (r s : Option (ℕ × ℕ)) (a b : Bool) → entity.Signal p r a ≡ entity.Signal q s b → p ≡ q
    signal_is p q r s a b h = cc

    back_new : (y : Text) (p : ℕ) (r : Option (ℕ × ℕ)) (s : Bool) → ((lookup y names ≡ Some (entity.Signal p r s)) ⊎ ((y ≡ name) × (e ≡ entity.Signal p r s))) → (p < length (list ++ x ∷ [])) × (name_at (list ++ x ∷ []) p ≡ y)
    back_new y p r s (inl h) =
        let long = length-append list (x ∷ []) in
        let b = g.back y p r s h in
        let l = b.0 in
        (omega (arith, l, long), ap (λ (z : Declared). z.signal.name) (at_left list (x ∷ []) p b.0) ∙ b.1)
    back_new y p r s (inr (q, h)) =
        let long = length-append list (x ∷ []) in
        let i : length list ≡ p = signal_is (length list) p None r false s h in
        (omega (arith, i, long), subst (λ (p : ℕ). name_at (list ++ x ∷ []) p ≡ y) i (ap (λ (z : Declared). z.signal.name) (at_last list x) ∙ sym q))

    ports_new : (p : ℕ) → p < length (list ++ x ∷ []) → ((p < length list) ⊎ (length list ≤ p)) → is_port (port_at (list ++ x ∷ []) p) ≡ true → is_none (lookup (name_at (list ++ x ∷ []) p) bracketed) ≡ false
    ports_new p l (inl a) h =
        let q = at_left list (x ∷ []) p a in
        ap (λ (y : Declared). is_none (lookup y.signal.name bracketed)) q ∙ g.ports p a (ap (λ (y : Declared). is_port y.signal.port) (sym q) ∙ h)
    ports_new p l (inr a) h =
        let long = length-append list (x ∷ []) in
        let q : p ≡ length list = omega (arith, l, a, long) in
        let is : declared_at (list ++ x ∷ []) p ≡ x = ap (λ (n : ℕ). declared_at (list ++ x ∷ []) n) q ∙ at_last list x in
        ap (λ (y : Declared). is_none (lookup y.signal.name bracketed)) is ∙ port_there (is_port x.signal.port) (is_none (lookup name bracketed)) port (ap (λ (y : Declared). is_port y.signal.port) (sym is) ∙ h)

    narrow_new : (p : ℕ) → p < length (list ++ x ∷ []) → ((p < length list) ⊎ (length list ≤ p)) → nat_lt 128 (range_width (range_at (list ++ x ∷ []) p)) ≡ false
    narrow_new p l (inl a) = ap (λ (y : Declared). nat_lt 128 (range_width y.signal.range)) (at_left list (x ∷ []) p a) ∙ g.narrow p a
    narrow_new p l (inr a) =
        let long = length-append list (x ∷ []) in
        let q : p ≡ length list = omega (arith, l, a, long) in
        let is : declared_at (list ++ x ∷ []) p ≡ x = ap (λ (n : ℕ). declared_at (list ++ x ∷ []) n) q ∙ at_last list x in
        ap (λ (y : Declared). nat_lt 128 (range_width y.signal.range)) is ∙ fits

    few_new : (p : ℕ) → p < length (list ++ x ∷ []) → ((p < length list) ⊎ (length list ≤ p)) → nat_lt 256 (word_count (words_at (list ++ x ∷ []) p)) ≡ false
    few_new p l (inl a) = ap (λ (y : Declared). nat_lt 256 (word_count y.words)) (at_left list (x ∷ []) p a) ∙ g.few p a
    few_new p l (inr a) =
        let long = length-append list (x ∷ []) in
        let q : p ≡ length list = omega (arith, l, a, long) in
        let is : declared_at (list ++ x ∷ []) p ≡ x = ap (λ (n : ℕ). declared_at (list ++ x ∷ []) n) q ∙ at_last list x in
        ap (λ (y : Declared). nat_lt 256 (word_count y.words)) is ∙ few

    single_new : (p : ℕ) → p < length (list ++ x ∷ []) → ((p < length list) ⊎ (length list ≤ p)) → (declared_at (list ++ x ∷ []) p).again ≡ true → words_at (list ++ x ∷ []) p ≡ None
    single_new p l (inl a) h = let is = at_left list (x ∷ []) p a in ap (λ (y : Declared). y.words) is ∙ g.single p a (ap (λ (y : Declared). y.again) (sym is) ∙ h)
    single_new p l (inr a) h =
        let long = length-append list (x ∷ []) in
        let q : p ≡ length list = omega (arith, l, a, long) in
        let is : declared_at (list ++ x ∷ []) p ≡ x = ap (λ (n : ℕ). declared_at (list ++ x ∷ []) n) q ∙ at_last list x in
        ap (λ (y : Declared). y.words) is ∙ single (ap (λ (y : Declared). y.again) (sym is) ∙ h)

    right_new : Right (with_name names name e) (list ++ x ∷ [])
    right_new = record {
      there = λ p l. there_new p l (cases_lt p (length list));
      back = λ y p r s h. back_new y p r s (lookup_with y name names e (entity.Signal p r s) h);
      kept = λ y f h. lookup_kept y name names e f (g.kept y f h);
      ports = λ p l h. ports_new p l (cases_lt p (length list)) h;
      narrow = λ p l. narrow_new p l (cases_lt p (length list));
      few = λ p l. few_new p l (cases_lt p (length list));
      single = λ p l h. single_new p l (cases_lt p (length list)) h;
    }

    has_new : HasIn (list ++ x ∷ []) name x.signal.range x.words
    has_new =
        let long = length-append list (x ∷ []) in
        let is = at_last list x in
        (length list, (omega (arith, long), (ap (λ (y : Declared). y.signal.name) is, (ap (λ (y : Declared). y.signal.range) is, ap (λ (y : Declared). y.words) is))))

  -- a port once more
  module _ (y : Declared) (place : ℕ) (names : Names) (list : List Declared) (g : Right names list) (named : y.signal.name ≡ name_at list place) (ported : y.signal.port ≡ port_at list place) (ranged : y.signal.range ≡ range_at list place)
      (worded : y.words ≡ words_at list place) (closed : y.again ≡ true → y.words ≡ None) where
    abbrev other : List Declared
    other = slice_set list place y

    same_length : length other ≡ length list
    same_length = length-set list place y

    name_kept : (p : ℕ) → p < length list → name_at other p ≡ name_at list p
    name_kept p l = at_set (λ x. x.signal.name) list y place p l named

    port_kept : (p : ℕ) → p < length list → port_at other p ≡ port_at list p
    port_kept p l = at_set (λ x. x.signal.port) list y place p l ported

    words_kept : (p : ℕ) → p < length list → words_at other p ≡ words_at list p
    words_kept p l = at_set (λ x. x.words) list y place p l worded

    single_kept : (p : ℕ) → p < length list → (p ≡ place) ⊎ (p ≡ place → ⊥) → (declared_at other p).again ≡ true → words_at other p ≡ None
    single_kept p l (inl e) h =
        let there : place < length list = omega (arith, l, e) in
        let is : declared_at other p ≡ y = ap (λ (q : ℕ). declared_at other q) e ∙ get_or-set_same list place y no_declared there in
        ap (λ (x : Declared). x.words) is ∙ closed (ap (λ (x : Declared). x.again) (sym is) ∙ h)
    single_kept p l (inr n) h =
        let is : declared_at other p ≡ declared_at list p = get_or-set_other list place p y no_declared n in
        ap (λ (x : Declared). x.words) is ∙ g.single p l (ap (λ (x : Declared). x.again) (sym is) ∙ h)

    right_again : Right names other
    right_again = record {
      there = λ p l. let m : p < length list = omega (arith, l, same_length) in ap (λ x. lookup x names) (name_kept p m) ∙ g.there p m;
      back = λ x p r s h. let b = g.back x p r s h in let l = b.0 in (omega (arith, l, same_length), name_kept p b.0 ∙ b.1);
      kept = g.kept;
      ports = λ p l h.
          let m : p < length list = omega (arith, l, same_length) in
          ap (λ x. is_none (lookup x bracketed)) (name_kept p m) ∙ g.ports p m (ap is_port (sym (port_kept p m)) ∙ h);
      narrow = λ p l.
          let m : p < length list = omega (arith, l, same_length) in
          ap (λ r. nat_lt 128 (range_width r)) (at_set (λ z. z.signal.range) list y place p m ranged) ∙ g.narrow p m;
      few = λ p l. let m : p < length list = omega (arith, l, same_length) in ap (λ w. nat_lt 256 (word_count w)) (words_kept p m) ∙ g.few p m;
      single = λ p l h. single_kept p (omega (arith, l, same_length)) (cases_eq p place) h;
    }

    has_again : (x : Text) (range words : Option (ℕ × ℕ)) → HasIn list x range words → HasIn other x range words
    has_again x range words (p, (l, (n, (r, w)))) = (p, (omega (arith, l, same_length), (name_kept p l ∙ n, (at_set (λ z. z.signal.range) list y place p l ranged ∙ r, words_kept p l ∙ w))))

  -- Steps

  -- what a step gives
  abbrev Gives : Declarations → Declarations → Type 0 → Type 0
  Gives d t C = IsRight t × Later d t × C

  -- a name is there with its range and words, of which the bounds have no fault
  abbrev IsThere : Names → Declaration → DeclaredName → Declarations → Type 0
  IsThere seen k own t = Has t own.text k.range (declared_words seen k own) × (faults_in (range_in seen (indices k own)) ≡ [])

  new_step : (seen : Names) (k : Declaration) (own : DeclaredName) (d t : Declarations) → IsRight d → declare_new bracketed seen k own d ≡ Ok t → Gives d t (IsThere seen k own t)
  new_step seen k own d t g q =
      let taken = is_some (lookup own.text d.names) in
      let missing = is_port k.port && is_none (lookup own.text bracketed) in
      let start = start_or seen (range_width k.range) 0 (starting k own) in
      let bounds = faults_in (range_in seen (indices k own)) in
      let wrong = width_faults own.token k.range ++ start_faults seen (starting k own) in
      let s = new_is bracketed seen k own d t q in
      let n = no_fault taken (NameTwice own.token) (fault_if missing (UnknownName own.token) ++ (bounds ++ wrong)) s.faults in
      let o = no_fault missing (UnknownName own.token) (bounds ++ wrong) n.1 in
      let w = no_fault (nat_lt 128 (range_width k.range)) (TooWide own.token (range_width k.range)) (start_faults seen (starting k own)) (nil_right bounds wrong o.1) in
      let few = only_fault (nat_lt 256 (word_count (declared_words seen k own))) (TooMany Words (word_count (declared_words seen k own))) s.words in
      let x : Declared = record { signal = signal_of d.instance k own start; words = declared_words seen k own; again = is_port k.port && not k.variable } in
      subst (λ t. Gives d t (IsThere seen k own t)) s.is (
        right_new x d.names d.list g n.0 o.0 w.0 few (again_single seen k own),
        λ y r v h. has_left d.list (x ∷ []) y r v h,
        (has_new x d.names d.list g n.0 o.0 w.0 few (again_single seen k own), nil_left bounds wrong o.1),
      )

  again_step : (seen : Names) (k : Declaration) (own : DeclaredName) (place : ℕ) (d t : Declarations) (r : Option (ℕ × ℕ)) (s : Bool) → IsRight d → lookup own.text d.names ≡ Some (entity.Signal place r s) → (declared_at d.list place).again ≡ true → own.words ≡ None →
      declare_again seen k own place d ≡ Ok t → Gives d t (IsThere seen k own t)
  unfolding declare_again
  again_step seen k own place d t r s g h again wordless q =
      let y : Declared = redeclared k (start_again seen (starting k own) (declared_at d.list place)) (declared_at d.list place) in
      let differs = not (is_same_range (range_at d.list place) k.range) in
      let u = settled (fault_if differs (BadRange own.token) ++ start_faults seen (starting k own)) (record d { list = slice_set d.list place y }) t q in
      let f = no_fault differs (BadRange own.token) (start_faults seen (starting k own)) u.0 in
      let same : is_same_range (range_at d.list place) k.range ≡ true = not_false _ f.0 in
      let b = g.back own.text place r s h in
      let single : words_at d.list place ≡ None = g.single place b.0 again in
      let no : indices k own ≡ None = no_indices k own wordless in
      subst (λ t. Gives d t (IsThere seen k own t)) u.1 (
        right_again y place d.names d.list g refl refl refl (sym single) (λ e. refl),
        λ z r v f. has_again y place d.names d.list g refl refl refl (sym single) (λ e. refl) z r v f,
        (
          has_again y place d.names d.list g refl refl refl (sym single) (λ e. refl) own.text k.range (declared_words seen k own)
              (place, (b.0, (b.1, (same_range (range_at d.list place) k.range same, single ∙ sym (no_words seen k own no))))),
          ap (λ (o : Option Range). faults_in (range_in seen o)) no ∙ ap (λ (a : Result (Option (ℕ × ℕ)) FlatFault). faults_in a) (no_range seen),
        ),
      )

  placed : (o : Option Entity) (list : List Declared) (place : ℕ) → again_place o list ≡ Some place → (r : Option (ℕ × ℕ)) × ((s : Bool) × ((o ≡ Some (entity.Signal place r s)) × ((declared_at list place).again ≡ true)))
  placed None list place h = absurd (none_some place h)
  placed (Some (entity.Constant bits signed)) list place h = absurd (none_some place h)
  placed (Some (entity.Signal id range signed)) list place h = by (declared_at list id).again refl h
    where
      by : (b : Bool) → (declared_at list id).again ≡ b → (if b then Some id else None) ≡ Some place →
          (r : Option (ℕ × ℕ)) × ((s : Bool) × ((Some (entity.Signal id range signed) ≡ Some (entity.Signal place r s)) × ((declared_at list place).again ≡ true)))
      by true e h =
          let same : id ≡ place = some_is id place h in
          (range, (signed, (ap (λ i. Some (entity.Signal i range signed)) same, subst (λ (i : ℕ). (declared_at list i).again ≡ true) same e)))
      by false e h = absurd (none_some place h)
  placed (Some (entity.Memory first low words range signed)) list place h = absurd (none_some place h)
  placed (Some entity.Instance) list place h = absurd (none_some place h)

  repeated : (b : Bool) (o : Option ℕ) (place : ℕ) → repeated_place b o ≡ Some place → (b ≡ true) × (o ≡ Some place)
  repeated true o place h = (refl, h)
  repeated false o place h = absurd (none_some place h)

  declare_step : (seen : Names) (k : Declaration) (own : DeclaredName) (d t : Declarations) → IsRight d → declare bracketed seen k own d ≡ Ok t → Gives d t (IsThere seen k own t)
  unfolding declare
  declare_step seen k own d t g q = by (repeated_place (k.repeats && is_none own.words) (again_place (lookup own.text d.names) d.list)) refl q
    where
      by : (o : Option ℕ) → repeated_place (k.repeats && is_none own.words) (again_place (lookup own.text d.names) d.list) ≡ o → declare_at bracketed seen k own d o ≡ Ok t → Gives d t (IsThere seen k own t)
      by None e q = new_step seen k own d t g q
      by (Some place) e q =
          let u = repeated (k.repeats && is_none own.words) (again_place (lookup own.text d.names) d.list) place e in
          let p = placed (lookup own.text d.names) d.list place u.1 in
          again_step seen k own place d t p.0 p.1.0 g p.1.1.0 p.1.1.1 (none_is own.words (and_parts k.repeats (is_none own.words) u.0).1) q

  -- one step for each of a list, where what each gives stays
  each_step : {X : Type 0} (step : X → Declarations → Result Declarations FlatFault) (C : X → Declarations → Type 0) → ((x : X) (d t : Declarations) → Later d t → C x d → C x t) →
      ((x : X) (d t : Declarations) → IsRight d → step x d ≡ Ok t → Gives d t (C x t)) → (xs : List X) (d t : Declarations) → IsRight d → each step xs d ≡ Ok t → Gives d t (AllByRecursion (λ x. C x t) xs)
  unfolding each
  each_step step C stays one [] d t g q = subst (λ t. Gives d t (AllByRecursion (λ x. C x t) [])) (ok_is d t q) (g, λ y r v h. h, tt)
  each_step step C stays one (x ∷ xs) d t g q =
      let r = first_ok (step x d) (each step xs) t q in
      let a = one x d r.0 g r.1.0 in
      let b = each_step step C stays one xs r.0 t a.0 r.1.1 in
      (b.0, λ y r v h. b.1 y r v (a.1 y r v h), (stays x r.0 t b.1 a.2, b.2))

  -- declarations

  declarators_step : (seen : Names) (k : Declaration) (list : List DeclaredName) (d t : Declarations) → IsRight d → each (declare bracketed seen k) list d ≡ Ok t → Gives d t (AllByRecursion (λ (y : DeclaredName). IsThere seen k y t) list)
  declarators_step seen k list d t g q =
      each_step (declare bracketed seen k) (λ (y : DeclaredName) t. IsThere seen k y t) (λ y d t l h. (l y.text k.range (declared_words seen k y) h.0, h.1)) (λ y d t g q. declare_step seen k y d t g q) list d t g q

  integer_there : (seen : Names) (i : Identifier) (d t : Declarations) → IsRight d → declare_integer bracketed seen i d ≡ Ok t → Gives d t (Has t i.text (Some (31, 0)) None)
  integer_there seen i d t g q =
      let s = declare_step seen integer_declaration (integer_name i) d t g q in
      (s.0, s.1, subst (Has t i.text (Some (31, 0))) (no_words seen integer_declaration (integer_name i) refl) s.2.0)

  integers_step : (seen : Names) (list : List Identifier) (d t : Declarations) → IsRight d → each (declare_integer bracketed seen) list d ≡ Ok t → Gives d t (AllByRecursion (λ (y : Identifier). Has t y.text (Some (31, 0)) None) list)
  integers_step seen list d t g q =
      each_step (declare_integer bracketed seen) (λ (y : Identifier) t. Has t y.text (Some (31, 0)) None) (λ y d t l h. l y.text (Some (31, 0)) None h) (λ y d t g q. integer_there seen y d t g q) list d t g q

  -- with a range, and without words
  ranged_step : (seen : Names) (k : Option (ℕ × ℕ) → Declaration) (o : Option Range) (list : List DeclaredName) (d t : Declarations) → IsRight d
      → and_then (range_in seen o) (λ r. each (declare bracketed seen (k r)) list d) ≡ Ok t → ((r : Option (ℕ × ℕ)) → (k r).range ≡ r) → ((r : Option (ℕ × ℕ)) (y : DeclaredName) → indices (k r) y ≡ None) → Gives d t (AreBy (Has t) seen o (map net_name list))
  ranged_step seen k o list d t g q same wordless =
      let r = first_ok (range_in seen o) (λ r. each (declare bracketed seen (k r)) list d) t q in
      let s = declarators_step seen (k r.0) list d t g r.1.1 in (
        s.0,
        s.1,
        all_map (λ (y : Identifier). IsBy (Has t) seen o y.text) net_name list
            (all_weaken (λ (y : DeclaredName). IsThere seen (k r.0) y t) list
            (λ y h. (r.0, (r.1.0, subst (Has t y.text r.0) (no_words seen (k r.0) y (wordless r.0 y)) (subst (λ (v : Option (ℕ × ℕ)). Has t y.text v (declared_words seen (k r.0) y)) (same r.0) h.0)))) s.2),
      )

  -- with words too
  bounds_there : (seen : Names) (w : Range) → faults_in (range_in seen (Some w)) ≡ [] → (b : ℕ × ℕ) × (range_in seen (Some w) ≡ Ok (Some b))
  unfolding range_in
  bounds_there seen w h = by (first_of (bound_faults (first w.left - 1) (constant seen w.left) ++ bound_faults (first w.left - 1) (constant seen w.right))) h
    where
      bounds : ℕ × ℕ
      bounds = (bound_or_zero (constant seen w.left), bound_or_zero (constant seen w.right))

      by : (f : Option FlatFault) → faults_in (fault_or f (Some bounds)) ≡ [] → (b : ℕ × ℕ) × (fault_or f (Some bounds) ≡ Ok (Some b))
      by None h = (bounds, refl)
      by (Some f) h = absurd (cc)

  variable_by : (seen : Names) (o w : Option Range) (name : Text) (t : Declarations) (r : Option (ℕ × ℕ)) → range_in seen o ≡ Ok r → Has t name r (words_in (range_in seen w)) → faults_in (range_in seen w) ≡ [] → IsVariableBy (Has t) seen o w name
  variable_by seen o None name t r e h f = (r, (e, subst (Has t name r) (ap words_in (no_range seen)) h))
  variable_by seen o (Some w) name t r e h f = let b = bounds_there seen w f in (r, (b.0, (e, b.1, subst (Has t name r) (ap words_in b.1) h)))

  variables_step : (seen : Names) (signed : Bool) (o : Option Range) (list : List DeclaredName) (d t : Declarations) → IsRight d → declare_variables bracketed seen signed o list d ≡ Ok t → Gives d t (AreVariablesBy (Has t) seen o list)
  unfolding declare_variables
  variables_step seen signed o list d t g q =
      let r = first_ok (range_in seen o) (λ r. each (declare bracketed seen (inner_declaration true signed r)) list d) t q in
      let s = declarators_step seen (inner_declaration true signed r.0) list d t g r.1.1 in
      (s.0, s.1, all_weaken (λ (y : DeclaredName). IsThere seen (inner_declaration true signed r.0) y t) list (λ y h. variable_by seen o y.words y.text t r.0 r.1.0 h.0 h.1) s.2)

  ports_step : (seen : Names) (p : PortDeclaration) (d t : Declarations) → IsRight d → declare_ports bracketed seen p d ≡ Ok t → Gives d t (AreBy (Has t) seen p.range (map net_name p.names))
  unfolding declare_ports
  ports_step seen p d t g q = ranged_step seen (port_declaration p) p.range p.names d t g q (λ r. refl) (λ r y. port_indices (port_declaration p r) y (port_is p.dir))

  item_step : (seen : Names) (x : ModuleItem) (d t : Declarations) → IsRight d → declare_item bracketed seen x d ≡ Ok t → Gives d t (ItemBy (Has t) seen x)
  unfolding declare_item declare_nets
  item_step seen (Ports p) d t g q = ports_step seen p d t g q
  item_step seen (Nets signed range list) d t g q = ranged_step seen (inner_declaration false signed) range list d t g q (λ r. refl) (λ r y. refl)
  item_step seen (Variables signed range list) d t g q = variables_step seen signed range list d t g q
  item_step seen (Integers list) d t g q = integers_step seen list d t g q
  item_step seen (Parameters p) d t g q = subst (λ t. Gives d t (Unit {0})) (ok_is d t q) (g, λ y r v h. h, tt)
  item_step seen (Assigns pairs) d t g q = subst (λ t. Gives d t (Unit {0})) (ok_is d t q) (g, λ y r v h. h, tt)
  item_step seen (Always events body token) d t g q = subst (λ t. Gives d t (Unit {0})) (ok_is d t q) (g, λ y r v h. h, tt)
  item_step seen (Initial body token) d t g q = subst (λ t. Gives d t (Unit {0})) (ok_is d t q) (g, λ y r v h. h, tt)
  item_step seen (Instances m token overrides list) d t g q = subst (λ t. Gives d t (Unit {0})) (ok_is d t q) (g, λ y r v h. h, tt)

  -- all declarations of a module
  pub all_declared : (seen : Names) (m : ModuleDeclaration) (d t : Declarations) → IsRight d → declarations bracketed seen m d ≡ Ok t → IsRight t × AllBy (Has t) seen m
  unfolding declarations
  all_declared seen m d t g q =
      let r = first_ok (each (declare_ports bracketed seen) m.groups d) (each (declare_item bracketed seen) m.items) t q in
      let a = each_step (declare_ports bracketed seen) (λ p t. AreBy (Has t) seen p.range (map net_name p.names)) (λ p d t l h. by_later (Has d) (Has t) seen l p.range (map net_name p.names) h) (ports_step seen) m.groups d r.0 g r.1.0 in
      let b = each_step (declare_item bracketed seen) (λ x t. ItemBy (Has t) seen x) (λ x d t l h. item_later (Has d) (Has t) seen l x h) (item_step seen) m.items r.0 t a.0 r.1.1 in
      (b.0, record { groups = all_weaken (λ p. AreBy (Has r.0) seen p.range (map net_name p.names)) m.groups (λ p h. by_later (Has r.0) (Has t) seen b.1 p.range (map net_name p.names) h) a.2; items = b.2 })
