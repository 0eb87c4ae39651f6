-- What declarations make known: each name is one declaration of the list, of a signal or of words.
use Rattle.std.proofs.Common.{◌≡◌, ◌∙◌, sym, ap, ◌⊎◌, inl, inr, ℕ, ◌+◌, ◌-◌, ◌<◌, ◌≤◌, Bool, true, false, not, ◌&&◌, List, [], ◌∷◌, ◌++◌, length, map, get_or, Option, Some, None, Result, Ok, refl, arith, subst, is_some, is_none, if◌then◌else◌, length-append}
use Rattle.std.specs.Prelude.{slice_set}
use Rattle.std.specs.List.{Contains, flat_map, AllByRecursion}
use Rattle.std.proofs.lemmas.Bool.{cases_lt, cases_eq, both_ways, and_parts}
use Rattle.std.proofs.lemmas.List.{get_or_append_left, get_or-append_right, length-set, get_or-set_same, get_or-set_other}
use Rattle.std.proofs.lemmas.List.Concat.{flat_map_single}
use Rattle.std.proofs.lemmas.List.Elements.{Contains-append_cases}
use Rattle.rr_syntax.specs.Tree.{Identifier, DeclaredName, Range, PortDeclaration, ModuleItem, Ports, Nets, Variables, Integers, Parameters, Assigns, Always, Initial, Instances}
use Rattle.rr_expr.specs.Scopes.{Names, lookup, range_width}
use Rattle.rr_expr.specs.declared.types.Entity.{Entity}
use Rattle.rr_expr.specs.declared.types.Entity.TheVariants as entity
use Rattle.rr_flat.specs.declared.fault.FlatFault.{FlatFault}
use Rattle.rr_flat.specs.declared.fault.FlatFault.TheVariants.{NameTwice, UnknownName, BadRange}
use Rattle.rr_flat.specs.declared.signal.Port.{Port}
use Rattle.rr_flat.specs.Faults.{fault_if, faults_in, each}
use Rattle.rr_flat.specs.Signals.{Text, with_name}
use Rattle.rr_declarations.specs.Declarations.{Declared, Declarations, is_port, signal_of, with_signal, indices, declared_words, declare_new, no_declared, declared_at, is_same_range, redeclared, declare_again, again_place, repeated_place, declare_at, declare, declare_integer, integer_name, starting, start_faults, start_or, start_again, port_of, port_declaration, inner_declaration, integer_declaration, declare_ports, declare_nets, declare_variables, declare_item}
use Rattle.rr_declarations.specs.Parameters.{width_faults}
use Rattle.rr_declarations.specs.Values.{range_in}
use Rattle.rr_flatten.proofs.HeadOf.{ok_is, first_ok}
use Rattle.rr_flat_laws.specs.Declared.{names_of, ports_by, single, sorted, single_integer, sorts_by}
use Rattle.rr_flat_laws.proofs.Answers.{nil_left, nil_right, not_if, settled}
use Rattle.rr_flat_laws.proofs.Words.{Declaration, IsWorded, none_is, range_words, port_indices, no_indices, words_fit, again_single, port_is, new_is}
use Rattle.rr_flat_laws.proofs.Texts.{some_is, none_some, nowhere, there_cases, here, later, Distinct, distinct_append, with_stays, with_new, with_cases, is_none_of, there_of, flat_none, none_of}

-- The list

last_there : (xs : List Declared) (x : Declared) (p : ℕ) → p ≡ length xs → declared_at (xs ++ x ∷ []) p ≡ x
last_there xs x p e =
    let z : p - length xs ≡ 0 = omega (arith, e) in
    get_or-append_right xs (x ∷ []) (length xs) p no_declared refl (omega (arith, e)) ∙ ap (λ (i : ℕ). get_or (x ∷ []) i no_declared) z

-- of one more
one_more : (Q : ℕ → Declared → Type 0) (xs : List Declared) (x : Declared) → ((p : ℕ) → p < length xs → Q p (declared_at xs p)) → Q (length xs) x → (p : ℕ) → p < length (xs ++ x ∷ []) → Q p (declared_at (xs ++ x ∷ []) p)
one_more Q xs x h q p l = by (cases_lt p (length xs))
  where
    by : (p < length xs) ⊎ (length xs ≤ p) → Q p (declared_at (xs ++ x ∷ []) p)
    by (inl m) = subst (Q p) (sym (get_or_append_left xs (x ∷ []) no_declared p m)) (h p m)
    by (inr m) =
        let e : p ≡ length xs = omega (arith, l, m, length-append xs (x ∷ [])) in
        subst (Q p) (sym (last_there xs x p e)) (subst (λ (i : ℕ). Q i x) (sym e) q)

-- of one that changed
one_set : (Q : ℕ → Declared → Type 0) (xs : List Declared) (i : ℕ) (x : Declared) → ((p : ℕ) → p < length xs → Q p (declared_at xs p)) → (i < length xs → Q i x) → (p : ℕ) → p < length (slice_set xs i x) → Q p (declared_at (slice_set xs i x) p)
one_set Q xs i x h q p l = by (cases_eq p i)
  where
    m : p < length xs
    m = omega (arith, l, length-set xs i x)

    by : (p ≡ i) ⊎ (p ≡ i → ⊥) → Q p (declared_at (slice_set xs i x) p)
    by (inl e) =
        let k : i < length xs = omega (arith, m, e) in
        subst (λ (j : ℕ). Q j (declared_at (slice_set xs i x) j)) (sym e) (subst (Q i) (sym (get_or-set_same xs i x no_declared k)) (q k))
    by (inr n) = subst (Q p) (sym (get_or-set_other xs i p x no_declared n)) (h p m)

-- what is found stays, and a port stays as it is
pub record Longer (d t : Declarations) : Type 0 where
  pub found : (n : Text) (x : Entity) → lookup n d.names ≡ Some x → lookup n t.names ≡ Some x
  pub long : length d.list ≤ length t.list
  pub port : (p : ℕ) → p < length d.list → (declared_at t.list p).signal.port ≡ (declared_at d.list p).signal.port
  pub words : (p : ℕ) → p < length d.list → (declared_at t.list p).words ≡ (declared_at d.list p).words

-- a name has a place in the list, with words or without, and one is a port
pub record Has (d : Declarations) (n : Text) (memory : Bool) : Type 0 where
  pub place : ℕ
  pub there : place < length d.list
  pub found : lookup n d.names ≡ Some (entity.Signal place None false)
  pub sort : is_some (declared_at d.list place).words ≡ memory

pub record HasPort (d : Declarations) (n : Text) : Type 0 where
  pub place : ℕ
  pub there : place < length d.list
  pub found : lookup n d.names ≡ Some (entity.Signal place None false)
  pub port : is_port (declared_at d.list place).signal.port ≡ true

-- with its way
pub record HasWay (d : Declarations) (n : Text) (way : Port) : Type 0 where
  pub place : ℕ
  pub there : place < length d.list
  pub found : lookup n d.names ≡ Some (entity.Signal place None false)
  pub goes : (declared_at d.list place).signal.port ≡ way

longer_none : (d : Declarations) → Longer d d
longer_none d = record { found = λ n x h. h; long = omega arith; port = λ p l. refl; words = λ p l. refl }

longer_twice : (d u t : Declarations) → Longer d u → Longer u t → Longer d t
longer_twice d u t a b = record {
  found = λ n x h. b.found n x (a.found n x h);
  long = omega (arith, a.long, b.long);
  port = λ p l. b.port p (omega (arith, l, a.long)) ∙ a.port p l;
  words = λ p l. b.words p (omega (arith, l, a.long)) ∙ a.words p l;
}

has_later : (d t : Declarations) (n : Text) (memory : Bool) → Longer d t → Has d n memory → Has t n memory
has_later d t n memory l h = record {
  place = h.place;
  there = omega (arith, h.there, l.long);
  found = l.found n (entity.Signal h.place None false) h.found;
  sort = ap (λ (w : Option (ℕ × ℕ)). is_some w) (l.words h.place h.there) ∙ h.sort;
}

port_later : (d t : Declarations) (n : Text) → Longer d t → HasPort d n → HasPort t n
port_later d t n l h = record { place = h.place; there = omega (arith, h.there, l.long); found = l.found n (entity.Signal h.place None false) h.found; port = ap is_port (l.port h.place h.there) ∙ h.port }

way_later : (d t : Declarations) (n : Text) (way : Port) → Longer d t → HasWay d n way → HasWay t n way
way_later d t n way l h = record { place = h.place; there = omega (arith, h.there, l.long); found = l.found n (entity.Signal h.place None false) h.found; goes = l.port h.place h.there ∙ h.goes }

new_before : (d u : Declarations) (n : Text) → Longer d u → lookup n u.names ≡ None → lookup n d.names ≡ None
new_before d u n l h = by (lookup n d.names) refl
  where
    by : (o : Option Entity) → lookup n d.names ≡ o → o ≡ None
    by None q = refl
    by (Some x) q = absurd (none_some x (sym h ∙ l.found n x q))

-- the ports that an item declares
abbrev pub item_ports : ModuleItem → List Text
item_ports (Ports p) = ports_by p
item_ports (Nets signed range list) = []
item_ports (Variables signed range list) = []
item_ports (Integers list) = []
item_ports (Parameters p) = []
item_ports (Assigns pairs) = []
item_ports (Always events body token) = []
item_ports (Initial body token) = []
item_ports (Instances m token overrides list) = []

-- with their ways
abbrev pub with_way : Port → Text → Text × Port
with_way way n = (n, way)

abbrev pub ways_by : PortDeclaration → List (Text × Port)
ways_by p = map (with_way (port_of p.dir)) (ports_by p)

abbrev pub item_ways : ModuleItem → List (Text × Port)
item_ways (Ports p) = ways_by p
item_ways (Nets signed range list) = []
item_ways (Variables signed range list) = []
item_ways (Integers list) = []
item_ways (Parameters p) = []
item_ways (Assigns pairs) = []
item_ways (Always events body token) = []
item_ways (Initial body token) = []
item_ways (Instances m token overrides list) = []

-- over the names of the parameters; P is what is true of each name that is declared, with words or without
module _ (bracketed params : Names) (P : Text × Bool → Type 0) where
  pub record Lists (d : Declarations) : Type 0 where
    pub kept : (n : Text) (x : Entity) → lookup n params ≡ Some x → lookup n d.names ≡ Some x
    pub placed : (p : ℕ) → p < length d.list → lookup (declared_at d.list p).signal.name d.names ≡ Some (entity.Signal p None false)
    pub named : (n : Text) (id : ℕ) (range : Option (ℕ × ℕ)) (signed : Bool) → lookup n d.names ≡ Some (entity.Signal id range signed) → (id < length d.list) × ((declared_at d.list id).signal.name ≡ n)
    pub true_of : (p : ℕ) → p < length d.list → P ((declared_at d.list p).signal.name, is_some (declared_at d.list p).words)
    pub ported : (p : ℕ) → p < length d.list → is_port (declared_at d.list p).signal.port ≡ true → is_some (lookup (declared_at d.list p).signal.name bracketed) ≡ true
    pub single : (p : ℕ) → p < length d.list → (declared_at d.list p).again ≡ true → (declared_at d.list p).words ≡ None
    pub worded : (p : ℕ) → p < length d.list → IsWorded (declared_at d.list p)

  -- names were declared, of which some are ports that are new
  pub record Done (all : List (Text × Bool)) (ports : List Text) (ways : List (Text × Port)) (d t : Declarations) : Type 0 where
    pub lists : Lists t
    pub longer : Longer d t
    pub has : (z : Text × Bool) → Contains all z → Has t z.0 z.1
    pub port : (n : Text) → Contains ports n → HasPort t n
    pub way : (n : Text) (w : Port) → Contains ways (n, w) → HasWay t n w
    pub new : (n : Text) → Contains ports n → lookup n d.names ≡ None
    pub apart : Distinct ports

  done_none : (d : Declarations) → Lists d → Done [] [] [] d d
  done_none d l = record { lists = l; longer = longer_none d; has = λ z c. absurd (nowhere z c); port = λ n c. absurd (nowhere n c); way = λ n w c. absurd (nowhere (n, w) c); new = λ n c. absurd (nowhere n c); apart = tt }

  pub done_twice : (a b : List (Text × Bool)) (p q : List Text) (v z : List (Text × Port)) (d u t : Declarations) → Done a p v d u → Done b q z u t → Done (a ++ b) (p ++ q) (v ++ z) d t
  done_twice a b p q v z d u t x y = record {
    lists = y.lists;
    longer = longer_twice d u t x.longer y.longer;
    has = λ z c. has_by z (Contains-append_cases a b z c);
    port = λ n c. port_by n (Contains-append_cases p q n c);
    way = λ n w c. elim (Contains-append_cases v z (n, w) c) [ inl k ↦ way_later u t n w y.longer (x.way n w k) | inr k ↦ y.way n w k ];
    new = λ n c. new_by n (Contains-append_cases p q n c);
    apart = distinct_append p q x.apart y.apart (λ n c e. let f = (x.port n c).found in none_some (entity.Signal (x.port n c).place None false) (sym (y.new n e) ∙ f));
  }
    where
      has_by : (z : Text × Bool) → Contains a z ⊎ Contains b z → Has t z.0 z.1
      has_by z (inl c) = has_later u t z.0 z.1 y.longer (x.has z c)
      has_by z (inr c) = y.has z c

      port_by : (n : Text) → Contains p n ⊎ Contains q n → HasPort t n
      port_by n (inl c) = port_later u t n y.longer (x.port n c)
      port_by n (inr c) = y.port n c

      new_by : (n : Text) → Contains p n ⊎ Contains q n → lookup n d.names ≡ None
      new_by n (inl c) = x.new n c
      new_by n (inr c) = new_before d u n x.longer (y.new n c)

  -- One declaration

  -- the last one, if it is new
  lists_more : (seen : Names) (k : Declaration) (own : DeclaredName) (start : ℕ) (d : Declarations) → Lists d → P (own.text, is_some (declared_words seen k own)) → lookup own.text d.names ≡ None →
      (is_port k.port ≡ true → is_some (lookup own.text bracketed) ≡ true) → Lists (with_signal k own (declared_words seen k own) start d)
  lists_more seen k own start d l p new b =
      let e : Entity = entity.Signal (length d.list) None false in
      record {
        kept = λ n y h. with_stays d.names own.text n y e (l.kept n y h);
        placed = one_more (λ i y. lookup y.signal.name (with_name d.names own.text e) ≡ Some (entity.Signal i None false)) d.list x
            (λ i m. with_stays d.names own.text (declared_at d.list i).signal.name (entity.Signal i None false) e (l.placed i m)) (with_new d.names own.text e new);
        named = λ n id range signed h. named_by n id range signed (with_cases d.names n own.text (entity.Signal id range signed) e h);
        true_of = one_more (λ i y. P (y.signal.name, is_some y.words)) d.list x l.true_of p;
        ported = one_more (λ i y. is_port y.signal.port ≡ true → is_some (lookup y.signal.name bracketed) ≡ true) d.list x l.ported b;
        single = one_more (λ i y. y.again ≡ true → y.words ≡ None) d.list x l.single (λ h. again_single seen k own h);
        worded = one_more (λ i y. IsWorded y) d.list x l.worded (refl, words_fit seen k own (signal_of d.instance k own start) refl refl);
      }
    where
      x : Declared
      x = record { signal = signal_of d.instance k own start; words = declared_words seen k own; again = is_port k.port && not k.variable }

      same_id : (id place : ℕ) (range : Option (ℕ × ℕ)) (signed : Bool) → entity.Signal id range signed ≡ entity.Signal place None false → id ≡ place
      same_id id place range signed e = cc

      named_by : (n : Text) (id : ℕ) (range : Option (ℕ × ℕ)) (signed : Bool) → (lookup n d.names ≡ Some (entity.Signal id range signed)) ⊎ ((n ≡ own.text) × (entity.Signal id range signed ≡ entity.Signal (length d.list) None false)) →
          (id < length (d.list ++ x ∷ [])) × ((declared_at (d.list ++ x ∷ []) id).signal.name ≡ n)
      named_by n id range signed (inl a) =
          let q = l.named n id range signed a in
          (omega (arith, q.0, length-append d.list (x ∷ [])), ap (λ (y : Declared). y.signal.name) (get_or_append_left d.list (x ∷ []) no_declared id q.0) ∙ q.1)
      named_by n id range signed (inr c) =
          let s : id ≡ length d.list = same_id id (length d.list) range signed c.1 in
          (omega (arith, s, length-append d.list (x ∷ [])), ap (λ (y : Declared). y.signal.name) (last_there d.list x id s) ∙ sym c.0)

  longer_more : (k : Declaration) (own : DeclaredName) (words : Option (ℕ × ℕ)) (start : ℕ) (d : Declarations) → Longer d (with_signal k own words start d)
  longer_more k own words start d =
      let x : Declared = record { signal = signal_of d.instance k own start; words = words; again = is_port k.port && not k.variable } in
      record {
        found = λ n y h. with_stays d.names own.text n y (entity.Signal (length d.list) None false) h;
        long = omega (arith, length-append d.list (x ∷ []));
        port = λ p m. ap (λ (y : Declared). y.signal.port) (get_or_append_left d.list (x ∷ []) no_declared p m);
        words = λ p m. ap (λ (y : Declared). y.words) (get_or_append_left d.list (x ∷ []) no_declared p m);
      }

  -- what a step says of its name
  pub record One (repeats : Bool) (goes : Port) (name : Text) (memory : Bool) (d t : Declarations) : Type 0 where
    pub lists : Lists t
    pub longer : Longer d t
    pub has : Has t name memory
    pub port : repeats ≡ false → is_port goes ≡ true → HasPort t name
    pub way : repeats ≡ false → HasWay t name goes
    pub new : repeats ≡ false → lookup name d.names ≡ None

  port_checked : (b c : Bool) → (b && c) ≡ false → b ≡ true → c ≡ false
  port_checked true c h e = h
  port_checked false c h e = absurd (both_ways false refl e)

  one_new : (seen : Names) (k : Declaration) (own : DeclaredName) (d t : Declarations) → Lists d → P (own.text, is_some (indices k own)) → declare_new bracketed seen k own d ≡ Ok t → One k.repeats k.port own.text (is_some (indices k own)) d t
  one_new seen k own d t l p e =
      let fs : List FlatFault = fault_if (is_some (lookup own.text d.names)) (NameTwice own.token) in
      let gs : List FlatFault = fault_if (is_port k.port && is_none (lookup own.text bracketed)) (UnknownName own.token) in
      let ws : List FlatFault = faults_in (range_in seen (indices k own)) in
      let rest : List FlatFault = width_faults own.token k.range ++ start_faults seen (starting k own) in
      let s = new_is bracketed seen k own d t e in
      let new : lookup own.text d.names ≡ None = is_none_of (lookup own.text d.names) (not_if (is_some (lookup own.text d.names)) (NameTwice own.token) (nil_left fs (gs ++ (ws ++ rest)) s.faults)) in
      let others : gs ++ (ws ++ rest) ≡ [] = nil_right fs (gs ++ (ws ++ rest)) s.faults in
      let sort : is_some (declared_words seen k own) ≡ is_some (indices k own) = range_words seen (indices k own) (nil_left ws rest (nil_right gs (ws ++ rest) others)) in
      let b : is_port k.port ≡ true → is_some (lookup own.text bracketed) ≡ true =
      λ h. there_of (lookup own.text bracketed) (port_checked (is_port k.port) (is_none (lookup own.text bracketed)) (not_if (is_port k.port && is_none (lookup own.text bracketed)) (UnknownName own.token) (nil_left gs (ws ++ rest) others)) h) in
      subst (One k.repeats k.port own.text (is_some (indices k own)) d) s.is (made new b sort)
    where
      start : ℕ
      start = start_or seen (range_width k.range) 0 (starting k own)

      x : Declared
      x = record { signal = signal_of d.instance k own start; words = declared_words seen k own; again = is_port k.port && not k.variable }

      made : lookup own.text d.names ≡ None → (is_port k.port ≡ true → is_some (lookup own.text bracketed) ≡ true) → is_some (declared_words seen k own) ≡ is_some (indices k own) →
          One k.repeats k.port own.text (is_some (indices k own)) d (with_signal k own (declared_words seen k own) start d)
      made new b sort =
          let f : lookup own.text (with_name d.names own.text (entity.Signal (length d.list) None false)) ≡ Some (entity.Signal (length d.list) None false) = with_new d.names own.text (entity.Signal (length d.list) None false) new in
          record {
            lists = lists_more seen k own start d l (subst (λ (b : Bool). P (own.text, b)) (sym sort) p) new b;
            longer = longer_more k own (declared_words seen k own) start d;
            has = record {
              place = length d.list;
              there = omega (arith, length-append d.list (x ∷ []));
              found = f;
              sort = ap (λ (y : Declared). is_some y.words) (last_there d.list x (length d.list) refl) ∙ sort;
            };
            port = λ r h. record {
              place = length d.list;
              there = omega (arith, length-append d.list (x ∷ []));
              found = f;
              port = subst (λ (y : Declared). is_port y.signal.port ≡ true) (sym (last_there d.list x (length d.list) refl)) h;
            };
            way = λ r. record {
              place = length d.list;
              there = omega (arith, length-append d.list (x ∷ []));
              found = f;
              goes = ap (λ (y : Declared). y.signal.port) (last_there d.list x (length d.list) refl);
            };
            new = λ r. new;
          }

  one_again : (seen : Names) (k : Declaration) (own : DeclaredName) (place : ℕ) (d t : Declarations) → Lists d → declare_again seen k own place d ≡ Ok t → (k.repeats && is_none own.words) ≡ true → lookup own.text d.names ≡ Some (entity.Signal place None false) →
      (declared_at d.list place).again ≡ true → One k.repeats k.port own.text (is_some (indices k own)) d t
  unfolding declare_again
  one_again seen k own place d t l e r f again =
      subst (One k.repeats k.port own.text (is_some (indices k own)) d)
      (settled (fault_if (not (is_same_range (declared_at d.list place).signal.range k.range)) (BadRange own.token) ++ start_faults seen (starting k own)) (record d { list = slice_set d.list place (redeclared k (start_again seen (starting k own) (declared_at d.list place)) (declared_at d.list place)) }) t e).1 made
    where
      x : Declared
      x = redeclared k (start_again seen (starting k own) (declared_at d.list place)) (declared_at d.list place)

      repeats : k.repeats ≡ true
      repeats = (and_parts k.repeats (is_none own.words) r).0

      there : place < length d.list
      there = (l.named own.text place None false f).0

      sort : is_some (indices k own) ≡ false
      sort = ap (λ (o : Option Range). is_some o) (no_indices k own (none_is own.words (and_parts k.repeats (is_none own.words) r).1))

      made : One k.repeats k.port own.text (is_some (indices k own)) d (record d { list = slice_set d.list place (redeclared k (start_again seen (starting k own) (declared_at d.list place)) (declared_at d.list place)) })
      made = record {
        lists = record {
          kept = l.kept;
          placed = one_set (λ i y. lookup y.signal.name d.names ≡ Some (entity.Signal i None false)) d.list place x l.placed (λ m. l.placed place m);
          named = λ n id range signed h.
              let q = l.named n id range signed h in (
                omega (arith, q.0, length-set d.list place x),
                one_set (λ i y. lookup n d.names ≡ Some (entity.Signal i range signed) → y.signal.name ≡ n) d.list place x (λ i m g. (l.named n i range signed g).1) (λ m g. (l.named n place range signed g).1) id
                    (omega (arith, q.0, length-set d.list place x)) h,
              );
          true_of = one_set (λ i y. P (y.signal.name, is_some y.words)) d.list place x l.true_of
              (λ m. subst (λ (w : Option (ℕ × ℕ)). P ((declared_at d.list place).signal.name, is_some w)) (l.single place m again) (l.true_of place m));
          ported = one_set (λ i y. is_port y.signal.port ≡ true → is_some (lookup y.signal.name bracketed) ≡ true) d.list place x l.ported (λ m. l.ported place m);
          single = one_set (λ i y. y.again ≡ true → y.words ≡ None) d.list place x l.single (λ m h. refl);
          worded = one_set (λ i y. IsWorded y) d.list place x l.worded (λ m. ((l.worded place m).0, tt));
        };
        longer = record {
          found = λ n y h. h;
          long = omega (arith, length-set d.list place x);
          port = λ p m. one_set (λ i y. y.signal.port ≡ (declared_at d.list i).signal.port) d.list place x (λ i a. refl) (λ a. refl) p (omega (arith, m, length-set d.list place x));
          words = λ p m. one_set (λ i y. y.words ≡ (declared_at d.list i).words) d.list place x (λ i a. refl) (λ a. sym (l.single place a again)) p (omega (arith, m, length-set d.list place x));
        };
        has = record {
          place = place;
          there = omega (arith, there, length-set d.list place x);
          found = f;
          sort = ap (λ (y : Declared). is_some y.words) (get_or-set_same d.list place x no_declared there) ∙ sym sort;
        };
        port = λ no. absurd (both_ways k.repeats no repeats);
        way = λ no. absurd (both_ways k.repeats no repeats);
        new = λ no. absurd (both_ways k.repeats no repeats);
      }

  -- a place comes only from a signal that may be declared once more
  from_place : (repeats : Bool) (o : Option Entity) (list : List Declared) (place : ℕ) → repeated_place repeats (again_place o list) ≡ Some place →
      (repeats ≡ true) × ((range : Option (ℕ × ℕ)) × ((signed : Bool) × ((o ≡ Some (entity.Signal place range signed)) × ((declared_at list place).again ≡ true))))
  from_place false o list place h = absurd (none_some place h)
  from_place true None list place h = absurd (none_some place h)
  from_place true (Some (entity.Constant bits signed)) list place h = absurd (none_some place h)
  from_place true (Some (entity.Signal id range signed)) list place h = by (declared_at list id).again refl h
    where
      by : (b : Bool) → (declared_at list id).again ≡ b → (if b then Some id else None) ≡ Some place →
          (true ≡ true) × ((r : Option (ℕ × ℕ)) × ((s : Bool) × ((Some (entity.Signal id range signed) ≡ Some (entity.Signal place r s)) × ((declared_at list place).again ≡ true))))
      by true a q =
          let same : id ≡ place = some_is id place q in
          (refl, (range, (signed, (ap (λ (i : ℕ). Some (entity.Signal i range signed)) same, subst (λ (i : ℕ). (declared_at list i).again ≡ true) same a))))
      by false a q = absurd (none_some place q)
  from_place true (Some (entity.Memory first low words range signed)) list place h = absurd (none_some place h)
  from_place true (Some entity.Instance) list place h = absurd (none_some place h)

  -- signals among the names have no range yet
  plain_found : (d : Declarations) (name : Text) (place : ℕ) (range : Option (ℕ × ℕ)) (signed : Bool) → Lists d → lookup name d.names ≡ Some (entity.Signal place range signed) → lookup name d.names ≡ Some (entity.Signal place None false)
  plain_found d name place range signed l h =
      let q = l.named name place range signed h in
      subst (λ (n : Text). lookup n d.names ≡ Some (entity.Signal place None false)) q.1 (l.placed place q.0)

  one_at : (seen : Names) (k : Declaration) (own : DeclaredName) (d t : Declarations) → Lists d → P (own.text, is_some (indices k own)) → (o : Option ℕ) → declare_at bracketed seen k own d o ≡ Ok t →
      repeated_place (k.repeats && is_none own.words) (again_place (lookup own.text d.names) d.list) ≡ o → One k.repeats k.port own.text (is_some (indices k own)) d t
  one_at seen k own d t l p None e q = one_new seen k own d t l p e
  one_at seen k own d t l p (Some place) e q =
      let f = from_place (k.repeats && is_none own.words) (lookup own.text d.names) d.list place q in
      one_again seen k own place d t l e f.0 (plain_found d own.text place f.1.0 f.1.1.0 l f.1.1.1.0) f.1.1.1.1

  one : (seen : Names) (k : Declaration) (own : DeclaredName) (d t : Declarations) → Lists d → P (own.text, is_some (indices k own)) → declare bracketed seen k own d ≡ Ok t → One k.repeats k.port own.text (is_some (indices k own)) d t
  unfolding declare
  one seen k own d t l p e = one_at seen k own d t l p (repeated_place (k.repeats && is_none own.words) (again_place (lookup own.text d.names) d.list)) e refl

  -- a net or a variable, and a port
  done_inner : (seen : Names) (k : Declaration) (own : DeclaredName) (d t : Declarations) → Lists d → P (own.text, is_some (indices k own)) → declare bracketed seen k own d ≡ Ok t → Done ((own.text, is_some (indices k own)) ∷ []) [] [] d t
  done_inner seen k own d t l p e =
      let o = one seen k own d t l p e in
      record {
        lists = o.lists;
        longer = o.longer;
        has = λ z c. by z (there_cases (own.text, is_some (indices k own)) [] z c) o.has;
        port = λ n c. absurd (nowhere n c);
        way = λ n w c. absurd (nowhere (n, w) c);
        new = λ n c. absurd (nowhere n c);
        apart = tt;
      }
    where
      by : (z : Text × Bool) → ((own.text, is_some (indices k own)) ≡ z) ⊎ Contains [] z → Has t own.text (is_some (indices k own)) → Has t z.0 z.1
      by z (inl q) h = subst (λ (y : Text × Bool). Has t y.0 y.1) q h
      by z (inr c) h = absurd (nowhere z c)

  done_port : (seen : Names) (k : Declaration) (own : DeclaredName) (d t : Declarations) → Lists d → P (own.text, false) → declare bracketed seen k own d ≡ Ok t → k.repeats ≡ false → is_port k.port ≡ true →
      Done ((own.text, false) ∷ []) (own.text ∷ []) ((own.text, k.port) ∷ []) d t
  done_port seen k own d t l p e r i =
      let sort : is_some (indices k own) ≡ false = ap (λ (o : Option Range). is_some o) (port_indices k own i) in
      let o = one seen k own d t l (subst (λ (b : Bool). P (own.text, b)) (sym sort) p) e in
      record {
        lists = o.lists;
        longer = o.longer;
        has = λ z c. sorted_by z (there_cases (own.text, false) [] z c) (subst (Has t own.text) sort o.has);
        port = λ n c. by (HasPort t) n (there_cases own.text [] n c) (o.port r i);
        way = λ n w c. elim (there_cases (own.text, k.port) [] (n, w) c) [ inl q ↦ subst (λ (z : Text × Port). HasWay t z.0 z.1) q (o.way r) | inr z ↦ absurd (nowhere (n, w) z) ];
        new = λ n c. by (λ m. lookup m d.names ≡ None) n (there_cases own.text [] n c) (o.new r);
        apart = (λ c. nowhere own.text c, tt);
      }
    where
      by : (Q : Text → Type 0) (n : Text) → (own.text ≡ n) ⊎ Contains [] n → Q own.text → Q n
      by Q n (inl q) h = subst Q q h
      by Q n (inr c) h = absurd (nowhere n c)

      sorted_by : (z : Text × Bool) → ((own.text, false) ≡ z) ⊎ Contains [] z → Has t own.text false → Has t z.0 z.1
      sorted_by z (inl q) h = subst (λ (y : Text × Bool). Has t y.0 y.1) q h
      sorted_by z (inr c) h = absurd (nowhere z c)

  -- Lists of declarations

  pub each_done : {X : Type 0} (alls : X → List (Text × Bool)) (ports : X → List Text) (ways : X → List (Text × Port)) (step : X → Declarations → Result Declarations FlatFault) →
      ((x : X) (d t : Declarations) → Lists d → ((z : Text × Bool) → Contains (alls x) z → P z) → step x d ≡ Ok t → Done (alls x) (ports x) (ways x) d t) →
      (xs : List X) (d t : Declarations) → Lists d → AllByRecursion (λ x. (z : Text × Bool) → Contains (alls x) z → P z) xs → each step xs d ≡ Ok t → Done (flat_map alls xs) (flat_map ports xs) (flat_map ways xs) d t
  unfolding each
  each_done alls ports ways step k [] d t l b e = subst (Done [] [] [] d) (ok_is d t e) (done_none d l)
  each_done alls ports ways step k (x ∷ xs) d t l b e =
      let r = first_ok (step x d) (each step xs) t e in
      let o = k x d r.0 l b.0 r.1.0 in
      done_twice (alls x) (flat_map alls xs) (ports x) (flat_map ports xs) (ways x) (flat_map ways xs) d r.0 t o (each_done alls ports ways step k xs r.0 t o.lists b.1 r.1.1)

  -- each of the names has what the names of the list have
  each_of : {X : Type 0} (f : X → Text × Bool) (xs : List X) → ((z : Text × Bool) → Contains (map f xs) z → P z) → AllByRecursion (λ x. (z : Text × Bool) → Contains (f x ∷ []) z → P z) xs
  each_of f [] h = tt
  each_of f (x ∷ xs) h = (λ z c. by z (there_cases (f x) [] z c), each_of f xs (λ z c. h z (later (f x) (map f xs) z c)))
    where
      by : (z : Text × Bool) → (f x ≡ z) ⊎ Contains [] z → P z
      by z (inl q) = subst P q (h (f x) (here (f x) (map f xs)))
      by z (inr c) = absurd (nowhere z c)

  -- nets and variables
  done_inners : {X : Type 0} (f : X → Text × Bool) (step : X → Declarations → Result Declarations FlatFault) → ((x : X) (d t : Declarations) → Lists d → P (f x) → step x d ≡ Ok t → Done (f x ∷ []) [] [] d t) →
      (xs : List X) (d t : Declarations) → Lists d → ((z : Text × Bool) → Contains (map f xs) z → P z) → each step xs d ≡ Ok t → Done (map f xs) [] [] d t
  done_inners f step k xs d t l h e =
      let o = each_done (λ x. f x ∷ []) (λ x. none_of Text) (λ x. none_of (Text × Port)) step (λ x s u m q g. k x s u m (q (f x) (here (f x) [])) g) xs d t l (each_of f xs h) e in
      subst (λ ns. Done ns [] [] d t) (flat_map_single f xs)
      (subst (λ ps. Done (flat_map (λ x. f x ∷ []) xs) ps [] d t) (flat_none xs) (subst (λ ws. Done (flat_map (λ x. f x ∷ []) xs) (flat_map (λ x. none_of Text) xs) ws d t) (flat_none xs) o))

  ways_are : (way : Port) (list : List DeclaredName) → map (λ (i : DeclaredName). with_way way i.text) list ≡ map (with_way way) (names_of list)
  ways_are way [] = refl
  ways_are way (i ∷ is) = ap (λ (z : List (Text × Port)). (i.text, way) ∷ z) (ways_are way is)

  pub done_ports : (seen : Names) (p : PortDeclaration) (d t : Declarations) → Lists d → ((z : Text × Bool) → Contains (map single p.names) z → P z) → declare_ports bracketed seen p d ≡ Ok t → Done (map single p.names) (ports_by p) (ways_by p) d t
  unfolding declare_ports
  done_ports seen p d t l h e =
      let r = first_ok (range_in seen p.range) (λ range. each (declare bracketed seen (port_declaration p range)) p.names d) t e in
      let k = port_declaration p r.0 in
      let o = each_done (λ i. single i ∷ []) (λ i. i.text ∷ []) (λ i. with_way (port_of p.dir) i.text ∷ []) (declare bracketed seen k) (λ i s u m q g. done_port seen k i s u m (q (single i) (here (single i) [])) g refl (port_is p.dir)) p.names d t l
      (each_of single p.names h) r.1.1 in
      subst (λ ws. Done (map single p.names) (ports_by p) ws d t) (flat_map_single (λ (i : DeclaredName). with_way (port_of p.dir) i.text) p.names ∙ ways_are (port_of p.dir) p.names)
      (subst (λ ns. Done (map single p.names) ns (flat_map (λ (i : DeclaredName). with_way (port_of p.dir) i.text ∷ []) p.names) d t) (flat_map_single (λ (i : DeclaredName). i.text) p.names)
      (subst (λ zs. Done zs (flat_map (λ (i : DeclaredName). i.text ∷ []) p.names) (flat_map (λ (i : DeclaredName). with_way (port_of p.dir) i.text ∷ []) p.names) d t) (flat_map_single single p.names) o))

  pub done_item : (seen : Names) (x : ModuleItem) (d t : Declarations) → Lists d → ((z : Text × Bool) → Contains (sorts_by x) z → P z) → declare_item bracketed seen x d ≡ Ok t → Done (sorts_by x) (item_ports x) (item_ways x) d t
  unfolding declare_item declare_nets declare_variables
  done_item seen (Ports p) d t l h e = done_ports seen p d t l h e
  done_item seen (Nets signed range list) d t l h e =
      let r = first_ok (range_in seen range) (λ q. each (declare bracketed seen (inner_declaration false signed q)) list d) t e in
      done_inners single (declare bracketed seen (inner_declaration false signed r.0)) (λ n s u m q g. done_inner seen (inner_declaration false signed r.0) n s u m q g) list d t l h r.1.1
  done_item seen (Variables signed range list) d t l h e =
      let r = first_ok (range_in seen range) (λ q. each (declare bracketed seen (inner_declaration true signed q)) list d) t e in
      done_inners sorted (declare bracketed seen (inner_declaration true signed r.0)) (λ n s u m q g. done_inner seen (inner_declaration true signed r.0) n s u m q g) list d t l h r.1.1
  done_item seen (Integers list) d t l h e =
      done_inners single_integer (declare_integer bracketed seen) (λ n s u m q g. done_inner seen integer_declaration (integer_name n) s u m q g) list d t l h e
  done_item seen (Parameters p) d t l h e = subst (Done [] [] [] d) (ok_is d t e) (done_none d l)
  done_item seen (Assigns pairs) d t l h e = subst (Done [] [] [] d) (ok_is d t e) (done_none d l)
  done_item seen (Always events body token) d t l h e = subst (Done [] [] [] d) (ok_is d t e) (done_none d l)
  done_item seen (Initial body token) d t l h e = subst (Done [] [] [] d) (ok_is d t e) (done_none d l)
  done_item seen (Instances m token overrides list) d t l h e = subst (Done [] [] [] d) (ok_is d t e) (done_none d l)
