-- The signals and the names of an instance that opens.
use Rattle.std.proofs.Common.{◌≡◌, ◌∙◌, sym, ap, ◌⊎◌, inl, inr, ℕ, zero, suc, ◌+◌, ◌<◌, Bool, true, false, List, [], ◌∷◌, ◌++◌, length, map, fold, Option, Some, None, Ok, refl, arith, subst, is_some, is_none, if◌then◌else◌, nat_lt}
use Rattle.std.specs.Prelude.{option_to_list}
use Rattle.std.specs.List.{Contains, flat_map, AllByRecursion}
use Rattle.std.proofs.lemmas.Bool.{both_ways}
use Rattle.std.proofs.lemmas.List.{append-nil, append_assoc, map-append, get_or-map, length-map}
use Rattle.std.proofs.lemmas.List.Concat.{flat_map-append, flat_map_single}
use Rattle.std.proofs.lemmas.List.Elements.{Contains-append_left, Contains-append_right, Contains-append_cases}
use Rattle.std.proofs.lemmas.Option.{slice_get-get_or}
use Rattle.rr_syntax.specs.declared.tree.Dir.{Dir}
use Rattle.rr_syntax.specs.declared.tree.Dir.TheVariants as dir
use Rattle.rr_syntax.specs.Tree.{Identifier, DeclaredName, PortDeclaration, ModuleItem, Ports, Nets, Variables, Integers, Parameters, Assigns, Always, Initial, Instances, ModuleDeclaration}
use Rattle.rr_expr.specs.Scopes.{Names, lookup}
use Rattle.rr_expr.specs.declared.types.Entity.{Entity}
use Rattle.rr_expr.specs.declared.types.Entity.TheVariants as entity
use Rattle.rr_flat.specs.declared.fault.FlatFault.{FlatFault}
use Rattle.rr_flat.specs.declared.fault.FlatFault.TheVariants.{NameTwice, UnknownName, TooMany}
use Rattle.rr_flat.specs.declared.fault.Limit.TheVariants.{FlatBits}
use Rattle.rr_flat.specs.declared.signal.Port.{Port}
use Rattle.rr_flat.specs.Faults.{fault_if, first_fault_or, and_then, each}
use Rattle.rr_flat.specs.Signals.{Text, Signal, with_name}
use Rattle.rr_flat.proofs.Lists.{all_index}
use Rattle.rr_declarations.specs.Declarations.{Declared, Declarations, is_port, port_of, know, know_declarator, know_ports, know_port_item, known, plain_names, add_plain_name, brackets, no_declared, declared_at, declare_ports, declare_item, declarations}
use Rattle.rr_declarations.specs.Heads.{Head, named_declared, with_port, with_identifier, with_declarator, with_ports, with_inner, declared_in_order, joined, with_signals, numbered, declared, head}
use Rattle.rr_declarations.specs.Parameters.{parameters}
use Rattle.rr_flatten.proofs.HeadOf.{ok_is, first_ok, NoSignal, Entries, constants, head_of, all_append, all_weaker}
use Rattle.rr_flat_laws.specs.Declared.{texts_of, names_of, ports_by, HasDeclaration, way_of, single, sorts_by, DeclaresAs, plain_ports, ports_of}
use Rattle.rr_flat_laws.proofs.Answers.{nil_left, nil_right, not_if, settled}
use Rattle.rr_flat_laws.proofs.Declaring.{Has, HasPort, HasWay, Lists, done_twice, each_done, item_ports, with_way, ways_by, item_ways, done_ports, done_item}
use Rattle.rr_flat_laws.proofs.Texts.{some_is, none_some, nowhere, there_cases, here, later, all_in, in_map, in_flat, Distinct, distinct_append, distinct_left, distinct_apart, distinct_places, with_stays, with_new, with_cases, none_before, is_none_of, there_of, found_entry, some_with, known_from, nothing_known}
use Rattle.rr_flat_laws.proofs.Windows.{name_of, Window, HasWindow, AreNew, all_windows, Covered, all_covered}
use Rattle.rr_flat_laws.proofs.Words.{IsWorded}

-- The port brackets

pub plain_is : (header : Option (List Identifier)) → texts_of (plain_names header) ≡ plain_ports header
plain_is None = refl
plain_is (Some list) = refl

-- plain names are new, each once, and directed by an item
record Plain (directed : Names) (list : List Identifier) (names t : Names) : Type 0 where
  apart : Distinct (texts_of list)
  way : (n : Text) → Contains (texts_of list) n → is_some (lookup n directed) ≡ true
  new : (n : Text) → Contains (texts_of list) n → lookup n names ≡ None
  from : (n : Text) → is_some (lookup n t) ≡ true → (is_some (lookup n names) ≡ true) ⊎ Contains (texts_of list) n

plain_known : (directed : Names) (list : List Identifier) (names t : Names) → each (add_plain_name directed) list names ≡ Ok t → Plain directed list names t
unfolding each add_plain_name
plain_known directed [] names t e = record {
  apart = tt;
  way = λ n c. absurd (nowhere n c);
  new = λ n c. absurd (nowhere n c);
  from = λ n h. inl (subst (λ (z : Names). is_some (lookup n z) ≡ true) (sym (ok_is names t e)) h);
}
plain_known directed (i ∷ is) names t e =
    let y : Entity = entity.Signal 0 None false in
    let fs : List FlatFault = fault_if (is_some (lookup i.text names)) (NameTwice i.token) in
    let gs : List FlatFault = fault_if (is_none (lookup i.text directed)) (UnknownName i.token) in
    let r = first_ok (first_fault_or (fs ++ gs) (know names i.text)) (each (add_plain_name directed) is) t e in
    let s = settled (fs ++ gs) (know names i.text) r.0 r.1.0 in
    let new : lookup i.text names ≡ None = is_none_of (lookup i.text names) (not_if (is_some (lookup i.text names)) (NameTwice i.token) (nil_left fs gs s.0)) in
    let way : is_some (lookup i.text directed) ≡ true = there_of (lookup i.text directed) (not_if (is_none (lookup i.text directed)) (UnknownName i.token) (nil_right fs gs s.0)) in
    let rest = plain_known directed is r.0 t r.1.1 in
    let free : (n : Text) → Contains (texts_of is) n → lookup n (with_name names i.text y) ≡ None = λ n c. subst (λ (z : Names). lookup n z ≡ None) (sym s.1) (rest.new n c) in
    record {
      apart = (λ c. none_some y (sym (free i.text c) ∙ with_new names i.text y new), rest.apart);
      way = λ n c. elim (there_cases i.text (texts_of is) n c) [
        | inl q ↦ subst (λ m. is_some (lookup m directed) ≡ true) q way
        | inr k ↦ rest.way n k
      ];
      new = λ n c. elim (there_cases i.text (texts_of is) n c) [
        | inl q ↦ subst (λ m. lookup m names ≡ None) q new
        | inr k ↦ none_before names i.text n y (free n k)
      ];
      from = λ n h. elim (rest.from n h) [
        | inl a ↦ elim (some_with names n i.text y (subst (λ (z : Names). is_some (lookup n z) ≡ true) (sym s.1) a)) [
          | inl b ↦ inl b
          | inr q ↦ inr (subst (λ m. Contains (i.text ∷ texts_of is) m) (sym q) (here i.text (texts_of is)))
        ]
        | inr k ↦ inr (later i.text (texts_of is) n k)
      ];
    }

-- what the port brackets and the items make known

from_declarator : (names : Names) (x : DeclaredName) (n : Text) → is_some (lookup n (know_declarator names x)) ≡ true → (is_some (lookup n names) ≡ true) ⊎ Contains (x.text ∷ []) n
from_declarator names x n h = elim (some_with names n x.text (entity.Signal 0 None false) h) [
  | inl a ↦ inl a
  | inr q ↦ inr (subst (λ m. Contains (x.text ∷ []) m) (sym q) (here x.text []))
]

from_ports : (names : Names) (p : PortDeclaration) (n : Text) → is_some (lookup n (know_ports names p)) ≡ true → (is_some (lookup n names) ≡ true) ⊎ Contains (ports_by p) n
unfolding know_ports
from_ports names p n h = elim (known_from (λ (x : DeclaredName). x.text ∷ []) know_declarator from_declarator p.names names n h) [
  | inl a ↦ inl a
  | inr k ↦ inr (subst (λ ns. Contains ns n) (flat_map_single (λ (x : DeclaredName). x.text) p.names) k)
]

from_item : (names : Names) (x : ModuleItem) (n : Text) → is_some (lookup n (know_port_item names x)) ≡ true → (is_some (lookup n names) ≡ true) ⊎ Contains (item_ports x) n
unfolding know_port_item
from_item names (Ports p) n h = from_ports names p n h
from_item names (Nets signed range list) n h = inl h
from_item names (Variables signed range list) n h = inl h
from_item names (Integers list) n h = inl h
from_item names (Parameters p) n h = inl h
from_item names (Assigns pairs) n h = inl h
from_item names (Always events body token) n h = inl h
from_item names (Initial body token) n h = inl h
from_item names (Instances m token overrides list) n h = inl h

-- The declarations of a module

goes_way : (way : Dir) → port_of way ≡ way_of way
goes_way dir.Input = refl
goes_way dir.InputWire = refl
goes_way dir.Output = refl
goes_way dir.OutputWire = refl
goes_way dir.OutputReg = refl

-- a name that is declared with words or without
abbrev pub IsSorted : ModuleDeclaration → Text × Bool → Type 0
IsSorted m z = ((p : PortDeclaration) × (Contains m.groups p × Contains (map single p.names) z)) ⊎ ((x : ModuleItem) × (Contains m.items x × Contains (sorts_by x) z))

record Facts (m : ModuleDeclaration) (params : Names) (d : Declarations) : Type 0 where
  bracketed : Names
  constants : (n : Text) (place : ℕ) → lookup n params ≡ Some (entity.Signal place None false) → ⊥
  lists : Lists bracketed params (IsSorted m) d
  has : (n : Text) (memory : Bool) → DeclaresAs m memory n → Has d n memory
  port : (n : Text) → Contains (ports_of m) n → HasPort d n
  way : (p : PortDeclaration) (n : Text) → HasDeclaration m p → Contains (ports_by p) n → HasWay d n (way_of p.dir)
  apart : Distinct (ports_of m)
  listed : (p : ℕ) → p < length d.list → is_port (declared_at d.list p).signal.port ≡ true → Contains (ports_of m) (declared_at d.list p).signal.name

no_signal_found : (params : Names) (n : Text) (id : ℕ) (range : Option (ℕ × ℕ)) (signed : Bool) → Entries NoSignal params → lookup n params ≡ Some (entity.Signal id range signed) → ⊥
no_signal_found params n id range signed h e = found_entry NoSignal params n (entity.Signal id range signed) h e

no_list : (bracketed params : Names) (P : Text × Bool → Type 0) (i bits : ℕ) → Entries NoSignal params → Lists bracketed params P (record { instance = i; names = params; list = []; bits = bits })
no_list bracketed params P i bits h = record {
  kept = λ n x e. e;
  placed = λ p l. absurd (omega (arith, l));
  named = λ n id range signed e. absurd (no_signal_found params n id range signed h e);
  true_of = λ p l. absurd (omega (arith, l));
  ported = λ p l. absurd (omega (arith, l));
  single = λ p l. absurd (omega (arith, l));
  worded = λ p l. absurd (omega (arith, l));
}

facts : (i bits : ℕ) (m : ModuleDeclaration) (params : Names) (d : Declarations) → Entries NoSignal params → declared i bits m params ≡ Ok d → Facts m params d
unfolding declared declarations brackets
facts i bits m params d h e =
    let start : Declarations = record { instance = i; names = params; list = []; bits = bits } in
    let seen : Names = known m params in
    let directed : Names = fold know_port_item [] m.items in
    let groups : List Text = flat_map ports_by m.groups in
    let b = first_ok (and_then (each (add_plain_name directed) (plain_names m.header) []) (λ names. Ok (fold know_ports names m.groups))) (λ bracketed. declarations bracketed seen m start) d e in
    let g = first_ok (each (declare_ports b.0 seen) m.groups start) (each (declare_item b.0 seen) m.items) d b.1.1 in
    let sorts : List (Text × Bool) = flat_map (λ (p : PortDeclaration). map single p.names) m.groups in
    let x = each_done b.0 params (IsSorted m) (λ (p : PortDeclaration). map single p.names) ports_by ways_by (declare_ports b.0 seen) (done_ports b.0 params (IsSorted m) seen) m.groups start g.0 (no_list b.0 params (IsSorted m) i bits h)
    (all_in (λ p. (z : Text × Bool) → Contains (map single p.names) z → IsSorted m z) m.groups (λ p c n k. inl (p, (c, k)))) g.1.0 in
    let y = each_done b.0 params (IsSorted m) sorts_by item_ports item_ways (declare_item b.0 seen) (done_item b.0 params (IsSorted m) seen) m.items g.0 d x.lists
    (all_in (λ y. (z : Text × Bool) → Contains (sorts_by y) z → IsSorted m z) m.items (λ z c n k. inr (z, (c, k)))) g.1.1 in
    let z = done_twice b.0 params (IsSorted m) sorts (flat_map sorts_by m.items) groups (flat_map item_ports m.items) (flat_map ways_by m.groups) (flat_map item_ways m.items) start g.0 d x y in
    let k = first_ok (each (add_plain_name directed) (plain_names m.header) []) (λ names. Ok (fold know_ports names m.groups)) b.0 b.1.0 in
    let p = plain_known directed (plain_names m.header) [] k.0 k.1.0 in
    let same : fold know_ports k.0 m.groups ≡ b.0 = ok_is (fold know_ports k.0 m.groups) b.0 k.1.1 in
    let pp = plain_is m.header in
    let of_item : (n : Text) → Contains (plain_ports m.header) n → Contains (flat_map item_ports m.items) n =
    λ n c. elim (known_from item_ports know_port_item from_item m.items [] n (p.way n (subst (λ ns. Contains ns n) (sym pp) c))) [ inl a ↦ absurd (nothing_known n a) | inr q ↦ q ] in
    record {
      bracketed = b.0;
      constants = λ n place q. no_signal_found params n place None false h q;
      lists = y.lists;
      has = λ n memory c. elim c [
        | inl a ↦ z.has (n, memory) (Contains-append_left sorts (flat_map sorts_by m.items) (n, memory) (in_flat (λ (p : PortDeclaration). map single p.names) m.groups a.0 (n, memory) a.1.0 a.1.1))
        | inr a ↦ z.has (n, memory) (Contains-append_right sorts (flat_map sorts_by m.items) (n, memory) (in_flat sorts_by m.items a.0 (n, memory) a.1.0 a.1.1))
      ];
      port = λ n c. elim (Contains-append_cases (plain_ports m.header) groups n c) [
        | inl a ↦ z.port n (Contains-append_right groups (flat_map item_ports m.items) n (of_item n a))
        | inr a ↦ z.port n (Contains-append_left groups (flat_map item_ports m.items) n a)
      ];
      way = λ q n c k. subst (HasWay d n) (goes_way q.dir) (elim c [
        | inl a ↦ z.way n (port_of q.dir) (Contains-append_left (flat_map ways_by m.groups) (flat_map item_ways m.items) (n, port_of q.dir) (in_flat ways_by m.groups q (n, port_of q.dir) a (in_map (with_way (port_of q.dir)) (ports_by q) n k)))
        | inr a ↦ z.way n (port_of q.dir) (Contains-append_right (flat_map ways_by m.groups) (flat_map item_ways m.items) (n, port_of q.dir) (in_flat item_ways m.items (Ports q) (n, port_of q.dir) a (in_map (with_way (port_of q.dir)) (ports_by q) n k)))
      ]);
      apart = distinct_append (plain_ports m.header) groups (subst Distinct pp p.apart) (distinct_left groups (flat_map item_ports m.items) z.apart)
          (λ n a c. distinct_apart groups (flat_map item_ports m.items) n z.apart c (of_item n a));
      listed = λ q l c. by p pp (declared_at d.list q).signal.name
          (known_from ports_by know_ports from_ports m.groups k.0 (declared_at d.list q).signal.name (subst (λ (w : Names). is_some (lookup (declared_at d.list q).signal.name w) ≡ true) (sym same) (y.lists.ported q l c)));
    }
  where
    by : {directed t : Names} → Plain directed (plain_names m.header) [] t → texts_of (plain_names m.header) ≡ plain_ports m.header → (n : Text) → (is_some (lookup n t) ≡ true) ⊎ Contains (flat_map ports_by m.groups) n →
        Contains (ports_of m) n
    by p pp n (inl a) = elim (p.from n a) [
      | inl b ↦ absurd (nothing_known n b)
      | inr k ↦ Contains-append_left (plain_ports m.header) (flat_map ports_by m.groups) n (subst (λ ns. Contains ns n) pp k)
    ]
    by p pp n (inr k) = Contains-append_right (plain_ports m.header) (flat_map ports_by m.groups) n k

-- The declarations in order

abbrev one_port : Declarations → Text → List Declared
one_port d n = option_to_list (named_declared d.list (lookup n d.names))

abbrev one_inner : Declared → List Declared
one_inner x = if is_port x.signal.port then [] else x ∷ []

fold_identifiers : (d : Declarations) (list : List Identifier) (acc : List Declared) → fold (with_identifier d) acc list ≡ acc ++ flat_map (one_port d) (texts_of list)
unfolding with_port
fold_identifiers d [] acc = sym (append-nil acc)
fold_identifiers d (i ∷ is) acc = fold_identifiers d is (acc ++ one_port d i.text) ∙ append_assoc acc (one_port d i.text) (flat_map (one_port d) (texts_of is))

fold_declarators : (d : Declarations) (list : List DeclaredName) (acc : List Declared) → fold (with_declarator d) acc list ≡ acc ++ flat_map (one_port d) (names_of list)
unfolding with_port
fold_declarators d [] acc = sym (append-nil acc)
fold_declarators d (n ∷ ns) acc = fold_declarators d ns (acc ++ one_port d n.text) ∙ append_assoc acc (one_port d n.text) (flat_map (one_port d) (names_of ns))

fold_groups : (d : Declarations) (groups : List PortDeclaration) (acc : List Declared) → fold (with_ports d) acc groups ≡ acc ++ flat_map (one_port d) (flat_map ports_by groups)
unfolding with_ports
fold_groups d [] acc = sym (append-nil acc)
fold_groups d (p ∷ ps) acc =
    fold_groups d ps (fold (with_declarator d) acc p.names)
    ∙ (ap (λ (z : List Declared). z ++ flat_map (one_port d) (flat_map ports_by ps)) (fold_declarators d p.names acc)
    ∙ (append_assoc acc (flat_map (one_port d) (ports_by p)) (flat_map (one_port d) (flat_map ports_by ps))
    ∙ ap (λ (z : List Declared). acc ++ z) (sym (flat_map-append (one_port d) (ports_by p) (flat_map ports_by ps)))))

inner_is : (b : Bool) (acc : List Declared) (x : Declared) → (if b then acc else acc ++ x ∷ []) ≡ acc ++ (if b then [] else x ∷ [])
inner_is true acc x = sym (append-nil acc)
inner_is false acc x = refl

fold_inner : (list : List Declared) (acc : List Declared) → fold with_inner acc list ≡ acc ++ flat_map one_inner list
unfolding with_inner
fold_inner [] acc = sym (append-nil acc)
fold_inner (x ∷ xs) acc =
    fold_inner xs (if is_port x.signal.port then acc else acc ++ x ∷ [])
    ∙ (ap (λ (z : List Declared). z ++ flat_map one_inner xs) (inner_is (is_port x.signal.port) acc x) ∙ append_assoc acc (one_inner x) (flat_map one_inner xs))

order_is : (m : ModuleDeclaration) (d : Declarations) → declared_in_order m d ≡ flat_map (one_port d) (ports_of m) ++ flat_map one_inner d.list
unfolding declared_in_order
order_is m d =
    fold_inner d.list (fold (with_ports d) (fold (with_identifier d) [] (plain_names m.header)) m.groups)
    ∙ ap (λ (z : List Declared). z ++ flat_map one_inner d.list)
    (fold_groups d m.groups (fold (with_identifier d) [] (plain_names m.header))
    ∙ (ap (λ (z : List Declared). z ++ flat_map (one_port d) (flat_map ports_by m.groups)) (fold_identifiers d (plain_names m.header) [] ∙ ap (λ ns. flat_map (one_port d) ns) (plain_is m.header))
    ∙ sym (flat_map-append (one_port d) (plain_ports m.header) (flat_map ports_by m.groups))))

-- the ports

one_port_is : (d : Declarations) (n : Text) (h : HasPort d n) → one_port d n ≡ declared_at d.list h.place ∷ []
one_port_is d n h = rw (h.found, slice_get-get_or d.list h.place no_declared h.there) refl

-- one of the list
record Listed (d : Declarations) (x : Declared) : Type 0 where
  place : ℕ
  there : place < length d.list
  is : x ≡ declared_at d.list place

record AsPorts (d : Declarations) (ns : List Text) (xs : List Declared) : Type 0 where
  names : map name_of xs ≡ ns
  ports : AllByRecursion (λ (x : Declared). is_port x.signal.port ≡ true) xs
  listed : AllByRecursion (Listed d) xs

as_ports : (bracketed params : Names) (P : Text × Bool → Type 0) (d : Declarations) → Lists bracketed params P d → (ns : List Text) → AllByRecursion (HasPort d) ns → AsPorts d ns (flat_map (one_port d) ns)
as_ports bracketed params P d l [] h = record { names = refl; ports = tt; listed = tt }
as_ports bracketed params P d l (n ∷ ns) h =
    let x : Declared = declared_at d.list h.0.place in
    let rest = as_ports bracketed params P d l ns h.1 in
    let e : x ∷ flat_map (one_port d) ns ≡ one_port d n ++ flat_map (one_port d) ns = ap (λ (z : List Declared). z ++ flat_map (one_port d) ns) (sym (one_port_is d n h.0)) in
    subst (AsPorts d (n ∷ ns)) e (record {
      names = (ap (λ (z : Text). z ∷ map name_of (flat_map (one_port d) ns)) (l.named n h.0.place None false h.0.found).1) ∙ ap (λ zs. n ∷ zs) rest.names;
      ports = (h.0.port, rest.ports);
      listed = (record { place = h.0.place; there = h.0.there; is = refl }, rest.listed);
    })

-- the others

record Inner (list : List Declared) (n : Text) : Type 0 where
  place : ℕ
  there : place < length list
  name : (declared_at list place).signal.name ≡ n
  port : is_port (declared_at list place).signal.port ≡ false

inner_later : (x : Declared) (xs : List Declared) (n : Text) → Inner xs n → Inner (x ∷ xs) n
inner_later x xs n h = record { place = suc h.place; there = (let l = h.there in omega (arith, l)); name = h.name; port = h.port }

inner_from : (list : List Declared) (n : Text) → Contains (map name_of (flat_map one_inner list)) n → Inner list n
inner_from [] n c = absurd (nowhere n c)
inner_from (x ∷ xs) n c = by (is_port x.signal.port) refl c (inner_from xs n)
  where
    by : (b : Bool) → is_port x.signal.port ≡ b → Contains (map name_of ((if b then [] else x ∷ []) ++ flat_map one_inner xs)) n → (Contains (map name_of (flat_map one_inner xs)) n → Inner xs n) → Inner (x ∷ xs) n
    by true q k more = inner_later x xs n (more k)
    by false q k more = elim (there_cases x.signal.name (map name_of (flat_map one_inner xs)) n k) [
      | inl e ↦ record { place = 0; there = omega arith; name = e; port = q }
      | inr r ↦ inner_later x xs n (more r)
    ]

inner_to : (list : List Declared) (p : ℕ) → p < length list → is_port (declared_at list p).signal.port ≡ false → Contains (map name_of (flat_map one_inner list)) (declared_at list p).signal.name
inner_to [] p l h = absurd (omega (arith, l))
inner_to (x ∷ xs) zero l h = rw h (here x.signal.name (map name_of (flat_map one_inner xs)))
inner_to (x ∷ xs) (suc p) l h = by (is_port x.signal.port) (inner_to xs p (omega (arith, l)) h)
  where
    n : Text
    n = (declared_at xs p).signal.name

    by : (b : Bool) → Contains (map name_of (flat_map one_inner xs)) n → Contains (map name_of ((if b then [] else x ∷ []) ++ flat_map one_inner xs)) n
    by true c = c
    by false c = later x.signal.name (map name_of (flat_map one_inner xs)) n c

inner_among : (list : List Declared) (n : Text) → Contains (map name_of (flat_map one_inner list)) n → Contains (map name_of list) n
inner_among list n c =
    let h = inner_from list n c in
    let l = h.there in
    let e = h.name in
    (h.place, omega (arith, l, length-map list name_of), get_or-map name_of list h.place no_declared n l ∙ e)

inner_apart : (list : List Declared) → Distinct (map name_of list) → Distinct (map name_of (flat_map one_inner list))
inner_apart [] h = tt
inner_apart (x ∷ xs) h = by (is_port x.signal.port) (inner_apart xs h.1)
  where
    by : (b : Bool) → Distinct (map name_of (flat_map one_inner xs)) → Distinct (map name_of ((if b then [] else x ∷ []) ++ flat_map one_inner xs))
    by true d = d
    by false d = (λ c. h.0 (inner_among xs x.signal.name c), d)

same_place : (p q : ℕ) → Some (entity.Signal p None false) ≡ Some (entity.Signal q None false) → p ≡ q
same_place p q e = cc

list_apart : (bracketed params : Names) (P : Text × Bool → Type 0) (d : Declarations) → Lists bracketed params P d → Distinct (map name_of d.list)
list_apart bracketed params P d l = distinct_places (map name_of d.list) (λ p q m n e.
    let k = length-map d.list name_of in
    let a : p < length d.list = omega (arith, m, k) in
    let b : q < length d.list = omega (arith, n, k) in
    let s : (declared_at d.list p).signal.name ≡ (declared_at d.list q).signal.name =
    sym (get_or-map name_of d.list p no_declared [] a) ∙ (e ∙ get_or-map name_of d.list q no_declared [] b) in
    same_place p q (sym (l.placed p a) ∙ (ap (λ (z : Text). lookup z d.names) s ∙ l.placed q b)))

-- The head

-- a declaration of the module
abbrev pub IsOne : ModuleDeclaration → Declared → Type 0
IsOne m x = DeclaresAs m (is_some x.words) x.signal.name × (is_port x.signal.port ≡ true → Contains (ports_of m) x.signal.name) × IsWorded x

-- the signals of a name that is declared so
pub record Standing (m : ModuleDeclaration) (base : ℕ) (h : Head) (n : Text) (E : Declared → Type 0) : Type 0 where
  pub item : Declared
  pub named : item.signal.name ≡ n
  pub so : E item
  pub one : IsOne m item
  pub start : ℕ
  pub window : Window h.signals h.scope base start item

-- an instance that opened: its signals, from number base on, are the names that its module declares, and its ports
pub record Opened (m : ModuleDeclaration) (i base : ℕ) (h : Head) : Type 0 where
  pub own : AllByRecursion (λ (s : Signal). s.instance ≡ i) h.signals
  pub covered : (j : ℕ) → j < length h.signals → Covered (IsOne m) h.signals h.scope base j
  pub has : (n : Text) (memory : Bool) → DeclaresAs m memory n → Standing m base h n (λ x. is_some x.words ≡ memory)
  pub port : (n : Text) → Contains (ports_of m) n → Standing m base h n (λ x. is_port x.signal.port ≡ true)
  pub way : (p : PortDeclaration) (n : Text) → HasDeclaration m p → Contains (ports_by p) n → Standing m base h n (λ x. x.signal.port ≡ way_of p.dir)
  pub apart : Distinct (ports_of m)

-- the place of a name
name_place : (xs : List Declared) (n : Text) → Contains (map name_of xs) n → (j : ℕ) × ((j < length xs) × ((declared_at xs j).signal.name ≡ n))
name_place xs n (j, l, e) =
    let m : j < length xs = omega (arith, l, length-map xs name_of) in
    (j, (m, sym (get_or-map name_of xs j no_declared n m) ∙ e))

inner_listed : (Q : Declared → Type 0) (list : List Declared) → ((x : Declared) → (place : ℕ) × ((place < length list) × (x ≡ declared_at list place)) → Q x) → AllByRecursion Q (flat_map one_inner list)
inner_listed Q [] h = tt
inner_listed Q (x ∷ xs) h = by (is_port x.signal.port) (inner_listed Q xs (λ s q. h s (suc q.0, (let l = q.1.0 in omega (arith, l), q.1.1))))
  where
    by : (b : Bool) → AllByRecursion Q (flat_map one_inner xs) → AllByRecursion Q ((if b then [] else x ∷ []) ++ flat_map one_inner xs)
    by true r = r
    by false r = (h x (0, (omega arith, refl)), r)

-- a declaration that has a name, and is so
abbrev HasPlace : List Declared → Text → (Declared → Type 0) → Type 0
HasPlace xs n E = (j : ℕ) × ((j < length xs) × (((declared_at xs j).signal.name ≡ n) × E (declared_at xs j)))

-- all declarations have names of their own, which no parameter has
record Numbered (m : ModuleDeclaration) (params : Names) (xs : List Declared) : Type 0 where
  new : AreNew xs params
  declared : AllByRecursion (IsOne m) xs
  has : (n : Text) (memory : Bool) → DeclaresAs m memory n → HasPlace xs n (λ x. is_some x.words ≡ memory)
  port : (n : Text) → Contains (ports_of m) n → HasPlace xs n (λ x. is_port x.signal.port ≡ true)
  way : (p : PortDeclaration) (n : Text) → HasDeclaration m p → Contains (ports_by p) n → HasPlace xs n (λ x. x.signal.port ≡ way_of p.dir)

-- of the ports in their order, then the others
module _ (m : ModuleDeclaration) (params : Names) (d : Declarations) (f : Facts m params d) (first : AsPorts d (ports_of m) (flat_map (one_port d) (ports_of m))) where
  abbrev ports : List Declared
  ports = flat_map (one_port d) (ports_of m)

  abbrev inners : List Declared
  inners = flat_map one_inner d.list

  abbrev inner_names : List Text
  inner_names = map name_of (flat_map one_inner d.list)

  names_are : map name_of (ports ++ inners) ≡ ports_of m ++ inner_names
  names_are = map-append name_of ports inners ∙ ap (λ ns. ns ++ inner_names) first.names

  inner_found : (n : Text) (k : Inner d.list n) → lookup n d.names ≡ Some (entity.Signal k.place None false)
  inner_found n k = ap (λ (z : Text). lookup z d.names) (sym k.name) ∙ f.lists.placed k.place k.there

  cross : (n : Text) → Contains (ports_of m) n → Contains inner_names n → ⊥
  cross n a b =
      let p = f.port n a in
      let k = inner_from d.list n b in
      let e : p.place ≡ k.place = same_place p.place k.place (sym p.found ∙ inner_found n k) in
      both_ways (is_port (declared_at d.list k.place).signal.port) k.port (subst (λ (i : ℕ). is_port (declared_at d.list i).signal.port ≡ true) e p.port)

  -- a name stands for a place
  abbrev HasFound : Text → Type 0
  HasFound n = (place : ℕ) × (lookup n d.names ≡ Some (entity.Signal place None false))

  in_list : (n : Text) → Contains (map name_of (ports ++ inners)) n → HasFound n
  in_list n c = elim (Contains-append_cases (ports_of m) inner_names n (subst (λ ns. Contains ns n) names_are c)) [
    | inl a ↦ let p = f.port n a in (p.place, p.found)
    | inr b ↦ let k = inner_from d.list n b in (k.place, inner_found n k)
  ]

  -- a name of a parameter would stand for a constant
  unparameter : (n : Text) → HasFound n → (o : Option Entity) → lookup n params ≡ o → o ≡ None
  unparameter n h None q = refl
  unparameter n h (Some x) q =
      let e : x ≡ entity.Signal h.0 None false = some_is x (entity.Signal h.0 None false) (sym (f.lists.kept n x q) ∙ h.1) in
      absurd (f.constants n h.0 (subst (λ (z : Entity). lookup n params ≡ Some z) e q))

  by_port : (place : ℕ) → place < length d.list → (b : Bool) → is_port (declared_at d.list place).signal.port ≡ b → Contains (ports_of m ++ inner_names) (declared_at d.list place).signal.name
  by_port place l true q = Contains-append_left (ports_of m) inner_names (declared_at d.list place).signal.name (f.listed place l q)
  by_port place l false q = Contains-append_right (ports_of m) inner_names (declared_at d.list place).signal.name (inner_to d.list place l q)

  either : (n : Text) → HasFound n → Contains (ports_of m ++ inner_names) n
  either n h =
      let k = f.lists.named n h.0 None false h.1 in
      subst (Contains (ports_of m ++ inner_names)) k.1 (by_port h.0 k.0 (is_port (declared_at d.list h.0).signal.port) refl)

  all_listed : AllByRecursion (Listed d) (ports ++ inners)
  all_listed = all_append (Listed d) ports inners first.listed (inner_listed (Listed d) d.list (λ s l. record { place = l.0; there = l.1.0; is = l.1.1 }))

  -- what has a name is the declaration for which it stands
  stands_at : (n : Text) (h : HasFound n) (j : ℕ) → j < length (ports ++ inners) → (declared_at (ports ++ inners) j).signal.name ≡ n → declared_at (ports ++ inners) j ≡ declared_at d.list h.0
  stands_at n h j l e =
      let q = all_index (Listed d) (ports ++ inners) j no_declared all_listed l in
      let f : lookup n d.names ≡ Some (entity.Signal q.place None false) = ap (λ (z : Text). lookup z d.names) (sym e ∙ ap name_of q.is) ∙ f.lists.placed q.place q.there in
      let s : q.place ≡ h.0 = same_place q.place h.0 (sym f ∙ h.1) in
      q.is ∙ ap (λ (i : ℕ). declared_at d.list i) s

  -- and is as that one is
  placed_so : (E : Declared → Type 0) (n : Text) (h : HasFound n) → E (declared_at d.list h.0) → HasPlace (ports ++ inners) n E
  placed_so E n h so =
      let q = name_place (ports ++ inners) n (subst (λ ns. Contains ns n) (sym names_are) (either n h)) in
      (q.0, (q.1.0, (q.1.1, subst E (sym (stands_at n h q.0 q.1.0 q.1.1)) so)))

  in_order : Numbered m params (ports ++ inners)
  in_order = record {
    new = record {
      apart = subst Distinct (sym names_are) (distinct_append (ports_of m) inner_names f.apart (inner_apart d.list (list_apart f.bracketed params (IsSorted m) d f.lists)) cross);
      new = λ n c. unparameter n (in_list n c) (lookup n params) refl;
    };
    declared = all_weaker (Listed d) (IsOne m) (ports ++ inners) (λ x q. subst (IsOne m) (sym q.is) (f.lists.true_of q.place q.there, f.listed q.place q.there, f.lists.worded q.place q.there)) all_listed;
    has = λ n memory c. let h = f.has n memory c in placed_so (λ x. is_some x.words ≡ memory) n (h.place, h.found) h.sort;
    way = λ p n c k. let h = f.way p n c k in placed_so (λ x. x.signal.port ≡ way_of p.dir) n (h.place, h.found) h.goes;
    port = λ n c. let h = f.port n c in placed_so (λ x. is_port x.signal.port ≡ true) n (h.place, h.found) h.port;
  }

-- the signals of a declaration that has a place
stands : (m : ModuleDeclaration) (base : ℕ) (h : Head) (xs : List Declared) (n : Text) (E : Declared → Type 0) → AllByRecursion (IsOne m) xs → AllByRecursion (HasWindow h.signals h.scope base) xs → HasPlace xs n E → Standing m base h n E
stands m base h xs n E one windows (j, (l, (e, so))) =
    let w = all_index (HasWindow h.signals h.scope base) xs j no_declared windows l in
    record { item = declared_at xs j; named = e; so = so; one = all_index (IsOne m) xs j no_declared one l; start = w.0; window = w.1 }

pub opened_head : (i base bits : ℕ) (given : Names) (m : ModuleDeclaration) (h : Head) → head i base bits given m ≡ Ok h → Opened m i base h
unfolding head numbered
opened_head i base bits given m h e =
    let r = first_ok (parameters given m) (λ names. and_then (declared i bits m names) (λ d. numbered i base d.bits (declared_in_order m d) names)) h e in
    let s = first_ok (declared i bits m r.0) (λ d. numbered i base d.bits (declared_in_order m d) r.0) h r.1.1 in
    let f = facts i bits m r.0 s.0 (constants given m r.0 r.1.0) s.1.0 in
    let first = as_ports f.bracketed r.0 (IsSorted m) s.0 f.lists (ports_of m) (all_in (HasPort s.0) (ports_of m) f.port) in
    let xs : List Declared = declared_in_order m s.0 in
    let n : Numbered m r.0 xs = subst (Numbered m r.0) (sym (order_is m s.0)) (in_order m r.0 s.0 f first) in
    let ss : List Signal = joined xs in
    let made : Head = record { instance = i; base = base; bits = s.0.bits; signals = ss; scope = with_signals base xs r.0 } in
    let is : made ≡ h = (settled (fault_if (nat_lt 65536 (base + length ss)) (TooMany FlatBits (base + length ss))) made h s.1.1).1 in
    let own : AllByRecursion (λ (z : Signal). z.instance ≡ i) ss = subst (λ (z : Head). AllByRecursion (λ (y : Signal). y.instance ≡ i) z.signals) (sym is) (head_of i base bits given m h e).signals in
    let windows : AllByRecursion (HasWindow made.signals made.scope base) xs = all_windows base xs r.0 n.new in
    subst (Opened m i base) is (record {
      own = own;
      covered = λ j l. all_covered (IsOne m) base xs r.0 n.new n.declared j l;
      has = λ t memory c. stands m base made xs t (λ x. is_some x.words ≡ memory) n.declared windows (n.has t memory c);
      port = λ t c. stands m base made xs t (λ x. is_port x.signal.port ≡ true) n.declared windows (n.port t c);
      way = λ p t c k. stands m base made xs t (λ x. x.signal.port ≡ way_of p.dir) n.declared windows (n.way p t c k);
      apart = f.apart;
    })
