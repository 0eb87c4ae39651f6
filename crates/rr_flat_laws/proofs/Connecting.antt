-- Connections without a fault name ports alone, and each once.
use Rattle.std.proofs.Common.{◌≡◌, ◌∙◌, sym, ap, ◌⊎◌, inl, inr, true, false, not, List, [], ◌∷◌, ◌++◌, map, fold, Option, Some, None, refl, subst, is_some, is_none}
use Rattle.std.specs.List.{Contains, flat_map}
use Rattle.std.proofs.lemmas.Bool.{both_ways}
use Rattle.std.proofs.lemmas.List.{append-nil, append_assoc}
use Rattle.rr_syntax.specs.Tree.{Tree, Trees, End, More, Identifier, DeclaredName, PortDeclaration, NamedConnection, Connections, Positions, ModuleDeclaration}
use Rattle.rr_syntax.specs.Tree.{Names as Named}
use Rattle.rr_expr.specs.Faults.{first}
use Rattle.rr_expr.specs.Scopes.{Names, lookup}
use Rattle.rr_expr.specs.declared.types.Entity.TheVariants as entity
use Rattle.rr_flat.specs.declared.fault.FlatFault.{FlatFault}
use Rattle.rr_flat.specs.declared.fault.FlatFault.TheVariants.{PortMismatch}
use Rattle.rr_flat.specs.Faults.{fault_if}
use Rattle.rr_flat.specs.Signals.{Text}
use Rattle.rr_declarations.specs.Declarations.{plain_names}
use Rattle.rr_flatten.specs.Tables.{add_port_name, add_declarator_name, add_port_names, port_names, add_text, name_set}
use Rattle.rr_loop_rules.specs.Rules.{LoopNames}
use Rattle.rr_flatten.specs.Walk.{expression_faults, noted, twice_faults, value_faults, fold_trees, Joining, place_port, check_port, Connected, check_connection, connections}
use Rattle.rr_declarations.proofs.Firsts.{none_before, none_here}
use Rattle.rr_flat_laws.specs.Declared.{texts_of, names_of, ports_by, ports_of}
use Rattle.rr_flat_laws.specs.Drivers.{connected_in_order, HavePorts, Fits, connected_value, connected_name, connected}
use Rattle.rr_flat_laws.proofs.Answers.{not_if}
use Rattle.rr_flat_laws.proofs.Opening.{plain_is}
use Rattle.rr_flat_laws.proofs.Texts.{none_some, nowhere, there_cases, here, later, Distinct, with_new, is_none_of, there_of, some_with, known_from, nothing_known}
use Rattle.rr_flat_laws.proofs.Texts as texts

-- The ports in their order

fold_names : (list : List Identifier) (acc : List Text) → fold add_port_name acc list ≡ acc ++ texts_of list
fold_names [] acc = sym (append-nil acc)
fold_names (i ∷ is) acc = fold_names is (acc ++ i.text ∷ []) ∙ append_assoc acc (i.text ∷ []) (texts_of is)

fold_declarators : (list : List DeclaredName) (acc : List Text) → fold add_declarator_name acc list ≡ acc ++ names_of list
fold_declarators [] acc = sym (append-nil acc)
fold_declarators (n ∷ ns) acc = fold_declarators ns (acc ++ n.text ∷ []) ∙ append_assoc acc (n.text ∷ []) (names_of ns)

fold_ports : (groups : List PortDeclaration) (acc : List Text) → fold add_port_names acc groups ≡ acc ++ flat_map ports_by groups
unfolding add_port_names
fold_ports [] acc = sym (append-nil acc)
fold_ports (p ∷ ps) acc =
    fold_ports ps (fold add_declarator_name acc p.names) ∙ (ap (λ (z : List Text). z ++ flat_map ports_by ps) (fold_declarators p.names acc) ∙ append_assoc acc (ports_by p) (flat_map ports_by ps))

pub ports_are : (m : ModuleDeclaration) → port_names m ≡ ports_of m
unfolding port_names
ports_are m =
    fold_ports m.groups (fold add_port_name [] (plain_names m.header)) ∙ ap (λ (z : List Text). z ++ flat_map ports_by m.groups) (fold_names (plain_names m.header) [] ∙ plain_is m.header)

-- Connections by name

from_text : (names : Names) (x n : Text) → is_some (lookup n (add_text names x)) ≡ true → (is_some (lookup n names) ≡ true) ⊎ Contains (x ∷ []) n
from_text names x n h = elim (some_with names n x (entity.Signal 0 None false) h) [ inl a ↦ inl a | inr e ↦ inr (subst (Contains (x ∷ [])) (sym e) (here x [])) ]

ones : (ns : List Text) → flat_map (λ (x : Text). x ∷ []) ns ≡ ns
ones [] = refl
ones (n ∷ ns) = ap (λ (z : List Text). n ∷ z) (ones ns)

set_has : (ns : List Text) (n : Text) → is_some (lookup n (name_set ns)) ≡ true → Contains ns n
unfolding name_set
set_has ns n h = elim (known_from (λ (x : Text). x ∷ []) add_text from_text ns [] n h) [ inl a ↦ absurd (nothing_known n a) | inr k ↦ subst (λ z. Contains z n) (ones ns) k ]

found_before : (loops : LoopNames) (ports names : Names) (list : List NamedConnection) (c : Connected) → (fold (check_connection loops ports names) c list).found ≡ None → c.found ≡ None
unfolding check_connection
found_before loops ports names [] c e = e
found_before loops ports names (x ∷ xs) c e =
    let f : List FlatFault = fault_if (is_none (lookup x.text ports)) (PortMismatch x.token) in
    let h = found_before loops ports names xs (check_connection loops ports names c x) e in
    none_before c.found f (none_before (noted c.found f) (twice_faults x.token x.text c.seen) (none_before (noted (noted c.found f) (twice_faults x.token x.text c.seen)) (value_faults loops names x.value) h))

abbrev text_of : NamedConnection → Text
text_of n = n.text

record ByName (ports seen : Names) (list : List NamedConnection) : Type 0 where
  known : (n : Text) → Contains (map text_of list) n → is_some (lookup n ports) ≡ true
  new : (n : Text) → Contains (map text_of list) n → lookup n seen ≡ None
  apart : Distinct (map text_of list)

by_name : (loops : LoopNames) (ports names : Names) (list : List NamedConnection) (c : Connected) → (fold (check_connection loops ports names) c list).found ≡ None → ByName ports c.seen list
unfolding check_connection
by_name loops ports names [] c e = record { known = λ n k. absurd (nowhere n k); new = λ n k. absurd (nowhere n k); apart = tt }
by_name loops ports names (x ∷ xs) c e =
    let y = entity.Signal 0 None false in
    let f : List FlatFault = fault_if (is_none (lookup x.text ports)) (PortMismatch x.token) in
    let h = none_before (noted (noted c.found f) (twice_faults x.token x.text c.seen)) (value_faults loops names x.value) (found_before loops ports names xs (check_connection loops ports names c x) e) in
    let new : lookup x.text c.seen ≡ None = is_none_of (lookup x.text c.seen) (not_if (is_some (lookup x.text c.seen)) (PortMismatch x.token) (none_here (noted c.found f) (twice_faults x.token x.text c.seen) h)) in
    let port : is_some (lookup x.text ports) ≡ true =
    there_of (lookup x.text ports) (not_if (is_none (lookup x.text ports)) (PortMismatch x.token) (none_here c.found f (none_before (noted c.found f) (twice_faults x.token x.text c.seen) h))) in
    let rest = by_name loops ports names xs (check_connection loops ports names c x) e in
    record {
      known = λ n k. elim (there_cases x.text (map text_of xs) n k) [ inl q ↦ subst (λ m. is_some (lookup m ports) ≡ true) q port | inr r ↦ rest.known n r ];
      new = λ n k. elim (there_cases x.text (map text_of xs) n k) [ inl q ↦ subst (λ m. lookup m c.seen ≡ None) q new | inr r ↦ texts.none_before c.seen x.text n y (rest.new n r) ];
      apart = (λ k. none_some y (sym (rest.new x.text k) ∙ with_new c.seen x.text y new), rest.apart);
    }

-- What is connected

abbrev port_of : Text × Tree → Text
port_of c = c.0

-- only ports, and each once
pub record Connects (m : ModuleDeclaration) (c : Connections) : Type 0 where
  pub known : (n : Text) → Contains (map (λ (x : Text × Tree). x.0) (connected m c)) n → Contains (ports_of m) n
  pub apart : Distinct (map (λ (x : Text × Tree). x.0) (connected m c))
  pub fits : Fits m c

in_order : (left : List Text) (ts : Trees) (n : Text) → Contains (map port_of (connected_in_order left ts)) n → Contains left n
unfolding connected_in_order
in_order left End n c = absurd (nowhere n c)
in_order [] (More t ts) n c = c
in_order (p ∷ ps) (More t ts) n c = elim (there_cases p (map port_of (connected_in_order ps ts)) n c) [ inl e ↦ subst (Contains (p ∷ ps)) e (here p ps) | inr k ↦ later p ps n (in_order ps ts n k) ]

order_apart : (left : List Text) (ts : Trees) → Distinct left → Distinct (map port_of (connected_in_order left ts))
unfolding connected_in_order
order_apart left End d = tt
order_apart [] (More t ts) d = tt
order_apart (p ∷ ps) (More t ts) d = (λ c. d.0 (in_order ps ts p c), order_apart ps ts d.1)

-- the first expression that is too many is a fault

position_before : (loops : LoopNames) (names : Names) (left : List Text) (j : Joining) (t : Tree) → (place_port loops names left j t).found ≡ None → j.found ≡ None
position_before loops names [] j t e = none_before j.found (expression_faults loops names t) (none_before (noted j.found (expression_faults loops names t)) (fault_if (not j.over) (PortMismatch (first t))) e)
position_before loops names (n ∷ ns) j t e = none_before j.found (expression_faults loops names t) e

positions_before : (loops : LoopNames) (names : Names) (ts : Trees) (j : Joining) → (fold_trees (check_port loops names) j ts).found ≡ None → j.found ≡ None
unfolding fold_trees check_port
positions_before loops names End j e = e
positions_before loops names (More t ts) j e = position_before loops names j.left j t (positions_before loops names ts (place_port loops names j.left j t) e)

have_ports : (loops : LoopNames) (names : Names) (left : List Text) (ts : Trees) (found : Option FlatFault) → (fold_trees (check_port loops names) (record { left = left; over = false; found = found }) ts).found ≡ None → HavePorts left ts
unfolding fold_trees check_port HavePorts
have_ports loops names left End found e = tt
have_ports loops names [] (More t ts) found e =
    let j : Joining = place_port loops names [] (record { left = []; over = false; found = found }) t in
    absurd (both_ways true (not_if true (PortMismatch (first t)) (none_here (noted found (expression_faults loops names t)) (fault_if true (PortMismatch (first t))) (positions_before loops names ts j e))) refl)
have_ports loops names (p ∷ ps) (More t ts) found e = have_ports loops names ps ts (noted found (expression_faults loops names t)) e

values_among : (list : List NamedConnection) (n : Text) → Contains (map port_of (flat_map connected_name list)) n → Contains (map text_of list) n
values_among [] n c = c
values_among (x ∷ xs) n c = by x.value c (values_among xs n)
  where
    by : (o : Option Tree) → Contains (map port_of (connected_value x.text o ++ flat_map connected_name xs)) n → (Contains (map port_of (flat_map connected_name xs)) n → Contains (map text_of xs) n) → Contains (x.text ∷ map text_of xs) n
    by None k more = later x.text (map text_of xs) n (more k)
    by (Some t) k more = elim (there_cases x.text (map port_of (flat_map connected_name xs)) n k) [ inl e ↦ subst (Contains (x.text ∷ map text_of xs)) e (here x.text (map text_of xs)) | inr r ↦ later x.text (map text_of xs) n (more r) ]

values_apart : (list : List NamedConnection) → Distinct (map text_of list) → Distinct (map port_of (flat_map connected_name list))
values_apart [] d = tt
values_apart (x ∷ xs) d = by x.value (values_apart xs d.1)
  where
    by : (o : Option Tree) → Distinct (map port_of (flat_map connected_name xs)) → Distinct (map port_of (connected_value x.text o ++ flat_map connected_name xs))
    by None e = e
    by (Some t) e = (λ c. d.0 (values_among xs x.text c), e)

pub connects : (loops : LoopNames) (m : ModuleDeclaration) (names : Names) (found : Option FlatFault) (c : Connections) → Distinct (ports_of m) → connections loops m names found c ≡ None → Connects m c
unfolding connections
connects loops m names found (Positions ts) d e = record { known = in_order (ports_of m) ts; apart = order_apart (ports_of m) ts d; fits = subst (λ ns. HavePorts ns ts) (ports_are m) (have_ports loops names (port_names m) ts found e) }
connects loops m names found (Named list) d e =
    let b = by_name loops (name_set (port_names m)) names list (record { found = found; seen = [] }) e in
    record {
      known = λ n c. subst (λ ns. Contains ns n) (ports_are m) (set_has (port_names m) n (b.known n (values_among list n c)));
      apart = values_apart list b.apart;
      fits = tt;
    }
