-- The settings and connections of an instance, in an instance of its parent.
use Rattle.std.proofs.Common.{◌≡◌, ◌∙◌, sym, ap, ap₂, inl, inr, ℕ, ◌<◌, Bool, true, false, not, List, [], ◌∷◌, ◌++◌, length, map, get_or, Option, Some, None, Ok, refl, fold, is_none, is_some, arith, append_assoc, length-append}
use Rattle.std.specs.List.{list_any}
use Rattle.std.specs.Prelude.{nat_eq}
use Rattle.std.proofs.lemmas.Bool.{eq-eqb}
use Rattle.std.proofs.lemmas.List.{get_or_at}
use Rattle.rr_syntax.specs.Tree.{Tree, Trees, End, More, NamedConnection, Connections, Positions, Names as Named, ModuleInstance, ModuleDeclaration}
use Rattle.rr_expr.specs.Faults.{first}
use Rattle.rr_expr.specs.Scopes.{Names, lookup}
use Rattle.rr_flat.specs.declared.fault.FlatFault.{FlatFault}
use Rattle.rr_flat.specs.declared.fault.FlatFault.TheVariants.{SelfInstance, NameTwice, PortMismatch}
use Rattle.rr_flat.specs.declared.signal.Port.{Port}
use Rattle.rr_flat.specs.declared.signal.Port.TheVariants.{Inner, Input, Output}
use Rattle.rr_flat.specs.Faults.{fault_if, fault_or}
use Rattle.rr_flat.specs.Signals.{Text, signal_at}
use Rattle.rr_flat.specs.Plain.{Written, Whole, Driver}
use Rattle.rr_flatten.specs.Tables.{place_of, port_names, name_set, at_place}
use Rattle.rr_flatten.specs.Walk.{Walked, scope_at, expression_faults, with_driver, noted, Checked, check_override, fold_trees, check_position, nothing_checked, overrides, twice_faults, value_faults, Connected, check_connection, Joining, place_port, check_port, connections, join_port, join_at, join, join_value, join_named, join_positions, joined, checked}
use Rattle.rr_loop_rules.specs.Rules.{LoopNames, contains}
use Rattle.rr_flat.specs.Writers.{no_driver}
use Rattle.rr_choice.specs.declared.pick.Pick.{Pick}
use Rattle.rr_choice.specs.Sites.{Site}
use Rattle.rr_instance.specs.Instances.{instance_tree, instance_parts, instance_value, instance_connection, instance_connections, instance_child, instance_module}
use Rattle.rr_instance_laws.specs.Tests.{IsGuardName, IsGuardNameIn}
use Rattle.rr_instance_laws.specs.Truth.{IsScalar}
use Rattle.rr_flat_instance.specs.Flats.{instance_at, instance_flat}
use Rattle.rr_flat_instance.specs.Places.{Somewhere, IsNameOfValue, IsNameOfConnection, IsNameOfConnections, MayBeDriven}
use Rattle.rr_flat_instance.proofs.Lists.{Begins}
use Rattle.rr_flat_instance.proofs.Tables.{parameter_table_instance, open_names_instance}
use Rattle.rr_flat_instance.proofs.Shapes.{unfound, expression_stays}
use Rattle.rr_flat_instance.proofs.Targets.{target_stays}
use Rattle.rr_flat_instance.proofs.Grown.{Grows, grows-trans, named_grows, positions_grows}
use Rattle.rr_flat_instance.proofs.Commutes.{instance_walked, driver_instance}

-- what is found stays found

port_before : (loops : LoopNames) (names : Names) (left : List Text) (j : Joining) (t : Tree) → (place_port loops names left j t).found ≡ None → j.found ≡ None
port_before loops names [] j t e = (unfound j.found (expression_faults loops names t) (unfound (noted j.found (expression_faults loops names t)) (fault_if (not j.over) (PortMismatch (first t))) e).before).before
port_before loops names (n ∷ ns) j t e = (unfound j.found (expression_faults loops names t) e).before

ports_before : (loops : LoopNames) (names : Names) (ts : Trees) (j : Joining) → (fold_trees (check_port loops names) j ts).found ≡ None → j.found ≡ None
unfolding fold_trees check_port
ports_before loops names End j e = e
ports_before loops names (More t ts) j e = port_before loops names j.left j t (ports_before loops names ts (check_port loops names j t) e)

connection_before : (loops : LoopNames) (ports names : Names) (c : Connected) (n : NamedConnection) → (check_connection loops ports names c n).found ≡ None → c.found ≡ None
unfolding check_connection
connection_before loops ports names c n e =
    let a = unfound (noted (noted c.found (fault_if (is_none (lookup n.text ports)) (PortMismatch n.token))) (twice_faults n.token n.text c.seen)) (value_faults loops names n.value) e in
    let b = unfound (noted c.found (fault_if (is_none (lookup n.text ports)) (PortMismatch n.token))) (twice_faults n.token n.text c.seen) a.before in
    (unfound c.found (fault_if (is_none (lookup n.text ports)) (PortMismatch n.token)) b.before).before

named_before : (loops : LoopNames) (ports names : Names) (list : List NamedConnection) (c : Connected) → (fold (check_connection loops ports names) c list).found ≡ None → c.found ≡ None
named_before loops ports names [] c e = e
named_before loops ports names (n ∷ ns) c e = connection_before loops ports names c n (named_before loops ports names ns (check_connection loops ports names c n) e)

unless_other : (b : Bool) (f g : FlatFault) → fault_if b f ≡ [] → fault_if b g ≡ fault_if b f
unless_other true f g e = absurd (cc)
unless_other false f g e = refl

record Unrefused {A : Type 0} (found : Option FlatFault) (a b : A) : Type 0 where
  none : found ≡ None
  is : a ≡ b

unrefused : {A : Type 0} (found : Option FlatFault) (a b : A) → fault_or found a ≡ Ok b → Unrefused found a b
unrefused None a b e = record { none = refl; is = cc }
unrefused (Some f) a b e = absurd (cc)

module _ (ss : List Site) (ps : List Pick) where
  -- overrides stay

  overrides_instance : (m : ModuleDeclaration) (names : Names) (found : Option FlatFault) (over : Option Connections) → overrides (instance_module ss ps m) names found over ≡ overrides m names found over
  unfolding overrides
  overrides_instance m names found None = refl
  overrides_instance m names found (Some (Positions ts)) =
      ap (λ (left : List Text). (fold_trees (check_position names) (record { left = left; over = false; checked = nothing_checked found }) ts).checked) (open_names_instance ss ps m)
  overrides_instance m names found (Some (Named list)) =
      ap (λ (table : Names). fold (check_override table names) (nothing_checked found) list) (parameter_table_instance ss ps m)

  -- connections without a fault

  port_stays : (loops : LoopNames) (names : Names) (left : List Text) (j : Joining) (t : Tree) → ((name : List ℕ) → IsGuardName ss t name → IsScalar names name)
      → ((name : List ℕ) → IsGuardName ss t name → contains loops name ≡ false) → (place_port loops names left j t).found ≡ None
      → place_port loops names left j (instance_tree ss ps t) ≡ place_port loops names left j t
  port_stays loops names [] j t n free e =
      let a = unfound (noted j.found (expression_faults loops names t)) (fault_if (not j.over) (PortMismatch (first t))) e in
      let b = unfound j.found (expression_faults loops names t) a.before in
      ap₂ (λ (faults more : List FlatFault). record j { over = true; found = noted (noted j.found faults) more })
      (expression_stays ss ps names loops t n free b.more ∙ sym b.more) (unless_other (not j.over) (PortMismatch (first t)) (PortMismatch (first (instance_tree ss ps t))) a.more)
  port_stays loops names (m ∷ ms) j t n free e =
      let a = unfound j.found (expression_faults loops names t) e in
      ap (λ (faults : List FlatFault). record j { left = ms; found = noted j.found faults }) (expression_stays ss ps names loops t n free a.more ∙ sym a.more)

  ports_stay : (loops : LoopNames) (names : Names) (ts : Trees) (j : Joining) → ((name : List ℕ) → IsGuardNameIn ss ts name → IsScalar names name)
      → ((name : List ℕ) → IsGuardNameIn ss ts name → contains loops name ≡ false) → (fold_trees (check_port loops names) j ts).found ≡ None
      → fold_trees (check_port loops names) j (instance_parts ss ps ts) ≡ fold_trees (check_port loops names) j ts
  unfolding fold_trees check_port instance_tree IsGuardName
  ports_stay loops names End j n free e = refl
  ports_stay loops names (More t ts) j n free e =
      ap (λ (k : Joining). fold_trees (check_port loops names) k (instance_parts ss ps ts)) (port_stays loops names j.left j t (λ x k. n x (inl k)) (λ x k. free x (inl k)) (ports_before loops names ts (check_port loops names j t) e))
      ∙ ports_stay loops names ts (check_port loops names j t) (λ x k. n x (inr k)) (λ x k. free x (inr k)) e

  value_stays : (loops : LoopNames) (names : Names) (o : Option Tree) → ((name : List ℕ) → IsNameOfValue ss o name → IsScalar names name)
      → ((name : List ℕ) → IsNameOfValue ss o name → contains loops name ≡ false) → value_faults loops names o ≡ [] → value_faults loops names (instance_value ss ps o) ≡ value_faults loops names o
  unfolding instance_value
  value_stays loops names None n free e = refl
  value_stays loops names (Some t) n free e = expression_stays ss ps names loops t n free e ∙ sym e

  connection_stays : (loops : LoopNames) (ports names : Names) (c : Connected) (x : NamedConnection) → ((name : List ℕ) → IsNameOfConnection ss name x → IsScalar names name)
      → ((name : List ℕ) → IsNameOfConnection ss name x → contains loops name ≡ false) → (check_connection loops ports names c x).found ≡ None
      → check_connection loops ports names c (instance_connection ss ps x) ≡ check_connection loops ports names c x
  unfolding check_connection instance_connection
  connection_stays loops ports names c x n free e =
      let found : Option FlatFault = noted (noted c.found (fault_if (is_none (lookup x.text ports)) (PortMismatch x.token))) (twice_faults x.token x.text c.seen) in
      let a = unfound found (value_faults loops names x.value) e in
      ap (λ (faults : List FlatFault). record { found = noted found faults; seen = at_place c.seen x.text 0 }) (value_stays loops names x.value n free a.more)

  named_stay : (loops : LoopNames) (ports names : Names) (list : List NamedConnection) (c : Connected) → ((name : List ℕ) → Somewhere (IsNameOfConnection ss name) list → IsScalar names name)
      → ((name : List ℕ) → Somewhere (IsNameOfConnection ss name) list → contains loops name ≡ false)
      → (fold (check_connection loops ports names) c list).found ≡ None → fold (check_connection loops ports names) c (map (instance_connection ss ps) list) ≡ fold (check_connection loops ports names) c list
  unfolding Somewhere
  named_stay loops ports names [] c n free e = refl
  named_stay loops ports names (x ∷ xs) c n free e =
      ap (λ (k : Connected). fold (check_connection loops ports names) k (map (instance_connection ss ps) xs)) (connection_stays loops ports names c x (λ y k. n y (inl k)) (λ y k. free y (inl k)) (named_before loops ports names xs (check_connection loops ports names c x) e))
      ∙ named_stay loops ports names xs (check_connection loops ports names c x) (λ y k. n y (inr k)) (λ y k. free y (inr k)) e

  connections_stay : (loops : LoopNames) (m : ModuleDeclaration) (names : Names) (found : Option FlatFault) (c : Connections) → ((name : List ℕ) → IsNameOfConnections ss name c → IsScalar names name)
      → ((name : List ℕ) → IsNameOfConnections ss name c → contains loops name ≡ false) → connections loops m names found c ≡ None
      → connections loops (instance_module ss ps m) names found (instance_connections ss ps c) ≡ None
  unfolding connections instance_module instance_connections port_names IsNameOfConnections
  connections_stay loops m names found (Positions ts) n free e =
      let start : Joining = record { left = port_names m; over = false; found = found } in
      ap (λ (j : Joining). j.found) (ports_stay loops names ts start n free e) ∙ e
  connections_stay loops m names found (Named list) n free e =
      let start : Connected = record { found = found; seen = [] } in
      ap (λ (c : Connected). c.found) (named_stay loops (name_set (port_names m)) names list start n free e) ∙ e

  -- an instance without a fault

  pub checked_stays : (loops : LoopNames) (above : List ℕ) (names : Names) (m : ModuleDeclaration) (k at : ℕ) (over : Option Connections) (x : ModuleInstance) (given : Names)
      → ((name : List ℕ) → IsNameOfConnections ss name x.connections → IsScalar names name)
      → ((name : List ℕ) → IsNameOfConnections ss name x.connections → contains loops name ≡ false) → checked loops above names m k at over x ≡ Ok given
      → checked loops above names (instance_module ss ps m) k at over (instance_child ss ps x) ≡ Ok given
  unfolding checked instance_child
  checked_stays loops above names m k at over x given n free e =
      let begun : Option FlatFault = noted None (fault_if (list_any (nat_eq k) above) (SelfInstance at)) in
      let o : Checked = overrides m names begun over in
      let found : Option FlatFault = noted o.found (fault_if (is_some (lookup x.text names)) (NameTwice x.token)) in
      let a = unrefused (connections loops m names found x.connections) o.given given e in
      ap (λ (o : Checked). fault_or (connections loops (instance_module ss ps m) names (noted o.found (fault_if (is_some (lookup x.text names)) (NameTwice x.token))) (instance_connections ss ps x.connections)) o.given)
      (overrides_instance m names begun over)
      ∙ (ap (λ (r : Option FlatFault). fault_or r o.given) (connections_stay loops m names found x.connections n free a.none) ∙ ap (λ (g : Names). Ok g) a.is)

  -- the drivers of connections

  module _ (final : Walked) (targets : (k : ℕ) → k < length final.flat.drivers → MayBeDriven (get_or final.flat.drivers k no_driver).target) where
    driven : (ds : List Driver) (d : Driver) → Begins (ds ++ d ∷ []) final.flat.drivers → MayBeDriven d.target
    driven ds d b =
        let e : final.flat.drivers ≡ ds ++ d ∷ b.0 = b.1 ∙ append_assoc ds (d ∷ []) b.0 in
        let l : length ds < length final.flat.drivers = rw e (omega (arith, length-append ds (d ∷ b.0))) in
        let at : get_or final.flat.drivers (length ds) no_driver ≡ d = rw e (get_or_at ds d b.0 no_driver (length ds) refl) in
        rw at at (targets (length ds) l)

    own_token : (t : Tree) → first (instance_tree ss ps t) ≡ instance_at ss ps (Whole 0) (Written t 0) (first t)
    own_token t = rw (eq-eqb (first t) (first t) refl) refl

    port_instance : (p : Port) (i id : ℕ) (t : Tree) (w : Walked) → Grows (join_port p i id t w) final → join_port p i id (instance_tree ss ps t) (instance_walked ss ps w) ≡ instance_walked ss ps (join_port p i id t w)
    port_instance Inner i id t w g = refl
    port_instance Input i id t w g =
        ap (λ (n : ℕ). with_driver (Whole id) (Written (instance_tree ss ps t) i) n (instance_walked ss ps w)) (own_token t)
        ∙ driver_instance ss ps (Whole id) (Written t i) (first t) w
    port_instance Output i id t w g =
        let d : Driver = record { target = Written t i; value = Whole id; token = first t } in
        ap (λ (u : Tree). with_driver (Written u i) (Whole id) (first u) (instance_walked ss ps w)) (target_stays ss ps t (driven w.flat.drivers d g.drivers))
        ∙ driver_instance ss ps (Written t i) (Whole id) (first t) w

    at_instance : (o : Option ℕ) (i : ℕ) (t : Tree) (w : Walked) → Grows (join_at o i t w) final → join_at o i (instance_tree ss ps t) (instance_walked ss ps w) ≡ instance_walked ss ps (join_at o i t w)
    unfolding instance_flat
    at_instance None i t w g = refl
    at_instance (Some id) i t w g = port_instance (signal_at w.flat.signals id).port i id t w g

    join_instance : (i k : ℕ) (name : Text) (t : Tree) (w : Walked) → Grows (join i k name t w) final → join i k name (instance_tree ss ps t) (instance_walked ss ps w) ≡ instance_walked ss ps (join i k name t w)
    unfolding join instance_flat
    join_instance i k name t w g = at_instance (place_of (lookup name (scope_at w k))) i t w g

    value_instance : (i k : ℕ) (name : Text) (o : Option Tree) (w : Walked) → Grows (join_value i k name o w) final → join_value i k name (instance_value ss ps o) (instance_walked ss ps w) ≡ instance_walked ss ps (join_value i k name o w)
    unfolding instance_value
    value_instance i k name None w g = refl
    value_instance i k name (Some t) w g = join_instance i k name t w g

    named_instance : (i k : ℕ) (list : List NamedConnection) (w : Walked) → Grows (fold (join_named i k) w list) final
        → fold (join_named i k) (instance_walked ss ps w) (map (instance_connection ss ps) list) ≡ instance_walked ss ps (fold (join_named i k) w list)
    unfolding instance_connection
    named_instance i k [] w g = refl
    named_instance i k (x ∷ xs) w g =
        ap (λ (v : Walked). fold (join_named i k) v (map (instance_connection ss ps) xs))
        (value_instance i k x.text x.value w (grows-trans (join_named i k w x) (fold (join_named i k) (join_named i k w x) xs) final (named_grows i k xs (join_named i k w x)) g))
        ∙ named_instance i k xs (join_named i k w x) g

    positions_instance : (i k : ℕ) (left : List Text) (ts : Trees) (w : Walked) → Grows (join_positions i k left ts w) final
        → join_positions i k left (instance_parts ss ps ts) (instance_walked ss ps w) ≡ instance_walked ss ps (join_positions i k left ts w)
    unfolding join_positions instance_tree
    positions_instance i k left End w g = refl
    positions_instance i k [] (More t ts) w g = refl
    positions_instance i k (p ∷ rest) (More t ts) w g =
        ap (λ (v : Walked). join_positions i k rest (instance_parts ss ps ts) v)
        (join_instance i k p t w (grows-trans (join i k p t w) (join_positions i k rest ts (join i k p t w)) final (positions_grows i k rest ts (join i k p t w)) g))
        ∙ positions_instance i k rest ts (join i k p t w) g

    pub joined_instance : (i k : ℕ) (m : ModuleDeclaration) (c : Connections) (w : Walked) → Grows (joined i k m c w) final
        → joined i k (instance_module ss ps m) (instance_connections ss ps c) (instance_walked ss ps w) ≡ instance_walked ss ps (joined i k m c w)
    unfolding joined instance_module instance_connections port_names
    joined_instance i k m (Positions ts) w g = positions_instance i k (port_names m) ts w g
    joined_instance i k m (Named list) w g = named_instance i k list w g
