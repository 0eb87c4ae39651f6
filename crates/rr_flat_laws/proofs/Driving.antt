-- The drivers of a walk: continuous assignments and connections, each once.
use Rattle.std.proofs.Common.{◌≡◌, ◌∙◌, sym, ap, inl, inr, ℕ, zero, suc, ◌+◌, ◌<◌, ◌≤◌, Bool, true, false, not, ◌&&◌, List, [], ◌∷◌, ◌++◌, length, map, get_or, fold, Option, Some, None, Result, Ok, refl, subst, arith, length-append, nat_eq}
use Rattle.std.specs.Prelude.{is_some}
use Rattle.std.specs.List.{AllByRecursion, Contains, filter, flat_map, list_any}
use Rattle.std.proofs.lemmas.Bool.{cases_lt, cases_eq, eq-eqb, ne_eqb, and_left, and_right, and_from}
use Rattle.std.proofs.lemmas.List.{get_or_append_left, append-nil, append_assoc, map-append, length-set}
use Rattle.std.proofs.lemmas.List.Concat.{flat_map_single, flat_map-append}
use Rattle.std.proofs.lemmas.List.Elements.{Contains-append_left, Contains-append_right}
use Rattle.rr_syntax.specs.Tree.{Tree, Trees, End, More, DeclaredName, NetAssignment, NamedConnection, Connections, Positions, ModuleInstance, ModuleItem, Ports, Nets, Variables, Integers, Parameters, Assigns, Always, Initial, Instances, ModuleDeclaration, SourceText}
use Rattle.rr_syntax.specs.Tree.{Names as Named}
use Rattle.rr_expr.specs.Faults.{first}
use Rattle.rr_expr.specs.Scopes.{Names, lookup}
use Rattle.rr_expr.specs.declared.types.Entity.{Entity}
use Rattle.rr_expr.specs.declared.types.Entity.TheVariants as entity
use Rattle.rr_flat.specs.declared.fault.FlatFault.{FlatFault}
use Rattle.rr_flat.specs.declared.signal.Port.{Port}
use Rattle.rr_flat.specs.declared.signal.Port.TheVariants.{Inner, Input, Output}
use Rattle.rr_flat.specs.declared.fault.FlatFault.TheVariants.{NameTwice, SelfInstance}
use Rattle.rr_flat.specs.Faults.{fault_or, fault_if, each}
use Rattle.rr_flat.specs.Plain.{Written, Whole, Driver, Flat}
use Rattle.rr_flat.specs.Signals.{Text, Signal, signal_at, no_signal, with_name}
use Rattle.rr_flat.specs.Writers.{scope_at as scope_in}
use Rattle.rr_loop_rules.specs.Rules.{LoopNames}
use Rattle.rr_flatten.specs.Tables.{place_of}
use Rattle.rr_flatten.specs.Walk.{Walked, Enter, scope_at, loops_at, module_at, with_driver, expression_faults, assign, net_value, net_with, net, always, noted, overrides, connections, checked, with_instance, join_port, join_at, join, join_value, join_named, join_positions, joined, item, opened, enter_by, enter}
use Rattle.rr_flatten.specs.Walk as walk
use Rattle.rr_flatten.proofs.HeadOf.{ok_is, not_ok, first_ok, each_keeps, all_append, all_weaker}
use Rattle.rr_flat_laws.specs.Declared.{single, DeclaresAs, ports_of}
use Rattle.rr_flat_laws.specs.Drivers.{signal_instance, number_in, signal_number, driver_of_pair, driver_of_value, driver_of_net, assigned_by, is_assignment, Child, children_by, is_child_of, connected_in_order, connected_value, connected_name, connected, port_driver, driver_of_connection, is_connection}
use Rattle.rr_flat_laws.specs.Hierarchy.{IsDue}
use Rattle.rr_flat_laws.specs.Names.{module_of}
use Rattle.rr_flat_laws.proofs.Answers.{settled}
use Rattle.rr_flat_laws.proofs.Connecting.{Connects, connects, ports_are}
use Rattle.rr_flat_laws.proofs.Growing.{Same, assign_same, net_same, always_same, initial_same, unknown, always_drivers, initial_drivers, join_same, join_value_same, joined_same, began, inside, entered, Alikes, Grows, grows_here, grows_twice, same_grows, EnterGrows, instance_grows, item_grows, enter_grows}
use Rattle.rr_flat_laws.proofs.Naming as naming
use Rattle.rr_flat_laws.proofs.Naming.{Fine, FineWalk, Is, named_found}
use Rattle.rr_flat_laws.proofs.Opening.{opened_head}
use Rattle.rr_flat_laws.proofs.Shares.{filter_all, filter_nothing, filter_both, all_flat, Share, share_none, share_twice, Numbers, numbers_twice, numbers_weaker}
use Rattle.rr_flat_laws.proofs.Tabling.{Table, placed}
use Rattle.rr_flat_laws.proofs.Texts.{Distinct, here, later, all_in, in_map, flat_none, none_of, is_none_of}

abbrev number : Walked → ℕ
number w = length w.flat.scopes

-- numbers that are, and are not, the same

pub same_numbers : (n : ℕ) → nat_eq n n ≡ true
same_numbers n = eq-eqb n n refl

pub other_numbers : (n m : ℕ) → (n ≡ m → ⊥) → nat_eq n m ≡ false
other_numbers n m h = ne_eqb n m h

-- where the second is not first
not_both : (i k j : ℕ) → (i ≡ k → ⊥) → (nat_eq k j && nat_eq i j) ≡ false
not_both i k j d = elim (cases_eq k j) [
  | inl e ↦ and_right (nat_eq k j) (nat_eq i j) (other_numbers i j (λ f. d (f ∙ sym e)))
  | inr n ↦ and_left (nat_eq k j) (nat_eq i j) (other_numbers k j n)
]

not_apart : (i j : ℕ) → (nat_eq i j && not (nat_eq i j)) ≡ false
not_apart i j = by (nat_eq i j)
  where
    by : (b : Bool) → (b && not b) ≡ false
    by true = refl
    by false = refl

apart_there : (i k : ℕ) → (i ≡ k → ⊥) → (nat_eq k k && not (nat_eq i k)) ≡ true
apart_there i k d = rw (same_numbers k, other_numbers i k d) refl

apart_else : (i k j : ℕ) → (j ≡ k → ⊥) → (nat_eq k j && not (nat_eq i j)) ≡ false
apart_else i k j d = and_left (nat_eq k j) (not (nat_eq i j)) (other_numbers k j (λ e. d (sym e)))

-- the number of a signal that a name stands for
pub number_is : (o : Option Entity) (id : ℕ) (range : Option (ℕ × ℕ)) (signed : Bool) → o ≡ Some (entity.Signal id range signed) → number_in o ≡ id
number_is o id range signed e = rw e refl

-- The names of what is connected

abbrev names_of : List (Text × Tree) → List Text
names_of cs = map (λ (x : Text × Tree). x.0) cs

names_left : (xs ys : List (Text × Tree)) (m : Text) → Contains (names_of xs) m → Contains (names_of (xs ++ ys)) m
names_left xs ys m c = subst (λ ns. Contains ns m) (sym (map-append (λ (x : Text × Tree). x.0) xs ys)) (Contains-append_left (names_of xs) (names_of ys) m c)

names_right : (xs ys : List (Text × Tree)) (m : Text) → Contains (names_of ys) m → Contains (names_of (xs ++ ys)) m
names_right xs ys m c = subst (λ ns. Contains ns m) (sym (map-append (λ (x : Text × Tree). x.0) xs ys)) (Contains-append_right (names_of xs) (names_of ys) m c)

-- The same from the end of a walk

pub grows_from : (w v : Walked) (g : Flat) → Same w v → Grows w.flat g → Grows v.flat g
grows_from w v g s h = record {
  signals = subst (λ ss. (zs : List Signal) × (g.signals ≡ ss ++ zs)) s.signals h.signals;
  owners = subst (λ (os : List ℕ). (zs : List ℕ) × (g.owners ≡ os ++ zs)) s.owners h.owners;
  scopes = subst (λ (ns : List Names). Alikes ns g.scopes) s.scopes h.scopes;
}

pub grows_back : (w v : Walked) (g : Flat) → Same w v → Grows v.flat g → Grows w.flat g
grows_back w v g s h = grows_twice w.flat v.flat g (same_grows w v s) h

-- over a source, and what is known of its flat design and its table
module _ (source : SourceText) (F : Flat) (whole : Fine source.modules F.signals F.scopes F.owners) (table : Names) (tabled : Table source.modules table) where
  abbrev ms : List ModuleDeclaration
  ms = source.modules

  abbrev items_of : ℕ → List ModuleItem
  items_of k = (module_at source.modules k).items

  abbrev all_assigned : ℕ → List Driver
  all_assigned j = flat_map (assigned_by F j) (module_of source F j).items

  abbrev all_children : ℕ → List Child
  all_children j = flat_map (children_by j) (module_of source F j).items

  -- instance k is a child, where these are the drivers
  pub record ChildIn (ds : List Driver) (k : ℕ) (c : Child) : Type 0 where
    pub later : c.parent < k
    pub named : (module_of source F k).text ≡ c.module_name
    pub ports : filter (is_connection F k) ds ≡ flat_map (driver_of_connection F c.parent k) (connected (module_of source F k) c.text.connections)
    pub connects : Connects (module_of source F k) c.text.connections
    pub owned : get_or F.owners k 0 < length source.modules

  -- what a step in instance i makes: its assignments and its children, and all of the instances that are new
  pub record Made (i : ℕ) (w t : Walked) (assigned : List Driver) (kids : List Child) : Type 0 where
    pub drivers : List Driver
    pub is : t.flat.drivers ≡ w.flat.drivers ++ drivers
    pub children : List Child
    pub count : length t.flat.scopes ≡ length w.flat.scopes + length children
    pub own : Share (is_assignment F) (λ j. flat_map (assigned_by F j) (module_of source F j).items) i (length w.flat.scopes) (length t.flat.scopes) drivers assigned
    pub kin : Share is_child_of (λ j. flat_map (children_by j) (module_of source F j).items) i (length w.flat.scopes) (length t.flat.scopes) children kids
    pub before : (j : ℕ) → j < length w.flat.scopes → filter (is_connection F j) drivers ≡ []
    pub later : (j : ℕ) → length t.flat.scopes ≤ j → filter (is_connection F j) drivers ≡ []
    pub child : Numbers (ChildIn drivers) (length w.flat.scopes) children
    pub due : AllByRecursion (IsDue F) drivers

  made_none : (i : ℕ) (w t : Walked) → w.flat.drivers ≡ t.flat.drivers → number t ≡ number w → Made i w t [] []
  made_none i w t e n = record {
    drivers = [];
    is = sym e ∙ sym (append-nil w.flat.drivers);
    children = [];
    count = omega (arith, n);
    own = share_none (is_assignment F) all_assigned i (number w) (number t) n;
    kin = share_none is_child_of all_children i (number w) (number t) n;
    before = λ j l. refl;
    later = λ j l. refl;
    child = tt;
    due = tt;
  }

  made_twice : (i : ℕ) (w u t : Walked) (a b : List Driver) (k l : List Child) → i < number w → Made i w u a k → Made i u t b l → Made i w t (a ++ b) (k ++ l)
  made_twice i w u t a b k l il x y =
      let xc = x.count in
      let yc = y.count in
      let lm : number w ≤ number u = omega (arith, xc) in
      let mh : number u ≤ number t = omega (arith, yc) in
      let ds : List Driver = x.drivers ++ y.drivers in
      record {
        drivers = ds;
        is = y.is ∙ (ap (λ (z : List Driver). z ++ y.drivers) x.is ∙ append_assoc w.flat.drivers x.drivers y.drivers);
        children = x.children ++ y.children;
        count = omega (arith, xc, yc, length-append x.children y.children);
        own = share_twice (is_assignment F) all_assigned i (number w) (number u) (number t) x.drivers y.drivers a b il lm mh x.own y.own;
        kin = share_twice is_child_of all_children i (number w) (number u) (number t) x.children y.children k l il lm mh x.kin y.kin;
        before = λ j m. filter_both (is_connection F j) x.drivers y.drivers [] [] (x.before j m) (y.before j (omega (arith, m, lm)));
        later = λ j m. filter_both (is_connection F j) x.drivers y.drivers [] [] (x.later j (omega (arith, m, mh))) (y.later j m);
        child = numbers_twice (ChildIn ds) (number w) (number u) x.children y.children xc
            (numbers_weaker (ChildIn x.drivers) (ChildIn ds) (number w) x.children
            (λ n c m o p. with_more n c ds p (filter_both (is_connection F n) x.drivers y.drivers (made_ports n c) [] p.ports (y.before n (omega (arith, o, xc))) ∙ append-nil (made_ports n c))) x.child)
            (numbers_weaker (ChildIn y.drivers) (ChildIn ds) (number u) y.children (λ n c m o p. with_more n c ds p (filter_both (is_connection F n) x.drivers y.drivers [] (made_ports n c) (x.later n m) p.ports)) y.child);
        due = all_append (IsDue F) x.drivers y.drivers x.due y.due;
      }
    where
      made_ports : ℕ → Child → List Driver
      made_ports n c = flat_map (driver_of_connection F c.parent n) (connected (module_of source F n) c.text.connections)

      with_more : {es : List Driver} (n : ℕ) (c : Child) (ds : List Driver) → ChildIn es n c → filter (is_connection F n) ds ≡ flat_map (driver_of_connection F c.parent n) (connected (module_of source F n) c.text.connections) → ChildIn ds n c
      with_more n c ds p e = record { later = p.later; named = p.named; ports = e; connects = p.connects; owned = p.owned }

  -- One driver

  record Within (i : ℕ) (d : Driver) : Type 0 where
    own : is_assignment F i d ≡ true
    others : (j : ℕ) → (j ≡ i → ⊥) → is_assignment F j d ≡ false
    free : (j : ℕ) → is_connection F j d ≡ false

  made_one : (i : ℕ) (w t : Walked) (d : Driver) → i < number w → i < length F.owners → Within i d → t.flat.drivers ≡ w.flat.drivers ++ d ∷ [] → number t ≡ number w → Made i w t (d ∷ []) []
  made_one i w t d l m h e n = record {
    drivers = d ∷ [];
    is = e;
    children = [];
    count = omega (arith, n);
    own = record {
      here = filter_all (is_assignment F i) (d ∷ []) (h.own, tt);
      before = λ j k differs. filter_nothing (is_assignment F j) (d ∷ []) (h.others j differs, tt);
      new = λ j k o. absurd (omega (arith, k, o, n));
      later = λ j k. filter_nothing (is_assignment F j) (d ∷ []) (h.others j (λ q. omega (arith, q, k, n, l)), tt);
    };
    kin = share_none is_child_of all_children i (number w) (number t) n;
    before = λ j k. filter_nothing (is_connection F j) (d ∷ []) (h.free j, tt);
    later = λ j k. filter_nothing (is_connection F j) (d ∷ []) (h.free j, tt);
    child = tt;
    due = (inl (i, (m, h.own)), tt);
  }

  within_pair : (i : ℕ) (p : NetAssignment) → Within i (driver_of_pair i p)
  within_pair i p = record {
    own = and_from (nat_eq i i) (nat_eq i i) (same_numbers i) (same_numbers i);
    others = λ j d. and_left (nat_eq i j) (nat_eq i j) (other_numbers i j (λ e. d (sym e)));
    free = λ j. refl;
  }

  within_net : (i id : ℕ) (t : Tree) (at : ℕ) → signal_instance F id ≡ i → Within i (record { target = Whole id; value = Written t i; token = at })
  within_net i id t at e = record {
    own = rw e (and_from (nat_eq i i) (nat_eq i i) (same_numbers i) (same_numbers i));
    others = λ j d. rw e (and_left (nat_eq i j) (nat_eq i j) (other_numbers i j (λ q. d (sym q))));
    free = λ j. rw e (not_apart i j);
  }

  -- In an instance of a walk

  -- instance i is one of module k
  pub record Here (i k : ℕ) (w : Walked) : Type 0 where
    pub fine : Fine source.modules w.flat.signals w.flat.scopes w.flat.owners
    pub there : i < length w.flat.scopes
    pub owner : get_or w.flat.owners i 0 ≡ k

  pub here_same : (i k : ℕ) (w v : Walked) → Same w v → Here i k w → Here i k v
  here_same i k w v s h = record {
    fine = naming.fine_same ms w v s h.fine;
    there = subst (λ (ns : List Names). i < length ns) s.scopes h.there;
    owner = subst (λ (os : List ℕ). get_or os i 0 ≡ k) s.owners h.owner;
  }

  -- it stays, as instances are added
  pub here_later : (i k : ℕ) (w v : Walked) → Here i k w → naming.FineWalk source.modules v → Grows w.flat v.flat → Here i k v
  here_later i k w v h f g =
      let a = h.fine.even in
      let b = f.even in
      let l = h.there in
      let e = g.owners.1 in
      let n : length v.flat.owners ≡ length w.flat.owners + length g.owners.0 = ap length e ∙ length-append w.flat.owners g.owners.0 in
      record {
        fine = f;
        there = omega (arith, a, b, l, n);
        owner = ap (λ (os : List ℕ). get_or os i 0) e ∙ (get_or_append_left w.flat.owners g.owners.0 0 i (omega (arith, a, l)) ∙ h.owner);
      }

  pub at_end : (i k : ℕ) (w : Walked) → Here i k w → Grows w.flat F → (i < length F.owners) × (get_or F.owners i 0 ≡ k)
  at_end i k w h g =
      let a = h.fine.even in
      let l = h.there in
      let e = g.owners.1 in
      let n : length F.owners ≡ length w.flat.owners + length g.owners.0 = ap length e ∙ length-append w.flat.owners g.owners.0 in
      (omega (arith, a, l, n), ap (λ (os : List ℕ). get_or os i 0) e ∙ (get_or_append_left w.flat.owners g.owners.0 0 i (omega (arith, a, l)) ∙ h.owner))

  pub module_is : (i k : ℕ) (w : Walked) → Here i k w → Grows w.flat F → module_of source F i ≡ module_at ms k
  module_is i k w h g = ap (λ (z : ℕ). module_at ms z) (at_end i k w h g).1

  -- a name of an instance, in the walk and at its end
  record Known (w : Walked) (i : ℕ) (n : Text) : Type 0 where
    id : ℕ
    found : place_of (lookup n (scope_at w i)) ≡ Some id
    same : signal_at w.flat.signals id ≡ signal_at F.signals id
    named : signal_number F i n ≡ id
    instance : signal_instance F id ≡ i

  known_of : (w : Walked) (i : ℕ) (n : Text) (id : ℕ) → FineWalk ms w → Grows w.flat F → Is w.flat.signals i n id → (signal_at w.flat.signals id).word ≡ None → Known w i n
  known_of w i n id f g (l, (a, b)) whole_word =
      let e : signal_at F.signals id ≡ signal_at w.flat.signals id = ap (λ (ss : List Signal). signal_at ss id) g.signals.1 ∙ get_or_append_left w.flat.signals g.signals.0 no_signal id l in
      let long : length F.signals ≡ length w.flat.signals + length g.signals.0 = ap length g.signals.1 ∙ length-append w.flat.signals g.signals.0 in
      let m : id < length F.signals = omega (arith, l, long) in
      let there : Is F.signals i n id = (m, (ap (λ (s : Signal). s.instance) e ∙ a, ap (λ (s : Signal). s.name) e ∙ b)) in
      record {
        id = id;
        found = ap place_of (named_found ms w.flat.signals w.flat.scopes w.flat.owners i n id f (l, (a, b)) whole_word);
        same = sym e;
        named = number_is (lookup n (scope_in F i)) id (signal_at F.signals id).range (signal_at F.signals id).signed (named_found ms F.signals F.scopes F.owners i n id whole there (ap (λ (s : Signal). s.word) e ∙ whole_word));
        instance = there.1.0;
      }

  -- Continuous assignments

  made_assign : (i k : ℕ) (p : NetAssignment) (w t : Walked) → Here i k w → Grows t.flat F → assign i p w ≡ Ok t → Made i w t (driver_of_pair i p ∷ []) []
  unfolding assign
  made_assign i k p w t h g e =
      let s = settled (expression_faults (loops_at w i) (scope_at w i) p.target ++ expression_faults (loops_at w i) (scope_at w i) p.value) (with_driver (Written p.target i) (Written p.value i) (first p.target) w) t e in
      let a = at_end i k w h (grows_back w t F (assign_same i p w t e) g) in
      made_one i w t (driver_of_pair i p) h.there a.0 (within_pair i p) (ap (λ (u : Walked). u.flat.drivers) (sym s.1)) (ap (λ (u : Walked). length u.flat.scopes) (sym s.1))

  made_net : (i k : ℕ) (n : DeclaredName) (w t : Walked) → DeclaresAs (module_at ms k) false n.text → Here i k w → Grows t.flat F → net i n w ≡ Ok t → Made i w t (driver_of_net F i n) []
  unfolding net net_value
  made_net i k n w t c h g e = by n.value e
    where
      gw : Grows w.flat F
      gw = grows_back w t F (net_same i n w t e) g

      known : Known w i n.text
      known =
          let q = (h.fine.filled i h.there).has n.text false (subst (λ (z : ℕ). DeclaresAs (module_at ms z) false n.text) (sym h.owner) c) in
          known_of w i n.text q.0 h.fine gw q.1.0 (is_none_of (signal_at w.flat.signals q.0).word q.1.1)

      by : (o : Option Tree) → net_with i n.token n.text o w ≡ Ok t → Made i w t (driver_of_value F i n o) []
      by None q = made_none i w t (ap (λ (u : Walked). u.flat.drivers) (ok_is w t q)) (ap (λ (u : Walked). length u.flat.scopes) (sym (ok_is w t q)))
      by (Some v) q =
          let d : Driver = record { target = Whole known.id; value = Written v i; token = n.token } in
          let s = settled (expression_faults (loops_at w i) (scope_at w i) v) (walk.net_driver i n.token v (place_of (lookup n.text (scope_at w i))) w) t q in
          let is : with_driver (Whole known.id) (Written v i) n.token w ≡ t = ap (λ (o : Option ℕ). walk.net_driver i n.token v o w) (sym known.found) ∙ s.1 in
          subst (λ (z : ℕ). Made i w t (record { target = Whole z; value = Written v i; token = n.token } ∷ []) []) (sym known.named)
          (made_one i w t d h.there (at_end i k w h gw).0 (within_net i known.id v n.token known.instance) (ap (λ (u : Walked). u.flat.drivers) (sym is)) (ap (λ (u : Walked). length u.flat.scopes) (sym is)))

  -- over a list

  pub each_later : {X : Type 0} (i k : ℕ) (step : X → Walked → Result Walked FlatFault) → ((x : X) (w t : Walked) → Here i k w → step x w ≡ Ok t → Here i k t × Grows w.flat t.flat) → (xs : List X) (w t : Walked) → Here i k w → each step xs w ≡ Ok t →
      Here i k t × Grows w.flat t.flat
  each_later i k step keeps xs w t h e =
      each_keeps (λ (u : Walked). Here i k u × Grows w.flat u.flat) step (λ x s u p q. let n = keeps x s u p.0 q in (n.0, grows_twice w.flat s.flat u.flat p.1 n.1)) xs w t (h, grows_here w.flat) e

  made_each : {X : Type 0} (B : X → Type 0) (assigned : X → List Driver) (kids : X → List Child) (i k : ℕ) (step : X → Walked → Result Walked FlatFault) →
      ((x : X) (w t : Walked) → Here i k w → step x w ≡ Ok t → Here i k t × Grows w.flat t.flat) →
      ((x : X) (w t : Walked) → B x → Here i k w → Grows t.flat F → step x w ≡ Ok t → Made i w t (assigned x) (kids x)) →
      (xs : List X) (w t : Walked) → AllByRecursion B xs → Here i k w → Grows t.flat F → each step xs w ≡ Ok t → Made i w t (flat_map assigned xs) (flat_map kids xs)
  unfolding each
  made_each B assigned kids i k step keeps one [] w t b h g e = made_none i w t (ap (λ (u : Walked). u.flat.drivers) (ok_is w t e)) (ap (λ (u : Walked). length u.flat.scopes) (sym (ok_is w t e)))
  made_each B assigned kids i k step keeps one (x ∷ xs) w t b h g e =
      let r = first_ok (step x w) (each step xs) t e in
      let n = keeps x w r.0 h r.1.0 in
      let l = each_later i k step keeps xs r.0 t n.0 r.1.1 in
      made_twice i w r.0 t (assigned x) (flat_map assigned xs) (kids x) (flat_map kids xs) h.there (one x w r.0 b.0 h (grows_twice r.0.flat t.flat F l.1 g) r.1.0) (made_each B assigned kids i k step keeps one xs r.0 t b.1 n.0 g r.1.1)

  -- Connections

  port_drivers : (p : Port) (i id : ℕ) (t : Tree) (w : Walked) → (join_port p i id t w).flat.drivers ≡ w.flat.drivers ++ port_driver p id i t
  port_drivers Inner i id t w = sym (append-nil w.flat.drivers)
  port_drivers Input i id t w = refl
  port_drivers Output i id t w = refl

  join_drivers : (i n : ℕ) (name : Text) (t : Tree) (w : Walked) → Known w n name → (join i n name t w).flat.drivers ≡ w.flat.drivers ++ driver_of_connection F i n (name, t)
  unfolding join
  join_drivers i n name t w h =
      let at : (join_at (place_of (lookup name (scope_at w n))) i t w).flat.drivers ≡ (join_at (Some h.id) i t w).flat.drivers = ap (λ (o : Option ℕ). (join_at o i t w).flat.drivers) h.found in
      let same : w.flat.drivers ++ port_driver (signal_at w.flat.signals h.id).port h.id i t ≡ w.flat.drivers ++ port_driver (signal_at F.signals h.id).port h.id i t = ap (λ (s : Signal). w.flat.drivers ++ port_driver s.port h.id i t) h.same in
      let named : w.flat.drivers ++ port_driver (signal_at F.signals h.id).port h.id i t ≡ w.flat.drivers ++ driver_of_connection F i n (name, t) =
      ap (λ (z : ℕ). w.flat.drivers ++ port_driver (signal_at F.signals z).port z i t) (sym h.named) in
      at ∙ (port_drivers (signal_at w.flat.signals h.id).port i h.id t w ∙ (same ∙ named))

  port_known : (n k : ℕ) (name : Text) (w : Walked) → Here n k w → Grows w.flat F → Contains (ports_of (module_at ms k)) name → Known w n name
  port_known n k name w h g c =
      let q = (h.fine.filled n h.there).port name (subst (λ (z : ℕ). Contains (ports_of (module_at ms z)) name) (sym h.owner) c) in
      known_of w n name q.0 h.fine g q.1.0 ((h.fine.one q.0 q.1.0.0).whole q.1.1)

  positions_drivers : (i n k : ℕ) (left : List Text) (ts : Trees) (w : Walked) → Here n k w → Grows w.flat F → ((name : Text) → Contains left name → Contains (ports_of (module_at ms k)) name) →
      (join_positions i n left ts w).flat.drivers ≡ w.flat.drivers ++ flat_map (driver_of_connection F i n) (connected_in_order left ts)
  unfolding join_positions connected_in_order
  positions_drivers i n k left End w h g c = sym (append-nil w.flat.drivers)
  positions_drivers i n k [] (More t ts) w h g c = sym (append-nil w.flat.drivers)
  positions_drivers i n k (p ∷ ps) (More t ts) w h g c =
      let s = join_same i n p t w in
      let v = join i n p t w in
      positions_drivers i n k ps ts v (here_same n k w v s h) (grows_from w v F s g) (λ m q. c m (later p ps m q))
      ∙ (ap (λ (z : List Driver). z ++ flat_map (driver_of_connection F i n) (connected_in_order ps ts)) (join_drivers i n p t w (port_known n k p w h g (c p (here p ps))))
      ∙ append_assoc w.flat.drivers (driver_of_connection F i n (p, t)) (flat_map (driver_of_connection F i n) (connected_in_order ps ts)))

  value_drivers : (i n k : ℕ) (name : Text) (o : Option Tree) (w : Walked) → Here n k w → Grows w.flat F → ((m : Text) → Contains (map (λ (x : Text × Tree). x.0) (connected_value name o)) m → Contains (ports_of (module_at ms k)) m) →
      (join_value i n name o w).flat.drivers ≡ w.flat.drivers ++ flat_map (driver_of_connection F i n) (connected_value name o)
  value_drivers i n k name None w h g c = sym (append-nil w.flat.drivers)
  value_drivers i n k name (Some t) w h g c =
      join_drivers i n name t w (port_known n k name w h g (c name (here name []))) ∙ ap (λ (z : List Driver). w.flat.drivers ++ z) (sym (append-nil (driver_of_connection F i n (name, t))))

  names_drivers : (i n k : ℕ) (list : List NamedConnection) (w : Walked) → Here n k w → Grows w.flat F → ((m : Text) → Contains (map (λ (x : Text × Tree). x.0) (flat_map connected_name list)) m → Contains (ports_of (module_at ms k)) m) →
      (fold (join_named i n) w list).flat.drivers ≡ w.flat.drivers ++ flat_map (driver_of_connection F i n) (flat_map connected_name list)
  names_drivers i n k [] w h g c = sym (append-nil w.flat.drivers)
  names_drivers i n k (x ∷ xs) w h g c =
      let s = join_value_same i n x.text x.value w in
      let v = join_value i n x.text x.value w in
      let here_names : List (Text × Tree) = connected_value x.text x.value in
      let rest : List (Text × Tree) = flat_map connected_name xs in
      names_drivers i n k xs v (here_same n k w v s h) (grows_from w v F s g) (λ m q. c m (names_right here_names rest m q))
      ∙ (ap (λ (z : List Driver). z ++ flat_map (driver_of_connection F i n) rest) (value_drivers i n k x.text x.value w h g (λ m q. c m (names_left here_names rest m q)))
      ∙ (append_assoc w.flat.drivers (flat_map (driver_of_connection F i n) here_names) (flat_map (driver_of_connection F i n) rest)
      ∙ ap (λ (z : List Driver). w.flat.drivers ++ z) (sym (flat_map-append (driver_of_connection F i n) here_names rest))))

  joined_drivers : (i n k : ℕ) (c : Connections) (w : Walked) → Here n k w → Grows w.flat F → Connects (module_at ms k) c →
      (joined i n (module_at ms k) c w).flat.drivers ≡ w.flat.drivers ++ flat_map (driver_of_connection F i n) (connected (module_at ms k) c)
  unfolding joined
  joined_drivers i n k (Positions ts) w h g c =
      ap (λ (left : List Text). (join_positions i n left ts w).flat.drivers) (ports_are (module_at ms k)) ∙ positions_drivers i n k (ports_of (module_at ms k)) ts w h g (λ m q. q)
  joined_drivers i n k (Named list) w h g c = names_drivers i n k list w h g c.known

  -- what a connection is, and is not
  record Conn (n : ℕ) (d : Driver) : Type 0 where
    own : is_connection F n d ≡ true
    others : (j : ℕ) → (j ≡ n → ⊥) → is_connection F j d ≡ false
    free : (j : ℕ) → is_assignment F j d ≡ false

  conn_port : (p : Port) (i n id : ℕ) (t : Tree) → (i ≡ n → ⊥) → signal_instance F id ≡ n → AllByRecursion (Conn n) (port_driver p id i t)
  conn_port Inner i n id t d e = tt
  conn_port Input i n id t d e = (
    record { own = rw e (apart_there i n d); others = λ j q. rw e (apart_else i n j q); free = λ j. rw e (not_both i n j d) },
    tt,
  )
  conn_port Output i n id t d e = (record { own = rw e (apart_there i n d); others = λ j q. rw e (apart_else i n j q); free = λ j. refl }, tt)

  conn_all : (i n k : ℕ) (w : Walked) (cs : List (Text × Tree)) → (i ≡ n → ⊥) → Here n k w → Grows w.flat F → ((m : Text) → Contains (map (λ (x : Text × Tree). x.0) cs) m → Contains (ports_of (module_at ms k)) m) →
      AllByRecursion (Conn n) (flat_map (driver_of_connection F i n) cs)
  conn_all i n k w cs d h g c =
      all_flat (Conn n) (driver_of_connection F i n) cs (all_in (λ (x : Text × Tree). AllByRecursion (Conn n) (driver_of_connection F i n x)) cs (λ x q.
      let known = port_known n k x.0 w h g (c x.0 (in_map (λ (y : Text × Tree). y.0) cs x q)) in
      conn_port (signal_at F.signals (signal_number F n x.0)).port i n (signal_number F n x.0) x.1 d (ap (λ (z : ℕ). signal_instance F z) known.named ∙ known.instance)))

  -- One instance

  -- a module was walked: its instance is the first that is new
  pub record Entering (k n : ℕ) (w t : Walked) : Type 0 where
    pub mid : Walked
    pub same : mid.flat.drivers ≡ w.flat.drivers
    pub one : length mid.flat.scopes ≡ n + 1
    pub fine : Fine ms t.flat.signals t.flat.scopes t.flat.owners
    pub owner : get_or t.flat.owners n 0 ≡ k
    pub made : Made n mid t (flat_map (assigned_by F n) (module_at source.modules k).items) (flat_map (children_by n) (module_at source.modules k).items)

  abbrev pub Enters : Enter → Type 0
  Enters sub = (k : ℕ) (given : Names) (w t : Walked) → FineWalk ms w → Grows t.flat F → sub k given w ≡ Ok t → Entering k (length w.flat.scopes) w t

  no_fault : {A : Type 0} (o : Option FlatFault) (a b : A) → fault_or o a ≡ Ok b → o ≡ None
  no_fault None a b e = refl
  no_fault (Some f) a b e = absurd (not_ok f b e)

  one_child : (i j : ℕ) (c : Child) (cs : List Child) → c.parent ≡ i → (j ≡ i → ⊥) → filter (is_child_of j) (c ∷ cs) ≡ filter (is_child_of j) cs
  one_child i j c cs e d = let b : nat_eq c.parent j ≡ false = other_numbers c.parent j (λ q. d (sym q ∙ e)) in rw b refl

  own_child : (i : ℕ) (c : Child) (cs : List Child) → c.parent ≡ i → filter (is_child_of i) (c ∷ cs) ≡ c ∷ filter (is_child_of i) cs
  own_child i c cs e = let b : nat_eq c.parent i ≡ true = rw e (same_numbers i) in rw b refl

  -- the parts of an instance in i: its walk from mid to last, and then its connections
  module _ (i k n : ℕ) (name : Text) (x : ModuleInstance) (w mid last t : Walked) (il : i < length w.flat.scopes) (nl : length w.flat.scopes ≡ n) (same : mid.flat.drivers ≡ w.flat.drivers) (one : length mid.flat.scopes ≡ n + 1)
      (made : Made n mid last (flat_map (assigned_by F n) (module_at source.modules k).items) (flat_map (children_by n) (module_at source.modules k).items))
      (count : length t.flat.scopes ≡ length last.flat.scopes) (is : t.flat.drivers ≡ last.flat.drivers ++ flat_map (driver_of_connection F i n) (connected (module_at source.modules k) x.connections))
      (conns : AllByRecursion (Conn n) (flat_map (driver_of_connection F i n) (connected (module_at source.modules k) x.connections))) (module_at_end : module_of source F n ≡ module_at source.modules k)
      (named : (module_at source.modules k).text ≡ name) (joins : Connects (module_at source.modules k) x.connections) (inside_end : n < length F.owners) (owned : get_or F.owners n 0 < length source.modules) where
    abbrev child : Child
    child = record { parent = i; module_name = name; text = x }

    abbrev links : List Driver
    links = flat_map (driver_of_connection F i n) (connected (module_at source.modules k) x.connections)

    not_i : n ≡ i → ⊥
    not_i e = omega (arith, e, il, nl)

    i_not : i ≡ n → ⊥
    i_not e = omega (arith, e, il, nl)

    no_links : (j : ℕ) → (j ≡ n → ⊥) → filter (is_connection F j) links ≡ []
    no_links j d = filter_nothing (is_connection F j) links (all_weaker (Conn n) (λ z. is_connection F j z ≡ false) links (λ z c. c.others j d) conns)

    all_links : filter (is_connection F n) links ≡ links
    all_links = filter_all (is_connection F n) links (all_weaker (Conn n) (λ z. is_connection F n z ≡ true) links (λ z c. c.own) conns)

    no_assignment : (j : ℕ) → filter (is_assignment F j) links ≡ []
    no_assignment j = filter_nothing (is_assignment F j) links (all_weaker (Conn n) (λ z. is_assignment F j z ≡ false) links (λ z c. c.free j) conns)

    total : length t.flat.scopes ≡ n + 1 + length made.children
    total = let c = made.count in omega (arith, c, one, count)

    own_share : Share (is_assignment F) (λ j. flat_map (assigned_by F j) (module_of source F j).items) i (length w.flat.scopes) (length t.flat.scopes) (made.drivers ++ links) []
    own_share = record {
      here = filter_both (is_assignment F i) made.drivers links [] [] (made.own.before i (omega (arith, il, one, nl)) i_not) (no_assignment i);
      before = λ j l d. filter_both (is_assignment F j) made.drivers links [] [] (made.own.before j (omega (arith, l, one, nl)) (λ e. omega (arith, e, l, nl))) (no_assignment j);
      new = λ j l m. elim (cases_eq j n) [
        | inl e ↦ subst (λ (z : ℕ). filter (is_assignment F z) (made.drivers ++ links) ≡ flat_map (assigned_by F z) (module_of source F z).items) (sym e)
            (filter_both (is_assignment F n) made.drivers links (flat_map (assigned_by F n) (module_at source.modules k).items) [] made.own.here (no_assignment n)
            ∙ (append-nil (flat_map (assigned_by F n) (module_at source.modules k).items) ∙ ap (λ (z : ModuleDeclaration). flat_map (assigned_by F n) z.items) (sym module_at_end)))
        | inr d ↦ filter_both (is_assignment F j) made.drivers links (all_assigned j) [] (made.own.new j (above j d (omega (arith, l, nl))) (omega (arith, m, count))) (no_assignment j) ∙ append-nil (all_assigned j)
      ];
      later = λ j l. filter_both (is_assignment F j) made.drivers links [] [] (made.own.later j (omega (arith, l, count))) (no_assignment j);
    }
      where
        above : (j : ℕ) → (j ≡ n → ⊥) → n ≤ j → length mid.flat.scopes ≤ j
        above j d l = elim (cases_lt n j) [ inl a ↦ omega (arith, a, one) | inr b ↦ absurd (d (omega (arith, b, l))) ]

    kin_share : Share is_child_of (λ j. flat_map (children_by j) (module_of source F j).items) i (length w.flat.scopes) (length t.flat.scopes) (child ∷ made.children) (child ∷ [])
    kin_share = record {
      here = own_child i child made.children refl ∙ ap (λ (z : List Child). child ∷ z) (made.kin.before i (omega (arith, il, one, nl)) i_not);
      before = λ j l d. one_child i j child made.children refl d ∙ made.kin.before j (omega (arith, l, one, nl)) (λ e. omega (arith, e, l, nl));
      new = λ j l m. elim (cases_eq j n) [
        | inl e ↦ subst (λ (z : ℕ). filter (is_child_of z) (child ∷ made.children) ≡ flat_map (children_by z) (module_of source F z).items) (sym e)
            (one_child i n child made.children refl not_i ∙ (made.kin.here ∙ ap (λ (z : ModuleDeclaration). flat_map (children_by n) z.items) (sym module_at_end)))
        | inr d ↦ one_child i j child made.children refl (λ e. omega (arith, e, l, il)) ∙ made.kin.new j (above j d (omega (arith, l, nl))) (omega (arith, m, count))
      ];
      later = λ j l. one_child i j child made.children refl (λ e. let c = made.count in omega (arith, e, l, il, total, nl)) ∙ made.kin.later j (omega (arith, l, count));
    }
      where
        above : (j : ℕ) → (j ≡ n → ⊥) → n ≤ j → length mid.flat.scopes ≤ j
        above j d l = elim (cases_lt n j) [ inl a ↦ omega (arith, a, one) | inr b ↦ absurd (d (omega (arith, b, l))) ]

    first_child : ChildIn (made.drivers ++ links) n child
    first_child = record {
      later = omega (arith, il, nl);
      named = ap (λ (z : ModuleDeclaration). z.text) module_at_end ∙ named;
      ports = filter_both (is_connection F n) made.drivers links [] links (made.before n (omega (arith, one))) all_links
          ∙ ap (λ (z : ModuleDeclaration). flat_map (driver_of_connection F i n) (connected z x.connections)) (sym module_at_end);
      connects = subst (λ z. Connects z x.connections) (sym module_at_end) joins;
      owned = owned;
    }

    with_links : (j : ℕ) (c : Child) → length mid.flat.scopes ≤ j → ChildIn made.drivers j c → ChildIn (made.drivers ++ links) j c
    with_links j c l p = record {
      later = p.later;
      named = p.named;
      ports = filter_both (is_connection F j) made.drivers links (flat_map (driver_of_connection F c.parent j) (connected (module_of source F j) c.text.connections)) [] p.ports (no_links j (λ e. omega (arith, e, l, one)))
          ∙ append-nil (flat_map (driver_of_connection F c.parent j) (connected (module_of source F j) c.text.connections));
      connects = p.connects;
      owned = p.owned;
    }

    made_child : Made i w t [] (child ∷ [])
    made_child = record {
      drivers = made.drivers ++ links;
      is = is ∙ (ap (λ (z : List Driver). z ++ links) (made.is ∙ ap (λ (z : List Driver). z ++ made.drivers) same) ∙ append_assoc w.flat.drivers made.drivers links);
      children = child ∷ made.children;
      count = omega (arith, total, nl);
      own = own_share;
      kin = kin_share;
      before = λ j l. filter_both (is_connection F j) made.drivers links [] [] (made.before j (omega (arith, l, one, nl))) (no_links j (λ e. omega (arith, e, l, nl)));
      later = λ j l. filter_both (is_connection F j) made.drivers links [] [] (made.later j (omega (arith, l, count))) (no_links j (λ e. omega (arith, e, l, total)));
      child = subst (λ (z : ℕ). Numbers (ChildIn (made.drivers ++ links)) z (child ∷ made.children)) (sym nl) (
        first_child,
        subst (λ (z : ℕ). Numbers (ChildIn (made.drivers ++ links)) z made.children) one
            (numbers_weaker (ChildIn made.drivers) (ChildIn (made.drivers ++ links)) (length mid.flat.scopes) made.children (λ j c l m p. with_links j c l p) made.child),
      );
      due = all_append (IsDue F) made.drivers links made.due (all_weaker (Conn n) (IsDue F) links (λ z c. inr (n, (omega (arith, il, nl), (inside_end, c.own)))) conns);
    }

  checked_connects : (loops : LoopNames) (above : List ℕ) (names : Names) (m : ModuleDeclaration) (k at : ℕ) (over : Option Connections) (x : ModuleInstance) (given : Names) → Distinct (ports_of m) → checked loops above names m k at over x ≡ Ok given → Connects m x.connections
  unfolding checked
  checked_connects loops above names m k at over x given d e =
      let o = overrides m names (noted None (fault_if (list_any (nat_eq k) above) (SelfInstance at))) over in
      let found = noted o.found (fault_if (is_some (lookup x.text names)) (NameTwice x.token)) in
      connects loops m names found x.connections d (no_fault (connections loops m names found x.connections) o.given given e)

  abbrev child_of : ℕ → Text → ModuleInstance → Child
  child_of i m x = record { parent = i; module_name = m; text = x }

  made_instance : (above : List ℕ) (i k : ℕ) (sub : Enter) → Enters sub → (at : ℕ) (over : Option Connections) (m : Text) (x : ModuleInstance) (w t : Walked) (o : Option ℕ) → place_of (lookup m table) ≡ o → Here i k w → Grows t.flat F →
      walk.instance_of ms above i sub at over o x w ≡ Ok t → Made i w t [] (record { parent = i; module_name = m; text = x } ∷ [])
  made_instance above i k sub s at over m x w t None q h g e = absurd (unknown ms above i sub at over x w t e)
  made_instance above i k sub s at over m x w t (Some kk) q h g e =
      let r = inside ms above i sub at over kk x w t e in
      let n = length w.flat.scopes in
      let v = with_instance i x.text w in
      let u = joined i n (module_at ms kk) x.connections r.mid in
      let js = joined_same i n (module_at ms kk) x.connections r.mid in
      let gu : Grows u.flat F = subst (λ (z : Walked). Grows z.flat F) (sym r.is) g in
      let gm : Grows r.mid.flat F = grows_back r.mid u F js gu in
      let en : Entering kk n v r.mid = subst (λ (z : ℕ). Entering kk z v r.mid) (length-set w.flat.scopes i (with_name (scope_at w i) x.text entity.Instance)) (s kk r.given v r.mid (naming.fine_named ms i x.text w h.fine) gm r.walked) in
      let there : n < length r.mid.flat.scopes = let c = en.made.count in let one = en.one in omega (arith, c, one) in
      let hn : Here n kk r.mid = record { fine = en.fine; there = there; owner = en.owner } in
      let apart : Distinct (ports_of (module_at ms kk)) = subst (λ (z : ℕ). Distinct (ports_of (module_at ms z))) en.owner (en.fine.filled n there).apart in
      let joins = checked_connects (loops_at w i) above (scope_at w i) (module_at ms kk) kk at over x r.given apart r.settings in
      let l = h.there in
      let ae = at_end n kk r.mid hn gm in
      subst (λ (z : Walked). Made i w z [] (record { parent = i; module_name = m; text = x } ∷ [])) r.is
      (made_child i kk n m x w en.mid r.mid u h.there refl en.same en.one en.made (ap (λ (ns : List Names). length ns) (sym js.scopes)) (joined_drivers i n kk x.connections r.mid hn gm joins)
      (conn_all i n kk r.mid (connected (module_at ms kk) x.connections) (λ z. omega (arith, z, l)) hn gm joins.known) (module_is n kk r.mid hn gm) (placed ms table m kk tabled q).1 joins ae.0
      (subst (λ (z : ℕ). z < length source.modules) (sym ae.1) (placed ms table m kk tabled q).0))

  -- Items

  pub instance_keeps : (above : List ℕ) (i k : ℕ) (sub : Enter) → naming.Enters ms sub → EnterGrows sub → (at : ℕ) (over : Option Connections) (o : Option ℕ) (x : ModuleInstance) (w t : Walked) → Here i k w →
      walk.instance_of ms above i sub at over o x w ≡ Ok t → Here i k t × Grows w.flat t.flat
  instance_keeps above i k sub fs gs at over o x w t h e =
      let g = instance_grows ms above i sub at over o gs x w t e in
      (here_later i k w t h (naming.after_instance ms above i sub at over o fs x w t h.fine e) g, g)

  pub item_keeps : (above : List ℕ) (i k : ℕ) (sub : Enter) → naming.Enters ms sub → EnterGrows sub → (x : ModuleItem) (w t : Walked) → Here i k w → item ms table above i sub x w ≡ Ok t → Here i k t × Grows w.flat t.flat
  item_keeps above i k sub fs gs x w t h e =
      let g = item_grows ms table above i sub gs x w t e in
      (here_later i k w t h (naming.after_item ms table above i sub fs x w t h.fine e) g, g)

  nothing_made : (i : ℕ) (w t : Walked) → w ≡ t → Made i w t [] []
  nothing_made i w t e = made_none i w t (ap (λ (u : Walked). u.flat.drivers) e) (ap (λ (u : Walked). length u.flat.scopes) (sym e))

  made_item : (above : List ℕ) (i k : ℕ) (sub : Enter) → naming.Enters ms sub → EnterGrows sub → Enters sub → (x : ModuleItem) (w t : Walked) → Contains (items_of k) x → Here i k w → Grows t.flat F → item ms table above i sub x w ≡ Ok t →
      Made i w t (assigned_by F i x) (children_by i x)
  unfolding item
  made_item above i k sub fs gs s (Ports p) w t c h g e = nothing_made i w t (ok_is w t e)
  made_item above i k sub fs gs s (Nets signed range list) w t c h g e =
      subst (λ kids. Made i w t (flat_map (driver_of_net F i) list) kids) (flat_none list)
      (made_each (λ (n : DeclaredName). DeclaresAs (module_at ms k) false n.text) (driver_of_net F i) (λ (n : DeclaredName). none_of Child) i k (net i) (λ n a b p q. let z = net_same i n a b q in (here_same i k a b z p, same_grows a b z))
      (λ n a b d p u q. made_net i k n a b d p u q) list w t
      (all_in (λ (n : DeclaredName). DeclaresAs (module_at ms k) false n.text) list (λ n q. inr (Nets signed range list, (c, in_map single list n q)))) h g e)
  made_item above i k sub fs gs s (Variables signed range list) w t c h g e = nothing_made i w t (ok_is w t e)
  made_item above i k sub fs gs s (Integers list) w t c h g e = nothing_made i w t (ok_is w t e)
  made_item above i k sub fs gs s (Parameters p) w t c h g e = nothing_made i w t (ok_is w t e)
  made_item above i k sub fs gs s (Assigns pairs) w t c h g e =
      subst (λ ds. Made i w t ds []) (flat_map_single (driver_of_pair i) pairs)
      (subst (λ kids. Made i w t (flat_map (λ (p : NetAssignment). driver_of_pair i p ∷ []) pairs) kids) (flat_none pairs)
      (made_each (λ (p : NetAssignment). Unit {0}) (λ (p : NetAssignment). driver_of_pair i p ∷ []) (λ (p : NetAssignment). none_of Child) i k (assign i) (λ n a b p q. let z = assign_same i n a b q in (here_same i k a b z p, same_grows a b z))
      (λ n a b d p u q. made_assign i k n a b p u q) pairs w t (all_in (λ (p : NetAssignment). Unit {0}) pairs (λ p q. tt)) h g e))
  made_item above i k sub fs gs s (Always events body at) w t c h g e =
      made_none i w t (always_drivers i events body at w t e) (ap (λ (ns : List Names). length ns) (sym (always_same i events body at w t e).scopes))
  made_item above i k sub fs gs s (Initial body at) w t c h g e =
      made_none i w t (initial_drivers i body at w t e) (ap (λ (ns : List Names). length ns) (sym (initial_same i body at w t e).scopes))
  made_item above i k sub fs gs s (Instances m at over list) w t c h g e =
      subst (λ ds. Made i w t ds (map (child_of i m) list)) (flat_none list)
      (subst (λ kids. Made i w t (flat_map (λ (x : ModuleInstance). none_of Driver) list) kids) (flat_map_single (child_of i m) list)
      (made_each (λ (x : ModuleInstance). Unit {0}) (λ (x : ModuleInstance). none_of Driver) (λ (x : ModuleInstance). child_of i m x ∷ []) i k (walk.instance_of ms above i sub at over (place_of (lookup m table)))
      (λ x a b p q. instance_keeps above i k sub fs gs at over (place_of (lookup m table)) x a b p q)
      (λ x a b d p u q. made_instance above i k sub s at over m x a b (place_of (lookup m table)) refl p u q) list w t (all_in (λ (x : ModuleInstance). Unit {0}) list (λ x q. tt)) h g e))

  -- Modules

  made_enter_by : (sub : List ℕ → Enter) → ((above : List ℕ) → naming.Enters ms (sub above)) → ((above : List ℕ) → EnterGrows (sub above)) → ((above : List ℕ) → Enters (sub above)) → (above : List ℕ) → Enters (enter_by ms table sub above)
  made_enter_by sub fs gs s above k given w t f g e =
      let r = entered ms table sub above k given w t e in
      let b = began ms k given w r.mid r.began in
      let n = length w.flat.scopes in
      let inner = above ++ k ∷ [] in
      let o = opened_head n (length w.flat.signals) w.bits given (module_at ms k) b.top b.found in
      let one : length r.mid.flat.scopes ≡ n + 1 = ap (λ (u : Walked). length u.flat.scopes) (sym b.is) ∙ length-append w.flat.scopes (b.top.scope ∷ []) in
      let h : Here n k r.mid = record {
        fine = subst (FineWalk ms) b.is (naming.fine_opened ms k b.top w f o);
        there = omega (arith, one);
        owner = ap (λ (u : Walked). get_or u.flat.owners n 0) (sym b.is) ∙ naming.last_entry ms w.flat.owners k 0 n (sym f.even);
      } in
      let step = item ms table inner n (sub inner) in
      let l = each_later n k step (λ x a c p q. item_keeps inner n k (sub inner) (fs inner) (gs inner) x a c p q) (items_of k) r.mid t h r.walked in
      record {
        mid = r.mid;
        same = ap (λ (u : Walked). u.flat.drivers) (sym b.is);
        one = one;
        fine = l.0.fine;
        owner = l.0.owner;
        made = made_each (Contains (items_of k)) (assigned_by F n) (children_by n) n k step (λ x a c p q. item_keeps inner n k (sub inner) (fs inner) (gs inner) x a c p q)
            (λ x a c d p u q. made_item inner n k (sub inner) (fs inner) (gs inner) (s inner) x a c d p u q) (items_of k) r.mid t (all_in (Contains (items_of k)) (items_of k) (λ x c. c)) h g r.walked;
      }

  pub made_enter : (levels : ℕ) (above : List ℕ) → Enters (enter ms table levels above)
  unfolding enter
  made_enter zero above k given w t f g e = absurd (not_ok _ t e)
  made_enter (suc levels) above k given w t f g e = made_enter_by (enter ms table levels) (naming.after_enter ms table levels) (enter_grows ms table levels) (made_enter levels) above k given w t f g e
