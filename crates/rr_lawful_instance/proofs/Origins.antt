-- Each driver and each block of the flat design of a source comes from an item of the module of its scope.
use Rattle.std.proofs.Common.{◌≡◌, inl, inr, ℕ, zero, suc, ◌+◌, ◌-◌, ◌<◌, Bool, true, false, List, [], ◌∷◌, ◌++◌, length, Option, Some, None, Result, Ok, refl, sym, subst, ap, ◌∙◌, arith, length-append}
use Rattle.std.specs.Prelude.{slice_index_or}
use Rattle.std.specs.List.{AllByRecursion, Contains}
use Rattle.std.proofs.lemmas.List.{length-set, get_or_append_left, get_or-append_right}
use Rattle.rr_syntax.specs.Tree.{Tree, Trees, End, More, Statement, DeclaredName, NetAssignment, EventControl, Star, Edges, Levels, Connections, Positions, Names as Named, ModuleInstance, ModuleItem, Ports, Nets, Variables, Integers, Parameters, Assigns, Always, Initial, Instances, ModuleDeclaration, SourceText}
use Rattle.rr_expr.specs.Faults.{first}
use Rattle.rr_expr.specs.Scopes.{Names, lookup}
use Rattle.rr_expr.specs.declared.types.Entity.TheVariants as entity
use Rattle.rr_flat.specs.declared.fault.FlatFault.{FlatFault}
use Rattle.rr_flat.specs.declared.signal.Port.{Port}
use Rattle.rr_flat.specs.declared.signal.Port.TheVariants.{Inner, Input, Output}
use Rattle.rr_flat.specs.Faults.{and_then, each}
use Rattle.rr_declarations.specs.Heads.{Head}
use Rattle.rr_flat.specs.Signals.{with_name, Text, signal_at}
use Rattle.rr_flat.specs.Plain.{Side, Written, Whole, Driver, Block, Flat}
use Rattle.rr_flatten.specs.Tables.{place_of, add_module, port_names}
use Rattle.rr_flatten.specs.Walk.{Walked, Enter, scope_at, module_at, with_driver, with_block, assign, net_driver, net_value, net_with, net, always, with_initial, initial, with_instance, join_port, join_at, join, join_value, join_named, join_positions, joined, instance_of, item, opened, enter_by, enter, nothing, finished, top_place, enter_top, flat_by, flat_of}
use Rattle.rr_flatten.proofs.Gives.{always_gives, initial_gives}
use Rattle.rr_loop_rules.specs.Rules.{LoopNames, loop_names}
use Rattle.rr_unfold.specs.Unfold.{unfold_statement}
use Rattle.rr_flatten.proofs.HeadOf.{ok_is, not_ok, settled_is, first_ok, fold_over, all_append, all_weaker}
use Rattle.rr_flat_instance.specs.Places.{Somewhere, IsNameOfValue, IsNameOfNet, IsNameOfPair, IsNameOfConnection, IsNameOfConnections, IsNameOfInstance, IsNameOfItem}
use Rattle.rr_flat_instance.proofs.Grown.{EnterGrows, began, inside, entered, enter_grows}
use Rattle.rr_flat_instance.proofs.Lists.{Begins}
use Rattle.rr_choice.specs.Sites.{Site}
use Rattle.rr_instance_laws.specs.Tests.{IsGuardName, IsGuardNameIn}
use Rattle.rr_change_places.specs.Spots.{has_edges, is_clocked}
use Rattle.rr_lawful_instance.specs.Listed.{items_of}
use Rattle.rr_lawful_instance.proofs.Lists.{by_element}

-- one step for each of a list, of which each has a property
each_over : {X S : Type 0} (B : X → Type 0) (P : S → Type 0) (step : X → S → Result S FlatFault) → ((x : X) (s t : S) → B x → P s → step x s ≡ Ok t → P t) →
    (xs : List X) (s t : S) → AllByRecursion B xs → P s → each step xs s ≡ Ok t → P t
unfolding each
each_over B P step k [] s t b p h = subst P (ok_is s t h) p
each_over B P step k (x ∷ xs) s t b p h =
    let r = first_ok (step x s) (each step xs) t h in
    each_over B P step k xs r.0 t b.1 (k x s r.0 b.0 p r.1.0) r.1.1

-- what holds of each name of a list's parts holds of those of each part
all_parts : {X : Type 0} (Q : Text → X → Type 0) (R : Text → Type 0) (xs : List X) → ((name : Text) → Somewhere (Q name) xs → R name) → AllByRecursion (λ x. (name : Text) → Q name x → R name) xs
unfolding Somewhere
all_parts Q R [] h = tt
all_parts Q R (x ∷ xs) h = (λ name q. h name (inl q), all_parts Q R xs (λ name q. h name (inr q)))

-- a statement is another one in which loops are unfolded in some scope
abbrev pub IsUnfolded : Statement → Statement → Type 0
IsUnfolded s body = (names : Names) × (body ≡ unfold_statement names [] s)

module _ (ms : List ModuleDeclaration) (ss : List Site) where
  abbrev owner_in : List ℕ → ℕ → ℕ
  owner_in owners i = slice_index_or owners i 0

  -- the names that guards may bring into an expression, they bring into the item
  abbrev pub IsBrought : Tree → ModuleItem → Type 0
  IsBrought t x = (name : Text) → IsGuardName ss t name → IsNameOfItem ss name x

  abbrev pub SideFrom : List ℕ → Side → Type 0
  SideFrom owners (Written t i) = (i < length owners) × ((x : ModuleItem) × (Contains (items_of ms (owner_in owners i)) x × (is_clocked x ≡ false) × IsBrought t x))
  SideFrom owners (Whole id) = Unit {0}

  abbrev pub DriverFrom : List ℕ → Driver → Type 0
  DriverFrom owners d = SideFrom owners d.value

  -- its body is that of the item, in which loops are unfolded
  abbrev pub BlockFrom : Bool → List ℕ → Block → Type 0
  BlockFrom clocked owners b =
      (b.scope < length owners) × ((events : EventControl) × ((at : ℕ) × ((s : Statement) ×
      (Contains (items_of ms (owner_in owners b.scope)) (Always events s at) × (has_edges events ≡ clocked) × IsUnfolded s b.body))))

  pub record From (flat : Flat) : Type 0 where
    pub even : length flat.owners ≡ length flat.scopes
    pub drivers : AllByRecursion (DriverFrom flat.owners) flat.drivers
    pub clocked : AllByRecursion (BlockFrom true flat.owners) flat.clocked
    pub combinational : AllByRecursion (BlockFrom false flat.owners) flat.combinational

  -- in instance i, which is one of module k
  abbrev Good : ℕ → ℕ → Walked → Type 0
  Good i k w = From w.flat × (i < length w.flat.owners) × (owner_in w.flat.owners i ≡ k)

  -- an item of it that is no `always` with edges
  abbrev IsQuiet : ℕ → ModuleItem → Type 0
  IsQuiet k x = Contains (items_of ms k) x × (is_clocked x ≡ false)

  driven : (i k : ℕ) (target value : Side) (at : ℕ) (w : Walked) → SideFrom w.flat.owners value → Good i k w → Good i k (with_driver target value at w)
  driven i k target value at w s g = (
    record {
      even = g.0.even;
      drivers = all_append (DriverFrom w.flat.owners) w.flat.drivers (record { target = target; value = value; token = at } ∷ []) g.0.drivers (s, tt);
      clocked = g.0.clocked;
      combinational = g.0.combinational;
    },
    g.1,
    g.2,
  )

  from_item : (i k : ℕ) (x : ModuleItem) (t : Tree) (w : Walked) → IsQuiet k x → IsBrought t x → Good i k w → SideFrom w.flat.owners (Written t i)
  from_item i k x t w q b g = (g.1, (x, (subst (λ m. Contains (items_of ms m) x) (sym g.2) q.0, q.1, b)))

  after_assign : (i k : ℕ) (x : ModuleItem) → IsQuiet k x → (p : NetAssignment) (w t : Walked) → ((name : Text) → IsNameOfPair ss name p → IsNameOfItem ss name x) → Good i k w → assign i p w ≡ Ok t → Good i k t
  unfolding assign
  after_assign i k x q p w t b g e =
      subst (Good i k) (settled_is _ (with_driver (Written p.target i) (Written p.value i) (first p.target) w) t e)
      (driven i k (Written p.target i) (Written p.value i) (first p.target) w (from_item i k x p.value w q b g) g)

  after_net_driver : (i k : ℕ) (x : ModuleItem) → IsQuiet k x → (at : ℕ) (u : Tree) → IsBrought u x → (o : Option ℕ) (w : Walked) → Good i k w → Good i k (net_driver i at u o w)
  after_net_driver i k x q at u b None w g = g
  after_net_driver i k x q at u b (Some id) w g = driven i k (Whole id) (Written u i) at w (from_item i k x u w q b g) g

  after_net_with : (i k : ℕ) (x : ModuleItem) → IsQuiet k x → (at : ℕ) (text : Text) (o : Option Tree) (w t : Walked) → ((name : Text) → IsNameOfValue ss o name → IsNameOfItem ss name x) → Good i k w →
      net_with i at text o w ≡ Ok t → Good i k t
  unfolding net_value
  after_net_with i k x q at text None w t b g e = subst (Good i k) (ok_is w t e) g
  after_net_with i k x q at text (Some u) w t b g e =
      subst (Good i k) (settled_is _ (net_driver i at u (place_of (lookup text (scope_at w i))) w) t e) (after_net_driver i k x q at u b (place_of (lookup text (scope_at w i))) w g)

  after_net : (i k : ℕ) (x : ModuleItem) → IsQuiet k x → (n : DeclaredName) (w t : Walked) → ((name : Text) → IsNameOfNet ss name n → IsNameOfItem ss name x) → Good i k w → net i n w ≡ Ok t → Good i k t
  unfolding net
  after_net i k x q n w t b g e = after_net_with i k x q n.token n.text n.value w t b g e

  after_block : (i k : ℕ) (events : EventControl) (s body : Statement) (at : ℕ) (w : Walked) → Contains (items_of ms k) (Always events s at) → IsUnfolded s body → Good i k w → Good i k (with_block i events body at w)
  after_block i k (Star brackets) s body at w c u g = (
    record {
      even = g.0.even;
      drivers = g.0.drivers;
      clocked = g.0.clocked;
      combinational = all_append (BlockFrom false w.flat.owners) w.flat.combinational (record { body = body; edges = []; scope = i; token = at } ∷ []) g.0.combinational
          ((g.1, (Star brackets, (at, (s, (subst (λ m. Contains (items_of ms m) (Always (Star brackets) s at)) (sym g.2) c, refl, u))))), tt);
    },
    g.1,
    g.2,
  )
  after_block i k (Edges list commas) s body at w c u g = (
    record {
      even = g.0.even;
      drivers = g.0.drivers;
      clocked = all_append (BlockFrom true w.flat.owners) w.flat.clocked (record { body = body; edges = list; scope = i; token = at } ∷ []) g.0.clocked
          ((g.1, (Edges list commas, (at, (s, (subst (λ m. Contains (items_of ms m) (Always (Edges list commas) s at)) (sym g.2) c, refl, u))))), tt);
      combinational = g.0.combinational;
    },
    g.1,
    g.2,
  )
  after_block i k (Levels list commas) s body at w c u g = (
    record {
      even = g.0.even;
      drivers = g.0.drivers;
      clocked = g.0.clocked;
      combinational = all_append (BlockFrom false w.flat.owners) w.flat.combinational (record { body = body; edges = []; scope = i; token = at } ∷ []) g.0.combinational
          ((g.1, (Levels list commas, (at, (s, (subst (λ m. Contains (items_of ms m) (Always (Levels list commas) s at)) (sym g.2) c, refl, u))))), tt);
    },
    g.1,
    g.2,
  )

  after_always : (i k : ℕ) (events : EventControl) (s : Statement) (at : ℕ) (w t : Walked) → Contains (items_of ms k) (Always events s at) → Good i k w → always i events s at w ≡ Ok t → Good i k t
  after_always i k events s at w t c g e =
      let r = always_gives i events s at w t e in
      subst (Good i k) r.1.1 (after_block i k events s (unfold_statement (scope_at w i) [] s) at (record w { count = r.0 }) c (scope_at w i, refl) g)

  -- an `initial` item is neither a driver nor a block
  after_initial : (i k : ℕ) (s : Statement) (at : ℕ) (w t : Walked) → Good i k w → initial i s at w ≡ Ok t → Good i k t
  after_initial i k s at w t g e =
      let r = initial_gives i s at w t e in
      let body : Statement = unfold_statement (scope_at w i) [] s in
      let more : Good i k (with_initial i body at (record w { count = r.0 })) =
      (record { even = g.0.even; drivers = g.0.drivers; clocked = g.0.clocked; combinational = g.0.combinational }, g.1, g.2) in
      subst (Good i k) r.1.1 more

  -- Connections

  after_port : (i k : ℕ) (x : ModuleItem) → IsQuiet k x → (p : Port) (id : ℕ) (u : Tree) (w : Walked) → IsBrought u x → Good i k w → Good i k (join_port p i id u w)
  after_port i k x q Inner id u w b g = g
  after_port i k x q Input id u w b g = driven i k (Whole id) (Written u i) (first u) w (from_item i k x u w q b g) g
  after_port i k x q Output id u w b g = driven i k (Written u i) (Whole id) (first u) w tt g

  after_join_at : (i k : ℕ) (x : ModuleItem) → IsQuiet k x → (o : Option ℕ) (u : Tree) (w : Walked) → IsBrought u x → Good i k w → Good i k (join_at o i u w)
  after_join_at i k x q None u w b g = g
  after_join_at i k x q (Some id) u w b g = after_port i k x q (signal_at w.flat.signals id).port id u w b g

  after_join : (i k j : ℕ) (x : ModuleItem) → IsQuiet k x → (text : Text) (u : Tree) (w : Walked) → IsBrought u x → Good i k w → Good i k (join i j text u w)
  unfolding join
  after_join i k j x q text u w b g = after_join_at i k x q (place_of (lookup text (scope_at w j))) u w b g

  after_value : (i k j : ℕ) (x : ModuleItem) → IsQuiet k x → (text : Text) (o : Option Tree) (w : Walked) → ((name : Text) → IsNameOfValue ss o name → IsNameOfItem ss name x) → Good i k w → Good i k (join_value i j text o w)
  after_value i k j x q text None w b g = g
  after_value i k j x q text (Some u) w b g = after_join i k j x q text u w b g

  after_positions : (i k j : ℕ) (x : ModuleItem) → IsQuiet k x → (left : List Text) (ts : Trees) (w : Walked) → ((name : Text) → IsGuardNameIn ss ts name → IsNameOfItem ss name x) → Good i k w → Good i k (join_positions i j left ts w)
  unfolding join_positions IsGuardName
  after_positions i k j x q left End w b g = g
  after_positions i k j x q [] (More u us) w b g = g
  after_positions i k j x q (p ∷ ps) (More u us) w b g = after_positions i k j x q ps us (join i j p u w) (λ name n. b name (inr n)) (after_join i k j x q p u w (λ name n. b name (inl n)) g)

  after_joined : (i k j : ℕ) (x : ModuleItem) → IsQuiet k x → (m : ModuleDeclaration) (c : Connections) (w : Walked) → ((name : Text) → IsNameOfConnections ss name c → IsNameOfItem ss name x) → Good i k w → Good i k (joined i j m c w)
  unfolding joined IsNameOfConnections
  after_joined i k j x q m (Positions ts) w b g = after_positions i k j x q (port_names m) ts w b g
  after_joined i k j x q m (Named list) w b g =
      fold_over (λ n. (name : Text) → IsNameOfConnection ss name n → IsNameOfItem ss name x) (Good i k) (join_named i j) (λ n s h p. after_value i k j x q n.text n.value s h p) list w
      (all_parts (λ name n. IsNameOfConnection ss name n) (λ name. IsNameOfItem ss name x) list b) g

  -- Instances

  abbrev Enters : Enter → Type 0
  Enters sub = (k : ℕ) (given : Names) (w t : Walked) → From w.flat → sub k given w ≡ Ok t → From t.flat

  later_owner : (xs ys : List ℕ) (i k : ℕ) → Begins xs ys → (i < length xs) × (owner_in xs i ≡ k) → (i < length ys) × (owner_in ys i ≡ k)
  later_owner xs ys i k (zs, e) (l, o) =
      let long : length ys ≡ length xs + length zs = ap length e ∙ length-append xs zs in
      (omega (arith, l, long), ap (λ (us : List ℕ). owner_in us i) e ∙ get_or_append_left xs zs 0 i l ∙ o)

  named : (i k j : ℕ) (text : Text) (w : Walked) → Good i k w → Good i k (with_instance j text w)
  named i k j text w g = (
    record {
      even = g.0.even ∙ sym (length-set w.flat.scopes j (with_name (scope_at w j) text entity.Instance));
      drivers = g.0.drivers;
      clocked = g.0.clocked;
      combinational = g.0.combinational;
    },
    g.1,
    g.2,
  )

  after_instance : (above : List ℕ) (i k : ℕ) (x : ModuleItem) → IsQuiet k x → (sub : Enter) → EnterGrows sub → Enters sub → (at : ℕ) (over : Option Connections) (o : Option ℕ) (y : ModuleInstance) (w t : Walked) →
      ((name : Text) → IsNameOfInstance ss name y → IsNameOfItem ss name x) → Good i k w → instance_of ms above i sub at over o y w ≡ Ok t → Good i k t
  unfolding instance_of
  after_instance above i k x q sub gs s at over None y w t b g e = absurd (not_ok _ t e)
  after_instance above i k x q sub gs s at over (Some m) y w t b g e =
      let r = inside ms above i sub at over m y w t e in
      let n = named i k i y.text w g in
      let f = s m r.given (with_instance i y.text w) r.mid n.0 r.walked in
      let o = later_owner w.flat.owners r.mid.flat.owners i k (gs m r.given (with_instance i y.text w) r.mid r.walked).owners (g.1, g.2) in
      subst (Good i k) r.is (after_joined i k (length w.flat.scopes) x q (module_at ms m) y.connections r.mid b (f, o.0, o.1))

  after_item : (table : Names) (above : List ℕ) (i k : ℕ) (sub : Enter) → EnterGrows sub → Enters sub → (x : ModuleItem) (w t : Walked) → Contains (items_of ms k) x → Good i k w → item ms table above i sub x w ≡ Ok t → Good i k t
  unfolding item IsNameOfItem
  after_item table above i k sub gs s (Ports p) w t c g e = subst (Good i k) (ok_is w t e) g
  after_item table above i k sub gs s (Nets signed range list) w t c g e =
      each_over (λ n. (name : Text) → IsNameOfNet ss name n → IsNameOfItem ss name (Nets signed range list)) (Good i k) (net i) (λ n u v b p h. after_net i k (Nets signed range list) (c, refl) n u v b p h) list w t
      (all_parts (λ name n. IsNameOfNet ss name n) (λ name. IsNameOfItem ss name (Nets signed range list)) list (λ name n. n)) g e
  after_item table above i k sub gs s (Variables signed range list) w t c g e = subst (Good i k) (ok_is w t e) g
  after_item table above i k sub gs s (Integers list) w t c g e = subst (Good i k) (ok_is w t e) g
  after_item table above i k sub gs s (Parameters p) w t c g e = subst (Good i k) (ok_is w t e) g
  after_item table above i k sub gs s (Assigns pairs) w t c g e =
      each_over (λ n. (name : Text) → IsNameOfPair ss name n → IsNameOfItem ss name (Assigns pairs)) (Good i k) (assign i) (λ n u v b p h. after_assign i k (Assigns pairs) (c, refl) n u v b p h) pairs w t
      (all_parts (λ name n. IsNameOfPair ss name n) (λ name. IsNameOfItem ss name (Assigns pairs)) pairs (λ name n. n)) g e
  after_item table above i k sub gs s (Always events body at) w t c g e = after_always i k events body at w t c g e
  after_item table above i k sub gs s (Initial body at) w t c g e = after_initial i k body at w t g e
  after_item table above i k sub gs s (Instances m at over list) w t c g e =
      each_over (λ n. (name : Text) → IsNameOfInstance ss name n → IsNameOfItem ss name (Instances m at over list)) (Good i k) (instance_of ms above i sub at over (place_of (lookup m table)))
      (λ n u v b p h. after_instance above i k (Instances m at over list) (c, refl) sub gs s at over (place_of (lookup m table)) n u v b p h) list w t
      (all_parts (λ name n. IsNameOfInstance ss name n) (λ name. IsNameOfItem ss name (Instances m at over list)) list (λ name n. n)) g e

  -- Modules

  side_before : (owners more : List ℕ) (side : Side) → SideFrom owners side → SideFrom (owners ++ more) side
  side_before owners more (Written t i) (l, (x, f)) =
      let o = later_owner owners (owners ++ more) i (owner_in owners i) (more, refl) (l, refl) in
      (o.0, (x, (subst (λ m. Contains (items_of ms m) x) (sym o.1) f.0, f.1, f.2)))
  side_before owners more (Whole id) f = tt

  block_before : (clocked : Bool) (owners more : List ℕ) (b : Block) → BlockFrom clocked owners b → BlockFrom clocked (owners ++ more) b
  block_before clocked owners more b (l, (events, (at, (s, f)))) =
      let o = later_owner owners (owners ++ more) b.scope (owner_in owners b.scope) (more, refl) (l, refl) in
      (o.0, (events, (at, (s, (subst (λ m. Contains (items_of ms m) (Always events s at)) (sym o.1) f.0, f.1, f.2)))))

  after_opened : (k : ℕ) (h : Head) (names : LoopNames) (w : Walked) → From w.flat → Good (length w.flat.scopes) k (opened k h names w)
  after_opened k h names w f =
      let z : length w.flat.scopes - length w.flat.owners ≡ 0 = let e = f.even in omega (arith, e) in (
        record {
          even = length-append w.flat.owners (k ∷ []) ∙ (ap (λ (n : ℕ). n + 1) f.even ∙ sym (length-append w.flat.scopes (h.scope ∷ [])));
          drivers = all_weaker (DriverFrom w.flat.owners) (DriverFrom (w.flat.owners ++ k ∷ [])) w.flat.drivers (λ d s. side_before w.flat.owners (k ∷ []) d.value s) f.drivers;
          clocked = all_weaker (BlockFrom true w.flat.owners) (BlockFrom true (w.flat.owners ++ k ∷ [])) w.flat.clocked (λ b s. block_before true w.flat.owners (k ∷ []) b s) f.clocked;
          combinational = all_weaker (BlockFrom false w.flat.owners) (BlockFrom false (w.flat.owners ++ k ∷ [])) w.flat.combinational (λ b s. block_before false w.flat.owners (k ∷ []) b s) f.combinational;
        },
        (let e = f.even in let n = length-append w.flat.owners (k ∷ []) in omega (arith, e, n)),
        get_or-append_right w.flat.owners (k ∷ []) (length w.flat.owners) (length w.flat.scopes) 0 refl (let e = f.even in omega (arith, e)) ∙ ap (λ (n : ℕ). slice_index_or (k ∷ []) n 0) z,
      )

  after_enter_by : (table : Names) (sub : List ℕ → Enter) → ((above : List ℕ) → EnterGrows (sub above)) → ((above : List ℕ) → Enters (sub above)) → (above : List ℕ) → Enters (enter_by ms table sub above)
  after_enter_by table sub gs s above k given w t f e =
      let r = entered ms table sub above k given w t e in
      let b = began ms k given w r.mid r.began in
      let i = length w.flat.scopes in
      (each_over (Contains (items_of ms k)) (Good i k) (item ms table (above ++ k ∷ []) i (sub (above ++ k ∷ []))) (λ x u v c p h. after_item table (above ++ k ∷ []) i k (sub (above ++ k ∷ [])) (gs (above ++ k ∷ [])) (s (above ++ k ∷ [])) x u v c p h)
      (items_of ms k) r.mid t (by_element (Contains (items_of ms k)) (items_of ms k) (λ x c. c)) (subst (Good i k) b.is (after_opened k b.top (loop_names (module_at ms k)) w f)) r.walked).0

  after_enter : (table : Names) (levels : ℕ) (above : List ℕ) → Enters (enter ms table levels above)
  unfolding enter
  after_enter table zero above k given w t f e = absurd (not_ok _ t e)
  after_enter table (suc levels) above k given w t f e = after_enter_by table (enter ms table levels) (enter_grows ms table levels) (after_enter table levels) above k given w t f e

  after_top : (table : Names) (o : Option ℕ) (w : Walked) → enter_top None ms table o ≡ Ok w → From w.flat
  after_top table None w e = absurd (not_ok _ w e)
  after_top table (Some k) w e =
      after_enter table 16 [] k [] (nothing None (module_at ms k).token) w (record { even = refl; drivers = tt; clocked = tt; combinational = tt }) e

pub origins : (ss : List Site) (source : SourceText) (top : Option Text) (flat : Flat) → flat_of source top ≡ Ok flat → From source.modules ss flat
unfolding flat_by
origins ss source top flat e =
    let r = first_ok (each add_module source.modules []) (λ table. and_then (enter_top None source.modules table (top_place source.modules table top)) (λ w. Ok (finished source.modules w.flat))) flat e in
    let s = first_ok (enter_top None source.modules r.0 (top_place source.modules r.0 top)) (λ w. Ok (finished source.modules w.flat)) flat r.1.1 in
    let f = after_top source.modules ss r.0 (top_place source.modules r.0 top) s.0 s.1.0 in
    subst (From source.modules ss) (ok_is (finished source.modules s.0.flat) flat s.1.1) (record { even = f.even; drivers = f.drivers; clocked = f.clocked; combinational = f.combinational })
