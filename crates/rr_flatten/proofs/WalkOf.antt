-- in the flat design of a source no driver aims at an input of the top
use Rattle.std.proofs.Common.{◌≡◌, ℕ, zero, suc, ◌+◌, ◌-◌, ◌<◌, ◌≤◌, List, [], ◌∷◌, ◌++◌, length, Bool, true, false, not, cond, Option, Some, None, Ok, refl, ap, ◌∙◌, sym, arith, ◌⊎◌, inl, inr, length-append, subst, if◌then◌else◌, nat_eq}
use Rattle.std.specs.Prelude.{slice_index_or, slice_set, nat_lt}
use Rattle.std.specs.List.{AllByRecursion}
use Rattle.std.specs.Str.{bytes_eq}
use Rattle.std.proofs.lemmas.Bool.{cases_lt, and_parts, both_ways, eqb-true}
use Rattle.std.proofs.lemmas.List.{get_or_append_left, get_or-append_right}
use Rattle.rr_syntax.specs.Tree.{Tree, Trees, End, More, Statement, DeclaredName, NetAssignment, EventControl, Star, Edges, Levels, Connections, Positions, ModuleInstance, ModuleItem, Ports, Nets, Variables, Integers, Parameters, Assigns, Always, Initial, Instances, ModuleDeclaration, SourceText}
use Rattle.rr_syntax.specs.Tree.{Names as Named}
use Rattle.rr_expr.specs.Scopes.{Names, lookup}
use Rattle.rr_expr.specs.Faults.{first}
use Rattle.rr_expr.specs.declared.types.Entity.{Entity}
use Rattle.rr_expr.specs.declared.types.Entity.TheVariants as entity
use Rattle.rr_flat.specs.declared.signal.Port.{Port}
use Rattle.rr_flat.specs.declared.signal.Port.TheVariants.{Inner, Input, Output}
use Rattle.rr_flat.specs.declared.fault.FlatFault.TheVariants.{TooMany}
use Rattle.rr_flat.specs.declared.fault.Limit.TheVariants.{Instances as InstanceCount}
use Rattle.rr_flat.specs.Faults.{and_then, each, fault_if, first_of, first_fault_or}
use Rattle.rr_declarations.specs.Heads.{Head, head}
use Rattle.rr_flat.specs.Signals.{with_name}
use Rattle.rr_flat.specs.Signals.{Text, Signal, signal_at, no_signal}
use Rattle.rr_flat.specs.Plain.{Side, Written, Whole, Driver, Flat}
use Rattle.rr_flatten.specs.Tables.{place_of, add_module, port_names}
use Rattle.rr_loop_rules.specs.Rules.{LoopNames, loop_names}
use Rattle.rr_unfold.specs.Unfold.{unfold_statement}
use Rattle.rr_flatten.specs.Walk.{Walked, scope_at, loops_at, with_driver, assign, net_driver, net_value, net_with, net, with_block, always, initial, join_port, join_at, join, join_value, join_named, join_positions, joined, Enter, module_at, checked, with_instance, instance_of, item, opened, begin, enter_by, enter, nothing, is_way, is_top_port, top_ports, finished, top_place, enter_top, flat_by, flat_of}
use Rattle.rr_flat.proofs.Lists.{all_index}
use Rattle.rr_flat.specs.Elaborated.{DrivesOwn, IsTopInput, OneVariable, IsSound}
use Rattle.rr_expr.specs.Reading.{IsBitOf}
use Rattle.rr_expr.specs.Scopes.{meant}
use Rattle.rr_expr.specs.declared.types.Bit.{Bit}
use Rattle.rr_flat.specs.Targets.{variable_of}
use Rattle.rr_flatten.proofs.Apart.{Apart, apart_with, alone, head_apart, found_meant, both_meant, none_meant}
use Rattle.rr_flatten.proofs.Gives.{always_gives, initial_gives}
use Rattle.rr_flatten.proofs.HeadOf.{ok_is, not_ok, settled_is, first_ok, each_keeps, fold_keeps, all_append, all_weaker, Entries, entries_with, Between, HeadOf, head_of}

-- a signal of instance k, or words of it
abbrev Local : List Signal → ℕ → Entity → Type 0
Local signals k (entity.Constant bits signed) = Unit {0}
Local signals k (entity.Signal id range signed) = (id < length signals) × ((signal_at signals id).instance ≡ k)
Local signals k (entity.Memory first low words range signed) = (first + words ≤ length signals) × ((j : ℕ) → j < words → (signal_at signals (first + j)).instance ≡ k)
Local signals k entity.Instance = Unit {0}

abbrev Driven : List Signal → Driver → Type 0
Driven signals d = DrivesOwn signals d.target d.value

pub record Fine (flat : Flat) : Type 0 where
  pub scopes : (k : ℕ) → k < length flat.scopes → Entries (Local flat.signals k) (slice_index_or flat.scopes k [])
  pub apart : (k : ℕ) → k < length flat.scopes → Apart (slice_index_or flat.scopes k [])
  pub drivers : AllByRecursion (λ d. DrivesOwn flat.signals d.target d.value) flat.drivers

-- fine, with more instances than this one's number
abbrev Good : ℕ → Walked → Type 0
Good i w = Fine w.flat × (i < length w.flat.scopes)

driven : (i : ℕ) (target value : Side) (at : ℕ) (w : Walked) → DrivesOwn w.flat.signals target value → Good i w → Good i (with_driver target value at w)
driven i target value at w a g = (record { scopes = g.0.scopes; apart = g.0.apart; drivers = all_append (Driven w.flat.signals) w.flat.drivers (record { target = target; value = value; token = at } ∷ []) g.0.drivers (a, tt) }, g.1)

after_assign : (i : ℕ) (p : NetAssignment) (w t : Walked) → Good i w → assign i p w ≡ Ok t → Good i t
unfolding assign
after_assign i p w t g e = subst (Good i) (settled_is _ (with_driver (Written p.target i) (Written p.value i) (first p.target) w) t e) (driven i (Written p.target i) (Written p.value i) (first p.target) w tt g)

some_is : {X : Type 0} (a b : X) → Some a ≡ Some b → a ≡ b
some_is a b e = cc

none_some : {X : Type 0} (a : X) → None ≡ Some a → ⊥
none_some a e = cc

found_local : (signals : List Signal) (k : ℕ) (name : Text) (ns : Names) (x : Entity) → Entries (Local signals k) ns → lookup name ns ≡ Some x → Local signals k x
unfolding lookup
found_local signals k name [] x h q = absurd (none_some x q)
found_local signals k name (n ∷ ns) x h q = go (bytes_eq name n.0) q (λ r. found_local signals k name ns x h.1 r)
  where
    go : (b : Bool) → cond b (Some n.1) (lookup name ns) ≡ Some x → (lookup name ns ≡ Some x → Local signals k x) → Local signals k x
    go true q rec = subst (Local signals k) (some_is n.1 x q) h.0
    go false q rec = rec q

-- a name of a scope stands for a signal of its instance
placed : (signals : List Signal) (k : ℕ) (names : Names) (name : Text) (id : ℕ) → Entries (Local signals k) names → place_of (lookup name names) ≡ Some id → (id < length signals) × ((signal_at signals id).instance ≡ k)
placed signals k names name id h e = by (lookup name names) refl e
  where
    by : (o : Option Entity) → lookup name names ≡ o → place_of o ≡ Some id → (id < length signals) × ((signal_at signals id).instance ≡ k)
    by None q e = absurd (none_some id e)
    by (Some (entity.Constant bits signed)) q e = absurd (none_some id e)
    by (Some (entity.Signal n range signed)) q e =
        subst (λ m. (m < length signals) × ((signal_at signals m).instance ≡ k)) (some_is n id e) (found_local signals k name names (entity.Signal n range signed) h q)
    by (Some (entity.Memory first low words range signed)) q e = absurd (none_some id e)
    by (Some entity.Instance) q e = absurd (none_some id e)

after_net_driver : (i at : ℕ) (x : Tree) (o : Option ℕ) (w : Walked) → ((id : ℕ) → o ≡ Some id → (id < length w.flat.signals) × ((signal_at w.flat.signals id).instance ≡ i)) → Good i w → Good i (net_driver i at x o w)
after_net_driver i at x None w h g = g
after_net_driver i at x (Some id) w h g = let p = h id refl in driven i (Whole id) (Written x i) at w (p.0, inl p.1) g

after_net_with : (i at : ℕ) (name : Text) (o : Option Tree) (w t : Walked) → Good i w → net_with i at name o w ≡ Ok t → Good i t
unfolding net_value
after_net_with i at name None w t g e = subst (Good i) (ok_is w t e) g
after_net_with i at name (Some x) w t g e =
    subst (Good i) (settled_is _ (net_driver i at x (place_of (lookup name (scope_at w i))) w) t e)
    (after_net_driver i at x (place_of (lookup name (scope_at w i))) w (λ id q. placed w.flat.signals i (scope_at w i) name id (g.0.scopes i g.1) q) g)

after_net : (i : ℕ) (n : DeclaredName) (w t : Walked) → Good i w → net i n w ≡ Ok t → Good i t
unfolding net
after_net i n w t g e = after_net_with i n.token n.text n.value w t g e

after_block : (i : ℕ) (events : EventControl) (s : Statement) (at : ℕ) (w : Walked) → Good i w → Good i (with_block i events s at w)
after_block i (Star brackets) s at w g = (record { scopes = g.0.scopes; apart = g.0.apart; drivers = g.0.drivers }, g.1)
after_block i (Edges list commas) s at w g = (record { scopes = g.0.scopes; apart = g.0.apart; drivers = g.0.drivers }, g.1)
after_block i (Levels list commas) s at w g = (record { scopes = g.0.scopes; apart = g.0.apart; drivers = g.0.drivers }, g.1)

after_always : (i : ℕ) (events : EventControl) (s : Statement) (at : ℕ) (w t : Walked) → Good i w → always i events s at w ≡ Ok t → Good i t
after_always i events s at w t g e =
    let r = always_gives i events s at w t e in
    subst (Good i) r.1.1 (after_block i events (unfold_statement (scope_at w i) [] s) at (record w { count = r.0 }) g)

after_initial : (i : ℕ) (s : Statement) (at : ℕ) (w t : Walked) → Good i w → initial i s at w ≡ Ok t → Good i t
after_initial i s at w t g e = subst (Good i) (initial_gives i s at w t e).1.1 (record { scopes = g.0.scopes; apart = g.0.apart; drivers = g.0.drivers }, g.1)

-- connections: instance k is one below the top
abbrev Joined : ℕ → ℕ → Walked → Type 0
Joined i k w = Good i w × ((k < length w.flat.scopes) × (1 ≤ k))

after_port : (i k : ℕ) (p : Port) (id : ℕ) (x : Tree) (w : Walked) → (id < length w.flat.signals) × ((signal_at w.flat.signals id).instance ≡ k) → Joined i k w → Joined i k (join_port p i id x w)
after_port i k Inner id x w h g = g
after_port i k Input id x w h g = (driven i (Whole id) (Written x i) (first x) w (h.0, inr (omega (arith, h.1, g.1.1))) g.0, g.1)
after_port i k Output id x w h g = (driven i (Written x i) (Whole id) (first x) w tt g.0, g.1)

after_join_at : (i k : ℕ) (o : Option ℕ) (x : Tree) (w : Walked) → ((id : ℕ) → o ≡ Some id → (id < length w.flat.signals) × ((signal_at w.flat.signals id).instance ≡ k)) → Joined i k w → Joined i k (join_at o i x w)
after_join_at i k None x w h g = g
after_join_at i k (Some id) x w h g = after_port i k (signal_at w.flat.signals id).port id x w (h id refl) g

after_join : (i k : ℕ) (name : Text) (x : Tree) (w : Walked) → Joined i k w → Joined i k (join i k name x w)
unfolding join
after_join i k name x w g = after_join_at i k (place_of (lookup name (scope_at w k))) x w (λ id q. placed w.flat.signals k (scope_at w k) name id (g.0.0.scopes k g.1.0) q) g

after_value : (i k : ℕ) (name : Text) (o : Option Tree) (w : Walked) → Joined i k w → Joined i k (join_value i k name o w)
after_value i k name None w g = g
after_value i k name (Some x) w g = after_join i k name x w g

after_positions : (i k : ℕ) (left : List Text) (ts : Trees) (w : Walked) → Joined i k w → Joined i k (join_positions i k left ts w)
unfolding join_positions
after_positions i k left End w g = g
after_positions i k [] (More x xs) w g = g
after_positions i k (p ∷ ps) (More x xs) w g = after_positions i k ps xs (join i k p x w) (after_join i k p x w g)

after_joined : (i k : ℕ) (m : ModuleDeclaration) (c : Connections) (w : Walked) → Joined i k w → Joined i k (joined i k m c w)
unfolding joined
after_joined i k m (Positions ts) w g = after_positions i k (port_names m) ts w g
after_joined i k m (Named list) w g = fold_keeps (Joined i k) (join_named i k) (λ n s h. after_value i k n.text n.value s h) list w g

-- Instances

-- a walk of a module keeps all that is fine, and adds instances
abbrev Enters : Enter → Type 0
Enters sub = (k : ℕ) (given : Names) (w t : Walked) → Fine w.flat → sub k given w ≡ Ok t → Fine t.flat × (length w.flat.scopes < length t.flat.scopes)

set_length : (xs : List Names) (i : ℕ) (x : Names) → length (slice_set xs i x) ≡ length xs
set_length [] i x = refl
set_length (y ∷ ys) zero x = refl
set_length (y ∷ ys) (suc i) x = ap suc (set_length ys i x)

set_at : (P : ℕ → Names → Type 0) (xs : List Names) (i : ℕ) (x : Names) → ((k : ℕ) → k < length xs → P k (slice_index_or xs k [])) → P i x →
    (k : ℕ) → k < length xs → P k (slice_index_or (slice_set xs i x) k [])
set_at P [] i x h p k l = absurd (omega arith)
set_at P (y ∷ ys) zero x h p zero l = p
set_at P (y ∷ ys) zero x h p (suc k) l = h (suc k) l
set_at P (y ∷ ys) (suc i) x h p zero l = h 0 (omega arith)
set_at P (y ∷ ys) (suc i) x h p (suc k) l = set_at (λ n. P (suc n)) ys i x (λ n m. h (suc n) (omega arith)) p k (omega arith)

named : (i : ℕ) (name : Text) (w : Walked) → Good i w → Good i (with_instance i name w)
named i name w g =
    let x = with_name (scope_at w i) name entity.Instance in
    let n = set_length w.flat.scopes i x in (
      record {
        scopes = λ k l. set_at (λ j ns. Entries (Local w.flat.signals j) ns) w.flat.scopes i x g.0.scopes (entries_with (Local w.flat.signals i) (scope_at w i) name entity.Instance (g.0.scopes i g.1) tt) k (omega (arith, l, n));
        apart = λ k l. set_at (λ j ns. Apart ns) w.flat.scopes i x g.0.apart (apart_with (scope_at w i) name entity.Instance (g.0.apart i g.1) (alone entity.Instance (scope_at w i) tt)) k (omega (arith, l, n));
        drivers = g.0.drivers;
      },
      omega (arith, g.1, n),
    )

after_instance : (source : List ModuleDeclaration) (above : List ℕ) (i : ℕ) (sub : Enter) (at : ℕ) (over : Option Connections) (o : Option ℕ) → Enters sub → (x : ModuleInstance) (w t : Walked) → Good i w →
    instance_of source above i sub at over o x w ≡ Ok t → Good i t
unfolding instance_of
after_instance source above i sub at over None s x w t g e = absurd (not_ok _ t e)
after_instance source above i sub at over (Some k) s x w t g e =
    let r = first_ok (checked (loops_at w i) above (scope_at w i) (module_at source k) k at over x) _ t e in
    let u = first_ok (sub k r.0 (with_instance i x.text w)) _ t r.1.1 in
    let n = named i x.text w g in
    let f = s k r.0 (with_instance i x.text w) u.0 n.0 u.1.0 in
    subst (Good i) (ok_is (joined i (length w.flat.scopes) (module_at source k) x.connections u.0) t u.1.1)
    (after_joined i (length w.flat.scopes) (module_at source k) x.connections u.0
    ((f.0, omega (arith, f.1, n.1)), (omega (arith, f.1, set_length w.flat.scopes i (with_name (scope_at w i) x.text entity.Instance)), omega (arith, g.1)))).0

after_item : (source : List ModuleDeclaration) (table : Names) (above : List ℕ) (i : ℕ) (sub : Enter) → Enters sub → (x : ModuleItem) (w t : Walked) → Good i w → item source table above i sub x w ≡ Ok t → Good i t
unfolding item
after_item source table above i sub s (Ports p) w t g e = subst (Good i) (ok_is w t e) g
after_item source table above i sub s (Nets signed range list) w t g e = each_keeps (Good i) (net i) (λ n a b h q. after_net i n a b h q) list w t g e
after_item source table above i sub s (Variables signed range list) w t g e = subst (Good i) (ok_is w t e) g
after_item source table above i sub s (Integers list) w t g e = subst (Good i) (ok_is w t e) g
after_item source table above i sub s (Parameters p) w t g e = subst (Good i) (ok_is w t e) g
after_item source table above i sub s (Assigns pairs) w t g e = each_keeps (Good i) (assign i) (λ p a b h q. after_assign i p a b h q) pairs w t g e
after_item source table above i sub s (Always events body at) w t g e = after_always i events body at w t g e
after_item source table above i sub s (Initial body at) w t g e = after_initial i body at w t g e
after_item source table above i sub s (Instances m at over list) w t g e =
    each_keeps (Good i) (instance_of source above i sub at over (place_of (lookup m table))) (λ x a b h q. after_instance source above i sub at over (place_of (lookup m table)) s x a b h q) list w t g e

signal_before : (ss more : List Signal) (id : ℕ) → id < length ss → signal_at (ss ++ more) id ≡ signal_at ss id
signal_before ss more id l = get_or_append_left ss more no_signal id l

local_before : (ss more : List Signal) (k : ℕ) (e : Entity) → Local ss k e → Local (ss ++ more) k e
local_before ss more k (entity.Constant bits signed) h = tt
local_before ss more k (entity.Signal id range signed) h = (omega (arith, h.0, length-append ss more), ap (λ (s : Signal). s.instance) (signal_before ss more id h.0) ∙ h.1)
local_before ss more k (entity.Memory first low words range signed) h = (
  omega (arith, h.0, length-append ss more),
  λ j l. ap (λ (s : Signal). s.instance) (signal_before ss more (first + j) (omega (arith, h.0, l))) ∙ h.1 j l,
)
local_before ss more k entity.Instance h = tt

aims_before : (ss more : List Signal) (target value : Side) → DrivesOwn ss target value → DrivesOwn (ss ++ more) target value
aims_before ss more (Whole id) (Whole x) h = h
aims_before ss more (Whole id) (Written t i) h =
    let same : (signal_at (ss ++ more) id).instance ≡ (signal_at ss id).instance = ap (λ (s : Signal). s.instance) (signal_before ss more id h.0) in
    (omega (arith, h.0, length-append ss more), elim h.1 [ inl q ↦ inl (same ∙ q) | inr q ↦ inr (omega (arith, same, q)) ])
aims_before ss more (Written t i) value h = tt

local_new : (ss more : List Signal) (k : ℕ) (e : Entity) → AllByRecursion (λ (s : Signal). s.instance ≡ k) more → Between (length ss) (length ss + length more) e → Local (ss ++ more) k e
local_new ss more k (entity.Constant bits signed) a h = tt
local_new ss more k (entity.Signal id range signed) a h =
    let l : length ss ≤ id = h.0 in (
      omega (arith, h.1, length-append ss more),
      ap (λ (s : Signal). s.instance) (get_or-append_right ss more (length ss) id no_signal refl l) ∙ all_index (λ (s : Signal). s.instance ≡ k) more (id - length ss) no_signal a (omega (arith, h.0, h.1)),
    )
local_new ss more k (entity.Memory first low words range signed) a h = (
  omega (arith, h.1, length-append ss more),
  λ j l.
      let from : length ss ≤ first + j = omega (arith, h.0) in
      ap (λ (s : Signal). s.instance) (get_or-append_right ss more (length ss) (first + j) no_signal refl from)
      ∙ all_index (λ (s : Signal). s.instance ≡ k) more ((first + j) - length ss) no_signal a (omega (arith, h.0, h.1, l)),
)
local_new ss more k entity.Instance a h = tt

after_opened : (k : ℕ) (h : Head) (names : LoopNames) (w : Walked) → Fine w.flat → HeadOf (length w.flat.scopes) (length w.flat.signals) h → Apart h.scope → Fine (opened k h names w).flat
after_opened k h names w f o a =
    let ss = w.flat.signals in
    let more = h.signals in
    let scopes = w.flat.scopes in
    record {
      scopes = λ j l. elim (cases_lt j (length scopes)) [
        | inl m ↦
            subst (Entries (Local (ss ++ more) j)) (sym (get_or_append_left scopes (h.scope ∷ []) [] j m))
            (all_weaker (λ e. Local ss j e.1) (λ e. Local (ss ++ more) j e.1) (slice_index_or scopes j []) (λ e p. local_before ss more j e.1 p) (f.scopes j m))
        | inr m ↦
            let q : j ≡ length scopes = omega (arith, l, m, length-append scopes (h.scope ∷ [])) in
            let z : j - length scopes ≡ 0 = omega arith in
            let got : slice_index_or (scopes ++ h.scope ∷ []) j [] ≡ h.scope = get_or-append_right scopes (h.scope ∷ []) (length scopes) j [] refl m ∙ ap (λ (i : ℕ). slice_index_or (h.scope ∷ []) i []) z in
            subst (Entries (Local (ss ++ more) j)) (sym got)
            (all_weaker (λ e. Between (length ss) (length ss + length more) e.1) (λ e. Local (ss ++ more) j e.1) h.scope
            (λ e p. local_new ss more j e.1 (subst (λ i. AllByRecursion (λ (s : Signal). s.instance ≡ i) more) (sym q) o.signals) p) o.scope)
      ];
      apart = λ j l. elim (cases_lt j (length scopes)) [
        | inl m ↦ subst Apart (sym (get_or_append_left scopes (h.scope ∷ []) [] j m)) (f.apart j m)
        | inr m ↦
            let q : j ≡ length scopes = omega (arith, l, m, length-append scopes (h.scope ∷ [])) in
            let z : j - length scopes ≡ 0 = omega arith in
            let got : slice_index_or (scopes ++ h.scope ∷ []) j [] ≡ h.scope = get_or-append_right scopes (h.scope ∷ []) (length scopes) j [] refl m ∙ ap (λ (i : ℕ). slice_index_or (h.scope ∷ []) i []) z in
            subst Apart (sym got) a
      ];
      drivers = all_weaker (Driven ss) (Driven (ss ++ more)) w.flat.drivers (λ d p. aims_before ss more d.target d.value p) f.drivers;
    }

after_begin : (source : List ModuleDeclaration) (k : ℕ) (given : Names) (w t : Walked) → Fine w.flat → begin source k given w ≡ Ok t → Fine t.flat × (length t.flat.scopes ≡ length w.flat.scopes + 1)
unfolding begin
after_begin source k given w t f e =
    let names = loop_names (module_at source k) in
    let r = first_ok (first_fault_or (fault_if (not (nat_lt (length w.flat.scopes) 256)) (TooMany InstanceCount 257)) w) (λ w. and_then (head (length w.flat.scopes) (length w.flat.signals) w.bits given (module_at source k)) (λ h. Ok (opened k h names w))) t e in
    let same : w ≡ r.0 = settled_is (first_of (fault_if (not (nat_lt (length w.flat.scopes) 256)) (TooMany InstanceCount 257))) w r.0 r.1.0 in
    let fine : Fine r.0.flat = subst (λ v. Fine v.flat) same f in
    let s = first_ok (head (length r.0.flat.scopes) (length r.0.flat.signals) r.0.bits given (module_at source k)) (λ h. Ok (opened k h names r.0)) t r.1.1 in
    let h = head_of (length r.0.flat.scopes) (length r.0.flat.signals) r.0.bits given (module_at source k) s.0 s.1.0 in
    let a = head_apart (length r.0.flat.scopes) (length r.0.flat.signals) r.0.bits given (module_at source k) s.0 s.1.0 in
    let last : opened k s.0 names r.0 ≡ t = ok_is (opened k s.0 names r.0) t s.1.1 in (
      subst (λ v. Fine v.flat) last (after_opened k s.0 names r.0 fine h a),
      ap (λ (v : Walked). length v.flat.scopes) (sym last) ∙ length-append r.0.flat.scopes (s.0.scope ∷ []) ∙ ap (λ (v : Walked). length v.flat.scopes + 1) (sym same),
    )

after_enter_by : (source : List ModuleDeclaration) (table : Names) (sub : List ℕ → Enter) → ((above : List ℕ) → Enters (sub above)) → (above : List ℕ) → Enters (enter_by source table sub above)
unfolding enter_by
after_enter_by source table sub s above k given w t f e =
    let r = first_ok (begin source k given w) _ t e in
    let b = after_begin source k given w r.0 f r.1.0 in
    let i = length w.flat.scopes in
    each_keeps (Good i) (item source table (above ++ k ∷ []) i (sub (above ++ k ∷ []))) (λ x a c h q. after_item source table (above ++ k ∷ []) i (sub (above ++ k ∷ [])) (s (above ++ k ∷ [])) x a c h q)
    (module_at source k).items r.0 t (b.0, omega (arith, b.1)) r.1.1

after_enter : (source : List ModuleDeclaration) (table : Names) (levels : ℕ) (above : List ℕ) → Enters (enter source table levels above)
unfolding enter
after_enter source table zero above k given w t f e = absurd (not_ok _ t e)
after_enter source table (suc levels) above k given w t f e = after_enter_by source table (enter source table levels) (after_enter source table levels) above k given w t f e

nothing_fine : (limit : Option ℕ) (at : ℕ) → Fine (nothing limit at).flat
nothing_fine limit at = record { scopes = λ k l. absurd (omega arith); apart = λ k l. absurd (omega arith); drivers = tt }

after_top : (limit : Option ℕ) (source : List ModuleDeclaration) (table : Names) (o : Option ℕ) (w : Walked) → enter_top limit source table o ≡ Ok w → Fine w.flat
after_top limit source table None w e = absurd (not_ok _ w e)
after_top limit source table (Some k) w e = (after_enter source table 16 [] k [] (nothing limit (module_at source k).token) w (nothing_fine limit (module_at source k).token) e).0

-- The inputs of the top

is_input : (p : Port) → is_way true p ≡ true → p ≡ Input
is_input Inner h = absurd (both_ways false refl h)
is_input Input h = refl
is_input Output h = absurd (both_ways false refl h)

append_one : (xs : List Signal) (x : Signal) (ys : List Signal) → xs ++ x ∷ ys ≡ (xs ++ x ∷ []) ++ ys
append_one [] x ys = refl
append_one (y ∷ xs) x ys = ap (λ (zs : List Signal). y ∷ zs) (append_one xs x ys)

next_there : (more : List Signal) (s : Signal) (ss : List Signal) (k : ℕ) → length more ≡ k → signal_at (more ++ s ∷ ss) k ≡ s
next_there more s ss k h =
    let z : k - k ≡ 0 = omega arith in
    get_or-append_right more (s ∷ ss) k k no_signal h (omega arith) ∙ ap (λ (i : ℕ). slice_index_or (s ∷ ss) i no_signal) z

abbrev Tops : List Signal → List ℕ → Type 0
Tops all ids = AllByRecursion (λ id. IsTopInput (signal_at all id)) ids

top_one : (more : List Signal) (s : Signal) (ss : List Signal) (k : ℕ) (b : Bool) → length more ≡ k → is_top_port true s ≡ b → Tops (more ++ s ∷ ss) (top_ports true (k + 1) ss) →
    Tops (more ++ s ∷ ss) (if b then k ∷ top_ports true (k + 1) ss else top_ports true (k + 1) ss)
top_one more s ss k true h q rest =
    let p = and_parts (nat_eq s.instance 0) (is_way true s.port) q in
    (subst IsTopInput (sym (next_there more s ss k h)) (eqb-true s.instance 0 p.0, is_input s.port p.1), rest)
top_one more s ss k false h q rest = rest

top_at : (ss more : List Signal) (k : ℕ) → length more ≡ k → Tops (more ++ ss) (top_ports true k ss)
unfolding top_ports
top_at [] more k h = tt
top_at (s ∷ ss) more k h =
    top_one more s ss k (is_top_port true s) h refl
    (subst (λ all. Tops all (top_ports true (k + 1) ss)) (sym (append_one more s ss)) (top_at ss (more ++ s ∷ []) (k + 1) (length-append more (s ∷ []) ∙ omega (arith, h))))

-- Bits have one variable

bit_local : (signals : List Signal) (k : ℕ) (e : Entity) (b : Bit) → Local signals k e → IsBitOf e b → (signal_at signals b.signal).instance ≡ k
bit_local signals k (entity.Constant bits signed) b h i = absurd i
bit_local signals k (entity.Signal id range signed) b h i = ap (λ (n : ℕ). (signal_at signals n).instance) i.0 ∙ h.1
bit_local signals k (entity.Memory first low words range signed) b h i =
    let at : b.signal ≡ first + (b.signal - first) = omega (arith, i.0) in
    ap (λ (n : ℕ). (signal_at signals n).instance) at ∙ h.1 (b.signal - first) (omega (arith, i.0, i.1))
bit_local signals k entity.Instance b h i = absurd i

one_variable : (flat : Flat) → Fine flat → OneVariable flat
one_variable flat f i j x y b h k = go (cases_lt i (length flat.scopes)) (cases_lt j (length flat.scopes))
  where
    names_of : ℕ → Names
    names_of n = slice_index_or flat.scopes n []

    local_of : (n : ℕ) (z : Text) → n < length flat.scopes → Local flat.signals n (meant (names_of n) z)
    local_of n z l = found_meant (Local flat.signals n) z (names_of n) (f.scopes n l) tt

    go : ((i < length flat.scopes) ⊎ (length flat.scopes ≤ i)) → ((j < length flat.scopes) ⊎ (length flat.scopes ≤ j)) → variable_of (meant (names_of i) x) ≡ variable_of (meant (names_of j) y)
    go (inl l) (inl m) =
        let q : i ≡ j = sym (bit_local flat.signals i (meant (names_of i) x) b (local_of i x l) h) ∙ bit_local flat.signals j (meant (names_of j) y) b (local_of j y m) k in
        let here : IsBitOf (meant (names_of i) y) b = subst (λ (n : ℕ). IsBitOf (meant (names_of n) y) b) (sym q) k in
        both_meant (names_of i) x y (f.apart i l) b h here ∙ ap (λ (n : ℕ). variable_of (meant (names_of n) y)) q
    go (inr l) m = absurd (none_meant flat.scopes i x b l h)
    go (inl l) (inr m) = absurd (none_meant flat.scopes j y b m k)

pub sound_by : (limit : Option ℕ) (source : SourceText) (top : Option Text) (flat : Flat) → flat_by limit source top ≡ Ok flat → IsSound flat
unfolding flat_by
sound_by limit source top flat e =
    let r = first_ok (each add_module source.modules []) (λ table. and_then (enter_top limit source.modules table (top_place source.modules table top)) (λ w. Ok (finished source.modules w.flat))) flat e in
    let s = first_ok (enter_top limit source.modules r.0 (top_place source.modules r.0 top)) (λ w. Ok (finished source.modules w.flat)) flat r.1.1 in
    let f = after_top limit source.modules r.0 (top_place source.modules r.0 top) s.0 s.1.0 in
    subst IsSound (ok_is (finished source.modules s.0.flat) flat s.1.1) (record { drivers = f.drivers; inputs = top_at s.0.flat.signals [] 0 refl; variables = one_variable s.0.flat f })

pub sound : (source : SourceText) (top : Option Text) (flat : Flat) → flat_of source top ≡ Ok flat → IsSound flat
sound source top flat e = sound_by None source top flat e

pub ruleset flat_designs = (sound)
