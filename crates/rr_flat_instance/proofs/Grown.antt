-- A walk that goes on: every name means what it meant, and owners, names of loops and drivers are added.
use Rattle.std.proofs.Common.{◌≡◌, ◌∙◌, sym, ap, ◌⊎◌, inl, inr, ℕ, zero, suc, ◌+◌, ◌<◌, ◌≤◌, List, [], ◌∷◌, ◌++◌, length, Option, Some, None, Result, Ok, refl, arith, fold, length-append, not, nat_lt}
use Rattle.std.proofs.lemmas.Bool.{cases_eq}
use Rattle.std.proofs.lemmas.List.{length-set, get_or-set_same, get_or-set_other, get_or_append_left}
use Rattle.rr_syntax.specs.Tree.{Tree, Trees, End, More, Statement, EventControl, Star, Edges, Levels, DeclaredName, NetAssignment, NamedConnection, Connections, Positions, Names as Named, ModuleInstance, ModuleItem, Ports, Nets, Variables, Integers, Parameters, Assigns, Always, Initial, Instances, ModuleDeclaration}
use Rattle.rr_expr.specs.Faults.{first}
use Rattle.rr_expr.specs.Scopes.{Names, lookup, meant}
use Rattle.rr_expr.specs.declared.types.Entity.TheVariants as entity
use Rattle.rr_flat.specs.declared.fault.FlatFault.{FlatFault}
use Rattle.rr_flat.specs.declared.fault.FlatFault.TheVariants.{TooMany}
use Rattle.rr_flat.specs.declared.fault.Limit.TheVariants.{Instances as InstanceCount}
use Rattle.rr_flat.specs.declared.signal.Port.{Port}
use Rattle.rr_flat.specs.declared.signal.Port.TheVariants.{Inner, Input, Output}
use Rattle.rr_flat.specs.Faults.{and_then, each, first_fault_or, fault_if}
use Rattle.rr_declarations.specs.Heads.{Head, head}
use Rattle.rr_flat.specs.Signals.{with_name, Text, signal_at}
use Rattle.rr_flat.specs.Plain.{Side, Written, Whole}
use Rattle.rr_flatten.specs.Tables.{place_of, port_names}
use Rattle.rr_flatten.specs.Walk.{Walked, Enter, scope_at, loops_at, module_at, expression_faults, with_driver, with_block, assign, net_driver, net_value, net_with, net, always, with_initial, initial, checked, with_instance, join_port, join_at, join, join_value, join_named, join_positions, joined, instance_of, item, opened, begin, enter_by, enter}
use Rattle.rr_flatten.proofs.Gives.{always_gives, initial_gives}
use Rattle.rr_loop_rules.specs.Rules.{LoopNames, loop_names}
use Rattle.rr_unfold.specs.Unfold.{Count, unfold_statement}
use Rattle.rr_flat.proofs.Alike.{Alike, alike_named}
use Rattle.rr_flat_instance.proofs.Lists.{Begins, begins_here, begins_with, begins-trans, stepped}
use Rattle.rr_flat_instance.proofs.Shapes.{settled}

pub record Grows (w v : Walked) : Type 0 where
  pub more : length w.flat.scopes ≤ length v.flat.scopes
  pub alike : (i : ℕ) → i < length w.flat.scopes → Alike (scope_at w i) (scope_at v i)
  pub owners : Begins w.flat.owners v.flat.owners
  pub drivers : Begins w.flat.drivers v.flat.drivers
  pub even : length w.flat.owners ≡ length w.flat.scopes → length v.flat.owners ≡ length v.flat.scopes
  pub loops : Begins w.loops v.loops
  pub lined : length w.loops ≡ length w.flat.scopes → length v.loops ≡ length v.flat.scopes
  pub limit : v.limit ≡ w.limit

pub grows_here : (w : Walked) → Grows w w
grows_here w = record { more = omega arith; alike = λ i l n. refl; owners = begins_here w.flat.owners; drivers = begins_here w.flat.drivers; even = λ e. e; loops = begins_here w.loops; lined = λ e. e; limit = refl }

pub grows-trans : (w v u : Walked) → Grows w v → Grows v u → Grows w u
grows-trans w v u g h = record {
  more = let a = g.more in let b = h.more in omega arith;
  alike = λ i l n. g.alike i l n ∙ h.alike i (let a = g.more in omega arith) n;
  owners = begins-trans _ _ _ g.owners h.owners;
  drivers = begins-trans _ _ _ g.drivers h.drivers;
  even = λ e. h.even (g.even e);
  loops = begins-trans _ _ _ g.loops h.loops;
  lined = λ e. h.lined (g.lined e);
  limit = h.limit ∙ g.limit;
}

pub grows_to : (w v u : Walked) → Grows w v → v ≡ u → Grows w u
grows_to w v u g e = rw (← e) g

pub driver_grows : (target value : Side) (at : ℕ) (w : Walked) → Grows w (with_driver target value at w)
driver_grows target value at w = record { more = omega arith; alike = λ i l n. refl; owners = begins_here w.flat.owners; drivers = begins_with w.flat.drivers _; even = λ e. e; loops = begins_here w.loops; lined = λ e. e; limit = refl }

-- turns are counted
block_grows : (i : ℕ) (events : EventControl) (s : Statement) (at : ℕ) (c : Count) (w : Walked) → Grows w (with_block i events s at (record w { count = c }))
block_grows i (Star brackets) s at c w = record { more = omega arith; alike = λ i l n. refl; owners = begins_here w.flat.owners; drivers = begins_here w.flat.drivers; even = λ e. e; loops = begins_here w.loops; lined = λ e. e; limit = refl }
block_grows i (Edges list commas) s at c w = record { more = omega arith; alike = λ i l n. refl; owners = begins_here w.flat.owners; drivers = begins_here w.flat.drivers; even = λ e. e; loops = begins_here w.loops; lined = λ e. e; limit = refl }
block_grows i (Levels list commas) s at c w = record { more = omega arith; alike = λ i l n. refl; owners = begins_here w.flat.owners; drivers = begins_here w.flat.drivers; even = λ e. e; loops = begins_here w.loops; lined = λ e. e; limit = refl }

-- steps of a list

pub each_grows : {X : Type 0} (step : X → Walked → Result Walked FlatFault) → ((x : X) (w v : Walked) → step x w ≡ Ok v → Grows w v) → (xs : List X) (w v : Walked) → each step xs w ≡ Ok v → Grows w v
unfolding each
each_grows step h [] w v e = grows_to w w v (grows_here w) (cc)
each_grows step h (x ∷ xs) w v e =
    let s = stepped (step x w) (each step xs) v e in
    grows-trans w s.mid v (h x w s.mid s.first) (each_grows step h xs s.mid v s.next)

-- items

pub assign_grows : (i : ℕ) (p : NetAssignment) (w v : Walked) → assign i p w ≡ Ok v → Grows w v
unfolding assign
assign_grows i p w v e =
    let s = settled (expression_faults (loops_at w i) (scope_at w i) p.target ++ expression_faults (loops_at w i) (scope_at w i) p.value) (with_driver (Written p.target i) (Written p.value i) (first p.target) w) v e in
    grows_to w _ v (driver_grows (Written p.target i) (Written p.value i) (first p.target) w) s.is

net_driver_grows : (i at : ℕ) (t : Tree) (o : Option ℕ) (w : Walked) → Grows w (net_driver i at t o w)
net_driver_grows i at t None w = grows_here w
net_driver_grows i at t (Some id) w = driver_grows (Whole id) (Written t i) at w

net_value_grows : (i at : ℕ) (name : Text) (t : Tree) (w v : Walked) → net_value i at name t w ≡ Ok v → Grows w v
unfolding net_value
net_value_grows i at name t w v e =
    let s = settled (expression_faults (loops_at w i) (scope_at w i) t) (net_driver i at t (place_of (lookup name (scope_at w i))) w) v e in
    grows_to w _ v (net_driver_grows i at t (place_of (lookup name (scope_at w i))) w) s.is

net_with_grows : (i at : ℕ) (name : Text) (o : Option Tree) (w v : Walked) → net_with i at name o w ≡ Ok v → Grows w v
net_with_grows i at name None w v e = grows_to w w v (grows_here w) (cc)
net_with_grows i at name (Some t) w v e = net_value_grows i at name t w v e

pub net_grows : (i : ℕ) (n : DeclaredName) (w v : Walked) → net i n w ≡ Ok v → Grows w v
unfolding net
net_grows i n w v e = net_with_grows i n.token n.text n.value w v e

pub always_grows : (i : ℕ) (events : EventControl) (s : Statement) (at : ℕ) (w v : Walked) → always i events s at w ≡ Ok v → Grows w v
always_grows i events s at w v e =
    let r = always_gives i events s at w v e in
    let body : Statement = unfold_statement (scope_at w i) [] s in
    grows_to w (with_block i events body at (record w { count = r.0 })) v (block_grows i events body at r.0 w) r.1.1

pub initial_grows : (i : ℕ) (s : Statement) (at : ℕ) (w v : Walked) → initial i s at w ≡ Ok v → Grows w v
initial_grows i s at w v e =
    let r = initial_gives i s at w v e in
    grows_to w (with_initial i (unfold_statement (scope_at w i) [] s) at (record w { count = r.0 })) v (record { more = omega arith; alike = λ i l n. refl; owners = begins_here w.flat.owners; drivers = begins_here w.flat.drivers; even = λ e. e; loops = begins_here w.loops; lined = λ e. e; limit = refl }) r.1.1

-- connections

port_grows : (p : Port) (i id : ℕ) (t : Tree) (w : Walked) → Grows w (join_port p i id t w)
port_grows Inner i id t w = grows_here w
port_grows Input i id t w = driver_grows (Whole id) (Written t i) (first t) w
port_grows Output i id t w = driver_grows (Written t i) (Whole id) (first t) w

at_grows : (o : Option ℕ) (i : ℕ) (t : Tree) (w : Walked) → Grows w (join_at o i t w)
at_grows None i t w = grows_here w
at_grows (Some id) i t w = port_grows (signal_at w.flat.signals id).port i id t w

pub join_grows : (i k : ℕ) (name : Text) (t : Tree) (w : Walked) → Grows w (join i k name t w)
unfolding join
join_grows i k name t w = at_grows (place_of (lookup name (scope_at w k))) i t w

pub join_value_grows : (i k : ℕ) (name : Text) (o : Option Tree) (w : Walked) → Grows w (join_value i k name o w)
join_value_grows i k name None w = grows_here w
join_value_grows i k name (Some t) w = join_grows i k name t w

pub named_grows : (i k : ℕ) (list : List NamedConnection) (w : Walked) → Grows w (fold (join_named i k) w list)
named_grows i k [] w = grows_here w
named_grows i k (n ∷ ns) w =
    grows-trans w (join_named i k w n) (fold (join_named i k) (join_named i k w n) ns) (join_value_grows i k n.text n.value w) (named_grows i k ns (join_named i k w n))

pub positions_grows : (i k : ℕ) (left : List Text) (ts : Trees) (w : Walked) → Grows w (join_positions i k left ts w)
unfolding join_positions
positions_grows i k left End w = grows_here w
positions_grows i k [] (More t ts) w = grows_here w
positions_grows i k (p ∷ ps) (More t ts) w =
    grows-trans w (join i k p t w) (join_positions i k ps ts (join i k p t w)) (join_grows i k p t w) (positions_grows i k ps ts (join i k p t w))

pub joined_grows : (i k : ℕ) (m : ModuleDeclaration) (c : Connections) (w : Walked) → Grows w (joined i k m c w)
unfolding joined
joined_grows i k m (Positions ts) w = positions_grows i k (port_names m) ts w
joined_grows i k m (Named list) w = named_grows i k list w

-- instances

pub with_instance_grows : (i : ℕ) (name : Text) (w : Walked) → Grows w (with_instance i name w)
with_instance_grows i name w = record {
  more = let e = length-set w.flat.scopes i (with_name (scope_at w i) name entity.Instance) in omega arith;
  alike = λ j l. by_place j l (cases_eq j i);
  owners = begins_here w.flat.owners;
  drivers = begins_here w.flat.drivers;
  even = λ e. e ∙ sym (length-set w.flat.scopes i (with_name (scope_at w i) name entity.Instance));
  loops = begins_here w.loops;
  lined = λ e. e ∙ sym (length-set w.flat.scopes i (with_name (scope_at w i) name entity.Instance));
  limit = refl;
}
  where
    by_place : (j : ℕ) → j < length w.flat.scopes → ((j ≡ i) ⊎ (j ≡ i → ⊥)) → Alike (scope_at w j) (scope_at (with_instance i name w) j)
    by_place j l (inl e) = λ n.
        let here : i < length w.flat.scopes = rw (← e) l in
        rw (e, get_or-set_same w.flat.scopes i (with_name (scope_at w i) name entity.Instance) [] here) (sym (alike_named (scope_at w i) name n))
    by_place j l (inr e) = λ n. ap (λ (s : Names). meant s n) (sym (get_or-set_other w.flat.scopes i j (with_name (scope_at w i) name entity.Instance) [] e))

pub opened_grows : (k : ℕ) (h : Head) (names : LoopNames) (w : Walked) → Grows w (opened k h names w)
opened_grows k h names w = record {
  more = let e = length-append w.flat.scopes (h.scope ∷ []) in omega arith;
  alike = λ i l n. ap (λ (s : Names). meant s n) (sym (get_or_append_left w.flat.scopes (h.scope ∷ []) [] i l));
  owners = begins_with w.flat.owners (k ∷ []);
  drivers = begins_here w.flat.drivers;
  even = λ e. length-append w.flat.owners (k ∷ []) ∙ (ap (λ (n : ℕ). n + 1) e ∙ sym (length-append w.flat.scopes (h.scope ∷ [])));
  loops = begins_with w.loops (names ∷ []);
  lined = λ e. length-append w.loops (names ∷ []) ∙ (ap (λ (n : ℕ). n + 1) e ∙ sym (length-append w.flat.scopes (h.scope ∷ [])));
  limit = refl;
}

-- an instance began with its head
pub record Began (source : List ModuleDeclaration) (k : ℕ) (given : Names) (w v : Walked) : Type 0 where
  pub room : fault_if (not (nat_lt (length w.flat.scopes) 256)) (TooMany InstanceCount 257) ≡ []
  pub top : Head
  pub found : head (length w.flat.scopes) (length w.flat.signals) w.bits given (module_at source k) ≡ Ok top
  pub is : opened k top (loop_names (module_at source k)) w ≡ v

pub began : (source : List ModuleDeclaration) (k : ℕ) (given : Names) (w v : Walked) → begin source k given w ≡ Ok v → Began source k given w v
unfolding begin
began source k given w v e =
    let r = stepped (first_fault_or (fault_if (not (nat_lt (length w.flat.scopes) 256)) (TooMany InstanceCount 257)) w) _ v e in
    let s = settled (fault_if (not (nat_lt (length w.flat.scopes) 256)) (TooMany InstanceCount 257)) w r.mid r.first in
    let n : and_then (head (length w.flat.scopes) (length w.flat.signals) w.bits given (module_at source k)) (λ (h : Head). Ok (opened k h (loop_names (module_at source k)) w)) ≡ Ok v = rw s.is r.next in
    let q = stepped (head (length w.flat.scopes) (length w.flat.signals) w.bits given (module_at source k)) (λ (h : Head). Ok (opened k h (loop_names (module_at source k)) w)) v n in
    let t : Ok (opened k q.mid (loop_names (module_at source k)) w) ≡ Ok v = q.next in
    record { room = s.none; top = q.mid; found = q.first; is = cc }

pub begin_grows : (source : List ModuleDeclaration) (k : ℕ) (given : Names) (w v : Walked) → begin source k given w ≡ Ok v → Grows w v
begin_grows source k given w v e = let b = began source k given w v e in grows_to w (opened k b.top (loop_names (module_at source k)) w) v (opened_grows k b.top (loop_names (module_at source k)) w) b.is

-- each inner walk goes on
abbrev pub EnterGrows : Enter → Type 0
EnterGrows sub = (k : ℕ) (given : Names) (w v : Walked) → sub k given w ≡ Ok v → Grows w v

-- an instance was walked
pub record Inside (source : List ModuleDeclaration) (above : List ℕ) (i : ℕ) (sub : Enter) (at : ℕ) (over : Option Connections) (k : ℕ) (x : ModuleInstance) (w v : Walked) : Type 0 where
  pub given : Names
  pub settings : checked (loops_at w i) above (scope_at w i) (module_at source k) k at over x ≡ Ok given
  pub mid : Walked
  pub walked : sub k given (with_instance i x.text w) ≡ Ok mid
  pub is : joined i (length w.flat.scopes) (module_at source k) x.connections mid ≡ v

pub inside : (source : List ModuleDeclaration) (above : List ℕ) (i : ℕ) (sub : Enter) (at : ℕ) (over : Option Connections) (k : ℕ) (x : ModuleInstance) (w v : Walked)
    → instance_of source above i sub at over (Some k) x w ≡ Ok v → Inside source above i sub at over k x w v
unfolding instance_of
inside source above i sub at over k x w v e =
    let r = stepped (checked (loops_at w i) above (scope_at w i) (module_at source k) k at over x) _ v e in
    let q = stepped (sub k r.mid (with_instance i x.text w)) (λ (m : Walked). Ok (joined i (length w.flat.scopes) (module_at source k) x.connections m)) v r.next in
    let t : Ok (joined i (length w.flat.scopes) (module_at source k) x.connections q.mid) ≡ Ok v = q.next in
    record { given = r.mid; settings = r.first; mid = q.mid; walked = q.first; is = cc }

pub instance_grows : (source : List ModuleDeclaration) (above : List ℕ) (i : ℕ) (sub : Enter) (at : ℕ) (over : Option Connections) (o : Option ℕ) → EnterGrows sub
    → (x : ModuleInstance) (w v : Walked) → instance_of source above i sub at over o x w ≡ Ok v → Grows w v
unfolding instance_of
instance_grows source above i sub at over None h x w v e = absurd (cc)
instance_grows source above i sub at over (Some k) h x w v e =
    let r = inside source above i sub at over k x w v e in
    grows-trans w (with_instance i x.text w) v (with_instance_grows i x.text w)
    (grows-trans (with_instance i x.text w) r.mid v (h k r.given (with_instance i x.text w) r.mid r.walked)
    (grows_to r.mid (joined i (length w.flat.scopes) (module_at source k) x.connections r.mid) v (joined_grows i (length w.flat.scopes) (module_at source k) x.connections r.mid) r.is))

pub item_grows : (source : List ModuleDeclaration) (table : Names) (above : List ℕ) (i : ℕ) (sub : Enter) → EnterGrows sub → (x : ModuleItem) (w v : Walked) → item source table above i sub x w ≡ Ok v → Grows w v
unfolding item
item_grows source table above i sub h (Ports p) w v e = grows_to w w v (grows_here w) (cc)
item_grows source table above i sub h (Nets signed range list) w v e = each_grows (net i) (net_grows i) list w v e
item_grows source table above i sub h (Variables signed range list) w v e = grows_to w w v (grows_here w) (cc)
item_grows source table above i sub h (Integers list) w v e = grows_to w w v (grows_here w) (cc)
item_grows source table above i sub h (Parameters p) w v e = grows_to w w v (grows_here w) (cc)
item_grows source table above i sub h (Assigns pairs) w v e = each_grows (assign i) (assign_grows i) pairs w v e
item_grows source table above i sub h (Always events s at) w v e = always_grows i events s at w v e
item_grows source table above i sub h (Initial s at) w v e = initial_grows i s at w v e
item_grows source table above i sub h (Instances m at over list) w v e =
    each_grows (instance_of source above i sub at over (place_of (lookup m table))) (instance_grows source above i sub at over (place_of (lookup m table)) h) list w v e

-- a module was walked: its head, and then its items
pub record Entered (source : List ModuleDeclaration) (table : Names) (sub : List ℕ → Enter) (above : List ℕ) (k : ℕ) (given : Names) (w v : Walked) : Type 0 where
  pub mid : Walked
  pub began : begin source k given w ≡ Ok mid
  pub walked : each (item source table (above ++ k ∷ []) (length w.flat.scopes) (sub (above ++ k ∷ []))) (module_at source k).items mid ≡ Ok v

pub entered : (source : List ModuleDeclaration) (table : Names) (sub : List ℕ → Enter) (above : List ℕ) (k : ℕ) (given : Names) (w v : Walked) → enter_by source table sub above k given w ≡ Ok v → Entered source table sub above k given w v
unfolding enter_by
entered source table sub above k given w v e = let r = stepped (begin source k given w) _ v e in record { mid = r.mid; began = r.first; walked = r.next }

pub enter_grows : (source : List ModuleDeclaration) (table : Names) (levels : ℕ) (above : List ℕ) → EnterGrows (enter source table levels above)
unfolding enter
enter_grows source table zero above k given w v e = absurd (cc)
enter_grows source table (suc n) above k given w v e =
    let r = entered source table (enter source table n) above k given w v e in
    grows-trans w r.mid v (begin_grows source k given w r.mid r.began)
    (each_grows (item source table (above ++ k ∷ []) (length w.flat.scopes) (enter source table n (above ++ k ∷ [])))
    (item_grows source table (above ++ k ∷ []) (length w.flat.scopes) (enter source table n (above ++ k ∷ [])) (enter_grows source table n (above ++ k ∷ []))) (module_at source k).items r.mid v r.walked)
