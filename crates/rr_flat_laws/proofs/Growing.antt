-- A walk that goes on: steps that add drivers and blocks alone, and steps that add instances.
use Rattle.std.proofs.Common.{◌≡◌, ◌∙◌, sym, ap, ◌⊎◌, inl, inr, ℕ, zero, suc, ◌<◌, ◌≤◌, List, [], ◌∷◌, ◌++◌, length, get_or, Option, Some, None, Result, Ok, refl, arith, subst, fold, not, nat_lt, length-append}
use Rattle.std.specs.Prelude.{option_to_list}
use Rattle.std.proofs.lemmas.Bool.{cases_eq}
use Rattle.std.proofs.lemmas.List.{append-nil, append_assoc, length-set, get_or-set_same, get_or-set_other, get_or_append_left}
use Rattle.rr_syntax.specs.Tree.{Tree, Trees, End, More, Statement, EventControl, Star, Edges, Levels, DeclaredName, NetAssignment, NamedConnection, Connections, Positions, Names as Named, ModuleInstance, ModuleItem, Ports, Nets, Variables, Integers, Parameters, Assigns, Always, Initial, Instances, ModuleDeclaration}
use Rattle.rr_expr.specs.Faults.{first}
use Rattle.rr_expr.specs.Scopes.{Names, lookup, meant}
use Rattle.rr_expr.specs.declared.types.Entity.TheVariants as entity
use Rattle.rr_flat.specs.declared.fault.FlatFault.{FlatFault}
use Rattle.rr_flat.specs.declared.fault.FlatFault.TheVariants.{TooMany}
use Rattle.rr_flat.specs.declared.fault.Limit.TheVariants.{Instances as InstanceCount}
use Rattle.rr_flat.specs.declared.signal.Port.{Port}
use Rattle.rr_flat.specs.declared.signal.Port.TheVariants.{Inner, Input, Output}
use Rattle.rr_flat.specs.Faults.{and_then, each, earliest_of, first_fault_or, fault_if}
use Rattle.rr_flat.specs.Plain.{Side, Written, Whole, Flat}
use Rattle.rr_flat.specs.Shapes.{statement_faults}
use Rattle.rr_flat.specs.Signals.{Text, signal_at, with_name}
use Rattle.rr_flat.proofs.Alike.{Alike, alike_named}
use Rattle.rr_loop_rules.specs.Rules.{LoopNames, loop_names, loop_faults}
use Rattle.rr_unfold.specs.Unfold.{Count, counted, unfold_statement}
use Rattle.rr_starts.specs.Starts.{initial_faults}
use Rattle.rr_declarations.specs.Heads.{Head, head}
use Rattle.rr_flatten.specs.Tables.{place_of, port_names}
use Rattle.rr_flatten.specs.Walk.{Walked, Enter, scope_at, loops_at, module_at, with_driver, with_block, expression_faults, assign, net_driver, net_value, net_with, net, event_faults, always, with_initial, initial, checked, with_instance, join_port, join_at, join, join_value, join_named, join_positions, joined, instance_of, item, opened, begin, enter_by, enter, finished}
use Rattle.rr_flatten.proofs.HeadOf.{ok_is, not_ok, first_ok, each_keeps}
use Rattle.rr_flat_laws.proofs.Answers.{nil_left, settled}

-- the same signals and instances, with the same names of loops

pub record Same (w v : Walked) : Type 0 where
  pub signals : w.flat.signals ≡ v.flat.signals
  pub scopes : w.flat.scopes ≡ v.flat.scopes
  pub owners : w.flat.owners ≡ v.flat.owners
  pub loops : w.loops ≡ v.loops

pub same_here : (w : Walked) → Same w w
same_here w = record { signals = refl; scopes = refl; owners = refl; loops = refl }

pub same_twice : (w v u : Walked) → Same w v → Same v u → Same w u
same_twice w v u a b = record { signals = a.signals ∙ b.signals; scopes = a.scopes ∙ b.scopes; owners = a.owners ∙ b.owners; loops = a.loops ∙ b.loops }

same_to : (w v u : Walked) → Same w v → v ≡ u → Same w u
same_to w v u s e = subst (Same w) e s

pub driver_same : (target value : Side) (at : ℕ) (w : Walked) → Same w (with_driver target value at w)
driver_same target value at w = record { signals = refl; scopes = refl; owners = refl; loops = refl }

block_same : (i : ℕ) (events : EventControl) (s : Statement) (at : ℕ) (w : Walked) → Same w (with_block i events s at w)
block_same i (Star brackets) s at w = record { signals = refl; scopes = refl; owners = refl; loops = refl }
block_same i (Edges list commas) s at w = record { signals = refl; scopes = refl; owners = refl; loops = refl }
block_same i (Levels list commas) s at w = record { signals = refl; scopes = refl; owners = refl; loops = refl }

pub each_same : {X : Type 0} (step : X → Walked → Result Walked FlatFault) → ((x : X) (w v : Walked) → step x w ≡ Ok v → Same w v) → (xs : List X) (w v : Walked) → each step xs w ≡ Ok v → Same w v
unfolding each
each_same step h [] w v e = same_to w w v (same_here w) (ok_is w v e)
each_same step h (x ∷ xs) w v e =
    let r = first_ok (step x w) (each step xs) v e in
    same_twice w r.0 v (h x w r.0 r.1.0) (each_same step h xs r.0 v r.1.1)

pub assign_same : (i : ℕ) (p : NetAssignment) (w v : Walked) → assign i p w ≡ Ok v → Same w v
unfolding assign
assign_same i p w v e =
    same_to w _ v (driver_same (Written p.target i) (Written p.value i) (first p.target) w)
    (settled (expression_faults (loops_at w i) (scope_at w i) p.target ++ expression_faults (loops_at w i) (scope_at w i) p.value) (with_driver (Written p.target i) (Written p.value i) (first p.target) w) v e).1

net_driver_same : (i at : ℕ) (t : Tree) (o : Option ℕ) (w : Walked) → Same w (net_driver i at t o w)
net_driver_same i at t None w = same_here w
net_driver_same i at t (Some id) w = driver_same (Whole id) (Written t i) at w

net_with_same : (i at : ℕ) (name : Text) (o : Option Tree) (w v : Walked) → net_with i at name o w ≡ Ok v → Same w v
unfolding net_value
net_with_same i at name None w v e = same_to w w v (same_here w) (ok_is w v e)
net_with_same i at name (Some t) w v e =
    same_to w _ v (net_driver_same i at t (place_of (lookup name (scope_at w i))) w) (settled (expression_faults (loops_at w i) (scope_at w i) t) (net_driver i at t (place_of (lookup name (scope_at w i))) w) v e).1

pub net_same : (i : ℕ) (n : DeclaredName) (w v : Walked) → net i n w ≡ Ok v → Same w v
unfolding net
net_same i n w v e = net_with_same i n.token n.text n.value w v e

-- an `always` that was walked: its loops keep their rules, and its block is without loops, behind the turns that they took
pub record AlwaysStep (i : ℕ) (events : EventControl) (s : Statement) (at : ℕ) (w v : Walked) : Type 0 where
  pub count : Count
  pub rules : loop_faults (loops_at w i) [] s ≡ []
  pub is : with_block i events (unfold_statement (scope_at w i) [] s) at (record w { count = count }) ≡ v

pub always_step : (i : ℕ) (events : EventControl) (s : Statement) (at : ℕ) (w v : Walked) → always i events s at w ≡ Ok v → AlwaysStep i events s at w v
unfolding always
always_step i events s at w v e =
    let body = unfold_statement (scope_at w i) [] s in
    let own : List FlatFault = loop_faults (loops_at w i) [] s in
    let more : List FlatFault = event_faults (loops_at w i) (scope_at w i) events ++ option_to_list (earliest_of (statement_faults (scope_at w i) body)) in
    let r = first_ok (counted w.limit (loops_at w i) (scope_at w i) [] s w.count) (λ (c : Count). first_fault_or (own ++ more) (with_block i events body at (record w { count = c }))) v e in
    let q = settled (own ++ more) (with_block i events body at (record w { count = r.0 })) v r.1.1 in
    record { count = r.0; rules = nil_left own more q.0; is = q.1 }

-- so with an `initial` item
pub record InitialStep (i : ℕ) (s : Statement) (at : ℕ) (w v : Walked) : Type 0 where
  pub count : Count
  pub rules : loop_faults (loops_at w i) [] s ≡ []
  pub is : with_initial i (unfold_statement (scope_at w i) [] s) at (record w { count = count }) ≡ v

pub initial_step : (i : ℕ) (s : Statement) (at : ℕ) (w v : Walked) → initial i s at w ≡ Ok v → InitialStep i s at w v
unfolding initial
initial_step i s at w v e =
    let body = unfold_statement (scope_at w i) [] s in
    let own : List FlatFault = loop_faults (loops_at w i) [] s in
    let more : List FlatFault = option_to_list (earliest_of (initial_faults (scope_at w i) body)) in
    let r = first_ok (counted w.limit (loops_at w i) (scope_at w i) [] s w.count) (λ (c : Count). first_fault_or (own ++ more) (with_initial i body at (record w { count = c }))) v e in
    let q = settled (own ++ more) (with_initial i body at (record w { count = r.0 })) v r.1.1 in
    record { count = r.0; rules = nil_left own more q.0; is = q.1 }

-- turns that were counted change nothing else
counted_same : (c : Count) (w : Walked) → Same w (record w { count = c })
counted_same c w = record { signals = refl; scopes = refl; owners = refl; loops = refl }

pub always_same : (i : ℕ) (events : EventControl) (s : Statement) (at : ℕ) (w v : Walked) → always i events s at w ≡ Ok v → Same w v
always_same i events s at w v e =
    let x = always_step i events s at w v e in
    let u : Walked = record w { count = x.count } in
    let body = unfold_statement (scope_at w i) [] s in
    same_to w (with_block i events body at u) v (same_twice w u (with_block i events body at u) (counted_same x.count w) (block_same i events body at u)) x.is

-- an `initial` item sets starting values
pub initial_same : (i : ℕ) (s : Statement) (at : ℕ) (w v : Walked) → initial i s at w ≡ Ok v → Same w v
initial_same i s at w v e =
    let x = initial_step i s at w v e in
    let u : Walked = record w { count = x.count } in
    same_to w (with_initial i (unfold_statement (scope_at w i) [] s) at u) v (record { signals = refl; scopes = refl; owners = refl; loops = refl }) x.is

port_same : (p : Port) (i id : ℕ) (t : Tree) (w : Walked) → Same w (join_port p i id t w)
port_same Inner i id t w = same_here w
port_same Input i id t w = driver_same (Whole id) (Written t i) (first t) w
port_same Output i id t w = driver_same (Written t i) (Whole id) (first t) w

at_same : (o : Option ℕ) (i : ℕ) (t : Tree) (w : Walked) → Same w (join_at o i t w)
at_same None i t w = same_here w
at_same (Some id) i t w = port_same (signal_at w.flat.signals id).port i id t w

pub join_same : (i k : ℕ) (name : Text) (t : Tree) (w : Walked) → Same w (join i k name t w)
unfolding join
join_same i k name t w = at_same (place_of (lookup name (scope_at w k))) i t w

pub join_value_same : (i k : ℕ) (name : Text) (o : Option Tree) (w : Walked) → Same w (join_value i k name o w)
join_value_same i k name None w = same_here w
join_value_same i k name (Some t) w = join_same i k name t w

pub named_same : (i k : ℕ) (list : List NamedConnection) (w : Walked) → Same w (fold (join_named i k) w list)
named_same i k [] w = same_here w
named_same i k (n ∷ ns) w = same_twice w (join_named i k w n) (fold (join_named i k) (join_named i k w n) ns) (join_value_same i k n.text n.value w) (named_same i k ns (join_named i k w n))

pub positions_same : (i k : ℕ) (left : List Text) (ts : Trees) (w : Walked) → Same w (join_positions i k left ts w)
unfolding join_positions
positions_same i k left End w = same_here w
positions_same i k [] (More t ts) w = same_here w
positions_same i k (p ∷ ps) (More t ts) w = same_twice w (join i k p t w) (join_positions i k ps ts (join i k p t w)) (join_same i k p t w) (positions_same i k ps ts (join i k p t w))

pub joined_same : (i k : ℕ) (m : ModuleDeclaration) (c : Connections) (w : Walked) → Same w (joined i k m c w)
unfolding joined
joined_same i k m (Positions ts) w = positions_same i k (port_names m) ts w
joined_same i k m (Named list) w = named_same i k list w

-- The parts of a step

pub record Began (source : List ModuleDeclaration) (k : ℕ) (given : Names) (w v : Walked) : Type 0 where
  pub top : Head
  pub found : head (length w.flat.scopes) (length w.flat.signals) w.bits given (module_at source k) ≡ Ok top
  pub is : opened k top (loop_names (module_at source k)) w ≡ v

pub began : (source : List ModuleDeclaration) (k : ℕ) (given : Names) (w v : Walked) → begin source k given w ≡ Ok v → Began source k given w v
unfolding begin
began source k given w v e =
    let r = first_ok (first_fault_or (fault_if (not (nat_lt (length w.flat.scopes) 256)) (TooMany InstanceCount 257)) w) (λ w. and_then (head (length w.flat.scopes) (length w.flat.signals) w.bits given (module_at source k)) (λ h. Ok (opened k h (loop_names (module_at source k)) w))) v e in
    let s = settled (fault_if (not (nat_lt (length w.flat.scopes) 256)) (TooMany InstanceCount 257)) w r.0 r.1.0 in
    let n : and_then (head (length w.flat.scopes) (length w.flat.signals) w.bits given (module_at source k)) (λ (h : Head). Ok (opened k h (loop_names (module_at source k)) w)) ≡ Ok v =
    subst (λ (z : Walked). and_then (head (length z.flat.scopes) (length z.flat.signals) z.bits given (module_at source k)) (λ (h : Head). Ok (opened k h (loop_names (module_at source k)) z)) ≡ Ok v) (sym s.1) r.1.1 in
    let q = first_ok (head (length w.flat.scopes) (length w.flat.signals) w.bits given (module_at source k)) (λ (h : Head). Ok (opened k h (loop_names (module_at source k)) w)) v n in
    record { top = q.0; found = q.1.0; is = ok_is (opened k q.0 (loop_names (module_at source k)) w) v q.1.1 }

pub record Inside (source : List ModuleDeclaration) (above : List ℕ) (i : ℕ) (sub : Enter) (at : ℕ) (over : Option Connections) (k : ℕ) (x : ModuleInstance) (w v : Walked) : Type 0 where
  pub given : Names
  pub settings : checked (loops_at w i) above (scope_at w i) (module_at source k) k at over x ≡ Ok given
  pub mid : Walked
  pub walked : sub k given (with_instance i x.text w) ≡ Ok mid
  pub is : joined i (length w.flat.scopes) (module_at source k) x.connections mid ≡ v

pub inside : (source : List ModuleDeclaration) (above : List ℕ) (i : ℕ) (sub : Enter) (at : ℕ) (over : Option Connections) (k : ℕ) (x : ModuleInstance) (w v : Walked)
    → instance_of source above i sub at over (Some k) x w ≡ Ok v → Inside source above i sub at over k x w v
unfolding instance_of
inside source above i sub at over k x w v e =
    let r = first_ok (checked (loops_at w i) above (scope_at w i) (module_at source k) k at over x) _ v e in
    let q = first_ok (sub k r.0 (with_instance i x.text w)) (λ (m : Walked). Ok (joined i (length w.flat.scopes) (module_at source k) x.connections m)) v r.1.1 in
    record { given = r.0; settings = r.1.0; mid = q.0; walked = q.1.0; is = ok_is (joined i (length w.flat.scopes) (module_at source k) x.connections q.0) v q.1.1 }

pub record Entered (source : List ModuleDeclaration) (table : Names) (sub : List ℕ → Enter) (above : List ℕ) (k : ℕ) (given : Names) (w v : Walked) : Type 0 where
  pub mid : Walked
  pub began : begin source k given w ≡ Ok mid
  pub walked : each (item source table (above ++ k ∷ []) (length w.flat.scopes) (sub (above ++ k ∷ []))) (module_at source k).items mid ≡ Ok v

pub entered : (source : List ModuleDeclaration) (table : Names) (sub : List ℕ → Enter) (above : List ℕ) (k : ℕ) (given : Names) (w v : Walked) → enter_by source table sub above k given w ≡ Ok v → Entered source table sub above k given w v
unfolding enter_by
entered source table sub above k given w v e = let r = first_ok (begin source k given w) _ v e in record { mid = r.0; began = r.1.0; walked = r.1.1 }

-- a module that is unknown has no instance
pub unknown : (source : List ModuleDeclaration) (above : List ℕ) (i : ℕ) (sub : Enter) (at : ℕ) (over : Option Connections) (x : ModuleInstance) (w v : Walked) → instance_of source above i sub at over None x w ≡ Ok v → ⊥
unfolding instance_of
unknown source above i sub at over x w v e = not_ok _ v e

block_drivers : (i : ℕ) (events : EventControl) (s : Statement) (at : ℕ) (w : Walked) → (with_block i events s at w).flat.drivers ≡ w.flat.drivers
block_drivers i (Star brackets) s at w = refl
block_drivers i (Edges list commas) s at w = refl
block_drivers i (Levels list commas) s at w = refl

-- a block is no driver
pub always_drivers : (i : ℕ) (events : EventControl) (s : Statement) (at : ℕ) (w v : Walked) → always i events s at w ≡ Ok v → w.flat.drivers ≡ v.flat.drivers
always_drivers i events s at w v e =
    let x = always_step i events s at w v e in
    sym (block_drivers i events (unfold_statement (scope_at w i) [] s) at (record w { count = x.count })) ∙ ap (λ (u : Walked). u.flat.drivers) x.is

-- neither is an `initial` item
pub initial_drivers : (i : ℕ) (s : Statement) (at : ℕ) (w v : Walked) → initial i s at w ≡ Ok v → w.flat.drivers ≡ v.flat.drivers
initial_drivers i s at w v e = ap (λ (u : Walked). u.flat.drivers) (initial_step i s at w v e).is

-- Signals and instances that were added

abbrev pub Begins : {X : Type 0} → List X → List X → Type 0
Begins {X} xs ys = (zs : List X) × (ys ≡ xs ++ zs)

begins_here : {X : Type 0} (xs : List X) → Begins xs xs
begins_here xs = ([], sym (append-nil xs))

begins_twice : {X : Type 0} (xs ys zs : List X) → Begins xs ys → Begins ys zs → Begins xs zs
begins_twice xs ys zs h k = (h.0 ++ k.0, k.1 ∙ (ap (λ l. l ++ k.0) h.1 ∙ append_assoc xs h.0 k.0))

-- instances are added, and in those that were there each name means what it meant
abbrev pub Alikes : List Names → List Names → Type 0
Alikes ns ms = (length ns ≤ length ms) × ((j : ℕ) → j < length ns → Alike (get_or ns j []) (get_or ms j []))

alikes_here : (ns : List Names) → Alikes ns ns
alikes_here ns = (omega arith, λ j l n. refl)

alikes_twice : (ns ms ks : List Names) → Alikes ns ms → Alikes ms ks → Alikes ns ks
alikes_twice ns ms ks a b = let x = a.0 in let y = b.0 in (omega (arith, x, y), λ j l n. a.1 j l n ∙ b.1 j (omega (arith, l, x)) n)

pub record Grows (f g : Flat) : Type 0 where
  pub signals : Begins f.signals g.signals
  pub owners : Begins f.owners g.owners
  pub scopes : Alikes f.scopes g.scopes

pub grows_here : (f : Flat) → Grows f f
grows_here f = record { signals = begins_here f.signals; owners = begins_here f.owners; scopes = alikes_here f.scopes }

pub grows_twice : (f g h : Flat) → Grows f g → Grows g h → Grows f h
grows_twice f g h a b = record {
  signals = begins_twice f.signals g.signals h.signals a.signals b.signals;
  owners = begins_twice f.owners g.owners h.owners a.owners b.owners;
  scopes = alikes_twice f.scopes g.scopes h.scopes a.scopes b.scopes;
}

pub same_grows : (w v : Walked) → Same w v → Grows w.flat v.flat
same_grows w v s = record {
  signals = subst (Begins w.flat.signals) s.signals (begins_here w.flat.signals);
  owners = subst (Begins w.flat.owners) s.owners (begins_here w.flat.owners);
  scopes = subst (Alikes w.flat.scopes) s.scopes (alikes_here w.flat.scopes);
}

-- the name of an instance changes nothing that the other names stand for
pub named_alike : (i : ℕ) (name : Text) (w : Walked) (j : ℕ) → j < length w.flat.scopes → Alike (scope_at w j) (scope_at (with_instance i name w) j)
named_alike i name w j l = by (cases_eq j i)
  where
    by : ((j ≡ i) ⊎ (j ≡ i → ⊥)) → Alike (scope_at w j) (scope_at (with_instance i name w) j)
    by (inl e) = λ n.
        let here : i < length w.flat.scopes = rw (← e) l in
        rw (e, get_or-set_same w.flat.scopes i (with_name (scope_at w i) name entity.Instance) [] here) (sym (alike_named (scope_at w i) name n))
    by (inr e) = λ n. ap (λ (s : Names). meant s n) (sym (get_or-set_other w.flat.scopes i j (with_name (scope_at w i) name entity.Instance) [] e))

pub named_grows : (i : ℕ) (name : Text) (w : Walked) → Grows w.flat (with_instance i name w).flat
named_grows i name w =
    let long = length-set w.flat.scopes i (with_name (scope_at w i) name entity.Instance) in
    record { signals = begins_here w.flat.signals; owners = begins_here w.flat.owners; scopes = (omega (arith, long), λ j l. named_alike i name w j l) }

pub opened_grows : (k : ℕ) (h : Head) (names : LoopNames) (w : Walked) → Grows w.flat (opened k h names w).flat
opened_grows k h names w =
    let long = length-append w.flat.scopes (h.scope ∷ []) in
    record {
      signals = (h.signals, refl);
      owners = (k ∷ [], refl);
      scopes = (omega (arith, long), λ j l n. ap (λ (s : Names). meant s n) (sym (get_or_append_left w.flat.scopes (h.scope ∷ []) [] j l)));
    }

abbrev pub EnterGrows : Enter → Type 0
EnterGrows sub = (k : ℕ) (given : Names) (w v : Walked) → sub k given w ≡ Ok v → Grows w.flat v.flat

-- over a list, from a state on
each_grows : {X : Type 0} (step : X → Walked → Result Walked FlatFault) → ((x : X) (w v : Walked) → step x w ≡ Ok v → Grows w.flat v.flat) → (xs : List X) (w v : Walked) → each step xs w ≡ Ok v → Grows w.flat v.flat
each_grows step h xs w v e = each_keeps (λ (u : Walked). Grows w.flat u.flat) step (λ x s t g q. grows_twice w.flat s.flat t.flat g (h x s t q)) xs w v (grows_here w.flat) e

pub instance_grows : (source : List ModuleDeclaration) (above : List ℕ) (i : ℕ) (sub : Enter) (at : ℕ) (over : Option Connections) (o : Option ℕ) → EnterGrows sub
    → (x : ModuleInstance) (w v : Walked) → instance_of source above i sub at over o x w ≡ Ok v → Grows w.flat v.flat
unfolding instance_of
instance_grows source above i sub at over None h x w v e = absurd (not_ok _ v e)
instance_grows source above i sub at over (Some k) h x w v e =
    let r = inside source above i sub at over k x w v e in
    let c = joined i (length w.flat.scopes) (module_at source k) x.connections r.mid in
    subst (λ (u : Walked). Grows w.flat u.flat) r.is
    (grows_twice w.flat r.mid.flat c.flat (grows_twice w.flat (with_instance i x.text w).flat r.mid.flat (named_grows i x.text w) (h k r.given (with_instance i x.text w) r.mid r.walked)) (same_grows r.mid c (joined_same i (length w.flat.scopes) (module_at source k) x.connections r.mid)))

pub item_grows : (source : List ModuleDeclaration) (table : Names) (above : List ℕ) (i : ℕ) (sub : Enter) → EnterGrows sub → (x : ModuleItem) (w v : Walked) → item source table above i sub x w ≡ Ok v → Grows w.flat v.flat
unfolding item
item_grows source table above i sub h (Ports p) w v e = subst (λ (u : Walked). Grows w.flat u.flat) (ok_is w v e) (grows_here w.flat)
item_grows source table above i sub h (Nets signed range list) w v e = same_grows w v (each_same (net i) (net_same i) list w v e)
item_grows source table above i sub h (Variables signed range list) w v e = subst (λ (u : Walked). Grows w.flat u.flat) (ok_is w v e) (grows_here w.flat)
item_grows source table above i sub h (Integers list) w v e = subst (λ (u : Walked). Grows w.flat u.flat) (ok_is w v e) (grows_here w.flat)
item_grows source table above i sub h (Parameters p) w v e = subst (λ (u : Walked). Grows w.flat u.flat) (ok_is w v e) (grows_here w.flat)
item_grows source table above i sub h (Assigns pairs) w v e = same_grows w v (each_same (assign i) (assign_same i) pairs w v e)
item_grows source table above i sub h (Always events s at) w v e = same_grows w v (always_same i events s at w v e)
item_grows source table above i sub h (Initial s at) w v e = same_grows w v (initial_same i s at w v e)
item_grows source table above i sub h (Instances m at over list) w v e =
    each_grows (instance_of source above i sub at over (place_of (lookup m table))) (λ x a b q. instance_grows source above i sub at over (place_of (lookup m table)) h x a b q) list w v e

pub items_grow : (source : List ModuleDeclaration) (table : Names) (above : List ℕ) (i : ℕ) (sub : Enter) → EnterGrows sub → (xs : List ModuleItem) (w v : Walked) → each (item source table above i sub) xs w ≡ Ok v → Grows w.flat v.flat
items_grow source table above i sub h xs w v e = each_grows (item source table above i sub) (λ x a b q. item_grows source table above i sub h x a b q) xs w v e

pub enter_grows : (source : List ModuleDeclaration) (table : Names) (levels : ℕ) (above : List ℕ) → EnterGrows (enter source table levels above)
unfolding enter
enter_grows source table zero above k given w v e = absurd (not_ok _ v e)
enter_grows source table (suc n) above k given w v e =
    let r = entered source table (enter source table n) above k given w v e in
    let b = began source k given w r.mid r.began in
    grows_twice w.flat r.mid.flat v.flat (subst (λ (u : Walked). Grows w.flat u.flat) b.is (opened_grows k b.top (loop_names (module_at source k)) w))
    (items_grow source table (above ++ k ∷ []) (length w.flat.scopes) (enter source table n (above ++ k ∷ [])) (enter_grows source table n (above ++ k ∷ [])) (module_at source k).items r.mid v r.walked)

-- what is added at the end is no signal and no instance
pub end_grows : (source : List ModuleDeclaration) (w : Walked) → Grows w.flat (finished source w.flat)
end_grows source w = let g = grows_here w.flat in record { signals = g.signals; owners = g.owners; scopes = g.scopes }
