-- Steps of a walk that add no `initial` item and set no starting value.
use Rattle.std.proofs.Common.{◌≡◌, ◌∙◌, ℕ, List, [], ◌∷◌, ◌++◌, fold, Option, Some, None, Result, Ok, refl, subst}
use Rattle.rr_syntax.specs.Tree.{Tree, Trees, End, More, Statement, EventControl, Star, Edges, Levels, DeclaredName, NetAssignment, NamedConnection, Connections, Positions, ModuleDeclaration}
use Rattle.rr_syntax.specs.Tree.{Names as Named}
use Rattle.rr_expr.specs.Faults.{first}
use Rattle.rr_expr.specs.Scopes.{lookup}
use Rattle.rr_flat.specs.declared.fault.FlatFault.{FlatFault}
use Rattle.rr_flat.specs.declared.signal.Port.{Port}
use Rattle.rr_flat.specs.declared.signal.Port.TheVariants.{Inner, Input, Output}
use Rattle.rr_flat.specs.Faults.{each}
use Rattle.rr_flat.specs.Plain.{Written}
use Rattle.rr_flat.specs.Signals.{Text, signal_at}
use Rattle.rr_unfold.specs.Unfold.{Count, unfold_statement}
use Rattle.rr_flatten.specs.Tables.{place_of, port_names}
use Rattle.rr_flatten.specs.Walk.{Walked, scope_at, loops_at, with_driver, with_block, expression_faults, assign, net_driver, net_value, net_with, net, always, join_port, join_at, join, join_value, join_named, join_positions, joined}
use Rattle.rr_flatten.proofs.HeadOf.{ok_is, first_ok}
use Rattle.rr_flat_laws.proofs.Answers.{settled}
use Rattle.rr_flat_laws.proofs.Growing.{always_step}

pub record Still (w v : Walked) : Type 0 where
  pub initials : v.flat.initials ≡ w.flat.initials
  pub starts : v.flat.starts ≡ w.flat.starts

pub still_here : (w : Walked) → Still w w
still_here w = record { initials = refl; starts = refl }

still_twice : (w v u : Walked) → Still w v → Still v u → Still w u
still_twice w v u a b = record { initials = b.initials ∙ a.initials; starts = b.starts ∙ a.starts }

still_to : (w v u : Walked) → Still w v → v ≡ u → Still w u
still_to w v u s e = subst (Still w) e s

pub each_still : {X : Type 0} (step : X → Walked → Result Walked FlatFault) → ((x : X) (w v : Walked) → step x w ≡ Ok v → Still w v) → (xs : List X) (w v : Walked) → each step xs w ≡ Ok v → Still w v
unfolding each
each_still step h [] w v e = still_to w w v (still_here w) (ok_is w v e)
each_still step h (x ∷ xs) w v e =
    let r = first_ok (step x w) (each step xs) v e in
    still_twice w r.0 v (h x w r.0 r.1.0) (each_still step h xs r.0 v r.1.1)

pub assign_still : (i : ℕ) (p : NetAssignment) (w v : Walked) → assign i p w ≡ Ok v → Still w v
unfolding assign
assign_still i p w v e =
    still_to w (with_driver (Written p.target i) (Written p.value i) (first p.target) w) v (record { initials = refl; starts = refl })
    (settled (expression_faults (loops_at w i) (scope_at w i) p.target ++ expression_faults (loops_at w i) (scope_at w i) p.value) (with_driver (Written p.target i) (Written p.value i) (first p.target) w) v e).1

block_still : (i : ℕ) (events : EventControl) (s : Statement) (at : ℕ) (c : Count) (w : Walked) → Still w (with_block i events s at (record w { count = c }))
block_still i (Star brackets) s at c w = record { initials = refl; starts = refl }
block_still i (Edges list commas) s at c w = record { initials = refl; starts = refl }
block_still i (Levels list commas) s at c w = record { initials = refl; starts = refl }

pub always_still : (i : ℕ) (events : EventControl) (s : Statement) (at : ℕ) (w v : Walked) → always i events s at w ≡ Ok v → Still w v
always_still i events s at w v e =
    let x = always_step i events s at w v e in
    let body = unfold_statement (scope_at w i) [] s in
    still_to w (with_block i events body at (record w { count = x.count })) v (block_still i events body at x.count w) x.is

net_driver_still : (i at : ℕ) (t : Tree) (o : Option ℕ) (w : Walked) → Still w (net_driver i at t o w)
net_driver_still i at t None w = still_here w
net_driver_still i at t (Some id) w = record { initials = refl; starts = refl }

net_with_still : (i at : ℕ) (name : Text) (o : Option Tree) (w v : Walked) → net_with i at name o w ≡ Ok v → Still w v
unfolding net_value
net_with_still i at name None w v e = still_to w w v (still_here w) (ok_is w v e)
net_with_still i at name (Some t) w v e =
    still_to w (net_driver i at t (place_of (lookup name (scope_at w i))) w) v (net_driver_still i at t (place_of (lookup name (scope_at w i))) w)
    (settled (expression_faults (loops_at w i) (scope_at w i) t) (net_driver i at t (place_of (lookup name (scope_at w i))) w) v e).1

pub net_still : (i : ℕ) (n : DeclaredName) (w v : Walked) → net i n w ≡ Ok v → Still w v
unfolding net
net_still i n w v e = net_with_still i n.token n.text n.value w v e

port_still : (p : Port) (i id : ℕ) (t : Tree) (w : Walked) → Still w (join_port p i id t w)
port_still Inner i id t w = still_here w
port_still Input i id t w = record { initials = refl; starts = refl }
port_still Output i id t w = record { initials = refl; starts = refl }

at_still : (o : Option ℕ) (i : ℕ) (t : Tree) (w : Walked) → Still w (join_at o i t w)
at_still None i t w = still_here w
at_still (Some id) i t w = port_still (signal_at w.flat.signals id).port i id t w

join_still : (i k : ℕ) (name : Text) (t : Tree) (w : Walked) → Still w (join i k name t w)
unfolding join
join_still i k name t w = at_still (place_of (lookup name (scope_at w k))) i t w

value_still : (i k : ℕ) (name : Text) (o : Option Tree) (w : Walked) → Still w (join_value i k name o w)
value_still i k name None w = still_here w
value_still i k name (Some t) w = join_still i k name t w

named_still : (i k : ℕ) (list : List NamedConnection) (w : Walked) → Still w (fold (join_named i k) w list)
named_still i k [] w = still_here w
named_still i k (n ∷ ns) w = still_twice w (join_named i k w n) (fold (join_named i k) (join_named i k w n) ns) (value_still i k n.text n.value w) (named_still i k ns (join_named i k w n))

positions_still : (i k : ℕ) (left : List Text) (ts : Trees) (w : Walked) → Still w (join_positions i k left ts w)
unfolding join_positions
positions_still i k left End w = still_here w
positions_still i k [] (More t ts) w = still_here w
positions_still i k (p ∷ ps) (More t ts) w = still_twice w (join i k p t w) (join_positions i k ps ts (join i k p t w)) (join_still i k p t w) (positions_still i k ps ts (join i k p t w))

pub joined_still : (i k : ℕ) (m : ModuleDeclaration) (c : Connections) (w : Walked) → Still w (joined i k m c w)
unfolding joined
joined_still i k m (Positions ts) w = positions_still i k (port_names m) ts w
joined_still i k m (Named list) w = named_still i k list w
