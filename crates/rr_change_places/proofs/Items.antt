-- The spots of items of the arena, one equation for each form.
use Rattle.std.proofs.Common.{◌≡◌, sym, ℕ, Bool, true, false, List, [], ◌∷◌, ◌++◌, map, Option, None, Some, refl, append_assoc, append-nil}
use Rattle.std.specs.Prelude.{flat_map}
use Rattle.rr_syntax.specs.declared.tree.Bounds.{Bounds}
use Rattle.rr_syntax.specs.declared.tree.Connection.{Connection}
use Rattle.rr_syntax.specs.declared.tree.Conns.{Conns}
use Rattle.rr_syntax.specs.declared.tree.Conns.TheVariants as conns
use Rattle.rr_syntax.specs.declared.tree.Event.{Event}
use Rattle.rr_syntax.specs.declared.tree.Events.{Events}
use Rattle.rr_syntax.specs.declared.tree.Events.TheVariants as events
use Rattle.rr_syntax.specs.declared.tree.Expr.{Expr}
use Rattle.rr_syntax.specs.declared.tree.Group.{Group}
use Rattle.rr_syntax.specs.declared.tree.Instance.{Instance}
use Rattle.rr_syntax.specs.declared.tree.Item.TheVariants as item
use Rattle.rr_syntax.specs.declared.tree.Named.{Named}
use Rattle.rr_syntax.specs.declared.tree.Declarator.{Declarator}
use Rattle.rr_syntax.specs.declared.tree.Pair.{Pair}
use Rattle.rr_syntax.specs.declared.tree.Params.{Params}
use Rattle.rr_syntax.specs.declared.tree.Stmt.{Stmt}
use Rattle.rr_syntax.specs.View.{plain, plain_list, plain_statement, plain_value, plain_declarator, plain_pair, plain_connection, plain_connections, plain_instance, plain_events, plain_item}
use Rattle.rr_change_places.specs.Spots.{Spot, Body, spots, spots_of_parts, spots_of, spots_of_value, spots_of_net, spots_of_pair, spots_of_connection, spots_of_connections, spots_of_instance, spots_of_item, is_clocked}
use denote.Ref.{Bor}

pub value-None : (acc : List Spot) → acc ++ spots_of_value (plain_value None) ≡ acc
unfolding plain_value spots_of_value
value-None acc = append-nil acc

pub value-Some : (acc : List Spot) (t : Bor Expr) → acc ++ spots_of_value (plain_value (Some t)) ≡ acc ++ spots (plain t.now)
unfolding plain_value spots_of_value
value-Some acc t = refl

pub ruleset value_nodes = (value-None, value-Some)

pub net_spots : (n : Declarator) → spots_of_net (plain_declarator n) ≡ spots_of_value (plain_value n.value)
unfolding plain_declarator
net_spots n = refl

pub pair_spots : (p : Pair) → spots_of_pair (plain_pair p) ≡ spots (plain p.value.now)
unfolding plain_pair
pair_spots p = refl

pub connection_spots : (c : Connection) → spots_of_connection (plain_connection c) ≡ spots_of_value (plain_value c.value)
unfolding plain_connection
connection_spots c = refl

pub instance_spots : (i : Instance) → spots_of_instance (plain_instance i) ≡ spots_of_connections (plain_connections i.conns)
unfolding plain_instance
instance_spots i = refl

pub connections-Positions : (acc : List Spot) (ts : Bor (List Expr)) → acc ++ spots_of_connections (plain_connections (conns.Positions ts)) ≡ acc ++ spots_of_parts (plain_list ts.now)
unfolding plain_connections spots_of_connections
connections-Positions acc ts = refl

pub connections-Names : (acc : List Spot) (list : Bor (List Connection)) → acc ++ spots_of_connections (plain_connections (conns.Names list)) ≡ acc ++ flat_map spots_of_connection (map plain_connection list.now)
unfolding plain_connections spots_of_connections
connections-Names acc list = refl

pub ruleset connections_nodes = (connections-Positions, connections-Names)

pub item-Ports : (acc : List Spot) (g : Group) → acc ++ spots_of_item (plain_item (item.Ports g)) ≡ acc
unfolding plain_item spots_of_item
item-Ports acc g = append-nil acc

pub item-Nets : (acc : List Spot) (signed : Bool) (range : Option Bounds) (names : Bor (List Declarator)) → acc ++ spots_of_item (plain_item (item.Nets signed range names)) ≡ acc ++ flat_map spots_of_net (map plain_declarator names.now)
unfolding plain_item spots_of_item
item-Nets acc signed range names = refl

pub item-Variables : (acc : List Spot) (signed : Bool) (range : Option Bounds) (names : Bor (List Declarator)) → acc ++ spots_of_item (plain_item (item.Variables signed range names)) ≡ acc
unfolding plain_item spots_of_item
item-Variables acc signed range names = append-nil acc

pub item-Integers : (acc : List Spot) (names : Bor (List Named)) → acc ++ spots_of_item (plain_item (item.Integers names)) ≡ acc
unfolding plain_item spots_of_item
item-Integers acc names = append-nil acc

pub item-Parameters : (acc : List Spot) (p : Params) → acc ++ spots_of_item (plain_item (item.Parameters p)) ≡ acc
unfolding plain_item spots_of_item
item-Parameters acc p = append-nil acc

pub item-Assigns : (acc : List Spot) (pairs : Bor (List Pair)) → acc ++ spots_of_item (plain_item (item.Assigns pairs)) ≡ acc ++ flat_map spots_of_pair (map plain_pair pairs.now)
unfolding plain_item spots_of_item
item-Assigns acc pairs = refl

pub item-Always : (acc : List Spot) (events : Events) (body : Bor Stmt) (token : ℕ) → acc ++ spots_of_item (plain_item (item.Always events body token)) ≡ (acc ++ Body (plain_statement body.now) ∷ []) ++ spots_of (plain_statement body.now)
unfolding plain_item spots_of_item
item-Always acc events body token = sym (append_assoc acc (Body (plain_statement body.now) ∷ []) (spots_of (plain_statement body.now)))

pub item-Initial : (acc : List Spot) (s : Bor Stmt) (token : ℕ) → acc ++ spots_of_item (plain_item (item.Initial s token)) ≡ acc
unfolding plain_item spots_of_item
item-Initial acc s token = append-nil acc

pub item-Instances : (acc : List Spot) (m : Bor (List ℕ)) (token : ℕ) (overrides : Option Conns) (list : Bor (List Instance)) → acc ++ spots_of_item (plain_item (item.Instances m token overrides list)) ≡ acc ++ flat_map spots_of_instance (map plain_instance list.now)
unfolding plain_item spots_of_item
item-Instances acc m token overrides list = refl

pub ruleset item_nodes = (item-Ports, item-Nets, item-Variables, item-Integers, item-Parameters, item-Assigns, item-Always, item-Initial, item-Instances)

-- whether an item of the arena is clocked

pub clocked-Edges : (list : Bor (List Event)) (commas : Bor (List Bool)) (body : Bor Stmt) (token : ℕ) → is_clocked (plain_item (item.Always (events.Edges list commas) body token)) ≡ true
unfolding plain_item plain_events
clocked-Edges list commas body token = refl

pub clocked-Star : (brackets : Bool) (body : Bor Stmt) (token : ℕ) → is_clocked (plain_item (item.Always (events.Star brackets) body token)) ≡ false
unfolding plain_item plain_events
clocked-Star brackets body token = refl

pub clocked-Levels : (list : Bor (List Expr)) (commas : Bor (List Bool)) (body : Bor Stmt) (token : ℕ) → is_clocked (plain_item (item.Always (events.Levels list commas) body token)) ≡ false
unfolding plain_item plain_events
clocked-Levels list commas body token = refl

pub clocked-Ports : (g : Group) → is_clocked (plain_item (item.Ports g)) ≡ false
unfolding plain_item
clocked-Ports g = refl

pub clocked-Nets : (signed : Bool) (range : Option Bounds) (names : Bor (List Declarator)) → is_clocked (plain_item (item.Nets signed range names)) ≡ false
unfolding plain_item
clocked-Nets signed range names = refl

pub clocked-Variables : (signed : Bool) (range : Option Bounds) (names : Bor (List Declarator)) → is_clocked (plain_item (item.Variables signed range names)) ≡ false
unfolding plain_item
clocked-Variables signed range names = refl

pub clocked-Integers : (names : Bor (List Named)) → is_clocked (plain_item (item.Integers names)) ≡ false
unfolding plain_item
clocked-Integers names = refl

pub clocked-Parameters : (p : Params) → is_clocked (plain_item (item.Parameters p)) ≡ false
unfolding plain_item
clocked-Parameters p = refl

pub clocked-Assigns : (pairs : Bor (List Pair)) → is_clocked (plain_item (item.Assigns pairs)) ≡ false
unfolding plain_item
clocked-Assigns pairs = refl

pub clocked-Initial : (s : Bor Stmt) (token : ℕ) → is_clocked (plain_item (item.Initial s token)) ≡ false
unfolding plain_item
clocked-Initial s token = refl

pub clocked-Instances : (m : Bor (List ℕ)) (token : ℕ) (overrides : Option Conns) (list : Bor (List Instance)) → is_clocked (plain_item (item.Instances m token overrides list)) ≡ false
unfolding plain_item
clocked-Instances m token overrides list = refl

pub ruleset clocked_nodes =
    (clocked-Edges, clocked-Star, clocked-Levels, clocked-Ports, clocked-Nets, clocked-Variables, clocked-Integers, clocked-Parameters, clocked-Assigns, clocked-Initial, clocked-Instances)
