-- The spots of an item stand among its tokens.
use Rattle.std.proofs.Common.{◌≡◌, ℕ, ◌+◌, ◌<◌, ◌≤◌, List, [], ◌∷◌, length, flat_map, Option, Some, None, refl, arith, length-append}
use Rattle.std.specs.List.{AllByRecursion}
use Rattle.rr_syntax.specs.Expressions.{WellFormed, Numbered}
use Rattle.rr_syntax.specs.Items.{spell_each, spell_separated, spell_range, spell_type, spell_value, spell_declarator, spell_pair, spell_events, spell_optional, spell_connection, spell_connections, spell_overrides, spell_instance, spell_item, WellFormedValue, WellFormedDeclarator, WellFormedPair, WellFormedConnection, WellFormedConnections, WellFormedInstance, WellFormedItem, NumberedEach, NumberedSeparated, NumberedValue, NumberedDeclarator, NumberedPair, NumberedConnection, NumberedConnections, NumberedInstance, NumberedItem}
use Rattle.rr_syntax.specs.Tree.{Tree, End, More, Statement, DeclaredName, NetAssignment, EventControl, NamedConnection, Connections, Positions, Names, ModuleInstance, ModuleItem, Ports, Nets, Variables, Integers, Parameters, Assigns, Always, Initial, Instances}
use Rattle.rr_syntax.specs.Words.{Word}
use Rattle.rr_syntax.proofs.Nonempty.{spell_statement-some}
use Rattle.rr_expr.specs.Faults.{first}
use Rattle.rr_flat.specs.Reads.{assigned_by}
use Rattle.rr_instance.specs.Firsts.{first_token}
use Rattle.rr_flat_instance.proofs.Spans as span
use Rattle.rr_flat_instance.proofs.Telling.{begins_at}
use Rattle.rr_lawful_instance.proofs.Lists.{both}
use Rattle.rr_change_places.specs.Spots.{Spot, Body, Test, Value, spots, spots_of, spots_of_value, spots_of_net, spots_of_pair, spots_of_connection, spots_of_connections, spots_of_instance, spots_of_item}
use Rattle.rr_sites_ordered.proofs.Members.{all_weaken}
use Rattle.rr_sites_fit.proofs.Stands.{Stands, All, tree_stands, parts_stand, statement_stands}

module _ (low high : ℕ) where
  value_stands : (o : Option Tree) (at : ℕ) → WellFormedValue o → NumberedValue o at → low ≤ at → at + length (spell_value o) ≤ high → All low high (spots_of_value o)
  unfolding WellFormedValue NumberedValue spell_value spots_of_value
  value_stands None at w n l h = tt
  value_stands (Some t) at w n l h = tree_stands low high t (at + 1) w n (omega arith) (omega (arith, h))

  net_stands : (x : DeclaredName) (at : ℕ) → WellFormedDeclarator x → NumberedDeclarator x at → low ≤ at → at + length (spell_declarator x) ≤ high → All low high (spots_of_net x)
  unfolding WellFormedDeclarator NumberedDeclarator spell_declarator
  net_stands x at w n l h =
      let e = length-append (spell_range x.words) (spell_value x.value) in value_stands x.value (at + 1 + length (spell_range x.words)) w.1 n.2 (omega arith) (omega (arith, e, h))

  pair_stands : (p : NetAssignment) (at : ℕ) → WellFormedPair p → NumberedPair p at → low ≤ at → at + length (spell_pair p) ≤ high → All low high (spots_of_pair p)
  unfolding WellFormedPair NumberedPair
  pair_stands p at w n l h = let e = span.long-pair p in tree_stands low high p.value _ w.2 n.1 (omega arith) (omega (arith, e, h))

  connected_stands : (o : Option Tree) (at : ℕ) → WellFormedValue o → NumberedValue o at → low ≤ at → at + 1 + length (spell_optional o) ≤ high → All low high (spots_of_value o)
  unfolding WellFormedValue NumberedValue spell_optional spots_of_value
  connected_stands None at w n l h = tt
  connected_stands (Some t) at w n l h = tree_stands low high t (at + 1) w n (omega arith) h

  connection_stands : (c : NamedConnection) (at : ℕ) → WellFormedConnection c → NumberedConnection c at → low ≤ at → at + length (spell_connection c) ≤ high → All low high (spots_of_connection c)
  unfolding WellFormedConnection NumberedConnection
  connection_stands c at w n l h = let e = span.long-connection c in connected_stands c.value (at + 2) w n.1 (omega arith) (omega (arith, e, h))

  each_stand : {X : Type 0} (f : X → List Word) (V : X → Type 0) (N : X → ℕ → Type 0) (g : X → List Spot) → ((x : X) (at : ℕ) → V x → N x at → low ≤ at → at + length (f x) ≤ high → All low high (g x))
      → (xs : List X) (at : ℕ) → AllByRecursion V xs → NumberedEach f N xs at → low ≤ at → at + length (spell_each f xs) ≤ high → All low high (flat_map g xs)
  unfolding NumberedEach
  each_stand f V N g one [] at w n l h = tt
  each_stand f V N g one (x ∷ xs) at w n l h =
      let e = span.long-each f x xs in
      both (Stands low high) (g x) (flat_map g xs) (one x (at + 1) w.0 n.0 (omega arith) (omega (arith, e, h))) (each_stand f V N g one xs (at + 1 + length (f x)) w.1 n.1 (omega arith) (omega (arith, e, h)))

  separated_stand : {X : Type 0} (f : X → List Word) (V : X → Type 0) (N : X → ℕ → Type 0) (g : X → List Spot) → ((x : X) (at : ℕ) → V x → N x at → low ≤ at → at + length (f x) ≤ high → All low high (g x))
      → (xs : List X) (at : ℕ) → AllByRecursion V xs → NumberedSeparated f N xs at → low ≤ at → at + length (spell_separated f xs) ≤ high → All low high (flat_map g xs)
  unfolding NumberedSeparated
  separated_stand f V N g one [] at w n l h = tt
  separated_stand f V N g one (x ∷ xs) at w n l h =
      let e = span.long-separated f x xs in
      both (Stands low high) (g x) (flat_map g xs) (one x at w.0 n.0 l (omega (arith, e, h))) (each_stand f V N g one xs (at + length (f x)) w.1 n.1 (omega arith) (omega (arith, e, h)))

  connections_stand : (c : Connections) (at : ℕ) → WellFormedConnections c → NumberedConnections c at → low ≤ at → at + length (spell_connections c) ≤ high → All low high (spots_of_connections c)
  unfolding WellFormedConnections NumberedConnections spots_of_connections spots WellFormed Numbered
  connections_stand (Positions End) at w n l h = tt
  connections_stand (Positions (More t ts)) at w n l h =
      let e = span.long-Positions (More t ts) in let f = span.long-parts t ts in let k = span.long-More t ts in parts_stand low high (More t ts) at w n l (omega (arith, e, f, k, h))
  connections_stand (Names []) at w n l h = tt
  connections_stand (Names (c ∷ cs)) at w n l h =
      let e = span.long-Names (c ∷ cs) in let f = span.long-separated spell_connection c cs in let k = span.long-each spell_connection c cs in
      each_stand spell_connection WellFormedConnection NumberedConnection spots_of_connection connection_stands (c ∷ cs) at w.1 n l (omega (arith, e, f, k, h))

  instance_stands : (x : ModuleInstance) (at : ℕ) → WellFormedInstance x → NumberedInstance x at → low ≤ at → at + length (spell_instance x) ≤ high → All low high (spots_of_instance x)
  unfolding WellFormedInstance NumberedInstance
  instance_stands x at w n l h = let e = span.long-instance x in connections_stand x.connections (at + 1) w n.1 (omega arith) (omega (arith, e, h))

  -- Items

  -- the statement is the body of the item
  abbrev pub IsBodyOf : ModuleItem → Statement → Type 0
  IsBodyOf x s = (events : EventControl) × ((at : ℕ) × (x ≡ Always events s at))

  -- a body that assigns something begins in the window
  abbrev pub StandsOf : ModuleItem → Spot → Type 0
  StandsOf x (Body s) = IsBodyOf x s × ((assigned_by s ≡ [] → ⊥) → (low ≤ first_token s) × (first_token s < high))
  StandsOf x (Test t) = (low ≤ first t) × (first t < high)
  StandsOf x (Value token n) = Unit {0}

  also : (x : ModuleItem) (s : Spot) → Stands low high s → StandsOf x s
  also x (Body s) h = absurd h
  also x (Test t) h = h
  also x (Value token n) h = tt

  also_all : (x : ModuleItem) (ss : List Spot) → All low high ss → AllByRecursion (StandsOf x) ss
  also_all x ss h = all_weaken (Stands low high) ss (also x) h

  pub item_stands : (x : ModuleItem) (at : ℕ) → WellFormedItem x → NumberedItem x at → low ≤ at → at + length (spell_item x) ≤ high → AllByRecursion (StandsOf x) (spots_of_item x)
  unfolding WellFormedItem NumberedItem spots_of_item
  item_stands (Ports p) at w n l h = tt
  item_stands (Nets signed range list) at w n l h =
      let e = span.long-Nets signed range list in
      also_all (Nets signed range list) (flat_map spots_of_net list) (separated_stand spell_declarator WellFormedDeclarator NumberedDeclarator spots_of_net net_stands list (at + 1 + length (spell_type signed range)) w.2 n.1 (omega arith) (omega (arith, e, h)))
  item_stands (Variables signed range list) at w n l h = tt
  item_stands (Integers list) at w n l h = tt
  item_stands (Parameters p) at w n l h = tt
  item_stands (Assigns pairs) at w n l h =
      let e = span.long-Assigns pairs in also_all (Assigns pairs) (flat_map spots_of_pair pairs) (separated_stand spell_pair WellFormedPair NumberedPair spots_of_pair pair_stands pairs (at + 1) w.1 n (omega arith) (omega (arith, e, h)))
  item_stands (Always events t token) at w n l h =
      let e = span.long-Always events t token in
      let some = spell_statement-some t in
      let start : ℕ = at + 2 + length (spell_events events) in (
        ((events, (token, refl)), λ a. let f = begins_at t start w.1 n.2 a in (omega (arith, f, l), omega (arith, f, e, h, some))),
        also_all (Always events t token) (spots_of t) (statement_stands low high t start w.1 n.2 (omega arith) (omega (arith, e, h))),
      )
  item_stands (Initial body token) at w n l h = tt
  item_stands (Instances m token over list) at w n l h =
      let e = span.long-Instances m token over list in
      also_all (Instances m token over list) (flat_map spots_of_instance list)
      (separated_stand spell_instance WellFormedInstance NumberedInstance spots_of_instance instance_stands list (at + 1 + length (spell_overrides over)) w.2 n.2 (omega arith) (omega (arith, e, h)))
