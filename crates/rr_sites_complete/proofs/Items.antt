-- The spots of an item are the body of an `always`, and the literals and tests that stand in it.
use Rattle.std.proofs.Common.{◌≡◌, inl, inr, ℕ, [], ◌++◌, Option, Some, None, Contains, refl, sym, subst}
use Rattle.rr_syntax.specs.Tree.{Tree, Trees, Literal, Statement, EventControl, Connections, Positions, Names, ModuleItem, Ports, Nets, Variables, Integers, Parameters, Assigns, Always, Initial, Instances}
use Rattle.rr_change_places.specs.Spots.{Spot, Body, Test, Value, spots, spots_of, spots_of_parts, spots_of_value, spots_of_net, spots_of_pair, spots_of_connection, spots_of_connections, spots_of_instance, spots_of_item}
use Rattle.rr_sites_complete.specs.Places.{IsConnected, in_order, by_name, IsPlace, of_net, of_assign, of_always, of_instance, Stands, IsTest, of_statement, of_conditional}
use Rattle.rr_sites_complete.proofs.Lists.{head_in, tail_in, none_in, all_in, cases_in, flat_in, flat_from}
use Rattle.rr_sites_complete.proofs.Expressions.{IsSpotIn, IsSpotInPart, spots_inside, spots_inside_parts, inside_in, part_in}
use Rattle.rr_sites_complete.proofs.Statements.{IsSpotOf, spots_there, condition_in, place_in}

-- the body of an `always`
pub record IsBody (body : Statement) (x : ModuleItem) : Type 0 where
  pub events : EventControl
  pub token : ℕ
  pub is : x ≡ Always events body token

abbrev pub IsSpotAt : ModuleItem → Spot → Type 0
IsSpotAt x (Body s) = IsBody s x
IsSpotAt x (Test c) = IsTest c x
IsSpotAt x (Value token n) = Stands (Literal token n) x

-- Each spot is there

at_place : (e : Tree) (x : ModuleItem) → IsPlace e x → (s : Spot) → IsSpotIn e s → IsSpotAt x s
at_place e x h (Body s) i = absurd i
at_place e x h (Test c) (a, b, i) = of_conditional a b (record { place = e; is = h; inside = i })
at_place e x h (Value token n) i = record { place = e; is = h; inside = i }

placed : (e : Tree) (x : ModuleItem) → IsPlace e x → (s : Spot) → Contains (spots e) s → IsSpotAt x s
placed e x h s c = at_place e x h s (all_in (IsSpotIn e) (spots e) s (spots_inside e) c)

of_value : (o : Option Tree) (x : ModuleItem) → ((e : Tree) → o ≡ Some e → IsPlace e x) → (s : Spot) → Contains (spots_of_value o) s → IsSpotAt x s
unfolding spots_of_value
of_value None x k s c = absurd (none_in s c)
of_value (Some e) x k s c = placed e x (k e refl) s c

of_parts : (ts : Trees) (x : ModuleItem) → ((e : Tree) → IsConnected e (Positions ts) → IsPlace e x) → (s : Spot) → Contains (spots_of_parts ts) s → IsSpotAt x s
of_parts ts x k s c = let p = all_in (IsSpotInPart ts) (spots_of_parts ts) s (spots_inside_parts ts) c in at_place p.0 x (k p.0 (in_order p.1)) s p.2

of_connections : (cs : Connections) (x : ModuleItem) → ((e : Tree) → IsConnected e cs → IsPlace e x) → (s : Spot) → Contains (spots_of_connections cs) s → IsSpotAt x s
unfolding spots_of_connections
of_connections (Positions ts) x k s c = of_parts ts x k s c
of_connections (Names list) x k s c = let r = flat_from spots_of_connection list s c in of_value r.0.value x (λ e h. k e (by_name r.0 r.1 h)) s r.2

of_body : (events : EventControl) (body : Statement) (token : ℕ) → (s : Spot) → IsSpotOf body s → IsSpotAt (Always events body token) s
of_body events body token (Body s) h = absurd h
of_body events body token (Test c) (inl h) = of_statement h
of_body events body token (Test c) (inr (a, b, h)) = of_conditional a b (record { place = h.place; is = of_always h.at; inside = h.inside })
of_body events body token (Value t n) h = record { place = h.place; is = of_always h.at; inside = h.inside }

pub item_there : (x : ModuleItem) (s : Spot) → Contains (spots_of_item x) s → IsSpotAt x s
unfolding spots_of_item
item_there (Ports p) s c = absurd (none_in s c)
item_there (Nets signed range list) s c = let r = flat_from spots_of_net list s c in of_value r.0.value (Nets signed range list) (λ e h. of_net r.0 r.1 h) s r.2
item_there (Variables signed range list) s c = absurd (none_in s c)
item_there (Integers list) s c = absurd (none_in s c)
item_there (Parameters p) s c = absurd (none_in s c)
item_there (Assigns pairs) s c = let r = flat_from spots_of_pair pairs s c in placed r.0.value (Assigns pairs) (of_assign r.0 r.1 refl) s r.2
item_there (Always events body token) s c = elim (cases_in (Body body) (spots_of body) s c) [
  | inl e ↦ subst (IsSpotAt (Always events body token)) e (record { events = events; token = token; is = refl })
  | inr d ↦ of_body events body token s (all_in (IsSpotOf body) (spots_of body) s (spots_there body) d)
]
item_there (Initial body token) s c = absurd (none_in s c)
item_there (Instances m token over list) s c =
    let r = flat_from spots_of_instance list s c in of_connections r.0.connections (Instances m token over list) (λ e h. of_instance r.0 r.1 h) s r.2

-- What stands there has its spot

value_in : (o : Option Tree) (e : Tree) → o ≡ Some e → (s : Spot) → Contains (spots e) s → Contains (spots_of_value o) s
unfolding spots_of_value
value_in o e h s c = subst (λ w. Contains (spots_of_value w) s) (sym h) c

connected_in : {e : Tree} {cs : Connections} → IsConnected e cs → (s : Spot) → Contains (spots e) s → Contains (spots_of_connections cs) s
unfolding spots_of_connections
connected_in (in_order p) s c = part_in p s c
connected_in {e} (by_name {list} n h v) s c = flat_in spots_of_connection list n s h (value_in n.value e v s c)

placed_in : {e : Tree} {x : ModuleItem} → IsPlace e x → (s : Spot) → Contains (spots e) s → Contains (spots_of_item x) s
unfolding spots_of_item
placed_in {e} (of_net {list} n h v) s c = flat_in spots_of_net list n s h (value_in n.value e v s c)
placed_in (of_assign {pairs} p h v) s c = flat_in spots_of_pair pairs p s h (subst (λ w. Contains (spots w) s) (sym v) c)
placed_in {e} (of_always {events} {body} {token} h) s c = tail_in (Body body) (spots_of body) s (place_in e body h s c)
placed_in (of_instance {list} i h k) s c = flat_in spots_of_instance list i s h (connected_in k s c)

stands_there : {e : Tree} {x : ModuleItem} → Stands e x → (s : Spot) → Contains (spots e) s → Contains (spots_of_item x) s
stands_there h s c = placed_in h.is s (inside_in h.inside s c)

test_in : {c : Tree} {x : ModuleItem} → IsTest c x → Contains (spots_of_item x) (Test c)
unfolding spots_of_item spots
test_in {c} (of_statement {events} {body} {token} h) = tail_in (Body body) (spots_of body) (Test c) (condition_in c body h (Test c) (head_in (Test c) (spots c)))
test_in {c} (of_conditional t u h) = stands_there h (Test c) (head_in (Test c) (spots c ++ (spots t ++ spots u)))

pub item_in : (x : ModuleItem) (s : Spot) → IsSpotAt x s → Contains (spots_of_item x) s
unfolding spots_of_item spots
item_in x (Body s) h = subst (λ y. Contains (spots_of_item y) (Body s)) (sym h.is) (head_in (Body s) (spots_of s))
item_in x (Test c) h = test_in h
item_in x (Value token n) h = stands_there h (Value token n) (head_in (Value token n) [])
