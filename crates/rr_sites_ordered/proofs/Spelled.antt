-- The literals at spots are the numbers that the tokens of a source spell.
use Rattle.std.proofs.Common.{◌≡◌, ◌∙◌, ℕ, zero, suc, ◌+◌, ◌<◌, Bool, true, false, if◌then◌else◌, List, [], ◌∷◌, ◌++◌, length, get_or, map, filter, flat_map, Option, Some, None, refl, ap, subst, arith}
use Rattle.std.specs.List.{AllByRecursion}
use Rattle.rr_syntax.specs.Expressions.{spell, spell_parts, spell_more, Numbered, NumberedMore}
use Rattle.rr_syntax.specs.Items.{spell_each, spell_separated, spell_all, spell_range, spell_type, spell_value, spell_declarator, spell_pair, spell_events, spell_optional, spell_connection, spell_connections, spell_overrides, spell_instance, spell_item, spell_parameters, spell_ports, spell_module, spell_source, NumberedAll, NumberedEach, NumberedSeparated, NumberedValue, NumberedDeclarator, NumberedPair, NumberedConnection, NumberedConnections, NumberedInstance, NumberedItem, NumberedModule, NumberedSource}
use Rattle.rr_syntax.specs.Statements.{spell_label, spell_labels, spell_loop, spell_statement, spell_statements, spell_arm, spell_arms, NumberedLabels, NumberedStatement, NumberedStatements, NumberedArm, NumberedArms}
use Rattle.rr_syntax.specs.Tree.{Tree, Trees, Name, Literal, Bit, Part, Indexed, Unary, Binary, Cond, Concat, Repeat, Cast, Paren, End, More, Statement, Statements, Arm, Arms, Null, Block, If, IfElse, Case, Assign, For, Done, Then, CaseItem, NoArms, MoreArms, DeclaredName, NetAssignment, NamedConnection, Connections, Positions, Names, ModuleInstance, ModuleItem, Ports, Nets, Variables, Integers, Parameters, Assigns, Always, Initial, Instances, ModuleDeclaration, SourceText}
use Rattle.rr_syntax.specs.Words.{Word, Digits, Marked}
use Rattle.rr_expr.specs.declared.operators.Infix.TheVariants.{Either}
use Rattle.rr_expr.specs.Faults.{takes_constants}
use Rattle.rr_expr.specs.Operators.{infixes}
use Rattle.rr_expr.specs.Scopes.{Names as Scope}
use Rattle.rr_flat.specs.Signals.{Text}
use Rattle.rr_flatten.proofs.HeadOf.{all_append as both}
use Rattle.rr_instance.specs.Firsts.{first_token}
use Rattle.rr_choice.specs.Sites as sites
use Rattle.rr_choice.specs.Sites.{SiteKind, Site}
use Rattle.rr_change_places.specs.Spots.{Spot, Body, Test, Value, spots, spots_of_parts, spots_of, spots_of_all, spots_of_arm, spots_of_arms, spots_of_value, spots_of_net, spots_of_pair, spots_of_connection, spots_of_connections, spots_of_instance, spots_of_item, is_clocked}
use Rattle.rr_literal.specs.Literals.{is_known}
use Rattle.rr_guard.specs.Names.{names_at}
use Rattle.rr_overwrite.specs.Overwrites.{Target, targets_of, may_overwrite, overwrite_of}
use Rattle.rr_clock.specs.Places.{Place}
use Rattle.rr_sites_listed.specs.Listing.{AreRising, module_at, sites_at, item_sites, module_sites, place_sites, scope_of, sites_of}
use Rattle.rr_sites_ordered.specs.Order.{IsSpelled, LiteralsAreSpelled}
use Rattle.rr_sites_ordered.proofs.Members.{all_every, all_flat, all_map, all_weaken}

-- these words stand from a number on
abbrev pub StandAt : (ℕ → Word) → ℕ → List Word → Type 0
StandAt W at [] = Unit {0}
StandAt W at (w ∷ ws) = (W at ≡ w) × StandAt W (at + 1) ws

-- a literal is the number at its token
abbrev pub IsTold : (ℕ → Word) → Spot → Type 0
IsTold W (Body s) = Unit {0}
IsTold W (Test t) = Unit {0}
IsTold W (Value token d) = W token ≡ Digits d

module _ (W : ℕ → Word) where
  to : (ws : List Word) (a b : ℕ) → a ≡ b → StandAt W a ws → StandAt W b ws
  to ws a b e h = subst (λ (n : ℕ). StandAt W n ws) e h

  front : (a b : List Word) (at : ℕ) → StandAt W at (a ++ b) → StandAt W at a
  front [] b at h = tt
  front (w ∷ a) b at h = (h.0, front a b (at + 1) h.1)

  back : (a b : List Word) (at : ℕ) → StandAt W at (a ++ b) → StandAt W (at + length a) b
  back [] b at h = to b at (at + 0) (omega arith) h
  back (w ∷ a) b at h = to b (at + 1 + length a) (at + suc (length a)) (omega arith) (back a b (at + 1) h.1)

  abbrev All : List Spot → Type 0
  All ss = AllByRecursion (IsTold W) ss

  joined : (xs ys : List Spot) → All xs → All ys → All (xs ++ ys)
  joined xs ys a b = both (IsTold W) xs ys a b

  unless : (c : Bool) (xs : List Spot) → All xs → All (if c then [] else xs)
  unless true xs h = tt
  unless false xs h = h

  mutual
    unfolding spell spots Numbered

    tree_told : (t : Tree) (at : ℕ) → Numbered t at → StandAt W at (spell t) → All (spots t)
    tree_told (Name token x) at n h = tt
    tree_told (Literal token d) at n h = (ap W n ∙ h.0, tt)
    tree_told (Bit token x i) at n h = tt
    tree_told (Part token x k r) at n h = tt
    tree_told (Indexed token x g k up) at n h = tt
    tree_told (Unary op t) at n h = tree_told t (at + 1) n h.1
    tree_told (Binary op k r) at n h =
        unless (takes_constants (get_or infixes op Either)) (spots k ++ spots r)
        (joined (spots k) (spots r) (tree_told k at n.0 (front (spell k) _ at h)) (tree_told r (at + length (spell k) + 1) n.1 (back (spell k) _ at h).1))
    tree_told (Cond a c d) at n h =
        let k = (back (spell a) _ at h).1 in
        let mid = at + length (spell a) + 1 in
        (tt, joined (spots a) (spots c ++ spots d) (tree_told a at n.0 (front (spell a) _ at h)) (joined (spots c) (spots d) (tree_told c mid n.1 (front (spell c) _ mid k)) (tree_told d (mid + length (spell c) + 1) n.2 (back (spell c) _ mid k).1)))
    tree_told (Concat ts) at n h = parts_told ts at n (front (spell_parts ts) _ (at + 1) h.1)
    tree_told (Repeat m ts) at n h =
        let mid = at + 1 + length (spell m) in
        parts_told ts mid n.1 (front (spell_parts ts) _ (mid + 1) (back (spell m) _ (at + 1) h.1).1)
    tree_told (Cast signed t) at n h = tree_told t (at + 2) n (to (spell t) (at + 1 + 1) (at + 2) (omega arith) (front (spell t) _ (at + 1 + 1) h.1.1))
    tree_told (Paren t) at n h = tree_told t (at + 1) n (front (spell t) _ (at + 1) h.1)

    -- `at` is the number of the mark before the first
    parts_told : (ts : Trees) (at : ℕ) → NumberedMore ts at → StandAt W (at + 1) (spell_parts ts) → All (spots_of_parts ts)
    parts_told End at n h = tt
    parts_told (More t ts) at n h =
        joined (spots t) (spots_of_parts ts) (tree_told t (at + 1) n.0 (front (spell t) _ (at + 1) h)) (more_told ts (at + 1 + length (spell t)) n.1 (back (spell t) _ (at + 1) h))

    more_told : (ts : Trees) (at : ℕ) → NumberedMore ts at → StandAt W at (spell_more ts) → All (spots_of_parts ts)
    more_told End at n h = tt
    more_told (More t ts) at n h =
        joined (spots t) (spots_of_parts ts) (tree_told t (at + 1) n.0 (front (spell t) _ (at + 1) h.1)) (more_told ts (at + 1 + length (spell t)) n.1 (back (spell t) _ (at + 1) h.1))

  labels_told : (ts : Trees) (colon : Bool) (at : ℕ) → NumberedLabels ts at → StandAt W at (spell_labels ts colon) → All (spots_of_parts ts)
  unfolding spell spots spell_labels NumberedLabels
  labels_told End colon at n h = tt
  labels_told (More t ts) colon at n h =
      let k = front (spell_parts (More t ts)) _ at h in
      joined (spots t) (spots_of_parts ts) (tree_told t at n.0 (front (spell t) _ at k)) (more_told ts (at + length (spell t)) n.1 (back (spell t) _ at k))

  mutual
    unfolding spell_statement spots_of NumberedStatement

    statement_told : (t : Statement) (at : ℕ) → NumberedStatement t at → StandAt W at (spell_statement t) → All (spots_of t)
    statement_told Null at n h = tt
    statement_told (Block label ts) at n h =
        let mid = at + 1 + length (spell_label label) in statements_told ts mid n.1 (front (spell_statements ts) _ mid (back (spell_label label) _ (at + 1) h.1))
    statement_told (If c t) at n h =
        let k = to (spell c ++ _) (at + 1 + 1) (at + 2) (omega arith) h.1.1 in
        (tt, joined (spots c) (spots_of t) (tree_told c (at + 2) n.0 (front (spell c) _ (at + 2) k)) (statement_told t (at + 2 + length (spell c) + 1) n.1 (back (spell c) _ (at + 2) k).1))
    statement_told (IfElse c t u) at n h =
        let k = to (spell c ++ _) (at + 1 + 1) (at + 2) (omega arith) h.1.1 in
        let mid = at + 2 + length (spell c) + 1 in
        let j = (back (spell c) _ (at + 2) k).1 in (
          tt,
          joined (spots c) (spots_of t ++ spots_of u) (tree_told c (at + 2) n.0 (front (spell c) _ (at + 2) k))
              (joined (spots_of t) (spots_of u) (statement_told t mid n.1 (front (spell_statement t) _ mid j)) (statement_told u (mid + length (spell_statement t) + 1) n.2 (back (spell_statement t) _ mid j).1)),
        )
    statement_told (Case kind on arms) at n h =
        let k = to (spell on ++ _) (at + 1 + 1) (at + 2) (omega arith) h.1.1 in
        let mid = at + 2 + length (spell on) + 1 in
        joined (spots on) (spots_of_arms arms) (tree_told on (at + 2) n.0 (front (spell on) _ (at + 2) k)) (arms_told arms mid n.1 (front (spell_arms arms) _ mid (back (spell on) _ (at + 2) k).1))
    statement_told (Assign t now v) at n h =
        let mid = at + length (spell t) + 1 in tree_told v mid n.1 (front (spell v) _ mid (back (spell t) _ at h).1)
    statement_told (For head t) at n h = statement_told t (at + 1 + length (spell_loop head)) n.1 (back (spell_loop head) _ (at + 1) h.1)

    statements_told : (ts : Statements) (at : ℕ) → NumberedStatements ts at → StandAt W at (spell_statements ts) → All (spots_of_all ts)
    statements_told Done at n h = tt
    statements_told (Then t ts) at n h =
        joined (spots_of t) (spots_of_all ts) (statement_told t at n.0 (front (spell_statement t) _ at h)) (statements_told ts (at + length (spell_statement t)) n.1 (back (spell_statement t) _ at h))

    arm_told : (a : Arm) (at : ℕ) → NumberedArm a at → StandAt W at (spell_arm a) → All (spots_of_arm a)
    arm_told (CaseItem labels colon t) at n h =
        joined (spots_of_parts labels) (spots_of t) (labels_told labels colon at n.0 (front (spell_labels labels colon) _ at h)) (statement_told t (at + length (spell_labels labels colon)) n.1 (back (spell_labels labels colon) _ at h))

    arms_told : (arms : Arms) (at : ℕ) → NumberedArms arms at → StandAt W at (spell_arms arms) → All (spots_of_arms arms)
    arms_told NoArms at n h = tt
    arms_told (MoreArms a rest) at n h =
        joined (spots_of_arm a) (spots_of_arms rest) (arm_told a at n.0 (front (spell_arm a) _ at h)) (arms_told rest (at + length (spell_arm a)) n.1 (back (spell_arm a) _ at h))

  -- Items

  value_told : (o : Option Tree) (at : ℕ) → NumberedValue o at → StandAt W at (spell_value o) → All (spots_of_value o)
  unfolding NumberedValue spell_value spots_of_value
  value_told None at n h = tt
  value_told (Some t) at n h = tree_told t (at + 1) n h.1

  connected_told : (o : Option Tree) (at : ℕ) → NumberedValue o at → StandAt W (at + 1) (spell_optional o) → All (spots_of_value o)
  unfolding NumberedValue spell_optional spots_of_value
  connected_told None at n h = tt
  connected_told (Some t) at n h = tree_told t (at + 1) n h

  net_told : (x : DeclaredName) (at : ℕ) → NumberedDeclarator x at → StandAt W at (spell_declarator x) → All (spots_of_net x)
  unfolding NumberedDeclarator spell_declarator
  net_told x at n h = value_told x.value (at + 1 + length (spell_range x.words)) n.2 (back (spell_range x.words) (spell_value x.value) (at + 1) h.1)

  pair_told : (p : NetAssignment) (at : ℕ) → NumberedPair p at → StandAt W at (spell_pair p) → All (spots_of_pair p)
  unfolding NumberedPair spell_pair
  pair_told p at n h = tree_told p.value (at + length (spell p.target) + 1) n.1 (back (spell p.target) _ at h).1

  connection_told : (c : NamedConnection) (at : ℕ) → NumberedConnection c at → StandAt W at (spell_connection c) → All (spots_of_connection c)
  unfolding NumberedConnection spell_connection
  connection_told c at n h = connected_told c.value (at + 2) n.1 (to (spell_optional c.value) (at + 1 + 1 + 1) (at + 2 + 1) (omega arith) (front (spell_optional c.value) _ (at + 1 + 1 + 1) h.1.1.1))

  module _ {X : Type 0} (f : X → List Word) (N : X → ℕ → Type 0) (g : X → List Spot) (one : (x : X) (at : ℕ) → N x at → StandAt W at (f x) → All (g x)) where
    each_told : (xs : List X) (at : ℕ) → NumberedEach f N xs at → StandAt W at (spell_each f xs) → All (flat_map g xs)
    unfolding NumberedEach spell_each
    each_told [] at n h = tt
    each_told (x ∷ xs) at n h = both (IsTold W) (g x) (flat_map g xs) (one x (at + 1) n.0 (front (f x) _ (at + 1) h.1)) (each_told xs (at + 1 + length (f x)) n.1 (back (f x) _ (at + 1) h.1))

    separated_told : (xs : List X) (at : ℕ) → NumberedSeparated f N xs at → StandAt W at (spell_separated f xs) → All (flat_map g xs)
    unfolding NumberedSeparated spell_separated
    separated_told [] at n h = tt
    separated_told (x ∷ xs) at n h = both (IsTold W) (g x) (flat_map g xs) (one x at n.0 (front (f x) _ at h)) (each_told xs (at + length (f x)) n.1 (back (f x) _ at h))

    -- after an opening bracket
    bracketed_told : (xs : List X) (at : ℕ) → NumberedEach f N xs at → StandAt W (at + 1) (spell_separated f xs) → All (flat_map g xs)
    unfolding NumberedEach spell_separated
    bracketed_told [] at n h = tt
    bracketed_told (x ∷ xs) at n h = both (IsTold W) (g x) (flat_map g xs) (one x (at + 1) n.0 (front (f x) _ (at + 1) h)) (each_told xs (at + 1 + length (f x)) n.1 (back (f x) _ (at + 1) h))

  connections_told : (c : Connections) (at : ℕ) → NumberedConnections c at → StandAt W at (spell_connections c) → All (spots_of_connections c)
  unfolding NumberedConnections spell_connections spots_of_connections
  connections_told (Positions ts) at n h = parts_told ts at n (front (spell_parts ts) _ (at + 1) h.1)
  connections_told (Names cs) at n h =
      bracketed_told spell_connection NumberedConnection spots_of_connection connection_told cs at n (front (spell_separated spell_connection cs) _ (at + 1) h.1)

  instance_told : (x : ModuleInstance) (at : ℕ) → NumberedInstance x at → StandAt W at (spell_instance x) → All (spots_of_instance x)
  unfolding NumberedInstance spell_instance
  instance_told x at n h = connections_told x.connections (at + 1) n.1 h.1

  item_told : (x : ModuleItem) (at : ℕ) → NumberedItem x at → StandAt W at (spell_item x) → All (spots_of_item x)
  unfolding NumberedItem spell_item spots_of_item
  item_told (Ports p) at n h = tt
  item_told (Nets signed range list) at n h =
      let mid = at + 1 + length (spell_type signed range) in
      separated_told spell_declarator NumberedDeclarator spots_of_net net_told list mid n.1 (front (spell_separated spell_declarator list) _ mid (back (spell_type signed range) _ (at + 1) h.1))
  item_told (Variables signed range list) at n h = tt
  item_told (Integers list) at n h = tt
  item_told (Parameters p) at n h = tt
  item_told (Assigns pairs) at n h = separated_told spell_pair NumberedPair spots_of_pair pair_told pairs (at + 1) n (front (spell_separated spell_pair pairs) _ (at + 1) h.1)
  item_told (Always events t token) at n h =
      (tt, statement_told t (at + 2 + length (spell_events events)) n.2 (back (spell_events events) (spell_statement t) (at + 2) (to (spell_events events ++ spell_statement t) (at + 1 + 1) (at + 2) (omega arith) h.1.1)))
  item_told (Initial body token) at n h = tt
  item_told (Instances m token over list) at n h =
      let mid = at + 1 + length (spell_overrides over) in
      separated_told spell_instance NumberedInstance spots_of_instance instance_told list mid n.2 (front (spell_separated spell_instance list) _ mid (back (spell_overrides over) _ (at + 1) h.1))

  abbrev AreTold : ModuleItem → Type 0
  AreTold x = All (spots_of_item x)

  items_told : (xs : List ModuleItem) (at : ℕ) → NumberedAll spell_item NumberedItem xs at → StandAt W at (spell_all spell_item xs) → AllByRecursion AreTold xs
  unfolding NumberedAll spell_all
  items_told [] at n h = tt
  items_told (x ∷ xs) at n h = (item_told x at n.0 (front (spell_item x) _ at h), items_told xs (at + length (spell_item x)) n.1 (back (spell_item x) _ at h))

  module_told : (m : ModuleDeclaration) (at : ℕ) → NumberedModule m at → StandAt W at (spell_module m) → AllByRecursion AreTold m.items
  unfolding NumberedModule spell_module
  module_told m at n h =
      let start = at + 2 + length (spell_parameters m.params) in
      let past = start + length (spell_ports m.header m.groups) in
      let k = to (spell_parameters m.params ++ _) (at + 1 + 1) (at + 2) (omega arith) h.1.1 in
      let j = back (spell_ports m.header m.groups) _ start (back (spell_parameters m.params) _ (at + 2) k) in
      items_told m.items (past + 1) n.3 (front (spell_all spell_item m.items) _ (past + 1) j.1)

  modules_told : (ms : List ModuleDeclaration) (at : ℕ) → NumberedAll spell_module NumberedModule ms at → StandAt W at (spell_all spell_module ms) → AllByRecursion (λ m. AllByRecursion AreTold m.items) ms
  unfolding NumberedAll spell_all
  modules_told [] at n h = tt
  modules_told (m ∷ ms) at n h = (module_told m at n.0 (front (spell_module m) _ at h), modules_told ms (at + length (spell_module m)) n.1 (back (spell_module m) _ at h))

-- Sites

module _ (ws : List Word) where
  abbrev word : ℕ → Word
  word i = get_or ws i (Marked 0)

  abbrev IsGood : Site → Type 0
  IsGood s = IsSpelled ws s.token s.kind

  module _ (m : ModuleDeclaration) (owner : ℕ) (scope : Scope) (clocks : List Text) where
    spot_spelled : (c : Bool) (s : Spot) → IsTold word s → AllByRecursion IsGood (sites_at m owner scope clocks c s)
    spot_spelled c (Body s) h =
        both IsGood (map (overwrite_of owner scope (names_at m clocks c (first_token s)) s) (filter (may_overwrite m) (targets_of s))) []
        (all_map IsGood (overwrite_of owner scope (names_at m clocks c (first_token s)) s) (filter (may_overwrite m) (targets_of s)) (all_every (λ (t : Target). Unit {0}) (filter (may_overwrite m) (targets_of s)) (λ t. tt))) tt
    spot_spelled c (Test t) h = (tt, tt)
    spot_spelled c (Value token d) h = by (is_known d) refl
      where
        by : (b : Bool) → is_known d ≡ b → AllByRecursion IsGood (if b then (record { kind = sites.Literal d.width d.signed; token = token }) ∷ [] else [])
        by true e = (record { number = d; there = h; width = refl; signed = refl; known = e }, tt)
        by false e = tt

    module_spelled : AllByRecursion (AreTold word) m.items → AllByRecursion IsGood (module_sites m owner scope clocks)
    unfolding module_sites
    module_spelled h =
        all_flat IsGood (item_sites m owner scope clocks) m.items
        (all_weaken (AreTold word) m.items (λ x k. all_flat IsGood (sites_at m owner scope clocks (is_clocked x)) (spots_of_item x) (all_weaken (IsTold word) (spots_of_item x) (λ s q. spot_spelled (is_clocked x) s q) k)) h)

  module_of : (k : ℕ) (ms : List ModuleDeclaration) → k < length ms → AllByRecursion (λ m. AllByRecursion (AreTold word) m.items) ms → AllByRecursion (AreTold word) (module_at ms k).items
  module_of k [] l h = absurd (omega (arith, l))
  module_of zero (m ∷ ms) l h = h.0
  module_of (suc k) (m ∷ ms) l h = module_of k ms (omega (arith, l)) h.1

  places_spelled : (source : SourceText) (scopes : List Scope) (owners : List ℕ) (places : List Place) → AllByRecursion (λ m. AllByRecursion (AreTold word) m.items) source.modules → AreRising (length source.modules) places →
      AllByRecursion (λ (p : Place). AllByRecursion IsGood (place_sites source scopes owners p)) places
  unfolding AreRising
  places_spelled source scopes owners [] h r = tt
  places_spelled source scopes owners (p ∷ ps) h r = (
    module_spelled (module_at source.modules p.owner) p.owner (scope_of scopes owners p.owner) p.clocks (module_of p.owner source.modules r.0 h),
    places_spelled source scopes owners ps h r.2,
  )

-- a list stands where a function tells it
stands : (f : ℕ → Word) (at : ℕ) (ws : List Word) → ((i : ℕ) → i < length ws → f (at + i) ≡ get_or ws i (Marked 0)) → StandAt f at ws
stands f at [] h = tt
stands f at (w ∷ ws) h =
    let z : at ≡ at + 0 = omega arith in
    (ap f z ∙ h 0 (omega arith), stands f (at + 1) ws (λ i l. let e : at + 1 + i ≡ at + suc i = omega arith in ap f e ∙ h (suc i) (omega (arith, l))))

pub literals_spelled : LiteralsAreSpelled
unfolding sites_of spell_source NumberedSource
literals_spelled source scopes owners places n r =
    let ws = spell_all spell_module source.modules in
    let told = modules_told (word ws) source.modules 0 n (stands (word ws) 0 ws (λ i l. let e : 0 + i ≡ i = omega arith in ap (word ws) e)) in
    all_flat (IsGood ws) (place_sites source scopes owners) places (places_spelled ws source scopes owners places told r)
