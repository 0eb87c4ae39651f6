-- The spots of a source: each condition has at most as many tokens as what it stands in, and each literal is fit.
use Rattle.std.proofs.Common.{ℕ, ◌+◌, ◌<◌, ◌≤◌, ◌^◌, Bool, true, false, if◌then◌else◌, List, [], ◌∷◌, ◌++◌, length, get_or, flat_map, Option, Some, None, arith, length-append}
use Rattle.std.specs.List.{AllByRecursion}
use Rattle.rr_syntax.specs.Expressions.{spell, spell_more, IsFit, FitLiterals, FitLiteralsParts}
use Rattle.rr_syntax.specs.Items.{spell_each, spell_separated, spell_all, spell_range, spell_value, spell_declarator, spell_pair, spell_optional, spell_connection, spell_connections, spell_instance, spell_item, spell_module, spell_source, FitLiteralsValue, FitLiteralsDeclarator, FitLiteralsPair, FitLiteralsConnection, FitLiteralsConnections, FitLiteralsInstance, FitLiteralsItem, FitLiteralsModule, FitLiteralsSource}
use Rattle.rr_syntax.specs.Statements.{spell_labels, spell_loop, spell_statement, spell_statements, spell_arm, spell_arms, FitLiteralsStatement, FitLiteralsStatements, FitLiteralsArm, FitLiteralsArms}
use Rattle.rr_syntax.specs.Tree.{Tree, Trees, Name, Literal, Bit, Part, Indexed, Unary, Binary, Cond, Concat, Repeat, Cast, Paren, End, More, Statement, Statements, Arm, Arms, Null, Block, If, IfElse, Case, Assign, For, Done, Then, CaseItem, NoArms, MoreArms, DeclaredName, NetAssignment, NamedConnection, Connections, Positions, Names, ModuleInstance, ModuleItem, Ports, Nets, Variables, Integers, Parameters, Assigns, Always, Initial, Instances, ModuleDeclaration, SourceText}
use Rattle.rr_syntax.specs.Words.{Word}
use Rattle.rr_expr.specs.declared.operators.Infix.TheVariants.{Either}
use Rattle.rr_expr.specs.Faults.{takes_constants}
use Rattle.rr_expr.specs.Operators.{infixes}
use Rattle.rr_flat_instance.proofs.Spans as span
use Rattle.rr_flatten.proofs.HeadOf.{all_append as both}
use Rattle.rr_change_places.specs.Spots.{Spot, Body, Test, Value, spots, spots_of_parts, spots_of, spots_of_all, spots_of_arm, spots_of_arms, spots_of_value, spots_of_net, spots_of_pair, spots_of_connection, spots_of_connections, spots_of_instance, spots_of_item, HasFewTokens, IsCountable}
use Rattle.rr_sites_ordered.proofs.Members.{all_weaken}

-- a condition has at most n tokens, and a literal is fit
abbrev pub IsShort : ℕ → Spot → Type 0
IsShort n (Body s) = Unit {0}
IsShort n (Test t) = length (spell t) ≤ n
IsShort n (Value token d) = IsFit d

module _ (n : ℕ) where
  abbrev All : List Spot → Type 0
  All ss = AllByRecursion (IsShort n) ss

  joined : (xs ys : List Spot) → All xs → All ys → All (xs ++ ys)
  joined xs ys a b = both (IsShort n) xs ys a b

  unless : (c : Bool) (xs : List Spot) → All xs → All (if c then [] else xs)
  unless true xs h = tt
  unless false xs h = h

  mutual
    unfolding spots FitLiterals

    tree_short : (t : Tree) → FitLiterals t → length (spell t) ≤ n → All (spots t)
    tree_short (Name token x) f h = tt
    tree_short (Literal token d) f h = (f, tt)
    tree_short (Bit token x i) f h = tt
    tree_short (Part token x k r) f h = tt
    tree_short (Indexed token x g k up) f h = tt
    tree_short (Unary op t) f h = let e = span.long-Unary op t in tree_short t f (omega (arith, e, h))
    tree_short (Binary op k r) f h =
        let e = span.long-Binary op k r in
        unless (takes_constants (get_or infixes op Either)) (spots k ++ spots r) (joined (spots k) (spots r) (tree_short k f.0 (omega (arith, e, h))) (tree_short r f.1 (omega (arith, e, h))))
    tree_short (Cond a c d) f h =
        let e = span.long-Cond a c d in (
          omega (arith, e, h),
          joined (spots a) (spots c ++ spots d) (tree_short a f.0 (omega (arith, e, h))) (joined (spots c) (spots d) (tree_short c f.1 (omega (arith, e, h))) (tree_short d f.2 (omega (arith, e, h)))),
        )
    tree_short (Concat End) f h = tt
    tree_short (Concat (More t ts)) f h =
        let e = span.long-Concat (More t ts) in let g = span.long-parts t ts in let k = span.long-More t ts in parts_short (More t ts) f (omega (arith, e, g, k, h))
    tree_short (Repeat m End) f h = tt
    tree_short (Repeat m (More t ts)) f h =
        let e = span.long-Repeat m (More t ts) in let g = span.long-parts t ts in let k = span.long-More t ts in parts_short (More t ts) f.1 (omega (arith, e, g, k, h))
    tree_short (Cast signed t) f h = let e = span.long-Cast signed t in tree_short t f (omega (arith, e, h))
    tree_short (Paren t) f h = let e = span.long-Paren t in tree_short t f (omega (arith, e, h))

    parts_short : (ts : Trees) → FitLiteralsParts ts → length (spell_more ts) ≤ n + 1 → All (spots_of_parts ts)
    parts_short End f h = tt
    parts_short (More t ts) f h =
        let e = span.long-More t ts in joined (spots t) (spots_of_parts ts) (tree_short t f.0 (omega (arith, e, h))) (parts_short ts f.1 (omega (arith, e, h)))

  labels_short : (ts : Trees) (colon : Bool) → FitLiteralsParts ts → length (spell_labels ts colon) ≤ n → All (spots_of_parts ts)
  unfolding spots FitLiterals
  labels_short End colon f h = tt
  labels_short (More t ts) colon f h =
      let e = span.long-labels t ts colon in joined (spots t) (spots_of_parts ts) (tree_short t f.0 (omega (arith, e, h))) (parts_short ts f.1 (omega (arith, e, h)))

  mutual
    unfolding spots_of FitLiteralsStatement

    statement_short : (t : Statement) → FitLiteralsStatement t → length (spell_statement t) ≤ n → All (spots_of t)
    statement_short Null f h = tt
    statement_short (Block label ts) f h = let e = span.long-Block label ts in statements_short ts f (omega (arith, e, h))
    statement_short (If c t) f h =
        let e = span.long-If c t in (omega (arith, e, h), joined (spots c) (spots_of t) (tree_short c f.0 (omega (arith, e, h))) (statement_short t f.1 (omega (arith, e, h))))
    statement_short (IfElse c t u) f h =
        let e = span.long-IfElse c t u in (
          omega (arith, e, h),
          joined (spots c) (spots_of t ++ spots_of u) (tree_short c f.0 (omega (arith, e, h)))
              (joined (spots_of t) (spots_of u) (statement_short t f.1 (omega (arith, e, h))) (statement_short u f.2 (omega (arith, e, h)))),
        )
    statement_short (Case kind on arms) f h =
        let e = span.long-Case kind on arms in joined (spots on) (spots_of_arms arms) (tree_short on f.0 (omega (arith, e, h))) (arms_short arms f.1 (omega (arith, e, h)))
    statement_short (Assign t now v) f h = let e = span.long-Assign t now v in tree_short v f.1 (omega (arith, e, h))
    statement_short (For head t) f h = let e = span.long-For head t in statement_short t f.1 (omega (arith, e, h))

    statements_short : (ts : Statements) → FitLiteralsStatements ts → length (spell_statements ts) ≤ n → All (spots_of_all ts)
    statements_short Done f h = tt
    statements_short (Then t ts) f h =
        let e = span.long-Then t ts in joined (spots_of t) (spots_of_all ts) (statement_short t f.0 (omega (arith, e, h))) (statements_short ts f.1 (omega (arith, e, h)))

    arm_short : (a : Arm) → FitLiteralsArm a → length (spell_arm a) ≤ n → All (spots_of_arm a)
    arm_short (CaseItem labels colon t) f h =
        let e = span.long-CaseItem labels colon t in joined (spots_of_parts labels) (spots_of t) (labels_short labels colon f.0 (omega (arith, e, h))) (statement_short t f.1 (omega (arith, e, h)))

    arms_short : (arms : Arms) → FitLiteralsArms arms → length (spell_arms arms) ≤ n → All (spots_of_arms arms)
    arms_short NoArms f h = tt
    arms_short (MoreArms a rest) f h =
        let e = span.long-MoreArms a rest in joined (spots_of_arm a) (spots_of_arms rest) (arm_short a f.0 (omega (arith, e, h))) (arms_short rest f.1 (omega (arith, e, h)))

  -- Items

  value_short : (o : Option Tree) → FitLiteralsValue o → length (spell_optional o) ≤ n → All (spots_of_value o)
  unfolding FitLiteralsValue spell_optional spots_of_value
  value_short None f h = tt
  value_short (Some t) f h = tree_short t f h

  given_short : (o : Option Tree) → FitLiteralsValue o → length (spell_value o) ≤ n → All (spots_of_value o)
  unfolding FitLiteralsValue spell_value spots_of_value
  given_short None f h = tt
  given_short (Some t) f h = tree_short t f (omega (arith, h))

  net_short : (x : DeclaredName) → FitLiteralsDeclarator x → length (spell_declarator x) ≤ n → All (spots_of_net x)
  unfolding FitLiteralsDeclarator spell_declarator
  net_short x f h = let e = length-append (spell_range x.words) (spell_value x.value) in given_short x.value f.1 (omega (arith, e, h))

  pair_short : (p : NetAssignment) → FitLiteralsPair p → length (spell_pair p) ≤ n → All (spots_of_pair p)
  unfolding FitLiteralsPair
  pair_short p f h = let e = span.long-pair p in tree_short p.value f.1 (omega (arith, e, h))

  connection_short : (c : NamedConnection) → FitLiteralsConnection c → length (spell_connection c) ≤ n → All (spots_of_connection c)
  unfolding FitLiteralsConnection
  connection_short c f h = let e = span.long-connection c in value_short c.value f (omega (arith, e, h))

  each_short : {X : Type 0} (g : X → List Word) (F : X → Type 0) (k : X → List Spot) → ((x : X) → F x → length (g x) ≤ n → All (k x)) → (xs : List X) → AllByRecursion F xs → length (spell_each g xs) ≤ n + 1 → All (flat_map k xs)
  each_short g F k one [] f h = tt
  each_short g F k one (x ∷ xs) f h =
      let e = span.long-each g x xs in both (IsShort n) (k x) (flat_map k xs) (one x f.0 (omega (arith, e, h))) (each_short g F k one xs f.1 (omega (arith, e, h)))

  separated_short : {X : Type 0} (g : X → List Word) (F : X → Type 0) (k : X → List Spot) → ((x : X) → F x → length (g x) ≤ n → All (k x)) → (xs : List X) → AllByRecursion F xs → length (spell_separated g xs) ≤ n → All (flat_map k xs)
  separated_short g F k one [] f h = tt
  separated_short g F k one (x ∷ xs) f h =
      let e = span.long-separated g x xs in both (IsShort n) (k x) (flat_map k xs) (one x f.0 (omega (arith, e, h))) (each_short g F k one xs f.1 (omega (arith, e, h)))

  connections_short : (c : Connections) → FitLiteralsConnections c → length (spell_connections c) ≤ n → All (spots_of_connections c)
  unfolding FitLiteralsConnections spots_of_connections spots
  connections_short (Positions End) f h = tt
  connections_short (Positions (More t ts)) f h =
      let e = span.long-Positions (More t ts) in let g = span.long-parts t ts in let k = span.long-More t ts in parts_short (More t ts) f (omega (arith, e, g, k, h))
  connections_short (Names cs) f h = let e = span.long-Names cs in separated_short spell_connection FitLiteralsConnection spots_of_connection connection_short cs f (omega (arith, e, h))

  instance_short : (x : ModuleInstance) → FitLiteralsInstance x → length (spell_instance x) ≤ n → All (spots_of_instance x)
  unfolding FitLiteralsInstance
  instance_short x f h = let e = span.long-instance x in connections_short x.connections f (omega (arith, e, h))

  pub item_short : (x : ModuleItem) → FitLiteralsItem x → length (spell_item x) ≤ n → All (spots_of_item x)
  unfolding FitLiteralsItem spots_of_item
  item_short (Ports p) f h = tt
  item_short (Nets signed range list) f h = let e = span.long-Nets signed range list in separated_short spell_declarator FitLiteralsDeclarator spots_of_net net_short list f.1 (omega (arith, e, h))
  item_short (Variables signed range list) f h = tt
  item_short (Integers list) f h = tt
  item_short (Parameters p) f h = tt
  item_short (Assigns pairs) f h = let e = span.long-Assigns pairs in separated_short spell_pair FitLiteralsPair spots_of_pair pair_short pairs f (omega (arith, e, h))
  item_short (Always events t token) f h = let e = span.long-Always events t token in (tt, statement_short t f.1 (omega (arith, e, h)))
  item_short (Initial body token) f h = tt
  item_short (Instances m token over list) f h =
      let e = span.long-Instances m token over list in separated_short spell_instance FitLiteralsInstance spots_of_instance instance_short list f.1 (omega (arith, e, h))

  abbrev pub AreShort : ModuleItem → Type 0
  AreShort x = All (spots_of_item x)

  abbrev pub IsShortModule : ModuleDeclaration → Type 0
  IsShortModule m = AllByRecursion AreShort m.items

  items_short : (xs : List ModuleItem) → AllByRecursion FitLiteralsItem xs → length (spell_all spell_item xs) ≤ n → AllByRecursion AreShort xs
  items_short [] f h = tt
  items_short (x ∷ xs) f h = let e = span.long-all spell_item x xs in (item_short x f.0 (omega (arith, e, h)), items_short xs f.1 (omega (arith, e, h)))

  modules_short : (ms : List ModuleDeclaration) → AllByRecursion FitLiteralsModule ms → length (spell_all spell_module ms) ≤ n → AllByRecursion IsShortModule ms
  unfolding FitLiteralsModule
  modules_short [] f h = tt
  modules_short (m ∷ ms) f h =
      let e = span.long-all spell_module m ms in let g = span.long-module m in (items_short m.items f.0.2 (omega (arith, e, g, h)), modules_short ms f.1 (omega (arith, e, h)))

  pub source_short : (source : SourceText) → FitLiteralsSource source → length (spell_source source) ≤ n → AllByRecursion IsShortModule source.modules
  unfolding FitLiteralsSource spell_source
  source_short source f h = modules_short source.modules f h

-- so the tokens of each condition can be counted
few_of : (n : ℕ) (s : Spot) → n < 2 ^ 32 → IsShort n s → HasFewTokens s
few_of n (Body s) l h = tt
few_of n (Test t) l h = omega (arith, l, h)
few_of n (Value token d) l h = tt

pub countable : (source : SourceText) → FitLiteralsSource source → length (spell_source source) < 2 ^ 32 → AllByRecursion IsCountable source.modules
countable source f l =
    let n = length (spell_source source) in
    all_weaken (IsShortModule n) source.modules
    (λ m h. all_weaken (AreShort n) m.items (λ x k. all_weaken (IsShort n) (spots_of_item x) (λ s q. few_of n s l q) k) h)
    (source_short n source f (omega arith))
