-- The sites of a module are in order.
use Rattle.std.proofs.Common.{◌≡◌, inl, inr, ℕ, suc, ◌+◌, ◌<◌, ◌≤◌, Bool, true, false, if◌then◌else◌, List, [], ◌∷◌, ◌++◌, length, get_or, filter, flat_map, Option, Some, None, refl, sym, subst, arith, append-nil, length-append}
use Rattle.std.specs.List.{AllByRecursion}
use Rattle.std.proofs.lemmas.Bool.{cases_lt}
use Rattle.std.proofs.lemmas.Grind.{flat_map-append}
use Rattle.rr_syntax.specs.declared.token.Number.{Number}
use Rattle.rr_syntax.specs.Expressions.{spell, spell_more, WellFormed, WellFormedMore, Numbered, NumberedMore}
use Rattle.rr_syntax.specs.Items.{spell_each, spell_separated, spell_all, spell_range, spell_type, spell_value, spell_declarator, spell_pair, spell_events, spell_optional, spell_connection, spell_connections, spell_overrides, spell_instance, spell_item, WellFormedValue, WellFormedDeclarator, WellFormedPair, WellFormedConnection, WellFormedConnections, WellFormedInstance, WellFormedItem, NumberedAll, NumberedEach, NumberedSeparated, NumberedValue, NumberedDeclarator, NumberedPair, NumberedConnection, NumberedConnections, NumberedInstance, NumberedItem}
use Rattle.rr_syntax.specs.Statements.{spell_label, spell_labels, spell_loop, spell_statement, spell_statements, spell_arm, spell_arms, WellFormedStatement, WellFormedStatements, WellFormedArm, WellFormedArms, NumberedLabels, NumberedStatement, NumberedStatements, NumberedArm, NumberedArms}
use Rattle.rr_syntax.specs.Tree.{Tree, Trees, Name, Literal, Bit, Part, Indexed, Unary, Binary, Cond, Concat, Repeat, Cast, Paren, End, More, Statement, Statements, Arm, Arms, Null, Block, If, IfElse, Case, Assign, For, Done, Then, CaseItem, NoArms, MoreArms, DeclaredName, NetAssignment, NamedConnection, Connections, Positions, Names, ModuleInstance, ModuleItem, Ports, Nets, Variables, Integers, Parameters, Assigns, Always, Initial, Instances, ModuleDeclaration}
use Rattle.rr_syntax.specs.Words.{Word}
use Rattle.rr_syntax.proofs.Nonempty.{spell-some, spell_statement-some}
use Rattle.rr_expr.specs.declared.operators.Infix.TheVariants.{Either}
use Rattle.rr_expr.specs.Faults.{first, takes_constants}
use Rattle.rr_expr.specs.Operators.{infixes}
use Rattle.rr_expr.specs.Scopes.{Names as Scope}
use Rattle.rr_flat.specs.Signals.{Text}
use Rattle.rr_choice.specs.Sites as sites
use Rattle.rr_choice.specs.Sites.{SiteKind, Site}
use Rattle.rr_instance_laws.proofs.FirstLaws.{first_is}
use Rattle.rr_flat_instance.proofs.Spans as span
use Rattle.rr_flatten.proofs.HeadOf.{all_append as both}
use Rattle.rr_change_places.specs.Spots.{Spot, Body, Test, Value, spots, spots_of_parts, spots_of, spots_of_all, spots_of_arm, spots_of_arms, spots_of_value, spots_of_net, spots_of_pair, spots_of_connection, spots_of_connections, spots_of_instance, spots_of_item, is_clocked}
use Rattle.rr_literal.specs.Literals.{is_known}
use Rattle.rr_instance.specs.Firsts.{first_token}
use Rattle.rr_overwrite.specs.Overwrites.{Target, targets_of, may_overwrite, overwrite_of, overwrites_at}
use Rattle.rr_sites_listed.specs.Listing.{sites_at, item_sites}
use Rattle.rr_guard.specs.Names.{names_at}
use Rattle.rr_sites_ordered.specs.Order.{ComesFirst, Precedes, InOrder}
use Rattle.rr_sites_ordered.proofs.Members.{all_filter, all_map, all_weaken}
use Rattle.rr_sites_ordered.proofs.Targets.{IsTarget, targets_are, assigns_some}
use Rattle.rr_flat_instance.proofs.Telling.{begins_at}

-- Windows

-- no overwrite, and each condition has fewer than n tokens
abbrev Inner : ℕ → SiteKind → Type 0
Inner n (sites.Literal width signed) = Unit {0}
Inner n (sites.Guard owner extent names) = extent < n
Inner n (sites.Overwrite owner target width now names) = ⊥

-- a site in a window, inside of n tokens
record Within (low high n : ℕ) (s : Site) : Type 0 where
  after : low ≤ s.token
  before : s.token < high
  inner : Inner n s.kind

record Placed (low high n : ℕ) (ss : List Site) : Type 0 where
  all : AllByRecursion (Within low high n) ss
  order : InOrder ss

inner_wider : (n m : ℕ) (k : SiteKind) → n ≤ m → Inner n k → Inner m k
inner_wider n m (sites.Literal width signed) l h = tt
inner_wider n m (sites.Guard owner extent names) l h = omega (arith, l, h)
inner_wider n m (sites.Overwrite owner target width now names) l h = h

wider : (low high n a b m : ℕ) (ss : List Site) → a ≤ low → high ≤ b → n ≤ m → Placed low high n ss → Placed a b m ss
wider low high n a b m ss p q r h = record {
  all = all_weaken (Within low high n) ss (λ s w. let x = w.after in let y = w.before in record { after = omega (arith, x, p); before = omega (arith, y, q); inner = inner_wider n m s.kind r w.inner }) h.all;
  order = h.order;
}

pub order_join : (mid : ℕ) (xs ys : List Site) → AllByRecursion (λ s. s.token < mid) xs → AllByRecursion (λ s. mid ≤ s.token) ys → InOrder xs → InOrder ys → InOrder (xs ++ ys)
unfolding InOrder
order_join mid [] ys a b o p = p
order_join mid (x ∷ xs) ys a b o p =
    let t = a.0 in (both (Precedes x) xs ys o.0 (all_weaken (λ s. mid ≤ s.token) ys (λ s l. inl (omega (arith, t, l))) b), order_join mid xs ys a.1 b o.1 p)

-- one window after another
join : (low mid high n : ℕ) (xs ys : List Site) → low ≤ mid → mid ≤ high → Placed low mid n xs → Placed mid high n ys → Placed low high n (xs ++ ys)
join low mid high n xs ys p q a b =
    let x = wider low mid n low high n xs (omega arith) q (omega arith) a in
    let y = wider mid high n low high n ys p (omega arith) (omega arith) b in
    record {
      all = both (Within low high n) xs ys x.all y.all;
      order = order_join mid xs ys (all_weaken (Within low mid n) xs (λ s w. w.before) a.all) (all_weaken (Within mid high n) ys (λ s w. w.after) b.all) a.order b.order;
    }

empty : (low high n : ℕ) → Placed low high n []
unfolding InOrder
empty low high n = record { all = tt; order = tt }

module _ (f : Spot → List Site) (owner : ℕ) (names : ℕ → List Text)
    (at_test : (t : Tree) → f (Test t) ≡ (record { kind = sites.Guard owner (length (spell t)) (names (first t)); token = first t }) ∷ [])
    (at_value : (token : ℕ) (d : Number) → f (Value token d) ≡ (if is_known d then (record { kind = sites.Literal d.width d.signed; token = token }) ∷ [] else [])) where
  abbrev In : ℕ → ℕ → ℕ → List Spot → Type 0
  In low high n ss = Placed low high n (flat_map f ss)

  joined : (low mid high n : ℕ) (xs ys : List Spot) → low ≤ mid → mid ≤ high → In low mid n xs → In mid high n ys → In low high n (xs ++ ys)
  joined low mid high n xs ys p q a b = subst (Placed low high n) (sym (flat_map-append f xs ys)) (join low mid high n (flat_map f xs) (flat_map f ys) p q a b)

  kinds : (extent : ℕ) (more : List Text) (k : SiteKind) → Inner extent k → ComesFirst (sites.Guard owner extent more) k
  kinds extent more (sites.Literal width signed) i = tt
  kinds extent more (sites.Guard other inner names) i = i
  kinds extent more (sites.Overwrite other target width now names) i = absurd i

  guard_first : (token extent high : ℕ) (more : List Text) (s : Site) → Within token high extent s → Precedes (record { kind = sites.Guard owner extent more; token = token }) s
  guard_first token extent high more s v = let a = v.after in elim (cases_lt token s.token) [
    | inl l ↦ inl l
    | inr l ↦ inr (omega (arith, a, l), kinds extent more s.kind v.inner)
  ]

  -- a condition with what stands in it
  guarded : (t : Tree) (at n : ℕ) → first t ≡ at → length (spell t) < n → In at (at + length (spell t)) (length (spell t)) (spots t) → In at (at + length (spell t)) n (Test t ∷ spots t)
  unfolding InOrder
  guarded t at n e l h =
      let some = spell-some t in
      let g : Site = record { kind = sites.Guard owner (length (spell t)) (names (first t)); token = first t } in
      let w = wider at (at + length (spell t)) (length (spell t)) at (at + length (spell t)) n (flat_map f (spots t)) (omega arith) (omega arith) (omega (arith, l)) h in
      subst (λ xs. Placed at (at + length (spell t)) n (xs ++ flat_map f (spots t))) (sym (at_test t)) (record {
        all = (record { after = omega (arith, e); before = omega (arith, e, some); inner = l }, w.all);
        order = (all_weaken (Within at (at + length (spell t)) (length (spell t))) (flat_map f (spots t)) (λ s v. guard_first (first t) (length (spell t)) (at + length (spell t)) (names (first t)) s (subst (λ a. Within a (at + length (spell t)) (length (spell t)) s) (sym e) v)) h.all, h.order);
      })

  fit : (low high n a b m : ℕ) (ss : List Spot) → a ≤ low → high ≤ b → n ≤ m → In low high n ss → In a b m ss
  fit low high n a b m ss p q r h = wider low high n a b m (flat_map f ss) p q r h

  none : (low high n : ℕ) → In low high n []
  none low high n = empty low high n

  literal_in : (token at n : ℕ) (d : Number) → token ≡ at → In at (at + 1) n (Value token d ∷ [])
  unfolding InOrder
  literal_in token at n d e = subst (λ xs. Placed at (at + 1) n (xs ++ [])) (sym (at_value token d)) (by (is_known d))
    where
      by : (b : Bool) → Placed at (at + 1) n ((if b then (record { kind = sites.Literal d.width d.signed; token = token }) ∷ [] else []) ++ [])
      by true = record { all = (record { after = omega (arith, e); before = omega (arith, e); inner = tt }, tt); order = (tt, tt) }
      by false = empty at (at + 1) n

  unless : (c : Bool) (low high n : ℕ) (ss : List Spot) → In low high n ss → In low high n (if c then [] else ss)
  unless true low high n ss h = none low high n
  unless false low high n ss h = h

  mutual
    unfolding spots WellFormed Numbered

    tree_in : (t : Tree) (at : ℕ) → WellFormed t → Numbered t at → In at (at + length (spell t)) (length (spell t)) (spots t)
    tree_in (Name token x) at w n = none at (at + length (spell (Name token x))) (length (spell (Name token x)))
    tree_in (Literal token d) at w n =
        let some = spell-some (Literal token d) in
        fit at (at + 1) 0 at (at + length (spell (Literal token d))) (length (spell (Literal token d))) (Value token d ∷ []) (omega arith) (omega (arith, some)) (omega arith) (literal_in token at 0 d n)
    tree_in (Bit token x i) at w n = none at (at + length (spell (Bit token x i))) (length (spell (Bit token x i)))
    tree_in (Part token x k r) at w n = none at (at + length (spell (Part token x k r))) (length (spell (Part token x k r)))
    tree_in (Indexed token x g k up) at w n = none at (at + length (spell (Indexed token x g k up))) (length (spell (Indexed token x g k up)))
    tree_in (Unary op t) at w n =
        let e = span.long-Unary op t in
        fit (at + 1) (at + 1 + length (spell t)) (length (spell t)) at (at + length (spell (Unary op t))) (length (spell (Unary op t))) (spots t) (omega arith) (omega (arith, e)) (omega (arith, e)) (tree_in t (at + 1) w.1 n)
    tree_in (Binary op k r) at w n =
        let e = span.long-Binary op k r in
        let long = length (spell (Binary op k r)) in
        let mid = at + length (spell k) in
        unless (takes_constants (get_or infixes op Either)) at (at + long) long (spots k ++ spots r)
        (joined at mid (at + long) long (spots k) (spots r) (omega arith) (omega (arith, e))
        (fit at mid (length (spell k)) at mid long (spots k) (omega arith) (omega arith) (omega (arith, e)) (tree_in k at w.1 n.0))
        (fit (mid + 1) (mid + 1 + length (spell r)) (length (spell r)) mid (at + long) long (spots r) (omega arith) (omega (arith, e)) (omega (arith, e)) (tree_in r (mid + 1) w.2 n.1)))
    tree_in (Cond a c d) at w n =
        let e = span.long-Cond a c d in
        let long = length (spell (Cond a c d)) in
        let first_mid = at + length (spell a) in
        let mid = first_mid + 1 + length (spell c) in
        joined at first_mid (at + long) long (Test a ∷ spots a) (spots c ++ spots d) (omega arith) (omega (arith, e))
        (guarded a at long (first_is a at w.0 n.0) (omega (arith, e)) (tree_in a at w.0 n.0))
        (joined first_mid mid (at + long) long (spots c) (spots d) (omega arith) (omega (arith, e))
        (fit (first_mid + 1) mid (length (spell c)) first_mid mid long (spots c) (omega arith) (omega arith) (omega (arith, e)) (tree_in c (first_mid + 1) w.1 n.1))
        (fit (mid + 1) (mid + 1 + length (spell d)) (length (spell d)) mid (at + long) long (spots d) (omega arith) (omega (arith, e)) (omega (arith, e)) (tree_in d (mid + 1) w.2 n.2)))
    tree_in (Concat End) at w n = none at (at + length (spell (Concat End))) (length (spell (Concat End)))
    tree_in (Concat (More t ts)) at w n =
        let e = span.long-Concat (More t ts) in let g = span.long-parts t ts in let k = span.long-More t ts in
        fit at (at + length (spell_more (More t ts))) (length (spell_more (More t ts))) at (at + length (spell (Concat (More t ts)))) (length (spell (Concat (More t ts)))) (spots_of_parts (More t ts)) (omega arith) (omega (arith, e, g, k)) (omega (arith, e, g, k))
        (parts_in (More t ts) at (w.0, w.1) n)
    tree_in (Repeat m End) at w n = none at (at + length (spell (Repeat m End))) (length (spell (Repeat m End)))
    tree_in (Repeat m (More t ts)) at w n =
        let e = span.long-Repeat m (More t ts) in let g = span.long-parts t ts in let k = span.long-More t ts in
        let mid = at + 1 + length (spell m) in
        fit mid (mid + length (spell_more (More t ts))) (length (spell_more (More t ts))) at (at + length (spell (Repeat m (More t ts)))) (length (spell (Repeat m (More t ts)))) (spots_of_parts (More t ts)) (omega arith) (omega (arith, e, g, k)) (omega (arith, e, g, k))
        (parts_in (More t ts) mid (w.1.0, w.1.1) n.1)
    tree_in (Cast signed t) at w n =
        let e = span.long-Cast signed t in
        fit (at + 2) (at + 2 + length (spell t)) (length (spell t)) at (at + length (spell (Cast signed t))) (length (spell (Cast signed t))) (spots t) (omega arith) (omega (arith, e)) (omega (arith, e)) (tree_in t (at + 2) w n)
    tree_in (Paren t) at w n =
        let e = span.long-Paren t in
        fit (at + 1) (at + 1 + length (spell t)) (length (spell t)) at (at + length (spell (Paren t))) (length (spell (Paren t))) (spots t) (omega arith) (omega (arith, e)) (omega (arith, e)) (tree_in t (at + 1) w n)

    -- `at` is the number of the mark before the first
    parts_in : (ts : Trees) (at : ℕ) → WellFormedMore ts → NumberedMore ts at → In at (at + length (spell_more ts)) (length (spell_more ts)) (spots_of_parts ts)
    parts_in End at w n = none at (at + length (spell_more End)) (length (spell_more End))
    parts_in (More t ts) at w n =
        let e = span.long-More t ts in
        let long = length (spell_more (More t ts)) in
        let mid = at + 1 + length (spell t) in
        joined at mid (at + long) long (spots t) (spots_of_parts ts) (omega arith) (omega (arith, e))
        (fit (at + 1) mid (length (spell t)) at mid long (spots t) (omega arith) (omega arith) (omega (arith, e)) (tree_in t (at + 1) w.0 n.0))
        (fit mid (mid + length (spell_more ts)) (length (spell_more ts)) mid (at + long) long (spots_of_parts ts) (omega arith) (omega (arith, e)) (omega (arith, e)) (parts_in ts mid w.1 n.1))

  labels_in : (ts : Trees) (colon : Bool) (at : ℕ) → WellFormedMore ts → NumberedLabels ts at → In at (at + length (spell_labels ts colon)) (length (spell_labels ts colon)) (spots_of_parts ts)
  unfolding spots WellFormed NumberedLabels
  labels_in End colon at w n = none at (at + length (spell_labels End colon)) (length (spell_labels End colon))
  labels_in (More t ts) colon at w n =
      let e = span.long-labels t ts colon in
      let long = length (spell_labels (More t ts) colon) in
      let mid = at + length (spell t) in
      joined at mid (at + long) long (spots t) (spots_of_parts ts) (omega arith) (omega (arith, e))
      (fit at mid (length (spell t)) at mid long (spots t) (omega arith) (omega arith) (omega (arith, e)) (tree_in t at w.0 n.0))
      (fit mid (mid + length (spell_more ts)) (length (spell_more ts)) mid (at + long) long (spots_of_parts ts) (omega arith) (omega (arith, e)) (omega (arith, e)) (parts_in ts mid w.1 n.1))

  -- a condition in brackets, and what follows
  mutual
    unfolding spots_of WellFormedStatement NumberedStatement

    statement_in : (t : Statement) (at : ℕ) → WellFormedStatement t → NumberedStatement t at → In at (at + length (spell_statement t)) (length (spell_statement t)) (spots_of t)
    statement_in Null at w n = none at (at + length (spell_statement Null)) (length (spell_statement Null))
    statement_in (Block label ts) at w n =
        let e = span.long-Block label ts in
        let mid = at + 1 + length (spell_label label) in
        fit mid (mid + length (spell_statements ts)) (length (spell_statements ts)) at (at + length (spell_statement (Block label ts))) (length (spell_statement (Block label ts))) (spots_of_all ts) (omega arith) (omega (arith, e)) (omega (arith, e))
        (statements_in ts mid w n.1)
    statement_in (If c t) at w n =
        let e = span.long-If c t in
        let long = length (spell_statement (If c t)) in
        let mid = at + 2 + length (spell c) in
        joined at mid (at + long) long (Test c ∷ spots c) (spots_of t) (omega arith) (omega (arith, e))
        (fit (at + 2) mid long at mid long (Test c ∷ spots c) (omega arith) (omega arith) (omega arith) (guarded c (at + 2) long (first_is c (at + 2) w.0 n.0) (omega (arith, e)) (tree_in c (at + 2) w.0 n.0)))
        (fit (mid + 1) (mid + 1 + length (spell_statement t)) (length (spell_statement t)) mid (at + long) long (spots_of t) (omega arith) (omega (arith, e)) (omega (arith, e)) (statement_in t (mid + 1) w.1 n.1))
    statement_in (IfElse c t u) at w n =
        let e = span.long-IfElse c t u in
        let long = length (spell_statement (IfElse c t u)) in
        let mid = at + 2 + length (spell c) in
        let last = mid + 1 + length (spell_statement t) in
        joined at mid (at + long) long (Test c ∷ spots c) (spots_of t ++ spots_of u) (omega arith) (omega (arith, e))
        (fit (at + 2) mid long at mid long (Test c ∷ spots c) (omega arith) (omega arith) (omega arith) (guarded c (at + 2) long (first_is c (at + 2) w.0 n.0) (omega (arith, e)) (tree_in c (at + 2) w.0 n.0)))
        (joined mid last (at + long) long (spots_of t) (spots_of u) (omega arith) (omega (arith, e))
        (fit (mid + 1) last (length (spell_statement t)) mid last long (spots_of t) (omega arith) (omega arith) (omega (arith, e)) (statement_in t (mid + 1) w.1 n.1))
        (fit (last + 1) (last + 1 + length (spell_statement u)) (length (spell_statement u)) last (at + long) long (spots_of u) (omega arith) (omega (arith, e)) (omega (arith, e)) (statement_in u (last + 1) w.3 n.2)))
    statement_in (Case kind on arms) at w n =
        let e = span.long-Case kind on arms in
        let long = length (spell_statement (Case kind on arms)) in
        let mid = at + 2 + length (spell on) in
        joined at mid (at + long) long (spots on) (spots_of_arms arms) (omega arith) (omega (arith, e))
        (fit (at + 2) mid (length (spell on)) at mid long (spots on) (omega arith) (omega arith) (omega (arith, e)) (tree_in on (at + 2) w.1 n.0))
        (fit (mid + 1) (mid + 1 + length (spell_arms arms)) (length (spell_arms arms)) mid (at + long) long (spots_of_arms arms) (omega arith) (omega (arith, e)) (omega (arith, e)) (arms_in arms (mid + 1) w.3 n.1))
    statement_in (Assign t now v) at w n =
        let e = span.long-Assign t now v in
        let mid = at + length (spell t) + 1 in
        fit mid (mid + length (spell v)) (length (spell v)) at (at + length (spell_statement (Assign t now v))) (length (spell_statement (Assign t now v))) (spots v) (omega arith) (omega (arith, e)) (omega (arith, e)) (tree_in v mid w.2 n.1)
    statement_in (For head t) at w n =
        let e = span.long-For head t in
        let mid = at + 1 + length (spell_loop head) in
        fit mid (mid + length (spell_statement t)) (length (spell_statement t)) at (at + length (spell_statement (For head t))) (length (spell_statement (For head t))) (spots_of t) (omega arith) (omega (arith, e)) (omega (arith, e))
        (statement_in t mid w.1 n.1)

    statements_in : (ts : Statements) (at : ℕ) → WellFormedStatements ts → NumberedStatements ts at → In at (at + length (spell_statements ts)) (length (spell_statements ts)) (spots_of_all ts)
    statements_in Done at w n = none at (at + length (spell_statements Done)) (length (spell_statements Done))
    statements_in (Then t ts) at w n =
        let e = span.long-Then t ts in
        let long = length (spell_statements (Then t ts)) in
        let mid = at + length (spell_statement t) in
        joined at mid (at + long) long (spots_of t) (spots_of_all ts) (omega arith) (omega (arith, e))
        (fit at mid (length (spell_statement t)) at mid long (spots_of t) (omega arith) (omega arith) (omega (arith, e)) (statement_in t at w.0 n.0))
        (fit mid (mid + length (spell_statements ts)) (length (spell_statements ts)) mid (at + long) long (spots_of_all ts) (omega arith) (omega (arith, e)) (omega (arith, e)) (statements_in ts mid w.1 n.1))

    arm_in : (a : Arm) (at : ℕ) → WellFormedArm a → NumberedArm a at → In at (at + length (spell_arm a)) (length (spell_arm a)) (spots_of_arm a)
    arm_in (CaseItem labels colon t) at w n =
        let e = span.long-CaseItem labels colon t in
        let long = length (spell_arm (CaseItem labels colon t)) in
        let mid = at + length (spell_labels labels colon) in
        joined at mid (at + long) long (spots_of_parts labels) (spots_of t) (omega arith) (omega (arith, e))
        (fit at mid (length (spell_labels labels colon)) at mid long (spots_of_parts labels) (omega arith) (omega arith) (omega (arith, e)) (labels_in labels colon at w.0 n.0))
        (fit mid (mid + length (spell_statement t)) (length (spell_statement t)) mid (at + long) long (spots_of t) (omega arith) (omega (arith, e)) (omega (arith, e)) (statement_in t mid w.2 n.1))

    arms_in : (arms : Arms) (at : ℕ) → WellFormedArms arms → NumberedArms arms at → In at (at + length (spell_arms arms)) (length (spell_arms arms)) (spots_of_arms arms)
    arms_in NoArms at w n = none at (at + length (spell_arms NoArms)) (length (spell_arms NoArms))
    arms_in (MoreArms a rest) at w n =
        let e = span.long-MoreArms a rest in
        let long = length (spell_arms (MoreArms a rest)) in
        let mid = at + length (spell_arm a) in
        joined at mid (at + long) long (spots_of_arm a) (spots_of_arms rest) (omega arith) (omega (arith, e))
        (fit at mid (length (spell_arm a)) at mid long (spots_of_arm a) (omega arith) (omega arith) (omega (arith, e)) (arm_in a at w.0 n.0))
        (fit mid (mid + length (spell_arms rest)) (length (spell_arms rest)) mid (at + long) long (spots_of_arms rest) (omega arith) (omega (arith, e)) (omega (arith, e)) (arms_in rest mid w.1 n.1))

  -- Items

  value_in : (o : Option Tree) (at : ℕ) → WellFormedValue o → NumberedValue o at → In at (at + length (spell_value o)) (length (spell_value o)) (spots_of_value o)
  unfolding WellFormedValue NumberedValue spell_value spots_of_value
  value_in None at w n = none at (at + 0) 0
  value_in (Some t) at w n = fit (at + 1) (at + 1 + length (spell t)) (length (spell t)) at (at + suc (length (spell t))) (suc (length (spell t))) (spots t) (omega arith) (omega arith) (omega arith) (tree_in t (at + 1) w n)

  net_in : (x : DeclaredName) (at : ℕ) → WellFormedDeclarator x → NumberedDeclarator x at → In at (at + length (spell_declarator x)) (length (spell_declarator x)) (spots_of_net x)
  unfolding WellFormedDeclarator NumberedDeclarator spell_declarator
  net_in x at w n =
      let e = length-append (spell_range x.words) (spell_value x.value) in
      let long = length (spell_value x.value) in
      let mid = at + 1 + length (spell_range x.words) in
      fit mid (mid + long) long at (at + length (spell_declarator x)) (length (spell_declarator x)) (spots_of_value x.value) (omega arith) (omega (arith, e)) (omega (arith, e)) (value_in x.value mid w.1 n.2)

  pair_in : (p : NetAssignment) (at : ℕ) → WellFormedPair p → NumberedPair p at → In at (at + length (spell_pair p)) (length (spell_pair p)) (spots_of_pair p)
  unfolding WellFormedPair NumberedPair
  pair_in p at w n =
      let e = span.long-pair p in
      let mid = at + length (spell p.target) + 1 in
      fit mid (mid + length (spell p.value)) (length (spell p.value)) at (at + length (spell_pair p)) (length (spell_pair p)) (spots p.value) (omega arith) (omega (arith, e)) (omega (arith, e)) (tree_in p.value mid w.2 n.1)

  connected_in : (o : Option Tree) (at : ℕ) → WellFormedValue o → NumberedValue o at → In at (at + 1 + length (spell_optional o)) (length (spell_optional o)) (spots_of_value o)
  unfolding WellFormedValue NumberedValue spell_optional spots_of_value
  connected_in None at w n = none at (at + 1 + 0) 0
  connected_in (Some t) at w n = fit (at + 1) (at + 1 + length (spell t)) (length (spell t)) at (at + 1 + length (spell t)) (length (spell t)) (spots t) (omega arith) (omega arith) (omega arith) (tree_in t (at + 1) w n)

  connection_in : (c : NamedConnection) (at : ℕ) → WellFormedConnection c → NumberedConnection c at → In at (at + length (spell_connection c)) (length (spell_connection c)) (spots_of_connection c)
  unfolding WellFormedConnection NumberedConnection
  connection_in c at w n =
      let e = span.long-connection c in
      let long = length (spell_optional c.value) in
      fit (at + 2) (at + 2 + 1 + long) long at (at + length (spell_connection c)) (length (spell_connection c)) (spots_of_value c.value) (omega arith) (omega (arith, e)) (omega (arith, e)) (connected_in c.value (at + 2) w n.1)

  each_in : {X : Type 0} (g : X → List Word) (V : X → Type 0) (N : X → ℕ → Type 0) (h : X → List Spot) → ((x : X) (at : ℕ) → V x → N x at → In at (at + length (g x)) (length (g x)) (h x))
      → (xs : List X) (at : ℕ) → AllByRecursion V xs → NumberedEach g N xs at → In at (at + length (spell_each g xs)) (length (spell_each g xs)) (flat_map h xs)
  unfolding NumberedEach
  each_in g V N h one [] at w n = none at (at + length (spell_each g [])) (length (spell_each g []))
  each_in g V N h one (x ∷ xs) at w n =
      let e = span.long-each g x xs in
      let long = length (spell_each g (x ∷ xs)) in
      let mid = at + 1 + length (g x) in
      joined at mid (at + long) long (h x) (flat_map h xs) (omega arith) (omega (arith, e))
      (fit (at + 1) mid (length (g x)) at mid long (h x) (omega arith) (omega arith) (omega (arith, e)) (one x (at + 1) w.0 n.0))
      (fit mid (mid + length (spell_each g xs)) (length (spell_each g xs)) mid (at + long) long (flat_map h xs) (omega arith) (omega (arith, e)) (omega (arith, e)) (each_in g V N h one xs mid w.1 n.1))

  separated_in : {X : Type 0} (g : X → List Word) (V : X → Type 0) (N : X → ℕ → Type 0) (h : X → List Spot) → ((x : X) (at : ℕ) → V x → N x at → In at (at + length (g x)) (length (g x)) (h x))
      → (xs : List X) (at : ℕ) → AllByRecursion V xs → NumberedSeparated g N xs at → In at (at + length (spell_separated g xs)) (length (spell_separated g xs)) (flat_map h xs)
  unfolding NumberedSeparated
  separated_in g V N h one [] at w n = none at (at + length (spell_separated g [])) (length (spell_separated g []))
  separated_in g V N h one (x ∷ xs) at w n =
      let e = span.long-separated g x xs in
      let long = length (spell_separated g (x ∷ xs)) in
      let mid = at + length (g x) in
      joined at mid (at + long) long (h x) (flat_map h xs) (omega arith) (omega (arith, e))
      (fit at mid (length (g x)) at mid long (h x) (omega arith) (omega arith) (omega (arith, e)) (one x at w.0 n.0))
      (fit mid (mid + length (spell_each g xs)) (length (spell_each g xs)) mid (at + long) long (flat_map h xs) (omega arith) (omega (arith, e)) (omega (arith, e)) (each_in g V N h one xs mid w.1 n.1))

  connections_in : (c : Connections) (at : ℕ) → WellFormedConnections c → NumberedConnections c at → In at (at + length (spell_connections c)) (length (spell_connections c)) (spots_of_connections c)
  unfolding WellFormedConnections NumberedConnections spots_of_connections spots WellFormed Numbered
  connections_in (Positions End) at w n = none at (at + length (spell_connections (Positions End))) (length (spell_connections (Positions End)))
  connections_in (Positions (More t ts)) at w n =
      let e = span.long-Positions (More t ts) in let g = span.long-parts t ts in let k = span.long-More t ts in
      let long = length (spell_connections (Positions (More t ts))) in
      fit at (at + length (spell_more (More t ts))) (length (spell_more (More t ts))) at (at + long) long (spots_of_parts (More t ts)) (omega arith) (omega (arith, e, g, k)) (omega (arith, e, g, k)) (parts_in (More t ts) at w n)
  connections_in (Names []) at w n = none at (at + length (spell_connections (Names []))) (length (spell_connections (Names [])))
  connections_in (Names (c ∷ cs)) at w n =
      let e = span.long-Names (c ∷ cs) in let g = span.long-separated spell_connection c cs in let k = span.long-each spell_connection c cs in
      let long = length (spell_connections (Names (c ∷ cs))) in
      fit at (at + length (spell_each spell_connection (c ∷ cs))) (length (spell_each spell_connection (c ∷ cs))) at (at + long) long (flat_map spots_of_connection (c ∷ cs)) (omega arith) (omega (arith, e, g, k)) (omega (arith, e, g, k))
      (each_in spell_connection WellFormedConnection NumberedConnection spots_of_connection connection_in (c ∷ cs) at w.1 n)

  instance_in : (x : ModuleInstance) (at : ℕ) → WellFormedInstance x → NumberedInstance x at → In at (at + length (spell_instance x)) (length (spell_instance x)) (spots_of_instance x)
  unfolding WellFormedInstance NumberedInstance
  instance_in x at w n =
      let e = span.long-instance x in
      let long = length (spell_connections x.connections) in
      fit (at + 1) (at + 1 + long) long at (at + length (spell_instance x)) (length (spell_instance x)) (spots_of_connections x.connections) (omega arith) (omega (arith, e)) (omega (arith, e)) (connections_in x.connections (at + 1) w n.1)

-- Sites in a window

pub record Stays (low high : ℕ) (ss : List Site) : Type 0 where
  pub all : AllByRecursion (λ s. (low ≤ s.token) × (s.token < high)) ss
  pub order : InOrder ss

pub stays_wider : (low high a b : ℕ) (ss : List Site) → a ≤ low → high ≤ b → Stays low high ss → Stays a b ss
stays_wider low high a b ss p q h = record { all = all_weaken (λ s. (low ≤ s.token) × (s.token < high)) ss (λ s w. (omega (arith, w, p), omega (arith, w, q))) h.all; order = h.order }

pub stays_none : (low high : ℕ) → Stays low high []
unfolding InOrder
stays_none low high = record { all = tt; order = tt }

pub stays_join : (low mid high : ℕ) (xs ys : List Site) → low ≤ mid → mid ≤ high → Stays low mid xs → Stays mid high ys → Stays low high (xs ++ ys)
stays_join low mid high xs ys p q a b = record {
  all = both (λ s. (low ≤ s.token) × (s.token < high)) xs ys (stays_wider low mid low high xs (omega arith) q a).all (stays_wider mid high low high ys p (omega arith) b).all;
  order = order_join mid xs ys (all_weaken (λ s. (low ≤ s.token) × (s.token < mid)) xs (λ s w. w.1) a.all) (all_weaken (λ s. (mid ≤ s.token) × (s.token < high)) ys (λ s w. w.0) b.all) a.order b.order;
}

placed_stays : (low high n : ℕ) (ss : List Site) → Placed low high n ss → Stays low high ss
placed_stays low high n ss h = record { all = all_weaken (Within low high n) ss (λ s w. (w.after, w.before)) h.all; order = h.order }

-- overwrites at a token come before what follows from it on
abbrev IsOverwriteAt : ℕ → Site → Type 0
IsOverwriteAt token s = (s.token ≡ token) × ((k : SiteKind) → ComesFirst s.kind k)

overwrites_before : (token high : ℕ) (xs ys : List Site) → token < high → AllByRecursion (IsOverwriteAt token) xs → Stays token high ys → Stays token high (xs ++ ys)
unfolding InOrder
overwrites_before token high [] ys l a b = b
overwrites_before token high (x ∷ xs) ys l a b =
    let r = overwrites_before token high xs ys l a.1 b in
    let e = a.0.0 in
    let k = a.0.1 in
    record {
      all = ((omega (arith, e), omega (arith, e, l)), r.all);
      order = (
        all_weaken (λ s. (token ≤ s.token) × (s.token < high)) (xs ++ ys) (λ s w. elim (cases_lt x.token s.token) [
          | inl m ↦ inl m
          | inr m ↦ inr (omega (arith, e, w, m), k s.kind)
        ]) r.all,
        r.order,
      );
    }

module _ (m : ModuleDeclaration) (owner : ℕ) (scope : Scope) (clocks : List Text) where
  module _ (c : Bool) where
    abbrev g : Spot → List Site
    g = sites_at m owner scope clocks c

    abbrev more : ℕ → List Text
    more = names_at m clocks c

    stays_of : (low high n a b : ℕ) (ss : List Spot) → a ≤ low → high ≤ b → Placed low high n (flat_map g ss) → Stays a b (flat_map g ss)
    stays_of low high n a b ss p q h = stays_wider low high a b (flat_map g ss) p q (placed_stays low high n (flat_map g ss) h)

    overwrites_at_start : (s : Statement) (start : ℕ) → WellFormedStatement s → NumberedStatement s start → AllByRecursion (IsOverwriteAt start) (overwrites_at m owner scope clocks c (Body s))
    overwrites_at_start s start w n =
        let chosen = all_filter (IsTarget s) (may_overwrite m) (targets_of s) (targets_are s) in
        all_map (IsOverwriteAt start) (overwrite_of owner scope (more (first_token s)) s) (filter (may_overwrite m) (targets_of s))
        (all_weaken (λ (t : Target). IsTarget s t × (may_overwrite m t ≡ true)) (filter (may_overwrite m) (targets_of s)) (λ t h. (begins_at s start w n (assigns_some s t h.0), λ k. tt)) chosen)

    item_in : (x : ModuleItem) (at : ℕ) → WellFormedItem x → NumberedItem x at → Stays at (at + length (spell_item x)) (flat_map g (spots_of_item x))
    unfolding WellFormedItem NumberedItem spots_of_item
    item_in (Ports p) at w n = stays_none at (at + length (spell_item (Ports p)))
    item_in (Nets signed range list) at w n =
        let e = span.long-Nets signed range list in
        let mid = at + 1 + length (spell_type signed range) in
        let long = length (spell_separated spell_declarator list) in
        stays_of mid (mid + long) long at (at + length (spell_item (Nets signed range list))) (flat_map spots_of_net list) (omega arith) (omega (arith, e))
        (separated_in g owner more (λ t. refl) (λ t d. refl) spell_declarator WellFormedDeclarator NumberedDeclarator spots_of_net (net_in g owner more (λ t. refl) (λ t d. refl)) list mid w.2 n.1)
    item_in (Variables signed range list) at w n = stays_none at (at + length (spell_item (Variables signed range list)))
    item_in (Integers list) at w n = stays_none at (at + length (spell_item (Integers list)))
    item_in (Parameters p) at w n = stays_none at (at + length (spell_item (Parameters p)))
    item_in (Assigns pairs) at w n =
        let e = span.long-Assigns pairs in
        let long = length (spell_separated spell_pair pairs) in
        stays_of (at + 1) (at + 1 + long) long at (at + length (spell_item (Assigns pairs))) (flat_map spots_of_pair pairs) (omega arith) (omega (arith, e))
        (separated_in g owner more (λ t. refl) (λ t d. refl) spell_pair WellFormedPair NumberedPair spots_of_pair (pair_in g owner more (λ t. refl) (λ t d. refl)) pairs (at + 1) w.1 n)
    item_in (Always events t token) at w n =
        let e = span.long-Always events t token in
        let start = at + 2 + length (spell_events events) in
        let some = spell_statement-some t in
        let long = length (spell_statement t) in
        let high = at + length (spell_item (Always events t token)) in
        let inside = stays_of start (start + long) long start high (spots_of t) (omega arith) (omega (arith, e)) (statement_in g owner more (λ t. refl) (λ t d. refl) t start w.1 n.2) in
        let os = overwrites_at m owner scope clocks c (Body t) in
        let h = overwrites_before start high os (flat_map g (spots_of t)) (omega (arith, e, some)) (overwrites_at_start t start w.1 n.2) inside in
        stays_wider start high at high (g (Body t) ++ flat_map g (spots_of t)) (omega arith) (omega arith) (subst (λ xs. Stays start high (xs ++ flat_map g (spots_of t))) (sym (append-nil os)) h)
    item_in (Initial body token) at w n = stays_none at (at + length (spell_item (Initial body token)))
    item_in (Instances q token over list) at w n =
        let e = span.long-Instances q token over list in
        let mid = at + 1 + length (spell_overrides over) in
        let long = length (spell_separated spell_instance list) in
        stays_of mid (mid + long) long at (at + length (spell_item (Instances q token over list))) (flat_map spots_of_instance list) (omega arith) (omega (arith, e))
        (separated_in g owner more (λ t. refl) (λ t d. refl) spell_instance WellFormedInstance NumberedInstance spots_of_instance (instance_in g owner more (λ t. refl) (λ t d. refl)) list mid w.2 n.2)

  pub items_in : (xs : List ModuleItem) (at : ℕ) → AllByRecursion WellFormedItem xs → NumberedAll spell_item NumberedItem xs at → Stays at (at + length (spell_all spell_item xs)) (flat_map (item_sites m owner scope clocks) xs)
  unfolding NumberedAll
  items_in [] at w n = stays_none at (at + length (spell_all spell_item []))
  items_in (x ∷ xs) at w n =
      let e = span.long-all spell_item x xs in
      let mid = at + length (spell_item x) in
      stays_join at mid (at + length (spell_all spell_item (x ∷ xs))) (item_sites m owner scope clocks x) (flat_map (item_sites m owner scope clocks) xs) (omega arith) (omega (arith, e))
      (item_in (is_clocked x) x at w.0 n.0)
      (stays_wider mid (mid + length (spell_all spell_item xs)) mid (at + length (spell_all spell_item (x ∷ xs))) (flat_map (item_sites m owner scope clocks) xs) (omega arith) (omega (arith, e)) (items_in xs mid w.1 n.1))
