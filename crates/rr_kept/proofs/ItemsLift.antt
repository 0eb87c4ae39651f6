-- The pieces of items, of modules and of a source lift.
use Rattle.std.proofs.Common.{◌≡◌, ℕ, ◌+◌, ◌==◌, ◌<◌, ◌≤◌, true, false, cond, if◌then◌else◌, List, [], ◌∷◌, ◌++◌, length, Option, Some, None, refl, ◌∙◌, ap, arith, length-append}
use Rattle.std.specs.List.{AllByRecursion, flat_map}
use Rattle.std.proofs.lemmas.Bool.{eq-eqb, ne_eqb}
use Rattle.rr_syntax.specs.Words.{Word, Named, Reserved, Marked, keyword_always, keyword_assign, keyword_endmodule, keyword_module, keyword_wire, mark_open_parenthesis, mark_close_parenthesis, mark_comma, mark_semicolon, mark_dot, mark_at, mark_equals, mark_less_or_equal}
use Rattle.rr_syntax.specs.Tree.{Tree, Statement, Null, Block, If, IfElse, Case, Assign, For, DeclaredName, NetAssignment, NamedConnection, Connections, Positions, Names, ModuleInstance, ModuleItem, Ports, Nets, Variables, Integers, Parameters, Assigns, Always, Initial, Instances, ModuleDeclaration, SourceText}
use Rattle.rr_syntax.specs.Expressions.{spell}
use Rattle.rr_syntax.specs.Statements.{spell_statement}
use Rattle.rr_syntax.specs.Items.{spell_each, spell_separated, spell_all, spell_range, spell_type, spell_value, spell_declarator, spell_pair, spell_events, spell_optional, spell_connection, spell_connections, spell_overrides, spell_instance, spell_item, spell_parameters, spell_ports, spell_module, spell_source, WellFormedValue, WellFormedDeclarator, WellFormedPair, WellFormedConnection, WellFormedConnections, WellFormedInstance, WellFormedItem, WellFormedModule, WellFormedSource, NumberedEach, NumberedSeparated, NumberedAll, NumberedValue, NumberedDeclarator, NumberedPair, NumberedConnection, NumberedConnections, NumberedInstance, NumberedItem, NumberedModule, NumberedSource}
use Rattle.rr_choice.specs.declared.pick.Pick.{Pick}
use Rattle.rr_choice.specs.Sites.{Site}
use Rattle.rr_respell.specs.Pieces.{Piece}
use Rattle.rr_respell.specs.Printing.{each_pieces, separated_pieces, all_pieces, value_pieces, net_pieces, pair_pieces, optional_pieces, connection_pieces, connections_pieces, child_pieces, item_pieces, module_pieces, source_pieces}
use Rattle.rr_kept.specs.Kept.{body_at, or_next, body_length, body_length_in}
use Rattle.rr_kept.proofs.Lifting.{Lifts, none, from, keep, join, words}
use Rattle.rr_kept.proofs.TreesLift.{AllAllow, tree_lifts, parts_lift}
use Rattle.rr_kept.proofs.StatementsLift.{body_lifts}

-- a statement has a token
some_token : (t : Statement) → 0 < length (spell_statement t)
unfolding spell_statement
some_token Null = omega arith
some_token (Block label ts) = omega arith
some_token (If c t) = omega arith
some_token (IfElse c t u) = omega arith
some_token (Case kind on arms) = omega arith
some_token (Assign t now e) = omega (arith, length-append (spell t) (Marked (cond now mark_equals mark_less_or_equal) ∷ (spell e ++ (Marked mark_semicolon ∷ []))))
some_token (For h t) = omega arith

-- from a place on, so many tokens has the first body among these items that begins there
abbrev Agrees : (ℕ → ℕ) → ℕ → List ModuleItem → Type 0
Agrees size at items = (k : ℕ) → at ≤ k → size k ≡ body_length k items

-- the body of an `always` whose first token is number `at` has as many tokens as are said
abbrev Sized : (ℕ → ℕ) → ModuleItem → ℕ → Type 0
Sized size (Ports p) at = Unit {0}
Sized size (Nets signed range names) at = Unit {0}
Sized size (Variables signed range names) at = Unit {0}
Sized size (Integers names) at = Unit {0}
Sized size (Parameters p) at = Unit {0}
Sized size (Assigns pairs) at = Unit {0}
Sized size (Always events body token) at = size (at + 2 + length (spell_events events)) ≡ length (spell_statement body)
Sized size (Initial s token) at = Unit {0}
Sized size (Instances m token overrides list) at = Unit {0}

-- an item is the first that has its body, and none of the later ones
sized : (size : ℕ → ℕ) (x : ModuleItem) (xs : List ModuleItem) (at : ℕ) → NumberedItem x at → Agrees size at (x ∷ xs) → Sized size x at × Agrees size (at + length (spell_item x)) xs
unfolding body_length body_at spell_item NumberedItem
sized size (Ports p) xs at n h = (tt, λ k l. h k (omega (arith, l)))
sized size (Nets signed range names) xs at n h = (tt, λ k l. h k (omega (arith, l)))
sized size (Variables signed range names) xs at n h = (tt, λ k l. h k (omega (arith, l)))
sized size (Integers names) xs at n h = (tt, λ k l. h k (omega (arith, l)))
sized size (Parameters p) xs at n h = (tt, λ k l. h k (omega (arith, l)))
sized size (Assigns pairs) xs at n h = (tt, λ k l. h k (omega (arith, l)))
sized size (Always events body token) xs at n h =
    let E : ℕ = length (spell_events events) in
    let e : token ≡ at = n.0 in
    let here : (token + 2 + E == at + 2 + E) ≡ true = eq-eqb (token + 2 + E) (at + 2 + E) (ap (λ i. i + 2 + E) e) in (
      h (at + 2 + E) (omega arith) ∙ ap (λ c. or_next (if c then Some (length (spell_statement body)) else None) (body_length (at + 2 + E) xs)) here,
      λ k l.
          let s = length-append (spell_events events) (spell_statement body) in
          let t = some_token body in
          let there : (token + 2 + E == k) ≡ false = ne_eqb (token + 2 + E) k (λ q. absurd (omega (arith, q, e, l, s, t))) in
          h k (omega (arith, l)) ∙ ap (λ c. or_next (if c then Some (length (spell_statement body)) else None) (body_length k xs)) there,
    )
sized size (Initial s token) xs at n h = (tt, λ k l. h k (omega (arith, l)))
sized size (Instances m token overrides list) xs at n h = (tt, λ k l. h k (omega (arith, l)))

module _ (T P : ℕ → Type 0) where
  -- a list of parts, each with a comma before it, with commas between, and with nothing between
  module _ {A : Type 0} (f : A → List Piece) (s : A → List Word) (W : A → Type 0) (N : A → ℕ → Type 0) (h : (x : A) (at : ℕ) → W x → N x at → Lifts T P at (f x) (s x)) where
    each_lift : (xs : List A) (at : ℕ) → AllByRecursion W xs → NumberedEach s N xs at → Lifts T P at (each_pieces f xs) (spell_each s xs)
    unfolding each_pieces spell_each NumberedEach
    each_lift [] at w n = none
    each_lift (x ∷ xs) at w n = keep (Marked mark_comma) (join (h x (at + 1) w.0 n.0) (each_lift xs (at + 1 + length (s x)) w.1 n.1))

    separated_lift : (xs : List A) (at : ℕ) → AllByRecursion W xs → NumberedSeparated s N xs at → Lifts T P at (separated_pieces f xs) (spell_separated s xs)
    unfolding separated_pieces spell_separated NumberedSeparated
    separated_lift [] at w n = none
    separated_lift (x ∷ xs) at w n = join (h x at w.0 n.0) (each_lift xs (at + length (s x)) w.1 n.1)

    -- `at` is the number of the mark before the first
    behind_lift : (xs : List A) (at : ℕ) → AllByRecursion W xs → NumberedEach s N xs at → Lifts T P (at + 1) (separated_pieces f xs) (spell_separated s xs)
    unfolding separated_pieces spell_separated NumberedEach
    behind_lift [] at w n = none
    behind_lift (x ∷ xs) at w n = join (h x (at + 1) w.0 n.0) (each_lift xs (at + 1 + length (s x)) w.1 n.1)

  module _ (size : ℕ → ℕ) (ss : List Site) (allow : AllAllow T P size ss) (ps : List Pick) (nowhere : P 0 → ⊥) where
    value_lifts : (v : Option Tree) (at : ℕ) → WellFormedValue v → NumberedValue v at → Lifts T P at (value_pieces ss ps v) (spell_value v)
    unfolding value_pieces spell_value WellFormedValue NumberedValue
    value_lifts None at w n = none
    value_lifts (Some t) at w n = keep (Marked mark_equals) (tree_lifts T P size ss allow ps t (at + 1) w n)

    optional_lifts : (v : Option Tree) (at : ℕ) → WellFormedValue v → NumberedValue v at → Lifts T P (at + 1) (optional_pieces ss ps v) (spell_optional v)
    unfolding optional_pieces spell_optional WellFormedValue NumberedValue
    optional_lifts None at w n = none
    optional_lifts (Some t) at w n = tree_lifts T P size ss allow ps t (at + 1) w n

    net_lifts : (x : DeclaredName) (at : ℕ) → WellFormedDeclarator x → NumberedDeclarator x at → Lifts T P at (net_pieces ss ps x) (spell_declarator x)
    unfolding net_pieces spell_declarator WellFormedDeclarator NumberedDeclarator
    net_lifts x at w n = keep (Named x.text) (join (words (spell_range x.words)) (value_lifts x.value (at + 1 + length (spell_range x.words)) w.1 n.2))

    pair_lifts : (p : NetAssignment) (at : ℕ) → WellFormedPair p → NumberedPair p at → Lifts T P at (pair_pieces ss ps p) (spell_pair p)
    unfolding pair_pieces spell_pair WellFormedPair NumberedPair
    pair_lifts p at w n = join (words (spell p.target)) (keep (Marked mark_equals) (tree_lifts T P size ss allow ps p.value (at + length (spell p.target) + 1) w.2 n.1))

    connection_lifts : (c : NamedConnection) (at : ℕ) → WellFormedConnection c → NumberedConnection c at → Lifts T P at (connection_pieces ss ps c) (spell_connection c)
    unfolding connection_pieces spell_connection WellFormedConnection NumberedConnection
    connection_lifts c at w n =
        keep (Marked mark_dot)
        (keep (Named c.text) (keep (Marked mark_open_parenthesis) (from (omega arith) (join (optional_lifts c.value (at + 2) w n.1) (keep (Marked mark_close_parenthesis) none)))))

    connections_lift : (c : Connections) (at : ℕ) → WellFormedConnections c → NumberedConnections c at → Lifts T P at (connections_pieces ss ps c) (spell_connections c)
    unfolding connections_pieces spell_connections WellFormedConnections NumberedConnections
    connections_lift (Positions ts) at w n = keep (Marked mark_open_parenthesis) (join (parts_lift T P size ss allow ps ts at w n) (keep (Marked mark_close_parenthesis) none))
    connections_lift (Names cs) at w n =
        keep (Marked mark_open_parenthesis)
        (join (behind_lift (connection_pieces ss ps) spell_connection WellFormedConnection NumberedConnection connection_lifts cs at w.1 n) (keep (Marked mark_close_parenthesis) none))

    child_lifts : (i : ModuleInstance) (at : ℕ) → WellFormedInstance i → NumberedInstance i at → Lifts T P at (child_pieces ss ps i) (spell_instance i)
    unfolding child_pieces spell_instance WellFormedInstance NumberedInstance
    child_lifts i at w n = keep (Named i.text) (connections_lift i.connections (at + 1) w n.1)

    item_lifts : (i : ModuleItem) (at : ℕ) → WellFormedItem i → NumberedItem i at → Sized size i at → Lifts T P at (item_pieces ss ps i) (spell_item i)
    unfolding item_pieces spell_item WellFormedItem NumberedItem
    item_lifts (Ports p) at w n z = words (spell_item (Ports p))
    item_lifts (Nets signed range names) at w n z =
        keep (Reserved keyword_wire)
        (join (words (spell_type signed range))
        (join (separated_lift (net_pieces ss ps) spell_declarator WellFormedDeclarator NumberedDeclarator net_lifts names (at + 1 + length (spell_type signed range)) w.2 n.1) (keep (Marked mark_semicolon) none)))
    item_lifts (Variables signed range names) at w n z = words (spell_item (Variables signed range names))
    item_lifts (Integers names) at w n z = words (spell_item (Integers names))
    item_lifts (Parameters p) at w n z = words (spell_item (Parameters p))
    item_lifts (Assigns pairs) at w n z =
        keep (Reserved keyword_assign) (join (separated_lift (pair_pieces ss ps) spell_pair WellFormedPair NumberedPair pair_lifts pairs (at + 1) w.1 n) (keep (Marked mark_semicolon) none))
    item_lifts (Always events body token) at w n z =
        keep (Reserved keyword_always)
        (keep (Marked mark_at) (join (words (spell_events events)) (from (omega arith) (body_lifts T P size ss allow ps nowhere body (at + 2 + length (spell_events events)) w.1 n.2 z))))
    item_lifts (Initial s token) at w n z = words (spell_item (Initial s token))
    item_lifts (Instances m token overrides list) at w n z =
        keep (Named m)
        (join (words (spell_overrides overrides))
        (join (separated_lift (child_pieces ss ps) spell_instance WellFormedInstance NumberedInstance child_lifts list (at + 1 + length (spell_overrides overrides)) w.2 n.2) (keep (Marked mark_semicolon) none)))

    items_lift : (xs later : List ModuleItem) (at : ℕ) → AllByRecursion WellFormedItem xs → NumberedAll spell_item NumberedItem xs at → Agrees size at (xs ++ later) →
        Lifts T P at (all_pieces (item_pieces ss ps) xs) (spell_all spell_item xs) × Agrees size (at + length (spell_all spell_item xs)) later
    unfolding all_pieces spell_all NumberedAll
    items_lift [] later at w n h = (none, λ k l. h k (omega (arith, l)))
    items_lift (x ∷ xs) later at w n h =
        let z = sized size x (xs ++ later) at n.0 h in
        let r = items_lift xs later (at + length (spell_item x)) w.1 n.1 z.1 in
        (join (item_lifts x at w.0 n.0 z.0) r.0, λ k l. r.1 k (let s = length-append (spell_item x) (spell_all spell_item xs) in omega (arith, l, s)))

    module_lifts : (m : ModuleDeclaration) (later : List ModuleItem) (at : ℕ) → WellFormedModule m → NumberedModule m at → Agrees size at (m.items ++ later) →
        Lifts T P at (module_pieces ss ps m) (spell_module m) × Agrees size (at + length (spell_module m)) later
    unfolding module_pieces spell_module WellFormedModule NumberedModule
    module_lifts m later at w n h =
        let A : List Word = spell_parameters m.params in
        let B : List Word = spell_ports m.header m.groups in
        let C : List Word = spell_all spell_item m.items in
        let start : ℕ = at + 2 + length A + length B + 1 in
        let r = items_lift m.items later start w.3 n.3 (λ k l. h k (omega (arith, l))) in (
          keep (Reserved keyword_module)
              (keep (Named m.text) (join (words A) (join (words B) (keep (Marked mark_semicolon) (from (omega arith) (join r.0 (keep (Reserved keyword_endmodule) none))))))),
          λ k l.
              r.1 k
              (let c = length-append C (Reserved keyword_endmodule ∷ []) in
              let b = length-append B (Marked mark_semicolon ∷ (C ++ (Reserved keyword_endmodule ∷ []))) in
              let a = length-append A (B ++ (Marked mark_semicolon ∷ (C ++ (Reserved keyword_endmodule ∷ [])))) in omega (arith, l, a, b, c)),
        )

    modules_lift : (ms : List ModuleDeclaration) (at : ℕ) → AllByRecursion WellFormedModule ms → NumberedAll spell_module NumberedModule ms at → Agrees size at (flat_map (λ m. m.items) ms) →
        Lifts T P at (all_pieces (module_pieces ss ps) ms) (spell_all spell_module ms)
    unfolding all_pieces spell_all NumberedAll
    modules_lift [] at w n h = none
    modules_lift (m ∷ ms) at w n h =
        let r = module_lifts m (flat_map (λ (x : ModuleDeclaration). x.items) ms) at w.0 n.0 h in
        join r.0 (modules_lift ms (at + length (spell_module m)) w.1 n.1 r.1)

pub source_lifts : (T P : ℕ → Type 0) (source : SourceText) (ss : List Site) → AllAllow T P (body_length_in source) ss → (ps : List Pick) → (P 0 → ⊥) → WellFormedSource source → NumberedSource source →
    Lifts T P 0 (source_pieces ss ps source) (spell_source source)
unfolding source_pieces spell_source WellFormedSource NumberedSource
source_lifts T P source ss allow ps nowhere w n = modules_lift T P (body_length_in source) ss allow ps nowhere source.modules 0 w n (λ k l. refl)
