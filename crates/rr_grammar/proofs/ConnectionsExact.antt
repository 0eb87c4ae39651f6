-- The formats of connections and instances are exact.
use Rattle.std.proofs.Common.{◌≡◌, ℕ, zero, suc, ◌+◌, ◌≤◌, ◌<◌, List, [], ◌∷◌, ◌++◌, length, map, refl, ap, ◌∙◌, sym, arith, Bool, true, false, nat_eq, Option, Some, None, ◌⊎◌, inl, inr, subst, append_assoc}
use Rattle.std.specs.List.{AllByRecursion}
use Rattle.rr_syntax.specs.Words.{Word, Marked, mark_close_parenthesis, mark_comma, mark_dot, mark_hash, mark_open_parenthesis}
use Rattle.rr_syntax.specs.Tree.{Tree, Trees, End, More, Identifier, NamedConnection, Connections, Positions, Names, ModuleInstance, bare, bare_parts, bare_identifier, bare_value, bare_connection, bare_connections, bare_overrides, bare_instance}
use Rattle.rr_syntax.specs.Expressions.{spell, spell_parts, spell_more, is_prefix}
use Rattle.rr_syntax.specs.Items.{spell_identifier, spell_optional, spell_connection, spell_connections, spell_overrides, spell_instance, spell_each, spell_separated}
use Rattle.rr_parse_expr.specs.Reading.{Found, mark, rest, no_mark, expect}
use Rattle.rr_parse_expr.proofs.Answered.{not_equal}
use Rattle.rr_grammar.specs.Formats.{Format, IsExact, IsImage, both, after_mark, before_mark, shaped, respelled, imaged, list, choose, nothing_of}
use Rattle.rr_grammar.specs.Leaves.{identifier, Ends, expression, spell_option, bare_option, where_mark}
use Rattle.rr_grammar.specs.Parts.{trees, AllTrees}
use Rattle.rr_grammar.specs.Connections.{front_close, front_dot, optional_words, present, IsAbsent, IsPresent, absent_closed, present_closed, optional_closed, to_connection, of_connection, connection, behind, IsEmpty, AreNames, ArePositions, to_positions, to_names, empty_closed, names_closed, positions_closed, connected, connections, overrides, to_instance, of_instance, one_instance}
use Rattle.rr_grammar.proofs.Exacts.{both_exact, after_mark_exact, before_mark_exact, shaped_exact, respelled_exact, imaged_exact, list_exact, nothing_exact, choose_exact, Tells, tells_choose}
use Rattle.rr_grammar.proofs.LeavesExact.{identifier_exact, expression_exact, where_mark_exact}
use Rattle.rr_grammar.proofs.DeclarationsExact.{comma_ends}
use Rattle.rr_grammar.proofs.PartsExact.{close_ends, expression_front}

close_no_prefix : is_prefix mark_close_parenthesis ≡ false
unfolding is_prefix
close_no_prefix = refl

dot_no_prefix : is_prefix mark_dot ≡ false
unfolding is_prefix
dot_no_prefix = refl

no_comma : {A : Type 0} (r : List Word → Found A) (left : List Word) → expect mark_comma r (Marked mark_close_parenthesis ∷ left) ≡ None
unfolding expect mark
no_comma r left = refl

-- ---- a value that may be absent

absent_is : (o : Option Tree) → IsAbsent o → None ≡ o
absent_is None w = refl
absent_is (Some t) w = absurd w

absent_image : IsImage (after_mark mark_close_parenthesis (nothing_of false)) (λ b. None) optional_words bare_value IsAbsent
unfolding spell_optional bare_value
absent_image = record { from = λ b w. false; from_good = λ b w. refl; from_is = absent_is; good = λ a w. tt; spelled = λ a w. refl; bared = λ a. refl }

present_from : (k : ℕ) (o : Option Tree) → IsPresent (expression k).Good o → Tree
present_from k None w = absurd w
present_from k (Some t) w = t

present_good : (k : ℕ) (o : Option Tree) (w : IsPresent (expression k).Good o) → (expression k).Good (present_from k o w)
unfolding present_from
present_good k None w = absurd w
present_good k (Some t) w = w

present_is : (k : ℕ) (o : Option Tree) (w : IsPresent (expression k).Good o) → present (present_from k o w) ≡ o
unfolding present_from
present_is k None w = absurd w
present_is k (Some t) w = refl

present_image : (k : ℕ) → IsImage (before_mark (expression k) mark_close_parenthesis) present optional_words bare_value (IsPresent (expression k).Good)
unfolding spell_optional bare_value
present_image k = record { from = present_from k; from_good = present_good k; from_is = present_is k; good = λ a w. w; spelled = λ a w. refl; bared = λ a. refl }

absent_front : (o : Option Tree) → IsAbsent o → (left : List Word) → nat_eq (mark (optional_words o ++ left)) mark_close_parenthesis ≡ true
unfolding spell_optional mark
absent_front None w left = refl
absent_front (Some t) w left = absurd w

present_front : (k : ℕ) (o : Option Tree) → IsPresent (expression k).Good o → (left : List Word) → nat_eq (mark (optional_words o ++ left)) mark_close_parenthesis ≡ false
unfolding spell_optional
present_front k None w left = absurd w
present_front k (Some t) w left =
    let a = append_assoc (spell t) (Marked mark_close_parenthesis ∷ []) left in
    not_equal (mark ((spell t ++ (Marked mark_close_parenthesis ∷ [])) ++ left)) mark_close_parenthesis
    (λ e. expression_front t w.0 mark_close_parenthesis (omega arith) close_no_prefix (λ q. absurd (omega (arith, q))) (λ q. absurd (omega (arith, q))) (Marked mark_close_parenthesis ∷ left) (ap mark (sym a) ∙ e))

optional_exact : (k : ℕ) → IsExact (optional_closed k)
optional_exact k = choose_exact front_close absent_closed (present_closed k)
    (imaged_exact (after_mark mark_close_parenthesis (nothing_of false)) (after_mark_exact (nothing_of false) (nothing_exact false) mark_close_parenthesis (omega arith)) (λ b. None) optional_words bare_value IsAbsent absent_image)
    (imaged_exact (before_mark (expression k) mark_close_parenthesis) (before_mark_exact (expression k) (expression_exact k) mark_close_parenthesis (omega arith) close_ends) present optional_words bare_value (IsPresent (expression k).Good) (present_image k))
    (λ a. refl) (λ a. refl) (record { at_front = λ a w left v. absent_front a w left }) (record { at_front = λ a w left v. present_front k a w left })

pub connection_exact : (k : ℕ) → IsExact (connection k)
unfolding spell_connection spell_identifier bare_connection bare_identifier
connection_exact k =
    let o = after_mark_exact (optional_closed k) (optional_exact k) mark_open_parenthesis (omega arith) in
    let b = both_exact identifier (after_mark mark_open_parenthesis (optional_closed k)) identifier_exact o (λ x g left v. tt) in
    let d = after_mark_exact (both identifier (after_mark mark_open_parenthesis (optional_closed k))) b mark_dot (omega arith) in
    respelled_exact (shaped (after_mark mark_dot (both identifier (after_mark mark_open_parenthesis (optional_closed k)))) to_connection of_connection)
    (shaped_exact (after_mark mark_dot (both identifier (after_mark mark_open_parenthesis (optional_closed k)))) d to_connection of_connection (λ a. refl)) spell_connection bare_connection (λ a. refl) (λ a. refl)

-- ---- connections in their brackets

empty_is : (c : Connections) → IsEmpty c → Positions End ≡ c
empty_is (Positions End) w = refl
empty_is (Positions (More t ts)) w = absurd w
empty_is (Names cs) w = absurd w

empty_image : IsImage (after_mark mark_close_parenthesis (nothing_of false)) (λ b. Positions End) behind bare_connections IsEmpty
unfolding spell_connections spell_parts rest bare_connections bare
empty_image = record { from = λ b w. false; from_good = λ b w. refl; from_is = empty_is; good = λ a w. tt; spelled = λ a w. refl; bared = λ a. refl }

names_from : (k : ℕ) (c : Connections) → AreNames (list (connection k)).Good c → List NamedConnection
names_from k (Positions ts) w = absurd w
names_from k (Names cs) w = cs

names_good : (k : ℕ) (c : Connections) (w : AreNames (list (connection k)).Good c) → (list (connection k)).Good (names_from k c w)
unfolding names_from
names_good k (Positions ts) w = absurd w
names_good k (Names cs) w = w

names_is : (k : ℕ) (c : Connections) (w : AreNames (list (connection k)).Good c) → to_names (names_from k c w) ≡ c
unfolding names_from
names_is k (Positions ts) w = absurd w
names_is k (Names cs) w = refl

names_image : (k : ℕ) → IsImage (before_mark (list (connection k)) mark_close_parenthesis) to_names behind bare_connections (AreNames (list (connection k)).Good)
unfolding spell_connections rest bare_connections
names_image k = record { from = names_from k; from_good = names_good k; from_is = names_is k; good = λ a w. w; spelled = λ a w. refl; bared = λ a. refl }

of_trees : Trees → List Tree
of_trees End = []
of_trees (More t ts) = t ∷ of_trees ts

of_trees_is : (ts : Trees) → trees (of_trees ts) ≡ ts
unfolding of_trees
of_trees_is End = refl
of_trees_is (More t ts) = ap (More t) (of_trees_is ts)

of_trees_good : (k : ℕ) (ts : Trees) → AllTrees (expression k).Good ts → AllByRecursion (expression k).Good (of_trees ts)
unfolding of_trees
of_trees_good k End w = tt
of_trees_good k (More t ts) w = (w.0, of_trees_good k ts w.1)

to_trees_good : (k : ℕ) (ts : List Tree) → AllByRecursion (expression k).Good ts → AllTrees (expression k).Good (trees ts)
to_trees_good k [] w = tt
to_trees_good k (t ∷ ts) w = (w.0, to_trees_good k ts w.1)

pub each_words : (ts : List Tree) → spell_more (trees ts) ≡ spell_each spell ts
unfolding spell_more spell_each
each_words [] = refl
each_words (t ∷ ts) = ap (λ (us : List Word). Marked mark_comma ∷ (spell t ++ us)) (each_words ts)

positions_from : (k : ℕ) (c : Connections) → ArePositions (expression k).Good c → List Tree
positions_from k (Positions End) w = absurd w
positions_from k (Positions (More t ts)) w = t ∷ of_trees ts
positions_from k (Names cs) w = absurd w

positions_good : (k : ℕ) (c : Connections) (w : ArePositions (expression k).Good c) → (list (expression k)).Good (positions_from k c w)
unfolding positions_from
positions_good k (Positions End) w = absurd w
positions_good k (Positions (More t ts)) w = (omega arith, (w.0, of_trees_good k ts w.1))
positions_good k (Names cs) w = absurd w

positions_is : (k : ℕ) (c : Connections) (w : ArePositions (expression k).Good c) → to_positions (positions_from k c w) ≡ c
unfolding positions_from
positions_is k (Positions End) w = absurd w
positions_is k (Positions (More t ts)) w = ap (λ (us : Trees). Positions (More t us)) (of_trees_is ts)
positions_is k (Names cs) w = absurd w

positions_well : (k : ℕ) (ts : List Tree) → (list (expression k)).Good ts → ArePositions (expression k).Good (to_positions ts)
positions_well k [] w = absurd (omega (arith, w.0))
positions_well k (t ∷ ts) w = (w.1.0, to_trees_good k ts w.1.1)

pub positions_words : (k : ℕ) (ts : List Tree) → (list (expression k)).Good ts → behind (to_positions ts) ≡ spell_separated spell ts ++ (Marked mark_close_parenthesis ∷ [])
unfolding spell_connections spell_parts rest spell_separated
positions_words k [] w = absurd (omega (arith, w.0))
positions_words k (t ∷ ts) w = ap (λ (us : List Word). (spell t ++ us) ++ (Marked mark_close_parenthesis ∷ [])) (each_words ts)

pub trees_bare : (ts : List Tree) → bare_parts (trees ts) ≡ trees (map bare ts)
unfolding bare
trees_bare [] = refl
trees_bare (t ∷ ts) = ap (More (bare t)) (trees_bare ts)

positions_image : (k : ℕ) → IsImage (before_mark (list (expression k)) mark_close_parenthesis) to_positions behind bare_connections (ArePositions (expression k).Good)
unfolding bare_connections
positions_image k = record { from = positions_from k; from_good = positions_good k; from_is = positions_is k; good = positions_well k; spelled = positions_words k; bared = λ a. ap (λ (ts : Trees). Positions ts) (trees_bare a) }

empty_front : (c : Connections) → IsEmpty c → (left : List Word) → nat_eq (mark (behind c ++ left)) mark_close_parenthesis ≡ true
unfolding spell_connections spell_parts rest mark
empty_front (Positions End) w left = refl
empty_front (Positions (More t ts)) w left = absurd w
empty_front (Names cs) w left = absurd w

names_front : (k : ℕ) (c : Connections) → AreNames (list (connection k)).Good c → (left : List Word) → (nat_eq (mark (behind c ++ left)) mark_close_parenthesis ≡ false) × (nat_eq (mark (behind c ++ left)) mark_dot ≡ true)
unfolding spell_connections spell_connection spell_separated rest mark
names_front k (Positions ts) w left = absurd w
names_front k (Names []) w left = absurd (omega (arith, w.0))
names_front k (Names (c ∷ cs)) w left = (refl, refl)

positions_front : (k : ℕ) (c : Connections) → ArePositions (expression k).Good c → (left : List Word) → (nat_eq (mark (behind c ++ left)) mark_close_parenthesis ≡ false) × (nat_eq (mark (behind c ++ left)) mark_dot ≡ false)
unfolding spell_connections spell_parts rest
positions_front k (Positions End) w left = absurd w
positions_front k (Names cs) w left = absurd w
positions_front k (Positions (More t ts)) w left =
    let a : ((spell t ++ spell_more ts) ++ (Marked mark_close_parenthesis ∷ [])) ++ left ≡ spell t ++ ((spell_more ts ++ (Marked mark_close_parenthesis ∷ [])) ++ left) =
    ap (λ (us : List Word). us ++ left) (append_assoc (spell t) (spell_more ts) (Marked mark_close_parenthesis ∷ [])) ∙ append_assoc (spell t) (spell_more ts ++ (Marked mark_close_parenthesis ∷ [])) left in (
      not_equal (mark (((spell t ++ spell_more ts) ++ (Marked mark_close_parenthesis ∷ [])) ++ left)) mark_close_parenthesis
          (λ e. expression_front t w.0.0 mark_close_parenthesis (omega arith) close_no_prefix (λ q. absurd (omega (arith, q))) (λ q. absurd (omega (arith, q))) ((spell_more ts ++ (Marked mark_close_parenthesis ∷ [])) ++ left) (ap mark (sym a) ∙ e)),
      not_equal (mark (((spell t ++ spell_more ts) ++ (Marked mark_close_parenthesis ∷ [])) ++ left)) mark_dot
          (λ e. expression_front t w.0.0 mark_dot (omega arith) dot_no_prefix (λ q. absurd (omega (arith, q))) (λ q. absurd (omega (arith, q))) ((spell_more ts ++ (Marked mark_close_parenthesis ∷ [])) ++ left) (ap mark (sym a) ∙ e)),
    )

pub connected_exact : (k : ℕ) → IsExact (connected k)
connected_exact k =
    let e : IsExact empty_closed = imaged_exact (after_mark mark_close_parenthesis (nothing_of false)) (after_mark_exact (nothing_of false) (nothing_exact false) mark_close_parenthesis (omega arith)) (λ b. Positions End) behind bare_connections IsEmpty empty_image in
    let n : IsExact (names_closed k) = imaged_exact (before_mark (list (connection k)) mark_close_parenthesis)
    (before_mark_exact (list (connection k)) (list_exact (connection k) (connection_exact k) (λ left. (tt, tt))) mark_close_parenthesis (omega arith) (λ left. ((tt, tt), no_comma (connection k).read left)))
    to_names behind bare_connections (AreNames (list (connection k)).Good) (names_image k) in
    let p : IsExact (positions_closed k) = imaged_exact (before_mark (list (expression k)) mark_close_parenthesis)
    (before_mark_exact (list (expression k)) (list_exact (expression k) (expression_exact k) comma_ends) mark_close_parenthesis (omega arith) (λ left. (close_ends left, no_comma (expression k).read left)))
    to_positions behind bare_connections (ArePositions (expression k).Good) (positions_image k) in
    let l = choose_exact front_dot (names_closed k) (positions_closed k) n p (λ a. refl) (λ a. refl)
    (record { at_front = λ a w left v. (names_front k a w left).1 }) (record { at_front = λ a w left v. (positions_front k a w left).1 }) in
    choose_exact front_close empty_closed (choose front_dot (names_closed k) (positions_closed k)) e l (λ a. refl) (λ a. refl)
    (record { at_front = λ a w left v. empty_front a w left })
    (tells_choose front_close front_dot (names_closed k) (positions_closed k) false (λ a. refl) (record { at_front = λ a w left v. (names_front k a w left).0 }) (record { at_front = λ a w left v. (positions_front k a w left).0 }))

pub connections_words : (c : Connections) → spell_connections c ≡ Marked mark_open_parenthesis ∷ behind c
unfolding spell_connections rest
connections_words (Positions ts) = refl
connections_words (Names cs) = refl

pub connections_exact : (k : ℕ) → IsExact (connections k)
connections_exact k = respelled_exact (after_mark mark_open_parenthesis (connected k)) (after_mark_exact (connected k) (connected_exact k) mark_open_parenthesis (omega arith)) spell_connections bare_connections connections_words (λ a. refl)

pub overrides_words : (o : Option Connections) → spell_overrides o ≡ spell_option mark_hash spell_connections o
unfolding spell_overrides
overrides_words None = refl
overrides_words (Some c) = refl

pub overrides_bare : (o : Option Connections) → bare_overrides o ≡ bare_option bare_connections o
unfolding bare_overrides
overrides_bare None = refl
overrides_bare (Some c) = refl

pub overrides_exact : (k : ℕ) → IsExact (overrides k)
overrides_exact k = respelled_exact (where_mark mark_hash (connections k)) (where_mark_exact (connections k) (connections_exact k) mark_hash (omega arith)) spell_overrides bare_overrides overrides_words overrides_bare

pub instance_exact : (k : ℕ) → IsExact (one_instance k)
unfolding spell_instance spell_identifier bare_instance bare_identifier
instance_exact k = respelled_exact (shaped (both identifier (connections k)) to_instance of_instance)
    (shaped_exact (both identifier (connections k)) (both_exact identifier (connections k) identifier_exact (connections_exact k) (λ x g left v. tt)) to_instance of_instance (λ a. refl)) spell_instance bare_instance (λ a. refl) (λ a. refl)
