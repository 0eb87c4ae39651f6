-- Event controls that were read, from their parts.
use Rattle.std.proofs.Common.{◌≡◌, ℕ, ◌+◌, List, [], ◌∷◌, ◌++◌, length, drop, map, Bool, true, false, refl, ap, ◌∙◌, sym, arith, Result, Ok, Err, inl, inr, subst}
use Rattle.rr_syntax.specs.declared.token.Token.{Token}
use Rattle.rr_syntax.specs.declared.tree.Expr.{Expr}
use Rattle.rr_syntax.specs.declared.tree.Named.{Named as Name}
use Rattle.rr_syntax.specs.declared.tree.Event.{Event}
use Rattle.rr_syntax.specs.declared.tree.Events.{Events}
use Rattle.rr_syntax.specs.declared.tree.Events.TheVariants as variant
use Rattle.rr_syntax.specs.Words.{Word, Marked, words, keyword_negedge, keyword_posedge, mark_close_parenthesis, mark_open_parenthesis, mark_star}
use Rattle.rr_syntax.specs.Tree.{Tree, Trees, More, EdgeEvent, EventControl, Star, Edges, Levels, bare, bare_identifier, bare_edge, bare_events}
use Rattle.rr_syntax.specs.Expressions.{spell, Numbered, NumberedMore}
use Rattle.rr_syntax.specs.Items.{spell_identifier, spell_edge, spell_edges, spell_levels, spell_events, NumberedIdentifier, NumberedEdge, NumberedEvents, NumberedAll, NumberedEach}
use Rattle.rr_syntax.specs.Items as items
use Rattle.rr_syntax.specs.View.{plain, plain_list, plain_identifier, plain_edge, plain_events}
use Rattle.rr_parse_expr.specs.Reading.{rest}
use Rattle.rr_parse_expr.specs.declared.expression.ParseFault.{ParseFault}
use Rattle.rr_grammar.specs.Formats.{both, behind_mark, Finds}
use Rattle.rr_grammar.specs.Leaves.{identifier, expression, choice}
use Rattle.rr_grammar.specs.Parts.{separator_of, seconds, firsts, trees, edge, to_edge, of_edge, to_edges, to_levels, inside, GoodEdges, GoodLevels, GoodStar, stars, edge_list, level_list, star_alone, star_closed, bracketed, in_brackets}
use Rattle.rr_grammar.proofs.PartsExact.{edges_words, edges_bare, levels_words, levels_bare, bracketed_exact}
use Rattle.rr_parse_expr.specs.declared.lists.Piece.{Piece}
use Rattle.rr_parse.specs.declared.lists.Separated.{Separated}
use Rattle.rr_parse.specs.Answer.{Answers, MarkAt}
use Rattle.rr_parse.specs.Trees.{FindsSeparated}
use Rattle.rr_parse.proofs.Founds.{passes, finds_both, mapped_none, behind_mark_none, finds_after_mark, finds_before_mark, finds_nothing, finds_shaped, finds_respelled, finds_imaged}

pub made_edge : {T : List Token} {from : ℕ} (rising : Bool) (n : Name) {first next : ℕ} → Finds (choice keyword_posedge keyword_negedge) T from rising first → Finds identifier T first (plain_identifier n) next →
    Finds edge T from (plain_edge (record { rising = rising; name = n.name; token = n.token })) next
unfolding plain_edge plain_identifier spell_edge spell_identifier bare_edge bare_identifier NumberedEdge NumberedIdentifier
made_edge rising n f g =
    finds_respelled spell_edge bare_edge NumberedEdge refl refl (omega (arith, f.taken, g.numbered))
    (finds_shaped to_edge of_edge (plain_edge (record { rising = rising; name = n.name; token = n.token })) (finds_both f g))

edges_numbered : (xs : List (Bool × EdgeEvent)) (at : ℕ) → NumberedAll (both separator_of edge).spell (both separator_of edge).Numbered xs at → NumberedEach spell_edge NumberedEdge (seconds xs) at
unfolding NumberedAll NumberedEach
edges_numbered [] at n = tt
edges_numbered (x ∷ xs) at n = (n.0.1, edges_numbered xs (at + 1 + length (spell_edge x.1)) (subst (NumberedAll (both separator_of edge).spell (both separator_of edge).Numbered xs) (omega arith) n.1))

pub made_edges : {T : List Token} {from : ℕ} (p : Piece (Separated Event)) {next : ℕ} → FindsSeparated edge plain_edge T from p → MarkAt T p.next mark_close_parenthesis next →
    Finds edge_list T from (plain_events (variant.Edges p.value.list p.value.commas)) next
unfolding plain_events spell_events spell_edges items.rest rest bare_events NumberedEvents NumberedEach
made_edges p s e =
    let a = s.parts in
    let r = edges_bare a.1 in
    finds_imaged to_edges inside bare_events GoodEdges (behind_mark NumberedEvents) (plain_events (variant.Edges p.value.list p.value.commas))
    (ap (λ (xs : List EdgeEvent). Edges xs p.value.commas.now) (sym s.list_is) ∙ ap (λ (cs : List Bool). Edges (a.0 ∷ seconds a.1) cs) (sym s.commas_are))
    (ap (λ (us : List Word). (spell_edge a.0 ++ us) ++ (Marked mark_close_parenthesis ∷ [])) (edges_words a.1))
    (ap (λ (xs : List EdgeEvent). Edges (bare_edge a.0 ∷ xs) (firsts a.1)) r.0 ∙ ap (λ (cs : List Bool). Edges (bare_edge a.0 ∷ seconds (map (both separator_of edge).bare a.1)) cs) r.1)
    (λ at q. (
      subst (NumberedEdge a.0) (sym q) s.finds.numbered.0,
      edges_numbered a.1 (at + 1 + length (spell_edge a.0)) (subst (NumberedAll (both separator_of edge).spell (both separator_of edge).Numbered a.1) (omega (arith, q)) s.finds.numbered.1),
    ))
    (finds_before_mark s.finds e)

levels_numbered : (k : ℕ) (xs : List (Bool × Tree)) (at : ℕ) → NumberedAll (both separator_of (expression k)).spell (both separator_of (expression k)).Numbered xs at → NumberedMore (trees (seconds xs)) at
unfolding NumberedAll NumberedMore
levels_numbered k [] at n = tt
levels_numbered k (x ∷ xs) at n = (n.0.1, levels_numbered k xs (at + 1 + length (spell x.1)) (subst (NumberedAll (both separator_of (expression k)).spell (both separator_of (expression k)).Numbered xs) (omega arith) n.1))

pub plain_trees : (es : List Expr) → trees (map plain es) ≡ plain_list es
unfolding plain_list
plain_trees [] = refl
plain_trees (e ∷ es) = ap (More (plain e)) (plain_trees es)

pub made_levels : {k : ℕ} {T : List Token} {from : ℕ} (p : Piece (Separated Expr)) {next : ℕ} → FindsSeparated (expression k) plain T from p → MarkAt T p.next mark_close_parenthesis next →
    Finds (level_list k) T from (plain_events (variant.Levels p.value.list p.value.commas)) next
unfolding plain_events spell_events spell_levels rest bare_events bare NumberedEvents NumberedMore
made_levels {k = k} p s e =
    let a = s.parts in
    let r = levels_bare k a.1 in
    finds_imaged to_levels inside bare_events (GoodLevels (expression k).Good) (behind_mark NumberedEvents) (plain_events (variant.Levels p.value.list p.value.commas))
    (ap (λ (ts : Trees). Levels ts p.value.commas.now) (sym (plain_trees p.value.list.now) ∙ ap trees (sym s.list_is)) ∙ ap (λ (cs : List Bool). Levels (trees (a.0 ∷ seconds a.1)) cs) (sym s.commas_are))
    (ap (λ (us : List Word). (spell a.0 ++ us) ++ (Marked mark_close_parenthesis ∷ [])) (levels_words k a.1))
    (ap (λ (ts : Trees). Levels (More (bare a.0) ts) (firsts a.1)) r.0 ∙ ap (λ (cs : List Bool). Levels (More (bare a.0) (trees (seconds (map (both separator_of (expression k)).bare a.1)))) cs) r.1)
    (λ at q. (
      subst (Numbered a.0) (sym q) s.finds.numbered.0,
      levels_numbered k a.1 (at + 1 + length (spell a.0)) (subst (NumberedAll (both separator_of (expression k)).spell (both separator_of (expression k)).Numbered a.1) (omega (arith, q)) s.finds.numbered.1),
    ))
    (finds_before_mark s.finds e)

pub made_star : {T : List Token} {from middle next : ℕ} → MarkAt T from mark_star middle → MarkAt T middle mark_close_parenthesis next → Finds star_closed T from (plain_events (variant.Star true)) next
unfolding plain_events spell_events bare_events rest NumberedEvents
made_star e f =
    finds_imaged stars inside bare_events (GoodStar true) (behind_mark NumberedEvents) (plain_events (variant.Star true)) refl refl refl (λ at q. tt)
    (finds_after_mark e (finds_after_mark f (finds_nothing true (omega (arith, f.0, f.2)))))

pub made_star_alone : {T : List Token} {from next : ℕ} → MarkAt T from mark_star next → Finds star_alone T from (plain_events (variant.Star false)) next
unfolding plain_events spell_events bare_events NumberedEvents
made_star_alone e = finds_imaged stars spell_events bare_events (GoodStar false) NumberedEvents (plain_events (variant.Star false)) refl refl refl tt (finds_after_mark e (finds_nothing false (omega (arith, e.0, e.2))))

inside_words : (k : ℕ) (b : EventControl) → (bracketed k).Good (bare_events b) → spell_events b ≡ Marked mark_open_parenthesis ∷ inside b
unfolding spell_events bare_events rest
inside_words k (Star true) w = refl
inside_words k (Star false) (inl w) = absurd (cc w)
inside_words k (Star false) (inr (inl w)) = absurd w
inside_words k (Star false) (inr (inr w)) = absurd w
inside_words k (Edges list commas) w = refl
inside_words k (Levels list commas) w = refl

pub made_bracketed : (k : ℕ) (T : List Token) (from middle : ℕ) → MarkAt T from mark_open_parenthesis middle → (r : Result (Piece Events) ParseFault) → Answers (bracketed k) plain_events T middle r → Answers (in_brackets k) plain_events T from r
made_bracketed k T from middle e (Ok p) f =
    let a = plain_events p.value in
    finds_imaged (λ x. x) spell_events bare_events (bracketed k).Good NumberedEvents a refl
    (inside_words k a ((bracketed_exact k).good (drop middle (words T)) (bare_events a, drop p.next (words T)) f.found_is)) refl (f.numbered from (sym e.0))
    (finds_after_mark e f)
made_bracketed k T from middle e (Err x) m = passes (in_brackets k) (bracketed k) T from middle x (λ n. record { none_is = mapped_none _ (behind_mark_none from e n) }) m
