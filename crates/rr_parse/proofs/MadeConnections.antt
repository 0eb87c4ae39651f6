-- Connections and instances that were read, from their parts.
use Rattle.std.proofs.Common.{◌≡◌, ℕ, ◌+◌, ◌≤◌, ◌<◌, List, [], ◌∷◌, ◌++◌, length, drop, map, false, refl, ap, sym, arith, Option, Some, None, Result, Ok, Err, subst}
use Rattle.rr_syntax.specs.declared.token.Token.{Token}
use Rattle.rr_syntax.specs.declared.tree.Expr.{Expr}
use Rattle.rr_syntax.specs.declared.tree.Named.{Named as Name}
use Rattle.rr_syntax.specs.declared.tree.Connection.{Connection}
use Rattle.rr_syntax.specs.declared.tree.Conns.{Conns}
use Rattle.rr_syntax.specs.declared.tree.Conns.TheVariants as variant
use Rattle.rr_syntax.specs.Words.{Word, Marked, words, mark_close_parenthesis, mark_dot, mark_hash, mark_open_parenthesis}
use Rattle.rr_syntax.specs.Tree.{Tree, End, Positions, bare, bare_identifier, bare_value, bare_connection, bare_connections, bare_overrides, bare_instance}
use Rattle.rr_syntax.specs.Expressions.{spell, spell_parts, Numbered, NumberedMore}
use Rattle.rr_syntax.specs.Items.{spell_identifier, spell_optional, spell_connection, spell_connections, spell_overrides, spell_instance, spell_separated, NumberedIdentifier, NumberedValue, NumberedConnection, NumberedConnections, NumberedOverrides, NumberedInstance, NumberedEach, NumberedSeparated}
use Rattle.rr_syntax.specs.View.{plain, plain_list, plain_identifier, plain_value, plain_connection, plain_connections, plain_overrides, plain_instance}
use Rattle.rr_parse_expr.specs.Reading.{rest, mark}
use Rattle.rr_parse_expr.specs.declared.expression.ParseFault.{ParseFault}
use Rattle.rr_grammar.specs.Formats.{before_mark, behind_mark, list, Finds}
use Rattle.rr_grammar.specs.Leaves.{identifier, expression}
use Rattle.rr_grammar.specs.Connections.{optional_words, present, IsAbsent, IsPresent, absent_closed, present_closed, optional_closed, connection, to_connection, of_connection, behind, IsEmpty, AreNames, ArePositions, to_positions, to_names, empty_closed, names_closed, positions_closed, connected, connections, overrides, one_instance, to_instance, of_instance}
use Rattle.rr_grammar.specs.Parts.{trees}
use Rattle.rr_grammar.proofs.Exacts.{list_exact}
use Rattle.rr_grammar.proofs.LeavesExact.{expression_exact}
use Rattle.rr_grammar.proofs.DeclarationsExact.{comma_ends}
use Rattle.rr_grammar.proofs.ConnectionsExact.{each_words, trees_bare, connections_words, overrides_words, overrides_bare}
use Rattle.rr_parse_expr.specs.declared.lists.Piece.{Piece}
use Rattle.rr_parse.specs.Answer.{Answers, MarkAt}
use Rattle.rr_parse.proofs.Founds.{passes, finds_both, behind_mark_none, finds_after_mark, finds_before_mark, finds_nothing, finds_shaped, finds_respelled, finds_imaged, finds_absent, finds_there}
use Rattle.rr_parse.proofs.MadeEvents.{plain_trees}
use denote.Ref.{Bor}

pub made_absent : {T : List Token} {from next : ℕ} → MarkAt T from mark_close_parenthesis next → Finds absent_closed T from (plain_value None) next
unfolding plain_value spell_optional bare_value NumberedValue
made_absent e = finds_imaged (λ b. None) optional_words bare_value IsAbsent (behind_mark NumberedValue) (plain_value None) refl refl refl (λ at q. tt) (finds_after_mark e (finds_nothing false (omega (arith, e.0, e.2))))

pub made_present : {k : ℕ} {T : List Token} {from : ℕ} (v : Bor Expr) {next : ℕ} → Finds (before_mark (expression k) mark_close_parenthesis) T from (plain v.now) next → Finds (present_closed k) T from (plain_value (Some v)) next
unfolding plain_value spell_optional bare_value NumberedValue
made_present {k = k} v f =
    finds_imaged present optional_words bare_value (IsPresent (expression k).Good) (behind_mark NumberedValue) (plain_value (Some v)) refl refl refl (λ at q. subst (Numbered (plain v.now)) (sym q) f.numbered) f

pub made_connection : {k : ℕ} {T : List Token} {from : ℕ} (n : Name) (v : Option (Bor Expr)) {first second third next : ℕ} →
    MarkAt T from mark_dot first → Finds identifier T first (plain_identifier n) second → MarkAt T second mark_open_parenthesis third → Finds (optional_closed k) T third (plain_value v) next →
    Finds (connection k) T from (plain_connection (record { token = n.token; name = n.name; value = v })) next
unfolding plain_connection plain_identifier spell_connection spell_identifier bare_connection bare_identifier NumberedConnection NumberedIdentifier
made_connection {from = from} n v e f g h =
    finds_respelled spell_connection bare_connection NumberedConnection refl refl (omega (arith, e.0, f.numbered), h.numbered (from + 2) (omega (arith, e.0, f.taken, g.0)))
    (finds_shaped to_connection of_connection (plain_connection (record { token = n.token; name = n.name; value = v })) (finds_after_mark e (finds_both f (finds_after_mark g h))))

pub separated_each : {A : Type 0} (f : A → List Word) (N : A → ℕ → Type 0) (xs : List A) (at from : ℕ) → at + 1 ≡ from → NumberedSeparated f N xs from → NumberedEach f N xs at
unfolding NumberedSeparated NumberedEach
separated_each f N [] at from q n = tt
separated_each f N (x ∷ xs) at from q n = subst (λ (i : ℕ). N x i × NumberedEach f N xs (i + length (f x))) (sym q) n

pub made_names : {k : ℕ} {T : List Token} {from : ℕ} (cs : Bor (List Connection)) {middle next : ℕ} → Finds (list (connection k)) T from (map plain_connection cs.now) middle → MarkAt T middle mark_close_parenthesis next →
    Finds (names_closed k) T from (plain_connections (variant.Names cs)) next
unfolding plain_connections spell_connections rest bare_connections NumberedConnections
made_names {k = k} {from = from} cs f e =
    finds_imaged to_names behind bare_connections (AreNames (list (connection k)).Good) (behind_mark NumberedConnections) (plain_connections (variant.Names cs)) refl refl refl
    (λ at q. separated_each spell_connection NumberedConnection (map plain_connection cs.now) at from q f.numbered) (finds_before_mark f e)

positions_spelled : (ts : List Tree) → 0 < length (map bare ts) → behind (to_positions ts) ≡ spell_separated spell ts ++ (Marked mark_close_parenthesis ∷ [])
unfolding spell_connections spell_parts rest spell_separated
positions_spelled [] h = absurd (omega arith)
positions_spelled (t ∷ ts) h = ap (λ (us : List Word). (spell t ++ us) ++ (Marked mark_close_parenthesis ∷ [])) (each_words ts)

each_numbered : (ts : List Tree) (at : ℕ) → NumberedEach spell Numbered ts at → NumberedMore (trees ts) at
unfolding NumberedEach NumberedMore
each_numbered [] at n = tt
each_numbered (t ∷ ts) at n = (n.0, each_numbered ts (at + 1 + length (spell t)) n.1)

pub made_positions : {k : ℕ} {T : List Token} {from : ℕ} (es : Bor (List Expr)) {middle next : ℕ} → Finds (list (expression k)) T from (map plain es.now) middle → MarkAt T middle mark_close_parenthesis next →
    Finds (positions_closed k) T from (plain_connections (variant.Positions es)) next
unfolding plain_connections bare_connections NumberedConnections
made_positions {k = k} {T = T} {from = from} es {middle = middle} f e =
    let ts = map plain es.now in
    let g = (list_exact (expression k) (expression_exact k) comma_ends).good (drop from (words T)) (map bare ts, drop middle (words T)) f.found_is in
    finds_imaged to_positions behind bare_connections (ArePositions (expression k).Good) (behind_mark NumberedConnections) (plain_connections (variant.Positions es)) (ap Positions (sym (plain_trees es.now)))
    (positions_spelled ts g.0) (ap Positions (trees_bare ts))
    (λ at q. each_numbered ts at (separated_each spell Numbered ts at from q f.numbered)) (finds_before_mark f e)

pub made_empty : {T : List Token} {from : ℕ} (es : Bor (List Expr)) {next : ℕ} → es.now ≡ [] → MarkAt T from mark_close_parenthesis next → Finds empty_closed T from (plain_connections (variant.Positions es)) next
unfolding plain_connections plain_list spell_connections spell_parts rest bare_connections bare NumberedConnections NumberedMore
made_empty es h e =
    finds_imaged (λ b. Positions End) behind bare_connections IsEmpty (behind_mark NumberedConnections) (plain_connections (variant.Positions es)) (ap (λ (xs : List Expr). Positions (plain_list xs)) h) refl refl
    (λ at q. tt) (finds_after_mark e (finds_nothing false (omega (arith, e.0, e.2))))

pub made_connections : (k : ℕ) (T : List Token) (from middle : ℕ) → MarkAt T from mark_open_parenthesis middle → (r : Result (Piece Conns) ParseFault) → Answers (connected k) plain_connections T middle r → Answers (connections k) plain_connections T from r
made_connections k T from middle e (Ok p) f =
    finds_respelled spell_connections bare_connections NumberedConnections (connections_words (plain_connections p.value)) refl (f.numbered from (sym e.0)) (finds_after_mark e f)
made_connections k T from middle e (Err x) m = passes (connections k) (connected k) T from middle x (λ n. record { none_is = behind_mark_none from e n }) m

pub made_no_overrides : (k : ℕ) (T : List Token) (from : ℕ) → (mark (drop from (words T)) ≡ mark_hash → ⊥) → from ≤ length T → Finds (overrides k) T from (plain_overrides None) from
unfolding plain_overrides spell_overrides bare_overrides NumberedOverrides
made_no_overrides k T from h i = finds_respelled spell_overrides bare_overrides NumberedOverrides refl refl tt (finds_absent (connections k) h i)

pub made_overrides : {k : ℕ} {T : List Token} {from middle : ℕ} (c : Conns) {next : ℕ} → MarkAt T from mark_hash middle → Finds (connections k) T middle (plain_connections c) next → Finds (overrides k) T from (plain_overrides (Some c)) next
unfolding plain_overrides NumberedOverrides
made_overrides c e f =
    finds_respelled spell_overrides bare_overrides NumberedOverrides (overrides_words (Some (plain_connections c))) (overrides_bare (Some (plain_connections c)))
    (subst (NumberedConnections (plain_connections c)) e.0 f.numbered) (finds_there e f)

pub made_instance : {k : ℕ} {T : List Token} {from : ℕ} (n : Name) (c : Conns) {middle next : ℕ} → Finds identifier T from (plain_identifier n) middle → Finds (connections k) T middle (plain_connections c) next →
    Finds (one_instance k) T from (plain_instance (record { token = n.token; name = n.name; conns = c })) next
unfolding plain_instance plain_identifier spell_instance spell_identifier bare_instance bare_identifier NumberedInstance NumberedIdentifier
made_instance n c f g =
    finds_respelled spell_instance bare_instance NumberedInstance refl refl (f.numbered, subst (NumberedConnections (plain_connections c)) (omega (arith, f.taken)) g.numbered)
    (finds_shaped to_instance of_instance (plain_instance (record { token = n.token; name = n.name; conns = c })) (finds_both f g))
