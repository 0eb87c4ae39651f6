-- The formats of connections and instances (IEEE 1364-2005 sections 12.1.2, 12.2.2 and 12.3.6, annex A.4.1), whose expressions have at
-- most the depth k.
use Rattle.std.specs.Prelude.{ℕ, ◌≤◌, ◌<◌, ◌≡◌, List, [], ◌∷◌, ◌++◌, length, Bool, true, false, ◌==◌, Option, Some, None}
use Rattle.rr_syntax.specs.Words.{Word, Marked, mark_close_parenthesis, mark_dot, mark_hash, mark_open_parenthesis}
use Rattle.rr_syntax.specs.Tree.{Tree, Trees, End, More, Identifier, NamedConnection, Connections, Positions, Names, ModuleInstance, bare_value, bare_connection, bare_connections, bare_overrides, bare_instance}
use Rattle.rr_syntax.specs.Items.{spell_optional, spell_connection, spell_connections, spell_overrides, spell_instance, NumberedValue, NumberedConnection, NumberedConnections, NumberedOverrides, NumberedInstance}
use Rattle.rr_parse_expr.specs.Reading.{mark, rest}
use Rattle.rr_grammar.specs.Formats.{Format, both, after_mark, before_mark, shaped, respelled, behind_mark, imaged, list, choose, nothing_of}
use Rattle.rr_grammar.specs.Leaves.{identifier, expression, where_mark}
use Rattle.rr_grammar.specs.Parts.{trees, AllTrees}

abbrev pub front_close : List Word → Bool
front_close ws = mark ws == mark_close_parenthesis

abbrev pub front_dot : List Word → Bool
front_dot ws = mark ws == mark_dot

abbrev pub optional_words : Option Tree → List Word
optional_words o = spell_optional o ++ (Marked mark_close_parenthesis ∷ [])

abbrev pub present : Tree → Option Tree
present t = Some t

abbrev pub IsAbsent : Option Tree → Type 0
IsAbsent None = Unit {0}
IsAbsent (Some t) = ⊥

abbrev pub IsPresent : (Tree → Type 0) → Option Tree → Type 0
IsPresent P None = ⊥
IsPresent P (Some t) = P t

abbrev pub absent_closed : Format (Option Tree)
absent_closed = imaged (after_mark mark_close_parenthesis (nothing_of false)) (λ b. None) optional_words bare_value IsAbsent (behind_mark NumberedValue)

abbrev pub present_closed : ℕ → Format (Option Tree)
present_closed k = imaged (before_mark (expression k) mark_close_parenthesis) present optional_words bare_value (IsPresent (expression k).Good) (behind_mark NumberedValue)

-- an expression, which may be absent, and the closing bracket
abbrev pub optional_closed : ℕ → Format (Option Tree)
optional_closed k = choose front_close absent_closed (present_closed k)

abbrev pub to_connection : Identifier × Option Tree → NamedConnection
to_connection x = record { token = x.0.token; text = x.0.text; value = x.1 }

abbrev pub of_connection : NamedConnection → Identifier × Option Tree
of_connection c = (record { token = c.token; text = c.text }, c.value)

-- section 12.3.6
abbrev pub connection : ℕ → Format NamedConnection
connection k = respelled (shaped (after_mark mark_dot (both identifier (after_mark mark_open_parenthesis (optional_closed k)))) to_connection of_connection) spell_connection bare_connection NumberedConnection

-- the words of connections behind their opening bracket
abbrev pub behind : Connections → List Word
behind c = rest (spell_connections c)

abbrev pub IsEmpty : Connections → Type 0
IsEmpty (Positions End) = Unit {0}
IsEmpty (Positions (More t ts)) = ⊥
IsEmpty (Names cs) = ⊥

abbrev pub AreNames : (List NamedConnection → Type 0) → Connections → Type 0
AreNames P (Positions ts) = ⊥
AreNames P (Names cs) = P cs

abbrev pub ArePositions : (Tree → Type 0) → Connections → Type 0
ArePositions P (Positions End) = ⊥
ArePositions P (Positions (More t ts)) = AllTrees P (More t ts)
ArePositions P (Names cs) = ⊥

abbrev pub to_positions : List Tree → Connections
to_positions ts = Positions (trees ts)

abbrev pub to_names : List NamedConnection → Connections
to_names cs = Names cs

abbrev pub empty_closed : Format Connections
empty_closed = imaged (after_mark mark_close_parenthesis (nothing_of false)) (λ b. Positions End) behind bare_connections IsEmpty (behind_mark NumberedConnections)

abbrev pub names_closed : ℕ → Format Connections
names_closed k = imaged (before_mark (list (connection k)) mark_close_parenthesis) to_names behind bare_connections (AreNames (list (connection k)).Good) (behind_mark NumberedConnections)

abbrev pub positions_closed : ℕ → Format Connections
positions_closed k = imaged (before_mark (list (expression k)) mark_close_parenthesis) to_positions behind bare_connections (ArePositions (expression k).Good) (behind_mark NumberedConnections)

abbrev pub connected : ℕ → Format Connections
connected k = choose front_close empty_closed (choose front_dot (names_closed k) (positions_closed k))

-- with the brackets
abbrev pub connections : ℕ → Format Connections
connections k = respelled (after_mark mark_open_parenthesis (connected k)) spell_connections bare_connections NumberedConnections

-- section 12.2.2
abbrev pub overrides : ℕ → Format (Option Connections)
overrides k = respelled (where_mark mark_hash (connections k)) spell_overrides bare_overrides NumberedOverrides

abbrev pub to_instance : Identifier × Connections → ModuleInstance
to_instance x = record { token = x.0.token; text = x.0.text; connections = x.1 }

abbrev pub of_instance : ModuleInstance → Identifier × Connections
of_instance i = (record { token = i.token; text = i.text }, i.connections)

abbrev pub one_instance : ℕ → Format ModuleInstance
one_instance k = respelled (shaped (both identifier (connections k)) to_instance of_instance) spell_instance bare_instance NumberedInstance
