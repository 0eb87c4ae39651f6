-- The formats of event controls, connections and items (IEEE 1364-2005 sections 9.7 and 12.1 to 12.3, annexes A.1.4, A.4.1 and A.6.5),
-- whose expressions and statements have at most the depth k.
use Rattle.std.specs.Prelude.{ℕ, suc, ◌+◌, ◌≤◌, ◌<◌, ◌≡◌, List, [], ◌∷◌, ◌++◌, length, map, Bool, true, false, if◌then◌else◌, ◌==◌, ◌||◌, cond, not, Option, Some, None}
use Rattle.rr_syntax.specs.Words.{Word, Marked, Reserved, keyword_always, keyword_assign, keyword_else, keyword_input, keyword_integer, keyword_localparam, keyword_negedge, keyword_or, keyword_output, keyword_parameter, keyword_posedge, keyword_reg, keyword_wire, mark_at, mark_comma, mark_close_parenthesis, mark_dot, mark_hash, mark_open_parenthesis, mark_semicolon, mark_star}
use Rattle.rr_syntax.specs.Tree.{Tree, Trees, End, More, Identifier, Range, PortDeclaration, ParameterDeclaration, DeclaredName, NetAssignment, EdgeEvent, EventControl, Star, Edges, Levels, NamedConnection, Connections, Positions, Names, ModuleInstance, ModuleItem, Ports, Nets, Variables, Integers, Parameters, Assigns, Always, Instances, Statement, bare_statement, bare_edge, bare_events, bare_connection, bare_connections, bare_instance, bare_item}
use Rattle.rr_syntax.specs.Statements.{spell_statement, depth_statement, WellFormedStatement, NumberedStatement}
use Rattle.rr_syntax.specs.Items.{spell_edge, spell_events, spell_connection, spell_connections, spell_instance, spell_item, count, NumberedEdge, NumberedEvents}
use Rattle.rr_parse_expr.specs.Reading.{Found, mark, rest}
use Rattle.rr_parse_stmt.specs.Reading.{keyword, statement}
use Rattle.rr_grammar.specs.Formats.{Format, Anything, both, after_mark, before_mark, shaped, respelled, narrowed, behind_mark, imaged, list, repeated, choose, nothing_of}
use Rattle.rr_grammar.specs.Leaves.{identifier, expression, where_mark, range, NoType, typed, choice}
use Rattle.rr_grammar.specs.Declarations.{port, declarator, pair, parameter}

-- a comma where `true`, or the word `or` (section 9.7.3)
abbrev pub separator_of : Format Bool
separator_of = record {
  spell = λ b. cond b (Marked mark_comma) (Reserved keyword_or) ∷ [];
  bare = λ b. b;
  Good = λ b. Unit {0};
  Numbered = λ b at. Unit {0};
  Before = Anything;
  read = λ ws. if mark ws == mark_comma then Some (true, rest ws) else (if keyword ws == keyword_or then Some (false, rest ws) else None);
}

-- one part or more, with separators between
abbrev pub separated : {A : Type 0} → Format A → Format (A × List (Bool × A))
separated F = both F (repeated (both separator_of F))

abbrev pub to_edge : Bool × Identifier → EdgeEvent
to_edge x = record { rising = x.0; text = x.1.text; token = x.1.token }

abbrev pub of_edge : EdgeEvent → Bool × Identifier
of_edge e = (e.rising, record { token = e.token; text = e.text })

-- section 9.7.2
abbrev pub edge : Format EdgeEvent
edge = respelled (shaped (both (choice keyword_posedge keyword_negedge) identifier) to_edge of_edge) spell_edge bare_edge NumberedEdge

abbrev pub seconds : {A : Type 0} → List (Bool × A) → List A
seconds [] = []
seconds (x ∷ xs) = x.1 ∷ seconds xs

abbrev pub firsts : {A : Type 0} → List (Bool × A) → List Bool
firsts [] = []
firsts (x ∷ xs) = x.0 ∷ firsts xs

abbrev pub trees : List Tree → Trees
trees [] = End
trees (t ∷ ts) = More t (trees ts)

abbrev pub to_edges : EdgeEvent × List (Bool × EdgeEvent) → EventControl
to_edges x = Edges (x.0 ∷ seconds x.1) (firsts x.1)

abbrev pub to_levels : Tree × List (Bool × Tree) → EventControl
to_levels x = Levels (More x.0 (trees (seconds x.1))) (firsts x.1)

-- a list of events and their separators, all good
abbrev pub GoodEdges : EventControl → Type 0
GoodEdges (Star b) = ⊥
GoodEdges (Edges list commas) = length list ≡ length commas + 1
GoodEdges (Levels list commas) = ⊥

abbrev pub AllTrees : (Tree → Type 0) → Trees → Type 0
AllTrees P End = Unit {0}
AllTrees P (More t ts) = P t × AllTrees P ts

abbrev pub GoodLevels : (Tree → Type 0) → EventControl → Type 0
GoodLevels P (Star b) = ⊥
GoodLevels P (Edges list commas) = ⊥
GoodLevels P (Levels list commas) = (count list ≡ length commas + 1) × AllTrees P list

-- the words of a list in its brackets without the first
abbrev pub inside : EventControl → List Word
inside e = rest (spell_events e)

abbrev pub edge_list : Format EventControl
edge_list = imaged (before_mark (separated edge) mark_close_parenthesis) to_edges inside bare_events GoodEdges (behind_mark NumberedEvents)

abbrev pub level_list : ℕ → Format EventControl
level_list k = imaged (before_mark (separated (expression k)) mark_close_parenthesis) to_levels inside bare_events (GoodLevels (expression k).Good) (behind_mark NumberedEvents)

abbrev pub stars : Bool → EventControl
stars b = Star b

abbrev pub GoodStar : Bool → EventControl → Type 0
GoodStar c (Star b) = b ≡ c
GoodStar c (Edges list commas) = ⊥
GoodStar c (Levels list commas) = ⊥

abbrev pub front_star : List Word → Bool
front_star ws = mark ws == mark_star

abbrev pub front_edge : List Word → Bool
front_edge ws = keyword ws == keyword_posedge || keyword ws == keyword_negedge

abbrev pub star_alone : Format EventControl
star_alone = imaged (after_mark mark_star (nothing_of false)) stars spell_events bare_events (GoodStar false) NumberedEvents

abbrev pub star_closed : Format EventControl
star_closed = imaged (after_mark mark_star (after_mark mark_close_parenthesis (nothing_of true))) stars inside bare_events (GoodStar true) (behind_mark NumberedEvents)

abbrev pub bracketed : ℕ → Format EventControl
bracketed k = choose front_star star_closed (choose front_edge edge_list (level_list k))

abbrev pub in_brackets : ℕ → Format EventControl
in_brackets k = imaged (after_mark mark_open_parenthesis (bracketed k)) (λ e. e) spell_events bare_events (bracketed k).Good NumberedEvents

-- what stands behind `@` (sections 9.7.3 to 9.7.5, annex A.6.5)
abbrev pub events : ℕ → Format EventControl
events k = choose front_star star_alone (in_brackets k)
