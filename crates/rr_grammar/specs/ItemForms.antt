-- The formats of items, modules and source texts (IEEE 1364-2005 section 12.1, annexes A.1.2 and A.1.4), whose expressions and
-- statements have at most the depth k.
use Rattle.std.specs.Prelude.{ℕ, ◌≤◌, ◌<◌, ◌≡◌, List, [], ◌∷◌, ◌++◌, length, Bool, true, false, ◌==◌, ◌||◌, Option, Some, None}
use Rattle.rr_syntax.specs.Words.{Word, Marked, keyword_always, keyword_assign, keyword_else, keyword_endmodule, keyword_initial, keyword_input, keyword_integer, keyword_localparam, keyword_module, keyword_output, keyword_parameter, keyword_reg, keyword_wire, mark_at, mark_close_parenthesis, mark_hash, mark_open_parenthesis, mark_semicolon}
use Rattle.rr_syntax.specs.Tree.{Tree, Identifier, Range, PortDeclaration, ParameterDeclaration, DeclaredName, NetAssignment, EventControl, Connections, ModuleInstance, ModuleItem, Ports, Nets, Variables, Integers, Parameters, Assigns, Always, Initial, Instances, Statement, ModuleDeclaration, SourceText, bare_statement, bare_item, bare_parameter, bare_module, bare_source}
use Rattle.rr_syntax.specs.Statements.{spell_statement, is_initial, depth_statement, WellFormedStatement, NumberedStatement}
use Rattle.rr_syntax.specs.Items.{spell_item, spell_parameters, spell_module, spell_source, NumberedItem}
use Rattle.rr_parse_expr.specs.Reading.{mark}
use Rattle.rr_parse_stmt.specs.Reading.{keyword, statement}
use Rattle.rr_grammar.specs.Formats.{Format, both, after_mark, after_word, before_mark, before_word, position, shaped, respelled, guarded, imaged, list, repeated, choose, nothing_of}
use Rattle.rr_grammar.specs.Leaves.{identifier, typed}
use Rattle.rr_grammar.specs.Declarations.{port, single, variable, pair, parameter, head_parameter}
use Rattle.rr_grammar.specs.Parts.{events}
use Rattle.rr_grammar.specs.Connections.{overrides, one_instance}

abbrev pub NoElse : List Word → Type 0
NoElse ws = keyword ws ≡ keyword_else → ⊥

abbrev pub statement_of : ℕ → Format Statement
statement_of k = record { spell = spell_statement; bare = bare_statement; Good = λ s. WellFormedStatement s × (depth_statement s ≤ k); Numbered = NumberedStatement; Before = NoElse; read = statement k }

abbrev pub words_of_ports : ℕ → Format (PortDeclaration)
words_of_ports k = before_mark (port k) mark_semicolon

abbrev pub to_ports : PortDeclaration → ModuleItem
to_ports x = Ports x

abbrev pub Good_ports : (PortDeclaration → Type 0) → ModuleItem → Type 0
Good_ports P (Ports p) = P p
Good_ports P i = ⊥

abbrev pub ports_item : ℕ → Format ModuleItem
ports_item k = imaged (words_of_ports k) to_ports spell_item bare_item (Good_ports (words_of_ports k).Good) NumberedItem

abbrev pub words_of_nets : ℕ → Format ((Bool × Option Range) × List DeclaredName)
words_of_nets k = after_word keyword_wire (both (typed k) (before_mark (list (single k)) mark_semicolon))

abbrev pub to_nets : (Bool × Option Range) × List DeclaredName → ModuleItem
to_nets x = Nets x.0.0 x.0.1 x.1

abbrev pub Good_nets : ((Bool × Option Range) × List DeclaredName → Type 0) → ModuleItem → Type 0
Good_nets P (Nets s r ns) = P ((s, r), ns)
Good_nets P i = ⊥

abbrev pub nets_item : ℕ → Format ModuleItem
nets_item k = imaged (words_of_nets k) to_nets spell_item bare_item (Good_nets (words_of_nets k).Good) NumberedItem

abbrev pub words_of_variables : ℕ → Format ((Bool × Option Range) × List DeclaredName)
words_of_variables k = after_word keyword_reg (both (typed k) (before_mark (list (variable k)) mark_semicolon))

abbrev pub to_variables : (Bool × Option Range) × List DeclaredName → ModuleItem
to_variables x = Variables x.0.0 x.0.1 x.1

abbrev pub Good_variables : ((Bool × Option Range) × List DeclaredName → Type 0) → ModuleItem → Type 0
Good_variables P (Variables s r ns) = P ((s, r), ns)
Good_variables P i = ⊥

abbrev pub variables_item : ℕ → Format ModuleItem
variables_item k = imaged (words_of_variables k) to_variables spell_item bare_item (Good_variables (words_of_variables k).Good) NumberedItem

abbrev pub words_of_integers : ℕ → Format (List Identifier)
words_of_integers k = after_word keyword_integer (before_mark (list identifier) mark_semicolon)

abbrev pub to_integers : List Identifier → ModuleItem
to_integers x = Integers x

abbrev pub Good_integers : (List Identifier → Type 0) → ModuleItem → Type 0
Good_integers P (Integers ns) = P ns
Good_integers P i = ⊥

abbrev pub integers_item : ℕ → Format ModuleItem
integers_item k = imaged (words_of_integers k) to_integers spell_item bare_item (Good_integers (words_of_integers k).Good) NumberedItem

abbrev pub words_of_parameters : ℕ → Format (ParameterDeclaration)
words_of_parameters k = before_mark (parameter k) mark_semicolon

abbrev pub to_parameters : ParameterDeclaration → ModuleItem
to_parameters x = Parameters x

abbrev pub Good_parameters : (ParameterDeclaration → Type 0) → ModuleItem → Type 0
Good_parameters P (Parameters p) = P p
Good_parameters P i = ⊥

abbrev pub parameters_item : ℕ → Format ModuleItem
parameters_item k = imaged (words_of_parameters k) to_parameters spell_item bare_item (Good_parameters (words_of_parameters k).Good) NumberedItem

abbrev pub words_of_assigns : ℕ → Format (List NetAssignment)
words_of_assigns k = after_word keyword_assign (before_mark (list (pair k)) mark_semicolon)

abbrev pub to_assigns : List NetAssignment → ModuleItem
to_assigns x = Assigns x

abbrev pub Good_assigns : (List NetAssignment → Type 0) → ModuleItem → Type 0
Good_assigns P (Assigns ps) = P ps
Good_assigns P i = ⊥

abbrev pub assigns_item : ℕ → Format ModuleItem
assigns_item k = imaged (words_of_assigns k) to_assigns spell_item bare_item (Good_assigns (words_of_assigns k).Good) NumberedItem

abbrev pub words_of_always : ℕ → Format (ℕ × (EventControl × Statement))
words_of_always k = both position (after_word keyword_always (after_mark mark_at (both (events k) (statement_of k))))

abbrev pub to_always : ℕ × (EventControl × Statement) → ModuleItem
to_always x = Always x.1.0 x.1.1 x.0

abbrev pub Good_always : (ℕ × (EventControl × Statement) → Type 0) → ModuleItem → Type 0
Good_always P (Always e s n) = P (n, (e, s))
Good_always P i = ⊥

abbrev pub always_item : ℕ → Format ModuleItem
always_item k = imaged (words_of_always k) to_always spell_item bare_item (Good_always (words_of_always k).Good) NumberedItem

-- section 9.9.1
abbrev pub words_of_initial : ℕ → Format (ℕ × Statement)
words_of_initial k = both position (after_word keyword_initial (guarded (statement_of k) is_initial))

abbrev pub to_initial : ℕ × Statement → ModuleItem
to_initial x = Initial x.1 x.0

abbrev pub Good_initial : (ℕ × Statement → Type 0) → ModuleItem → Type 0
Good_initial P (Initial s n) = P (n, s)
Good_initial P i = ⊥

abbrev pub initial_item : ℕ → Format ModuleItem
initial_item k = imaged (words_of_initial k) to_initial spell_item bare_item (Good_initial (words_of_initial k).Good) NumberedItem

abbrev pub words_of_instances : ℕ → Format (Identifier × (Option Connections × List ModuleInstance))
words_of_instances k = both identifier (both (overrides k) (before_mark (list (one_instance k)) mark_semicolon))

abbrev pub to_instances : Identifier × (Option Connections × List ModuleInstance) → ModuleItem
to_instances x = Instances x.0.text x.0.token x.1.0 x.1.1

abbrev pub Good_instances : (Identifier × (Option Connections × List ModuleInstance) → Type 0) → ModuleItem → Type 0
Good_instances P (Instances m n o is) = P (record { token = n; text = m }, (o, is))
Good_instances P i = ⊥

abbrev pub instances_item : ℕ → Format ModuleItem
instances_item k = imaged (words_of_instances k) to_instances spell_item bare_item (Good_instances (words_of_instances k).Good) NumberedItem

abbrev pub begins_ports : ℕ → Bool
begins_ports k = k == keyword_input || k == keyword_output

abbrev pub front_ports : List Word → Bool
front_ports ws = begins_ports (keyword ws)

abbrev pub begins_nets : ℕ → Bool
begins_nets k = k == keyword_wire

abbrev pub front_nets : List Word → Bool
front_nets ws = begins_nets (keyword ws)

abbrev pub begins_variables : ℕ → Bool
begins_variables k = k == keyword_reg

abbrev pub front_variables : List Word → Bool
front_variables ws = begins_variables (keyword ws)

abbrev pub begins_integers : ℕ → Bool
begins_integers k = k == keyword_integer

abbrev pub front_integers : List Word → Bool
front_integers ws = begins_integers (keyword ws)

abbrev pub begins_parameters : ℕ → Bool
begins_parameters k = k == keyword_localparam || k == keyword_parameter

abbrev pub front_parameters : List Word → Bool
front_parameters ws = begins_parameters (keyword ws)

abbrev pub begins_assigns : ℕ → Bool
begins_assigns k = k == keyword_assign

abbrev pub front_assigns : List Word → Bool
front_assigns ws = begins_assigns (keyword ws)

abbrev pub begins_always : ℕ → Bool
begins_always k = k == keyword_always

abbrev pub front_always : List Word → Bool
front_always ws = begins_always (keyword ws)

abbrev pub begins_initial : ℕ → Bool
begins_initial k = k == keyword_initial

abbrev pub front_initial : List Word → Bool
front_initial ws = begins_initial (keyword ws)

-- initial, or what comes after them
abbrev pub from_initial : ℕ → Format ModuleItem
from_initial k = choose front_initial (initial_item k) (instances_item k)

-- always, or what comes after them
abbrev pub from_always : ℕ → Format ModuleItem
from_always k = choose front_always (always_item k) (from_initial k)

-- assigns, or what comes after them
abbrev pub from_assigns : ℕ → Format ModuleItem
from_assigns k = choose front_assigns (assigns_item k) (from_always k)

-- parameters, or what comes after them
abbrev pub from_parameters : ℕ → Format ModuleItem
from_parameters k = choose front_parameters (parameters_item k) (from_assigns k)

-- integers, or what comes after them
abbrev pub from_integers : ℕ → Format ModuleItem
from_integers k = choose front_integers (integers_item k) (from_parameters k)

-- variables, or what comes after them
abbrev pub from_variables : ℕ → Format ModuleItem
from_variables k = choose front_variables (variables_item k) (from_integers k)

-- nets, or what comes after them
abbrev pub from_nets : ℕ → Format ModuleItem
from_nets k = choose front_nets (nets_item k) (from_variables k)

-- ports, or what comes after them
abbrev pub from_ports : ℕ → Format ModuleItem
from_ports k = choose front_ports (ports_item k) (from_nets k)

-- annex A.1.4
abbrev pub item : ℕ → Format ModuleItem
item k = from_ports k
