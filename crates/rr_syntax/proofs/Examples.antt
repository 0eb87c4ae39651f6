-- Trees of each form with their tokens, and on both sides of each rule, computed.
use Rattle.std.proofs.Common.{◌≡◌, Bool, true, false, List, [], ◌∷◌, codes, Option, None, Some, refl, arith, inl, inr}
use Rattle.rr_syntax.specs.declared.token.Number.{Number}
use Rattle.rr_syntax.specs.declared.tree.Dir.TheVariants as dir
use Rattle.rr_syntax.specs.Words.{Word, Named, System, Digits, Reserved, Marked, mark_open_parenthesis, mark_close_parenthesis, mark_open_bracket, mark_close_bracket, mark_open_brace, mark_close_brace, mark_comma, mark_semicolon, mark_colon, mark_dot, mark_hash, mark_at, mark_question, mark_equals, mark_plus, mark_minus, mark_star, mark_tilde, mark_less_or_equal, mark_part_up, keyword_always, keyword_assign, keyword_begin, keyword_case, keyword_casez, keyword_default, keyword_else, keyword_end, keyword_endcase, keyword_endmodule, keyword_for, keyword_if, keyword_initial, keyword_input, keyword_integer, keyword_localparam, keyword_module, keyword_negedge, keyword_or, keyword_output, keyword_parameter, keyword_posedge, keyword_reg, keyword_signed, keyword_wire}
use Rattle.rr_syntax.specs.Tree.{Tree, Name, Literal, Bit, Part, Indexed, Unary, Binary, Cond, Concat, Repeat, Cast, Paren, End, More, Identifier, LoopHead, Statement, Null, Block, If, IfElse, Case, Assign, For, Done, Then, CaseItem, NoArms, MoreArms, Range, PortDeclaration, ParameterDeclaration, DeclaredName, EventControl, Star, Edges, Levels, Positions, Names, Ports, Nets, Variables, Integers, Parameters, Assigns, Always, Initial, Instances, ModuleDeclaration}
use Rattle.rr_syntax.specs.Expressions.{infix_level, is_prefix, level, spell, WellFormed, is_target, depth, Numbered}
use Rattle.rr_syntax.specs.Statements.{is_open, is_initial, spell_label, spell_labels, spell_loop, spell_statement, defaults, WellFormedLoop, WellFormedStatement, depth_loop, depth_statement, NumberedLoop, NumberedStatement}
use Rattle.rr_syntax.specs.Items.{spell_each, spell_separated, spell_all, spell_where, spell_identifier, spell_range, spell_type, spell_dir, spell_port, spell_assignment, spell_parameter, spell_value, spell_declarator, spell_pair, spell_edge, separator, rest, spell_more_edges, spell_edges, spell_more_levels, spell_levels, spell_events, spell_optional, spell_connection, spell_connections, spell_overrides, spell_instance, spell_item, spell_parameters, spell_ports, spell_module, WellFormedRange, WellFormedValue, WellFormedDeclarator, MayStart, WellFormedPort, WellFormedParameter, WellFormedHead, count, WellFormedEvents, WellFormedConnections, WellFormedItem, WellFormedModule, NumberedRange, NumberedType, NumberedValue, NumberedDeclarator, NumberedEach, NumberedSeparated, NumberedItem}

abbrev a : Tree
a = Name 0 (codes "a")

abbrev b : Tree
b = Name 0 (codes "b")

abbrev c : Tree
c = Name 0 (codes "c")

abbrev A : Word
A = Named (codes "a")

abbrev B : Word
B = Named (codes "b")

abbrev C : Word
C = Named (codes "c")

abbrev one : Number
one = record { width = 1; signed = false; value = 1; any = 0; unknown = 0 }

-- `a[b]`, `a[b:c]`, `a[b +: c]`
spelled-bit : spell (Bit 0 (codes "a") b) ≡ A ∷ Marked mark_open_bracket ∷ B ∷ Marked mark_close_bracket ∷ []
unfolding spell
spelled-bit = refl

spelled-part : spell (Part 0 (codes "a") b c) ≡ A ∷ Marked mark_open_bracket ∷ B ∷ Marked mark_colon ∷ C ∷ Marked mark_close_bracket ∷ []
unfolding spell
spelled-part = refl

spelled-indexed : spell (Indexed 0 (codes "a") b c true) ≡ A ∷ Marked mark_open_bracket ∷ B ∷ Marked mark_part_up ∷ C ∷ Marked mark_close_bracket ∷ []
unfolding spell
spelled-indexed = refl

-- `~a + 1'b1`
spelled-binary : spell (Binary mark_plus (Unary mark_tilde a) (Literal 0 one)) ≡ Marked mark_tilde ∷ A ∷ Marked mark_plus ∷ Digits one ∷ []
unfolding spell
spelled-binary = refl

-- `a ? b : c`
spelled-cond : spell (Cond a b c) ≡ A ∷ Marked mark_question ∷ B ∷ Marked mark_colon ∷ C ∷ []
unfolding spell
spelled-cond = refl

-- `{a, b}` and `{a{b, c}}`
spelled-concat : spell (Concat (More a (More b End))) ≡ Marked mark_open_brace ∷ A ∷ Marked mark_comma ∷ B ∷ Marked mark_close_brace ∷ []
unfolding spell
spelled-concat = refl

spelled-repeat : spell (Repeat a (More b (More c End))) ≡
    Marked mark_open_brace ∷ A ∷ Marked mark_open_brace ∷ B ∷ Marked mark_comma ∷ C ∷ Marked mark_close_brace ∷ Marked mark_close_brace ∷ []
unfolding spell
spelled-repeat = refl

-- `$signed((a))`
spelled-cast : spell (Cast true (Paren a)) ≡
    System (codes "signed") ∷ Marked mark_open_parenthesis ∷ Marked mark_open_parenthesis ∷ A ∷ Marked mark_close_parenthesis ∷ Marked mark_close_parenthesis ∷ []
unfolding spell
spelled-cast = refl

-- `a + b * c`
well-product : WellFormed (Binary mark_plus a (Binary mark_star b c))
unfolding WellFormed level infix_level
well-product = (omega arith, tt, (omega arith, tt, tt, omega arith, omega arith), omega arith, omega arith)

-- a sum under a product needs brackets
not-product : WellFormed (Binary mark_star (Binary mark_plus a b) c) → ⊥
unfolding WellFormed level infix_level
not-product h = absurd (omega arith)

well-brackets : WellFormed (Binary mark_star (Paren (Binary mark_plus a b)) c)
unfolding WellFormed level infix_level
well-brackets = (omega arith, (omega arith, tt, tt, omega arith, omega arith), tt, omega arith, omega arith)

-- `a - b - c` groups to the left
well-left : WellFormed (Binary mark_minus (Binary mark_minus a b) c)
unfolding WellFormed level infix_level
well-left = (omega arith, (omega arith, tt, tt, omega arith, omega arith), tt, omega arith, omega arith)

not-right : WellFormed (Binary mark_minus a (Binary mark_minus b c)) → ⊥
unfolding WellFormed level infix_level
not-right h = absurd (omega arith)

-- `a ? b : c ? a : b` nests to the right only
well-cond : WellFormed (Cond a b (Cond c a b))
unfolding WellFormed level infix_level
well-cond = (tt, tt, (tt, tt, tt, omega arith), omega arith)

not-cond : WellFormed (Cond (Cond a b c) a b) → ⊥
unfolding WellFormed level infix_level
not-cond h = absurd (omega arith)

-- `- ~a`, but no sum after a minus, no star before an operand, and no mark between operands that is no operator
well-unary : WellFormed (Unary mark_minus (Unary mark_tilde a))
unfolding WellFormed level is_prefix
well-unary = (refl, (refl, tt, omega arith), omega arith)

not-unary : WellFormed (Unary mark_minus (Binary mark_plus a b)) → ⊥
unfolding WellFormed level infix_level
not-unary h = absurd (omega arith)

not-prefix : WellFormed (Unary mark_star a) → ⊥
unfolding WellFormed is_prefix
not-prefix h = let e = h.0 in cc

not-operator : WellFormed (Binary mark_equals a b) → ⊥
unfolding WellFormed level infix_level
not-operator h = absurd (omega arith)

-- braces hold something
not-empty : WellFormed (Concat End) → ⊥
unfolding WellFormed
not-empty h = h

not-empty-repeat : WellFormed (Repeat a End) → ⊥
unfolding WellFormed
not-empty-repeat h = h.1

-- `begin : a ; end`, where the statement is empty
spelled-block : spell_statement (Block (Some record { token = 0; text = codes "a" }) (Then Null Done)) ≡
    Reserved keyword_begin ∷ Marked mark_colon ∷ A ∷ Marked mark_semicolon ∷ Reserved keyword_end ∷ []
unfolding spell_statement spell_label
spelled-block = refl

-- `a <= b;`
abbrev later : Statement
later = Assign a false b

spelled-later : spell_statement later ≡ A ∷ Marked mark_less_or_equal ∷ B ∷ Marked mark_semicolon ∷ []
unfolding spell_statement spell
spelled-later = refl

-- `if (a) ; else a = b;`
spelled-if : spell_statement (IfElse a Null (Assign a true b)) ≡
    Reserved keyword_if ∷ Marked mark_open_parenthesis ∷ A ∷ Marked mark_close_parenthesis ∷ Marked mark_semicolon ∷
    Reserved keyword_else ∷ A ∷ Marked mark_equals ∷ B ∷ Marked mark_semicolon ∷ []
unfolding spell_statement spell
spelled-if = refl

-- `casez (a) b, c: ; default ; endcase`, and `default:`
spelled-case : spell_statement (Case keyword_casez a (MoreArms (CaseItem (More b (More c End)) true Null) (MoreArms (CaseItem End false Null) NoArms))) ≡
    Reserved keyword_casez ∷ Marked mark_open_parenthesis ∷ A ∷ Marked mark_close_parenthesis ∷ B ∷ Marked mark_comma ∷ C ∷
    Marked mark_colon ∷ Marked mark_semicolon ∷ Reserved keyword_default ∷ Marked mark_semicolon ∷ Reserved keyword_endcase ∷ []
unfolding spell_statement spell spell_labels
spelled-case = refl

spelled-default : spell_labels End true ≡ Reserved keyword_default ∷ Marked mark_colon ∷ []
unfolding spell_labels
spelled-default = refl

-- `for (a = b; c; a = b) ;`
abbrev loop_a : LoopHead
loop_a = record { token = 0; text = codes "a"; start = b; test = c; step_token = 0; step_text = codes "a"; step = b }

spelled-for : spell_statement (For loop_a Null) ≡
    Reserved keyword_for ∷ Marked mark_open_parenthesis ∷ A ∷ Marked mark_equals ∷ B ∷ Marked mark_semicolon ∷ C ∷ Marked mark_semicolon ∷
    A ∷ Marked mark_equals ∷ B ∷ Marked mark_close_parenthesis ∷ Marked mark_semicolon ∷ []
unfolding spell_statement spell_loop spell
spelled-for = refl

-- the same with `a = b;` in it, from token 10 on
abbrev head_from_ten : LoopHead
head_from_ten = record { token = 12; text = codes "a"; start = Name 14 (codes "b"); test = Name 16 (codes "c"); step_token = 18; step_text = codes "a"; step = Name 20 (codes "b") }

numbered-for : NumberedStatement (For head_from_ten (Assign (Name 22 (codes "a")) true (Name 24 (codes "b")))) 10
unfolding NumberedStatement NumberedLoop Numbered spell_loop spell
numbered-for = ((refl, refl, refl, refl, refl), (refl, refl))

-- an `if` with an open first part has no `else`
well-else : WellFormedStatement (IfElse a (Block None (Then (If b Null) Done)) Null)
unfolding WellFormedStatement WellFormed is_open
well-else = (tt, ((tt, tt), tt), refl, tt)

not-else : WellFormedStatement (IfElse a (If b Null) Null) → ⊥
unfolding WellFormedStatement is_open
not-else h = let e = h.2 in cc

not-else-inside : WellFormedStatement (IfElse a (IfElse b Null (If c Null)) Null) → ⊥
unfolding WellFormedStatement is_open
not-else-inside h = let e = h.2 in cc

-- nor has one whose first part is a loop with an open end
well-else-loop : WellFormedStatement (IfElse a (For loop_a Null) Null)
unfolding WellFormedStatement WellFormedLoop WellFormed is_open
well-else-loop = (tt, ((tt, tt, tt), tt), refl, tt)

not-else-loop : WellFormedStatement (IfElse a (For loop_a (If b Null)) Null) → ⊥
unfolding WellFormedStatement is_open
not-else-loop h = let e = h.2 in cc

-- one default at most, one arm at least, and a colon after labels
well-case : WellFormedStatement (Case keyword_case a (MoreArms (CaseItem End false Null) NoArms))
unfolding WellFormedStatement WellFormed defaults
well-case = (refl, tt, omega arith, ((tt, tt, tt), tt))

not-defaults : WellFormedStatement (Case keyword_case a (MoreArms (CaseItem End false Null) (MoreArms (CaseItem End true Null) NoArms))) → ⊥
unfolding WellFormedStatement defaults
not-defaults h = absurd (omega arith)

not-arms : WellFormedStatement (Case keyword_case a NoArms) → ⊥
unfolding WellFormedStatement
not-arms h = h.2

not-colon : WellFormedStatement (Case keyword_case a (MoreArms (CaseItem (More b End) false Null) NoArms)) → ⊥
unfolding WellFormedStatement
not-colon h = let e = h.3.0.1 in cc

not-case : WellFormedStatement (Case keyword_if a (MoreArms (CaseItem End false Null) NoArms)) → ⊥
unfolding WellFormedStatement
not-case h = let e = h.0 in cc

-- a sum is no target, a concatenation of names is one
well-target : WellFormedStatement (Assign (Concat (More a (More b End))) true c)
unfolding WellFormedStatement WellFormed is_target
well-target = (refl, (tt, (tt, tt)), tt)

not-target : WellFormedStatement (Assign (Binary mark_plus a b) true c) → ⊥
unfolding WellFormedStatement is_target
not-target h = let e = h.0 in cc

-- `if (a) begin a <= b; end`: the statement, the block, the assignment and its names
deep-if : depth_statement (If a (Block None (Then later Done))) ≡ 3
unfolding depth_statement depth
deep-if = refl

-- `for (a = b; c; a = b) a <= b;`: the loop, the assignment and its names
deep-for : depth_statement (For loop_a later) ≡ 2
unfolding depth_statement depth_loop depth
deep-for = refl

abbrev id_a : Identifier
id_a = record { token = 0; text = codes "a" }

abbrev id_b : Identifier
id_b = record { token = 0; text = codes "b" }

-- `a`, `b` and `b = c`, declared
abbrev declared_a : DeclaredName
declared_a = record { token = 0; text = codes "a"; words = None; value = None }

abbrev declared_b : DeclaredName
declared_b = record { token = 0; text = codes "b"; words = None; value = None }

abbrev started_b : DeclaredName
started_b = record { token = 0; text = codes "b"; words = None; value = Some c }

abbrev a_to_b : Option Range
a_to_b = Some record { left = a; right = b }

-- `b [a:b]`, declared
abbrev memory_b : DeclaredName
memory_b = record { token = 0; text = codes "b"; words = a_to_b; value = None }

-- `output reg signed [a:b] a, b = c;`
spelled-ports : spell_item (Ports record { dir = dir.OutputReg; signed = true; range = a_to_b; names = declared_a ∷ started_b ∷ [] }) ≡
    Reserved keyword_output ∷ Reserved keyword_reg ∷ Reserved keyword_signed ∷ Marked mark_open_bracket ∷ A ∷ Marked mark_colon ∷ B ∷
    Marked mark_close_bracket ∷ A ∷ Marked mark_comma ∷ B ∷ Marked mark_equals ∷ C ∷ Marked mark_semicolon ∷ []
unfolding spell_item spell_port spell_dir spell_type spell_where spell_range spell_separated spell_each spell_declarator spell_value spell
spelled-ports = refl

-- `wire a, b = c;`
spelled-nets : spell_item (Nets false None (declared_a ∷ started_b ∷ [])) ≡
    Reserved keyword_wire ∷ A ∷ Marked mark_comma ∷ B ∷ Marked mark_equals ∷ C ∷ Marked mark_semicolon ∷ []
unfolding spell_item spell_type spell_where spell_range spell_separated spell_each spell_declarator spell_value spell
spelled-nets = refl

-- `reg [a:b] b = c;` and `integer a, b;`
spelled-variables : spell_item (Variables false a_to_b (started_b ∷ [])) ≡
    Reserved keyword_reg ∷ Marked mark_open_bracket ∷ A ∷ Marked mark_colon ∷ B ∷ Marked mark_close_bracket ∷ B ∷ Marked mark_equals ∷ C ∷ Marked mark_semicolon ∷ []
unfolding spell_item spell_type spell_where spell_range spell_separated spell_each spell_declarator spell_value spell
spelled-variables = refl

-- `reg [a:b] a, b [a:b];`
spelled-memory : spell_item (Variables false a_to_b (declared_a ∷ memory_b ∷ [])) ≡
    Reserved keyword_reg ∷ Marked mark_open_bracket ∷ A ∷ Marked mark_colon ∷ B ∷ Marked mark_close_bracket ∷ A ∷ Marked mark_comma ∷ B ∷
    Marked mark_open_bracket ∷ A ∷ Marked mark_colon ∷ B ∷ Marked mark_close_bracket ∷ Marked mark_semicolon ∷ []
unfolding spell_item spell_type spell_where spell_range spell_separated spell_each spell_declarator spell_value spell
spelled-memory = refl

-- a name after a memory's has the number of its token
numbered-memory : NumberedItem (Variables false None (record memory_b { token = 1; words = Some record { left = Name 3 (codes "a"); right = Name 5 (codes "b") } } ∷ record declared_a { token = 8 } ∷ [])) 0
unfolding NumberedItem NumberedType NumberedSeparated NumberedEach NumberedDeclarator NumberedRange NumberedValue Numbered spell_type spell_where spell_range spell_declarator spell_value spell
numbered-memory = search

spelled-integers : spell_item (Integers (id_a ∷ id_b ∷ [])) ≡ Reserved keyword_integer ∷ A ∷ Marked mark_comma ∷ B ∷ Marked mark_semicolon ∷ []
unfolding spell_item spell_separated spell_each spell_identifier
spelled-integers = refl

-- `localparam integer a = b;`
abbrev number_a : ParameterDeclaration
number_a = record { local = true; integer = true; signed = false; range = None; sets = record { token = 0; text = codes "a"; value = b } ∷ [] }

spelled-parameters : spell_item (Parameters number_a) ≡
    Reserved keyword_localparam ∷ Reserved keyword_integer ∷ A ∷ Marked mark_equals ∷ B ∷ Marked mark_semicolon ∷ []
unfolding spell_item spell_parameter spell_type spell_where spell_range spell_separated spell_each spell_assignment spell
spelled-parameters = refl

-- `assign a = b, b = c;`
spelled-assigns : spell_item (Assigns (record { target = a; value = b } ∷ record { target = b; value = c } ∷ [])) ≡
    Reserved keyword_assign ∷ A ∷ Marked mark_equals ∷ B ∷ Marked mark_comma ∷ B ∷ Marked mark_equals ∷ C ∷ Marked mark_semicolon ∷ []
unfolding spell_item spell_separated spell_each spell_pair spell
spelled-assigns = refl

-- `always @ * ;`, `always @ ( * ) ;`, `always @(posedge a or negedge b, posedge a) ;`, `always @(a, b) ;`
spelled-star : spell_item (Always (Star false) Null 0) ≡ Reserved keyword_always ∷ Marked mark_at ∷ Marked mark_star ∷ Marked mark_semicolon ∷ []
unfolding spell_item spell_events spell_statement
spelled-star = refl

spelled-star-brackets : spell_item (Always (Star true) Null 0) ≡
    Reserved keyword_always ∷ Marked mark_at ∷ Marked mark_open_parenthesis ∷ Marked mark_star ∷ Marked mark_close_parenthesis ∷ Marked mark_semicolon ∷ []
unfolding spell_item spell_events spell_statement
spelled-star-brackets = refl

abbrev edges : List Bool → EventControl
edges commas = Edges (record { rising = true; text = codes "a"; token = 0 } ∷ record { rising = false; text = codes "b"; token = 0 } ∷ record { rising = true; text = codes "a"; token = 0 } ∷ []) commas

spelled-edges : spell_item (Always (edges (false ∷ true ∷ [])) Null 0) ≡
    Reserved keyword_always ∷ Marked mark_at ∷ Marked mark_open_parenthesis ∷ Reserved keyword_posedge ∷ A ∷ Reserved keyword_or ∷
    Reserved keyword_negedge ∷ B ∷ Marked mark_comma ∷ Reserved keyword_posedge ∷ A ∷ Marked mark_close_parenthesis ∷ Marked mark_semicolon ∷ []
unfolding spell_item spell_events spell_edges spell_more_edges separator rest spell_edge spell_statement
spelled-edges = refl

spelled-levels : spell_item (Always (Levels (More a (More b End)) (true ∷ [])) Null 0) ≡
    Reserved keyword_always ∷ Marked mark_at ∷ Marked mark_open_parenthesis ∷ A ∷ Marked mark_comma ∷ B ∷ Marked mark_close_parenthesis ∷ Marked mark_semicolon ∷ []
unfolding spell_item spell_events spell_levels spell_more_levels separator rest spell spell_statement
spelled-levels = refl

-- `initial begin b = c; end`, and what an `initial` item may hold
spelled-initial : spell_item (Initial (Block None (Then (Assign b true c) Done)) 0) ≡
    Reserved keyword_initial ∷ Reserved keyword_begin ∷ B ∷ Marked mark_equals ∷ C ∷ Marked mark_semicolon ∷ Reserved keyword_end ∷ []
unfolding spell_item spell_statement spell_label spell
spelled-initial = refl

well-initial : WellFormedItem (Initial (Block None (Then (Assign b true c) Done)) 0)
unfolding WellFormedItem is_initial WellFormedStatement WellFormed is_target
well-initial = search

well-initial-for : WellFormedItem (Initial (For loop_a (Assign b true c)) 0)
unfolding WellFormedItem is_initial WellFormedStatement WellFormedLoop WellFormed is_target
well-initial-for = search

not-initial-for : WellFormedItem (Initial (For loop_a later) 0) → ⊥
unfolding WellFormedItem is_initial
not-initial-for h = let e = h.0 in cc

not-initial-later : WellFormedItem (Initial (Assign b false c) 0) → ⊥
unfolding WellFormedItem is_initial
not-initial-later h = let e = h.0 in cc

not-initial-if : WellFormedItem (Initial (If a Null) 0) → ⊥
unfolding WellFormedItem is_initial
not-initial-if h = let e = h.0 in cc

-- a word of a memory is set in an `initial` item, and a part of a variable is not
well-initial-word : WellFormedItem (Initial (Assign (Bit 0 (codes "a") b) true c) 0)
unfolding WellFormedItem is_initial WellFormedStatement WellFormed is_target
well-initial-word = search

not-initial-part : WellFormedItem (Initial (Assign (Part 0 (codes "a") b c) true c) 0) → ⊥
unfolding WellFormedItem is_initial
not-initial-part h = let e = h.0 in cc

-- a variable may have words, or a starting value, and not both; a net and a port have no words
well-memory : WellFormedItem (Variables false None (memory_b ∷ started_b ∷ []))
unfolding WellFormedItem WellFormedRange WellFormedDeclarator WellFormedValue WellFormed
well-memory = (tt, omega arith, (((tt, tt), tt), ((tt, tt), tt)), (inr refl, (inl refl, tt)))

not-started-memory : WellFormedItem (Variables false None (record memory_b { value = Some c } ∷ [])) → ⊥
unfolding WellFormedItem
not-started-memory h = elim h.3.0 [ inl e ↦ cc | inr e ↦ cc ]

not-net-memory : WellFormedItem (Nets false None (memory_b ∷ [])) → ⊥
unfolding WellFormedItem
not-net-memory h = let e = h.3.0 in cc

not-port-memory : WellFormedPort record { dir = dir.OutputReg; signed = false; range = None; names = memory_b ∷ [] } → ⊥
unfolding WellFormedPort
not-port-memory h = let e = h.4.0 in cc

-- a starting value stands behind `output reg` alone
well-started : WellFormedPort record { dir = dir.OutputReg; signed = false; range = None; names = started_b ∷ [] }
unfolding WellFormedPort WellFormedRange WellFormedDeclarator WellFormedValue WellFormed MayStart
well-started = (tt, omega arith, ((tt, tt), tt), (tt, tt), (refl, tt))

not-started : WellFormedPort record { dir = dir.Output; signed = false; range = None; names = started_b ∷ [] } → ⊥
unfolding WellFormedPort MayStart
not-started h = let e = h.3.0 in cc

-- `a #(b) b(.c(a), .a()), c();`
spelled-instances : spell_item (Instances (codes "a") 0 (Some (Positions (More b End)))
    (record { token = 0; text = codes "b"; connections = Names (record { token = 0; text = codes "c"; value = Some a } ∷ record { token = 0; text = codes "a"; value = None } ∷ []) } ∷
    record { token = 0; text = codes "c"; connections = Positions End } ∷ [])) ≡
    A ∷ Marked mark_hash ∷ Marked mark_open_parenthesis ∷ B ∷ Marked mark_close_parenthesis ∷ B ∷ Marked mark_open_parenthesis ∷
    Marked mark_dot ∷ C ∷ Marked mark_open_parenthesis ∷ A ∷ Marked mark_close_parenthesis ∷ Marked mark_comma ∷
    Marked mark_dot ∷ A ∷ Marked mark_open_parenthesis ∷ Marked mark_close_parenthesis ∷ Marked mark_close_parenthesis ∷ Marked mark_comma ∷
    C ∷ Marked mark_open_parenthesis ∷ Marked mark_close_parenthesis ∷ Marked mark_semicolon ∷ []
unfolding spell_item spell_overrides spell_connections spell_connection spell_optional spell_instance spell_separated spell_each spell
spelled-instances = refl

-- `module a #(parameter a = b) (input a, output b); endmodule`
abbrev head_a : ParameterDeclaration
head_a = record { local = false; integer = false; signed = false; range = None; sets = record { token = 0; text = codes "a"; value = b } ∷ [] }

abbrev input_a : PortDeclaration
input_a = record { dir = dir.Input; signed = false; range = None; names = declared_a ∷ [] }

abbrev output_b : PortDeclaration
output_b = record { dir = dir.Output; signed = false; range = None; names = declared_b ∷ [] }

abbrev module_a : ModuleDeclaration
module_a = record { text = codes "a"; token = 0; params = head_a ∷ []; header = Some []; groups = input_a ∷ output_b ∷ []; items = [] }

spelled-module : spell_module module_a ≡
    Reserved keyword_module ∷ A ∷ Marked mark_hash ∷ Marked mark_open_parenthesis ∷ Reserved keyword_parameter ∷ A ∷ Marked mark_equals ∷ B ∷
    Marked mark_close_parenthesis ∷ Marked mark_open_parenthesis ∷ Reserved keyword_input ∷ A ∷ Marked mark_comma ∷ Reserved keyword_output ∷ B ∷
    Marked mark_close_parenthesis ∷ Marked mark_semicolon ∷ Reserved keyword_endmodule ∷ []
unfolding spell_module spell_parameters spell_parameter spell_ports spell_port spell_dir spell_type spell_where spell_range spell_separated spell_each spell_assignment spell_identifier spell_declarator spell_value spell_all spell
spelled-module = refl

-- `module a; endmodule`, `module a(); endmodule`
spelled-bare-module : spell_module record { text = codes "a"; token = 0; params = []; header = None; groups = []; items = [] } ≡
    Reserved keyword_module ∷ A ∷ Marked mark_semicolon ∷ Reserved keyword_endmodule ∷ []
unfolding spell_module spell_parameters spell_ports spell_all
spelled-bare-module = refl

spelled-empty-header : spell_module record { text = codes "a"; token = 0; params = []; header = Some []; groups = []; items = [] } ≡
    Reserved keyword_module ∷ A ∷ Marked mark_open_parenthesis ∷ Marked mark_close_parenthesis ∷ Marked mark_semicolon ∷ Reserved keyword_endmodule ∷ []
unfolding spell_module spell_parameters spell_ports spell_separated spell_all
spelled-empty-header = refl

-- an `integer` parameter has no range and no `signed`, and a `localparam` stands in no module's head
not-integer-range : WellFormedParameter (record number_a { range = a_to_b }) → ⊥
unfolding WellFormedParameter
not-integer-range h = let e = h.0.1 in cc

not-integer-signed : WellFormedParameter (record number_a { signed = true }) → ⊥
unfolding WellFormedParameter
not-integer-signed h = let e = h.0.0 in cc

not-head : WellFormedHead number_a → ⊥
unfolding WellFormedHead
not-head h = let e = h.0 in cc

-- lists of names are not empty, but brackets of connections may be
not-names : WellFormedItem (Integers []) → ⊥
unfolding WellFormedItem
not-names h = absurd (omega arith)

not-named : WellFormedConnections (Names []) → ⊥
unfolding WellFormedConnections
not-named h = absurd (omega arith)

well-positions : WellFormedConnections (Positions End)
unfolding WellFormedConnections WellFormed
well-positions = tt

-- one separator between each two events
well-edges : WellFormedEvents (edges (false ∷ true ∷ []))
unfolding WellFormedEvents
well-edges = refl

not-edges : WellFormedEvents (edges (false ∷ [])) → ⊥
unfolding WellFormedEvents
not-edges h = absurd (omega arith)

not-levels : WellFormedEvents (Levels End []) → ⊥
unfolding WellFormedEvents count
not-levels h = absurd (omega arith)

-- port brackets hold names or declarations, and without them there are no declarations
not-header : WellFormedModule (record module_a { header = Some (id_a ∷ []) }) → ⊥
unfolding WellFormedModule
not-header h = elim h.1 [ inl e ↦ absurd (omega arith) | inr e ↦ absurd (omega arith) ]

not-groups : WellFormedModule (record module_a { header = None }) → ⊥
unfolding WellFormedModule
not-groups h = let e = h.1 in absurd (omega arith)
