-- The tables of reserved words and marks, and the names of their entries.
use Rattle.std.specs.Prelude.{ℕ, ◌+◌, ◌≡◌, List, [], ◌∷◌, map, get_or, codes, true, sum, length}
use Rattle.rr_syntax.specs.declared.token.TheConstants.{KEYWORDS, MARKS}
use Rattle.rr_syntax.specs.declared.token.TheConstants.Keyword as word
use Rattle.rr_syntax.specs.declared.token.TheConstants.Mark as mark
use Rattle.rr_syntax.specs.Words.{keywords, marks, keyword_always, keyword_assign, keyword_begin, keyword_case, keyword_casex, keyword_casez, keyword_default, keyword_else, keyword_end, keyword_endcase, keyword_endmodule, keyword_for, keyword_if, keyword_input, keyword_integer, keyword_localparam, keyword_module, keyword_negedge, keyword_or, keyword_output, keyword_parameter, keyword_posedge, keyword_reg, keyword_signed, keyword_wire, mark_open_parenthesis, mark_close_parenthesis, mark_open_bracket, mark_close_bracket, mark_open_brace, mark_close_brace, mark_comma, mark_semicolon, mark_colon, mark_dot, mark_hash, mark_at, mark_question, mark_equals, mark_plus, mark_minus, mark_star, mark_slash, mark_percent, mark_not, mark_tilde, mark_and, mark_or, mark_xor, mark_less, mark_greater, mark_power, mark_equal, mark_not_equal, mark_case_equal, mark_case_not_equal, mark_less_or_equal, mark_greater_or_equal, mark_shift_left, mark_shift_right, mark_signed_shift_left, mark_signed_shift_right, mark_logical_and, mark_logical_or, mark_nand, mark_nor, mark_xnor, mark_xnor_reversed, mark_part_up, mark_part_down}
use Rattle.rr_syntax.specs.Expressions.{levels, prefixes, infix_level, is_prefix, conditional_level}

-- a place in a table, and the text that is to stand there
pub record Entry : Type 0 where
  pub place : ℕ
  pub text : List ℕ

-- each text stands at its place
abbrev pub HasEntries : List (List ℕ) → List Entry → Type 0
HasEntries table entries = map (λ (e : Entry). get_or table e.place []) entries ≡ map (λ (e : Entry). e.text) entries

-- the reserved words by the names of their constants (IEEE 1364-2005 annex B)
abbrev pub word_constants : List Entry
word_constants =
    record { place = word.ALWAYS.0; text = codes "always" } ∷ record { place = word.AND.0; text = codes "and" } ∷
    record { place = word.ASSIGN.0; text = codes "assign" } ∷
    record { place = word.AUTOMATIC.0; text = codes "automatic" } ∷
    record { place = word.BEGIN.0; text = codes "begin" } ∷ record { place = word.BUF.0; text = codes "buf" } ∷
    record { place = word.BUFIF0.0; text = codes "bufif0" } ∷
    record { place = word.BUFIF1.0; text = codes "bufif1" } ∷ record { place = word.CASE.0; text = codes "case" } ∷
    record { place = word.CASEX.0; text = codes "casex" } ∷ record { place = word.CASEZ.0; text = codes "casez" } ∷
    record { place = word.CELL.0; text = codes "cell" } ∷ record { place = word.CMOS.0; text = codes "cmos" } ∷
    record { place = word.CONFIG.0; text = codes "config" } ∷
    record { place = word.DEASSIGN.0; text = codes "deassign" } ∷
    record { place = word.DEFAULT.0; text = codes "default" } ∷
    record { place = word.DEFPARAM.0; text = codes "defparam" } ∷
    record { place = word.DESIGN.0; text = codes "design" } ∷
    record { place = word.DISABLE.0; text = codes "disable" } ∷ record { place = word.EDGE.0; text = codes "edge" } ∷
    record { place = word.ELSE.0; text = codes "else" } ∷ record { place = word.END.0; text = codes "end" } ∷
    record { place = word.ENDCASE.0; text = codes "endcase" } ∷
    record { place = word.ENDCONFIG.0; text = codes "endconfig" } ∷
    record { place = word.ENDFUNCTION.0; text = codes "endfunction" } ∷
    record { place = word.ENDGENERATE.0; text = codes "endgenerate" } ∷
    record { place = word.ENDMODULE.0; text = codes "endmodule" } ∷
    record { place = word.ENDPRIMITIVE.0; text = codes "endprimitive" } ∷
    record { place = word.ENDSPECIFY.0; text = codes "endspecify" } ∷
    record { place = word.ENDTABLE.0; text = codes "endtable" } ∷
    record { place = word.ENDTASK.0; text = codes "endtask" } ∷
    record { place = word.EVENT.0; text = codes "event" } ∷ record { place = word.FOR.0; text = codes "for" } ∷
    record { place = word.FORCE.0; text = codes "force" } ∷
    record { place = word.FOREVER.0; text = codes "forever" } ∷ record { place = word.FORK.0; text = codes "fork" } ∷
    record { place = word.FUNCTION.0; text = codes "function" } ∷
    record { place = word.GENERATE.0; text = codes "generate" } ∷
    record { place = word.GENVAR.0; text = codes "genvar" } ∷
    record { place = word.HIGHZ0.0; text = codes "highz0" } ∷
    record { place = word.HIGHZ1.0; text = codes "highz1" } ∷ record { place = word.IF.0; text = codes "if" } ∷
    record { place = word.IFNONE.0; text = codes "ifnone" } ∷
    record { place = word.INCDIR.0; text = codes "incdir" } ∷
    record { place = word.INCLUDE.0; text = codes "include" } ∷
    record { place = word.INITIAL.0; text = codes "initial" } ∷
    record { place = word.INOUT.0; text = codes "inout" } ∷ record { place = word.INPUT.0; text = codes "input" } ∷
    record { place = word.INSTANCE.0; text = codes "instance" } ∷
    record { place = word.INTEGER.0; text = codes "integer" } ∷ record { place = word.JOIN.0; text = codes "join" } ∷
    record { place = word.LARGE.0; text = codes "large" } ∷
    record { place = word.LIBLIST.0; text = codes "liblist" } ∷
    record { place = word.LIBRARY.0; text = codes "library" } ∷
    record { place = word.LOCALPARAM.0; text = codes "localparam" } ∷
    record { place = word.MACROMODULE.0; text = codes "macromodule" } ∷
    record { place = word.MEDIUM.0; text = codes "medium" } ∷
    record { place = word.MODULE.0; text = codes "module" } ∷ record { place = word.NAND.0; text = codes "nand" } ∷
    record { place = word.NEGEDGE.0; text = codes "negedge" } ∷ record { place = word.NMOS.0; text = codes "nmos" } ∷
    record { place = word.NOR.0; text = codes "nor" } ∷
    record { place = word.NOSHOWCANCELLED.0; text = codes "noshowcancelled" } ∷
    record { place = word.NOT.0; text = codes "not" } ∷ record { place = word.NOTIF0.0; text = codes "notif0" } ∷
    record { place = word.NOTIF1.0; text = codes "notif1" } ∷ record { place = word.OR.0; text = codes "or" } ∷
    record { place = word.OUTPUT.0; text = codes "output" } ∷
    record { place = word.PARAMETER.0; text = codes "parameter" } ∷
    record { place = word.PMOS.0; text = codes "pmos" } ∷ record { place = word.POSEDGE.0; text = codes "posedge" } ∷
    record { place = word.PRIMITIVE.0; text = codes "primitive" } ∷
    record { place = word.PULL0.0; text = codes "pull0" } ∷ record { place = word.PULL1.0; text = codes "pull1" } ∷
    record { place = word.PULLDOWN.0; text = codes "pulldown" } ∷
    record { place = word.PULLUP.0; text = codes "pullup" } ∷
    record { place = word.PULSESTYLE_ONEVENT.0; text = codes "pulsestyle_onevent" } ∷
    record { place = word.PULSESTYLE_ONDETECT.0; text = codes "pulsestyle_ondetect" } ∷
    record { place = word.RCMOS.0; text = codes "rcmos" } ∷ record { place = word.REAL.0; text = codes "real" } ∷
    record { place = word.REALTIME.0; text = codes "realtime" } ∷ record { place = word.REG.0; text = codes "reg" } ∷
    record { place = word.RELEASE.0; text = codes "release" } ∷
    record { place = word.REPEAT.0; text = codes "repeat" } ∷ record { place = word.RNMOS.0; text = codes "rnmos" } ∷
    record { place = word.RPMOS.0; text = codes "rpmos" } ∷ record { place = word.RTRAN.0; text = codes "rtran" } ∷
    record { place = word.RTRANIF0.0; text = codes "rtranif0" } ∷
    record { place = word.RTRANIF1.0; text = codes "rtranif1" } ∷
    record { place = word.SCALARED.0; text = codes "scalared" } ∷
    record { place = word.SHOWCANCELLED.0; text = codes "showcancelled" } ∷
    record { place = word.SIGNED.0; text = codes "signed" } ∷ record { place = word.SMALL.0; text = codes "small" } ∷
    record { place = word.SPECIFY.0; text = codes "specify" } ∷
    record { place = word.SPECPARAM.0; text = codes "specparam" } ∷
    record { place = word.STRONG0.0; text = codes "strong0" } ∷
    record { place = word.STRONG1.0; text = codes "strong1" } ∷
    record { place = word.SUPPLY0.0; text = codes "supply0" } ∷
    record { place = word.SUPPLY1.0; text = codes "supply1" } ∷
    record { place = word.TABLE.0; text = codes "table" } ∷ record { place = word.TASK.0; text = codes "task" } ∷
    record { place = word.TIME.0; text = codes "time" } ∷ record { place = word.TRAN.0; text = codes "tran" } ∷
    record { place = word.TRANIF0.0; text = codes "tranif0" } ∷
    record { place = word.TRANIF1.0; text = codes "tranif1" } ∷ record { place = word.TRI.0; text = codes "tri" } ∷
    record { place = word.TRI0.0; text = codes "tri0" } ∷ record { place = word.TRI1.0; text = codes "tri1" } ∷
    record { place = word.TRIAND.0; text = codes "triand" } ∷ record { place = word.TRIOR.0; text = codes "trior" } ∷
    record { place = word.TRIREG.0; text = codes "trireg" } ∷
    record { place = word.UNSIGNED.0; text = codes "unsigned" } ∷ record { place = word.USE.0; text = codes "use" } ∷
    record { place = word.UWIRE.0; text = codes "uwire" } ∷
    record { place = word.VECTORED.0; text = codes "vectored" } ∷
    record { place = word.WAIT.0; text = codes "wait" } ∷ record { place = word.WAND.0; text = codes "wand" } ∷
    record { place = word.WEAK0.0; text = codes "weak0" } ∷ record { place = word.WEAK1.0; text = codes "weak1" } ∷
    record { place = word.WHILE.0; text = codes "while" } ∷ record { place = word.WIRE.0; text = codes "wire" } ∷
    record { place = word.WOR.0; text = codes "wor" } ∷ record { place = word.XNOR.0; text = codes "xnor" } ∷
    record { place = word.XOR.0; text = codes "xor" } ∷ []

-- the reserved words of the grammar by the names of their numbers
abbrev pub word_numbers : List Entry
word_numbers =
    record { place = keyword_always; text = codes "always" } ∷
    record { place = keyword_assign; text = codes "assign" } ∷
    record { place = keyword_begin; text = codes "begin" } ∷ record { place = keyword_case; text = codes "case" } ∷
    record { place = keyword_casex; text = codes "casex" } ∷ record { place = keyword_casez; text = codes "casez" } ∷
    record { place = keyword_default; text = codes "default" } ∷
    record { place = keyword_else; text = codes "else" } ∷ record { place = keyword_end; text = codes "end" } ∷
    record { place = keyword_endcase; text = codes "endcase" } ∷
    record { place = keyword_endmodule; text = codes "endmodule" } ∷
    record { place = keyword_for; text = codes "for" } ∷ record { place = keyword_if; text = codes "if" } ∷
    record { place = keyword_input; text = codes "input" } ∷
    record { place = keyword_integer; text = codes "integer" } ∷
    record { place = keyword_localparam; text = codes "localparam" } ∷
    record { place = keyword_module; text = codes "module" } ∷
    record { place = keyword_negedge; text = codes "negedge" } ∷ record { place = keyword_or; text = codes "or" } ∷
    record { place = keyword_output; text = codes "output" } ∷
    record { place = keyword_parameter; text = codes "parameter" } ∷
    record { place = keyword_posedge; text = codes "posedge" } ∷ record { place = keyword_reg; text = codes "reg" } ∷
    record { place = keyword_signed; text = codes "signed" } ∷ record { place = keyword_wire; text = codes "wire" } ∷ []

-- the marks by the names of their constants (sections 3.2 and 5.1)
abbrev pub mark_constants : List Entry
mark_constants =
    record { place = mark.OPEN_PARENTHESIS.0; text = codes "(" } ∷
    record { place = mark.CLOSE_PARENTHESIS.0; text = codes ")" } ∷
    record { place = mark.OPEN_BRACKET.0; text = codes "[" } ∷
    record { place = mark.CLOSE_BRACKET.0; text = codes "]" } ∷
    record { place = mark.OPEN_BRACE.0; text = codes "{" } ∷
    record { place = mark.CLOSE_BRACE.0; text = codes "}" } ∷ record { place = mark.COMMA.0; text = codes "," } ∷
    record { place = mark.SEMICOLON.0; text = codes ";" } ∷ record { place = mark.COLON.0; text = codes ":" } ∷
    record { place = mark.DOT.0; text = codes "." } ∷ record { place = mark.HASH.0; text = codes "#" } ∷
    record { place = mark.AT.0; text = codes "@" } ∷ record { place = mark.QUESTION.0; text = codes "?" } ∷
    record { place = mark.EQUALS.0; text = codes "=" } ∷ record { place = mark.PLUS.0; text = codes "+" } ∷
    record { place = mark.MINUS.0; text = codes "-" } ∷ record { place = mark.STAR.0; text = codes "*" } ∷
    record { place = mark.SLASH.0; text = codes "/" } ∷ record { place = mark.PERCENT.0; text = codes "%" } ∷
    record { place = mark.NOT.0; text = codes "!" } ∷ record { place = mark.TILDE.0; text = codes "~" } ∷
    record { place = mark.AND.0; text = codes "&" } ∷ record { place = mark.OR.0; text = codes "|" } ∷
    record { place = mark.XOR.0; text = codes "^" } ∷ record { place = mark.LESS.0; text = codes "<" } ∷
    record { place = mark.GREATER.0; text = codes ">" } ∷ record { place = mark.POWER.0; text = codes "**" } ∷
    record { place = mark.EQUAL.0; text = codes "==" } ∷ record { place = mark.NOT_EQUAL.0; text = codes "!=" } ∷
    record { place = mark.CASE_EQUAL.0; text = codes "===" } ∷
    record { place = mark.CASE_NOT_EQUAL.0; text = codes "!==" } ∷
    record { place = mark.LESS_OR_EQUAL.0; text = codes "<=" } ∷
    record { place = mark.GREATER_OR_EQUAL.0; text = codes ">=" } ∷
    record { place = mark.SHIFT_LEFT.0; text = codes "<<" } ∷
    record { place = mark.SHIFT_RIGHT.0; text = codes ">>" } ∷
    record { place = mark.SIGNED_SHIFT_LEFT.0; text = codes "<<<" } ∷
    record { place = mark.SIGNED_SHIFT_RIGHT.0; text = codes ">>>" } ∷
    record { place = mark.LOGICAL_AND.0; text = codes "&&" } ∷
    record { place = mark.LOGICAL_OR.0; text = codes "||" } ∷ record { place = mark.NAND.0; text = codes "~&" } ∷
    record { place = mark.NOR.0; text = codes "~|" } ∷ record { place = mark.XNOR.0; text = codes "~^" } ∷
    record { place = mark.XNOR_REVERSED.0; text = codes "^~" } ∷
    record { place = mark.PART_UP.0; text = codes "+:" } ∷ record { place = mark.PART_DOWN.0; text = codes "-:" } ∷ []

-- the marks by the names of their numbers
abbrev pub mark_numbers : List Entry
mark_numbers =
    record { place = mark_open_parenthesis; text = codes "(" } ∷
    record { place = mark_close_parenthesis; text = codes ")" } ∷
    record { place = mark_open_bracket; text = codes "[" } ∷
    record { place = mark_close_bracket; text = codes "]" } ∷ record { place = mark_open_brace; text = codes "{" } ∷
    record { place = mark_close_brace; text = codes "}" } ∷ record { place = mark_comma; text = codes "," } ∷
    record { place = mark_semicolon; text = codes ";" } ∷ record { place = mark_colon; text = codes ":" } ∷
    record { place = mark_dot; text = codes "." } ∷ record { place = mark_hash; text = codes "#" } ∷
    record { place = mark_at; text = codes "@" } ∷ record { place = mark_question; text = codes "?" } ∷
    record { place = mark_equals; text = codes "=" } ∷ record { place = mark_plus; text = codes "+" } ∷
    record { place = mark_minus; text = codes "-" } ∷ record { place = mark_star; text = codes "*" } ∷
    record { place = mark_slash; text = codes "/" } ∷ record { place = mark_percent; text = codes "%" } ∷
    record { place = mark_not; text = codes "!" } ∷ record { place = mark_tilde; text = codes "~" } ∷
    record { place = mark_and; text = codes "&" } ∷ record { place = mark_or; text = codes "|" } ∷
    record { place = mark_xor; text = codes "^" } ∷ record { place = mark_less; text = codes "<" } ∷
    record { place = mark_greater; text = codes ">" } ∷ record { place = mark_power; text = codes "**" } ∷
    record { place = mark_equal; text = codes "==" } ∷ record { place = mark_not_equal; text = codes "!=" } ∷
    record { place = mark_case_equal; text = codes "===" } ∷
    record { place = mark_case_not_equal; text = codes "!==" } ∷
    record { place = mark_less_or_equal; text = codes "<=" } ∷
    record { place = mark_greater_or_equal; text = codes ">=" } ∷
    record { place = mark_shift_left; text = codes "<<" } ∷ record { place = mark_shift_right; text = codes ">>" } ∷
    record { place = mark_signed_shift_left; text = codes "<<<" } ∷
    record { place = mark_signed_shift_right; text = codes ">>>" } ∷
    record { place = mark_logical_and; text = codes "&&" } ∷ record { place = mark_logical_or; text = codes "||" } ∷
    record { place = mark_nand; text = codes "~&" } ∷ record { place = mark_nor; text = codes "~|" } ∷
    record { place = mark_xnor; text = codes "~^" } ∷ record { place = mark_xnor_reversed; text = codes "^~" } ∷
    record { place = mark_part_up; text = codes "+:" } ∷ record { place = mark_part_down; text = codes "-:" } ∷ []

-- the tables are those of the code, and each name stands for its text
pub record TablesAgree : Type 0 where
  pub texts_of_words : map (λ t. t.now) KEYWORDS ≡ keywords
  pub constants_of_words : HasEntries keywords word_constants
  pub numbers_of_words : HasEntries keywords word_numbers
  pub texts_of_marks : map (λ t. t.now) MARKS ≡ marks
  pub constants_of_marks : HasEntries marks mark_constants
  pub numbers_of_marks : HasEntries marks mark_numbers

-- the operators between operands, those that bind tightest first (section 5.1.2, table 5-4)
abbrev pub precedence : List (List ℕ)
precedence =
    (mark_power ∷ []) ∷
    (mark_star ∷ mark_slash ∷ mark_percent ∷ []) ∷
    (mark_plus ∷ mark_minus ∷ []) ∷
    (mark_shift_left ∷ mark_shift_right ∷ mark_signed_shift_left ∷ mark_signed_shift_right ∷ []) ∷
    (mark_less ∷ mark_less_or_equal ∷ mark_greater ∷ mark_greater_or_equal ∷ []) ∷
    (mark_equal ∷ mark_not_equal ∷ mark_case_equal ∷ mark_case_not_equal ∷ []) ∷
    (mark_and ∷ []) ∷
    (mark_xor ∷ mark_xnor_reversed ∷ mark_xnor ∷ []) ∷
    (mark_or ∷ []) ∷
    (mark_logical_and ∷ []) ∷
    (mark_logical_or ∷ []) ∷ []

-- the operators before an operand (section 5.1, annex A.8.6)
abbrev pub unary_operators : List ℕ
unary_operators =
    mark_plus ∷ mark_minus ∷ mark_not ∷ mark_tilde ∷ mark_and ∷ mark_nand ∷ mark_or ∷ mark_nor ∷ mark_xor ∷ mark_xnor ∷ mark_xnor_reversed ∷ []

-- the tables of levels and prefixes hold these operators, at these levels, and no others
pub record LevelsAgree : Type 0 where
  pub operators : map (λ ms. map infix_level ms) precedence ≡
      (12 ∷ []) ∷ (11 ∷ 11 ∷ 11 ∷ []) ∷ (10 ∷ 10 ∷ []) ∷ (9 ∷ 9 ∷ 9 ∷ 9 ∷ []) ∷ (8 ∷ 8 ∷ 8 ∷ 8 ∷ []) ∷ (7 ∷ 7 ∷ 7 ∷ 7 ∷ []) ∷
      (6 ∷ []) ∷ (5 ∷ 5 ∷ 5 ∷ []) ∷ (4 ∷ []) ∷ (3 ∷ []) ∷ (2 ∷ []) ∷ []
  pub conditional : infix_level mark_question ≡ conditional_level
  pub sum_of_levels : sum levels ≡ 12 + 33 + 20 + 36 + 32 + 28 + 6 + 15 + 4 + 3 + 2 + 1
  pub unary : map is_prefix unary_operators ≡ map (λ (m : ℕ). true) unary_operators
  pub sum_of_prefixes : sum prefixes ≡ length unary_operators
