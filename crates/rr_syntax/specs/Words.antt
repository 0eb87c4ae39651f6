-- The tokens of a source without addresses or places, and the tables of reserved words and marks
-- (IEEE 1364-2005 sections 3.2, 3.5 to 3.7, 5.1 and annex B).
use Rattle.std.specs.Prelude.{ℕ, List, [], ◌∷◌, codes}
use Rattle.rr_syntax.specs.declared.token.Number.{Number}
use Rattle.rr_syntax.specs.declared.token.Kind.{Kind}
use Rattle.rr_syntax.specs.declared.token.Kind.TheVariants as kind
use Rattle.rr_syntax.specs.declared.token.Token.{Token}

-- a name, a system name without its `$`, a literal, a reserved word and a mark by their places in the tables
pub data Word : Type 0 where
  Named : List ℕ → Word
  System : List ℕ → Word
  Digits : Number → Word
  Reserved : ℕ → Word
  Marked : ℕ → Word

abbrev pub word : Kind → Word
word (kind.Name s) = Named s.now
word (kind.System s) = System s.now
word (kind.Number n) = Digits n
word (kind.Keyword k) = Reserved k.0
word (kind.Mark m) = Marked m.0

-- the words of a list of tokens
unfoldable pub words : List Token → List Word
words [] = []
words (t ∷ ts) = word t.kind ∷ words ts

-- the reserved words, in the order of their places
abbrev pub keywords : List (List ℕ)
keywords =
    codes "always" ∷ codes "and" ∷ codes "assign" ∷ codes "automatic" ∷ codes "begin" ∷ codes "buf" ∷ codes "bufif0" ∷
    codes "bufif1" ∷ codes "case" ∷ codes "casex" ∷ codes "casez" ∷ codes "cell" ∷ codes "cmos" ∷ codes "config" ∷
    codes "deassign" ∷ codes "default" ∷ codes "defparam" ∷ codes "design" ∷ codes "disable" ∷ codes "edge" ∷
    codes "else" ∷ codes "end" ∷ codes "endcase" ∷ codes "endconfig" ∷ codes "endfunction" ∷ codes "endgenerate" ∷
    codes "endmodule" ∷ codes "endprimitive" ∷ codes "endspecify" ∷ codes "endtable" ∷ codes "endtask" ∷
    codes "event" ∷ codes "for" ∷ codes "force" ∷ codes "forever" ∷ codes "fork" ∷ codes "function" ∷
    codes "generate" ∷ codes "genvar" ∷ codes "highz0" ∷ codes "highz1" ∷ codes "if" ∷ codes "ifnone" ∷
    codes "incdir" ∷ codes "include" ∷ codes "initial" ∷ codes "inout" ∷ codes "input" ∷ codes "instance" ∷
    codes "integer" ∷ codes "join" ∷ codes "large" ∷ codes "liblist" ∷ codes "library" ∷ codes "localparam" ∷
    codes "macromodule" ∷ codes "medium" ∷ codes "module" ∷ codes "nand" ∷ codes "negedge" ∷ codes "nmos" ∷
    codes "nor" ∷ codes "noshowcancelled" ∷ codes "not" ∷ codes "notif0" ∷ codes "notif1" ∷ codes "or" ∷
    codes "output" ∷ codes "parameter" ∷ codes "pmos" ∷ codes "posedge" ∷ codes "primitive" ∷ codes "pull0" ∷
    codes "pull1" ∷ codes "pulldown" ∷ codes "pullup" ∷ codes "pulsestyle_onevent" ∷ codes "pulsestyle_ondetect" ∷
    codes "rcmos" ∷ codes "real" ∷ codes "realtime" ∷ codes "reg" ∷ codes "release" ∷ codes "repeat" ∷ codes "rnmos" ∷
    codes "rpmos" ∷ codes "rtran" ∷ codes "rtranif0" ∷ codes "rtranif1" ∷ codes "scalared" ∷ codes "showcancelled" ∷
    codes "signed" ∷ codes "small" ∷ codes "specify" ∷ codes "specparam" ∷ codes "strong0" ∷ codes "strong1" ∷
    codes "supply0" ∷ codes "supply1" ∷ codes "table" ∷ codes "task" ∷ codes "time" ∷ codes "tran" ∷ codes "tranif0" ∷
    codes "tranif1" ∷ codes "tri" ∷ codes "tri0" ∷ codes "tri1" ∷ codes "triand" ∷ codes "trior" ∷ codes "trireg" ∷
    codes "unsigned" ∷ codes "use" ∷ codes "uwire" ∷ codes "vectored" ∷ codes "wait" ∷ codes "wand" ∷ codes "weak0" ∷
    codes "weak1" ∷ codes "while" ∷ codes "wire" ∷ codes "wor" ∷ codes "xnor" ∷ codes "xor" ∷ []

-- the marks, in the order of their places
abbrev pub marks : List (List ℕ)
marks =
    codes "(" ∷ codes ")" ∷ codes "[" ∷ codes "]" ∷ codes "{" ∷ codes "}" ∷ codes "," ∷ codes ";" ∷ codes ":" ∷
    codes "." ∷ codes "#" ∷ codes "@" ∷ codes "?" ∷ codes "=" ∷ codes "+" ∷ codes "-" ∷ codes "*" ∷ codes "/" ∷
    codes "%" ∷ codes "!" ∷ codes "~" ∷ codes "&" ∷ codes "|" ∷ codes "^" ∷ codes "<" ∷ codes ">" ∷ codes "**" ∷
    codes "==" ∷ codes "!=" ∷ codes "===" ∷ codes "!==" ∷ codes "<=" ∷ codes ">=" ∷ codes "<<" ∷ codes ">>" ∷
    codes "<<<" ∷ codes ">>>" ∷ codes "&&" ∷ codes "||" ∷ codes "~&" ∷ codes "~|" ∷ codes "~^" ∷ codes "^~" ∷
    codes "+:" ∷ codes "-:" ∷ []

-- the reserved words of the grammar
abbrev pub keyword_always : ℕ
keyword_always = 0

abbrev pub keyword_assign : ℕ
keyword_assign = 2

abbrev pub keyword_begin : ℕ
keyword_begin = 4

abbrev pub keyword_case : ℕ
keyword_case = 8

abbrev pub keyword_casex : ℕ
keyword_casex = 9

abbrev pub keyword_casez : ℕ
keyword_casez = 10

abbrev pub keyword_default : ℕ
keyword_default = 15

abbrev pub keyword_else : ℕ
keyword_else = 20

abbrev pub keyword_end : ℕ
keyword_end = 21

abbrev pub keyword_endcase : ℕ
keyword_endcase = 22

abbrev pub keyword_endmodule : ℕ
keyword_endmodule = 26

abbrev pub keyword_for : ℕ
keyword_for = 32

abbrev pub keyword_if : ℕ
keyword_if = 41

abbrev pub keyword_initial : ℕ
keyword_initial = 45

abbrev pub keyword_input : ℕ
keyword_input = 47

abbrev pub keyword_integer : ℕ
keyword_integer = 49

abbrev pub keyword_localparam : ℕ
keyword_localparam = 54

abbrev pub keyword_module : ℕ
keyword_module = 57

abbrev pub keyword_negedge : ℕ
keyword_negedge = 59

abbrev pub keyword_or : ℕ
keyword_or = 66

abbrev pub keyword_output : ℕ
keyword_output = 67

abbrev pub keyword_parameter : ℕ
keyword_parameter = 68

abbrev pub keyword_posedge : ℕ
keyword_posedge = 70

abbrev pub keyword_reg : ℕ
keyword_reg = 81

abbrev pub keyword_signed : ℕ
keyword_signed = 91

abbrev pub keyword_wire : ℕ
keyword_wire = 120

-- the marks of the grammar
abbrev pub mark_open_parenthesis : ℕ
mark_open_parenthesis = 0

abbrev pub mark_close_parenthesis : ℕ
mark_close_parenthesis = 1

abbrev pub mark_open_bracket : ℕ
mark_open_bracket = 2

abbrev pub mark_close_bracket : ℕ
mark_close_bracket = 3

abbrev pub mark_open_brace : ℕ
mark_open_brace = 4

abbrev pub mark_close_brace : ℕ
mark_close_brace = 5

abbrev pub mark_comma : ℕ
mark_comma = 6

abbrev pub mark_semicolon : ℕ
mark_semicolon = 7

abbrev pub mark_colon : ℕ
mark_colon = 8

abbrev pub mark_dot : ℕ
mark_dot = 9

abbrev pub mark_hash : ℕ
mark_hash = 10

abbrev pub mark_at : ℕ
mark_at = 11

abbrev pub mark_question : ℕ
mark_question = 12

abbrev pub mark_equals : ℕ
mark_equals = 13

abbrev pub mark_plus : ℕ
mark_plus = 14

abbrev pub mark_minus : ℕ
mark_minus = 15

abbrev pub mark_star : ℕ
mark_star = 16

abbrev pub mark_slash : ℕ
mark_slash = 17

abbrev pub mark_percent : ℕ
mark_percent = 18

abbrev pub mark_not : ℕ
mark_not = 19

abbrev pub mark_tilde : ℕ
mark_tilde = 20

abbrev pub mark_and : ℕ
mark_and = 21

abbrev pub mark_or : ℕ
mark_or = 22

abbrev pub mark_xor : ℕ
mark_xor = 23

abbrev pub mark_less : ℕ
mark_less = 24

abbrev pub mark_greater : ℕ
mark_greater = 25

abbrev pub mark_power : ℕ
mark_power = 26

abbrev pub mark_equal : ℕ
mark_equal = 27

abbrev pub mark_not_equal : ℕ
mark_not_equal = 28

abbrev pub mark_case_equal : ℕ
mark_case_equal = 29

abbrev pub mark_case_not_equal : ℕ
mark_case_not_equal = 30

abbrev pub mark_less_or_equal : ℕ
mark_less_or_equal = 31

abbrev pub mark_greater_or_equal : ℕ
mark_greater_or_equal = 32

abbrev pub mark_shift_left : ℕ
mark_shift_left = 33

abbrev pub mark_shift_right : ℕ
mark_shift_right = 34

abbrev pub mark_signed_shift_left : ℕ
mark_signed_shift_left = 35

abbrev pub mark_signed_shift_right : ℕ
mark_signed_shift_right = 36

abbrev pub mark_logical_and : ℕ
mark_logical_and = 37

abbrev pub mark_logical_or : ℕ
mark_logical_or = 38

abbrev pub mark_nand : ℕ
mark_nand = 39

abbrev pub mark_nor : ℕ
mark_nor = 40

abbrev pub mark_xnor : ℕ
mark_xnor = 41

abbrev pub mark_xnor_reversed : ℕ
mark_xnor_reversed = 42

abbrev pub mark_part_up : ℕ
mark_part_up = 43

abbrev pub mark_part_down : ℕ
mark_part_down = 44
