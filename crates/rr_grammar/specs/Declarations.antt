-- The formats of declarations and continuous assignments, whose expressions have at most the depth k.
use Rattle.std.specs.Prelude.{ℕ, suc, ◌+◌, ◌≤◌, ◌<◌, ◌≡◌, List, [], ◌∷◌, ◌++◌, length, Bool, true, false, if◌then◌else◌, ◌==◌, ◌||◌, cond, not, Option, Some, None}
use Rattle.std.specs.List.{list_all}
use Rattle.std.specs.Option.{is_some}
use Rattle.rr_syntax.specs.declared.tree.Dir.{Dir}
use Rattle.rr_syntax.specs.declared.tree.Dir.TheVariants as dir
use Rattle.rr_syntax.specs.Words.{Word, Reserved, keyword_integer, keyword_localparam, keyword_parameter, keyword_signed, mark_open_bracket, mark_equals}
use Rattle.rr_syntax.specs.Tree.{Tree, Identifier, Range, PortDeclaration, ParamAssignment, ParameterDeclaration, DeclaredName, NetAssignment, bare_port, bare_assignment, bare_parameter, bare_declarator, bare_pair}
use Rattle.rr_syntax.specs.Items.{spell_where, spell_port, spell_assignment, spell_parameter, spell_declarator, spell_pair, IsTypedOnce, NumberedType, NumberedPort, NumberedAssignment, NumberedParameter, NumberedDeclarator, NumberedPair}
use Rattle.rr_parse_expr.specs.Reading.{Found, mapped, mark, rest}
use Rattle.rr_parse_stmt.specs.Reading.{keyword}
use Rattle.rr_grammar.specs.Formats.{Format, both, after_mark, shaped, respelled, guarded, list}
use Rattle.rr_grammar.specs.Leaves.{identifier, expression, target_of, where_mark, range, NoType, typed, direction, choice}

abbrev pub to_setting : Identifier × Tree → ParamAssignment
to_setting x = record { token = x.0.token; text = x.0.text; value = x.1 }

abbrev pub of_setting : ParamAssignment → Identifier × Tree
of_setting a = (record { token = a.token; text = a.text }, a.value)

-- annex A.2.4
abbrev pub setting : ℕ → Format ParamAssignment
setting k = respelled (shaped (both identifier (after_mark mark_equals (expression k))) to_setting of_setting) spell_assignment bare_assignment NumberedAssignment

abbrev pub to_declarator : Identifier × (Option Range × Option Tree) → DeclaredName
to_declarator x = record { token = x.0.token; text = x.0.text; words = x.1.0; value = x.1.1 }

abbrev pub of_declarator : DeclaredName → Identifier × (Option Range × Option Tree)
of_declarator n = (record { token = n.token; text = n.text }, (n.words, n.value))

-- a name, the range of a memory's words and a value, where they stand (sections 4.9.3, 6.1.1 and 6.2.1, annex A.2.4)
abbrev pub declarator : ℕ → Format DeclaredName
declarator k = respelled (shaped (both identifier (both (range k) (where_mark mark_equals (expression k)))) to_declarator of_declarator) spell_declarator bare_declarator NumberedDeclarator

abbrev pub has_no_words : DeclaredName → Bool
has_no_words n = not (is_some n.words)

abbrev pub has_no_value : DeclaredName → Bool
has_no_value n = not (is_some n.value)

-- a net and what drives it, or a port
abbrev pub single : ℕ → Format DeclaredName
single k = guarded (declarator k) has_no_words

abbrev pub is_variable_name : DeclaredName → Bool
is_variable_name n = has_no_words n || has_no_value n

-- a variable and its starting value, or a memory, which has none
abbrev pub variable : ℕ → Format DeclaredName
variable k = guarded (declarator k) is_variable_name

abbrev pub to_port : Dir × ((Bool × Option Range) × List DeclaredName) → PortDeclaration
to_port x = record { dir = x.0; signed = x.1.0.0; range = x.1.0.1; names = x.1.1 }

abbrev pub of_port : PortDeclaration → Dir × ((Bool × Option Range) × List DeclaredName)
of_port p = (p.dir, ((p.signed, p.range), p.names))

abbrev pub is_output_reg : Dir → Bool
is_output_reg dir.Input = false
is_output_reg dir.InputWire = false
is_output_reg dir.Output = false
is_output_reg dir.OutputWire = false
is_output_reg dir.OutputReg = true

-- only ports that are declared `output reg` have starting values (section 12.3.3, annex A.2.3)
abbrev pub starts_right : PortDeclaration → Bool
starts_right p = is_output_reg p.dir || list_all has_no_value p.names

-- section 12.3.3, annex A.2.1.2
abbrev pub port : ℕ → Format PortDeclaration
port k = guarded (respelled (shaped (both direction (both (typed k) (list (single k)))) to_port of_port) spell_port bare_port NumberedPort) starts_right

abbrev pub to_pair : Tree × Tree → NetAssignment
to_pair x = record { target = x.0; value = x.1 }

abbrev pub of_pair : NetAssignment → Tree × Tree
of_pair p = (p.target, p.value)

-- section 6.1, annex A.6.1
abbrev pub pair : ℕ → Format NetAssignment
pair k = respelled (shaped (both (target_of k) (after_mark mark_equals (expression k))) to_pair of_pair) spell_pair bare_pair NumberedPair

-- `integer`, or `signed` and a range
abbrev pub of_kind : ℕ → List Word → Found (Bool × (Bool × Option Range))
of_kind k ws = if keyword ws == keyword_integer then Some ((true, (false, None)), rest ws) else mapped (λ t. (false, t)) ((typed k).read ws)

-- the type of a parameter (section 12.2)
abbrev pub kind : ℕ → Format (Bool × (Bool × Option Range))
kind k = record {
  spell = λ x. spell_where x.0 keyword_integer ++ (typed k).spell x.1;
  bare = λ x. (x.0, (typed k).bare x.1);
  Good = λ x. IsTypedOnce x.0 x.1.0 x.1.1 × (typed k).Good x.1;
  Numbered = λ x at. NumberedType x.1.0 x.1.1 (at + length (spell_where x.0 keyword_integer));
  Before = λ ws. (keyword ws ≡ keyword_integer → ⊥) × NoType ws;
  read = of_kind k;
}

abbrev pub to_parameter : Bool × ((Bool × (Bool × Option Range)) × List ParamAssignment) → ParameterDeclaration
to_parameter x = record { local = x.0; integer = x.1.0.0; signed = x.1.0.1.0; range = x.1.0.1.1; sets = x.1.1 }

abbrev pub of_parameter : ParameterDeclaration → Bool × ((Bool × (Bool × Option Range)) × List ParamAssignment)
of_parameter p = (p.local, ((p.integer, (p.signed, p.range)), p.sets))

-- section 12.2, annex A.2.1.1
abbrev pub parameter : ℕ → Format ParameterDeclaration
parameter k = respelled (shaped (both (choice keyword_localparam keyword_parameter) (both (kind k) (list (setting k)))) to_parameter of_parameter) spell_parameter bare_parameter NumberedParameter

abbrev pub is_global : ParameterDeclaration → Bool
is_global p = not p.local

-- what stands between `#(` and `)` of a module is no `localparam`
abbrev pub head_parameter : ℕ → Format ParameterDeclaration
head_parameter k = guarded (parameter k) is_global
