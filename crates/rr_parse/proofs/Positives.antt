-- No part is spelled by no words.
use Rattle.std.proofs.Common.{ℕ, ◌≤◌, ◌<◌, List, ◌∷◌, ◌++◌, length, Ok, arith, length-append}
use Rattle.rr_syntax.specs.declared.token.Token.{Token}
use Rattle.rr_syntax.specs.declared.tree.Dir.{Dir}
use Rattle.rr_syntax.specs.declared.tree.Dir.TheVariants as dir
use Rattle.rr_syntax.specs.Words.{Marked, mark_equals}
use Rattle.rr_syntax.specs.Tree.{Identifier, PortDeclaration, ParamAssignment, ParameterDeclaration, DeclaredName, NetAssignment, NamedConnection, ModuleInstance}
use Rattle.rr_syntax.specs.Expressions.{spell}
use Rattle.rr_syntax.specs.Items.{spell_identifier, spell_type, spell_dir, spell_port, spell_assignment, spell_parameter, spell_declarator, spell_pair, spell_connection, spell_instance, spell_separated}
use Rattle.rr_grammar.specs.Formats.{Format}
use Rattle.rr_parse_expr.specs.declared.lists.Piece.{Piece}
use Rattle.rr_parse.specs.Answer.{Answers}

pub identifier_some : (i : Identifier) → 0 < length (spell_identifier i)
unfolding spell_identifier
identifier_some i = omega arith

pub assignment_some : (a : ParamAssignment) → 0 < length (spell_assignment a)
unfolding spell_assignment
assignment_some a = omega arith

pub declarator_some : (n : DeclaredName) → 0 < length (spell_declarator n)
unfolding spell_declarator
declarator_some n = omega arith

pub pair_some : (p : NetAssignment) → 0 < length (spell_pair p)
unfolding spell_pair
pair_some p = omega (arith, length-append (spell p.target) (Marked mark_equals ∷ spell p.value))

pub parameter_some : (p : ParameterDeclaration) → 0 < length (spell_parameter p)
unfolding spell_parameter
parameter_some p = omega arith

dir_some : (d : Dir) → 0 < length (spell_dir d)
unfolding spell_dir
dir_some dir.Input = omega arith
dir_some dir.InputWire = omega arith
dir_some dir.Output = omega arith
dir_some dir.OutputWire = omega arith
dir_some dir.OutputReg = omega arith

pub port_some : (p : PortDeclaration) → 0 < length (spell_port p)
unfolding spell_port
port_some p = omega (arith, dir_some p.dir, length-append (spell_dir p.dir) (spell_type p.signed p.range ++ spell_separated spell_declarator p.names))

pub connection_some : (c : NamedConnection) → 0 < length (spell_connection c)
unfolding spell_connection
connection_some c = omega arith

pub instance_some : (i : ModuleInstance) → 0 < length (spell_instance i)
unfolding spell_instance
instance_some i = omega arith

-- what was read ends behind its first token, and among the tokens
pub moves_by : {A B : Type 0} (F : Format B) (plain : A → B) (T : List Token) → ((b : B) → 0 < length (F.spell b)) → (at : ℕ) (p : Piece A) → Answers F plain T at (Ok p) → (at < p.next) × (p.next ≤ length T)
moves_by F plain T some at p f = (omega (arith, f.taken, some (plain p.value)), f.within)
