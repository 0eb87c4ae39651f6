-- The formats of declarations (IEEE 1364-2005 sections 6.1, 12.2 and 12.3.3, annexes A.2.1 and A.2.4), whose expressions have at
-- most the depth k.
use Rattle.std.specs.Prelude.{ℕ, suc, ◌+◌, ◌≤◌, ◌<◌, ◌≡◌, List, [], ◌∷◌, ◌++◌, length, Bool, true, false, if◌then◌else◌, ◌==◌, cond, Option, Some, None, IsTrue}
use Rattle.rr_syntax.specs.declared.tree.Dir.{Dir}
use Rattle.rr_syntax.specs.declared.tree.Dir.TheVariants as dir
use Rattle.rr_syntax.specs.Words.{Word, Marked, Reserved, keyword_else, keyword_input, keyword_integer, keyword_output, keyword_reg, keyword_signed, keyword_wire, mark_open_bracket, mark_close_bracket, mark_colon, mark_equals}
use Rattle.rr_syntax.specs.Tree.{Tree, Identifier, Range, PortDeclaration, ParamAssignment, DeclaredName, NetAssignment, Statement, bare, bare_identifier, bare_port, bare_assignment, bare_declarator, bare_pair, bare_range, bare_statement}
use Rattle.rr_syntax.specs.Expressions.{spell, depth, is_target, infix_level, unary_level, WellFormed, Numbered}
use Rattle.rr_syntax.specs.Statements.{spell_statement, depth_statement, WellFormedStatement, NumberedStatement}
use Rattle.rr_syntax.specs.Items.{spell_identifier, spell_where, spell_dir, spell_range, NumberedIdentifier, NumberedRange}
use Rattle.rr_parse_expr.specs.Reading.{Found, mapped, chain, mark, rest, reads}
use Rattle.rr_parse_stmt.specs.Reading.{keyword, name, target, statement}
use Rattle.rr_grammar.specs.Formats.{Format, Anything, both, after_mark, before_mark, shaped, respelled, narrowed, list}

abbrev pub identifier : Format Identifier
identifier = record { spell = spell_identifier; bare = bare_identifier; Good = λ i. Unit {0}; Numbered = NumberedIdentifier; Before = Anything; read = name }

-- no operator and no select goes on here
pub record Ends (ws : List Word) : Type 0 where
  pub no_operator : infix_level (mark ws) ≡ 0
  pub no_select : mark ws ≡ mark_open_bracket → ⊥

abbrev pub expression : ℕ → Format Tree
expression k = record { spell = spell; bare = bare; Good = λ t. WellFormed t × (depth t ≤ k); Numbered = Numbered; Before = Ends; read = reads k 1 }

-- a mark that binds less than a prefix goes on here
pub record EndsTarget (ws : List Word) : Type 0 where
  pub low : infix_level (mark ws) < unary_level
  pub no_select : mark ws ≡ mark_open_bracket → ⊥

abbrev pub target_of : ℕ → Format Tree
target_of k = record { spell = spell; bare = bare; Good = λ t. IsTrue (is_target t) × WellFormed t × (depth t ≤ k); Numbered = Numbered; Before = EndsTarget; read = target (reads k) }

-- a reserved word that may stand
abbrev pub flag : ℕ → Format Bool
flag w = record {
  spell = λ b. spell_where b w;
  bare = λ b. b;
  Good = λ b. Unit {0};
  Numbered = λ b at. Unit {0};
  Before = λ ws. keyword ws ≡ w → ⊥;
  read = λ ws. if keyword ws == w then Some (true, rest ws) else Some (false, ws);
}

abbrev pub spell_option : {A : Type 0} → ℕ → (A → List Word) → Option A → List Word
spell_option m f None = []
spell_option m f (Some a) = Marked m ∷ f a

abbrev pub bare_option : {A : Type 0} → (A → A) → Option A → Option A
bare_option f None = None
bare_option f (Some a) = Some (f a)

abbrev pub AllOption : {A : Type 0} → (A → Type 0) → Option A → Type 0
AllOption P None = Unit {0}
AllOption P (Some a) = P a

abbrev pub NumberedOption : {A : Type 0} → (A → ℕ → Type 0) → Option A → ℕ → Type 0
NumberedOption N None at = Unit {0}
NumberedOption N (Some a) at = N a (at + 1)

abbrev pub there : {A : Type 0} → A → Option A
there a = Some a

-- a part that may stand, where this mark stands before it
abbrev pub where_mark : {A : Type 0} → ℕ → Format A → Format (Option A)
where_mark m F = record {
  spell = spell_option m F.spell;
  bare = bare_option F.bare;
  Good = AllOption F.Good;
  Numbered = NumberedOption F.Numbered;
  Before = λ ws. F.Before ws × (mark ws ≡ m → ⊥);
  read = λ ws. if mark ws == m then mapped there (F.read (rest ws)) else Some (None, ws);
}

abbrev pub to_range : Tree × Tree → Range
to_range p = record { left = p.0; right = p.1 }

abbrev pub of_range : Range → Tree × Tree
of_range r = (r.left, r.right)

-- `[left:right]`, where it stands (annex A.2.5)
abbrev pub range : ℕ → Format (Option Range)
range k = respelled (where_mark mark_open_bracket (shaped (both (before_mark (expression k) mark_colon) (before_mark (expression k) mark_close_bracket)) to_range of_range)) spell_range bare_range NumberedRange

-- no type goes on here
abbrev pub NoType : List Word → Type 0
NoType ws = (keyword ws ≡ keyword_signed → ⊥) × (mark ws ≡ mark_open_bracket → ⊥)

-- `signed` and the range, where they stand
abbrev pub typed : ℕ → Format (Bool × Option Range)
typed k = both (flag keyword_signed) (narrowed (range k) NoType)

abbrev pub of_input : List Word → Found Dir
of_input ws = if keyword ws == keyword_wire then Some (dir.InputWire, rest ws) else Some (dir.Input, ws)

abbrev pub of_output : List Word → Found Dir
of_output ws =
    if keyword ws == keyword_wire then Some (dir.OutputWire, rest ws)
    else (if keyword ws == keyword_reg then Some (dir.OutputReg, rest ws) else Some (dir.Output, ws))

-- the direction of a port and its kind (section 12.3.3)
abbrev pub direction : Format Dir
direction = record {
  spell = spell_dir;
  bare = λ d. d;
  Good = λ d. Unit {0};
  Numbered = λ d at. Unit {0};
  Before = λ ws. (keyword ws ≡ keyword_wire → ⊥) × (keyword ws ≡ keyword_reg → ⊥);
  read = λ ws. if keyword ws == keyword_input then of_input (rest ws) else (if keyword ws == keyword_output then of_output (rest ws) else None);
}

-- one of two reserved words, the first where `true`
abbrev pub choice : ℕ → ℕ → Format Bool
choice v w = record {
  spell = λ b. Reserved (cond b v w) ∷ [];
  bare = λ b. b;
  Good = λ b. Unit {0};
  Numbered = λ b at. Unit {0};
  Before = Anything;
  read = λ ws. if keyword ws == v then Some (true, rest ws) else (if keyword ws == w then Some (false, rest ws) else None);
}
