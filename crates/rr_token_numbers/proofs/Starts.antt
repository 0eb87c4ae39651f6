-- Starting values without token numbers.
use Rattle.std.proofs.Common.{◌≡◌, ◌∙◌, ap, ℕ, max, List, true, Option, Some, None, refl, pos}
use Rattle.rr_bits.specs.Words.{number, select}
use Rattle.rr_syntax.specs.Tree.{Tree, Name, Literal, Bit as BitSelect, Part, Indexed, Unary, Binary, Cond, Concat, Repeat, Cast, Paren, Statement, Statements, Null, Block, If, IfElse, Case, Assign, For, Done, Then, bare, bare_value, bare_statement, bare_statements}
use Rattle.rr_expr.specs.Faults.{fault}
use Rattle.rr_expr.specs.Memories.{index_shape}
use Rattle.rr_expr.specs.Scopes.{Names, meant, entity_shape}
use Rattle.rr_expr.specs.Selects.{integer_with}
use Rattle.rr_expr.specs.Values.{nowhere}
use Rattle.rr_starts.specs.Starts.{start_of, constant_faults, whole_signal, started_word, set_at, set_target, started, all_started}
use Rattle.rr_declarations.specs.Declarations.{start_faults, start_or}
use Rattle.rr_token_numbers.proofs.Results.{BothNil, nil_answer}
use Rattle.rr_token_numbers.proofs.Shapes.{form-bare, value_path, fault_both}

pub constant_nil : (s : Names) (t : Tree) → BothNil (constant_faults s t) (constant_faults s (bare t))
constant_nil s t = nil_answer (fault s t true) (fault s (bare t) true) t (bare t) (fault_both s t true)

start_of-bare : (s : Names) (w : ℕ) (t : Tree) → start_of s w (bare t) ≡ start_of s w t
start_of-bare s w t = λ k. number (select (value_path s t k nowhere (max w (form-bare s t k).width) (form-bare s t k).signed) (pos 0) w)

-- of declarations

pub start_nil : (s : Names) (v : Option Tree) → BothNil (start_faults s v) (start_faults s (bare_value v))
unfolding bare_value
start_nil s None = tt
start_nil s (Some t) = constant_nil s t

pub start_or-bare : (s : Names) (w start : ℕ) (v : Option Tree) → start_or s w start (bare_value v) ≡ start_or s w start v
unfolding bare_value
start_or-bare s w start None = refl
start_or-bare s w start (Some t) = start_of-bare s w t

-- by `initial` items

set_target-bare : (s : Names) (x t : Tree) (starts : List ℕ) → set_target s (bare x) (bare t) starts ≡ set_target s x t starts
unfolding set_target bare
set_target-bare s (Name token name) t starts = ap (λ n. set_at (whole_signal (meant s name)) n starts) (start_of-bare s (entity_shape (meant s name)).width t)
set_target-bare s (Literal token n) t starts = refl
set_target-bare s (BitSelect token name i) t starts = λ k. set_at (started_word (meant s name) (integer_with (form-bare s i k) (value_path s i k nowhere))) (start_of-bare s (index_shape (meant s name)).width t k) starts
set_target-bare s (Part token name l r) t starts = refl
set_target-bare s (Indexed token name f n up) t starts = refl
set_target-bare s (Unary op a) t starts = refl
set_target-bare s (Binary op a b) t starts = refl
set_target-bare s (Cond a b c) t starts = refl
set_target-bare s (Concat ts) t starts = refl
set_target-bare s (Repeat n ts) t starts = refl
set_target-bare s (Cast signed a) t starts = refl
set_target-bare s (Paren a) t starts = refl

mutual
  unfolding started bare_statement

  pub started-bare : (s : Names) (a : Statement) (starts : List ℕ) → started s (bare_statement a) starts ≡ started s a starts
  started-bare s Null starts = refl
  started-bare s (Block label ss) starts = all_started-bare s ss starts
  started-bare s (If t a) starts = refl
  started-bare s (IfElse t a b) starts = refl
  started-bare s (Case kind t arms) starts = refl
  started-bare s (Assign x now t) starts = set_target-bare s x t starts
  started-bare s (For h a) starts = refl

  all_started-bare : (s : Names) (ss : Statements) (starts : List ℕ) → all_started s (bare_statements ss) starts ≡ all_started s ss starts
  all_started-bare s Done starts = refl
  all_started-bare s (Then a rest) starts = ap (λ z. all_started s (bare_statements rest) z) (started-bare s a starts) ∙ all_started-bare s rest (started s a starts)
