-- What it means to put the values of a turn, and what putting them leaves as it is.
use Rattle.std.specs.Prelude.{◌≡◌, ℕ, Bool, List, [], length, None}
use Rattle.rr_syntax.specs.Tree.{Tree, Trees, bare, bare_parts}
use Rattle.rr_syntax.specs.Expressions.{spell, spell_parts, spell_more, level, depth, height, is_target, WellFormed, WellFormedParts, FitLiterals, FitLiteralsParts}
use Rattle.rr_expr.specs.declared.types.Bit.{Bit}
use Rattle.rr_expr.specs.Scopes.{Names, meant}
use Rattle.rr_expr.specs.Values.{form, widths, value, values}
use Rattle.rr_expr.specs.Faults.{first, first_part, fault, faults, fits, fit}
use Rattle.rr_expr.specs.Reading.{Occurs, OccursIn}
use Rattle.rr_loop_names.specs.Turns.{Turn, turned, put_tree, put_parts, put_target, put_targets, in_turn, HasNoBase, HaveNoBase, IsTurn}

-- a tree with the values of a turn has the shape, the value and the faults that the tree has in the scope of the turn
pub record PutMeans : Type 0 where
  pub shape : (turn : Turn) (s : Names) (t : Tree) → HasNoBase turn t → form s (put_tree turn t) ≡ form (in_turn turn s) t
  pub meaning : (turn : Turn) (s : Names) (t : Tree) → HasNoBase turn t → (env : Bit → Bool) (w : ℕ) (signed : Bool) → value s (put_tree turn t) env w signed ≡ value (in_turn turn s) t env w signed
  pub refusal : (turn : Turn) (s : Names) (t : Tree) → HasNoBase turn t → (constant : Bool) → fault s (put_tree turn t) constant ≡ fault (in_turn turn s) t constant
  pub fitting : (turn : Turn) (s : Names) (t : Tree) → HasNoBase turn t → fits s (put_tree turn t) ≡ fits (in_turn turn s) t
  pub part_widths : (turn : Turn) (s : Names) (ts : Trees) → HaveNoBase turn ts → widths s (put_parts turn ts) ≡ widths (in_turn turn s) ts
  pub part_meanings : (turn : Turn) (s : Names) (ts : Trees) → HaveNoBase turn ts → (env : Bit → Bool) → values s (put_parts turn ts) env ≡ values (in_turn turn s) ts env
  pub part_refusals : (turn : Turn) (s : Names) (ts : Trees) → HaveNoBase turn ts → (constant : Bool) → faults s (put_parts turn ts) constant ≡ faults (in_turn turn s) ts constant

-- it has as many tokens, the same first one, the same levels and depth, and is well-formed where the tree is
pub record PutKeeps : Type 0 where
  pub tokens : (turn : Turn) (t : Tree) → length (spell (put_tree turn t)) ≡ length (spell t)
  pub part_tokens : (turn : Turn) (ts : Trees) → length (spell_parts (put_parts turn ts)) ≡ length (spell_parts ts)
  pub more_tokens : (turn : Turn) (ts : Trees) → length (spell_more (put_parts turn ts)) ≡ length (spell_more ts)
  pub first_token : (turn : Turn) (t : Tree) → first (put_tree turn t) ≡ first t
  pub first_of_parts : (turn : Turn) (ts : Trees) → first_part (put_parts turn ts) ≡ first_part ts
  pub levels : (turn : Turn) (t : Tree) → level (put_tree turn t) ≡ level t
  pub depths : (turn : Turn) (t : Tree) → depth (put_tree turn t) ≡ depth t
  pub heights : (turn : Turn) (ts : Trees) → height (put_parts turn ts) ≡ height ts
  pub rules : (turn : Turn) (t : Tree) → WellFormed t → WellFormed (put_tree turn t)
  pub part_rules : (turn : Turn) (ts : Trees) → WellFormedParts ts → WellFormedParts (put_parts turn ts)
  pub literals : (turn : Turn) (t : Tree) → IsTurn turn → FitLiterals t → FitLiterals (put_tree turn t)
  pub part_literals : (turn : Turn) (ts : Trees) → IsTurn turn → FitLiteralsParts ts → FitLiteralsParts (put_parts turn ts)
  pub numbers : (turn : Turn) (t : Tree) → bare (put_tree turn t) ≡ put_tree turn (bare t)
  pub part_numbers : (turn : Turn) (ts : Trees) → bare_parts (put_parts turn ts) ≡ put_parts turn (bare_parts ts)

-- the same of targets
pub record PutKeepsTargets : Type 0 where
  pub targets : (turn : Turn) (t : Tree) → is_target (put_target turn t) ≡ is_target t
  pub tokens : (turn : Turn) (t : Tree) → length (spell (put_target turn t)) ≡ length (spell t)
  pub first_token : (turn : Turn) (t : Tree) → first (put_target turn t) ≡ first t
  pub depths : (turn : Turn) (t : Tree) → depth (put_target turn t) ≡ depth t
  pub rules : (turn : Turn) (t : Tree) → WellFormed t → WellFormed (put_target turn t)
  pub literals : (turn : Turn) (t : Tree) → IsTurn turn → FitLiterals t → FitLiterals (put_target turn t)
  pub numbers : (turn : Turn) (t : Tree) → bare (put_target turn t) ≡ put_target turn (bare t)

-- where no name of the turn stands in a tree, and so in no loop, it stays
pub record PutStays : Type 0 where
  pub alone : (t : Tree) → put_tree [] t ≡ t
  pub parts_alone : (ts : Trees) → put_parts [] ts ≡ ts
  pub target_alone : (t : Tree) → put_target [] t ≡ t
  pub unnamed : (turn : Turn) (t : Tree) → ((name : List ℕ) → Occurs t name → turned name turn ≡ None) → put_tree turn t ≡ t
  pub parts_unnamed : (turn : Turn) (ts : Trees) → ((name : List ℕ) → OccursIn ts name → turned name turn ≡ None) → put_parts turn ts ≡ ts
  pub target_unnamed : (turn : Turn) (t : Tree) → ((name : List ℕ) → Occurs t name → turned name turn ≡ None) → put_target turn t ≡ t
