-- What the values of a turn leave of targets as it is.
use Rattle.std.proofs.Common.{◌≡◌, ℕ, ◌+◌, ◌-◌, Bool, ◌&&◌, List, length, length-append, refl, sym, ap, subst, arith}
use Rattle.rr_syntax.specs.Tree.{Tree, Trees, Name, Literal, Bit, Part, Indexed, Unary, Binary, Cond, Concat, Repeat, Cast, Paren, End, More, bare, bare_parts}
use Rattle.rr_syntax.specs.Expressions.{spell, spell_parts, spell_more, depth, height, is_target, are_targets, WellFormed, WellFormedParts, WellFormedMore, FitLiterals, FitLiteralsParts}
use Rattle.rr_syntax.proofs.Equations.{spellings}
use Rattle.rr_expr.specs.Faults.{first, first_part}
use Rattle.rr_loop_names.specs.Turns.{Turn, put_tree, put_target, put_targets, IsTurn}
use Rattle.rr_loop_names.specs.Laws.{PutKeepsTargets}
use Rattle.rr_loop_names.proofs.Keeping.{first_put, size_put, depth_put, rules_put, literals_put, bare_put}

mutual
  unfolding is_target put_tree put_target

  pub target_put : (turn : Turn) (t : Tree) → is_target (put_target turn t) ≡ is_target t
  target_put turn (Name token x) = refl
  target_put turn (Literal token n) = refl
  target_put turn (Bit token x i) = refl
  target_put turn (Part token x l r) = refl
  target_put turn (Indexed token x f n up) = refl
  target_put turn (Unary op t) = refl
  target_put turn (Binary op l r) = refl
  target_put turn (Cond a b c) = refl
  target_put turn (Concat ts) = targets_put turn ts
  target_put turn (Repeat n ts) = refl
  target_put turn (Cast signed t) = refl
  target_put turn (Paren t) = refl

  targets_put : (turn : Turn) (ts : Trees) → are_targets (put_targets turn ts) ≡ are_targets ts
  targets_put turn End = refl
  targets_put turn (More t ts) = rw (target_put turn t, targets_put turn ts) refl

mutual
  unfolding first put_tree put_target

  pub first_target : (turn : Turn) (t : Tree) → first (put_target turn t) ≡ first t
  first_target turn (Name token x) = refl
  first_target turn (Literal token n) = first_put turn (Literal token n)
  first_target turn (Bit token x i) = first_put turn (Bit token x i)
  first_target turn (Part token x l r) = first_put turn (Part token x l r)
  first_target turn (Indexed token x f n up) = first_put turn (Indexed token x f n up)
  first_target turn (Unary op t) = first_put turn (Unary op t)
  first_target turn (Binary op l r) = first_put turn (Binary op l r)
  first_target turn (Cond a b c) = first_put turn (Cond a b c)
  first_target turn (Concat ts) = ap (λ n. n - 1) (first_targets turn ts)
  first_target turn (Repeat n ts) = first_put turn (Repeat n ts)
  first_target turn (Cast signed t) = first_put turn (Cast signed t)
  first_target turn (Paren t) = first_put turn (Paren t)

  first_targets : (turn : Turn) (ts : Trees) → first_part (put_targets turn ts) ≡ first_part ts
  first_targets turn End = refl
  first_targets turn (More t ts) = first_target turn t

mutual
  unfolding put_tree put_target

  pub size_target : (turn : Turn) (t : Tree) → length (spell (put_target turn t)) ≡ length (spell t)
  size_target turn (Name token x) = refl
  size_target turn (Literal token n) = size_put turn (Literal token n)
  size_target turn (Bit token x i) = size_put turn (Bit token x i)
  size_target turn (Part token x l r) = size_put turn (Part token x l r)
  size_target turn (Indexed token x f n up) = size_put turn (Indexed token x f n up)
  size_target turn (Unary op t) = size_put turn (Unary op t)
  size_target turn (Binary op l r) = size_put turn (Binary op l r)
  size_target turn (Cond a b c) = size_put turn (Cond a b c)
  size_target turn (Concat ts) = let q = size_targets turn ts in simp (spellings, length-append) (omega (arith, q))
  size_target turn (Repeat n ts) = size_put turn (Repeat n ts)
  size_target turn (Cast signed t) = size_put turn (Cast signed t)
  size_target turn (Paren t) = size_put turn (Paren t)

  size_targets : (turn : Turn) (ts : Trees) → length (spell_parts (put_targets turn ts)) ≡ length (spell_parts ts)
  size_targets turn End = refl
  size_targets turn (More t ts) = let p = size_target turn t in let q = size_more_targets turn ts in simp (spellings, length-append) (omega (arith, p, q))

  size_more_targets : (turn : Turn) (ts : Trees) → length (spell_more (put_targets turn ts)) ≡ length (spell_more ts)
  size_more_targets turn End = refl
  size_more_targets turn (More t ts) = let p = size_target turn t in let q = size_more_targets turn ts in simp (spellings, length-append) (omega (arith, p, q))

mutual
  unfolding depth put_tree put_target

  pub depth_target : (turn : Turn) (t : Tree) → depth (put_target turn t) ≡ depth t
  depth_target turn (Name token x) = refl
  depth_target turn (Literal token n) = depth_put turn (Literal token n)
  depth_target turn (Bit token x i) = depth_put turn (Bit token x i)
  depth_target turn (Part token x l r) = depth_put turn (Part token x l r)
  depth_target turn (Indexed token x f n up) = depth_put turn (Indexed token x f n up)
  depth_target turn (Unary op t) = depth_put turn (Unary op t)
  depth_target turn (Binary op l r) = depth_put turn (Binary op l r)
  depth_target turn (Cond a b c) = depth_put turn (Cond a b c)
  depth_target turn (Concat ts) = height_targets turn ts
  depth_target turn (Repeat n ts) = depth_put turn (Repeat n ts)
  depth_target turn (Cast signed t) = depth_put turn (Cast signed t)
  depth_target turn (Paren t) = depth_put turn (Paren t)

  height_targets : (turn : Turn) (ts : Trees) → height (put_targets turn ts) ≡ height ts
  height_targets turn End = refl
  height_targets turn (More t ts) = rw (depth_target turn t, height_targets turn ts) refl

mutual
  unfolding WellFormed put_tree put_target

  pub rules_target : (turn : Turn) (t : Tree) → WellFormed (put_target turn t) ≡ WellFormed t
  rules_target turn (Name token x) = refl
  rules_target turn (Literal token n) = rules_put turn (Literal token n)
  rules_target turn (Bit token x i) = rules_put turn (Bit token x i)
  rules_target turn (Part token x l r) = rules_put turn (Part token x l r)
  rules_target turn (Indexed token x f n up) = rules_put turn (Indexed token x f n up)
  rules_target turn (Unary op t) = rules_put turn (Unary op t)
  rules_target turn (Binary op l r) = rules_put turn (Binary op l r)
  rules_target turn (Cond a b c) = rules_put turn (Cond a b c)
  rules_target turn (Concat ts) = rules_targets turn ts
  rules_target turn (Repeat n ts) = rules_put turn (Repeat n ts)
  rules_target turn (Cast signed t) = rules_put turn (Cast signed t)
  rules_target turn (Paren t) = rules_put turn (Paren t)

  rules_targets : (turn : Turn) (ts : Trees) → WellFormedParts (put_targets turn ts) ≡ WellFormedParts ts
  rules_targets turn End = refl
  rules_targets turn (More t ts) = rw (rules_target turn t, rules_more_targets turn ts) refl

  rules_more_targets : (turn : Turn) (ts : Trees) → WellFormedMore (put_targets turn ts) ≡ WellFormedMore ts
  rules_more_targets turn End = refl
  rules_more_targets turn (More t ts) = rw (rules_target turn t, rules_more_targets turn ts) refl

mutual
  unfolding FitLiterals put_tree put_target

  pub literals_target : (turn : Turn) (t : Tree) → IsTurn turn → FitLiterals t → FitLiterals (put_target turn t)
  literals_target turn (Name token x) h f = f
  literals_target turn (Literal token n) h f = f
  literals_target turn (Bit token x i) h f = literals_put turn (Bit token x i) h f
  literals_target turn (Part token x l r) h f = literals_put turn (Part token x l r) h f
  literals_target turn (Indexed token x from n up) h f = literals_put turn (Indexed token x from n up) h f
  literals_target turn (Unary op t) h f = literals_put turn (Unary op t) h f
  literals_target turn (Binary op l r) h f = literals_put turn (Binary op l r) h f
  literals_target turn (Cond a b c) h f = literals_put turn (Cond a b c) h f
  literals_target turn (Concat ts) h f = literals_targets turn ts h f
  literals_target turn (Repeat n ts) h f = literals_put turn (Repeat n ts) h f
  literals_target turn (Cast signed t) h f = literals_put turn (Cast signed t) h f
  literals_target turn (Paren t) h f = literals_put turn (Paren t) h f

  literals_targets : (turn : Turn) (ts : Trees) → IsTurn turn → FitLiteralsParts ts → FitLiteralsParts (put_targets turn ts)
  literals_targets turn End h f = f
  literals_targets turn (More t ts) h f = (literals_target turn t h f.0, literals_targets turn ts h f.1)

mutual
  unfolding bare put_tree put_target

  pub bare_target : (turn : Turn) (t : Tree) → bare (put_target turn t) ≡ put_target turn (bare t)
  bare_target turn (Name token x) = refl
  bare_target turn (Literal token n) = bare_put turn (Literal token n)
  bare_target turn (Bit token x i) = bare_put turn (Bit token x i)
  bare_target turn (Part token x l r) = bare_put turn (Part token x l r)
  bare_target turn (Indexed token x f n up) = bare_put turn (Indexed token x f n up)
  bare_target turn (Unary op t) = bare_put turn (Unary op t)
  bare_target turn (Binary op l r) = bare_put turn (Binary op l r)
  bare_target turn (Cond a b c) = bare_put turn (Cond a b c)
  bare_target turn (Concat ts) = ap Concat (bare_targets turn ts)
  bare_target turn (Repeat n ts) = bare_put turn (Repeat n ts)
  bare_target turn (Cast signed t) = bare_put turn (Cast signed t)
  bare_target turn (Paren t) = bare_put turn (Paren t)

  bare_targets : (turn : Turn) (ts : Trees) → bare_parts (put_targets turn ts) ≡ put_targets turn (bare_parts ts)
  bare_targets turn End = refl
  bare_targets turn (More t ts) = rw (bare_target turn t, bare_targets turn ts) refl

-- equal facts follow from each other
follows : (P Q : Type 0) → P ≡ Q → Q → P
follows P Q e q = subst (λ (R : Type 0). R) (sym e) q

pub put_keeps_targets : PutKeepsTargets
put_keeps_targets = record {
  targets = target_put;
  tokens = size_target;
  first_token = first_target;
  depths = depth_target;
  rules = λ turn t. follows _ _ (rules_target turn t);
  literals = literals_target;
  numbers = bare_target;
}
