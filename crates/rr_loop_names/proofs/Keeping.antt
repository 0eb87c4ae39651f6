-- What the values of a turn leave of trees as it is.
use Rattle.std.proofs.Common.{◌≡◌, ℕ, ◌+◌, ◌-◌, ◌<◌, ◌^◌, ◌==◌, Bool, true, false, cond, List, [], ◌∷◌, length, length-append, Option, None, Some, refl, sym, ◌∙◌, ap, ap₂, subst, arith}
use Rattle.std.specs.Str.{bytes_eq}
use Rattle.rr_syntax.specs.Tree.{Tree, Trees, Name, Literal, Bit, Part, Indexed, Unary, Binary, Cond, Concat, Repeat, Cast, Paren, End, More, bare, bare_parts}
use Rattle.rr_syntax.specs.Expressions.{spell, spell_parts, spell_more, level, depth, height, WellFormed, WellFormedParts, WellFormedMore, FitLiterals, FitLiteralsParts, primary_level}
use Rattle.rr_syntax.proofs.Equations.{spellings}
use Rattle.rr_expr.specs.Faults.{first, first_part}
use Rattle.rr_loop_names.specs.Turns.{Turn, turned, literal_of, put_name, put_tree, put_parts, IsTurn}
use Rattle.rr_loop_names.specs.Laws.{PutKeeps}

first_named : (token : ℕ) (x : List ℕ) (o : Option ℕ) → first (put_name token x o) ≡ token
unfolding first
first_named token x None = refl
first_named token x (Some v) = refl

mutual
  unfolding first put_tree

  pub first_put : (turn : Turn) (t : Tree) → first (put_tree turn t) ≡ first t
  first_put turn (Name token x) = first_named token x (turned x turn)
  first_put turn (Literal token n) = refl
  first_put turn (Bit token x i) = refl
  first_put turn (Part token x l r) = refl
  first_put turn (Indexed token x f n up) = refl
  first_put turn (Unary op t) = ap (λ n. n - 1) (first_put turn t)
  first_put turn (Binary op l r) = first_put turn l
  first_put turn (Cond a b c) = first_put turn a
  first_put turn (Concat ts) = ap (λ n. n - 1) (first_part_put turn ts)
  first_put turn (Repeat n ts) = ap (λ m. m - 1) (first_put turn n)
  first_put turn (Cast signed t) = ap (λ n. n - 2) (first_put turn t)
  first_put turn (Paren t) = ap (λ n. n - 1) (first_put turn t)

  pub first_part_put : (turn : Turn) (ts : Trees) → first_part (put_parts turn ts) ≡ first_part ts
  first_part_put turn End = refl
  first_part_put turn (More t ts) = first_put turn t

level_named : (token : ℕ) (x : List ℕ) (o : Option ℕ) → level (put_name token x o) ≡ primary_level
unfolding level
level_named token x None = refl
level_named token x (Some v) = refl

pub level_put : (turn : Turn) (t : Tree) → level (put_tree turn t) ≡ level t
unfolding level put_tree
level_put turn (Name token x) = level_named token x (turned x turn)
level_put turn (Literal token n) = refl
level_put turn (Bit token x i) = refl
level_put turn (Part token x l r) = refl
level_put turn (Indexed token x f n up) = refl
level_put turn (Unary op t) = refl
level_put turn (Binary op l r) = refl
level_put turn (Cond a b c) = refl
level_put turn (Concat ts) = refl
level_put turn (Repeat n ts) = refl
level_put turn (Cast signed t) = refl
level_put turn (Paren t) = refl

size_named : (token : ℕ) (x : List ℕ) (o : Option ℕ) → length (spell (put_name token x o)) ≡ length (spell (Name token x))
size_named token x None = refl
size_named token x (Some v) = simp spellings refl

mutual
  unfolding put_tree

  pub size_put : (turn : Turn) (t : Tree) → length (spell (put_tree turn t)) ≡ length (spell t)
  size_put turn (Name token x) = size_named token x (turned x turn)
  size_put turn (Literal token n) = refl
  size_put turn (Bit token x i) = let p0 = size_put turn i in simp (spellings, length-append) (omega (arith, p0))
  size_put turn (Part token x l r) = let p0 = size_put turn l in let p1 = size_put turn r in simp (spellings, length-append) (omega (arith, p0, p1))
  size_put turn (Indexed token x f n up) = let p0 = size_put turn f in let p1 = size_put turn n in simp (spellings, length-append) (omega (arith, p0, p1))
  size_put turn (Unary op t) = let p0 = size_put turn t in simp spellings (omega (arith, p0))
  size_put turn (Binary op l r) = let p0 = size_put turn l in let p1 = size_put turn r in simp (spellings, length-append) (omega (arith, p0, p1))
  size_put turn (Cond a b c) = let p0 = size_put turn a in let p1 = size_put turn b in let p2 = size_put turn c in simp (spellings, length-append) (omega (arith, p0, p1, p2))
  size_put turn (Concat ts) = let q = size_parts_put turn ts in simp (spellings, length-append) (omega (arith, q))
  size_put turn (Repeat n ts) = let p0 = size_put turn n in let q = size_parts_put turn ts in simp (spellings, length-append) (omega (arith, p0, q))
  size_put turn (Cast signed t) = let p0 = size_put turn t in simp (spellings, length-append) (omega (arith, p0))
  size_put turn (Paren t) = let p0 = size_put turn t in simp (spellings, length-append) (omega (arith, p0))

  pub size_parts_put : (turn : Turn) (ts : Trees) → length (spell_parts (put_parts turn ts)) ≡ length (spell_parts ts)
  size_parts_put turn End = refl
  size_parts_put turn (More t ts) = let p = size_put turn t in let q = size_more_put turn ts in simp (spellings, length-append) (omega (arith, p, q))

  pub size_more_put : (turn : Turn) (ts : Trees) → length (spell_more (put_parts turn ts)) ≡ length (spell_more ts)
  size_more_put turn End = refl
  size_more_put turn (More t ts) = let p = size_put turn t in let q = size_more_put turn ts in simp (spellings, length-append) (omega (arith, p, q))

depth_named : (token : ℕ) (x : List ℕ) (o : Option ℕ) → depth (put_name token x o) ≡ 0
unfolding depth
depth_named token x None = refl
depth_named token x (Some v) = refl

mutual
  unfolding depth put_tree

  pub depth_put : (turn : Turn) (t : Tree) → depth (put_tree turn t) ≡ depth t
  depth_put turn (Name token x) = depth_named token x (turned x turn)
  depth_put turn (Literal token n) = refl
  depth_put turn (Bit token x i) = rw (depth_put turn i) refl
  depth_put turn (Part token x l r) = rw (depth_put turn l, depth_put turn r) refl
  depth_put turn (Indexed token x f n up) = rw (depth_put turn f, depth_put turn n) refl
  depth_put turn (Unary op t) = rw (depth_put turn t) refl
  depth_put turn (Binary op l r) = rw (depth_put turn l, depth_put turn r) refl
  depth_put turn (Cond a b c) = rw (depth_put turn a, depth_put turn b, depth_put turn c) refl
  depth_put turn (Concat ts) = height_put turn ts
  depth_put turn (Repeat n ts) = rw (depth_put turn n, height_put turn ts) refl
  depth_put turn (Cast signed t) = rw (depth_put turn t) refl
  depth_put turn (Paren t) = rw (depth_put turn t) refl

  pub height_put : (turn : Turn) (ts : Trees) → height (put_parts turn ts) ≡ height ts
  height_put turn End = refl
  height_put turn (More t ts) = rw (depth_put turn t, height_put turn ts) refl

rules_named : (token : ℕ) (x : List ℕ) (o : Option ℕ) → WellFormed (put_name token x o) ≡ Unit {0}
unfolding WellFormed
rules_named token x None = refl
rules_named token x (Some v) = refl

mutual
  unfolding WellFormed put_tree

  pub rules_put : (turn : Turn) (t : Tree) → WellFormed (put_tree turn t) ≡ WellFormed t
  rules_put turn (Name token x) = rules_named token x (turned x turn)
  rules_put turn (Literal token n) = refl
  rules_put turn (Bit token x i) = rules_put turn i
  rules_put turn (Part token x l r) = rw (rules_put turn l, rules_put turn r) refl
  rules_put turn (Indexed token x f n up) = rw (rules_put turn f, rules_put turn n) refl
  rules_put turn (Unary op t) = rw (rules_put turn t, level_put turn t) refl
  rules_put turn (Binary op l r) = rw (rules_put turn l, rules_put turn r, level_put turn l, level_put turn r) refl
  rules_put turn (Cond a b c) = rw (rules_put turn a, rules_put turn b, rules_put turn c, level_put turn a) refl
  rules_put turn (Concat ts) = rules_parts_put turn ts
  rules_put turn (Repeat n ts) = rw (rules_put turn n, rules_parts_put turn ts) refl
  rules_put turn (Cast signed t) = rules_put turn t
  rules_put turn (Paren t) = rules_put turn t

  pub rules_parts_put : (turn : Turn) (ts : Trees) → WellFormedParts (put_parts turn ts) ≡ WellFormedParts ts
  rules_parts_put turn End = refl
  rules_parts_put turn (More t ts) = rw (rules_put turn t, rules_more_put turn ts) refl

  pub rules_more_put : (turn : Turn) (ts : Trees) → WellFormedMore (put_parts turn ts) ≡ WellFormedMore ts
  rules_more_put turn End = refl
  rules_more_put turn (More t ts) = rw (rules_put turn t, rules_more_put turn ts) refl

-- equal facts follow from each other
follows : (P Q : Type 0) → P ≡ Q → Q → P
follows P Q e q = subst (λ (R : Type 0). R) (sym e) q

-- a value of a turn has 32 bits
value_fits : (turn : Turn) → IsTurn turn → (x : List ℕ) (v : ℕ) → turned x turn ≡ Some v → v < 4294967296
unfolding turned IsTurn
value_fits [] h x v e = cc
value_fits (n ∷ ns) h x v e = go (bytes_eq x n.0) (value_fits ns h.1 x v) e
  where
    value_or : Option ℕ → ℕ
    value_or None = 0
    value_or (Some m) = m

    go : (b : Bool) → (turned x ns ≡ Some v → v < 4294967296) → cond b (Some n.1) (turned x ns) ≡ Some v → v < 4294967296
    go true later f = subst (λ m. m < 4294967296) (ap value_or f) h.0
    go false later f = later f

literal_named : (token : ℕ) (x : List ℕ) (o : Option ℕ) → ((v : ℕ) → o ≡ Some v → v < 4294967296) → FitLiterals (put_name token x o)
unfolding FitLiterals
literal_named token x None h = tt
literal_named token x (Some v) h = let l = h v refl in record { some = omega arith; wide = omega arith; value = omega (arith, l); any = omega arith; unknown = omega arith }

mutual
  unfolding FitLiterals put_tree

  pub literals_put : (turn : Turn) (t : Tree) → IsTurn turn → FitLiterals t → FitLiterals (put_tree turn t)
  literals_put turn (Name token x) h f = literal_named token x (turned x turn) (value_fits turn h x)
  literals_put turn (Literal token n) h f = f
  literals_put turn (Bit token x i) h f = literals_put turn i h f
  literals_put turn (Part token x l r) h f = (literals_put turn l h f.0, literals_put turn r h f.1)
  literals_put turn (Indexed token x from n up) h f = (literals_put turn from h f.0, literals_put turn n h f.1)
  literals_put turn (Unary op t) h f = literals_put turn t h f
  literals_put turn (Binary op l r) h f = (literals_put turn l h f.0, literals_put turn r h f.1)
  literals_put turn (Cond a b c) h f = (literals_put turn a h f.0, literals_put turn b h f.1, literals_put turn c h f.2)
  literals_put turn (Concat ts) h f = literals_parts_put turn ts h f
  literals_put turn (Repeat n ts) h f = (literals_put turn n h f.0, literals_parts_put turn ts h f.1)
  literals_put turn (Cast signed t) h f = literals_put turn t h f
  literals_put turn (Paren t) h f = literals_put turn t h f

  pub literals_parts_put : (turn : Turn) (ts : Trees) → IsTurn turn → FitLiteralsParts ts → FitLiteralsParts (put_parts turn ts)
  literals_parts_put turn End h f = f
  literals_parts_put turn (More t ts) h f = (literals_put turn t h f.0, literals_parts_put turn ts h f.1)

bare_named : (token : ℕ) (x : List ℕ) (o : Option ℕ) → bare (put_name token x o) ≡ put_name 0 x o
unfolding bare
bare_named token x None = refl
bare_named token x (Some v) = refl

mutual
  unfolding bare put_tree

  pub bare_put : (turn : Turn) (t : Tree) → bare (put_tree turn t) ≡ put_tree turn (bare t)
  bare_put turn (Name token x) = bare_named token x (turned x turn)
  bare_put turn (Literal token n) = refl
  bare_put turn (Bit token x i) = ap (Bit 0 x) (bare_put turn i)
  bare_put turn (Part token x l r) = rw (bare_put turn l, bare_put turn r) refl
  bare_put turn (Indexed token x f n up) = rw (bare_put turn f, bare_put turn n) refl
  bare_put turn (Unary op t) = ap (Unary op) (bare_put turn t)
  bare_put turn (Binary op l r) = rw (bare_put turn l, bare_put turn r) refl
  bare_put turn (Cond a b c) = rw (bare_put turn a, bare_put turn b, bare_put turn c) refl
  bare_put turn (Concat ts) = ap Concat (bare_parts_put turn ts)
  bare_put turn (Repeat n ts) = rw (bare_put turn n, bare_parts_put turn ts) refl
  bare_put turn (Cast signed t) = ap (Cast signed) (bare_put turn t)
  bare_put turn (Paren t) = ap Paren (bare_put turn t)

  pub bare_parts_put : (turn : Turn) (ts : Trees) → bare_parts (put_parts turn ts) ≡ put_parts turn (bare_parts ts)
  bare_parts_put turn End = refl
  bare_parts_put turn (More t ts) = rw (bare_put turn t, bare_parts_put turn ts) refl

pub put_keeps : PutKeeps
put_keeps = record {
  tokens = size_put;
  part_tokens = size_parts_put;
  more_tokens = size_more_put;
  first_token = first_put;
  first_of_parts = first_part_put;
  levels = level_put;
  depths = depth_put;
  heights = height_put;
  rules = λ turn t. follows _ _ (rules_put turn t);
  part_rules = λ turn ts. follows _ _ (rules_parts_put turn ts);
  literals = literals_put;
  part_literals = literals_parts_put;
  numbers = bare_put;
  part_numbers = bare_parts_put;
}
