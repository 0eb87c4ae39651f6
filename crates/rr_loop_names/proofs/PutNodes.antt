-- Trees and targets with the values of a turn, at nodes of the arena and over slices.
use Rattle.std.proofs.Common.{◌≡◌, ℕ, ◌+◌, ◌<◌, Bool, List, [], ◌∷◌, ◌++◌, length, get_or, take, refl, sym, ◌∙◌, ap, ap₂}
use Rattle.std.proofs.lemmas.List.{take_more}
use denote.Ref.{Bor}
use Rattle.rr_syntax.specs.declared.token.Mark.{Mark}
use Rattle.rr_syntax.specs.declared.token.Number.{Number}
use Rattle.rr_syntax.specs.declared.tree.Expr.{Expr, the_lemmas}
use Rattle.rr_syntax.specs.declared.tree.Expr.TheVariants as expr
use Rattle.rr_syntax.specs.Tree.{Tree, Trees, Bit, Part, Indexed, Unary, Binary, Cond, Concat, Repeat, Cast, Paren, End, More}
use Rattle.rr_syntax.specs.View.{plain, plain_list}
use Rattle.rr_syntax.proofs.Rows.{plain_concat, plain_repeat}
use Rattle.rr_loop_names.specs.Turns.{Turn, turned, put_name, put_tree, put_parts, put_target, put_targets}

module _ (turn : Turn) where
  pub put-Name : (token : ℕ) (x : Bor (List ℕ)) → put_tree turn (plain (expr.Name token x)) ≡ put_name token x.now (turned x.now turn)
  unfolding plain put_tree
  put-Name token x = refl

  pub put-Literal : (token : ℕ) (n : Number) → put_tree turn (plain (expr.Literal token n)) ≡ plain (expr.Literal token n)
  unfolding plain put_tree
  put-Literal token n = refl

  pub put-Bit : (token : ℕ) (x : Bor (List ℕ)) (i : Bor Expr) → put_tree turn (plain (expr.Bit token x i)) ≡ Bit token x.now (put_tree turn (plain i.now))
  unfolding plain put_tree
  put-Bit token x i = refl

  pub put-Part : (token : ℕ) (x : Bor (List ℕ)) (l r : Bor Expr) → put_tree turn (plain (expr.Part token x l r)) ≡ Part token x.now (put_tree turn (plain l.now)) (put_tree turn (plain r.now))
  unfolding plain put_tree
  put-Part token x l r = refl

  pub put-Indexed : (token : ℕ) (x : Bor (List ℕ)) (f n : Bor Expr) (up : Bool) → put_tree turn (plain (expr.Indexed token x f n up)) ≡ Indexed token x.now (put_tree turn (plain f.now)) (put_tree turn (plain n.now)) up
  unfolding plain put_tree
  put-Indexed token x f n up = refl

  pub put-Unary : (op : Mark) (e : Bor Expr) → put_tree turn (plain (expr.Unary op e)) ≡ Unary op.0 (put_tree turn (plain e.now))
  unfolding plain put_tree
  put-Unary op e = refl

  pub put-Binary : (op : Mark) (l r : Bor Expr) → put_tree turn (plain (expr.Binary op l r)) ≡ Binary op.0 (put_tree turn (plain l.now)) (put_tree turn (plain r.now))
  unfolding plain put_tree
  put-Binary op l r = refl

  pub put-Cond : (a b c : Bor Expr) → put_tree turn (plain (expr.Cond a b c)) ≡ Cond (put_tree turn (plain a.now)) (put_tree turn (plain b.now)) (put_tree turn (plain c.now))
  unfolding plain put_tree
  put-Cond a b c = refl

  pub put-Concat : (parts : Bor (List Expr)) → put_tree turn (plain (expr.Concat parts)) ≡ Concat (put_parts turn (plain_list parts.now))
  unfolding put_tree
  put-Concat parts = ap (put_tree turn) (plain_concat parts)

  pub put-Repeat : (n : Bor Expr) (parts : Bor (List Expr)) → put_tree turn (plain (expr.Repeat n parts)) ≡ Repeat (put_tree turn (plain n.now)) (put_parts turn (plain_list parts.now))
  unfolding put_tree
  put-Repeat n parts = ap (put_tree turn) (plain_repeat n parts)

  pub put-Cast : (signed : Bool) (e : Bor Expr) → put_tree turn (plain (expr.Cast signed e)) ≡ Cast signed (put_tree turn (plain e.now))
  unfolding plain put_tree
  put-Cast signed e = refl

  pub put-Paren : (e : Bor Expr) → put_tree turn (plain (expr.Paren e)) ≡ Paren (put_tree turn (plain e.now))
  unfolding plain put_tree
  put-Paren e = refl

  pub aimed-Name : (token : ℕ) (x : Bor (List ℕ)) → put_target turn (plain (expr.Name token x)) ≡ plain (expr.Name token x)
  unfolding plain put_tree put_target
  aimed-Name token x = refl

  pub aimed-Literal : (token : ℕ) (n : Number) → put_target turn (plain (expr.Literal token n)) ≡ put_tree turn (plain (expr.Literal token n))
  unfolding plain put_tree put_target
  aimed-Literal token n = refl

  pub aimed-Bit : (token : ℕ) (x : Bor (List ℕ)) (i : Bor Expr) → put_target turn (plain (expr.Bit token x i)) ≡ put_tree turn (plain (expr.Bit token x i))
  unfolding plain put_tree put_target
  aimed-Bit token x i = refl

  pub aimed-Part : (token : ℕ) (x : Bor (List ℕ)) (l r : Bor Expr) → put_target turn (plain (expr.Part token x l r)) ≡ put_tree turn (plain (expr.Part token x l r))
  unfolding plain put_tree put_target
  aimed-Part token x l r = refl

  pub aimed-Indexed : (token : ℕ) (x : Bor (List ℕ)) (f n : Bor Expr) (up : Bool) → put_target turn (plain (expr.Indexed token x f n up)) ≡ put_tree turn (plain (expr.Indexed token x f n up))
  unfolding plain put_tree put_target
  aimed-Indexed token x f n up = refl

  pub aimed-Unary : (op : Mark) (e : Bor Expr) → put_target turn (plain (expr.Unary op e)) ≡ put_tree turn (plain (expr.Unary op e))
  unfolding plain put_tree put_target
  aimed-Unary op e = refl

  pub aimed-Binary : (op : Mark) (l r : Bor Expr) → put_target turn (plain (expr.Binary op l r)) ≡ put_tree turn (plain (expr.Binary op l r))
  unfolding plain put_tree put_target
  aimed-Binary op l r = refl

  pub aimed-Cond : (a b c : Bor Expr) → put_target turn (plain (expr.Cond a b c)) ≡ put_tree turn (plain (expr.Cond a b c))
  unfolding plain put_tree put_target
  aimed-Cond a b c = refl

  pub aimed-Concat : (parts : Bor (List Expr)) → put_target turn (plain (expr.Concat parts)) ≡ Concat (put_targets turn (plain_list parts.now))
  unfolding put_target
  aimed-Concat parts = ap (put_target turn) (plain_concat parts)

  pub aimed-Repeat : (n : Bor Expr) (parts : Bor (List Expr)) → put_target turn (plain (expr.Repeat n parts)) ≡ put_tree turn (plain (expr.Repeat n parts))
  unfolding plain put_tree put_target
  aimed-Repeat n parts = refl

  pub aimed-Cast : (signed : Bool) (e : Bor Expr) → put_target turn (plain (expr.Cast signed e)) ≡ put_tree turn (plain (expr.Cast signed e))
  unfolding plain put_tree put_target
  aimed-Cast signed e = refl

  pub aimed-Paren : (e : Bor Expr) → put_target turn (plain (expr.Paren e)) ≡ put_tree turn (plain (expr.Paren e))
  unfolding plain put_tree put_target
  aimed-Paren e = refl

pub ruleset put_nodes = (the_lemmas, put-Name, put-Literal, put-Bit, put-Part, put-Indexed, put-Unary, put-Binary, put-Cond, put-Concat, put-Repeat, put-Cast, put-Paren)

pub ruleset target_nodes = (the_lemmas, aimed-Name, aimed-Literal, aimed-Bit, aimed-Part, aimed-Indexed, aimed-Unary, aimed-Binary, aimed-Cond, aimed-Concat, aimed-Repeat, aimed-Cast, aimed-Paren)

-- one part more

last_part : Trees → Tree → Trees
last_part End t = More t End
last_part (More u us) t = More u (last_part us t)

list_snoc : (xs : List Expr) (e : Expr) → plain_list (xs ++ e ∷ []) ≡ last_part (plain_list xs) (plain e)
unfolding plain_list last_part
list_snoc [] e = refl
list_snoc (x ∷ xs) e = ap (More (plain x)) (list_snoc xs e)

up_to : (xs : List Expr) (i : ℕ) (x : Expr) → i < length xs → x ≡ get_or xs i x → take (i + 1) xs ≡ take i xs ++ x ∷ []
up_to xs i x l e = take_more xs i x l ∙ ap (λ (y : Expr). take i xs ++ y ∷ []) (sym e)

module _ (turn : Turn) where
  parts_last : (ts : Trees) (t : Tree) → put_parts turn (last_part ts t) ≡ last_part (put_parts turn ts) (put_tree turn t)
  unfolding put_tree last_part
  parts_last End t = refl
  parts_last (More u us) t = ap (More (put_tree turn u)) (parts_last us t)

  pub parts_none : (xs : List Expr) → xs ≡ [] → plain_list xs ≡ put_parts turn (plain_list [])
  unfolding plain_list put_tree
  parts_none xs e = ap plain_list e

  pub parts_more : (xs zs ys : List Expr) (i : ℕ) (e new : Expr) → i < length ys → e ≡ get_or ys i e → plain_list xs ≡ put_parts turn (plain_list (take i ys)) → plain new ≡ put_tree turn (plain e) → zs ≡ xs ++ new ∷ []
      → plain_list zs ≡ put_parts turn (plain_list (take (i + 1) ys))
  parts_more xs zs ys i e new l is h n z =
      ap plain_list z ∙ list_snoc xs new ∙ ap₂ last_part h n ∙ sym (parts_last (plain_list (take i ys)) (plain e)) ∙ ap (put_parts turn) (sym (list_snoc (take i ys) e) ∙ ap plain_list (sym (up_to ys i e l is)))

  targets_last : (ts : Trees) (t : Tree) → put_targets turn (last_part ts t) ≡ last_part (put_targets turn ts) (put_target turn t)
  unfolding put_target last_part
  targets_last End t = refl
  targets_last (More u us) t = ap (More (put_target turn u)) (targets_last us t)

  pub targets_none : (xs : List Expr) → xs ≡ [] → plain_list xs ≡ put_targets turn (plain_list [])
  unfolding plain_list put_target
  targets_none xs e = ap plain_list e

  pub targets_more : (xs zs ys : List Expr) (i : ℕ) (e new : Expr) → i < length ys → e ≡ get_or ys i e → plain_list xs ≡ put_targets turn (plain_list (take i ys)) → plain new ≡ put_target turn (plain e) → zs ≡ xs ++ new ∷ []
      → plain_list zs ≡ put_targets turn (plain_list (take (i + 1) ys))
  targets_more xs zs ys i e new l is h n z =
      ap plain_list z ∙ list_snoc xs new ∙ ap₂ last_part h n ∙ sym (targets_last (plain_list (take i ys)) (plain e)) ∙ ap (put_targets turn) (sym (list_snoc (take i ys) e) ∙ ap plain_list (sym (up_to ys i e l is)))
