-- Trees in which no name of a turn stands.
use Rattle.std.proofs.Common.{◌≡◌, ℕ, inl, inr, List, [], Option, None, refl, ap}
use Rattle.rr_syntax.specs.Tree.{Tree, Trees, Name, Literal, Bit, Part, Indexed, Unary, Binary, Cond, Concat, Repeat, Cast, Paren, End, More}
use Rattle.rr_expr.specs.Reading.{Occurs, OccursIn}
use Rattle.rr_loop_names.specs.Turns.{Turn, turned, put_name, put_tree, put_parts, put_target, put_targets}
use Rattle.rr_loop_names.specs.Laws.{PutStays}

module _ (turn : Turn) where
  mutual
    unfolding Occurs put_tree

    stays : (t : Tree) → ((name : List ℕ) → Occurs t name → turned name turn ≡ None) → put_tree turn t ≡ t
    stays (Name token x) h = ap (put_name token x) (h x refl)
    stays (Literal token n) h = refl
    stays (Bit token x i) h = ap (Bit token x) (stays i (λ n o. h n (inr o)))
    stays (Part token x l r) h = rw (stays l (λ n o. h n (inr (inl o))), stays r (λ n o. h n (inr (inr o)))) refl
    stays (Indexed token x f w up) h = rw (stays f (λ n o. h n (inr (inl o))), stays w (λ n o. h n (inr (inr o)))) refl
    stays (Unary op t) h = ap (Unary op) (stays t h)
    stays (Binary op l r) h = rw (stays l (λ n o. h n (inl o)), stays r (λ n o. h n (inr o))) refl
    stays (Cond a b c) h = rw (stays a (λ n o. h n (inl o)), stays b (λ n o. h n (inr (inl o))), stays c (λ n o. h n (inr (inr o)))) refl
    stays (Concat ts) h = ap Concat (parts_stay ts h)
    stays (Repeat w ts) h = rw (stays w (λ n o. h n (inl o)), parts_stay ts (λ n o. h n (inr o))) refl
    stays (Cast signed t) h = ap (Cast signed) (stays t h)
    stays (Paren t) h = ap Paren (stays t h)

    parts_stay : (ts : Trees) → ((name : List ℕ) → OccursIn ts name → turned name turn ≡ None) → put_parts turn ts ≡ ts
    parts_stay End h = refl
    parts_stay (More t ts) h = rw (stays t (λ n o. h n (inl o)), parts_stay ts (λ n o. h n (inr o))) refl

  mutual
    unfolding Occurs put_tree put_target

    target_stays : (t : Tree) → ((name : List ℕ) → Occurs t name → turned name turn ≡ None) → put_target turn t ≡ t
    target_stays (Name token x) h = refl
    target_stays (Literal token n) h = refl
    target_stays (Bit token x i) h = stays (Bit token x i) h
    target_stays (Part token x l r) h = stays (Part token x l r) h
    target_stays (Indexed token x f n up) h = stays (Indexed token x f n up) h
    target_stays (Unary op t) h = stays (Unary op t) h
    target_stays (Binary op l r) h = stays (Binary op l r) h
    target_stays (Cond a b c) h = stays (Cond a b c) h
    target_stays (Concat ts) h = ap Concat (targets_stay ts h)
    target_stays (Repeat n ts) h = stays (Repeat n ts) h
    target_stays (Cast signed t) h = stays (Cast signed t) h
    target_stays (Paren t) h = stays (Paren t) h

    targets_stay : (ts : Trees) → ((name : List ℕ) → OccursIn ts name → turned name turn ≡ None) → put_targets turn ts ≡ ts
    targets_stay End h = refl
    targets_stay (More t ts) h = rw (target_stays t (λ n o. h n (inl o)), targets_stay ts (λ n o. h n (inr o))) refl

-- outside every loop no name has a value
none_around : (name : List ℕ) → turned name [] ≡ None
unfolding turned
none_around name = refl

pub put_stays : PutStays
put_stays = record {
  alone = λ t. stays [] t (λ name o. none_around name);
  parts_alone = λ ts. parts_stay [] ts (λ name o. none_around name);
  target_alone = λ t. target_stays [] t (λ name o. none_around name);
  unnamed = stays;
  parts_unnamed = parts_stay;
  target_unnamed = target_stays;
}
