-- trees that are one
use Rattle.std.proofs.Common.{◌≡◌, ℕ, ◌+◌, ◌<◌, List, [], ◌∷◌, ◌++◌, length, get_or, take, refl, ap, ◌∙◌, sym}
use Rattle.std.proofs.lemmas.List.{take_more}
use denote.Ref.{Bor}
use Rattle.rr_syntax.specs.declared.tree.Expr.{Expr, the_lemmas}
use Rattle.rr_syntax.specs.declared.tree.Expr.TheVariants as expr
use Rattle.rr_syntax.specs.declared.token.Number.{Number}
use Rattle.rr_syntax.specs.Tree.{Tree, Trees, Name, Literal, End, More}
use Rattle.rr_syntax.specs.View.{plain, plain_list}
use Rattle.rr_syntax.proofs.Rows.{plain_bit, plain_part, plain_indexed, plain_unary, plain_binary, plain_cond, plain_concat, plain_repeat, plain_cast, plain_paren}

pub plain_name : (token : ℕ) (name : Bor (List ℕ)) → plain (expr.Name token name) ≡ Name token name.now
unfolding plain
plain_name token name = refl

pub plain_literal : (token : ℕ) (n : Number) → plain (expr.Literal token n) ≡ Literal token n
unfolding plain
plain_literal token n = refl

pub ruleset sames = (the_lemmas, plain_name, plain_literal, plain_bit, plain_part, plain_indexed, plain_unary, plain_binary, plain_cond, plain_concat, plain_repeat, plain_cast, plain_paren)

parts : {t u : Tree} {ts us : Trees} → More t ts ≡ More u us → (t ≡ u) × (ts ≡ us)
parts h = (ap first_of h, ap rest_of h)
  where
    first_of : Trees → Tree
    first_of End = Name 0 []
    first_of (More t ts) = t

    rest_of : Trees → Trees
    rest_of End = End
    rest_of (More t ts) = ts

same_last : (xs bs : List Expr) (x y : Expr) → plain_list xs ≡ plain_list bs → plain x ≡ plain y → plain_list (xs ++ x ∷ []) ≡ plain_list (bs ++ y ∷ [])
unfolding plain_list
same_last [] [] x y h e = rw e refl
same_last [] (b ∷ bs) x y h e = cc
same_last (a ∷ xs) [] x y h e = cc
same_last (a ∷ xs) (b ∷ bs) x y h e = let p = parts h in rw (p.0, same_last xs bs x y p.1 e) refl

up_to : (es : List Expr) (i : ℕ) (e : Expr) → i < length es → e ≡ get_or es i e → take (i + 1) es ≡ take i es ++ e ∷ []
up_to es i e l x = take_more es i e l ∙ ap (λ (y : Expr). take i es ++ y ∷ []) (sym x)

pub same_next : (xs bs : List Expr) (i : ℕ) (x y : Expr) → i < length xs → i < length bs → x ≡ get_or xs i x → y ≡ get_or bs i y
    → plain_list (take i xs) ≡ plain_list (take i bs) → plain x ≡ plain y → plain_list (take (i + 1) xs) ≡ plain_list (take (i + 1) bs)
same_next xs bs i x y l m p q h e = rw (up_to xs i x l p, up_to bs i y m q) (same_last (take i xs) (take i bs) x y h e)
