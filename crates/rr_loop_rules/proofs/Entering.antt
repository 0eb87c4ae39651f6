-- Going into a loop and out of it.
use Rattle.std.proofs.Common.{◌≡◌, ◌∙◌, sym, ap, ℕ, ◌+◌, ◌<◌, ◌≤◌, Bool, false, ◌||◌, List, [], ◌∷◌, ◌++◌, length, get_or, take, fold, Option, None, Some, refl, arith}
use Rattle.std.specs.Prelude.{option_to_list, MatchOption}
use Rattle.std.specs.Str.{bytes_eq}
use Rattle.std.proofs.lemmas.List.{take_more, take_all}
use Rattle.std.proofs.lemmas.List.Sums.{fold-append}
use Rattle.rr_flat.specs.Signals.{Text}
use Rattle.rr_loop_rules.specs.Rules.{contains}
use Rattle.rr_loop_rules.specs.View.{inside, outside, plain_around}
use denote.Ref.{Bor}

pub around_last : (xs : List (Bor Text)) (x : Bor Text) → plain_around (xs ++ x ∷ []) ≡ x.now ∷ plain_around xs
unfolding plain_around
around_last xs x = fold-append inside [] xs (x ∷ [])

-- whether a loop around has a name, one more at a time

pub there_none : (name : Text) (xs : List (Bor Text)) → false ≡ contains (plain_around (take 0 xs)) name
unfolding plain_around
there_none name [] = refl
there_none name (x ∷ xs) = refl

pub there_more : (name : Text) (xs : List (Bor Text)) (i : ℕ) (d : Bor Text) (old new : Bool) → i < length xs → old ≡ contains (plain_around (take i xs)) name → new ≡ (bytes_eq name (get_or xs i d).now || old)
    → new ≡ contains (plain_around (take (i + 1) xs)) name
there_more name xs i d old new l h k =
    k ∙ (ap (λ b. bytes_eq name (get_or xs i d).now || b) h ∙ sym (ap (λ ys. contains ys name) (ap plain_around (take_more xs i d l) ∙ around_last (take i xs) (get_or xs i d))))

pub there_all : (name : Text) (xs : List (Bor Text)) (i : ℕ) (there : Bool) → length xs ≤ i → there ≡ contains (plain_around (take i xs)) name → there ≡ contains (plain_around xs) name
there_all name xs i there l h = h ∙ ap (λ ys. contains (plain_around ys) name) (take_all i xs l)

-- the innermost loop is left
pub left : (xs ys : List (Bor Text)) (last : Option (Bor Text)) (m n : ℕ) → n ≡ length ys → xs ≡ ys ++ option_to_list last → MatchOption last ((m ≡ 0) × (n ≡ 0)) (λ _. n + 1 ≡ m)
    → plain_around ys ≡ outside (plain_around xs)
unfolding plain_around
left xs ys (Some x) m n l e k = sym (ap (λ zs. outside (plain_around zs)) e ∙ ap outside (around_last ys x))
left xs [] None m n l e k = sym (ap (λ zs. outside (plain_around zs)) e)
left xs (y ∷ ys) None m n l e k = absurd (omega (arith, l, k.1))
