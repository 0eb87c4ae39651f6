-- A turn with one loop more, and the names of its loops.
use Rattle.std.proofs.Common.{◌≡◌, ◌∙◌, sym, ap, ℕ, ◌+◌, ◌<◌, ◌≤◌, List, [], ◌∷◌, ◌++◌, length, get_or, take, fold, refl, arith}
use Rattle.std.proofs.lemmas.List.{get_or_default, take_more, take_all}
use Rattle.std.proofs.lemmas.List.Sums.{fold-append}
use denote.Ref.{Bor}
use Rattle.rr_loop_names.specs.declared.turns.TurnName.{TurnName}
use Rattle.rr_loop_names.specs.View.{entered, plain_turn}
use Rattle.rr_loop_rules.specs.View as rules
use Rattle.rr_loop_rules.specs.View.{plain_around}
use Rattle.rr_unfold.specs.Unfold.{around}

pub turn_last : (ns : List TurnName) (n : TurnName) → plain_turn (ns ++ n ∷ []) ≡ entered (plain_turn ns) n
unfolding plain_turn
turn_last ns n = fold-append entered [] ns (n ∷ [])

around_last : (xs : List (Bor (List ℕ))) (x : Bor (List ℕ)) → plain_around (xs ++ x ∷ []) ≡ x.now ∷ plain_around xs
unfolding plain_around
around_last xs x = fold-append rules.inside [] xs (x ∷ [])

turn_next : (ns : List TurnName) (i : ℕ) (n : TurnName) → i < length ns → n ≡ get_or ns i n → plain_turn (take (i + 1) ns) ≡ entered (plain_turn (take i ns)) n
turn_next ns i n l e = ap plain_turn (take_more ns i n l ∙ ap (λ (m : TurnName). take i ns ++ m ∷ []) (sym e)) ∙ turn_last (take i ns) n

pub around_none : (xs : List (Bor (List ℕ))) (ns : List TurnName) → xs ≡ [] → plain_around xs ≡ around (plain_turn (take 0 ns))
unfolding plain_around plain_turn
around_none xs [] e = ap plain_around e
around_none xs (n ∷ ns) e = ap plain_around e

pub around_more : (xs zs : List (Bor (List ℕ))) (ns : List TurnName) (i : ℕ) (n : TurnName) → i < length ns → n ≡ get_or ns i n → plain_around xs ≡ around (plain_turn (take i ns)) → zs ≡ xs ++ n.name ∷ []
    → plain_around zs ≡ around (plain_turn (take (i + 1) ns))
around_more xs zs ns i n l e h z = ap plain_around z ∙ around_last xs n.name ∙ ap (λ w. n.name.now ∷ w) h ∙ sym (ap around (turn_next ns i n l e))

pub around_more_at : (xs zs : List (Bor (List ℕ))) (ns : List TurnName) (i : ℕ) (x : Bor (List ℕ)) → i < length ns → ((other : TurnName) → x ≡ (get_or ns i other).name) → plain_around xs ≡ around (plain_turn (take i ns)) → zs ≡ xs ++ x ∷ []
    → plain_around zs ≡ around (plain_turn (take (i + 1) ns))
around_more_at xs zs [] i x l e h z = absurd (omega arith)
around_more_at xs zs (m ∷ ms) i x l e h z =
    around_more xs zs (m ∷ ms) i (get_or (m ∷ ms) i m) l (get_or_default (m ∷ ms) i m (get_or (m ∷ ms) i m) l) h (z ∙ ap (λ y. xs ++ y ∷ []) (e m))

pub around_all : (xs : List (Bor (List ℕ))) (ns : List TurnName) (i : ℕ) → length ns ≤ i → plain_around xs ≡ around (plain_turn (take i ns)) → plain_around xs ≡ around (plain_turn ns)
around_all xs ns i l h = h ∙ ap (λ ms. around (plain_turn ms)) (take_all i ns l)
