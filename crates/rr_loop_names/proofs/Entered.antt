-- A turn with one loop more.
use Rattle.std.proofs.Common.{◌≡◌, ◌∙◌, sym, ap, ℕ, ◌+◌, ◌<◌, ◌≤◌, Option, None, Some, cond, List, [], ◌∷◌, ◌++◌, length, get_or, take, fold, refl}
use Rattle.std.proofs.lemmas.List.{take_more, take_all}
use Rattle.std.proofs.lemmas.List.Sums.{fold-append}
use Rattle.std.specs.Str.{bytes_eq}
use Rattle.rr_loop_names.specs.declared.turns.TurnName.{TurnName}
use Rattle.rr_loop_names.specs.Turns.{turned}
use Rattle.rr_loop_names.specs.View.{entered, plain_turn}

pub turned_none : (name : List ℕ) (ns : List TurnName) → None ≡ turned name (plain_turn (take 0 ns))
unfolding turned plain_turn
turned_none name [] = refl
turned_none name (n ∷ ns) = refl

turn_last : (ns : List TurnName) (n : TurnName) → plain_turn (ns ++ n ∷ []) ≡ entered (plain_turn ns) n
unfolding plain_turn
turn_last ns n = fold-append entered [] ns (n ∷ [])

turn_next : (ns : List TurnName) (i : ℕ) (d : TurnName) → i < length ns → plain_turn (take (i + 1) ns) ≡ entered (plain_turn (take i ns)) (get_or ns i d)
turn_next ns i d l = ap plain_turn (take_more ns i d l) ∙ turn_last (take i ns) (get_or ns i d)

pub turned_more : (name : List ℕ) (ns : List TurnName) (i : ℕ) (d : TurnName) (old new : Option ℕ) → i < length ns → old ≡ turned name (plain_turn (take i ns)) → new ≡ cond (bytes_eq name (get_or ns i d).name.now) (Some (get_or ns i d).value) old
    → new ≡ turned name (plain_turn (take (i + 1) ns))
unfolding turned
turned_more name ns i d old new l h k =
    k ∙ (ap (λ o. cond (bytes_eq name (get_or ns i d).name.now) (Some (get_or ns i d).value) o) h ∙ sym (ap (turned name) (turn_next ns i d l)))

pub turned_all : (name : List ℕ) (ns : List TurnName) (i : ℕ) (value : Option ℕ) → length ns ≤ i → value ≡ turned name (plain_turn (take i ns)) → value ≡ turned name (plain_turn ns)
turned_all name ns i value l h = h ∙ ap (λ ms. turned name (plain_turn ms)) (take_all i ns l)
