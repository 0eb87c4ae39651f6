-- clauses with the numbers of their places
use Rattle.std.proofs.Common.{◌≡◌, ℕ, ◌+◌, ◌-◌, ◌<◌, List, [], ◌∷◌, ◌++◌, length, get_or, take, sym, ◌∙◌, ap, arith}
use Rattle.std.specs.Prelude.{All, Some, slice_get}
use Rattle.std.proofs.lemmas.List.{take_more, length-take-le}
use Rattle.std.proofs.lemmas.List.Elements.{All-nil, All-cons}
use Rattle.std.proofs.lemmas.Option.{get_or_from_slice_get}
use Rattle.rr_cnf.specs.Clauses.{Literal}
use Rattle.rr_watch_lists.specs.Numbers.{Numbered, numbered_from}
use Rattle.rr_watch_lists.proofs.HandLaws.{numbered_push}

pub numbered_below : (n m : ℕ) (cs : List (List Literal)) → n + length cs ≡ m → All (λ x. x.id < m) (numbered_from n cs)
numbered_below n m [] e = All-nil (λ (x : Numbered). x.id < m)
numbered_below n m (c ∷ cs) e = All-cons (λ (x : Numbered). x.id < m) (record { id = n; clause = c }) (numbered_from (n + 1) cs) (omega arith) (numbered_below (n + 1) m cs (omega arith))

pub below_next : (cs : List (List Literal)) (i : ℕ) → i < length cs → All (λ x. x.id < i + 1) (numbered_from 1 (take i cs))
below_next cs i h = numbered_below 1 (i + 1) (take i cs) (omega (arith, length-take-le i cs (omega arith)))

pub numbered_more : (cs : List (List Literal)) (i : ℕ) (x : List Literal) → i < length cs → Some x ≡ slice_get cs (i + 1 - 1) → numbered_from 1 (take i cs) ++ record { id = i + 1; clause = x } ∷ [] ≡ numbered_from 1 (take (i + 1) cs)
numbered_more cs i x h s =
    let at : i + 1 - 1 ≡ i = omega arith in
    let read : get_or cs i x ≡ x = get_or_from_slice_get cs i x x (ap (slice_get cs) (sym at) ∙ sym s) in
    let n : i + 1 ≡ 1 + length (take i cs) = omega (arith, length-take-le i cs (omega arith)) in
    ap (λ k. numbered_from 1 (take i cs) ++ record { id = k; clause = x } ∷ []) n
    ∙ ap (λ y. numbered_from 1 (take i cs) ++ record { id = 1 + length (take i cs); clause = y } ∷ []) (sym read)
    ∙ sym (ap (numbered_from 1) (take_more cs i x h) ∙ numbered_push 1 (take i cs) (get_or cs i x))
