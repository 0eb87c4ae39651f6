-- Bits that are noted no more.
use Rattle.std.proofs.Common.{◌≡◌, ◌∙◌, sym, ap, ℕ, ◌+◌, ◌<◌, Bool, true, false, ◌||◌, List, [], ◌∷◌, length, take, get_or, cond, refl}
use Rattle.std.proofs.lemmas.List.{take_more}
use Rattle.rr_expr.specs.declared.types.Bit.{Bit}
use Rattle.rr_flat.specs.Targets.{same_bit}
use Rattle.rr_latch.specs.Paths.{listed}
use Rattle.rr_latch.proofs.Logs.{listed-append}

pub forgot : (xs : List Bit) (i : ℕ) (d : Bit) (old mid new : Bit → Bool) → i < length xs → ((b : Bit) → mid b ≡ (old b || listed (take i xs) b)) → ((b : Bit) → new b ≡ cond (same_bit (get_or xs i d) b) true (mid b))
    → (b : Bit) → new b ≡ (old b || listed (take (i + 1) xs) b)
unfolding listed
forgot xs i d old mid new l e t b =
    let x = get_or xs i d in
    t b ∙ (ap (cond (same_bit x b) true) (e b) ∙ (go (old b) (listed (take i xs) b) (same_bit x b)
    ∙ sym (ap (λ z. old b || listed z b) (take_more xs i d l) ∙ ap (λ z. old b || z) (listed-append (take i xs) (x ∷ []) b))))
  where
    go : (o k s : Bool) → cond s true (o || k) ≡ (o || (k || (s || false)))
    go true k true = refl
    go true k false = refl
    go false true true = refl
    go false true false = refl
    go false false true = refl
    go false false false = refl

pub forgot_none : (o : Bool) → o ≡ (o || false)
forgot_none true = refl
forgot_none false = refl
