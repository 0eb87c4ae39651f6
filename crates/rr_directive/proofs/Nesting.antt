-- The openings that are left, of which the first that is not closed is the outermost.
use Rattle.std.proofs.Common.{ℕ, suc, ◌≡◌, ◌+◌, ◌-◌, List, [], ◌∷◌, ◌++◌, length, take, Bool, true, false, not, ◌&&◌, ◌==◌, Option, Some, if◌then◌else◌, refl, ap, ◌∙◌, sym, arith, inl, inr}
use Rattle.std.specs.List.{slice_get}
use Rattle.std.proofs.lemmas.List.{length_push}
use Rattle.std.proofs.lemmas.Bool.{cases_Bool}
use Rattle.std.proofs.lemmas.Bool.Decides.{nat_tests}
use Rattle.rr_directive.specs.Pieces.{TextUnit}
use Rattle.rr_directive.specs.Expand.{closes, first_unclosed, is_endif, is_opening}

-- the first opening that is not closed by these units, of those that are pending, the innermost last, and those among the units
unfoldable pub first_of : List ℕ → List TextUnit → Option ℕ
first_of [] us = first_unclosed us
first_of (p ∷ ps) us = if closes (length ps) us then first_of ps us else Some p

pub none_pending : (us : List TextUnit) → first_of [] us ≡ first_unclosed us
unfolding first_of
none_pending us = refl

closes_opening : (n : ℕ) (u : TextUnit) (us : List TextUnit) → is_opening u.piece.kind ≡ true → closes n (u ∷ us) ≡ closes (n + 1) us
unfolding closes
closes_opening n u us h = rw h refl

closes_inner : (n : ℕ) (u : TextUnit) (us : List TextUnit) → is_opening u.piece.kind ≡ false → is_endif u.piece.kind ≡ true → closes (suc n) (u ∷ us) ≡ closes n us
unfolding closes
closes_inner n u us h k = let e : suc n - 1 ≡ n = omega arith in let z : (suc n == 0) ≡ false = grind (arith, nat_tests) in rw (h, k) (rw (z, e) refl)

closes_last : (u : TextUnit) (us : List TextUnit) → is_opening u.piece.kind ≡ false → is_endif u.piece.kind ≡ true → closes 0 (u ∷ us) ≡ true
unfolding closes
closes_last u us h k = rw (h, k) refl

closes_other : (n : ℕ) (u : TextUnit) (us : List TextUnit) → is_opening u.piece.kind ≡ false → is_endif u.piece.kind ≡ false → closes n (u ∷ us) ≡ closes n us
unfolding closes
closes_other n u us h k = rw (h, k) refl

first_opening : (u : TextUnit) (us : List TextUnit) → is_opening u.piece.kind ≡ true → first_unclosed (u ∷ us) ≡ (if closes 0 us then first_unclosed us else Some u.at)
unfolding first_unclosed
first_opening u us h = rw h (go (closes 0 us))
  where
    go : (b : Bool) → (if true && not b then Some u.at else first_unclosed us) ≡ (if b then first_unclosed us else Some u.at)
    go true = refl
    go false = refl

first_other : (u : TextUnit) (us : List TextUnit) → is_opening u.piece.kind ≡ false → first_unclosed (u ∷ us) ≡ first_unclosed us
unfolding first_unclosed
first_other u us h = rw h refl

pub on_opening : (ps : List ℕ) (u : TextUnit) (us : List TextUnit) → is_opening u.piece.kind ≡ true → first_of ps (u ∷ us) ≡ first_of (ps ++ (u.at ∷ [])) us
unfolding first_of
on_opening [] u us h = first_opening u us h
on_opening (p ∷ ps) u us h =
    let n : length ps + 1 ≡ length (ps ++ (u.at ∷ [])) = sym (length_push ps u.at) in
    let e : closes (length ps) (u ∷ us) ≡ closes (length (ps ++ (u.at ∷ []))) us = closes_opening (length ps) u us h ∙ ap (λ (m : ℕ). closes m us) n in
    ap (λ (b : Bool). if b then first_of ps (u ∷ us) else Some p) e ∙ ap (λ (o : Option ℕ). if closes (length (ps ++ (u.at ∷ []))) us then o else Some p) (on_opening ps u us h)

length_init : (q : ℕ) (ps : List ℕ) → length (take (length (q ∷ ps) - 1) (q ∷ ps)) ≡ length ps
length_init q [] = refl
length_init q (p ∷ ps) = let e : length (q ∷ (p ∷ ps)) - 1 ≡ suc (length (p ∷ ps) - 1) = omega arith in rw e (ap suc (length_init p ps))

init_more : (p q : ℕ) (ps : List ℕ) → take (length (p ∷ (q ∷ ps)) - 1) (p ∷ (q ∷ ps)) ≡ p ∷ take (length (q ∷ ps) - 1) (q ∷ ps)
init_more p q ps = let e : length (p ∷ (q ∷ ps)) - 1 ≡ suc (length (q ∷ ps) - 1) = omega arith in rw e refl

pub on_endif : (ps : List ℕ) (u : TextUnit) (us : List TextUnit) → is_opening u.piece.kind ≡ false → is_endif u.piece.kind ≡ true → first_of ps (u ∷ us) ≡ first_of (take (length ps - 1) ps) us
unfolding first_of
on_endif [] u us h k = first_other u us h
on_endif (p ∷ []) u us h k = ap (λ (b : Bool). if b then first_unclosed (u ∷ us) else Some p) (closes_last u us h k) ∙ first_other u us h
on_endif (p ∷ (q ∷ ps)) u us h k =
    let n : length ps ≡ length (take (length (q ∷ ps) - 1) (q ∷ ps)) = sym (length_init q ps) in
    let e : closes (length (q ∷ ps)) (u ∷ us) ≡ closes (length (take (length (q ∷ ps) - 1) (q ∷ ps))) us = closes_inner (length ps) u us h k ∙ ap (λ (m : ℕ). closes m us) n in
    ap (λ (b : Bool). if b then first_of (q ∷ ps) (u ∷ us) else Some p) e ∙
    (ap (λ (o : Option ℕ). if closes (length (take (length (q ∷ ps) - 1) (q ∷ ps))) us then o else Some p) (on_endif (q ∷ ps) u us h k) ∙ ap (λ (xs : List ℕ). first_of xs us) (sym (init_more p q ps)))

pub on_other : (ps : List ℕ) (u : TextUnit) (us : List TextUnit) → is_opening u.piece.kind ≡ false → is_endif u.piece.kind ≡ false → first_of ps (u ∷ us) ≡ first_of ps us
unfolding first_of
on_other [] u us h k = first_other u us h
on_other (p ∷ ps) u us h k = ap (λ (b : Bool). if b then first_of ps (u ∷ us) else Some p) (closes_other (length ps) u us h k) ∙ ap (λ (o : Option ℕ). if closes (length ps) us then o else Some p) (on_other ps u us h k)

pub on_unit : (ps qs : List ℕ) (u : TextUnit) (us : List TextUnit) → qs ≡ (if is_opening u.piece.kind then ps ++ (u.at ∷ []) else (if is_endif u.piece.kind then take (length ps - 1) ps else ps)) →
    first_of ps (u ∷ us) ≡ first_of qs us
on_unit ps qs u us e = elim (cases_Bool (is_opening u.piece.kind)) [
  | inl h ↦ on_opening ps u us h ∙ ap (λ (xs : List ℕ). first_of xs us) (sym (rw h at e))
  | inr h ↦ elim (cases_Bool (is_endif u.piece.kind)) [
    | inl k ↦ on_endif ps u us h k ∙ ap (λ (xs : List ℕ). first_of xs us) (sym (rw (h, k) at e))
    | inr k ↦ on_other ps u us h k ∙ ap (λ (xs : List ℕ). first_of xs us) (sym (rw (h, k) at e))
  ]
]

pub at_end : (ps : List ℕ) → first_of ps [] ≡ slice_get ps 0
unfolding first_of first_unclosed closes
at_end [] = refl
at_end (p ∷ ps) = refl
