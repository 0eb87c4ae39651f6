-- Where what pieces do lifts, so do their edits.
use Rattle.std.proofs.Common.{◌≡◌, ℕ, suc, ◌+◌, ◌-◌, ◌&&◌, nat_lt, Bool, true, false, List, [], ◌∷◌, ◌++◌, refl, ◌∙◌, ap, subst, arith}
use Rattle.std.specs.List.{AllByRecursion}
use Rattle.rr_directive.specs.declared.origin.Origin.{Origin}
use Rattle.rr_edit.specs.Edits.{Edit}
use Rattle.rr_edit.specs.Lifted.{lifts}
use Rattle.rr_lex.specs.Tokens.{Lexeme}
use Rattle.rr_respell.specs.Pieces.{Piece, Kept, Replaced, Put, run_of, edits}
use Rattle.rr_patch.specs.Edits.{run_edit, byte_edits}
use Rattle.rr_kept.specs.Kept.{token_at, token_lifts, place_lifts}
use Rattle.rr_kept.proofs.Lifting.{Allowed}

pub and_left : (a b : Bool) → (a && b) ≡ true → a ≡ true
and_left true b e = refl
and_left false b e = e

pub and_right : (a b : Bool) → (a && b) ≡ true → b ≡ true
and_right true b e = e
and_right false b e = absurd (cc e)

both : {A : Type 0} (Q : A → Type 0) (xs ys : List A) → AllByRecursion Q xs → AllByRecursion Q ys → AllByRecursion Q (xs ++ ys)
both Q [] ys a b = b
both Q (x ∷ xs) ys a b = (a.0, both Q xs ys a.1 b)

module _ (origins : List Origin) (all : List Lexeme) where
  abbrev pub MayReplace : ℕ → Type 0
  MayReplace k = token_lifts origins all k ≡ true

  abbrev pub MayPut : ℕ → Type 0
  MayPut k = place_lifts origins all k ≡ true

  abbrev IsLifted : Edit → Type 0
  IsLifted e = lifts origins e ≡ true

  -- these are the tokens from a number on
  abbrev AreFrom : ℕ → List Lexeme → Type 0
  AreFrom k ts = (i : ℕ) → token_at all (k + i) ≡ token_at ts i

  run_lifts : (k : ℕ) (t : Lexeme) (xs : List Piece) → token_at all k ≡ t → Allowed MayReplace MayPut (k + 1) xs → AllByRecursion IsLifted (run_edit (run_of xs) t)
  unfolding run_of Allowed
  run_lifts k t [] e h = tt
  run_lifts k t (Kept w ∷ xs) e h = tt
  run_lifts k t (Replaced w n ∷ xs) e h = tt
  run_lifts k t (Put n ∷ xs) e h =
      let q : token_at all (k + 1 - 1) ≡ t = ap (token_at all) (omega arith) ∙ e in
      (subst (λ (x : Lexeme). lifts origins (record { from = x.end; to = x.end; text = [] }) ≡ true) q (and_right (nat_lt 0 (k + 1)) _ h.0), tt)

  first_is : (k : ℕ) (t : Lexeme) (ts : List Lexeme) → AreFrom k (t ∷ ts) → token_at all k ≡ t
  first_is k t ts are = ap (token_at all) (omega arith) ∙ are 0

  rest_are : (k : ℕ) (t : Lexeme) (ts : List Lexeme) → AreFrom k (t ∷ ts) → AreFrom (k + 1) ts
  rest_are k t ts are i = ap (token_at all) (omega arith) ∙ are (suc i)

  pub edits_lift : (k : ℕ) (ts : List Lexeme) (xs : List Piece) → AreFrom k ts → Allowed MayReplace MayPut k xs → AllByRecursion IsLifted (byte_edits ts (edits xs))
  unfolding byte_edits edits Allowed
  edits_lift k [] xs are h = tt
  edits_lift k (t ∷ ts) [] are h = tt
  edits_lift k (t ∷ ts) (Kept w ∷ xs) are h =
      both IsLifted (run_edit (run_of xs) t) (byte_edits ts (edits xs)) (run_lifts k t xs (first_is k t ts are) h) (edits_lift (k + 1) ts xs (rest_are k t ts are) h)
  edits_lift k (t ∷ ts) (Replaced w n ∷ xs) are h = (
    subst (λ (x : Lexeme). lifts origins (record { from = x.start; to = x.end; text = [] }) ≡ true) (first_is k t ts are) h.0,
    both IsLifted (run_edit (run_of xs) t) (byte_edits ts (edits xs)) (run_lifts k t xs (first_is k t ts are) h.1) (edits_lift (k + 1) ts xs (rest_are k t ts are) h.1),
  )
  edits_lift k (t ∷ ts) (Put n ∷ xs) are h = edits_lift k (t ∷ ts) xs are h.1
