-- The reserved word at the front of words, and its number in the reading function.
use Rattle.std.proofs.Common.{◌≡◌, ℕ, ◌<◌, nat_eq, List, [], ◌∷◌, refl, ap, sym, ◌∙◌, arith, Bool, true, false, IsTrue, Option, Some, None}
use Rattle.std.specs.Prelude.{◌↔◌}
use Rattle.rr_syntax.specs.declared.token.Keyword.{Keyword}
use Rattle.rr_syntax.specs.Words.{Word, Named, System, Digits, Reserved, Marked}
use Rattle.rr_parse_expr.specs.Fronts.{front_keyword}
use Rattle.rr_parse_expr.proofs.Answered.{by_number}
use Rattle.rr_parse_stmt.specs.Reading.{keyword, no_word}

abbrev number : Option Keyword → ℕ
number None = no_word
number (Some k) = k.0

keyword_number : (ws : List Word) → keyword ws ≡ number (front_keyword ws)
unfolding keyword front_keyword
keyword_number [] = refl
keyword_number (Marked m ∷ ws) = refl
keyword_number (Named s ∷ ws) = refl
keyword_number (System s ∷ ws) = refl
keyword_number (Digits n ∷ ws) = refl
keyword_number (Reserved k ∷ ws) = refl

-- a number below that of no word tells its word
told : (o : Option Keyword) (k : Keyword) → number o ≡ k.0 → k.0 < no_word → o ≡ Some k
told None k e h = absurd (omega (arith, e))
told (Some j) k e h = ap (λ (n : ℕ). Some (record { 0 = n })) e

-- the word that was found there
pub keyword_found : (ws : List Word) {k : Keyword} → Some k ≡ front_keyword ws → keyword ws ≡ k.0
keyword_found ws {k} e = keyword_number ws ∙ ap number (sym e)

-- none was found there
pub keyword_missing : (ws : List Word) → None ≡ front_keyword ws → keyword ws ≡ no_word
keyword_missing ws e = keyword_number ws ∙ ap number (sym e)

-- this word stands there
pub keyword_stands : (ws : List Word) {k : Keyword} {b : Bool} → (IsTrue b ↔ (front_keyword ws ≡ Some k)) → b ≡ true → keyword ws ≡ k.0
keyword_stands ws {k} h e = keyword_found ws {k = k} (sym (h.0 e))

-- this word does not stand there
pub keyword_differs : (ws : List Word) {k : Keyword} {b : Bool} → (IsTrue b ↔ (front_keyword ws ≡ Some k)) → b ≡ false → k.0 < no_word → keyword ws ≡ k.0 → ⊥
keyword_differs ws {k} {b} h f l e =
    let t : b ≡ true = h.1 (told (front_keyword ws) k (sym (keyword_number ws) ∙ e) l) in
    cc (t, f)

-- whether this word stands there, by its number
pub keyword_equals : (ws : List Word) {k : Keyword} {b : Bool} → (IsTrue b ↔ (front_keyword ws ≡ Some k)) → k.0 < no_word → b ≡ nat_eq (keyword ws) k.0
keyword_equals ws {k} {b} h l = by_number b (keyword ws) k.0 (λ e. keyword_stands ws {k = k} h e) (λ e. keyword_differs ws {k = k} h e l)
