-- The mark at the front of words, and its number in the reading function.
use Rattle.std.proofs.Common.{◌≡◌, ℕ, zero, suc, ◌<◌, nat_eq, List, [], ◌∷◌, length, drop, refl, ap, sym, ◌∙◌, arith, Bool, true, false, IsTrue, Option, Some, None}
use Rattle.std.proofs.Math.Seq.{drop-nil}
use Rattle.std.specs.Prelude.{◌↔◌}
use Rattle.rr_syntax.specs.declared.token.Mark.{Mark}
use Rattle.rr_syntax.specs.declared.token.Token.{Token}
use Rattle.rr_syntax.specs.Words.{Word, Named, System, Digits, Reserved, Marked, words}
use Rattle.rr_parse_expr.specs.Fronts.{front_mark}
use Rattle.rr_parse_expr.specs.Reading.{mark, no_mark}
use Rattle.rr_parse_expr.proofs.Answered.{by_number}

abbrev number : Option Mark → ℕ
number None = no_mark
number (Some m) = m.0

mark_number : (ws : List Word) → mark ws ≡ number (front_mark ws)
unfolding mark front_mark
mark_number [] = refl
mark_number (Marked m ∷ ws) = refl
mark_number (Named s ∷ ws) = refl
mark_number (System s ∷ ws) = refl
mark_number (Digits n ∷ ws) = refl
mark_number (Reserved k ∷ ws) = refl

-- a number below that of no mark tells its mark
told : (o : Option Mark) (m : Mark) → number o ≡ m.0 → m.0 < no_mark → o ≡ Some m
told None m e h = absurd (omega (arith, e))
told (Some k) m e h = ap (λ (n : ℕ). Some (record { 0 = n })) e

-- the mark with the number that was read there
pub mark_is : (ws : List Word) (m : Mark) → mark ws ≡ m.0 → m.0 < no_mark → front_mark ws ≡ Some m
mark_is ws m e l = told (front_mark ws) m (sym (mark_number ws) ∙ e) l

-- the mark that was found there
pub mark_found : (ws : List Word) {m : Mark} → Some m ≡ front_mark ws → mark ws ≡ m.0
mark_found ws {m} e = mark_number ws ∙ ap number (sym e)

-- none was found there
pub mark_missing : (ws : List Word) → None ≡ front_mark ws → mark ws ≡ no_mark
mark_missing ws e = mark_number ws ∙ ap number (sym e)

-- this mark stands there
pub mark_stands : (ws : List Word) {m : Mark} {b : Bool} → (IsTrue b ↔ (front_mark ws ≡ Some m)) → b ≡ true → mark ws ≡ m.0
mark_stands ws {m = m} h e = mark_found ws {m = m} (sym (h.0 e))

-- this mark does not stand there
pub mark_differs : (ws : List Word) {m : Mark} {b : Bool} → (IsTrue b ↔ (front_mark ws ≡ Some m)) → b ≡ false → m.0 < no_mark → mark ws ≡ m.0 → ⊥
mark_differs ws {m} {b} h f l e =
    let t : b ≡ true = h.1 (mark_is ws m e l) in
    cc (t, f)

-- whether this mark stands there, by its number
pub mark_equals : (ws : List Word) {m : Mark} {b : Bool} → (IsTrue b ↔ (front_mark ws ≡ Some m)) → m.0 < no_mark → b ≡ nat_eq (mark ws) m.0
mark_equals ws {m} {b} h l = by_number b (mark ws) m.0 (λ e. mark_stands ws {m = m} h e) (λ e. mark_differs ws {m = m} h e l)

-- a mark stands at a token alone
pub front_inside : (T : List Token) (i : ℕ) (m : Mark) → front_mark (drop i (words T)) ≡ Some m → i < length T
unfolding front_mark words
front_inside [] i m e = absurd (let h : None ≡ Some m = ap front_mark (sym (drop-nil {A = Word} i)) ∙ e in cc h)
front_inside (t ∷ ts) zero m e = omega arith
front_inside (t ∷ ts) (suc i) m e = omega (arith, front_inside ts i m e)
