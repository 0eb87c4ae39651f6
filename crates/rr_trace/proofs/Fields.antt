-- Fields of records, and blanks at the ends of fields.
use Rattle.std.proofs.Common.{◌≡◌, ◌∙◌, ℕ, zero, suc, ◌+◌, ◌-◌, ◌<◌, ◌≤◌, Bool, true, false, List, [], ◌∷◌, length, get_or, take, drop, Option, Some, None, refl, sym, ap, arith, ◌⊎◌, inl, inr}
use Rattle.std.proofs.lemmas.Bool.{cases_lt}
use Rattle.std.specs.List.{prefix_len, suffix_len}
use Rattle.std.proofs.lemmas.List.Sums.{prefix_len_is, suffix_len-take_yes, suffix_len-take_no}
use Rattle.std.proofs.lemmas.List.{take_all, length-drop}
use Rattle.csv.specs.Records.{field_at}
use Rattle.rr_trace.specs.Columns.{is_blank}

pub field_some : (fs : List (List ℕ)) (i : ℕ) (x : List ℕ) → field_at fs i ≡ Some x → x ≡ get_or fs i []
unfolding field_at
field_some [] i x e = cc
field_some (f ∷ fs) zero x e = cc
field_some (f ∷ fs) (suc i) x e = field_some fs i x e

pub field_none : (fs : List (List ℕ)) (i : ℕ) → i < length fs → field_at fs i ≡ None → ⊥
unfolding field_at
field_none [] i l e = omega arith
field_none (f ∷ fs) zero l e = cc
field_none (f ∷ fs) (suc i) l e = field_none fs i (omega arith) e

-- the first i bytes are blanks
abbrev pub Blanks : List ℕ → ℕ → Type 0
Blanks t i = (k : ℕ) → k < i → is_blank (get_or t k 0) ≡ true

pub blanks_none : (t : List ℕ) → Blanks t 0
blanks_none t k l = absurd (omega arith)

pub blanks_more : (t : List ℕ) (i : ℕ) → Blanks t i → is_blank (get_or t i 0) ≡ true → Blanks t (i + 1)
blanks_more t i h e k l = go (cases_lt k i)
  where
    go : (k < i) ⊎ (i ≤ k) → is_blank (get_or t k 0) ≡ true
    go (inl m) = h k m
    go (inr m) = let same : k ≡ i = omega arith in rw same e

whole : (t : List ℕ) (i : ℕ) → take (length t - i) (drop i t) ≡ drop i t
whole t i = take_all (length t - i) (drop i t) (rw (length-drop i t) (omega arith))

pub blanks_end : (t : List ℕ) (i : ℕ) → i < length t → Blanks t i → is_blank (get_or t i 0) ≡ false → take (length t - i) (drop i t) ≡ drop (prefix_len is_blank t) t
blanks_end t i l h e = whole t i ∙ ap (λ n. drop n t) (sym (prefix_len_is is_blank t i 0 (omega arith) h (λ m. e)))

pub blanks_all : (t : List ℕ) (i : ℕ) → length t ≤ i → i ≤ length t → Blanks t i → take (length t - length t) (drop (length t) t) ≡ drop (prefix_len is_blank t) t
blanks_all t i l m h =
    let e : i ≡ length t = omega arith in
    whole t (length t) ∙ ap (λ n. drop n t) (sym (prefix_len_is is_blank t (length t) 0 (omega arith) (rw e at h) (λ m. absurd (omega arith))))

-- from the end on, all are blanks
abbrev pub Trims : List ℕ → ℕ → Type 0
Trims t end = (end ≤ length t) × (end + suffix_len is_blank t ≡ length t + suffix_len is_blank (take end t))
