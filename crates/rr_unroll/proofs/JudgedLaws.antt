-- the turns of the evaluation of one row
use Rattle.std.proofs.Common.{◌≡◌, ◌↔◌, ℕ, ◌+◌, ◌<◌, ◌≤◌, Bool, true, false, not, ◌&&◌, cond, List, [], ◌∷◌, ◌++◌, All, length, get_or, drop, refl, sym, ◌∙◌, ap}
use Rattle.std.specs.List.{list_all}
use Rattle.std.proofs.lemmas.List.{drop_all}
use Rattle.std.proofs.lemmas.List.Sums.{AllPass-from_list_all, list_all-from_AllPass}
use Rattle.rr_unroll.specs.Questions.{is_same, agree}
use Rattle.rr_unroll.proofs.AskedLaws.{agree_step}

abbrev pub all_true : List Bool → Bool
all_true bits = list_all (λ (b : Bool). b) bits

pub all_are_true : (bits : List Bool) (r : Bool) → r ≡ all_true bits → (r ≡ true) ↔ All (λ (b : Bool). b ≡ true) bits
all_are_true bits r e = (λ t. AllPass-from_list_all (λ (b : Bool). b) bits (sym e ∙ t), λ h. e ∙ list_all-from_AllPass (λ (b : Bool). b) bits h)

-- a place that misses, and one that does not
place_misses : (k e f : Bool) (more : List Bool) → (k && not (is_same e f)) ≡ true → all_true (cond k (is_same e f ∷ []) [] ++ more) ≡ false
place_misses true true true more h = cc
place_misses true true false more h = refl
place_misses true false true more h = refl
place_misses true false false more h = cc
place_misses false e f more h = cc

place_agrees : (k e f : Bool) (more : List Bool) → (k && not (is_same e f)) ≡ false → all_true (cond k (is_same e f ∷ []) [] ++ more) ≡ all_true more
place_agrees true true true more h = refl
place_agrees true true false more h = cc
place_agrees true false true more h = cc
place_agrees true false false more h = refl
place_agrees false e f more h = refl

pub agree_misses : (ks es bs : List Bool) (i : ℕ) (m all : Bool) → i < length ks → m ≡ (get_or ks i false && not (is_same (get_or es i false) (get_or bs i false))) → m ≡ true →
    all_true (agree (drop i ks) (drop i es) (drop i bs)) ≡ all → false ≡ all
agree_misses ks es bs i m all l e t h =
    sym (ap all_true (agree_step ks es bs i l) ∙ place_misses (get_or ks i false) (get_or es i false) (get_or bs i false) (agree (drop (i + 1) ks) (drop (i + 1) es) (drop (i + 1) bs)) (sym e ∙ t)) ∙ h

pub agree_more : (ks es bs : List Bool) (i : ℕ) (m all : Bool) → i < length ks → m ≡ (get_or ks i false && not (is_same (get_or es i false) (get_or bs i false))) → m ≡ false →
    all_true (agree (drop i ks) (drop i es) (drop i bs)) ≡ all → all_true (agree (drop (i + 1) ks) (drop (i + 1) es) (drop (i + 1) bs)) ≡ all
agree_more ks es bs i m all l e t h =
    sym (ap all_true (agree_step ks es bs i l) ∙ place_agrees (get_or ks i false) (get_or es i false) (get_or bs i false) (agree (drop (i + 1) ks) (drop (i + 1) es) (drop (i + 1) bs)) (sym e ∙ t)) ∙ h

pub agree_all : (ks es bs : List Bool) (i : ℕ) (all : Bool) → length ks ≤ i → all_true (agree (drop i ks) (drop i es) (drop i bs)) ≡ all → true ≡ all
unfolding agree
agree_all ks es bs i all l h = sym (ap (λ xs. all_true (agree xs (drop i es) (drop i bs))) (drop_all i ks l)) ∙ h
