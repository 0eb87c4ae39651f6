-- Draws one after the other, and the inputs of rows.
use Rattle.std.proofs.Common.{◌≡◌, ◌∙◌, ℕ, suc, ◌+◌, ◌-◌, ◌*◌, ◌/◌, ◌%◌, ◌<◌, ◌≤◌, ◌==◌, if◌then◌else◌, List, [], ◌∷◌, ◌++◌, length, get_or, map, refl, sym, ap, ap₂, arith}
use Rattle.std.specs.List.{range_with_len}
use Rattle.std.proofs.lemmas.List.FromFn.{get_or-map-range_with_len, length-map-range_with_len, map-range_with_len_more}
use Rattle.rr_made_input.specs.Draws.{draw, next, state}
use Rattle.rr_made_input.specs.Made.{enable, reset, step, steps}

state_suc : (seed n : ℕ) → state seed (suc n) ≡ next (state seed n)
unfolding state
state_suc seed n = refl

pub state_more : (seed n m : ℕ) → m ≡ n + 1 → state seed m ≡ next (state seed n)
state_more seed n m e = let is : m ≡ suc n = omega (arith, e) in ap (state seed) is ∙ state_suc seed n

pub state_none : (seed : ℕ) → state seed 0 ≡ seed
unfolding state
state_none seed = refl

-- the inputs of the first two rows
module _ (seed : ℕ) where
  pub first_reset : 1 ≡ reset seed 0
  unfolding reset
  first_reset = refl

  pub first_enable : 0 ≡ enable seed 0
  unfolding enable
  first_enable = refl

  pub second_reset : 0 ≡ reset seed 1
  unfolding reset
  second_reset = refl

  pub second_enable : 1 ≡ enable seed 1
  unfolding enable
  second_enable = refl

  reset_later : (n : ℕ) → (if draw seed (8 + 2 * n) 32 == 0 then 1 else 0) ≡ reset seed (suc (suc n))
  unfolding reset
  reset_later n = refl

  enable_later : (n : ℕ) → draw seed (9 + 2 * n) 2 ≡ enable seed (suc (suc n))
  unfolding enable
  enable_later n = refl

  -- .. and of a later one, by two draws
  module _ (row a b c : ℕ) (late : 2 ≤ row) (at : a ≡ state seed (8 + 2 * (row - 2))) (one : b ≡ next a) (two : c ≡ next b) where
    same_row : suc (suc (row - 2)) ≡ row
    same_row = omega (arith, late)

    first_draw : b ≡ state seed (8 + 2 * (row - 2) + 1)
    first_draw = one ∙ ap next at ∙ sym (state_more seed (8 + 2 * (row - 2)) (8 + 2 * (row - 2) + 1) refl)

    second_draw : c ≡ state seed (9 + 2 * (row - 2) + 1)
    second_draw = two ∙ ap next first_draw ∙ sym (state_more seed (8 + 2 * (row - 2) + 1) (9 + 2 * (row - 2) + 1) (omega arith))

    pub after_row : c ≡ state seed (8 + 2 * (row + 1 - 2))
    after_row = let same : 9 + 2 * (row - 2) + 1 ≡ 8 + 2 * (row + 1 - 2) = omega (arith, late) in second_draw ∙ ap (state seed) same

    pub row_reset : (if (b / 8589934592) % 32 == 0 then 1 else 0) ≡ reset seed row
    row_reset = ap (λ (x : ℕ). if (x / 8589934592) % 32 == 0 then 1 else 0) first_draw ∙ reset_later (row - 2) ∙ ap (reset seed) same_row

    pub row_enable : (c / 8589934592) % 2 ≡ enable seed row
    row_enable = ap (λ (x : ℕ). (x / 8589934592) % 2) second_draw ∙ enable_later (row - 2) ∙ ap (enable seed) same_row

-- ---- the steps
pub record Stepped (seed i now : ℕ) (items : List ℕ) : Type 0 where
  pub drawn : now ≡ state seed i
  pub made : items ≡ map (step seed) (range_with_len 0 i)

module _ (seed : ℕ) where
  pub Stepped-none : Stepped seed 0 seed []
  Stepped-none = record { drawn = sym (state_none seed); made = refl }

  pub Stepped-more : (i now b k : ℕ) (items : List ℕ) → Stepped seed i now items → b ≡ next now → k ≡ 1 + (b / 8589934592) % 254 → Stepped seed (i + 1) b (items ++ (k ∷ []))
  Stepped-more i now b k items h moved is =
      let drawn : b ≡ state seed (i + 1) = moved ∙ ap next h.drawn ∙ sym (state_more seed i (i + 1) refl) in
      record {
        drawn = drawn;
        made = ap₂ (λ (xs : List ℕ) (x : ℕ). xs ++ (x ∷ [])) h.made (is ∙ ap (λ (x : ℕ). 1 + (x / 8589934592) % 254) drawn) ∙ sym (map-range_with_len_more (step seed) 0 i i (omega arith));
      }

  pub step_at : (right : List ℕ) (i k : ℕ) → right ≡ steps seed → i < 8 → k ≡ get_or right i 0 → k ≡ step seed i
  step_at right i k e l is = is ∙ ap (λ (xs : List ℕ). get_or xs i 0) e ∙ get_or-map-range_with_len (step seed) 0 8 i i 0 l (omega arith)

  pub step_small : (i : ℕ) → step seed i < 255
  step_small i = omega arith

  pub steps_count : (right : List ℕ) → right ≡ steps seed → length right ≡ 8
  steps_count right e = ap length e ∙ length-map-range_with_len (step seed) 0 8
