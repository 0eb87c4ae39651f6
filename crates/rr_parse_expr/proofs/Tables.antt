-- Rules of the table of levels, each from a test that computes over the whole of it.
use Rattle.std.proofs.Common.{◌≡◌, ℕ, zero, suc, ◌+◌, ◌<◌, List, [], ◌∷◌, get_or, refl, arith, Bool, true, false, ◌&&◌, ◌||◌, nat_lt, nat_eq, not}
use Rattle.std.proofs.lemmas.Bool.Decides.{nat_tests}
use Rattle.rr_syntax.specs.Words.{mark_question}
use Rattle.rr_syntax.specs.Expressions.{infix_level, levels, unary_level}

abbrev check : (ℕ → ℕ → Bool) → ℕ → List ℕ → Bool
check f i [] = true
check f i (v ∷ vs) = f i v && check f (suc i) vs

first_of_and : (a b : Bool) → (a && b) ≡ true → a ≡ true
first_of_and true b e = refl
first_of_and false b e = e

second_of_and : (a b : Bool) → (a && b) ≡ true → b ≡ true
second_of_and true b e = e
second_of_and false b e = absurd cc

-- past the end the value is 0
check_at : (f : ℕ → ℕ → Bool) → ((i : ℕ) → f i 0 ≡ true) → (i : ℕ) (vs : List ℕ) → check f i vs ≡ true → (k : ℕ) → f (i + k) (get_or vs k 0) ≡ true
check_at f past i [] e k = past (i + k)
check_at f past i (v ∷ vs) e zero = let h : i + 0 ≡ i = omega arith in rw h (first_of_and (f i v) (check f (suc i) vs) e)
check_at f past i (v ∷ vs) e (suc k) = let h : i + suc k ≡ suc i + k = omega arith in rw h (check_at f past (suc i) vs (second_of_and (f i v) (check f (suc i) vs) e) k)

either : (m v : ℕ) → (nat_eq m mark_question || not (nat_eq v 1)) ≡ true → v ≡ 1 → m ≡ mark_question
either m v e h = grind (arith, nat_tests)

-- only the conditional's mark has level 1
pub level_one : (m : ℕ) → infix_level m ≡ 1 → m ≡ mark_question
unfolding infix_level
level_one m h = let z : 0 + m ≡ m = omega arith in either m (get_or levels m 0) (rw z at (check_at (λ i v. nat_eq i mark_question || not (nat_eq v 1)) (λ i. grind (arith, nat_tests)) 0 levels refl m)) h

less : (v w : ℕ) → nat_lt v w ≡ true → v < w
less v w e = grind (arith, nat_tests)

-- no operator between operands binds as tightly as one before an operand
pub infix_below : (m : ℕ) → infix_level m < unary_level
unfolding infix_level
infix_below m = less (get_or levels m 0) unary_level (check_at (λ i v. nat_lt v unary_level) (λ i. refl) 0 levels refl m)
