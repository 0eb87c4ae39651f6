-- A list with one part more.
use Rattle.std.proofs.Common.{◌≡◌, ℕ, ◌+◌, ◌≤◌, List, [], ◌∷◌, ◌++◌, length, refl}
use Rattle.rr_syntax.specs.declared.token.Token.{Token}
use Rattle.rr_parse_expr.specs.Lists.{Reads, found, Refuses, comma_at, Behind, Row, IsList}

behind_more : {A : Type 0} (R : Reads A) (T : List Token) (at : ℕ) (xs : List A) (next : ℕ) (x : A) (m : ℕ) → Behind R T at xs next → comma_at T next → R (next + 1) (found x m) → Behind R T at (xs ++ (x ∷ [])) m
unfolding Behind
behind_more R T at [] next x m b c r = let e : at ≡ next = b in rw e (m, c, r, refl)
behind_more R T at (y ∷ ys) next x m b c r = (b.0, b.1, b.2, behind_more R T b.0 ys next x m b.3 c r)

pub row_first : {A : Type 0} (R : Reads A) (T : List Token) (from : ℕ) (x : A) (m : ℕ) (items : List A) → items ≡ x ∷ [] → R from (found x m) → Row R T from items m
unfolding Row Behind
row_first R T from x m items e r = rw e (m, r, refl)

pub row_more : {A : Type 0} (R : Reads A) (T : List Token) (from : ℕ) (xs : List A) (next : ℕ) (x : A) (m : ℕ) (items : List A) → items ≡ xs ++ (x ∷ []) → Row R T from xs next → comma_at T next → R (next + 1) (found x m) → Row R T from items m
unfolding Row
row_more R T from [] next x m items e b c r = absurd b
row_more R T from (y ∷ ys) next x m items e b c r = rw e (b.0, b.1, behind_more R T b.0 ys next x m b.2 c r)

pub list_made : {A : Type 0} (R : Reads A) (T : List Token) (from : ℕ) (xs items : List A) (next : ℕ) → items ≡ xs → Row R T from xs next → (comma_at T next → Refuses R (next + 1)) → next ≤ length T → IsList R T from items next
list_made R T from xs items next e a k w = rw e (record { row = a; ends = k; within = w })
