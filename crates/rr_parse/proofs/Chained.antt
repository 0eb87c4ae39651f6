-- A list with one part more.
use Rattle.std.proofs.Common.{◌≡◌, ℕ, ◌+◌, ◌<◌, List, [], ◌∷◌, ◌++◌, Bool, refl}
use Rattle.rr_syntax.specs.declared.token.Token.{Token}
use Rattle.rr_parse_expr.specs.Lists.{Reads, found}
use Rattle.rr_parse.specs.Chains.{Run, Between, Alternate}
use Rattle.rr_grammar.specs.Formats.{Finds}
use Rattle.rr_grammar.specs.Parts.{separator_of}

run_snoc : {A : Type 0} (R : Reads A) (at : ℕ) (xs : List A) (next : ℕ) (x : A) (m : ℕ) → Run R at xs next → next < m → R next (found x m) → Run R at (xs ++ (x ∷ [])) m
unfolding Run
run_snoc R at [] next x m b c r = let e : at ≡ next = b in rw e (m, c, r, refl)
run_snoc R at (y ∷ ys) next x m b c r = (b.0, b.1, b.2, run_snoc R b.0 ys next x m b.3 c r)

pub run_start : {A : Type 0} (R : Reads A) (at : ℕ) (items : List A) → items ≡ [] → Run R at items at
unfolding Run
run_start R at items e = rw e refl

pub run_more : {A : Type 0} (R : Reads A) (at : ℕ) (xs : List A) (next : ℕ) (x : A) (m : ℕ) (items : List A) → items ≡ xs ++ (x ∷ []) → Run R at xs next → next < m → R next (found x m) → Run R at items m
run_more R at xs next x m items e b c r = rw e (run_snoc R at xs next x m b c r)

between_snoc : {A : Type 0} (R : Reads A) (T : List Token) (at : ℕ) (cs : List Bool) (xs : List A) (next : ℕ) (c : Bool) (s : ℕ) (x : A) (m : ℕ) → Between R T at cs xs next → Finds separator_of T next c s → R s (found x m) → Between R T at (cs ++ (c ∷ [])) (xs ++ (x ∷ [])) m
unfolding Between
between_snoc R T at [] [] next c s x m b f r = let e : at ≡ next = b in rw e (s, m, f, r, refl)
between_snoc R T at [] (y ∷ ys) next c s x m b f r = absurd b
between_snoc R T at (d ∷ ds) [] next c s x m b f r = absurd b
between_snoc R T at (d ∷ ds) (y ∷ ys) next c s x m b f r = (b.0, b.1, b.2, b.3, between_snoc R T b.1 ds ys next c s x m b.4 f r)

pub alternate_first : {A : Type 0} (R : Reads A) (T : List Token) (from : ℕ) (x : A) (m : ℕ) (items : List A) (commas : List Bool) → items ≡ x ∷ [] → commas ≡ [] → R from (found x m) → Alternate R T from commas items m
unfolding Alternate Between
alternate_first R T from x m items commas e d r = rw (e, d) (m, r, refl)

pub alternate_more : {A : Type 0} (R : Reads A) (T : List Token) (from : ℕ) (cs : List Bool) (xs : List A) (next : ℕ) (c : Bool) (s : ℕ) (x : A) (m : ℕ) (items : List A) (commas : List Bool) →
    items ≡ xs ++ (x ∷ []) → commas ≡ cs ++ (c ∷ []) → Alternate R T from cs xs next → Finds separator_of T next c s → R s (found x m) → Alternate R T from commas items m
unfolding Alternate
alternate_more R T from cs [] next c s x m items commas e d b f r = absurd b
alternate_more R T from cs (y ∷ ys) next c s x m items commas e d b f r = rw (e, d) (b.0, b.1, between_snoc R T b.0 cs ys next c s x m b.2 f r)
