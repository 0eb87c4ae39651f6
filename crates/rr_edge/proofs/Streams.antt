-- What reads in place take from a reader's known bytes.
use Rattle.std.proofs.Common.{◌≡◌, ℕ, List, ◌++◌, IfOk, length, take, drop, sym, ap, subst, ◌∙◌, Result, Ok, Err, drop_at}
use Rattle.std.specs.Prelude.{Option}
use Rattle.std.proofs.lemmas.List.{take-append-le}
use Rattle.std.specs.Io.{ReadsAtMost, StartsWith}
use Rattle.std.specs.Io.KnownBytes.{Consumes}
use Rattle.std.proofs.KnownBytes.{Consumes-trans, starts_with_rest}

-- what was read into a part of a buffer stands after the part's front
pub read_in_place : {E : Type 0} (a b : Option (List ℕ)) (r : Result ℕ E) (front part rest : List ℕ) (start : ℕ) → length front ≡ start → ReadsAtMost r part
    → IfOk r (λ n. Consumes a b (take n part)) → IfOk r (λ n. Consumes a b (take n (drop start (front ++ (part ++ rest)))))
read_in_place a b (Ok n) front part rest start long fits read =
    subst (Consumes a b) (sym (ap (take n) (drop_at front (part ++ rest) start long) ∙ take-append-le n part rest fits.0)) read
read_in_place a b (Err e) front part rest start long fits read = tt

-- bytes that were read, and those that one more read put after them
pub read_more : (a b c : Option (List ℕ)) (mid new : List ℕ) → Consumes a b mid → StartsWith new mid → Consumes b c (drop (length mid) new) → Consumes a c new
read_more a b c mid new before front read = subst (Consumes a c) (sym (starts_with_rest new mid front)) (Consumes-trans a b c _ _ before read)
