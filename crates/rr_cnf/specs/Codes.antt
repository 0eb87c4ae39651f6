-- a literal as twice its variable, and one more where it is negated
use Rattle.std.specs.Prelude.{◌≡◌, ℕ, ◌+◌, ◌*◌, ◌/◌, ◌%◌, ◌==◌, ◌⊎◌, Bool, cond, true, false, refl}
use Rattle.std.proofs.Common.{arith, ap, sym, ◌∙◌, inl, inr}
use Rattle.std.proofs.lemmas.Bool.{eq-eqb, ne_eqb, cases_eq}
use Rattle.rr_cnf.specs.Clauses.{Literal}

abbrev pub code_of : Literal → ℕ
code_of l = 2 * l.var + cond l.negative 1 0

abbrev pub literal_of : ℕ → Literal
literal_of n = record { var = n / 2; negative = (n % 2) == 1 }

pub code_of-literal_of : (n : ℕ) → code_of (literal_of n) ≡ n
code_of-literal_of n = by_cases (cases_eq (n % 2) 1)
  where
    by_cases : ((n % 2 ≡ 1) ⊎ (n % 2 ≡ 1 → ⊥)) → code_of (literal_of n) ≡ n
    by_cases (inl e) = rw (eq-eqb (n % 2) 1 e) (omega arith)
    by_cases (inr e) = rw (ne_eqb (n % 2) 1 e) (omega arith)

pub literal_of-code_of : (l : Literal) → literal_of (code_of l) ≡ l
literal_of-code_of l = by_sign l.var l.negative
  where
    by_sign : (v : ℕ) (b : Bool) → literal_of (2 * v + cond b 1 0) ≡ record { var = v; negative = b }
    by_sign v true =
        let d : (2 * v + 1) / 2 ≡ v = omega arith in
        let m : (2 * v + 1) % 2 ≡ 1 = omega arith in
        rw (d, m) refl
    by_sign v false =
        let d : (2 * v + 0) / 2 ≡ v = omega arith in
        let m : (2 * v + 0) % 2 ≡ 0 = omega arith in
        rw (d, m) refl

pub same_code : (l k : Literal) → code_of l ≡ code_of k → l ≡ k
same_code l k e = sym (literal_of-code_of l) ∙ ap literal_of e ∙ literal_of-code_of k
