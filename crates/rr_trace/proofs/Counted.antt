-- How many records a text can have: each takes a byte, but for the last.
use Rattle.std.proofs.Common.{◌≡◌, ◌∙◌, ◌⊎◌, ◌+◌, ◌-◌, ◌≤◌, ℕ, Option, zero, suc, Bool, true, false, List, [], ◌∷◌, ◌++◌, Some, None, cond, length, inl, inr, refl, ap, sym, arith}
use Rattle.csv.specs.Machine.{Read, ends_at_end, field_after, fields_after, is_end, next_record, step}
use Rattle.csv.specs.Reading.{records_from, records_next}
use Rattle.csv.specs.declared.parser.Config.{Config}
use Rattle.csv.specs.declared.parser.State.{State}
use Rattle.csv.specs.declared.parser.State.TheVariants as st

-- what a record leaves: fewer bytes, or none and a fresh start
abbrev pub Leaves : Read → List ℕ → Type 0
Leaves q xs = (length q.2 + 1 ≤ length xs) ⊎ ((q.2 ≡ []) × (q.1 ≡ st.StartRecord))

weaker : (q : Read) (c : ℕ) (xs : List ℕ) → Leaves q xs → Leaves q (c ∷ xs)
weaker q c xs (inl less) = inl (omega arith)
weaker q c xs (inr none) = inr none

pub leaves : (cfg : Config) (s : State) (fields : List (List ℕ)) (field xs : List ℕ) (q : Read) → next_record cfg s fields field xs ≡ Some q → Leaves q xs
unfolding next_record
leaves cfg s fields field [] q e = go (ends_at_end s) e
  where
    go : (b : Bool) → cond b (Some (fields ++ (field ∷ []), st.StartRecord, [])) None ≡ Some q → Leaves q []
    go true h = let same : (fields ++ (field ∷ []), st.StartRecord, []) ≡ q = cc in inr (ap (λ r. r.2) (sym same), ap (λ r. r.1) (sym same))
    go false h = let no : None ≡ Some q = h in cc
leaves cfg s fields field (c ∷ rest) q e =
    go (is_end (step cfg s c).1) e (leaves cfg (step cfg s c).0 (fields_after (step cfg s c).1 fields field) (field_after (step cfg s c).1 c field) rest q)
  where
    go : (b : Bool) → cond b (Some (fields_after (step cfg s c).1 fields field, (step cfg s c).0, rest)) (next_record cfg (step cfg s c).0 (fields_after (step cfg s c).1 fields field) (field_after (step cfg s c).1 c field) rest) ≡ Some q
        → (next_record cfg (step cfg s c).0 (fields_after (step cfg s c).1 fields field) (field_after (step cfg s c).1 c field) rest ≡ Some q → Leaves q rest) → Leaves q (c ∷ rest)
    go true h rec =
        let same : (fields_after (step cfg s c).1 fields field, (step cfg s c).0, rest) ≡ q = cc in
        let left : rest ≡ q.2 = ap (λ r. r.2) same in
        inl (rw (← left) (omega arith))
    go false h rec = weaker q c rest (rec h)

none_left : (cfg : Config) → next_record cfg st.StartRecord [] [] [] ≡ None
unfolding next_record
none_left cfg = refl

-- nothing is left: no more records
pub ended : (cfg : Config) (n : ℕ) → records_from cfg n st.StartRecord [] ≡ []
unfolding records_from
ended cfg zero = refl
ended cfg (suc n) = rw (none_left cfg) refl

-- more turns than bytes find no more records
one_more : (cfg : Config) (n : ℕ) (s : State) (xs : List ℕ) → length xs + 1 ≤ n → records_from cfg n s xs ≡ records_from cfg (suc n) s xs
unfolding records_from
one_more cfg zero s xs l = absurd (omega arith)
one_more cfg (suc n) s xs l = go (λ t ys m. one_more cfg n t ys m) (next_record cfg s [] [] xs) refl
  where
    go : ((t : State) (ys : List ℕ) → length ys + 1 ≤ n → records_from cfg n t ys ≡ records_from cfg (suc n) t ys) → (o : Option Read) → next_record cfg s [] [] xs ≡ o → records_next (records_from cfg n) o ≡ records_next (records_from cfg (suc n)) o
    go rec None e = refl
    go rec (Some p) e = ap (λ rs. p.0 ∷ rs) (by_cases (leaves cfg s [] [] xs p e))
      where
        by_cases : Leaves p xs → records_from cfg n p.1 p.2 ≡ records_from cfg (suc n) p.1 p.2
        by_cases (inl less) = rec p.1 p.2 (omega arith)
        by_cases (inr none) = rw (none.0, none.1) (ended cfg n ∙ sym (ended cfg (suc n)))

many_more : (cfg : Config) (k : ℕ) (s : State) (xs : List ℕ) → records_from cfg (length xs + 1) s xs ≡ records_from cfg (k + (length xs + 1)) s xs
many_more cfg zero s xs = let e : length xs + 1 ≡ 0 + (length xs + 1) = omega arith in ap (λ n. records_from cfg n s xs) e
many_more cfg (suc k) s xs =
    let e : suc (k + (length xs + 1)) ≡ suc k + (length xs + 1) = omega arith in
    many_more cfg k s xs ∙ (one_more cfg (k + (length xs + 1)) s xs (omega arith) ∙ ap (λ n. records_from cfg n s xs) e)

pub enough : (cfg : Config) (n : ℕ) (s : State) (xs : List ℕ) → length xs + 1 ≤ n → records_from cfg n s xs ≡ records_from cfg (length xs + 1) s xs
enough cfg n s xs l =
    let e : (n - (length xs + 1)) + (length xs + 1) ≡ n = omega arith in
    ap (λ m. records_from cfg m s xs) (sym e) ∙ sym (many_more cfg (n - (length xs + 1)) s xs)
