-- verdicts on parts that follow one another
use Rattle.std.proofs.Common.{◌≡◌, ◌⊎◌, inl, inr, ℕ, suc, ◌+◌, ◌*◌, ◌<◌, ◌≤◌, List, [], ◌∷◌, ◌++◌, length, slice_index_or, take, drop, refl, sym, ◌∙◌, ap, subst, arith}
use Rattle.std.specs.Prelude.{Result, Ok, Err, IfOk, All}
use Rattle.std.specs.declared.alloc.AllocError.{AllocError}
use Rattle.std.proofs.lemmas.Bool.{cases_lt}
use Rattle.std.proofs.lemmas.List.{drop_more}
use Rattle.std.proofs.lemmas.List.Elements.{All-push}
use Rattle.rr_cnf.specs.Clauses.{Literal}
use Rattle.rr_derive.specs.Derive.{Step, PassesAt}
use Rattle.rr_check.specs.declared.part.Part.{Part}
use Rattle.rr_check.specs.declared.verdict.Verdict.{Verdict}
use Rattle.rr_check.specs.declared.verdict.Verdict.TheVariants.{Accepted, Line, NoEmptyClause}
use Rattle.rr_check.specs.Parts.{Covers, IsPartOf, PassIn, HasEmptyIn, NoneEmptyIn, FailsIn, VerdictOn, and_then, AreFound}

module _ (cs : List (List Literal)) (lines : List Step) where
  -- of no lines
  pub verdict-none : (n : ℕ) → VerdictOn cs lines n n NoEmptyClause
  verdict-none n = (λ k l h. absurd (omega arith), λ k d l h. absurd (omega arith))

  module _ (start middle end : ℕ) (low : start ≤ middle) (high : middle ≤ end) where
    pass : PassIn cs lines start middle → PassIn cs lines middle end → PassIn cs lines start end
    pass p q k l h = by_cases (cases_lt k middle)
      where
        by_cases : ((k < middle) ⊎ (middle ≤ k)) → PassesAt cs lines k
        by_cases (inl r) = p k l r
        by_cases (inr r) = q k r h

    none : NoneEmptyIn lines start middle → NoneEmptyIn lines middle end → NoneEmptyIn lines start end
    none p q k d l h = by_cases (cases_lt k middle)
      where
        by_cases : ((k < middle) ⊎ (middle ≤ k)) → (slice_index_or lines k d).clause ≡ [] → ⊥
        by_cases (inl r) = p k d l r
        by_cases (inr r) = q k d r h

    first : HasEmptyIn lines start middle → HasEmptyIn lines start end
    first e = let h = e.high in record { place = e.place; low = e.low; high = omega arith; empty = e.empty }

    second : HasEmptyIn lines middle end → HasEmptyIn lines start end
    second e = let l = e.low in record { place = e.place; low = omega arith; high = e.high; empty = e.empty }

    fails_first : (n : ℕ) → FailsIn cs lines start middle n → FailsIn cs lines start end n
    fails_first n f = let h = f.high in record { low = f.low; high = omega arith; before = f.before; fails = f.fails }

    fails_second : (n : ℕ) → PassIn cs lines start middle → FailsIn cs lines middle end n → FailsIn cs lines start end n
    fails_second n p f =
        let l = f.low in
        record {
          low = omega arith;
          high = f.high;
          before = λ k m r. before k m r (cases_lt k middle);
          fails = f.fails;
        }
      where
        before : (k : ℕ) → start ≤ k → k + 1 < n → ((k < middle) ⊎ (middle ≤ k)) → PassesAt cs lines k
        before k m r (inl b) = p k m b
        before k m r (inr b) = f.before k b r

    pub verdict-joins : (v w : Verdict) → VerdictOn cs lines start middle v → VerdictOn cs lines middle end w → VerdictOn cs lines start end (and_then v w)
    verdict-joins (Line n) w p q = fails_first n p
    verdict-joins Accepted (Line n) p q = fails_second n p.0 q
    verdict-joins Accepted Accepted p q = (pass p.0 q.0, first p.1)
    verdict-joins Accepted NoEmptyClause p q = (pass p.0 q.0, first p.1)
    verdict-joins NoEmptyClause (Line n) p q = fails_second n p.0 q
    verdict-joins NoEmptyClause Accepted p q = (pass p.0 q.0, second q.1)
    verdict-joins NoEmptyClause NoEmptyClause p q = (pass p.0 q.0, none p.1 q.1)

-- parts rise
pub covers-rise : (start end : ℕ) (parts : List Part) → Covers start end parts → start ≤ end
covers-rise start end [] c = omega (arith, c)
covers-rise start end (p ∷ parts) c = let more = covers-rise p.end end parts c.2 in omega (arith, c.0, c.1, more)

-- one part more
pub covers-more : (start middle : ℕ) (parts : List Part) (p : Part) → Covers start middle parts → p.start ≡ middle → p.start ≤ p.end → Covers start p.end (parts ++ p ∷ [])
covers-more start middle [] p c s l = (s ∙ sym c, l, refl)
covers-more start middle (q ∷ parts) p c s l = (c.0, c.1, covers-more q.end middle parts p c.2 s l)

pub parts-more : (lines : List Step) (parts : List Part) (p : Part) → All (IsPartOf lines) parts → IsPartOf lines p → All (IsPartOf lines) (parts ++ p ∷ [])
parts-more lines parts p all is = All-push (IsPartOf lines) parts p all is

-- the verdict on a front, and what is left
pub record Joined (cs : List (List Literal)) (lines : List Step) (start end : ℕ) (v : Verdict) (rest : List (Result Verdict AllocError)) : Type 0 where
  pub middle : ℕ
  pub low : start ≤ middle
  pub verdict : VerdictOn cs lines start middle v
  pub left : AreFound cs lines middle end rest

module _ (cs : List (List Literal)) (lines : List Step) (start end : ℕ) where
  pub Joined-none : (found : List (Result Verdict AllocError)) → AreFound cs lines start end found → Joined cs lines start end NoEmptyClause found
  Joined-none found f = record { middle = start; low = omega arith; verdict = verdict-none cs lines start; left = f }

  pub Joined-more : (v w : Verdict) (rest : List (Result Verdict AllocError)) → Joined cs lines start end v (Ok w ∷ rest) → Joined cs lines start end (and_then v w) rest
  Joined-more v w rest j =
      let low = j.low in
      let more = j.left in
      record {
        middle = more.0;
        low = let next = more.1 in omega arith;
        verdict = verdict-joins cs lines start j.middle more.0 low more.1 v w j.verdict more.2;
        left = more.3;
      }

  pub Joined-all : (v : Verdict) → Joined cs lines start end v [] → VerdictOn cs lines start end v
  Joined-all v j = subst (λ n. VerdictOn cs lines start n v) j.left j.verdict

-- the verdict on the first parts, and what is left
pub record Gone (cs : List (List Literal)) (lines : List Step) (start end : ℕ) (v : Verdict) (rest : List Part) : Type 0 where
  pub middle : ℕ
  pub low : start ≤ middle
  pub verdict : VerdictOn cs lines start middle v
  pub left : Covers middle end rest

module _ (cs : List (List Literal)) (lines : List Step) (start end : ℕ) where
  pub Gone-none : (parts : List Part) → Covers start end parts → Gone cs lines start end NoEmptyClause parts
  Gone-none parts c = record { middle = start; low = omega arith; verdict = verdict-none cs lines start; left = c }

  pub Gone-more : (v w : Verdict) (p : Part) (rest : List Part) → Gone cs lines start end v (p ∷ rest) → VerdictOn cs lines p.start p.end w → Gone cs lines start end (and_then v w) rest
  Gone-more v w p rest g on =
      let low = g.low in
      let at = g.left.0 in
      let order = g.left.1 in
      record {
        middle = p.end;
        low = omega arith;
        verdict = verdict-joins cs lines start g.middle p.end low (omega arith) v w g.verdict (subst (λ n. VerdictOn cs lines n p.end w) at on);
        left = g.left.2;
      }

  pub Gone-all : (v : Verdict) → Gone cs lines start end v [] → VerdictOn cs lines start end v
  Gone-all v g = subst (λ n. VerdictOn cs lines start n v) g.left g.verdict

-- what is found on each part is what is found on part after part
abbrev pub FoundOn : List (List Literal) → List Step → Part → Result Verdict AllocError → Type 0
FoundOn cs lines p found = IfOk found (VerdictOn cs lines p.start p.end)

pub are_found : (cs : List (List Literal)) (lines : List Step) (start end : ℕ) (parts : List Part) (found : List (Result Verdict AllocError)) → Covers start end parts → length found ≡ length parts
    → ((n : ℕ) (p : Part) (r : Result Verdict AllocError) → n < length found → FoundOn cs lines (slice_index_or parts n p) (slice_index_or found n r)) → AreFound cs lines start end found
are_found cs lines start end [] [] c len each = c
are_found cs lines start end [] (r ∷ found) c len each = absurd (omega arith)
are_found cs lines start end (p ∷ parts) [] c len each = absurd (omega arith)
are_found cs lines start end (p ∷ parts) (r ∷ found) c len each =
    go r (each 0 p r (omega arith)) (are_found cs lines p.end end parts found c.2 (omega arith) (λ n q s lt. each (suc n) q s (omega arith)))
  where
    rises : start ≤ p.end
    rises = let at = c.0 in let order = c.1 in omega arith

    go : (r : Result Verdict AllocError) → FoundOn cs lines p r → AreFound cs lines p.end end found → AreFound cs lines start end (r ∷ found)
    go (Ok v) on more = (p.end, rises, subst (λ n. VerdictOn cs lines n p.end v) c.0 on, more)
    go (Err e) on more = (p.end, rises, more)

-- a chunk of one part
pub one_part : (parts chunk : List Part) (n : ℕ) (p : Part) → chunk ≡ take 1 (drop (n * 1) parts) → n < length parts → chunk ≡ slice_index_or parts n p ∷ []
one_part parts chunk n p is lt =
    let at : n * 1 ≡ n = omega arith in
    is ∙ ap (λ k. take 1 (drop k parts)) at ∙ ap (take 1) (drop_more parts n p lt)

-- what is found on a chunk of one part
pub on_part : (cs : List (List Literal)) (lines : List Step) (parts chunk : List Part) (n : ℕ) (p : Part) (r : Result Verdict AllocError)
    → chunk ≡ take 1 (drop (n * 1) parts) → n < length parts → All (IsPartOf lines) parts
    → ((start end : ℕ) → Covers start end chunk → IfOk r (VerdictOn cs lines start end)) → FoundOn cs lines (slice_index_or parts n p) r
on_part cs lines parts chunk n p r is lt all on =
    let q = slice_index_or parts n p in
    on q.start q.end (subst (Covers q.start q.end) (sym (one_part parts chunk n p is lt)) (refl, (all n p lt).0, refl))
