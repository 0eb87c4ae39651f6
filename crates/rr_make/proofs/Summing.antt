-- What is done for a repair of the made input.
use Rattle.std.proofs.Common.{◌≡◌, ◌∙◌, inl, inr, ℕ, List, [], sym, ap, subst, arith}
use Rattle.rr_made_input.specs.Made.{made_design, made_table}
use Rattle.rr_endings.specs.Found.{Answer, File}
use Rattle.rr_repair.specs.Repairs.{Counts, CountsRepair}
use Rattle.rr_outcomes.specs.Laws.{TellsOutcome}
use Rattle.rr_outcomes.specs.Outcomes.{IsDespaired}
use Rattle.rr_outcomes.proofs.Told.{each_answer}
use Rattle.rr_make.specs.Makes.{AnswersMake, made_request, summary}

-- an answer that agrees with a repair's in all that is told
same_answer : (a b : Answer) → a.status ≡ b.status → a.files ≡ b.files → a.out ≡ b.out → a.notes ≡ b.notes → a ≡ b
same_answer a b s f o n =
    ap (λ x. told_by x a.files a.out a.notes) s ∙ ap (λ x. told_by b.status x a.out a.notes) f ∙ ap (λ x. told_by b.status b.files x a.notes) o ∙ ap (λ x. told_by b.status b.files b.out x) n
  where
    told_by : ℕ → List File → List ℕ → List ℕ → Answer
    told_by status files out notes = record { status = status; files = files; out = out; notes = notes }

module _ (seed : ℕ) (cert : List ℕ) (repair : Answer) (counts : Counts) (c : CountsRepair (made_request cert) (made_design seed) (made_table seed) repair counts) where
  told : TellsOutcome (made_request cert) (made_design seed) (made_table seed) repair
  told = each_answer (made_request cert) (made_design seed) (made_table seed) repair c.answers

  -- its status is 0
  made_of : (answer : Answer) → answer.status ≡ 0 → answer.files ≡ repair.files → answer.out ≡ summary seed counts → answer.notes ≡ [] → repair.status ≡ 0
      → TellsOutcome (made_request cert) (made_design seed) (made_table seed) repair → AnswersMake seed cert answer
  made_of answer s f o n zero (inl t) = inl (record { repair = repair; mended = t.0; counts = counts; are = c.are zero; files = f; printed = o; notes = n; status = s })
  made_of answer s f o n zero (inr (inl t)) = absurd (omega (arith, zero, t.1.1))
  made_of answer s f o n zero (inr (inr t)) = absurd (omega (arith, zero, t.1))

  pub made_told : (answer : Answer) → answer.status ≡ repair.status → answer.files ≡ repair.files → answer.out ≡ summary seed counts → answer.notes ≡ [] → repair.status ≡ 0
      → AnswersMake seed cert answer
  made_told answer s f o n zero = made_of answer (s ∙ zero) f o n zero told

  -- .. or another one
  other_of : (answer : Answer) → answer.status ≡ repair.status → answer.files ≡ repair.files → answer.out ≡ [] → answer.notes ≡ repair.notes → (repair.status ≡ 0 → ⊥)
      → TellsOutcome (made_request cert) (made_design seed) (made_table seed) repair → AnswersMake seed cert answer
  other_of answer s f o n some (inl t) = absurd (some t.1.1)
  other_of answer s f o n some (inr (inl t)) =
      inr (inl (subst (λ (a : Answer). IsDespaired (made_request cert) (made_design seed) (made_table seed) a) (sym (same_answer answer repair s f (o ∙ sym t.0.is.printed) n)) t.0))
  other_of answer s f o n some (inr (inr t)) =
      inr (inr (record { repair = repair; left = t.0; files = f; printed = o; notes = n; status = s ∙ t.1 }))

  pub other_told : (answer : Answer) → answer.status ≡ repair.status → answer.files ≡ repair.files → answer.out ≡ [] → answer.notes ≡ repair.notes → (repair.status ≡ 0 → ⊥)
      → AnswersMake seed cert answer
  other_told answer s f o n some = other_of answer s f o n some told
