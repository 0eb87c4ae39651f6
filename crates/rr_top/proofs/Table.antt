-- Each command of the table has one outcome, and all but `repair` and `make` write no file.
use Rattle.std.proofs.Common.{◌≡◌, ◌∙◌, ◌⊎◌, inl, inr, ℕ, List, [], ◌∷◌, refl, ap, Option}
use Rattle.rr_words.specs.Plan.{Plan, repair, run, sites, check, make, lint}
use Rattle.rr_kept.specs.Read.{SourceFile}
use Rattle.rr_choice.specs.Sites.{Site}
use Rattle.rr_trace.specs.Tables.{Table}
use Rattle.rr_run.specs.declared.rows.TableKind.{TableKind}
use Rattle.rr_run.specs.Files.{IsFileRun}
use Rattle.rr_run.proofs.FileOnce.{file_run_or_refusal, one_file_refused, one_file_run}
use Rattle.rr_sites_command.specs.Lists.{IsSiteText}
use Rattle.rr_sites_command.proofs.Once as listing
use Rattle.rr_lint_file.specs.Files.{IsMendedFile}
use Rattle.rr_lint_file.proofs.Once as mending
use Rattle.rr_check_certificate.specs.declared.fault.Flaw.{Flaw}
use Rattle.rr_check_certificate.specs.Certificates.{IsJudged}
use Rattle.rr_check_certificate.proofs.Certified.{same_verdict, verdict_or_flaw, same_flaw}
use Rattle.rr_check.specs.declared.verdict.Verdict.{Verdict}
use Rattle.rr_endings.specs.Found.{Answer}
use Rattle.rr_endings.specs.Refusals.{Refusal, TooManyBytes, Input, Flawed}
use Rattle.rr_repair.specs.Repairs.{AnswersRepair, IsTaken, RefusesRepair, PlainRequest}
use Rattle.rr_outcomes.specs.Laws.{TellsOutcome}
use Rattle.rr_outcomes.specs.Outcomes.{IsLeftOpen}
use Rattle.rr_outcomes.proofs.Once.{mendable_or_not, one_refusal as one_repair_refusal, taken_or_refused}
use Rattle.rr_outcomes.proofs.Told.{each_answer, printed_is_mendable}
use Rattle.rr_made_input.specs.Made.{made_design, made_table}
use Rattle.rr_make.specs.Makes.{RefusesMake, TellsMake, made_request}
use Rattle.rr_make.proofs.Once.{each_make, one_summary, summary_or_none}
use Rattle.rr_top.specs.Outcomes.{Outcome, mended, unmendable, ran, listed, checked, made, linted, IsToldBy}
use Rattle.rr_top.specs.Kinds.{kind_of}
use Rattle.rr_top.specs.Commands.{AnswersCheck, AnswersLint, AnswersRun, AnswersSites, ComesToCheck, ComesToLint, ComesToMake, ComesToRepair, ComesToRun, ComesToSites, HasOneOutcome, IsSameRefusal, RefusesCertificate, RefusesLint, RefusesSiteList, RefusesTexts, AsksRepair, IsOfRepair, TellsOrLeavesOpen, WhereOne, WhereTwo, WritesNothing, request, check_command, command_of_plan, repair_command, run_command, make_command, sites_command, lint_command}

-- what facts about the same two files give
both : {X : Type 0} (files : List (List ℕ)) (P Q : List ℕ → List ℕ → Type 0) → WhereTwo files P → WhereTwo files Q → ((a b : List ℕ) → P a b → Q a b → X) → X
both [] P Q p q f = absurd p
both (a ∷ []) P Q p q f = absurd p
both (a ∷ (b ∷ [])) P Q p q f = f a b p q
both (a ∷ (b ∷ (c ∷ files))) P Q p q f = absurd p

-- .. and what follows for some value from a fact about them
record SomeTold (answer : Answer) (P : Outcome → Type 0) : Type 0 where
  outcome : Outcome
  holds : P outcome
  told : IsToldBy outcome answer

each_two : (files : List (List ℕ)) (answer : Answer) (P : List ℕ → List ℕ → Type 0) (Q : List ℕ → List ℕ → Outcome → Type 0) → WhereTwo files P → ((a b : List ℕ) → P a b → SomeTold answer (Q a b))
    → (outcome : Outcome) × (WhereTwo files (λ a b. Q a b outcome) × IsToldBy outcome answer)
each_two [] answer P Q p f = absurd p
each_two (a ∷ []) answer P Q p f = absurd p
each_two (a ∷ (b ∷ [])) answer P Q p f = let some = f a b p in (some.outcome, (some.holds, some.told))
each_two (a ∷ (b ∷ (c ∷ files))) answer P Q p f = absurd p

of_two : {X : Type 0} (files : List (List ℕ)) (P : List ℕ → List ℕ → Type 0) → WhereTwo files P → ((a b : List ℕ) → P a b → X) → X
of_two files P p f = both files P P p p (λ a b u v. f a b u)

-- the same of one file
both_of_one : {X : Type 0} (files : List (List ℕ)) (P Q : List ℕ → Type 0) → WhereOne files P → WhereOne files Q → ((a : List ℕ) → P a → Q a → X) → X
both_of_one [] P Q p q f = absurd p
both_of_one (a ∷ []) P Q p q f = f a p q
both_of_one (a ∷ (b ∷ files)) P Q p q f = absurd p

told_of_one : (files : List (List ℕ)) (answer : Answer) (P : List ℕ → Type 0) (Q : List ℕ → Outcome → Type 0) → WhereOne files P → ((a : List ℕ) → P a → SomeTold answer (Q a))
    → (outcome : Outcome) × (WhereOne files (λ a. Q a outcome) × IsToldBy outcome answer)
told_of_one [] answer P Q p f = absurd p
told_of_one (a ∷ []) answer P Q p f = let some = f a p in (some.outcome, (some.holds, some.told))
told_of_one (a ∷ (b ∷ files)) answer P Q p f = absurd p

-- ---- `repair`
module _ (w : PlainRequest) (design table : List ℕ) where
  repair_refusals : (a b : Refusal) → RefusesRepair w design table a → RefusesRepair w design table b → IsSameRefusal a b
  repair_refusals (TooManyBytes n) b p q = absurd p
  repair_refusals (Flawed f n) b p q = absurd p
  repair_refusals (Input r) (TooManyBytes n) p q = absurd q
  repair_refusals (Input r) (Flawed f n) p q = absurd q
  repair_refusals (Input r) (Input s) p q = inr (r, (s, (refl, (refl, one_repair_refusal w design table r s p q))))

  not_refused : {file : SourceFile} {ss : List Site} {rows : Table} (a : Refusal) → IsTaken w design table file ss rows → RefusesRepair w design table a → ⊥
  not_refused (TooManyBytes n) taken r = r
  not_refused (Flawed f n) taken r = r
  not_refused {file} {ss} {rows} (Input refusal) taken r = taken_or_refused w design table file ss rows refusal taken r

  repair_or_refused : (v : Outcome) (a : Refusal) → ComesToRepair w design table v → RefusesRepair w design table a → ⊥
  repair_or_refused mended a u r = not_refused a u.taken r
  repair_or_refused unmendable a u r = not_refused a u.taken r
  repair_or_refused (ran text) a u r = u
  repair_or_refused (listed text) a u r = u
  repair_or_refused (checked verdict) a u r = u
  repair_or_refused (made text) a u r = u
  repair_or_refused (linted text) a u r = u

  repair_outcome : (v u : Outcome) → ComesToRepair w design table v → ComesToRepair w design table u → v ≡ u
  repair_outcome mended mended p q = refl
  repair_outcome mended unmendable p q = absurd (mendable_or_not w design table p q)
  repair_outcome mended (ran text) p q = absurd q
  repair_outcome mended (listed text) p q = absurd q
  repair_outcome mended (checked verdict) p q = absurd q
  repair_outcome mended (made text) p q = absurd q
  repair_outcome mended (linted text) p q = absurd q
  repair_outcome unmendable mended p q = absurd (mendable_or_not w design table q p)
  repair_outcome unmendable unmendable p q = refl
  repair_outcome unmendable (ran text) p q = absurd q
  repair_outcome unmendable (listed text) p q = absurd q
  repair_outcome unmendable (checked verdict) p q = absurd q
  repair_outcome unmendable (made text) p q = absurd q
  repair_outcome unmendable (linted text) p q = absurd q
  repair_outcome (ran text) u p q = absurd p
  repair_outcome (listed text) u p q = absurd p
  repair_outcome (checked verdict) u p q = absurd p
  repair_outcome (made text) u p q = absurd p
  repair_outcome (linted text) u p q = absurd p

  -- an answer tells the outcome or leaves it open
  repair_told : (answer : Answer) → TellsOutcome w design table answer → SomeTold answer (ComesToRepair w design table) ⊎ IsLeftOpen w design table answer
  repair_told answer (inl t) = inl (record { outcome = mended; holds = t.1.0; told = record { status = t.1.1; tells = tt } })
  repair_told answer (inr (inl t)) = inl (record { outcome = unmendable; holds = t.1.0; told = record { status = t.1.1; tells = t.0.is.printed } })
  repair_told answer (inr (inr t)) = inr t.0

  -- what a repair comes to is an outcome of a repair
  repair_alone : (v : Outcome) → ComesToRepair w design table v → IsOfRepair v
  repair_alone mended p = tt
  repair_alone unmendable p = tt
  repair_alone (ran text) p = p
  repair_alone (listed text) p = p
  repair_alone (checked verdict) p = p
  repair_alone (made text) p = absurd p
  repair_alone (linted text) p = p

module _ (d t : List ℕ) (w : PlainRequest) where
  repair_answered : (files : List (List ℕ)) (answer : Answer) → WhereTwo files (λ x y. AnswersRepair w x y answer) → TellsOrLeavesOpen (repair_command d t w) files answer
  repair_answered [] answer a = absurd a
  repair_answered (x ∷ []) answer a = absurd a
  repair_answered (x ∷ (y ∷ [])) answer a = elim (repair_told w x y answer (each_answer w x y answer a)) [
    | inl some ↦ inl (some.outcome, (some.holds, some.told))
    | inr left ↦ inr left
  ]
  repair_answered (x ∷ (y ∷ (z ∷ files))) answer a = absurd a

  repair_printed : (files : List (List ℕ)) (answer : Answer) → WhereTwo files (λ x y. IsLeftOpen w x y answer) → (answer.out ≡ []) ⊎ WhereTwo files (λ x y. ComesToRepair w x y mended)
  repair_printed [] answer a = absurd a
  repair_printed (x ∷ []) answer a = absurd a
  repair_printed (x ∷ (y ∷ [])) answer a = printed_is_mendable w x y answer a
  repair_printed (x ∷ (y ∷ (z ∷ files))) answer a = absurd a

  repair_one : HasOneOutcome (repair_command d t w)
  repair_one = record {
    one_refusal = λ files a b p q. both files (λ x y. RefusesRepair w x y a) (λ x y. RefusesRepair w x y b) p q (λ x y u v. repair_refusals w x y a b u v);
    done_or_refused = λ files v a p q. both files (λ x y. ComesToRepair w x y v) (λ x y. RefusesRepair w x y a) p q (λ x y u r. repair_or_refused w x y v a u r);
    one_outcome = λ files v u p q. both files (λ x y. ComesToRepair w x y v) (λ x y. ComesToRepair w x y u) p q (λ x y a b. repair_outcome w x y v u a b);
    answered = repair_answered;
    open_status = λ files answer a. of_two files (λ x y. IsLeftOpen w x y answer) a (λ x y u. u.is.status);
    open_printed = repair_printed;
    open_or_refused = λ files answer a p q. both files (λ x y. IsLeftOpen w x y answer) (λ x y. RefusesRepair w x y a) p q (λ x y u r. not_refused w x y a u.taken r);
    open_outcome = λ files answer v p q. both files (λ x y. IsLeftOpen w x y answer) (λ x y. ComesToRepair w x y v) p q (λ x y u r. repair_alone w x y v r);
  }

-- ---- `run`
module _ (kind : TableKind) (top clock : Option (List ℕ)) (design table : List ℕ) where
  run_refusals : (a b : Refusal) → RefusesTexts kind top clock design table a → RefusesTexts kind top clock design table b → IsSameRefusal a b
  run_refusals (TooManyBytes n) b p q = absurd p
  run_refusals (Flawed f n) b p q = absurd p
  run_refusals (Input r) (TooManyBytes n) p q = absurd q
  run_refusals (Input r) (Flawed f n) p q = absurd q
  run_refusals (Input r) (Input s) p q = inr (r, (s, (refl, (refl, one_file_refused design top clock kind table r s p q))))

  ran_or_refused : (text : List ℕ) (a : Refusal) → IsFileRun kind design table top clock text → RefusesTexts kind top clock design table a → ⊥
  ran_or_refused text (TooManyBytes n) p q = q
  ran_or_refused text (Flawed f n) p q = q
  ran_or_refused text (Input r) p q = file_run_or_refusal design top clock kind table text r p q

  run_or_refused : (v : Outcome) (a : Refusal) → ComesToRun kind top clock design table v → RefusesTexts kind top clock design table a → ⊥
  run_or_refused mended a u r = u
  run_or_refused unmendable a u r = u
  run_or_refused (ran text) a u r = ran_or_refused text a u r
  run_or_refused (listed text) a u r = u
  run_or_refused (checked verdict) a u r = u
  run_or_refused (made text) a u r = u
  run_or_refused (linted text) a u r = u

  run_outcome : (v w : Outcome) → ComesToRun kind top clock design table v → ComesToRun kind top clock design table w → v ≡ w
  run_outcome mended w p q = absurd p
  run_outcome unmendable w p q = absurd p
  run_outcome (listed text) w p q = absurd p
  run_outcome (checked verdict) w p q = absurd p
  run_outcome (made text) w p q = absurd p
  run_outcome (linted text) w p q = absurd p
  run_outcome (ran text) mended p q = absurd q
  run_outcome (ran text) unmendable p q = absurd q
  run_outcome (ran text) (listed other) p q = absurd q
  run_outcome (ran text) (checked verdict) p q = absurd q
  run_outcome (ran text) (made other) p q = absurd q
  run_outcome (ran text) (linted other) p q = absurd q
  run_outcome (ran text) (ran other) p q = ap (λ (x : List ℕ). ran x) (one_file_run design top clock kind table text other p q)

  run_told : (answer : Answer) → AnswersRun kind top clock design table answer → SomeTold answer (ComesToRun kind top clock design table)
  run_told answer a = record { outcome = ran answer.out; holds = a.ran; told = record { status = a.status; tells = (refl, a.notes) } }

module _ (d t : List ℕ) (top clock : Option (List ℕ)) where
  run_one : HasOneOutcome (run_command d t top clock)
  run_one = record {
    one_refusal = λ files a b p q. both files (λ x y. RefusesTexts (kind_of t) top clock x y a) (λ x y. RefusesTexts (kind_of t) top clock x y b) p q (λ x y u v. run_refusals (kind_of t) top clock x y a b u v);
    done_or_refused = λ files v a p q. both files (λ x y. ComesToRun (kind_of t) top clock x y v) (λ x y. RefusesTexts (kind_of t) top clock x y a) p q (λ x y u r. run_or_refused (kind_of t) top clock x y v a u r);
    one_outcome = λ files v w p q. both files (λ x y. ComesToRun (kind_of t) top clock x y v) (λ x y. ComesToRun (kind_of t) top clock x y w) p q (λ x y u z. run_outcome (kind_of t) top clock x y v w u z);
    answered = λ files answer a. inl (each_two files answer (λ x y. AnswersRun (kind_of t) top clock x y answer) (λ x y v. ComesToRun (kind_of t) top clock x y v) a (λ x y u. run_told (kind_of t) top clock x y answer u));
    open_status = λ files answer left. absurd left;
    open_printed = λ files answer left. absurd left;
    open_or_refused = λ files answer refusal left refused. left;
    open_outcome = λ files answer outcome left comes. absurd left;
  }

  run_writes : WritesNothing (run_command d t top clock)
  run_writes = record { files = λ files answer a. of_two files (λ x y. AnswersRun (kind_of t) top clock x y answer) a (λ x y u. u.files); decides = λ files answer left. left }

-- ---- `sites`
module _ (top clock : Option (List ℕ)) (design : List ℕ) where
  sites_refusals : (a b : Refusal) → RefusesSiteList top clock design a → RefusesSiteList top clock design b → IsSameRefusal a b
  sites_refusals (TooManyBytes n) b p q = absurd p
  sites_refusals (Flawed f n) b p q = absurd p
  sites_refusals (Input r) (TooManyBytes n) p q = absurd q
  sites_refusals (Input r) (Flawed f n) p q = absurd q
  sites_refusals (Input r) (Input s) p q = inr (r, (s, (refl, (refl, listing.one_refusal design top clock r s p q))))

  listed_or_refused : (text : List ℕ) (a : Refusal) → IsSiteText design top clock text → RefusesSiteList top clock design a → ⊥
  listed_or_refused text (TooManyBytes n) p q = q
  listed_or_refused text (Flawed f n) p q = q
  listed_or_refused text (Input r) p q = listing.text_or_refusal design top clock text r p q

  sites_or_refused : (v : Outcome) (a : Refusal) → ComesToSites top clock design v → RefusesSiteList top clock design a → ⊥
  sites_or_refused mended a u r = u
  sites_or_refused unmendable a u r = u
  sites_or_refused (ran text) a u r = u
  sites_or_refused (listed text) a u r = listed_or_refused text a u r
  sites_or_refused (checked verdict) a u r = u
  sites_or_refused (made text) a u r = u
  sites_or_refused (linted text) a u r = u

  sites_outcome : (v w : Outcome) → ComesToSites top clock design v → ComesToSites top clock design w → v ≡ w
  sites_outcome mended w p q = absurd p
  sites_outcome unmendable w p q = absurd p
  sites_outcome (ran text) w p q = absurd p
  sites_outcome (checked verdict) w p q = absurd p
  sites_outcome (made text) w p q = absurd p
  sites_outcome (linted text) w p q = absurd p
  sites_outcome (listed text) mended p q = absurd q
  sites_outcome (listed text) unmendable p q = absurd q
  sites_outcome (listed text) (ran other) p q = absurd q
  sites_outcome (listed text) (checked verdict) p q = absurd q
  sites_outcome (listed text) (made other) p q = absurd q
  sites_outcome (listed text) (linted other) p q = absurd q
  sites_outcome (listed text) (listed other) p q = ap (λ (x : List ℕ). listed x) (listing.one_text design top clock text other p q)

  sites_told : (answer : Answer) → AnswersSites top clock design answer → SomeTold answer (ComesToSites top clock design)
  sites_told answer a = record { outcome = listed answer.out; holds = a.lists; told = record { status = a.status; tells = (refl, a.notes) } }

module _ (d : List ℕ) (top clock : Option (List ℕ)) where
  sites_one : HasOneOutcome (sites_command d top clock)
  sites_one = record {
    one_refusal = λ files a b p q. both_of_one files (λ x. RefusesSiteList top clock x a) (λ x. RefusesSiteList top clock x b) p q (λ x u v. sites_refusals top clock x a b u v);
    done_or_refused = λ files v a p q. both_of_one files (λ x. ComesToSites top clock x v) (λ x. RefusesSiteList top clock x a) p q (λ x u r. sites_or_refused top clock x v a u r);
    one_outcome = λ files v w p q. both_of_one files (λ x. ComesToSites top clock x v) (λ x. ComesToSites top clock x w) p q (λ x u z. sites_outcome top clock x v w u z);
    answered = λ files answer a. inl (told_of_one files answer (λ x. AnswersSites top clock x answer) (λ x v. ComesToSites top clock x v) a (λ x u. sites_told top clock x answer u));
    open_status = λ files answer left. absurd left;
    open_printed = λ files answer left. absurd left;
    open_or_refused = λ files answer refusal left refused. left;
    open_outcome = λ files answer outcome left comes. absurd left;
  }

  sites_writes : WritesNothing (sites_command d top clock)
  sites_writes = record { files = λ files answer a. both_of_one files (λ x. AnswersSites top clock x answer) (λ x. AnswersSites top clock x answer) a a (λ x u v. u.files); decides = λ files answer left. left }

-- ---- `check`
module _ (circuit proof : List ℕ) where
  check_refusals : (a b : Refusal) → RefusesCertificate circuit proof a → RefusesCertificate circuit proof b → IsSameRefusal a b
  check_refusals (TooManyBytes n) b p q = absurd p
  check_refusals (Input r) b p q = absurd p
  check_refusals (Flawed f n) (TooManyBytes m) p q = absurd q
  check_refusals (Flawed f n) (Input r) p q = absurd q
  check_refusals (Flawed f n) (Flawed g m) p q =
      let one = same_flaw circuit proof f g n m p q in
      inl (ap (λ (x : Flaw). Flawed x n) one.flaw ∙ ap (λ (k : ℕ). Flawed g k) one.line)

  judged_or_refused : (v : Verdict) (a : Refusal) → IsJudged circuit proof v → RefusesCertificate circuit proof a → ⊥
  judged_or_refused v (TooManyBytes n) p q = q
  judged_or_refused v (Input r) p q = q
  judged_or_refused v (Flawed f n) p q = verdict_or_flaw circuit proof v f n p q

  check_or_refused : (v : Outcome) (a : Refusal) → ComesToCheck circuit proof v → RefusesCertificate circuit proof a → ⊥
  check_or_refused mended a u r = u
  check_or_refused unmendable a u r = u
  check_or_refused (ran text) a u r = u
  check_or_refused (listed text) a u r = u
  check_or_refused (checked verdict) a u r = judged_or_refused verdict a u r
  check_or_refused (made text) a u r = u
  check_or_refused (linted text) a u r = u

  check_outcome : (v w : Outcome) → ComesToCheck circuit proof v → ComesToCheck circuit proof w → v ≡ w
  check_outcome mended w p q = absurd p
  check_outcome unmendable w p q = absurd p
  check_outcome (ran text) w p q = absurd p
  check_outcome (listed text) w p q = absurd p
  check_outcome (made text) w p q = absurd p
  check_outcome (linted text) w p q = absurd p
  check_outcome (checked v) mended p q = absurd q
  check_outcome (checked v) unmendable p q = absurd q
  check_outcome (checked v) (ran text) p q = absurd q
  check_outcome (checked v) (listed text) p q = absurd q
  check_outcome (checked v) (made text) p q = absurd q
  check_outcome (checked v) (linted text) p q = absurd q
  check_outcome (checked v) (checked w) p q = ap (λ (x : Verdict). checked x) (same_verdict circuit proof v w p q)

  check_told : (answer : Answer) → AnswersCheck circuit proof answer → SomeTold answer (ComesToCheck circuit proof)
  check_told answer a = record { outcome = checked a.verdict; holds = a.judged; told = record { status = a.tells.status; tells = (a.tells.printed, a.tells.notes) } }

module _ (c f : List ℕ) where
  check_one : HasOneOutcome (check_command c f)
  check_one = record {
    one_refusal = λ files a b p q. both files (λ x y. RefusesCertificate x y a) (λ x y. RefusesCertificate x y b) p q (λ x y u v. check_refusals x y a b u v);
    done_or_refused = λ files v a p q. both files (λ x y. ComesToCheck x y v) (λ x y. RefusesCertificate x y a) p q (λ x y u r. check_or_refused x y v a u r);
    one_outcome = λ files v w p q. both files (λ x y. ComesToCheck x y v) (λ x y. ComesToCheck x y w) p q (λ x y u z. check_outcome x y v w u z);
    answered = λ files answer a. inl (each_two files answer (λ x y. AnswersCheck x y answer) (λ x y v. ComesToCheck x y v) a (λ x y u. check_told x y answer u));
    open_status = λ files answer left. absurd left;
    open_printed = λ files answer left. absurd left;
    open_or_refused = λ files answer refusal left refused. left;
    open_outcome = λ files answer outcome left comes. absurd left;
  }

  check_writes : WritesNothing (check_command c f)
  check_writes = record { files = λ files answer a. of_two files (λ x y. AnswersCheck x y answer) a (λ x y u. u.tells.files); decides = λ files answer left. left }

-- ---- `make`
module _ (seed : ℕ) (cert : List ℕ) where
  make_not_refused : {file : SourceFile} {ss : List Site} {rows : Table} (a : Refusal) → IsTaken (made_request cert) (made_design seed) (made_table seed) file ss rows
      → RefusesMake seed cert a → ⊥
  make_not_refused a taken r = not_refused (made_request cert) (made_design seed) (made_table seed) a taken r

  make_or_refused : (v : Outcome) (a : Refusal) → ComesToMake seed cert v → RefusesMake seed cert a → ⊥
  make_or_refused mended a u r = u
  make_or_refused unmendable a u r = make_not_refused a u.taken r
  make_or_refused (ran text) a u r = u
  make_or_refused (listed text) a u r = u
  make_or_refused (checked verdict) a u r = u
  make_or_refused (made text) a u r = make_not_refused a u.1.1.taken r
  make_or_refused (linted text) a u r = u

  make_outcome : (v w : Outcome) → ComesToMake seed cert v → ComesToMake seed cert w → v ≡ w
  make_outcome mended w p q = absurd p
  make_outcome (ran text) w p q = absurd p
  make_outcome (listed text) w p q = absurd p
  make_outcome (checked verdict) w p q = absurd p
  make_outcome unmendable mended p q = absurd q
  make_outcome unmendable unmendable p q = refl
  make_outcome unmendable (ran text) p q = absurd q
  make_outcome unmendable (listed text) p q = absurd q
  make_outcome unmendable (checked verdict) p q = absurd q
  make_outcome unmendable (made text) p q = absurd (summary_or_none seed cert text q p)
  make_outcome unmendable (linted text) p q = absurd q
  make_outcome (made text) mended p q = absurd q
  make_outcome (made text) unmendable p q = absurd (summary_or_none seed cert text p q)
  make_outcome (made text) (ran other) p q = absurd q
  make_outcome (made text) (listed other) p q = absurd q
  make_outcome (made text) (checked verdict) p q = absurd q
  make_outcome (made text) (made other) p q = ap (λ (x : List ℕ). made x) (one_summary seed cert text other p q)
  make_outcome (made text) (linted other) p q = absurd q
  make_outcome (linted text) w p q = absurd p

  make_told : (files : List (List ℕ)) (answer : Answer) → TellsMake seed cert answer → TellsOrLeavesOpen (make_command seed cert) files answer
  make_told files answer (inl t) = inl (made answer.out, (t.1.0, record { status = t.1.1; tells = (refl, t.0.notes) }))
  make_told files answer (inr (inl t)) = inl (unmendable, (t.1.0, record { status = t.1.1; tells = t.0.is.printed }))
  make_told files answer (inr (inr t)) = inr t.0

  make_alone : (v : Outcome) → ComesToMake seed cert v → IsOfRepair v
  make_alone mended p = tt
  make_alone unmendable p = tt
  make_alone (ran text) p = p
  make_alone (listed text) p = p
  make_alone (checked verdict) p = p
  make_alone (made text) p = tt
  make_alone (linted text) p = p

  make_one : HasOneOutcome (make_command seed cert)
  make_one = record {
    one_refusal = λ files a b p q. repair_refusals (made_request cert) (made_design seed) (made_table seed) a b p q;
    done_or_refused = λ files v a p q. make_or_refused v a p q;
    one_outcome = λ files v w p q. make_outcome v w p q;
    answered = λ files answer a. make_told files answer (each_make seed cert answer a);
    open_status = λ files answer left. left.status;
    open_printed = λ files answer left. inl left.printed;
    open_or_refused = λ files answer a left refused. make_not_refused a left.left.taken refused;
    open_outcome = λ files answer v left comes. make_alone v comes;
  }

-- ---- `lint`
module _ (top : Option (List ℕ)) (design : List ℕ) where
  lint_refusals : (a b : Refusal) → RefusesLint top design a → RefusesLint top design b → IsSameRefusal a b
  lint_refusals (TooManyBytes n) b p q = absurd p
  lint_refusals (Flawed f n) b p q = absurd p
  lint_refusals (Input r) (TooManyBytes n) p q = absurd q
  lint_refusals (Input r) (Flawed f n) p q = absurd q
  lint_refusals (Input r) (Input s) p q = inr (r, (s, (refl, (refl, mending.one_refusal design top r s p q))))

  linted_or_refused : (text : List ℕ) (a : Refusal) → IsMendedFile design top text → RefusesLint top design a → ⊥
  linted_or_refused text (TooManyBytes n) p q = q
  linted_or_refused text (Flawed f n) p q = q
  linted_or_refused text (Input r) p q = mending.text_or_refusal design top text r p q

  lint_or_refused : (v : Outcome) (a : Refusal) → ComesToLint top design v → RefusesLint top design a → ⊥
  lint_or_refused mended a u r = u
  lint_or_refused unmendable a u r = u
  lint_or_refused (ran text) a u r = u
  lint_or_refused (listed text) a u r = u
  lint_or_refused (checked verdict) a u r = u
  lint_or_refused (made text) a u r = u
  lint_or_refused (linted text) a u r = linted_or_refused text a u r

  lint_outcome : (v w : Outcome) → ComesToLint top design v → ComesToLint top design w → v ≡ w
  lint_outcome mended w p q = absurd p
  lint_outcome unmendable w p q = absurd p
  lint_outcome (ran text) w p q = absurd p
  lint_outcome (listed text) w p q = absurd p
  lint_outcome (checked verdict) w p q = absurd p
  lint_outcome (made text) w p q = absurd p
  lint_outcome (linted text) mended p q = absurd q
  lint_outcome (linted text) unmendable p q = absurd q
  lint_outcome (linted text) (ran other) p q = absurd q
  lint_outcome (linted text) (listed other) p q = absurd q
  lint_outcome (linted text) (checked verdict) p q = absurd q
  lint_outcome (linted text) (made other) p q = absurd q
  lint_outcome (linted text) (linted other) p q = ap (λ (x : List ℕ). linted x) (mending.one_text design top text other p q)

  lint_told : (answer : Answer) → AnswersLint top design answer → SomeTold answer (ComesToLint top design)
  lint_told answer a = record { outcome = linted answer.out; holds = a.mends; told = record { status = a.status; tells = (refl, a.notes) } }

module _ (d : List ℕ) (top : Option (List ℕ)) where
  lint_one : HasOneOutcome (lint_command d top)
  lint_one = record {
    one_refusal = λ files a b p q. both_of_one files (λ x. RefusesLint top x a) (λ x. RefusesLint top x b) p q (λ x u v. lint_refusals top x a b u v);
    done_or_refused = λ files v a p q. both_of_one files (λ x. ComesToLint top x v) (λ x. RefusesLint top x a) p q (λ x u r. lint_or_refused top x v a u r);
    one_outcome = λ files v w p q. both_of_one files (λ x. ComesToLint top x v) (λ x. ComesToLint top x w) p q (λ x u z. lint_outcome top x v w u z);
    answered = λ files answer a. inl (told_of_one files answer (λ x. AnswersLint top x answer) (λ x v. ComesToLint top x v) a (λ x u. lint_told top x answer u));
    open_status = λ files answer left. absurd left;
    open_printed = λ files answer left. absurd left;
    open_or_refused = λ files answer refusal left refused. left;
    open_outcome = λ files answer outcome left comes. absurd left;
  }

  lint_writes : WritesNothing (lint_command d top)
  lint_writes = record { files = λ files answer a. both_of_one files (λ x. AnswersLint top x answer) (λ x. AnswersLint top x answer) a a (λ x u v. u.files); decides = λ files answer left. left }

-- ---- the table
pub one_in_table : (plan : Plan) → HasOneOutcome (command_of_plan plan)
one_in_table (repair d t cert top clock budget members) = repair_one d t (request t cert top clock budget members)
one_in_table (run d t top clock) = run_one d t top clock
one_in_table (sites d top clock) = sites_one d top clock
one_in_table (check c p) = check_one c p
one_in_table (make s c) = make_one s c
one_in_table (lint d top) = lint_one d top

pub writes_nothing : (plan : Plan) → (AsksRepair plan → ⊥) → WritesNothing (command_of_plan plan)
writes_nothing (repair d t cert top clock budget members) none = absurd (none tt)
writes_nothing (run d t top clock) none = run_writes d t top clock
writes_nothing (sites d top clock) none = sites_writes d top clock
writes_nothing (check c p) none = check_writes c p
writes_nothing (make s c) none = absurd (none tt)
writes_nothing (lint d top) none = lint_writes d top

-- only `repair` and `make` leave open what they come to
pub left_asks : (plan : Plan) (files : List (List ℕ)) (answer : Answer) → (command_of_plan plan).leaves_open files answer → AsksRepair plan
left_asks (repair d t cert top clock budget members) files answer left = tt
left_asks (run d t top clock) files answer left = left
left_asks (sites d top clock) files answer left = left
left_asks (check c p) files answer left = left
left_asks (make s c) files answer left = tt
left_asks (lint d top) files answer left = left
