-- What follows from how a run ends.
use Rattle.std.proofs.Common.{◌≡◌, ◌∙◌, ◌⊎◌, inl, inr, refl, sym, ap, subst, ◌<◌, ◌+◌, ℕ, List, [], ◌∷◌, length, arith}
use Rattle.std.specs.Prelude.{Option, Some, None, MatchOption}
use Rattle.std.specs.Io.KnownBytes.{Appends}
use Rattle.rr_edge.specs.Faults.{Faulted}
use Rattle.rr_edge.specs.Held.{Held}
use Rattle.rr_edge.specs.Sink.{AppendsFront}
use Rattle.rr_words.specs.Plan.{Plan, command_of, repair, run, sites, check, make, lint}
use Rattle.rr_words.specs.Plain.{IsPlain}
use Rattle.rr_words.specs.Usage.{usage_text}
use Rattle.rr_words.proofs.PlainCommands.{plain_command}
use Rattle.rr_run.specs.Refusals.{Refusal as RunRefusal}
use Rattle.rr_check.specs.declared.verdict.Verdict.{Verdict}
use Rattle.rr_check.specs.declared.verdict.Verdict.TheVariants as found
use Rattle.rr_check_certificate.specs.Texts.{verdict_text}
use Rattle.rr_check_certificate.proofs.Certified.{never_true}
use Rattle.rr_endings.specs.declared.ending.Ending.{Ending}
use Rattle.rr_endings.specs.declared.ending.Ending.TheVariants.{Usage, NoMemory, Absent, ReadFault, WriteFault, OutFault, Refused, Done}
use Rattle.rr_endings.specs.Endings.{status_of}
use Rattle.rr_endings.specs.Found.{Answer}
use Rattle.rr_endings.specs.Refusals.{Refusal, TooManyBytes, Input, Flawed, plain_refusal}
use Rattle.rr_endings.specs.Texts.{memory_text, refused_text}
use Rattle.rr_effects.specs.Outside.{KeepsShelf, KeepsOut}
use Rattle.rr_effects.specs.Reads.{AbsentAt, Given}
use Rattle.rr_effects.specs.Delivery.{Delivers, Reports}
use Rattle.rr_repair_output.specs.Texts.{unchanged_text}
use Rattle.rr_repair.specs.Repairs.{AnswersRepair, PlainRequest}
use Rattle.rr_outcomes.specs.Laws.{TellsOutcome}
use Rattle.rr_outcomes.specs.Outcomes.{IsAsItWas, IsMatchingSource}
use Rattle.rr_outcomes.proofs.Once.{matching_mends}
use Rattle.rr_outcomes.proofs.Told.{ample_settles, each_answer, matching_stays, prints_found}
use Rattle.rr_make.specs.Makes.{TellsMake}
use Rattle.rr_make.proofs.Once.{each_make}
use Rattle.rr_top.specs.Outcomes.{Outcome, mended, unmendable, ran, listed, checked, made, linted, IsToldBy, Tells, outcome_status, verdict_status}
use Rattle.rr_top.specs.Commands.{AsksRepair, BothGiven, Command, Due, HasOneOutcome, Refuses, command_of_plan, repair_command, request}
use Rattle.rr_top.specs.Expected.{Expected, absent, refused, unparsed, done, IsChecked, IsPlaced, Judges}
use Rattle.rr_top.specs.Endings.{CommandEnds}
use Rattle.rr_top.specs.Execution.{Ends, IsUsage, Execution, IsExecution, IsRepaired, IsBeyondRepair, IsUnsettled, HoldsFiles, HoldsFirst, LeavesOpen, AsksNoRepair, IsSimulated, IsListed, IsLinted, IsSummed, IsNotMade, IsUndecided, IsAccepted, IsRejected, HasDone, HasFailed, HoldsNeverTrue, IsCheck, IsRefused, IsAbsent, IsReadFault, IsReportFault, Fails, IsFailure, IsAmpleRepair, IsMatchingRepair, PrintsAsItWas, IsExhausted, IsUnread, WhereCommand, SomeFault, ShowsOutcome, Follows, AllGiven, NoneRefuses, NoFaults}
use Rattle.rr_top.proofs.Judging.{placed_or_syntax}
use Rattle.rr_top.proofs.Readings.{given_given}
use Rattle.rr_top.proofs.Table.{left_asks, one_in_table}
use Rattle.rr_top.proofs.Once.{one_outcome, open_expected}
use Rattle.rr_top.proofs.Givens.{GivenRepair, GivenRun, GivenSites, GivenLint, GivenCheck, repair_given, run_given, sites_given, lint_given, check_given, held_with, none_below, held_without}

-- no count of faults changed
pub record Calm (r : Execution) : Type 0 where
  pub shelf : r.after.faults ≡ r.before.faults
  pub out : r.after.out_faults ≡ r.before.out_faults
  pub notes : r.notes_faults_after ≡ r.notes_faults_before

-- which failure it was
abbrev pub FailureOf : Execution → Option Plan → Type 0
FailureOf r o = IsReportFault r ⊎ ((plan : Plan) × (o ≡ Some plan) × Fails r (command_of_plan plan))

-- the plan is none of a repair
abbrev Alone : Option Plan → Type 0
Alone o = (plan : Plan) × (o ≡ Some plan) × AsksRepair plan → ⊥

-- the shelf holds what it held, or the first files of an answer
abbrev FrontOf : Execution → Option Plan → Type 0
FrontOf r o = (r.after.held ≡ r.before.held) ⊎ ((plan : Plan) × (o ≡ Some plan) × HoldsFirst r (command_of_plan plan))

-- what came of a run, by its status
pub data Came (r : Execution) (o : Option Plan) : Type 0 where
  came_fault : SomeFault r → FailureOf r o → r.status ≡ 4 → (Alone o → r.after.held ≡ r.before.held) → Came r o
  came_memory : Calm r → FrontOf r o → KeepsOut r.before r.after → Appends r.notes_before r.notes_after memory_text → r.status ≡ 5 → Came r o
  came_usage : Calm r → o ≡ None → KeepsShelf r.before r.after → KeepsOut r.before r.after → Appends r.notes_before r.notes_after usage_text → r.status ≡ 6 → Came r o
  came_absent : Calm r → (plan : Plan) → o ≡ Some plan → IsAbsent r (command_of_plan plan) → r.status ≡ 4 → Came r o
  came_refused : Calm r → (plan : Plan) → o ≡ Some plan → IsRefused r (command_of_plan plan) → r.status ≡ 3 → Came r o
  came_done : Calm r → (plan : Plan) → o ≡ Some plan → (answer : Answer) → Due (command_of_plan plan) r.before.held answer → HoldsFiles r answer → Appends r.before.out r.after.out answer.out
      → Appends r.notes_before r.notes_after answer.notes → r.status ≡ answer.status → Came r o

alone_plan : (o : Option Plan) (plan : Plan) → o ≡ Some plan → Alone o → AsksRepair plan → ⊥
alone_plan o plan is alone asks = alone (plan, is, asks)

module _ (r : Execution) where
  calm_in : KeepsShelf r.before r.after → KeepsOut r.before r.after → r.notes_faults_after ≡ r.notes_faults_before → Calm r
  calm_in shelf out notes = record { shelf = shelf.faults; out = out.faults; notes = notes }

  held_of : (plan : Plan) (ending : Ending) (text : List ℕ) → (AsksRepair plan → ⊥) → CommandEnds (command_of_plan plan) r.before r.after ending text → r.after.held ≡ r.before.held
  held_of plan Usage text none (inl e) = absurd e
  held_of plan Usage text none (inr e) = absurd e.2
  held_of plan (NoMemory k) text none (inl e) = e.1.held
  held_of plan (NoMemory k) text none (inr (answer, due, e)) = none_below r.before.held answer plan k none due e.0
  held_of plan (Absent name) text none (inl e) = e.0.held
  held_of plan (Absent name) text none (inr e) = absurd e.2
  held_of plan (ReadFault name) text none (inl e) = e.0
  held_of plan (ReadFault name) text none (inr e) = absurd e.2
  held_of plan (WriteFault k) text none (inl e) = absurd e
  held_of plan (WriteFault k) text none (inr (answer, due, e)) = none_below r.before.held answer plan k none due e.0
  held_of plan OutFault text none (inl e) = absurd e
  held_of plan OutFault text none (inr (answer, due, e)) = held_with r.before.held answer plan r.after.held none due e.0
  held_of plan (Refused refusal) text none (inl e) = e.0.held
  held_of plan (Refused refusal) text none (inr e) = absurd e.2
  held_of plan (Done status) text none (inl e) = absurd e
  held_of plan (Done status) text none (inr (answer, due, e)) = held_with r.before.held answer plan r.after.held none due e.0

  out_fault_put : (plan : Plan) (o : Option Plan) (answer : Answer) (text : List ℕ) → o ≡ Some plan → Due (command_of_plan plan) r.before.held answer → Delivers answer r.before r.after OutFault text
      → Appends r.notes_before r.notes_after text → r.status ≡ 4 → Came r o
  out_fault_put plan o answer text is due e put status =
      came_fault (inr (inl e.3)) (inr (
        plan,
        is,
        inr (inr (inr (record {
          answer = answer;
          due = due;
          rose = e.3;
          printed = e.2;
          files = record { held = e.0; faults = e.1 };
          reported = rw e.4 at put;
        }))),
      )) status (λ alone. held_with r.before.held answer plan r.after.held (alone_plan o plan is alone) due e.0)

  write_fault_put : (plan : Plan) (o : Option Plan) (answer : Answer) (k : ℕ) (text : List ℕ) → o ≡ Some plan → Due (command_of_plan plan) r.before.held answer → Delivers answer r.before r.after (WriteFault k) text
      → Appends r.notes_before r.notes_after text → r.status ≡ 4 → Came r o
  write_fault_put plan o answer k text is due e put status =
      came_fault (inl e.2) (inr (
        plan,
        is,
        inr (inr (inl (record {
          answer = answer;
          due = due;
          number = k;
          within = e.0;
          files = e.1;
          rose = e.2;
          out = e.3;
          reported = rw e.4 at put;
        }))),
      )) status (λ alone. none_below r.before.held answer plan k (alone_plan o plan is alone) due e.0)

  memory_put : (plan : Plan) (o : Option Plan) (answer : Answer) (k : ℕ) (text : List ℕ) → o ≡ Some plan → Due (command_of_plan plan) r.before.held answer → Delivers answer r.before r.after (NoMemory k) text
      → Appends r.notes_before r.notes_after text → r.notes_faults_after ≡ r.notes_faults_before → r.status ≡ 5 → Came r o
  memory_put plan o answer k text is due e put quiet status =
      came_memory (record { shelf = e.2; out = e.3.faults; notes = quiet }) (inr (plan, is, record { answer = answer; due = due; number = k; within = e.0; held = e.1 })) e.3 (rw e.4 at put) status

  read_fault_put : (plan : Plan) (o : Option Plan) (fault : IsReadFault r (command_of_plan plan)) → o ≡ Some plan → r.status ≡ 4 → Came r o
  read_fault_put plan o fault is status = came_fault (inl fault.rose) (inr (plan, is, inr (inl fault))) status (λ alone. fault.held)

  done_put : (plan : Plan) (o : Option Plan) (answer : Answer) (status : ℕ) (text : List ℕ) → o ≡ Some plan → Due (command_of_plan plan) r.before.held answer → Delivers answer r.before r.after (Done status) text
      → Appends r.notes_before r.notes_after text → r.notes_faults_after ≡ r.notes_faults_before → r.status ≡ status → Came r o
  done_put plan o answer status text is due e put quiet now =
      came_done (record { shelf = e.1; out = e.3; notes = quiet }) plan is answer due (record { held = e.0; faults = e.1 }) e.2 (rw e.5 at put) (now ∙ e.4)

  -- the report was put
  plan_put : (plan : Plan) (o : Option Plan) (ending : Ending) (text : List ℕ) → o ≡ Some plan → CommandEnds (command_of_plan plan) r.before r.after ending text
      → Appends r.notes_before r.notes_after text → r.notes_faults_after ≡ r.notes_faults_before → r.status ≡ status_of ending → Came r o
  plan_put plan o Usage text is (inl e) put quiet status = absurd e
  plan_put plan o Usage text is (inr e) put quiet status = absurd e.2
  plan_put plan o (NoMemory k) text is (inl e) put quiet status = came_memory (calm_in e.1 e.2 quiet) (inl e.1.held) e.2 (rw e.3 at put) status
  plan_put plan o (NoMemory k) text is (inr (answer, due, e)) put quiet status = memory_put plan o answer k text is due e put quiet status
  plan_put plan o (Absent name) text is (inl e) put quiet status =
      came_absent (calm_in e.0 e.1 quiet) plan is (record { name = name.now; due = e.2; reported = rw e.3 at put; shelf = e.0; out = e.1 }) status
  plan_put plan o (Absent name) text is (inr e) put quiet status = absurd e.2
  plan_put plan o (ReadFault name) text is (inl e) put quiet status =
      read_fault_put plan o (record { name = name.now; read = e.3; rose = e.1; held = e.0; out = e.2; reported = rw e.4 at put }) is status
  plan_put plan o (ReadFault name) text is (inr e) put quiet status = absurd e.2
  plan_put plan o (WriteFault k) text is (inl e) put quiet status = absurd e
  plan_put plan o (WriteFault k) text is (inr (answer, due, e)) put quiet status = write_fault_put plan o answer k text is due e put status
  plan_put plan o OutFault text is (inl e) put quiet status = absurd e
  plan_put plan o OutFault text is (inr (answer, due, e)) put quiet status = out_fault_put plan o answer text is due e put status
  plan_put plan o (Refused refusal) text is (inl e) put quiet status =
      came_refused (calm_in e.0 e.1 quiet) plan is (record { refusal = plain_refusal refusal; due = e.2; reported = rw e.3 at put; shelf = e.0; out = e.1 }) status
  plan_put plan o (Refused refusal) text is (inr e) put quiet status = absurd e.2
  plan_put plan o (Done status) text is (inl e) put quiet now = absurd e
  plan_put plan o (Done status) text is (inr (answer, due, e)) put quiet now = done_put plan o answer status text is due e put quiet now

  usage_put : (o : Option Plan) (ending : Ending) (text : List ℕ) → o ≡ None → IsUsage r.before r.after ending text
      → Appends r.notes_before r.notes_after text → r.notes_faults_after ≡ r.notes_faults_before → r.status ≡ status_of ending → Came r o
  usage_put o ending text is e put quiet status = elim e.says [
    | inl u ↦ came_usage (calm_in e.shelf e.out quiet) is e.shelf e.out (rw u.1 at put) (status ∙ ap status_of u.0)
    | inr m ↦ came_memory (calm_in e.shelf e.out quiet) (inl e.shelf.held) e.out (rw m.1 at put) (status ∙ ap status_of m.0)
  ]

  -- the put of the report failed
  report_fault : (ending : Ending) (text : List ℕ) → Ends r.arguments r.before r.after ending text → AppendsFront r.notes_before r.notes_after text
      → Faulted r.notes_faults_before r.notes_faults_after → IsReportFault r
  report_fault ending text ends front rose = record { ending = ending; text = text; ends = ends; rose = rose; reported = front }

  came_of : (o : Option Plan) (ending : Ending) (text : List ℕ) → Ends r.arguments r.before r.after ending text → MatchOption o (IsUsage r.before r.after ending text) (λ plan. CommandEnds (command_of_plan plan) r.before r.after ending text)
      → Reports r.notes_before r.notes_after r.notes_faults_before r.notes_faults_after text (status_of ending) r.status → Came r o
  came_of None ending text ends e (inl p) = usage_put None ending text refl e p.0 p.1 p.2
  came_of None ending text ends e (inr p) = came_fault (inr (inr p.1)) (inl (report_fault ending text ends p.0 p.1)) p.2 (λ alone. e.shelf.held)
  came_of (Some plan) ending text ends e (inl p) = plan_put plan (Some plan) ending text refl e p.0 p.1 p.2
  came_of (Some plan) ending text ends e (inr p) = came_fault (inr (inr p.1)) (inl (report_fault ending text ends p.0 p.1)) p.2 (λ alone. held_of plan ending text (alone_plan (Some plan) plan refl alone) e)

pub execution_came : {r : Execution} → IsExecution r → Came r (command_of r.arguments)
execution_came {r} c = came_of r (command_of r.arguments) c.ending c.text c.ends c.ends.how c.reports

-- what the status of a verdict says
status_low : (v : Verdict) → (verdict_status v ≡ 0) ⊎ (verdict_status v ≡ 1)
status_low found.Accepted = inl refl
status_low (found.Line n) = inr refl
status_low found.NoEmptyClause = inr refl

status_zero : (v : Verdict) → verdict_status v ≡ 0 → v ≡ found.Accepted
status_zero found.Accepted e = refl
status_zero (found.Line n) e = absurd (omega (arith, e))
status_zero found.NoEmptyClause e = absurd (omega (arith, e))

not_two : {X : Type 0} (v : Verdict) → verdict_status v ≡ 2 → X
not_two v e = elim (status_low v) [ inl zero ↦ absurd (omega (arith, e, zero)) | inr one ↦ absurd (omega (arith, e, one)) ]

status_one : (v : Verdict) → verdict_status v ≡ 1 → v ≡ found.Accepted → ⊥
status_one v e is = let zero_is : verdict_status v ≡ 0 = ap verdict_status is in omega (arith, e, zero_is)

outcome_low : (v : Outcome) → (outcome_status v ≡ 0) ⊎ (outcome_status v ≡ 1)
outcome_low mended = inl refl
outcome_low unmendable = inr refl
outcome_low (ran text) = inl refl
outcome_low (listed text) = inl refl
outcome_low (checked verdict) = status_low verdict
outcome_low (made text) = inl refl
outcome_low (linted text) = inl refl

-- the status that an answer has
due_status : (plan : Plan) (told : Option Held) (answer : Answer) → Due (command_of_plan plan) told answer → (answer.status ≡ 0) ⊎ ((answer.status ≡ 1) ⊎ ((answer.status ≡ 2) × AsksRepair plan))
due_status plan told answer due = elim ((one_in_table plan).answered due.files answer due.answers) [
  | inl (outcome, (comes, is)) ↦ elim (outcome_low outcome) [ inl e ↦ inl (is.status ∙ e) | inr e ↦ inr (inl (is.status ∙ e)) ]
  | inr left ↦ inr (inr ((one_in_table plan).open_status due.files answer left, left_asks plan due.files answer left))
]

-- .. which is 2 at most
low_status : (n : ℕ) (P : Type 0) → (n ≡ 0) ⊎ ((n ≡ 1) ⊎ ((n ≡ 2) × P)) → n < 3
low_status n P (inl e) = omega (arith, e)
low_status n P (inr (inl e)) = omega (arith, e)
low_status n P (inr (inr e)) = let two = e.0 in omega (arith, two)

due_small : (plan : Plan) (told : Option Held) (answer : Answer) → Due (command_of_plan plan) told answer → answer.status < 3
due_small plan told answer due = low_status answer.status (AsksRepair plan) (due_status plan told answer due)

module _ (r : Execution) (answer : Answer) (shelf : HoldsFiles r answer) (out : Appends r.before.out r.after.out answer.out) (notes : Appends r.notes_before r.notes_after answer.notes) where
  -- no file was written
  keeps : answer.files ≡ [] → KeepsShelf r.before r.after
  keeps none = record { held = held_without r.before.held answer r.after.held none shelf.held; faults = shelf.faults }

  module _ (d t : List ℕ) (w : PlainRequest) (two : GivenRepair r.before.held d t w answer) where
    both_given : BothGiven r.before.held d t two.first two.second
    both_given = record { design_given = two.first_given; table_given = two.second_given }

    mends_told : TellsOutcome w two.first two.second answer → answer.status ≡ 0 → IsRepaired r d t w
    mends_told (inl told) zero = record { design = two.first; table = two.second; given = both_given; answer = answer; repair = told.0; printed = out; reported = notes; shelf = shelf }
    mends_told (inr (inl told)) zero = absurd (omega (arith, told.1.1, zero))
    mends_told (inr (inr told)) zero = absurd (omega (arith, told.1, zero))

    despairs_told : TellsOutcome w two.first two.second answer → answer.status ≡ 1 → IsBeyondRepair r d t w
    despairs_told (inl told) one = absurd (omega (arith, told.1.1, one))
    despairs_told (inr (inl told)) one =
        record { design = two.first; table = two.second; given = both_given; answer = answer; none = told.0; printed = rw told.0.is.printed at out; reported = notes; shelf = shelf }
    despairs_told (inr (inr told)) one = absurd (omega (arith, told.1, one))

    -- what a repair prints that is left open
    module _ (bound count : ℕ) where
      nothing_put : bound ≡ count → ((bound ≡ count) × (answer.out ≡ [])) ⊎ ((bound < count) × IsMatchingSource w two.first two.second (bound + 1) answer.out) → Appends r.before.out r.after.out []
      nothing_put all (inl n) = rw n.1 at out
      nothing_put all (inr f) = absurd (omega (arith, all, f.0))

      found_put : bound < count → ((bound ≡ count) × (answer.out ≡ [])) ⊎ ((bound < count) × IsMatchingSource w two.first two.second (bound + 1) answer.out)
          → IsMatchingSource w two.first two.second (bound + 1) answer.out
      found_put below (inl n) = absurd (omega (arith, below, n.0))
      found_put below (inr f) = f.1

    opens_told : TellsOutcome w two.first two.second answer → answer.status ≡ 2 → IsUnsettled r d t w
    opens_told (inl told) left = absurd (omega (arith, told.1.1, left))
    opens_told (inr (inl told)) left = absurd (omega (arith, told.1.1, left))
    opens_told (inr (inr told)) left = record {
      design = two.first;
      table = two.second;
      given = both_given;
      answer = answer;
      left = told.0;
      printed = out;
      unchanged = λ all. nothing_put told.0.is.bound (length told.0.sites) all (prints_found w two.first two.second answer told.0);
      matching = λ below. found_put told.0.is.bound (length told.0.sites) below (prints_found w two.first two.second answer told.0);
      reported = notes;
      shelf = shelf;
    }

    told_in : TellsOutcome w two.first two.second answer
    told_in = each_answer w two.first two.second answer two.holds

  simulates_given : (d t : List ℕ) (top clock : Option (List ℕ)) → GivenRun r.before.held d t top clock answer → IsSimulated r d t top clock
  simulates_given d t top clock two = record {
    design = two.first;
    table = two.second;
    given = record { design_given = two.first_given; table_given = two.second_given };
    text = answer.out;
    ran = two.holds.ran;
    printed = out;
    reported = rw two.holds.notes at notes;
    shelf = keeps two.holds.files;
  }

  lists_given : (d : List ℕ) (top clock : Option (List ℕ)) → GivenSites r.before.held d top clock answer → IsListed r d top clock
  lists_given d top clock one = record {
    design = one.only;
    given = one.only_given;
    text = answer.out;
    lists = one.holds.lists;
    printed = out;
    reported = rw one.holds.notes at notes;
    shelf = keeps one.holds.files;
  }

  lints_given : (d : List ℕ) (top : Option (List ℕ)) → GivenLint r.before.held d top answer → IsLinted r d top
  lints_given d top one = record {
    design = one.only;
    given = one.only_given;
    text = answer.out;
    mends = one.holds.mends;
    cleaned = one.holds.cleaned;
    printed = out;
    reported = rw one.holds.notes at notes;
    shelf = keeps one.holds.files;
  }

  checked_of : (c p : List ℕ) (two : GivenCheck r.before.held c p answer) → IsChecked r.before.held c p two.holds.verdict
  checked_of c p two = record { circuit = two.first; proof = two.second; given = record { circuit_given = two.first_given; proof_given = two.second_given }; judged = two.holds.judged }

  accepts_given : (c p : List ℕ) → GivenCheck r.before.held c p answer → answer.status ≡ 0 → IsAccepted r c p
  accepts_given c p two zero =
      let tells = two.holds.tells in
      let is = status_zero two.holds.verdict (sym tells.status ∙ zero) in
      let put : Appends r.before.out r.after.out (verdict_text two.holds.verdict) = rw tells.printed at out in
      record {
        accepted = subst (λ (v : Verdict). IsChecked r.before.held c p v) is (checked_of c p two);
        printed = subst (λ (v : Verdict). Appends r.before.out r.after.out (verdict_text v)) is put;
        reported = rw tells.notes at notes;
        shelf = keeps tells.files;
      }

  rejects_given : (c p : List ℕ) → GivenCheck r.before.held c p answer → answer.status ≡ 1 → IsRejected r c p
  rejects_given c p two one =
      let tells = two.holds.tells in
      record {
        verdict = two.holds.verdict;
        rejected = checked_of c p two;
        differs = status_one two.holds.verdict (sym tells.status ∙ one);
        printed = rw tells.printed at out;
        reported = rw tells.notes at notes;
        shelf = keeps tells.files;
      }

  -- a made input
  made_told : (s : ℕ) (c : List ℕ) → TellsMake s c answer → answer.status ≡ 0 → IsSummed r s c
  made_told s c (inl told) zero =
      let m = told.0 in
      record {
        counts = m.counts;
        are = m.are;
        answer = m.repair;
        repair = m.mended;
        printed = rw m.printed at out;
        reported = rw m.notes at notes;
        shelf = record { held = rw m.files at shelf.held; faults = shelf.faults };
      }
  made_told s c (inr (inl told)) zero = absurd (omega (arith, told.1.1, zero))
  made_told s c (inr (inr told)) zero = absurd (omega (arith, told.1, zero))

  unmade_told : (s : ℕ) (c : List ℕ) → TellsMake s c answer → answer.status ≡ 1 → IsNotMade r s c
  unmade_told s c (inl told) one = absurd (omega (arith, told.1.1, one))
  unmade_told s c (inr (inl told)) one = record { answer = answer; none = told.0; printed = rw told.0.is.printed at out; reported = notes; shelf = shelf }
  unmade_told s c (inr (inr told)) one = absurd (omega (arith, told.1, one))

  made_open_told : (s : ℕ) (c : List ℕ) → TellsMake s c answer → answer.status ≡ 2 → IsUndecided r s c
  made_open_told s c (inl told) left = absurd (omega (arith, told.1.1, left))
  made_open_told s c (inr (inl told)) left = absurd (omega (arith, told.1.1, left))
  made_open_told s c (inr (inr told)) left = record { answer = answer; left = told.0; printed = rw told.0.printed at out; reported = notes; shelf = shelf }

  mends_due : (plan : Plan) → Due (command_of_plan plan) r.before.held answer → answer.status ≡ 0 → HasDone r plan
  mends_due (repair d t cert top clock budget members) due zero =
      let w = request t cert top clock budget members in
      let two = repair_given r.before.held answer d t w due in
      inl (mends_told d t w two (told_in d t w two) zero)
  mends_due (run d t top clock) due zero = inr (inl (simulates_given d t top clock (run_given r.before.held answer d t top clock due)))
  mends_due (sites d top clock) due zero = inr (inr (inl (lists_given d top clock (sites_given r.before.held answer d top clock due))))
  mends_due (check c p) due zero = inr (inr (inr (inl (accepts_given c p (check_given r.before.held answer c p due) zero))))
  mends_due (make s c) due zero = inr (inr (inr (inr (inl (made_told s c (each_make s c answer due.answers) zero)))))
  mends_due (lint d top) due zero = inr (inr (inr (inr (inr (lints_given d top (lint_given r.before.held answer d top due))))))

  despairs_due : (plan : Plan) → Due (command_of_plan plan) r.before.held answer → answer.status ≡ 1 → HasFailed r plan
  despairs_due (repair d t cert top clock budget members) due one =
      let w = request t cert top clock budget members in
      let two = repair_given r.before.held answer d t w due in
      inl (despairs_told d t w two (told_in d t w two) one)
  despairs_due (run d t top clock) due one = absurd (omega (arith, one, (run_given r.before.held answer d t top clock due).holds.status))
  despairs_due (sites d top clock) due one = absurd (omega (arith, one, (sites_given r.before.held answer d top clock due).holds.status))
  despairs_due (check c p) due one = inr (inl (rejects_given c p (check_given r.before.held answer c p due) one))
  despairs_due (make s c) due one = inr (inr (unmade_told s c (each_make s c answer due.answers) one))
  despairs_due (lint d top) due one = absurd (omega (arith, one, (lint_given r.before.held answer d top due).holds.status))

  opens_due : (plan : Plan) → Due (command_of_plan plan) r.before.held answer → answer.status ≡ 2 → LeavesOpen r plan
  opens_due (repair d t cert top clock budget members) due left =
      let w = request t cert top clock budget members in
      let two = repair_given r.before.held answer d t w due in
      inl (opens_told d t w two (told_in d t w two) left)
  opens_due (run d t top clock) due left = absurd (omega (arith, left, (run_given r.before.held answer d t top clock due).holds.status))
  opens_due (sites d top clock) due left = absurd (omega (arith, left, (sites_given r.before.held answer d top clock due).holds.status))
  opens_due (check c p) due left =
      let holds = (check_given r.before.held answer c p due).holds in
      not_two holds.verdict (sym holds.tells.status ∙ left)
  opens_due (make s c) due left = inr (made_open_told s c (each_make s c answer due.answers) left)
  opens_due (lint d top) due left = absurd (omega (arith, left, (lint_given r.before.held answer d top due).holds.status))

-- what the outcome decides of the answer's texts, the run shows where the answer is carried out
shown : (r : Execution) (answer : Answer) (v : Outcome) → Tells v answer → Appends r.before.out r.after.out answer.out → Appends r.notes_before r.notes_after answer.notes → ShowsOutcome v r
shown r answer mended tells out notes = tt
shown r answer unmendable tells out notes = rw tells at out
shown r answer (ran text) tells out notes = (rw tells.0 at out, rw tells.1 at notes)
shown r answer (listed text) tells out notes = (rw tells.0 at out, rw tells.1 at notes)
shown r answer (checked verdict) tells out notes = (rw tells.0 at out, rw tells.1 at notes)
shown r answer (made text) tells out notes = (rw tells.0 at out, rw tells.1 at notes)
shown r answer (linted text) tells out notes = (rw tells.0 at out, rw tells.1 at notes)

some_plan : {X : Type 0} (o : Option Plan) (plan : Plan) → o ≡ Some plan → o ≡ None → X
some_plan o plan p q = absurd (cc)

same_plan : (o : Option Plan) (plan other : Plan) → o ≡ Some plan → o ≡ Some other → plan ≡ other
same_plan o plan other p q = cc

no_fault : (r : Execution) → NoFaults r → SomeFault r → ⊥
no_fault r quiet f = grind arith

module _ (r : Execution) (o : Option Plan) where
  of_repaired : Came r o → r.status ≡ 0 → (plan : Plan) × (o ≡ Some plan) × HasDone r plan
  of_repaired (came_fault f w s h) is = absurd (omega arith)
  of_repaired (came_memory c m k a s) is = absurd (omega arith)
  of_repaired (came_usage c n h k a s) is = absurd (omega arith)
  of_repaired (came_absent c plan p a s) is = absurd (omega arith)
  of_repaired (came_refused c plan p a s) is = absurd (omega arith)
  of_repaired (came_done c plan p answer due shelf out notes s) is = (plan, p, mends_due r answer shelf out notes plan due (sym s ∙ is))

  of_despaired : Came r o → r.status ≡ 1 → (plan : Plan) × (o ≡ Some plan) × HasFailed r plan
  of_despaired (came_fault f w s h) is = absurd (omega arith)
  of_despaired (came_memory c m k a s) is = absurd (omega arith)
  of_despaired (came_usage c n h k a s) is = absurd (omega arith)
  of_despaired (came_absent c plan p a s) is = absurd (omega arith)
  of_despaired (came_refused c plan p a s) is = absurd (omega arith)
  of_despaired (came_done c plan p answer due shelf out notes s) is = (plan, p, despairs_due r answer shelf out notes plan due (sym s ∙ is))

  of_left : Came r o → r.status ≡ 2 → (plan : Plan) × (o ≡ Some plan) × LeavesOpen r plan
  of_left (came_fault f w s h) is = absurd (omega arith)
  of_left (came_memory c m k a s) is = absurd (omega arith)
  of_left (came_usage c n h k a s) is = absurd (omega arith)
  of_left (came_absent c plan p a s) is = absurd (omega arith)
  of_left (came_refused c plan p a s) is = absurd (omega arith)
  of_left (came_done c plan p answer due shelf out notes s) is = (plan, p, opens_due r answer shelf out notes plan due (sym s ∙ is))

  of_refused : Came r o → r.status ≡ 3 → (plan : Plan) × (o ≡ Some plan) × IsRefused r (command_of_plan plan)
  of_refused (came_fault f w s h) is = absurd (omega arith)
  of_refused (came_memory c m k a s) is = absurd (omega arith)
  of_refused (came_usage c n h k a s) is = absurd (omega arith)
  of_refused (came_absent c plan p a s) is = absurd (omega arith)
  of_refused (came_refused c plan p a s) is = (plan, p, a)
  of_refused (came_done c plan p answer due shelf out notes s) is =
      let small = due_small plan r.before.held answer due in
      absurd (omega (arith, s, is, small))

  of_faulty : Came r o → r.status ≡ 4 → SomeFault r ⊎ ((plan : Plan) × (o ≡ Some plan) × IsAbsent r (command_of_plan plan))
  of_faulty (came_fault f w s h) is = inl f
  of_faulty (came_memory c m k a s) is = absurd (omega arith)
  of_faulty (came_usage c n h k a s) is = absurd (omega arith)
  of_faulty (came_absent c plan p a s) is = inr (plan, p, a)
  of_faulty (came_refused c plan p a s) is = absurd (omega arith)
  of_faulty (came_done c plan p answer due shelf out notes s) is =
      let small = due_small plan r.before.held answer due in
      absurd (omega (arith, s, is, small))

  of_failure : Came r o → r.status ≡ 4 → FailureOf r o
  of_failure (came_fault f w s h) is = w
  of_failure (came_memory c m k a s) is = absurd (omega arith)
  of_failure (came_usage c n h k a s) is = absurd (omega arith)
  of_failure (came_absent c plan p a s) is = inr (plan, p, inl a)
  of_failure (came_refused c plan p a s) is = absurd (omega arith)
  of_failure (came_done c plan p answer due shelf out notes s) is =
      let small = due_small plan r.before.held answer due in
      absurd (omega (arith, s, is, small))

  of_exhausted : Came r o → r.status ≡ 5 → Calm r × (FrontOf r o × (KeepsOut r.before r.after × Appends r.notes_before r.notes_after memory_text))
  of_exhausted (came_fault f w s h) is = absurd (omega arith)
  of_exhausted (came_memory c m k a s) is = (c, (m, (k, a)))
  of_exhausted (came_usage c n h k a s) is = absurd (omega arith)
  of_exhausted (came_absent c plan p a s) is = absurd (omega arith)
  of_exhausted (came_refused c plan p a s) is = absurd (omega arith)
  of_exhausted (came_done c plan p answer due shelf out notes s) is =
      let small = due_small plan r.before.held answer due in
      absurd (omega (arith, s, is, small))

  of_usage : Came r o → r.status ≡ 6 → (o ≡ None) × KeepsShelf r.before r.after × KeepsOut r.before r.after × Appends r.notes_before r.notes_after usage_text
  of_usage (came_fault f w s h) is = absurd (omega arith)
  of_usage (came_memory c m k a s) is = absurd (omega arith)
  of_usage (came_usage c n h k a s) is = (n, h, k, a)
  of_usage (came_absent c plan p a s) is = absurd (omega arith)
  of_usage (came_refused c plan p a s) is = absurd (omega arith)
  of_usage (came_done c plan p answer due shelf out notes s) is =
      let small = due_small plan r.before.held answer due in
      absurd (omega (arith, s, is, small))

  first_alone : Alone o → FrontOf r o → r.after.held ≡ r.before.held
  first_alone alone (inl same) = same
  first_alone alone (inr (plan, p, first)) = none_below r.before.held first.answer plan first.number (alone_plan o plan p alone) first.due first.within

  of_held : Alone o → Came r o → r.after.held ≡ r.before.held
  of_held alone (came_fault f w s h) = h alone
  of_held alone (came_memory c m k a s) = first_alone alone m
  of_held alone (came_usage c n h k a s) = h.held
  of_held alone (came_absent c plan p a s) = a.shelf.held
  of_held alone (came_refused c plan p a s) = a.shelf.held
  of_held alone (came_done c plan p answer due shelf out notes s) = held_with r.before.held answer plan r.after.held (alone_plan o plan p alone) due shelf.held

  -- a count that rose makes the status 4
  of_calm : Came r o → (Calm r → ⊥) → r.status ≡ 4
  of_calm (came_fault f w s h) rose = s
  of_calm (came_memory c m k a s) rose = absurd (rose c)
  of_calm (came_usage c n h k a s) rose = absurd (rose c)
  of_calm (came_absent c plan p a s) rose = absurd (rose c)
  of_calm (came_refused c plan p a s) rose = absurd (rose c)
  of_calm (came_done c plan p answer due shelf out notes s) rose = absurd (rose c)

  module _ (plan : Plan) (is : o ≡ Some plan) (held : Held) (told : r.before.held ≡ Some held) where
    one : HasOneOutcome (command_of_plan plan)
    one = one_in_table plan

    open_follows : (v : Expected) (answer : Answer) → Judges (command_of_plan plan) held v → (due : Due (command_of_plan plan) (Some held) answer) → (command_of_plan plan).leaves_open due.files answer
        → r.status ≡ answer.status → Follows r v
    open_follows v answer judged due left s =
        inr (inr (inr (s ∙ one.open_status due.files answer left, open_expected (command_of_plan plan) one held due.files answer due.given left v judged)))

    told_follows : (v : Expected) (answer : Answer) (outcome : Outcome) → Judges (command_of_plan plan) held v → (due : Due (command_of_plan plan) (Some held) answer)
        → (command_of_plan plan).comes_to due.files outcome → IsToldBy outcome answer → Appends r.before.out r.after.out answer.out → Appends r.notes_before r.notes_after answer.notes → r.status ≡ answer.status → Follows r v
    told_follows v answer outcome judged due comes is out notes s =
        let came : Judges (command_of_plan plan) held (done outcome) = record { files = due.files; given = due.given; comes_to = comes } in
        subst (λ (w : Expected). Follows r w) (one_outcome (command_of_plan plan) one held (done outcome) v came judged) (inl (s ∙ is.status, shown r answer outcome is.tells out notes))

    done_follows : (v : Expected) (answer : Answer) → Judges (command_of_plan plan) held v → Due (command_of_plan plan) (Some held) answer → Appends r.before.out r.after.out answer.out
        → Appends r.notes_before r.notes_after answer.notes → r.status ≡ answer.status → Follows r v
    done_follows v answer judged due out notes s = elim (one.answered due.files answer due.answers) [
      | inl (outcome, (comes, told)) ↦ told_follows v answer outcome judged due comes told out notes s
      | inr left ↦ open_follows v answer judged due left s
    ]

    absent_follows : (v : Expected) → Judges (command_of_plan plan) held v → IsAbsent r (command_of_plan plan) → r.status ≡ 4 → Follows r v
    absent_follows v judged a s =
        subst (λ (w : Expected). Follows r w) (one_outcome (command_of_plan plan) one held (absent a.name) v (rw told at a.due) judged) (inl (s, a.reported))

    -- a refusal whose place is decided, and one of a text without a tree
    placed_follows : (v : Expected) (refusal : Refusal) → IsPlaced refusal → Judges (command_of_plan plan) held v → Refuses (command_of_plan plan) (Some held) refusal
        → Appends r.notes_before r.notes_after (refused_text refusal) → r.status ≡ 3 → Follows r v
    placed_follows v refusal placed judged due reported s =
        subst (λ (w : Expected). Follows r w) (one_outcome (command_of_plan plan) one held (refused refusal) v (placed, due) judged) (inl (s, reported))

    input_follows : (v : Expected) (refusal : RunRefusal) → Judges (command_of_plan plan) held v → Refuses (command_of_plan plan) (Some held) (Input refusal)
        → Appends r.notes_before r.notes_after (refused_text (Input refusal)) → r.status ≡ 3 → Follows r v
    input_follows v refusal judged due reported s = elim (placed_or_syntax refusal) [
      | inl placed ↦ placed_follows v (Input refusal) placed judged due reported s
      | inr (offset, is) ↦ subst (λ (w : Expected). Follows r w) (one_outcome (command_of_plan plan) one held unparsed v (offset, rw is at due) judged) (inl (s, (offset, rw is at reported)))
    ]

    by_refusal : (v : Expected) (refusal : Refusal) → Judges (command_of_plan plan) held v → Refuses (command_of_plan plan) (Some held) refusal
        → Appends r.notes_before r.notes_after (refused_text refusal) → r.status ≡ 3 → Follows r v
    by_refusal v (TooManyBytes count) judged due reported s = placed_follows v (TooManyBytes count) tt judged due reported s
    by_refusal v (Input refusal) judged due reported s = input_follows v refusal judged due reported s
    by_refusal v (Flawed flaw line) judged due reported s = placed_follows v (Flawed flaw line) tt judged due reported s

    refused_follows : (v : Expected) → Judges (command_of_plan plan) held v → IsRefused r (command_of_plan plan) → r.status ≡ 3 → Follows r v
    refused_follows v judged a s = by_refusal v a.refusal judged (rw told at a.due) a.reported s

    of_verdict : (v : Expected) → Judges (command_of_plan plan) held v → Came r o → Follows r v
    of_verdict v judged (came_fault f w s h) = inr (inr (inl (s, f)))
    of_verdict v judged (came_memory c m k a s) = inr (inl s)
    of_verdict v judged (came_usage c n h k a s) = some_plan o plan is n
    of_verdict v judged (came_absent c other p a s) = absent_follows v judged (rw (same_plan o other plan p is) at a) s
    of_verdict v judged (came_refused c other p a s) = refused_follows v judged (rw (same_plan o other plan p is) at a) s
    of_verdict v judged (came_done c other p answer due shelf out notes s) = done_follows v answer judged (rw (same_plan o other plan p is, told) at due) out notes s

    no_absent : (reads : List (List ℕ × ℕ)) (name : List ℕ) → AllGiven (Some held) reads → AbsentAt (Some held) reads name → ⊥
    no_absent [] name all a = a
    no_absent (read ∷ reads) name all (inl a) = let here = a.0 in let there = all.0.1.held in cc
    no_absent (read ∷ reads) name all (inr a) = no_absent reads name all.1 a.1

    of_complete : AllGiven (Some held) (command_of_plan plan).reads → NoneRefuses (command_of_plan plan) (Some held) → NoFaults r → Came r o → (r.status ≡ 0) ⊎ ((r.status ≡ 1) ⊎ ((r.status ≡ 5) ⊎ ((r.status ≡ 2) × AsksRepair plan)))
    of_complete all none quiet (came_fault f w s h) = absurd (no_fault r quiet f)
    of_complete all none quiet (came_memory c m k a s) = inr (inr (inl s))
    of_complete all none quiet (came_usage c n h k a s) = some_plan o plan is n
    of_complete all none quiet (came_absent c other p a s) =
        let due : AbsentAt r.before.held (command_of_plan plan).reads a.name = rw (same_plan o other plan p is) at a.due in
        absurd (no_absent (command_of_plan plan).reads a.name all (rw told at due))
    of_complete all none quiet (came_refused c other p a s) =
        let due : Refuses (command_of_plan plan) r.before.held a.refusal = rw (same_plan o other plan p is) at a.due in
        absurd (none a.refusal (rw told at due))
    of_complete all none quiet (came_done c other p answer due shelf out notes s) = elim (due_status other r.before.held answer due) [
      | inl zero ↦ inl (s ∙ zero)
      | inr low ↦ elim low [ inl one ↦ inr (inl (s ∙ one)) | inr left ↦ inr (inr (inr (s ∙ left.0, subst AsksRepair (same_plan o other plan p is) left.1))) ]
    ]

-- an accepted certificate
certified : (r : Execution) (c p : List ℕ) → HasDone r (check c p) → HoldsNeverTrue r.before.held c
certified r c p (inl none) = absurd none
certified r c p (inr (inl none)) = absurd none
certified r c p (inr (inr (inl none))) = absurd none
certified r c p (inr (inr (inr (inr (inl none))))) = absurd none
certified r c p (inr (inr (inr (inr (inr none))))) = absurd none
certified r c p (inr (inr (inr (inl accepted)))) =
    let k = accepted.accepted in
    record { circuit = k.circuit; given = k.given.circuit_given; never = never_true k.circuit k.proof k.judged }

-- a design that matches as it is
module _ (r : Execution) (design : List ℕ) (m : IsMatchingRepair r design) where
  abbrev plan_in : Plan
  plan_in = repair m.design_name m.table_name m.cert m.top m.clock m.budget m.members

  abbrev request_in : PlainRequest
  request_in = request m.table_name m.cert m.top m.clock m.budget m.members

  abbrev command_in : Command
  command_in = repair_command m.design_name m.table_name request_in

  given_in : Given (Some m.held) command_in.reads (design ∷ (m.table ∷ []))
  given_in = (m.given.design_given, (m.given.table_given, tt))

  judged_in : Judges command_in m.held (done mended)
  judged_in = record { files = design ∷ (m.table ∷ []); given = given_in; comes_to = matching_mends request_in design m.table m.matching }

  stays_in : (answer : Answer) → Due command_in (Some m.held) answer → IsAsItWas design answer
  stays_in answer due =
      let files = given_given m.held command_in.reads due.files (design ∷ (m.table ∷ [])) due.given given_in in
      let answers : AnswersRepair request_in design m.table answer = subst (λ (fs : List (List ℕ)). command_in.answers fs answer) files due.answers in
      matching_stays request_in design m.table answer m.matching answers

  abbrev Printed : Type 0
  Printed = Appends r.before.out r.after.out design × (Appends r.notes_before r.notes_after unchanged_text × KeepsShelf r.before r.after)

  printed_as : (answer : Answer) → IsAsItWas design answer → HoldsFiles r answer → Appends r.before.out r.after.out answer.out → Appends r.notes_before r.notes_after answer.notes → Printed
  printed_as answer is shelf out notes = (rw is.printed at out, (rw is.notes at notes, keeps r answer shelf out notes is.files))

  -- its status is 0, 4 or 5
  settled : (o : Option Plan) → o ≡ Some plan_in → Came r o → Follows r (done mended) → PrintsAsItWas r design
  settled o is (came_fault f w s h) v = inr (inr (s, f))
  settled o is (came_memory c n k a s) v = inr (inl s)
  settled o is (came_usage c n h k a s) v = some_plan o plan_in is n
  settled o is (came_absent c plan p a s) v = failed v
    where
      failed : Follows r (done mended) → PrintsAsItWas r design
      failed (inl zero) = absurd (omega (arith, s, zero.0))
      failed (inr (inl five)) = inr (inl five)
      failed (inr (inr (inl four))) = inr (inr four)
      failed (inr (inr (inr two))) = absurd (omega (arith, s, two.0))
  settled o is (came_refused c plan p a s) v = failed v
    where
      failed : Follows r (done mended) → PrintsAsItWas r design
      failed (inl zero) = absurd (omega (arith, s, zero.0))
      failed (inr (inl five)) = inr (inl five)
      failed (inr (inr (inl four))) = inr (inr four)
      failed (inr (inr (inr two))) = absurd (omega (arith, s, two.0))
  settled o is (came_done c plan p answer due shelf out notes s) v =
      let stays = stays_in answer (rw (same_plan o plan plan_in p is, m.told) at due) in
      inl (s ∙ stays.status, printed_as answer stays shelf out notes)

  as_it_was : (o : Option Plan) → o ≡ Some plan_in → Came r o → PrintsAsItWas r design
  as_it_was o is came = settled o is came (of_verdict r o plan_in is m.held m.told (done mended) judged_in came)

-- a repair whose budget is ample
module _ (r : Execution) (m : IsAmpleRepair r) where
  abbrev ample_plan : Plan
  ample_plan = repair m.design_name m.table_name m.cert m.top m.clock m.budget m.members

  abbrev ample_request : PlainRequest
  ample_request = request m.table_name m.cert m.top m.clock m.budget m.members

  abbrev ample_command : Command
  ample_command = repair_command m.design_name m.table_name ample_request

  settles_in : (answer : Answer) → Due ample_command (Some m.held) answer → answer.status ≡ 2 → ⊥
  settles_in answer due two =
      let given : Given (Some m.held) ample_command.reads (m.design ∷ (m.table ∷ [])) = (m.given.design_given, (m.given.table_given, tt)) in
      let files = given_given m.held ample_command.reads due.files (m.design ∷ (m.table ∷ [])) due.given given in
      let answers : AnswersRepair ample_request m.design m.table answer = subst (λ (fs : List (List ℕ)). ample_command.answers fs answer) files due.answers in
      ample_settles ample_request m.design m.table answer m.ample answers two

  never_open : (o : Option Plan) → o ≡ Some ample_plan → Came r o → r.status ≡ 2 → ⊥
  never_open o is (came_fault f w s h) two = omega (arith, s, two)
  never_open o is (came_memory c n k a s) two = omega (arith, s, two)
  never_open o is (came_usage c n h k a s) two = omega (arith, s, two)
  never_open o is (came_absent c plan p a s) two = omega (arith, s, two)
  never_open o is (came_refused c plan p a s) two = omega (arith, s, two)
  never_open o is (came_done c plan p answer due shelf out notes s) two = settles_in answer (rw (same_plan o plan ample_plan p is, m.told) at due) (sym s ∙ two)

module _ {r : Execution} (c : IsExecution r) where
  pub execution_settles : IsAmpleRepair r → r.status ≡ 2 → ⊥
  execution_settles m = never_open r m (command_of r.arguments) m.arguments (execution_came c)

  pub execution_done : r.status ≡ 0 → WhereCommand r.arguments (HasDone r)
  execution_done is = of_repaired r (command_of r.arguments) (execution_came c) is

  pub execution_failed : r.status ≡ 1 → WhereCommand r.arguments (HasFailed r)
  execution_failed is = of_despaired r (command_of r.arguments) (execution_came c) is

  pub execution_certified : r.status ≡ 0 → (circuit proof : List ℕ) → IsCheck r.arguments circuit proof → HoldsNeverTrue r.before.held circuit
  execution_certified is circuit proof arguments = of_certified (execution_done is)
    where
      of_certified : WhereCommand r.arguments (HasDone r) → HoldsNeverTrue r.before.held circuit
      of_certified (plan, p, has) = certified r circuit proof (rw (same_plan (command_of r.arguments) plan (check circuit proof) p arguments) at has)

  pub execution_refused : r.status ≡ 3 → WhereCommand r.arguments (λ plan. IsRefused r (command_of_plan plan))
  execution_refused is = of_refused r (command_of r.arguments) (execution_came c) is

  pub execution_faulty : r.status ≡ 4 → SomeFault r ⊎ WhereCommand r.arguments (λ plan. IsAbsent r (command_of_plan plan))
  execution_faulty is = of_faulty r (command_of r.arguments) (execution_came c) is

  pub execution_failure : r.status ≡ 4 → IsFailure r
  execution_failure is = of_failure r (command_of r.arguments) (execution_came c) is

  pub execution_as_it_was : (design : List ℕ) → IsMatchingRepair r design → PrintsAsItWas r design
  execution_as_it_was design m = as_it_was r design m (command_of r.arguments) m.arguments (execution_came c)

  pub execution_left : r.status ≡ 2 → WhereCommand r.arguments (LeavesOpen r)
  execution_left is = of_left r (command_of r.arguments) (execution_came c) is

  pub execution_exhausted : r.status ≡ 5 → IsExhausted r
  execution_exhausted is =
      let m = of_exhausted r (command_of r.arguments) (execution_came c) is in
      record { reported = m.1.1.1; held = m.1.0; faults = m.0.shelf; out = m.1.1.0 }

  pub execution_usage : r.status ≡ 6 → IsUnread r
  execution_usage is =
      let u = of_usage r (command_of r.arguments) (execution_came c) is in
      record { none = u.0; reported = u.3; shelf = u.1; out = u.2 }

  pub execution_not_plain : r.status ≡ 6 → (plan : Plan) → IsPlain r.arguments plan → ⊥
  execution_not_plain is plan plain = some_plan (command_of r.arguments) plan (plain_command r.arguments plan plain) (execution_usage is).none

  pub execution_kept : AsksNoRepair r.arguments → r.after.held ≡ r.before.held
  execution_kept alone = of_held r (command_of r.arguments) alone (execution_came c)

  pub execution_shelf : r.before.faults < r.after.faults → r.status ≡ 4
  execution_shelf rose = of_calm r (command_of r.arguments) (execution_came c) (λ calm. let same = calm.shelf in omega (arith, same))

  pub execution_out : r.before.out_faults < r.after.out_faults → r.status ≡ 4
  execution_out rose = of_calm r (command_of r.arguments) (execution_came c) (λ calm. let same = calm.out in omega (arith, same))

  pub execution_notes : r.notes_faults_before < r.notes_faults_after → r.status ≡ 4
  execution_notes rose = of_calm r (command_of r.arguments) (execution_came c) (λ calm. let same = calm.notes in omega (arith, same))

  pub execution_decided : (plan : Plan) (held : Held) (v : Expected) → command_of r.arguments ≡ Some plan → r.before.held ≡ Some held → Judges (command_of_plan plan) held v → Follows r v
  execution_decided plan held v is told judged = of_verdict r (command_of r.arguments) plan is held told v judged (execution_came c)

  pub execution_complete : (plan : Plan) (held : Held) → IsPlain r.arguments plan → r.before.held ≡ Some held → AllGiven (Some held) (command_of_plan plan).reads → NoneRefuses (command_of_plan plan) (Some held)
      → NoFaults r → (r.status ≡ 0) ⊎ ((r.status ≡ 1) ⊎ ((r.status ≡ 5) ⊎ ((r.status ≡ 2) × AsksRepair plan)))
  execution_complete plan held plain told all none quiet =
      of_complete r (command_of r.arguments) plan (plain_command r.arguments plan plain) held told all none quiet (execution_came c)
