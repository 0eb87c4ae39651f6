-- The table of commands: what each reads, what it answers for the files that it read, and why it refuses them.
use Rattle.std.specs.Prelude.{◌≡◌, ◌⊎◌, ⊤, ℕ, ◌≤◌, List, [], ◌∷◌, Option}
use Rattle.rr_edge.specs.Held.{Held}
use Rattle.rr_words.specs.Plan.{Plan, repair, run, sites, check, make, lint}
use Rattle.rr_run.specs.Refusals.{Refusal as RunRefusal}
use Rattle.rr_run.specs.declared.rows.TableKind.{TableKind}
use Rattle.rr_run.specs.Files.{IsFileRun, RefusesFile}
use Rattle.rr_run.specs.Runs.{IsSameRefusal as IsSameRunRefusal}
use Rattle.rr_sites_command.specs.Lists.{IsSiteText, RefusesSites}
use Rattle.rr_lint_file.specs.Clean.{IsCleaned}
use Rattle.rr_lint_file.specs.Files.{IsMendedFile, RefusesMend}
use Rattle.rr_check_certificate.specs.Certificates.{FlawIs, IsJudged}
use Rattle.rr_check_certificate.specs.Texts.{verdict_text}
use Rattle.rr_check.specs.declared.verdict.Verdict.{Verdict}
use Rattle.rr_endings.specs.Found.{Answer}
use Rattle.rr_endings.specs.Refusals.{Refusal, TooManyBytes, Input, Flawed}
use Rattle.rr_effects.specs.Reads.{Gave, Given, RefusesReads}
use Rattle.rr_repair.specs.Repairs.{AnswersRepair, RefusesRepair, PlainRequest}
use Rattle.rr_outcomes.specs.Outcomes.{IsLeftOpen, IsMendable, IsUnmendable}
use Rattle.rr_make.specs.Makes.{AnswersMake, IsMadeOpen, IsNeverMade, IsSummary, RefusesMake}
use Rattle.rr_top.specs.Kinds.{kind_of}
use Rattle.rr_top.specs.Outcomes.{Outcome, mended, unmendable, ran, listed, checked, made, linted, IsToldBy, verdict_status}

-- A command: the names that it reads, in order, each with the most bytes that it may have; the answer for the files that it
-- read, which tells the files to be written, the piece for standard output, the report and the status; why it refuses
-- them; what it comes to by them; and the answers that leave open what it comes to.
pub record Command : Type 1 where
  pub reads : List (List ℕ × ℕ)
  pub answers : List (List ℕ) → Answer → Type 0
  pub refuses : List (List ℕ) → Refusal → Type 0
  pub comes_to : List (List ℕ) → Outcome → Type 0
  pub leaves_open : List (List ℕ) → Answer → Type 0

-- the file is one, of which this holds
abbrev pub WhereOne : List (List ℕ) → (List ℕ → Type 0) → Type 0
WhereOne [] P = ⊥
WhereOne (first ∷ []) P = P first
WhereOne (first ∷ (second ∷ files)) P = ⊥

-- the files are two, of which this holds
abbrev pub WhereTwo : List (List ℕ) → (List ℕ → List ℕ → Type 0) → Type 0
WhereTwo [] P = ⊥
WhereTwo (first ∷ []) P = ⊥
WhereTwo (first ∷ (second ∷ [])) P = P first second
WhereTwo (first ∷ (second ∷ (third ∷ files))) P = ⊥

-- ---- `repair`: 1 MiB of a design and 16 MiB of a table
abbrev pub ComesToRepair : PlainRequest → List ℕ → List ℕ → Outcome → Type 0
ComesToRepair w design table mended = IsMendable w design table
ComesToRepair w design table unmendable = IsUnmendable w design table
ComesToRepair w design table (ran text) = ⊥
ComesToRepair w design table (listed text) = ⊥
ComesToRepair w design table (checked verdict) = ⊥
ComesToRepair w design table (made text) = ⊥
ComesToRepair w design table (linted text) = ⊥

abbrev pub repair_command : List ℕ → List ℕ → PlainRequest → Command
repair_command design_name table_name w = record {
  reads = (design_name, 1048576) ∷ ((table_name, 16777216) ∷ []);
  answers = λ files answer. WhereTwo files (λ design table. AnswersRepair w design table answer);
  refuses = λ files refusal. WhereTwo files (λ design table. RefusesRepair w design table refusal);
  comes_to = λ files outcome. WhereTwo files (λ design table. ComesToRepair w design table outcome);
  leaves_open = λ files answer. WhereTwo files (λ design table. IsLeftOpen w design table answer);
}

-- ---- `run`: the same files; the table's name tells how it is read
-- the answer: the table of the rows with the outputs of the run of the design that the file expands to, and nothing to report
pub record AnswersRun (kind : TableKind) (top clock : Option (List ℕ)) (design table : List ℕ) (answer : Answer) : Type 0 where
  pub ran : IsFileRun kind design table top clock answer.out
  pub files : answer.files ≡ []
  pub notes : answer.notes ≡ []
  pub status : answer.status ≡ 0

-- the refusal: of the directives, the expanded design or the table; every lawful design is taken
abbrev pub RefusesTexts : TableKind → Option (List ℕ) → Option (List ℕ) → List ℕ → List ℕ → Refusal → Type 0
RefusesTexts kind top word design table (TooManyBytes count) = ⊥
RefusesTexts kind top word design table (Input refusal) = RefusesFile kind design table top word refusal
RefusesTexts kind top word design table (Flawed flaw line) = ⊥

abbrev pub ComesToRun : TableKind → Option (List ℕ) → Option (List ℕ) → List ℕ → List ℕ → Outcome → Type 0
ComesToRun kind top clock design table mended = ⊥
ComesToRun kind top clock design table unmendable = ⊥
ComesToRun kind top clock design table (ran text) = IsFileRun kind design table top clock text
ComesToRun kind top clock design table (listed text) = ⊥
ComesToRun kind top clock design table (checked verdict) = ⊥
ComesToRun kind top clock design table (made text) = ⊥
ComesToRun kind top clock design table (linted text) = ⊥

abbrev pub run_command : List ℕ → List ℕ → Option (List ℕ) → Option (List ℕ) → Command
run_command design_name table_name top clock = record {
  reads = (design_name, 1048576) ∷ ((table_name, 16777216) ∷ []);
  answers = λ files answer. WhereTwo files (λ design table. AnswersRun (kind_of table_name) top clock design table answer);
  refuses = λ files refusal. WhereTwo files (λ design table. RefusesTexts (kind_of table_name) top clock design table refusal);
  comes_to = λ files outcome. WhereTwo files (λ design table. ComesToRun (kind_of table_name) top clock design table outcome);
  leaves_open = λ files answer. ⊥;
}

-- ---- `sites`: 1 MiB of a design
-- the answer: the lines of the design's sites, and nothing to report
pub record AnswersSites (top clock : Option (List ℕ)) (design : List ℕ) (answer : Answer) : Type 0 where
  pub lists : IsSiteText design top clock answer.out
  pub files : answer.files ≡ []
  pub notes : answer.notes ≡ []
  pub status : answer.status ≡ 0

abbrev pub RefusesSiteList : Option (List ℕ) → Option (List ℕ) → List ℕ → Refusal → Type 0
RefusesSiteList top word design (TooManyBytes count) = ⊥
RefusesSiteList top word design (Input refusal) = RefusesSites design top word refusal
RefusesSiteList top word design (Flawed flaw line) = ⊥

abbrev pub ComesToSites : Option (List ℕ) → Option (List ℕ) → List ℕ → Outcome → Type 0
ComesToSites top clock design mended = ⊥
ComesToSites top clock design unmendable = ⊥
ComesToSites top clock design (ran text) = ⊥
ComesToSites top clock design (listed text) = IsSiteText design top clock text
ComesToSites top clock design (checked verdict) = ⊥
ComesToSites top clock design (made text) = ⊥
ComesToSites top clock design (linted text) = ⊥

abbrev pub sites_command : List ℕ → Option (List ℕ) → Option (List ℕ) → Command
sites_command design_name top clock = record {
  reads = (design_name, 1048576) ∷ [];
  answers = λ files answer. WhereOne files (λ design. AnswersSites top clock design answer);
  refuses = λ files refusal. WhereOne files (λ design. RefusesSiteList top clock design refusal);
  comes_to = λ files outcome. WhereOne files (λ design. ComesToSites top clock design outcome);
  leaves_open = λ files answer. ⊥;
}

-- ---- `check`: 256 MiB of a circuit and 1 GiB of its proof
-- the answer prints the verdict, and reports nothing
pub record TellsVerdict (verdict : Verdict) (answer : Answer) : Type 0 where
  pub files : answer.files ≡ []
  pub printed : answer.out ≡ verdict_text verdict
  pub notes : answer.notes ≡ []
  pub status : answer.status ≡ verdict_status verdict

pub record AnswersCheck (circuit proof : List ℕ) (answer : Answer) : Type 0 where
  pub verdict : Verdict
  pub judged : IsJudged circuit proof verdict
  pub tells : TellsVerdict verdict answer

abbrev pub RefusesCertificate : List ℕ → List ℕ → Refusal → Type 0
RefusesCertificate circuit proof (TooManyBytes count) = ⊥
RefusesCertificate circuit proof (Input refusal) = ⊥
RefusesCertificate circuit proof (Flawed flaw line) = FlawIs circuit proof flaw line

abbrev pub ComesToCheck : List ℕ → List ℕ → Outcome → Type 0
ComesToCheck circuit proof mended = ⊥
ComesToCheck circuit proof unmendable = ⊥
ComesToCheck circuit proof (ran text) = ⊥
ComesToCheck circuit proof (listed text) = ⊥
ComesToCheck circuit proof (checked verdict) = IsJudged circuit proof verdict
ComesToCheck circuit proof (made text) = ⊥
ComesToCheck circuit proof (linted text) = ⊥

abbrev pub check_command : List ℕ → List ℕ → Command
check_command circuit_name proof_name = record {
  reads = (circuit_name, 268435456) ∷ ((proof_name, 1073741824) ∷ []);
  answers = λ files answer. WhereTwo files (λ circuit proof. AnswersCheck circuit proof answer);
  refuses = λ files refusal. WhereTwo files (λ circuit proof. RefusesCertificate circuit proof refusal);
  comes_to = λ files outcome. WhereTwo files (λ circuit proof. ComesToCheck circuit proof outcome);
  leaves_open = λ files answer. ⊥;
}

-- ---- `make`: no file is read; the design and the table are those of the seed
abbrev pub ComesToMake : ℕ → List ℕ → Outcome → Type 0
ComesToMake seed cert mended = ⊥
ComesToMake seed cert unmendable = IsNeverMade seed cert
ComesToMake seed cert (ran text) = ⊥
ComesToMake seed cert (listed text) = ⊥
ComesToMake seed cert (checked verdict) = ⊥
ComesToMake seed cert (made text) = IsSummary seed cert text
ComesToMake seed cert (linted text) = ⊥

abbrev pub make_command : ℕ → List ℕ → Command
make_command seed cert = record {
  reads = [];
  answers = λ files answer. AnswersMake seed cert answer;
  refuses = λ files refusal. RefusesMake seed cert refusal;
  comes_to = λ files outcome. ComesToMake seed cert outcome;
  leaves_open = λ files answer. IsMadeOpen seed cert answer;
}

-- ---- `lint`: 1 MiB of a design
-- the answer: the file with mended blocks, of which the tree of its expansion is the mended source, and nothing to report
pub record AnswersLint (top : Option (List ℕ)) (design : List ℕ) (answer : Answer) : Type 0 where
  pub mends : IsMendedFile design top answer.out
  pub cleaned : IsCleaned design top answer.out
  pub files : answer.files ≡ []
  pub notes : answer.notes ≡ []
  pub status : answer.status ≡ 0

abbrev pub RefusesLint : Option (List ℕ) → List ℕ → Refusal → Type 0
RefusesLint top design (TooManyBytes count) = ⊥
RefusesLint top design (Input refusal) = RefusesMend design top refusal
RefusesLint top design (Flawed flaw line) = ⊥

abbrev pub ComesToLint : Option (List ℕ) → List ℕ → Outcome → Type 0
ComesToLint top design mended = ⊥
ComesToLint top design unmendable = ⊥
ComesToLint top design (ran text) = ⊥
ComesToLint top design (listed text) = ⊥
ComesToLint top design (checked verdict) = ⊥
ComesToLint top design (made text) = ⊥
ComesToLint top design (linted text) = IsMendedFile design top text

abbrev pub lint_command : List ℕ → Option (List ℕ) → Command
lint_command design_name top = record {
  reads = (design_name, 1048576) ∷ [];
  answers = λ files answer. WhereOne files (λ design. AnswersLint top design answer);
  refuses = λ files refusal. WhereOne files (λ design. RefusesLint top design refusal);
  comes_to = λ files outcome. WhereOne files (λ design. ComesToLint top design outcome);
  leaves_open = λ files answer. ⊥;
}

-- ---- the table
-- what the words of a repair ask for; the table's name tells how it is read
abbrev pub request : List ℕ → List ℕ → Option (List ℕ) → Option (List ℕ) → ℕ → ℕ → PlainRequest
request table_name cert top clock budget members = record {
  kind = kind_of table_name;
  top = top;
  clock = clock;
  cert = cert;
  budget = budget;
  members = members;
}

abbrev pub command_of_plan : Plan → Command
command_of_plan (repair design table cert top clock budget members) = repair_command design table (request table cert top clock budget members)
command_of_plan (run design table top clock) = run_command design table top clock
command_of_plan (sites design top clock) = sites_command design top clock
command_of_plan (check circuit proof) = check_command circuit proof
command_of_plan (make seed cert) = make_command seed cert
command_of_plan (lint design top) = lint_command design top

-- two refusals are one, but for the byte that is told of a text without a tree
abbrev pub IsSameRefusal : Refusal → Refusal → Type 0
IsSameRefusal a b = (a ≡ b) ⊎ ((r : RunRefusal) × ((s : RunRefusal) × ((a ≡ Input r) × ((b ≡ Input s) × IsSameRunRefusal r s))))

-- only `repair` and `make` leave open what they come to, and only they write files
abbrev pub AsksRepair : Plan → Type 0
AsksRepair (repair design table cert top clock budget members) = ⊤
AsksRepair (run design table top clock) = ⊥
AsksRepair (sites design top clock) = ⊥
AsksRepair (check circuit proof) = ⊥
AsksRepair (make seed cert) = ⊤
AsksRepair (lint design top) = ⊥

-- the numbers of a repair are in their ranges
abbrev pub InRange : Plan → Type 0
InRange (repair design table cert top clock budget members) = (1 ≤ budget) × ((1 ≤ members) × (members ≤ 8))
InRange (run design table top clock) = ⊤
InRange (sites design top clock) = ⊤
InRange (check circuit proof) = ⊤
InRange (make seed cert) = ⊤
InRange (lint design top) = ⊤

-- a repair may come to it, of files or of a made input
abbrev pub IsOfRepair : Outcome → Type 0
IsOfRepair mended = ⊤
IsOfRepair unmendable = ⊤
IsOfRepair (ran text) = ⊥
IsOfRepair (listed text) = ⊥
IsOfRepair (checked verdict) = ⊥
IsOfRepair (made text) = ⊤
IsOfRepair (linted text) = ⊥

-- the answer tells an outcome that the command comes to, or leaves it open
abbrev pub TellsOrLeavesOpen : Command → List (List ℕ) → Answer → Type 0
TellsOrLeavesOpen command files answer = ((outcome : Outcome) × (command.comes_to files outcome × IsToldBy outcome answer)) ⊎ command.leaves_open files answer

-- Files decide a command once: it has one refusal for them, or it comes to one outcome by them, which each of its answers
-- tells, but for those that leave open which outcome of a repair it is: these have status 2, and print nothing where no choice
-- matches.
pub record HasOneOutcome (command : Command) : Type 0 where
  pub one_refusal : (files : List (List ℕ)) (a b : Refusal) → command.refuses files a → command.refuses files b → IsSameRefusal a b
  pub done_or_refused : (files : List (List ℕ)) (outcome : Outcome) (refusal : Refusal) → command.comes_to files outcome → command.refuses files refusal → ⊥
  pub one_outcome : (files : List (List ℕ)) (v w : Outcome) → command.comes_to files v → command.comes_to files w → v ≡ w
  pub answered : (files : List (List ℕ)) (answer : Answer) → command.answers files answer → TellsOrLeavesOpen command files answer
  pub open_status : (files : List (List ℕ)) (answer : Answer) → command.leaves_open files answer → answer.status ≡ 2
  pub open_printed : (files : List (List ℕ)) (answer : Answer) → command.leaves_open files answer → (answer.out ≡ []) ⊎ command.comes_to files mended
  pub open_or_refused : (files : List (List ℕ)) (answer : Answer) (refusal : Refusal) → command.leaves_open files answer → command.refuses files refusal → ⊥
  pub open_outcome : (files : List (List ℕ)) (answer : Answer) (outcome : Outcome) → command.leaves_open files answer → command.comes_to files outcome → IsOfRepair outcome

-- no answer writes a file, and none leaves open what it comes to
pub record WritesNothing (command : Command) : Type 0 where
  pub files : (files : List (List ℕ)) (answer : Answer) → command.answers files answer → answer.files ≡ []
  pub decides : (files : List (List ℕ)) (answer : Answer) → command.leaves_open files answer → ⊥

-- ---- what is due, by the reads and then by what they gave
-- all files were read, and this is the answer for them
pub record Due (command : Command) (told : Option Held) (answer : Answer) : Type 0 where
  pub files : List (List ℕ)
  pub given : Given told command.reads files
  pub answers : command.answers files answer

-- all files were read, and they are refused
pub record RefusesRead (command : Command) (told : Option Held) (refusal : Refusal) : Type 0 where
  pub files : List (List ℕ)
  pub given : Given told command.reads files
  pub refused : command.refuses files refusal

-- the refusal that is due: of the reads in order, then of what they gave
abbrev pub Refuses : Command → Option Held → Refusal → Type 0
Refuses command told refusal = RefusesReads told command.reads refusal ⊎ RefusesRead command told refusal

-- all files were read, and the command comes to this outcome by them
pub record ComesTo (command : Command) (told : Option Held) (outcome : Outcome) : Type 0 where
  pub files : List (List ℕ)
  pub given : Given told command.reads files
  pub comes_to : command.comes_to files outcome

-- the design and the table were read
pub record BothGiven (told : Option Held) (design_name table_name design table : List ℕ) : Type 0 where
  pub design_given : Gave told design_name 1048576 design
  pub table_given : Gave told table_name 16777216 table

-- the circuit and the proof were read
pub record CertificateGiven (told : Option Held) (circuit_name proof_name circuit proof : List ℕ) : Type 0 where
  pub circuit_given : Gave told circuit_name 268435456 circuit
  pub proof_given : Gave told proof_name 1073741824 proof

-- the plan is one of this command, for whose names and options this holds
abbrev pub WhereRepair : Plan → (List ℕ → List ℕ → PlainRequest → Type 0) → Type 0
WhereRepair (repair design table cert top clock budget members) P = P design table (request table cert top clock budget members)
WhereRepair (run design table top clock) P = ⊥
WhereRepair (sites design top clock) P = ⊥
WhereRepair (check circuit proof) P = ⊥
WhereRepair (make seed cert) P = ⊥
WhereRepair (lint design top) P = ⊥

abbrev pub WhereRun : Plan → (List ℕ → List ℕ → Option (List ℕ) → Option (List ℕ) → Type 0) → Type 0
WhereRun (repair design table cert top clock budget members) P = ⊥
WhereRun (run design table top clock) P = P design table top clock
WhereRun (sites design top clock) P = ⊥
WhereRun (check circuit proof) P = ⊥
WhereRun (make seed cert) P = ⊥
WhereRun (lint design top) P = ⊥

abbrev pub WhereSites : Plan → (List ℕ → Option (List ℕ) → Option (List ℕ) → Type 0) → Type 0
WhereSites (repair design table cert top clock budget members) P = ⊥
WhereSites (run design table top clock) P = ⊥
WhereSites (sites design top clock) P = P design top clock
WhereSites (check circuit proof) P = ⊥
WhereSites (make seed cert) P = ⊥
WhereSites (lint design top) P = ⊥

abbrev pub WhereCheck : Plan → (List ℕ → List ℕ → Type 0) → Type 0
WhereCheck (repair design table cert top clock budget members) P = ⊥
WhereCheck (run design table top clock) P = ⊥
WhereCheck (sites design top clock) P = ⊥
WhereCheck (check circuit proof) P = P circuit proof
WhereCheck (make seed cert) P = ⊥
WhereCheck (lint design top) P = ⊥

abbrev pub WhereMake : Plan → (ℕ → List ℕ → Type 0) → Type 0
WhereMake (repair design table cert top clock budget members) P = ⊥
WhereMake (run design table top clock) P = ⊥
WhereMake (sites design top clock) P = ⊥
WhereMake (check circuit proof) P = ⊥
WhereMake (make seed cert) P = P seed cert
WhereMake (lint design top) P = ⊥

abbrev pub WhereLint : Plan → (List ℕ → Option (List ℕ) → Type 0) → Type 0
WhereLint (repair design table cert top clock budget members) P = ⊥
WhereLint (run design table top clock) P = ⊥
WhereLint (sites design top clock) P = ⊥
WhereLint (check circuit proof) P = ⊥
WhereLint (make seed cert) P = ⊥
WhereLint (lint design top) P = P design top
