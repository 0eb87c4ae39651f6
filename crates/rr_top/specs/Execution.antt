-- How a run ends, what it reports, and its status.
use Rattle.std.specs.Prelude.{◌≡◌, ◌≢◌, ◌⊎◌, ◌<◌, ◌+◌, ℕ, List, [], ◌∷◌, length, take, Option, Some, None, MatchOption, ⊤}
use Rattle.std.specs.Io.KnownBytes.{Appends}
use Rattle.rr_edge.specs.Held.{Held}
use Rattle.rr_edge.specs.Faults.{Faulted, NoFault}
use Rattle.rr_edge.specs.Sink.{AppendsFront}
use Rattle.rr_words.specs.Plan.{Plan, repair, check, command_of}
use Rattle.rr_words.specs.Usage.{usage_text}
use Rattle.rr_run.specs.declared.fault.Fault.TheVariants.{Syntax}
use Rattle.rr_run.specs.Refusals.{At}
use Rattle.rr_run.specs.Files.{IsFileRun}
use Rattle.rr_top.specs.Kinds.{kind_of}
use Rattle.rr_sites_command.specs.Lists.{IsSiteText}
use Rattle.rr_lint_file.specs.Clean.{IsCleaned}
use Rattle.rr_lint_file.specs.Files.{IsMendedFile}
use Rattle.rr_check.specs.declared.verdict.Verdict.{Verdict}
use Rattle.rr_check.specs.declared.verdict.Verdict.TheVariants as found
use Rattle.rr_check_certificate.specs.Certificates.{IsNeverTrue}
use Rattle.rr_check_certificate.specs.Texts.{verdict_text}
use Rattle.rr_endings.specs.declared.ending.Ending.{Ending}
use Rattle.rr_endings.specs.declared.ending.Ending.TheVariants.{Usage, NoMemory}
use Rattle.rr_endings.specs.Endings.{status_of}
use Rattle.rr_endings.specs.Found.{Answer}
use Rattle.rr_endings.specs.Refusals.{Refusal, Input}
use Rattle.rr_endings.specs.Texts.{memory_text, refused_text, absent_text, read_fault_text, write_fault_text, out_fault_text}
use Rattle.rr_effects.specs.Outside.{Outside, KeepsShelf, KeepsOut}
use Rattle.rr_effects.specs.Reads.{AbsentAt, FaultAt, Gave}
use Rattle.rr_effects.specs.Delivery.{Reports, StopsAtWrite, file_at, with_files}
use Rattle.rr_repair_output.specs.Texts.{unchanged_text}
use Rattle.rr_repair.specs.Repairs.{Counts, PlainRequest}
use Rattle.rr_outcomes.specs.Outcomes.{IsAmple, IsDespaired, IsLeftOpen, IsMatching, IsMatchingSource, IsMended}
use Rattle.rr_made_input.specs.Made.{made_design, made_table}
use Rattle.rr_make.specs.Makes.{AreMadeCounts, IsMadeOpen, IsUnmade, made_request, summary}
use Rattle.rr_top.specs.Outcomes.{Outcome, mended, unmendable, ran, listed, checked, made, linted}
use Rattle.rr_top.specs.Commands.{AsksRepair, BothGiven, Command, Due, IsOfRepair, Refuses, WhereRepair, WhereRun, WhereSites, WhereCheck, WhereMake, WhereLint, command_of_plan, request}
use Rattle.rr_top.specs.Expected.{Expected, absent, refused, unparsed, done, IsChecked, expected_status}
use Rattle.rr_top.specs.Endings.{CommandEnds}

-- what is said of arguments that name no command, or of arguments for which memory ran out
abbrev pub SaysUsage : Ending → List ℕ → Type 0
SaysUsage ending text = ((ending ≡ Usage) × (text ≡ usage_text)) ⊎ ((ending ≡ NoMemory 0) × (text ≡ memory_text))

-- the arguments name no command
pub record IsUsage (before after : Outside) (ending : Ending) (text : List ℕ) : Type 0 where
  pub shelf : KeepsShelf before after
  pub out : KeepsOut before after
  pub says : SaysUsage ending text

-- how a run over these arguments ends, and the text for the report
pub record Ends (arguments : List (List ℕ)) (before after : Outside) (ending : Ending) (text : List ℕ) : Type 0 where
  pub how : MatchOption (command_of arguments) (IsUsage before after ending text) (λ plan. CommandEnds (command_of_plan plan) before after ending text)

-- what a whole run found and left
pub record Execution : Type 0 where
  pub arguments : List (List ℕ)
  pub before : Outside
  pub after : Outside
  pub notes_before : Option (List ℕ)
  pub notes_after : Option (List ℕ)
  pub notes_faults_before : ℕ
  pub notes_faults_after : ℕ
  pub status : ℕ

-- some command ends in this way, and its report was put
pub record IsExecution (r : Execution) : Type 0 where
  pub ending : Ending
  pub text : List ℕ
  pub ends : Ends r.arguments r.before r.after ending text
  pub reports : Reports r.notes_before r.notes_after r.notes_faults_before r.notes_faults_after text (status_of ending) r.status

-- the files of an answer stand on the shelf, in order, all else there stays, and the reads and the writes met no fault
pub record HoldsFiles (r : Execution) (answer : Answer) : Type 0 where
  pub held : r.after.held ≡ with_files r.before.held answer.files
  pub faults : r.after.faults ≡ r.before.faults

-- Status 0 of `repair`: the design and the table were read, the output has grown by exactly the file as it is, or with a choice
-- printed into it: the tree of its expansion is the choice's instance, which matches every known cell and costs least; the notes have grown by the report of this
-- choice, and the shelf holds the certificate that fewer changes do not match.
pub record IsRepaired (r : Execution) (design_name table_name : List ℕ) (w : PlainRequest) : Type 0 where
  pub design : List ℕ
  pub table : List ℕ
  pub given : BothGiven r.before.held design_name table_name design table
  pub answer : Answer
  pub repair : IsMended w design table answer
  pub printed : Appends r.before.out r.after.out answer.out
  pub reported : Appends r.notes_before r.notes_after answer.notes
  pub shelf : HoldsFiles r answer

-- Status 1 of `repair`: the design and the table were read, no choice gives an instance that matches, nothing was put out,
-- and the shelf holds the certificate of this.
pub record IsBeyondRepair (r : Execution) (design_name table_name : List ℕ) (w : PlainRequest) : Type 0 where
  pub design : List ℕ
  pub table : List ℕ
  pub given : BothGiven r.before.held design_name table_name design table
  pub answer : Answer
  pub none : IsDespaired w design table answer
  pub printed : Appends r.before.out r.after.out []
  pub reported : Appends r.notes_before r.notes_after answer.notes
  pub shelf : HoldsFiles r answer

-- Status 2 of `repair`: the design and the table were read, whether so many changes match is left open, and the shelf holds the
-- question with the fresh lines that each member learned. Where these are changes of all sites, nothing was put out; where they
-- are fewer, the output has grown by exactly the file with a choice of one change more printed into it; the tree of its expansion
-- is the choice's instance, which matches every known cell.
pub record IsUnsettled (r : Execution) (design_name table_name : List ℕ) (w : PlainRequest) : Type 0 where
  pub design : List ℕ
  pub table : List ℕ
  pub given : BothGiven r.before.held design_name table_name design table
  pub answer : Answer
  pub left : IsLeftOpen w design table answer
  pub printed : Appends r.before.out r.after.out answer.out
  pub unchanged : left.is.bound ≡ length left.sites → Appends r.before.out r.after.out []
  pub matching : left.is.bound < length left.sites → IsMatchingSource w design table (left.is.bound + 1) answer.out
  pub reported : Appends r.notes_before r.notes_after answer.notes
  pub shelf : HoldsFiles r answer

-- Status 0 of `check`: both files were read, the proof refutes the circuit's formula, and `accepted` was put out.
pub record IsAccepted (r : Execution) (circuit_name proof_name : List ℕ) : Type 0 where
  pub accepted : IsChecked r.before.held circuit_name proof_name found.Accepted
  pub printed : Appends r.before.out r.after.out (verdict_text found.Accepted)
  pub reported : Appends r.notes_before r.notes_after []
  pub shelf : KeepsShelf r.before r.after

-- Status 1 of `check`: both files were read, the proof does not refute the circuit's formula, and the verdict was put out.
pub record IsRejected (r : Execution) (circuit_name proof_name : List ℕ) : Type 0 where
  pub verdict : Verdict
  pub rejected : IsChecked r.before.held circuit_name proof_name verdict
  pub differs : verdict ≢ found.Accepted
  pub printed : Appends r.before.out r.after.out (verdict_text verdict)
  pub reported : Appends r.notes_before r.notes_after []
  pub shelf : KeepsShelf r.before r.after

-- Status 0 of `run`: both files were read, and the output has grown by exactly the table of the rows with the outputs of
-- the one run of the design that the file expands to.
pub record IsSimulated (r : Execution) (design_name table_name : List ℕ) (top clock : Option (List ℕ)) : Type 0 where
  pub design : List ℕ
  pub table : List ℕ
  pub given : BothGiven r.before.held design_name table_name design table
  pub text : List ℕ
  pub ran : IsFileRun (kind_of table_name) design table top clock text
  pub printed : Appends r.before.out r.after.out text
  pub reported : Appends r.notes_before r.notes_after []
  pub shelf : KeepsShelf r.before r.after

-- Status 0 of `sites`: the design was read, and the output has grown by exactly the lines of its sites.
pub record IsListed (r : Execution) (design_name : List ℕ) (top clock : Option (List ℕ)) : Type 0 where
  pub design : List ℕ
  pub given : Gave r.before.held design_name 1048576 design
  pub text : List ℕ
  pub lists : IsSiteText design top clock text
  pub printed : Appends r.before.out r.after.out text
  pub reported : Appends r.notes_before r.notes_after []
  pub shelf : KeepsShelf r.before r.after

-- Status 0 of `lint`: the design was read, and the output has grown by exactly the file with its blocks mended: the tree of its
-- expansion is the mended source, which has neither of the two faults, and where the design had neither, it is the file as it was.
pub record IsLinted (r : Execution) (design_name : List ℕ) (top : Option (List ℕ)) : Type 0 where
  pub design : List ℕ
  pub given : Gave r.before.held design_name 1048576 design
  pub text : List ℕ
  pub mends : IsMendedFile design top text
  pub cleaned : IsCleaned design top text
  pub printed : Appends r.before.out r.after.out text
  pub reported : Appends r.notes_before r.notes_after []
  pub shelf : KeepsShelf r.before r.after

-- Status 0 of `make`: the output has grown by exactly the summary of the seed, which tells how many rows and sites it has and the
-- least number of changes with which its design matches its table, and the shelf holds the files of such a repair.
pub record IsSummed (r : Execution) (seed : ℕ) (cert : List ℕ) : Type 0 where
  pub counts : Counts
  pub are : AreMadeCounts seed cert counts
  pub answer : Answer
  pub repair : IsMended (made_request cert) (made_design seed) (made_table seed) answer
  pub printed : Appends r.before.out r.after.out (summary seed counts)
  pub reported : Appends r.notes_before r.notes_after []
  pub shelf : HoldsFiles r answer

-- Status 1 of `make`: no choice gives an instance of the seed's design that matches, nothing was put out, and the shelf holds
-- the certificate of this.
pub record IsNotMade (r : Execution) (seed : ℕ) (cert : List ℕ) : Type 0 where
  pub answer : Answer
  pub none : IsUnmade seed cert answer
  pub printed : Appends r.before.out r.after.out []
  pub reported : Appends r.notes_before r.notes_after answer.notes
  pub shelf : HoldsFiles r answer

-- Status 2 of `make`: whether so many changes match is left open, nothing was put out, also where a choice was found that
-- matches, the notes have grown by the report of a repair, and the shelf holds the question with the fresh lines that each
-- member learned.
pub record IsUndecided (r : Execution) (seed : ℕ) (cert : List ℕ) : Type 0 where
  pub answer : Answer
  pub left : IsMadeOpen seed cert answer
  pub printed : Appends r.before.out r.after.out []
  pub reported : Appends r.notes_before r.notes_after answer.notes
  pub shelf : HoldsFiles r answer

-- the file holds a circuit, and no input makes every output of it true
pub record HoldsNeverTrue (told : Option Held) (circuit_name : List ℕ) : Type 0 where
  pub circuit : List ℕ
  pub given : Gave told circuit_name 268435456 circuit
  pub never : IsNeverTrue circuit

-- the arguments ask for a check of these files
abbrev pub IsCheck : List (List ℕ) → List ℕ → List ℕ → Type 0
IsCheck arguments circuit proof = command_of arguments ≡ Some (check circuit proof)

-- what `repair` has done, or `run`, or `sites`, or `check`, or `make`, or `lint`
abbrev pub HasDone : Execution → Plan → Type 0
HasDone r plan = WhereRepair plan (IsRepaired r) ⊎ (WhereRun plan (IsSimulated r) ⊎ (WhereSites plan (IsListed r) ⊎ (WhereCheck plan (IsAccepted r) ⊎ (WhereMake plan (IsSummed r) ⊎ WhereLint plan (IsLinted r)))))

-- what `repair`, `check` and `make` found not to be so
abbrev pub HasFailed : Execution → Plan → Type 0
HasFailed r plan = WhereRepair plan (IsBeyondRepair r) ⊎ (WhereCheck plan (IsRejected r) ⊎ WhereMake plan (IsNotMade r))

-- what `repair` or `make` left open
abbrev pub LeavesOpen : Execution → Plan → Type 0
LeavesOpen r plan = WhereRepair plan (IsUnsettled r) ⊎ WhereMake plan (IsUndecided r)

-- Status 3: a refusal was due, it is printed, and all else stays.
pub record IsRefused (r : Execution) (command : Command) : Type 0 where
  pub refusal : Refusal
  pub due : Refuses command r.before.held refusal
  pub reported : Appends r.notes_before r.notes_after (refused_text refusal)
  pub shelf : KeepsShelf r.before r.after
  pub out : KeepsOut r.before r.after

-- Status 4 with an absent name: it is the first that a told shelf does not hold, and all else stays.
pub record IsAbsent (r : Execution) (command : Command) : Type 0 where
  pub name : List ℕ
  pub due : AbsentAt r.before.held command.reads name
  pub reported : Appends r.notes_before r.notes_after (absent_text name)
  pub shelf : KeepsShelf r.before r.after
  pub out : KeepsOut r.before r.after

-- Status 4 with a read that failed, where those before it gave their files: the shelf's count of faults rose, and all else stays but
-- the notes.
pub record IsReadFault (r : Execution) (command : Command) : Type 0 where
  pub name : List ℕ
  pub read : FaultAt r.before.held command.reads name
  pub rose : Faulted r.before.faults r.after.faults
  pub held : r.after.held ≡ r.before.held
  pub out : KeepsOut r.before r.after
  pub reported : Appends r.notes_before r.notes_after (read_fault_text name)

-- Status 4 with the write of a file of the answer that failed, the first with number 0: the files before it are whole, its
-- name has what it had or a front of its bytes, the shelf's count of faults rose, and nothing was put on the output.
pub record IsWriteFault (r : Execution) (command : Command) : Type 0 where
  pub answer : Answer
  pub due : Due command r.before.held answer
  pub number : ℕ
  pub within : number < length answer.files
  pub files : StopsAtWrite r.before.held r.after.held answer.files number
  pub rose : Faulted r.before.faults r.after.faults
  pub out : KeepsOut r.before r.after
  pub reported : Appends r.notes_before r.notes_after (write_fault_text (file_at answer.files number).0)

-- Status 4 with a put on the output that failed: its count of faults rose, it has grown by a front of the piece that is due,
-- and the files of the answer are whole.
pub record IsOutFault (r : Execution) (command : Command) : Type 0 where
  pub answer : Answer
  pub due : Due command r.before.held answer
  pub rose : Faulted r.before.out_faults r.after.out_faults
  pub printed : AppendsFront r.before.out r.after.out answer.out
  pub files : HoldsFiles r answer
  pub reported : Appends r.notes_before r.notes_after out_fault_text

-- Status 4 with a put on the notes that failed: their count of faults rose, they have grown by a front of the text that is
-- due, and shelf and output are as the ending leaves them that it reports.
pub record IsReportFault (r : Execution) : Type 0 where
  pub ending : Ending
  pub text : List ℕ
  pub ends : Ends r.arguments r.before r.after ending text
  pub rose : Faulted r.notes_faults_before r.notes_faults_after
  pub reported : AppendsFront r.notes_before r.notes_after text

-- the first files of an answer stand on the shelf, in order and whole, and all else there stays
pub record HoldsFirst (r : Execution) (command : Command) : Type 0 where
  pub answer : Answer
  pub due : Due command r.before.held answer
  pub number : ℕ
  pub within : number < length answer.files
  pub held : r.after.held ≡ with_files r.before.held (take number answer.files)

-- the arguments name a command of which this holds
abbrev pub WhereCommand : List (List ℕ) → (Plan → Type 0) → Type 0
WhereCommand arguments P = (plan : Plan) × (command_of arguments ≡ Some plan) × P plan

-- Status 5: memory ran out, this is printed, nothing was put on the output, and the shelf holds what it held; or, where it
-- ran out as the files of an answer were written, the first of these.
pub record IsExhausted (r : Execution) : Type 0 where
  pub reported : Appends r.notes_before r.notes_after memory_text
  pub held : (r.after.held ≡ r.before.held) ⊎ WhereCommand r.arguments (λ plan. HoldsFirst r (command_of_plan plan))
  pub faults : r.after.faults ≡ r.before.faults
  pub out : KeepsOut r.before r.after

-- Status 6: the arguments name no command, the usage is printed, and all else stays.
pub record IsUnread (r : Execution) : Type 0 where
  pub none : command_of r.arguments ≡ None
  pub reported : Appends r.notes_before r.notes_after usage_text
  pub shelf : KeepsShelf r.before r.after
  pub out : KeepsOut r.before r.after

-- a count of faults rose in the run, or stands at its type's end
abbrev pub SomeFault : Execution → Type 0
SomeFault r = Faulted r.before.faults r.after.faults ⊎ (Faulted r.before.out_faults r.after.out_faults ⊎ Faulted r.notes_faults_before r.notes_faults_after)

-- of a command, which failure it was: a name that is absent, a read, the write of a file, or the put on the output
abbrev pub Fails : Execution → Command → Type 0
Fails r command = IsAbsent r command ⊎ (IsReadFault r command ⊎ (IsWriteFault r command ⊎ IsOutFault r command))

-- which failure it was: of the report; or of the command
abbrev pub IsFailure : Execution → Type 0
IsFailure r = IsReportFault r ⊎ WhereCommand r.arguments (λ plan. Fails r (command_of_plan plan))

-- the texts that an outcome decides alone
abbrev pub ShowsOutcome : Outcome → Execution → Type 0
ShowsOutcome mended r = ⊤
ShowsOutcome unmendable r = Appends r.before.out r.after.out []
ShowsOutcome (ran text) r = Appends r.before.out r.after.out text × Appends r.notes_before r.notes_after []
ShowsOutcome (listed text) r = Appends r.before.out r.after.out text × Appends r.notes_before r.notes_after []
ShowsOutcome (checked verdict) r = Appends r.before.out r.after.out (verdict_text verdict) × Appends r.notes_before r.notes_after []
ShowsOutcome (made text) r = Appends r.before.out r.after.out text × Appends r.notes_before r.notes_after []
ShowsOutcome (linted text) r = Appends r.before.out r.after.out text × Appends r.notes_before r.notes_after []

-- the texts that what is expected decides alone
abbrev pub Shows : Expected → Execution → Type 0
Shows (absent name) r = Appends r.notes_before r.notes_after (absent_text name)
Shows (refused refusal) r = Appends r.notes_before r.notes_after (refused_text refusal)
Shows unparsed r = (offset : ℕ) × Appends r.notes_before r.notes_after (refused_text (Input (At Syntax offset)))
Shows (done outcome) r = ShowsOutcome outcome r

-- what is expected of a repair may be left open, with status 2
abbrev pub MayStayOpen : Expected → Type 0
MayStayOpen (absent name) = ⊥
MayStayOpen (refused refusal) = ⊥
MayStayOpen unparsed = ⊥
MayStayOpen (done outcome) = IsOfRepair outcome

-- what is expected was carried out and reported; or memory ran out; or something failed; or it was left open
abbrev pub Follows : Execution → Expected → Type 0
Follows r v = ((r.status ≡ expected_status v) × Shows v r) ⊎ ((r.status ≡ 5) ⊎ (((r.status ≡ 4) × SomeFault r) ⊎ ((r.status ≡ 2) × MayStayOpen v)))

abbrev pub execution : List (List ℕ) → Outside → Outside → Option (List ℕ) → Option (List ℕ) → ℕ → ℕ → ℕ → Execution
execution arguments before after notes_before notes_after notes_faults_before notes_faults_after status = record {
  arguments = arguments;
  before = before;
  after = after;
  notes_before = notes_before;
  notes_after = notes_after;
  notes_faults_before = notes_faults_before;
  notes_faults_after = notes_faults_after;
  status = status;
}

-- each name that the command reads is held, with few enough bytes
abbrev pub AllGiven : Option Held → List (List ℕ × ℕ) → Type 0
AllGiven told [] = ⊤
AllGiven told (read ∷ reads) = ((bytes : List ℕ) × Gave told read.0 read.1 bytes) × AllGiven told reads

-- no refusal of the command is due
abbrev pub NoneRefuses : Command → Option Held → Type 0
NoneRefuses command told = (refusal : Refusal) → Refuses command told refusal → ⊥

-- no count of faults rose, or stands at its type's end
pub record NoFaults (r : Execution) : Type 0 where
  pub shelf : NoFault r.before.faults r.after.faults
  pub out : NoFault r.before.out_faults r.after.out_faults
  pub notes : NoFault r.notes_faults_before r.notes_faults_after

-- The arguments ask for a repair, a told shelf holds both files, and the design matches the table as it is.
pub record IsMatchingRepair (r : Execution) (design : List ℕ) : Type 0 where
  pub held : Held
  pub told : r.before.held ≡ Some held
  pub design_name : List ℕ
  pub table_name : List ℕ
  pub cert : List ℕ
  pub top : Option (List ℕ)
  pub clock : Option (List ℕ)
  pub budget : ℕ
  pub members : ℕ
  pub arguments : command_of r.arguments ≡ Some (repair design_name table_name cert top clock budget members)
  pub table : List ℕ
  pub given : BothGiven (Some held) design_name table_name design table
  pub matching : IsMatching (request table_name cert top clock budget members) design table

-- the source is put out as it was, and the shelf stays; or memory ran out; or something failed
abbrev pub PrintsAsItWas : Execution → List ℕ → Type 0
PrintsAsItWas r design = ((r.status ≡ 0) × (Appends r.before.out r.after.out design × (Appends r.notes_before r.notes_after unchanged_text × KeepsShelf r.before r.after)))
    ⊎ ((r.status ≡ 5) ⊎ ((r.status ≡ 4) × SomeFault r))

-- The arguments ask for a repair, a told shelf holds both files, and each member may learn more than c * 3^c lines, for the c
-- bits that write a choice of the sites.
pub record IsAmpleRepair (r : Execution) : Type 0 where
  pub held : Held
  pub told : r.before.held ≡ Some held
  pub design_name : List ℕ
  pub table_name : List ℕ
  pub cert : List ℕ
  pub top : Option (List ℕ)
  pub clock : Option (List ℕ)
  pub budget : ℕ
  pub members : ℕ
  pub arguments : command_of r.arguments ≡ Some (repair design_name table_name cert top clock budget members)
  pub design : List ℕ
  pub table : List ℕ
  pub given : BothGiven (Some held) design_name table_name design table
  pub ample : IsAmple (request table_name cert top clock budget members) design table

-- what `repair` and `make` alone may do is not asked for
abbrev pub AsksNoRepair : List (List ℕ) → Type 0
AsksNoRepair arguments = WhereCommand arguments AsksRepair → ⊥
