-- What the repair of a design is, from the bytes of the design and of its table: the source with the fewest changes whose run
-- matches each known cell, or that no changes do, or that the search has spent its lines, with what it found by then. No
-- search stands in it.
use Rattle.std.specs.Prelude.{◌≡◌, ◌⊎◌, ℕ, ◌+◌, ◌-◌, ◌*◌, ◌<◌, ◌≤◌, min, Bool, List, [], length, map, Option}
use Rattle.std.specs.List.{sum}
use Rattle.rr_syntax.specs.Tree.{SourceText}
use Rattle.rr_directive.specs.Expand.{IsTaken as IsExpanded}
use Rattle.rr_flat.specs.Clocks.{OneClock}
use Rattle.rr_flat.specs.Lawful.{Lawful}
use Rattle.rr_flat.specs.Plain.{Flat}
use Rattle.rr_flat.specs.Signals.{Signal, Text}
use Rattle.rr_flat.specs.declared.fault.Limit.TheVariants as limit
use Rattle.rr_elaborate.specs.Designs.{IsDesignOf}
use Rattle.rr_circuit.specs.Aag.{aag}
use Rattle.rr_circuit.specs.Values.{OutputNetlist}
use Rattle.rr_derive.specs.Derive.{Proof, Refutes}
use Rattle.rr_derive.specs.Lrat.{lrat}
use Rattle.rr_check.specs.declared.verdict.Verdict.TheVariants.{Accepted}
use Rattle.rr_check_certificate.specs.Certificates.{IsJudged}
use Rattle.rr_trace.specs.Tables.{Table}
use Rattle.rr_run.specs.Files.{placed_tokens}
use Rattle.rr_kept.specs.Read.{SourceFile}
use Rattle.rr_run.specs.Refusals.{Refusal as RunRefusal, TooMany}
use Rattle.rr_run.specs.Rows.{ReadsTable, RefusesTable}
use Rattle.rr_run.specs.declared.rows.TableKind.{TableKind}
use Rattle.rr_choice.specs.declared.pick.Pick.{Pick}
use Rattle.rr_choice.specs.Choices.{cost, IsChoice}
use Rattle.rr_instance.specs.Instances.{instance_source}
use Rattle.rr_choice.specs.Sites.{Site}
use Rattle.rr_members.specs.Searched.{IsSpent}
use Rattle.rr_kept.specs.Kept.{AreKept}
use Rattle.rr_map.specs.Printed.{printed_file, printed_text, ExpandsTo}
use Rattle.rr_repair_report.specs.Texts.{report}
use Rattle.rr_sites_command.specs.Lists.{AreSites, RefusesSites}
use Rattle.rr_transition.specs.Cycles.{Design, instance_design}
use Rattle.rr_tseitin.specs.Tseitin.{formula_of}
use Rattle.rr_unroll.specs.Faithful.{Faithful}
use Rattle.rr_unroll.specs.Matches.{Matches}
use Rattle.rr_search.specs.Least.{Least, NoneMatches}
use Rattle.rr_endings.specs.Found.{Answer}
use Rattle.rr_endings.specs.Refusals.{Refusal, TooManyBytes, Input, Flawed}
use Rattle.rr_repair_output.specs.Certified.{certificate}
use Rattle.rr_repair_output.specs.Texts.{beyond_text, found_text, open_text, unchanged_text}

-- what is asked: how the table is read, the top and the clock, each given or not, the name of the certificate's files, and how
-- many lines each of how many members of a search may learn for one question
pub record PlainRequest : Type 0 where
  pub kind : TableKind
  pub top : Option Text
  pub clock : Option Text
  pub cert : List ℕ
  pub budget : ℕ
  pub members : ℕ

-- the bits of all signals
abbrev pub flat_bits : Flat → ℕ
flat_bits flat = sum (map (λ (s : Signal). s.width) flat.signals)

-- the work of a search, of which a count of 64 bits is kept
abbrev pub work_of : Flat → Table → ℕ
work_of flat rows = min (length rows.inputs * flat_bits flat) 18446744073709551615

-- the file of a design is read as this: it expands to the text of this lawful flat design, of whose sites these, at most 1,024, can
-- be changed in the file
pub record IsSited (w : PlainRequest) (design : List ℕ) (file : SourceFile) (flat : Flat) (clock : Option ℕ) (rising : Bool) (sites : List Site) : Type 0 where
  pub expansion : IsExpanded design file.text file.origins
  pub tree : IsDesignOf file.text file.tokens file.source w.top flat
  pub lawful : Lawful flat w.clock
  pub one_clock : OneClock flat w.clock clock rising
  pub listed : List Site
  pub are : AreSites file.source flat clock listed
  pub kept : AreKept file.origins file.tokens file.source listed sites
  pub few : length sites ≤ 1024

-- both files are taken: these are the design and its sites, and the rows of its table
pub record IsTaken (w : PlainRequest) (design table : List ℕ) (file : SourceFile) (sites : List Site) (rows : Table) : Type 0 where
  pub flat : Flat
  pub clock : Option ℕ
  pub rising : Bool
  pub sited : IsSited w design file flat clock rising sites
  pub read : ReadsTable w.kind flat clock rising table rows
  pub small : work_of flat rows ≤ 262144

-- the design, with the words for its top and its clock
abbrev pub design_of : PlainRequest → SourceText → Design
design_of w source = record { source = source; top = w.top; word = w.clock }

-- ---- answers

-- the design matches as it is: it is printed as it is, and nothing is written
pub record IsUnchanged (w : PlainRequest) (design : List ℕ) (source : SourceText) (rows : Table) (answer : Answer) : Type 0 where
  pub matches : Matches (design_of w source) rows
  pub files : answer.files ≡ []
  pub printed : answer.out ≡ design
  pub notes : answer.notes ≡ unchanged_text
  pub status : answer.status ≡ 0

-- a circuit that is true where at most so many changes match, and lines that refute its formula; a check accepts their texts
pub record IsRefutation (j : Design) (sites : List Site) (rows : Table) (bound : ℕ) (circuit : OutputNetlist) (proof : Proof) : Type 0 where
  pub faithful : Faithful circuit j sites rows bound
  pub refutes : Refutes (formula_of circuit).clauses proof.lines
  pub accepted : IsJudged (aag circuit) (lrat proof) Accepted

-- a choice of at least one change whose instance matches, and none of fewer changes does: the file is printed with these changes;
-- it expands to the expansion with these changes, whose tree is the instance; and the certificate of fewer changes is written
pub record IsRepaired (w : PlainRequest) (design : List ℕ) (file : SourceFile) (sites : List Site) (rows : Table) (answer : Answer) : Type 0 where
  pub faulty : Matches (design_of w file.source) rows → ⊥
  pub choice : List Pick
  pub chosen : IsChoice sites choice
  pub some : 1 ≤ cost choice
  pub matches : Matches (instance_design sites choice (design_of w file.source)) rows
  pub least : Least (design_of w file.source) sites rows (cost choice)
  pub printed : answer.out ≡ printed_file design file sites choice
  pub tree : ExpandsTo answer.out (printed_text file sites choice) (instance_source sites choice file.source)
  pub circuit : OutputNetlist
  pub proof : Proof
  pub fewer : IsRefutation (design_of w file.source) sites rows (cost choice - 1) circuit proof
  pub files : answer.files ≡ certificate w.cert circuit proof
  pub proposals : ℕ
  pub notes : answer.notes ≡ report (placed_tokens file.origins (length design) file.tokens) sites choice proposals
  pub status : answer.status ≡ 0

-- no choice gives an instance that matches: the certificate of all changes is written, and nothing is printed
pub record IsBeyond (w : PlainRequest) (source : SourceText) (sites : List Site) (rows : Table) (answer : Answer) : Type 0 where
  pub faulty : Matches (design_of w source) rows → ⊥
  pub none : NoneMatches (design_of w source) sites rows
  pub circuit : OutputNetlist
  pub proof : Proof
  pub all : IsRefutation (design_of w source) sites rows (length sites) circuit proof
  pub files : answer.files ≡ certificate w.cert circuit proof
  pub printed : answer.out ≡ []
  pub notes : answer.notes ≡ beyond_text (length sites)
  pub status : answer.status ≡ 1

-- changes of all sites are left open, so nothing was found, and nothing is printed
pub record IsNothingFound (w : PlainRequest) (sites : List Site) (bound : ℕ) (answer : Answer) : Type 0 where
  pub all : bound ≡ length sites
  pub printed : answer.out ≡ []
  pub notes : answer.notes ≡ open_text w.budget bound

-- fewer changes than there are sites are left open, and the instance of a choice of one change more matches: the source is
-- printed with these changes, the tree of its expansion is the instance, and the sites are reported; nothing says that no fewer
-- changes match
pub record IsFound (w : PlainRequest) (design : List ℕ) (file : SourceFile) (sites : List Site) (rows : Table) (bound : ℕ) (answer : Answer) : Type 0 where
  pub below : bound < length sites
  pub choice : List Pick
  pub chosen : IsChoice sites choice
  pub costs : cost choice ≡ bound + 1
  pub matches : Matches (instance_design sites choice (design_of w file.source)) rows
  pub printed : answer.out ≡ printed_file design file sites choice
  pub tree : ExpandsTo answer.out (printed_text file sites choice) (instance_source sites choice file.source)
  pub notes : answer.notes ≡ found_text w.budget bound (placed_tokens file.origins (length design) file.tokens) sites choice

-- whether at most so many changes match is left open: each member has learned exactly as many fresh lines as it may, which are
-- written with the question; and a choice that matches is printed, or nothing was found
pub record IsOpen (w : PlainRequest) (design : List ℕ) (file : SourceFile) (sites : List Site) (rows : Table) (answer : Answer) : Type 0 where
  pub faulty : Matches (design_of w file.source) rows → ⊥
  pub bound : ℕ
  pub few : bound ≤ length sites
  pub circuit : OutputNetlist
  pub proof : Proof
  pub faithful : Faithful circuit (design_of w file.source) sites rows bound
  pub spent : IsSpent (formula_of circuit) circuit.netlist.inputs w.members w.budget proof.lines
  pub files : answer.files ≡ certificate w.cert circuit proof
  pub found : IsNothingFound w sites bound answer ⊎ IsFound w design file sites rows bound answer
  pub status : answer.status ≡ 2

abbrev pub IsAnswer : PlainRequest → List ℕ → SourceFile → List Site → Table → Answer → Type 0
IsAnswer w design file sites rows answer =
    IsUnchanged w design file.source rows answer ⊎ (IsRepaired w design file sites rows answer ⊎ (IsBeyond w file.source sites rows answer ⊎ IsOpen w design file sites rows answer))

-- the answer for two files
pub record AnswersRepair (w : PlainRequest) (design table : List ℕ) (answer : Answer) : Type 0 where
  pub file : SourceFile
  pub sites : List Site
  pub rows : Table
  pub taken : IsTaken w design table file sites rows
  pub is : IsAnswer w design file sites rows answer

-- ---- counts
-- how many rows a table has, how many sites of a design can be changed in its file, and the least number of changes with which
-- the design matches
pub record Counts : Type 0 where
  pub rows : ℕ
  pub sites : ℕ
  pub changes : ℕ

-- an answer, and these counts, the last where it has status 0
pub record IsCounted (w : PlainRequest) (design : List ℕ) (file : SourceFile) (sites : List Site) (rows : Table) (answer : Answer) (counts : Counts) : Type 0 where
  pub is : IsAnswer w design file sites rows answer
  pub all_rows : counts.rows ≡ length rows.inputs
  pub all_sites : counts.sites ≡ length sites
  pub least : answer.status ≡ 0 → Least (design_of w file.source) sites rows counts.changes

-- both files are taken, and this is the least number of changes with which the design matches
pub record IsLeastCount (w : PlainRequest) (design table : List ℕ) (changes : ℕ) : Type 0 where
  pub file : SourceFile
  pub sites : List Site
  pub rows : Table
  pub taken : IsTaken w design table file sites rows
  pub least : Least (design_of w file.source) sites rows changes

-- both files are taken, and these are their counts
pub record AreCounts (w : PlainRequest) (design table : List ℕ) (counts : Counts) : Type 0 where
  pub file : SourceFile
  pub sites : List Site
  pub rows : Table
  pub taken : IsTaken w design table file sites rows
  pub all_rows : counts.rows ≡ length rows.inputs
  pub all_sites : counts.sites ≡ length sites
  pub least : Least (design_of w file.source) sites rows counts.changes

-- the answer for two files, and their counts, where it has status 0
pub record CountsRepair (w : PlainRequest) (design table : List ℕ) (answer : Answer) (counts : Counts) : Type 0 where
  pub answers : AnswersRepair w design table answer
  pub are : answer.status ≡ 0 → AreCounts w design table counts

-- ---- refusals

-- the design is taken, and the table is none for its ports
pub record HasNoTable (w : PlainRequest) (design table : List ℕ) (refusal : RunRefusal) : Type 0 where
  pub file : SourceFile
  pub flat : Flat
  pub clock : Option ℕ
  pub rising : Bool
  pub sites : List Site
  pub sited : IsSited w design file flat clock rising sites
  pub refused : RefusesTable w.kind flat clock rising table refusal

-- the table has these rows, and the work is above 262,144, which the refusal tells
pub record HasMuchWork (w : PlainRequest) (design table : List ℕ) (refusal : RunRefusal) : Type 0 where
  pub file : SourceFile
  pub flat : Flat
  pub clock : Option ℕ
  pub rising : Bool
  pub sites : List Site
  pub sited : IsSited w design file flat clock rising sites
  pub rows : Table
  pub read : ReadsTable w.kind flat clock rising table rows
  pub much : 262144 < work_of flat rows
  pub told : refusal ≡ TooMany limit.Work (work_of flat rows)

-- why two files have no repair: of the design and its sites first, then of the table, then of the work
abbrev pub Refuses : PlainRequest → List ℕ → List ℕ → RunRefusal → Type 0
Refuses w design table refusal = RefusesSites design w.top w.clock refusal ⊎ (HasNoTable w design table refusal ⊎ HasMuchWork w design table refusal)

abbrev pub RefusesRepair : PlainRequest → List ℕ → List ℕ → Refusal → Type 0
RefusesRepair w design table (TooManyBytes count) = ⊥
RefusesRepair w design table (Input refusal) = Refuses w design table refusal
RefusesRepair w design table (Flawed flaw line) = ⊥
