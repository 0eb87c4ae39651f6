-- What a repair prints, read and run again.
use Rattle.std.specs.Prelude.{◌≡◌, ◌≢◌, ℕ, List, [], length, Bool, Option, Some, Err}
use Rattle.rr_directive.specs.declared.origin.Origin.{Origin}
use Rattle.rr_directive.specs.Expand.{IsExpansion, IsTaken}
use Rattle.rr_syntax.specs.Tree.{SourceText}
use Rattle.rr_lex.specs.Tokens.{Lexeme}
use Rattle.rr_flat.specs.declared.fault.FlatFault.TheVariants.{TooMany}
use Rattle.rr_flat.specs.declared.fault.Limit.TheVariants.{Unfolded}
use Rattle.rr_flat.specs.Plain.{Flat}
use Rattle.rr_flatten.specs.Walk.{flat_by}
use Rattle.rr_elaborate.specs.Designs.{IsText}
use Rattle.rr_trace.specs.Misses.{AgreeRows}
use Rattle.rr_trace.specs.Tables.{Table}
use Rattle.rr_trace.specs.Tops.{ports_of}
use Rattle.rr_trace.specs.Written.{table_text}
use Rattle.rr_cycle.specs.Cycles.{Run}
use Rattle.rr_run.specs.declared.rows.TableKind.{TableKind}
use Rattle.rr_run.specs.Rows.{ReadsTable}
use Rattle.rr_run.specs.Runs.{IsLawfulDesign, IsRun}
use Rattle.rr_run.specs.Files.{IsFileRun}
use Rattle.rr_endings.specs.Found.{Answer}
use Rattle.rr_repair.specs.Repairs.{PlainRequest}
use Rattle.rr_outcomes.specs.Outcomes.{IsLeftOpen, IsMended}

-- the bytes are a lawful design, and the text is the table of the rows, read as a table of this kind, with the outputs of its run
-- on them, which equal each known cell of the table
pub record RunsRight (kind : TableKind) (bytes table : List ℕ) (top word : Option (List ℕ)) (text : List ℕ) : Type 0 where
  pub tokens : List Lexeme
  pub flat : Flat
  pub clock : Option ℕ
  pub rising : Bool
  pub design : IsLawfulDesign bytes top word tokens flat clock rising
  pub rows : Table
  pub read : ReadsTable kind flat clock rising table rows
  pub outputs : List (List ℕ)
  pub run : Run flat clock rows.inputs outputs
  pub printed : text ≡ table_text (ports_of flat clock) rows.inputs outputs
  pub agree : AgreeRows rows.expected outputs (length rows.expected)

-- the loops of a tree have bodies of at most 1,048,576 tokens in all their turns (section 9.6), so that no limit on these refuses it
abbrev pub UnfoldsWithin : SourceText → Option (List ℕ) → Type 0
UnfoldsWithin tree top = (count : ℕ) → flat_by (Some 1048576) tree top ≡ Err (TooMany Unfolded count) → ⊥

-- The printed bytes expand to a text. Where that is read as a text, which is so where its tree is at most 500 deep, and the limit on
-- the tokens of its loops does not refuse it, since a change may stand in the body of a loop, it has such a run: no law and no table
-- refuses it.
abbrev pub RunsAgain : Type 0
RunsAgain = (w : PlainRequest) (design table : List ℕ) (answer : Answer) → IsMended w design table answer → (again : List ℕ) (origins : List Origin) → IsExpansion answer.out again origins →
    (tokens : List Lexeme) (tree : SourceText) → IsText again tokens tree → UnfoldsWithin tree w.top → (text : List ℕ) × RunsRight w.kind again table w.top w.clock text

-- and each run of it is such
abbrev pub RunAgrees : Type 0
RunAgrees = (w : PlainRequest) (design table : List ℕ) (answer : Answer) → IsMended w design table answer → (again : List ℕ) (origins : List Origin) → IsExpansion answer.out again origins →
    (text : List ℕ) → IsRun w.kind again table w.top w.clock text → RunsRight w.kind again table w.top w.clock text

-- The same of bytes that are printed where a repair is left open: no law and no table refuses them,
abbrev pub FoundRunsAgain : Type 0
FoundRunsAgain = (w : PlainRequest) (design table : List ℕ) (answer : Answer) → IsLeftOpen w design table answer → answer.out ≢ [] → (again : List ℕ) (origins : List Origin) → IsExpansion answer.out again origins →
    (tokens : List Lexeme) (tree : SourceText) → IsText again tokens tree → UnfoldsWithin tree w.top → (text : List ℕ) × RunsRight w.kind again table w.top w.clock text

-- and each run of their expansion is such
abbrev pub FoundRunAgrees : Type 0
FoundRunAgrees = (w : PlainRequest) (design table : List ℕ) (answer : Answer) → IsLeftOpen w design table answer → answer.out ≢ [] → (again : List ℕ) (origins : List Origin) → IsExpansion answer.out again origins →
    (text : List ℕ) → IsRun w.kind again table w.top w.clock text → RunsRight w.kind again table w.top w.clock text

-- The command `run` expands directives. Where the expansion of the printed bytes is within the limit, it gives such a run of them
abbrev pub FileRunsAgain : Type 0
FileRunsAgain = (w : PlainRequest) (design table : List ℕ) (answer : Answer) → IsMended w design table answer → (again : List ℕ) (origins : List Origin) → IsTaken answer.out again origins →
    (tokens : List Lexeme) (tree : SourceText) → IsText again tokens tree → UnfoldsWithin tree w.top →
    (text : List ℕ) × (IsFileRun w.kind answer.out table w.top w.clock text × RunsRight w.kind again table w.top w.clock text)

-- and each run of them as a file is such
abbrev pub FileRunAgrees : Type 0
FileRunAgrees = (w : PlainRequest) (design table : List ℕ) (answer : Answer) → IsMended w design table answer →
    (text : List ℕ) → (run : IsFileRun w.kind answer.out table w.top w.clock text) → RunsRight w.kind run.text table w.top w.clock text

-- So it is with what is printed where a repair is left open
abbrev pub FoundFileRunsAgain : Type 0
FoundFileRunsAgain = (w : PlainRequest) (design table : List ℕ) (answer : Answer) → IsLeftOpen w design table answer → answer.out ≢ [] → (again : List ℕ) (origins : List Origin) → IsTaken answer.out again origins →
    (tokens : List Lexeme) (tree : SourceText) → IsText again tokens tree → UnfoldsWithin tree w.top →
    (text : List ℕ) × (IsFileRun w.kind answer.out table w.top w.clock text × RunsRight w.kind again table w.top w.clock text)

abbrev pub FoundFileRunAgrees : Type 0
FoundFileRunAgrees = (w : PlainRequest) (design table : List ℕ) (answer : Answer) → IsLeftOpen w design table answer → answer.out ≢ [] →
    (text : List ℕ) → (run : IsFileRun w.kind answer.out table w.top w.clock text) → RunsRight w.kind run.text table w.top w.clock text
