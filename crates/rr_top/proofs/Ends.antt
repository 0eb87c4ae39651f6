-- How commands end, from how their reads end and from what their files give.
use Rattle.std.proofs.Common.{◌≡◌, inl, inr, ℕ, ◌≤◌, List, [], ◌∷◌, length, refl, sym, subst, Option, Result, Ok, Err}
use Rattle.std.specs.Prelude.{MatchResult}
use Rattle.rr_edge.specs.Held.{Held}
use Rattle.rr_endings.specs.declared.ending.Ending.{Ending}
use Rattle.rr_endings.specs.declared.ending.Ending.TheVariants.{Usage, NoMemory, Absent, ReadFault, WriteFault, OutFault, Refused, Done}
use Rattle.rr_endings.specs.declared.ending.Report.{Report}
use Rattle.rr_endings.specs.declared.found.Found.{Found}
use Rattle.rr_endings.specs.declared.refusal.Refusal.{Refusal as RustRefusal}
use Rattle.rr_endings.specs.declared.refusal.Stop.{Stop}
use Rattle.rr_endings.specs.declared.refusal.Stop.TheVariants as stop
use Rattle.rr_endings.specs.Found.{Answer}
use Rattle.rr_endings.specs.Refusals.{plain_refusal}
use Rattle.rr_endings.specs.Texts.{memory_text, refused_text}
use Rattle.rr_endings.specs.Views.{plain_answer, report_text, IsRefusedOrNoMemory, Stops, StopsWhere}
use Rattle.rr_effects.specs.Outside.{Outside, outside, KeepsShelf, KeepsOut}
use Rattle.rr_effects.specs.Reads.{Given, StopsReading}
use Rattle.rr_effects.specs.Delivery.{Delivers}
use Rattle.rr_top.specs.Commands.{Command, Refuses, WhereOne, WhereTwo}
use Rattle.rr_top.specs.Endings.{CommandEnds}
use Rattle.rr_top.specs.Views.{Gives}

-- ---- answers for two files
module _ (command : Command) (first second : List ℕ) where
  gives_two : (result : Result Found Stop) → MatchResult result (λ found. command.answers (first ∷ (second ∷ [])) (plain_answer found)) (StopsWhere (command.refuses (first ∷ (second ∷ []))))
      → Gives command (first ∷ (second ∷ [])) result
  gives_two (Ok found) g = g
  gives_two (Err stop) g = g

  pub gives : (files : List (List ℕ)) (result : Result Found Stop) → files ≡ first ∷ (second ∷ [])
      → MatchResult result (λ found. command.answers (first ∷ (second ∷ [])) (plain_answer found)) (StopsWhere (command.refuses (first ∷ (second ∷ [])))) → Gives command files result
  gives files result is g = subst (λ (fs : List (List ℕ)). Gives command fs result) (sym is) (gives_two result g)

-- the files are two
pub two_files : (files : List (List ℕ)) (P : List ℕ → List ℕ → Type 0) → WhereTwo files P → length files ≡ 2
two_files [] P p = absurd p
two_files (a ∷ []) P p = absurd p
two_files (a ∷ (b ∷ [])) P p = refl
two_files (a ∷ (b ∷ (c ∷ files))) P p = absurd p

-- .. of which this holds
pub of_two : (files : List (List ℕ)) (P : List ℕ → List ℕ → Type 0) (first second : List ℕ) → files ≡ first ∷ (second ∷ []) → WhereTwo files P → P first second
of_two files P first second is p = rw is at p

-- two files that were read are two, and the first is within its limit
pub first_within : (told : Option Held) (one other : List ℕ × ℕ) (files : List (List ℕ)) → Given told (one ∷ (other ∷ [])) files → WhereTwo files (λ first second. length first ≤ one.1)
first_within told one other [] g = absurd g
first_within told one other (a ∷ []) g = absurd g.1
first_within told one other (a ∷ (b ∷ [])) g = g.0.short
first_within told one other (a ∷ (b ∷ (c ∷ files))) g = absurd g.1.1

-- ---- one file
module _ (command : Command) (only : List ℕ) where
  gives_one : (result : Result Found Stop) → MatchResult result (λ found. command.answers (only ∷ []) (plain_answer found)) (StopsWhere (command.refuses (only ∷ []))) → Gives command (only ∷ []) result
  gives_one (Ok found) g = g
  gives_one (Err stop) g = g

  pub gives_of_one : (files : List (List ℕ)) (result : Result Found Stop) → files ≡ only ∷ [] → MatchResult result (λ found. command.answers (only ∷ []) (plain_answer found)) (StopsWhere (command.refuses (only ∷ [])))
      → Gives command files result
  gives_of_one files result is g = subst (λ (fs : List (List ℕ)). Gives command fs result) (sym is) (gives_one result g)

pub one_file : (files : List (List ℕ)) (P : List ℕ → Type 0) → WhereOne files P → length files ≡ 1
one_file [] P p = absurd p
one_file (a ∷ []) P p = refl
one_file (a ∷ (b ∷ files)) P p = absurd p

pub of_one : (files : List (List ℕ)) (P : List ℕ → Type 0) (only : List ℕ) → files ≡ only ∷ [] → WhereOne files P → P only
of_one files P only is p = rw is at p

-- a file that was read is one, and within its limit
pub only_within : (told : Option Held) (one : List ℕ × ℕ) (files : List (List ℕ)) → Given told (one ∷ []) files → WhereOne files (λ only. length only ≤ one.1)
only_within told one [] g = absurd g
only_within told one (a ∷ []) g = g.0.short
only_within told one (a ∷ (b ∷ files)) g = absurd g.1

-- ---- a command that has its files
module _ (told : Option Held) (faults : ℕ) (out : Option (List ℕ)) (out_faults : ℕ) (command : Command) where
  abbrev here : Outside
  here = outside told faults out out_faults

  keeps : KeepsShelf here here
  keeps = record { held = refl; faults = refl }

  keeps_out : KeepsOut here here
  keeps_out = record { out = refl; faults = refl }

  no_memory_ends : (report : Report) → report.ending ≡ NoMemory 0 → report_text report ≡ memory_text → CommandEnds command here here report.ending (report_text report)
  no_memory_ends report is text = rw is (inl (refl, keeps, keeps_out, text))

  refusal_ends : (refusal : RustRefusal) (report : Report) → report.ending ≡ Refused refusal → report_text report ≡ refused_text (plain_refusal refusal)
      → Refuses command told (plain_refusal refusal) → CommandEnds command here here report.ending (report_text report)
  refusal_ends refusal report is text due = rw is (inl (keeps, keeps_out, due, text))

  refused_ends : (refusal : RustRefusal) (report : Report) → IsRefusedOrNoMemory refusal report → Refuses command told (plain_refusal refusal) → CommandEnds command here here report.ending (report_text report)
  refused_ends refusal report (inl r) due = refusal_ends refusal report r.0 r.1 due
  refused_ends refusal report (inr m) due = no_memory_ends report m.0 m.1

  pub stopped_ends : (files : List (List ℕ)) (s : Stop) (report : Report) → Stops s report → Given told command.reads files → StopsWhere (command.refuses files) s
      → CommandEnds command here here report.ending (report_text report)
  stopped_ends files stop.Memory report says given where_is = no_memory_ends report says.0 says.1
  stopped_ends files (stop.Refused refusal) report says given where_is = refused_ends refusal report says (inr (record { files = files; given = given; refused = where_is }))

  pub answered_ends : (files : List (List ℕ)) (answer : Answer) (after : Outside) (ending : Ending) (text : List ℕ) → Delivers answer here after ending text → Given told command.reads files
      → command.answers files answer → CommandEnds command here after ending text
  answered_ends files answer after ending text delivers given answers = inr (answer, record { files = files; given = given; answers = answers }, delivers)

-- ---- reads
module _ (told told_now : Option Held) (faults faults_now : ℕ) (out : Option (List ℕ)) (out_faults : ℕ) (held : told_now ≡ told) (command : Command) where
  -- .. that gave all files
  pub files_end : (after : Outside) (ending : Ending) (text : List ℕ) → faults_now ≡ faults → CommandEnds command (outside told_now faults_now out out_faults) after ending text
      → CommandEnds command (outside told faults out out_faults) after ending text
  files_end after ending text quiet ends = rw (held, quiet) at ends

  -- .. and that did not
  pub reading_ends : (ending : Ending) (text : List ℕ) → StopsReading told command.reads faults faults_now ending text
      → CommandEnds command (outside told faults out out_faults) (outside told_now faults_now out out_faults) ending text
  reading_ends (NoMemory k) text s = inl (s.0, record { held = held; faults = s.1 }, record { out = refl; faults = refl }, s.2)
  reading_ends (Absent name) text s = inl (record { held = held; faults = s.0 }, record { out = refl; faults = refl }, s.1, s.2)
  reading_ends (ReadFault name) text s = inl (held, s.0, record { out = refl; faults = refl }, s.1, s.2)
  reading_ends (Refused refusal) text s = inl (record { held = held; faults = s.0 }, record { out = refl; faults = refl }, inl s.1, s.2)
  reading_ends (WriteFault k) text s = absurd s
  reading_ends Usage text s = absurd s
  reading_ends OutFault text s = absurd s
  reading_ends (Done status) text s = absurd s
