-- Reads that are made one after the other.
use Rattle.std.proofs.Common.{◌≡◌, ◌∙◌, inl, inr, ℕ, ◌+◌, ◌<◌, ◌≤◌, zero, suc, List, [], ◌∷◌, ◌++◌, length, map, take, get_or, refl, sym, ap, subst, arith, Option, None}
use Rattle.std.proofs.lemmas.List.{get_or-map, length-map, map_push, take_all}
use Rattle.std.specs.Prelude.{IsSomeAnd, Vec}
use Rattle.std.specs.declared.alloc.Global.{Global}
use Rattle.std.specs.Borrow.{Bor}
use Rattle.rr_edge.specs.Faults.{Faulted}
use Rattle.rr_edge.specs.Held.{Held}
use Rattle.rr_endings.specs.declared.ending.Ending.{Ending}
use Rattle.rr_endings.specs.declared.ending.Ending.TheVariants.{Usage, NoMemory, Absent, ReadFault, WriteFault, OutFault, Refused, Done}
use Rattle.rr_endings.specs.declared.ending.Report.{Report}
use Rattle.rr_endings.specs.declared.refusal.Refusal.{Refusal as RustRefusal}
use Rattle.rr_endings.specs.Refusals.{Refusal, TooManyBytes, Input, Flawed, plain_refusal}
use Rattle.rr_endings.specs.Texts.{absent_text, memory_text, read_fault_text}
use Rattle.rr_endings.specs.Views.{IsRefusedOrNoMemory, Says, report_text}
use Rattle.rr_effects.specs.declared.reads.Read.{Read}
use Rattle.rr_effects.specs.Reads.{AbsentAt, FaultAt, Gave, Given, RefusesReads, StopsReading, TooLongAt}
use Rattle.rr_effects.specs.Views.{IsTooLong, StopsRead, contents, read_of}

-- the reports of one read
module _ (told : Option Held) (limit before now : ℕ) (report : Report) where
  pub memory_stops : (name : List ℕ) → Says report (NoMemory 0) memory_text → now ≡ before → StopsRead told name limit before now report.ending (report_text report)
  memory_stops name s quiet = rw s.0 (refl, quiet, s.1)

  pub absent_stops : (name : Bor (List ℕ)) → Says report (Absent name) (absent_text name.now) → now ≡ before → IsSomeAnd told (λ held. held name.now ≡ None)
      → StopsRead told name.now limit before now report.ending (report_text report)
  absent_stops name s quiet none = rw s.0 (refl, quiet, none, s.1)

  pub fault_stops : (name : Bor (List ℕ)) → Says report (ReadFault name) (read_fault_text name.now) → Faulted before now → StopsRead told name.now limit before now report.ending (report_text report)
  fault_stops name s rose = rw s.0 (refl, rose, s.1)

  pub refused_stops : (name : List ℕ) (refusal : RustRefusal) → IsRefusedOrNoMemory refusal report → now ≡ before → IsTooLong told name limit (plain_refusal refusal)
      → StopsRead told name limit before now report.ending (report_text report)
  refused_stops name refusal (inl r) quiet long = rw r.0 (quiet, long, r.1)
  refused_stops name refusal (inr m) quiet long = rw m.0 (refl, quiet, m.1)

-- reads in order, of which the first k gave files
module _ (told : Option Held) (read : List ℕ × ℕ) where
  absent_at : (reads : List (List ℕ × ℕ)) (k : ℕ) (files : List (List ℕ)) → k < length reads → read ≡ get_or reads k read → Given told (take k reads) files
      → IsSomeAnd told (λ held. held read.0 ≡ None) → AbsentAt told reads read.0
  absent_at [] k files within is given none = absurd (omega (arith, within))
  absent_at (r ∷ reads) zero files within is given none = inl (subst (λ (x : List ℕ × ℕ). IsSomeAnd told (λ held. held x.0 ≡ None)) is none, ap (λ (x : List ℕ × ℕ). x.0) is)
  absent_at (r ∷ reads) (suc k) [] within is given none = absurd given
  absent_at (r ∷ reads) (suc k) (file ∷ files) within is given none = inr ((file, given.0), absent_at reads k files (omega (arith, within)) is given.1 none)

  long_at : (reads : List (List ℕ × ℕ)) (k : ℕ) (files : List (List ℕ)) → k < length reads → read ≡ get_or reads k read → Given told (take k reads) files
      → (count : ℕ) → IsTooLong told read.0 read.1 (TooManyBytes count) → TooLongAt told reads count
  long_at [] k files within is given count long = absurd (omega (arith, within))
  long_at (r ∷ reads) zero files within is given count long = inl (subst (λ (x : List ℕ × ℕ). IsTooLong told x.0 x.1 (TooManyBytes count)) is long)
  long_at (r ∷ reads) (suc k) [] within is given count long = absurd given
  long_at (r ∷ reads) (suc k) (file ∷ files) within is given count long = inr ((file, given.0), long_at reads k files (omega (arith, within)) is given.1 count long)

  fault_at : (reads : List (List ℕ × ℕ)) (k : ℕ) (files : List (List ℕ)) → k < length reads → read ≡ get_or reads k read → Given told (take k reads) files → FaultAt told reads read.0
  fault_at [] k files within is given = absurd (omega (arith, within))
  fault_at (r ∷ reads) zero files within is given = inl (ap (λ (x : List ℕ × ℕ). x.0) is)
  fault_at (r ∷ reads) (suc k) [] within is given = absurd given
  fault_at (r ∷ reads) (suc k) (file ∷ files) within is given = inr ((file, given.0), fault_at reads k files (omega (arith, within)) is given.1)

  -- one read more gives one file more
  one_more : (reads : List (List ℕ × ℕ)) (k : ℕ) (files : List (List ℕ)) (bytes : List ℕ) → k < length reads → read ≡ get_or reads k read → Given told (take k reads) files
      → Gave told read.0 read.1 bytes → Given told (take (suc k) reads) (files ++ (bytes ∷ []))
  one_more [] k files bytes within is given gave = absurd (omega (arith, within))
  one_more (r ∷ reads) zero [] bytes within is given gave = (subst (λ (x : List ℕ × ℕ). Gave told x.0 x.1 bytes) is gave, tt)
  one_more (r ∷ reads) zero (file ∷ files) bytes within is given gave = absurd given
  one_more (r ∷ reads) (suc k) [] bytes within is given gave = absurd given
  one_more (r ∷ reads) (suc k) (file ∷ files) bytes within is given gave = (given.0, one_more reads k files bytes (omega (arith, within)) is given.1 gave)

  module _ (reads : List (List ℕ × ℕ)) (k : ℕ) (files : List (List ℕ)) (within : k < length reads) (is : read ≡ get_or reads k read) (given : Given told (take k reads) files) where
    refuses_at : (r : Refusal) → IsTooLong told read.0 read.1 r → RefusesReads told reads r
    refuses_at (TooManyBytes count) long = long_at reads k files within is given count long
    refuses_at (Input refusal) long = absurd long
    refuses_at (Flawed flaw line) long = absurd long

    -- the next read gives none
    stops_at : (before now : ℕ) (ending : Ending) (text : List ℕ) → StopsRead told read.0 read.1 before now ending text → StopsReading told reads before now ending text
    stops_at before now (NoMemory n) text s = s
    stops_at before now (Absent asked) text s =
        (s.1, subst (λ (name : List ℕ). AbsentAt told reads name) (sym s.0) (absent_at reads k files within is given s.2), s.3 ∙ ap absent_text (sym s.0))
    stops_at before now (ReadFault asked) text s = (s.1, subst (λ (name : List ℕ). FaultAt told reads name) (sym s.0) (fault_at reads k files within is given), s.2 ∙ ap read_fault_text (sym s.0))
    stops_at before now (Refused refusal) text s = (s.0, refuses_at (plain_refusal refusal) s.1, s.2)
    stops_at before now (WriteFault n) text s = absurd s
    stops_at before now Usage text s = absurd s
    stops_at before now OutFault text s = absurd s
    stops_at before now (Done status) text s = absurd s

-- the same of reads and files as the code has them
module _ (told : Option Held) (reads : List Read) (k : ℕ) (files : List (Vec ℕ Global)) (d : Read) (within : k < length reads) (given : Given told (take k (map read_of reads)) (contents files)) where
  abbrev read : Read
  read = get_or reads k d

  plain_within : k < length (map read_of reads)
  plain_within = omega (arith, within, length-map reads read_of)

  plain_is : read_of read ≡ get_or (map read_of reads) k (read_of read)
  plain_is = sym (get_or-map read_of reads k d (read_of read) within)

  pub next_stops : (told_now : Option Held) (before between now : ℕ) (ending : Ending) (text : List ℕ) → told_now ≡ told → between ≡ before
      → StopsRead told_now (get_or reads k d).name.now (get_or reads k d).limit between now ending text → StopsReading told (map read_of reads) before now ending text
  next_stops told_now before between now ending text same quiet s =
      stops_at told (read_of read) (map read_of reads) k (contents files) plain_within plain_is given before now ending text (rw (same, quiet) at s)

  pub next_given : (told_now : Option Held) (file : Vec ℕ Global) (grown : List (Vec ℕ Global)) → told_now ≡ told → Gave told_now (get_or reads k d).name.now (get_or reads k d).limit file.items
      → grown ≡ files ++ (file ∷ []) → Given told (take (k + 1) (map read_of reads)) (contents grown)
  next_given told_now file grown same gives grows =
      let gave : Gave told read.name.now read.limit file.items = rw same at gives in
      let more : suc k ≡ k + 1 = omega arith in
      let one : Given told (take (suc k) (map read_of reads)) (contents files ++ (file.items ∷ [])) = one_more told (read_of read) (map read_of reads) k (contents files) file.items plain_within plain_is given gave in
      let both : contents files ++ (file.items ∷ []) ≡ contents grown = sym (ap contents grows ∙ map_push (λ (f : Vec ℕ Global). f.items) files file) in
      subst (λ (n : ℕ). Given told (take n (map read_of reads)) (contents grown)) more (subst (λ (fs : List (List ℕ)). Given told (take (suc k) (map read_of reads)) fs) both one)

-- all reads gave their files
pub all_given : (told : Option Held) (reads : List Read) (k : ℕ) (files : List (List ℕ)) → length reads ≤ k → Given told (take k (map read_of reads)) files → Given told (map read_of reads) files
all_given told reads k files all given =
    subst (λ (rs : List (List ℕ × ℕ)). Given told rs files) (take_all k (map read_of reads) (omega (arith, all, length-map reads read_of))) given
