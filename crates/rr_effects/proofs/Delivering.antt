-- Answers that are carried out.
use Rattle.std.proofs.Common.{◌≡◌, ℕ, ◌<◌, List, length, take, refl, Option}
use Rattle.rr_edge.specs.Faults.{Faulted}
use Rattle.rr_edge.specs.Held.{Held}
use Rattle.rr_edge.specs.Sink.{AppendsFront}
use Rattle.rr_endings.specs.declared.ending.Ending.TheVariants.{NoMemory, WriteFault, OutFault}
use Rattle.rr_endings.specs.declared.ending.Report.{Report}
use Rattle.rr_endings.specs.Found.{Answer}
use Rattle.rr_endings.specs.Texts.{memory_text, out_fault_text, write_fault_text}
use Rattle.rr_endings.specs.Views.{Says, report_text}
use Rattle.rr_effects.specs.Outside.{outside}
use Rattle.rr_effects.specs.Delivery.{Delivers, StopsAtWrite, file_at, with_files}

module _ (answer : Answer) (old new : Option Held) (before now : ℕ) (report : Report) where
  pub out_fault_delivers : (out out_now : Option (List ℕ)) (faults faults_now : ℕ) → Says report OutFault out_fault_text → new ≡ with_files old answer.files → now ≡ before
      → AppendsFront out out_now answer.out → Faulted faults faults_now → Delivers answer (outside old before out faults) (outside new now out_now faults_now) report.ending (report_text report)
  out_fault_delivers out out_now faults faults_now s files quiet front rose = rw s.0 (files, quiet, front, rose, s.1)

  pub memory_delivers : (out : Option (List ℕ)) (faults k : ℕ) → Says report (NoMemory k) memory_text → k < length answer.files → new ≡ with_files old (take k answer.files) → now ≡ before
      → Delivers answer (outside old before out faults) (outside new now out faults) report.ending (report_text report)
  memory_delivers out faults k s less files quiet = rw s.0 (less, files, quiet, record { out = refl; faults = refl }, s.1)

  pub write_fault_delivers : (out : Option (List ℕ)) (faults k : ℕ) → Says report (WriteFault k) (write_fault_text (file_at answer.files k).0) → k < length answer.files
      → StopsAtWrite old new answer.files k → Faulted before now → Delivers answer (outside old before out faults) (outside new now out faults) report.ending (report_text report)
  write_fault_delivers out faults k s less stops rose = rw s.0 (less, stops, rose, record { out = refl; faults = refl }, s.1)
