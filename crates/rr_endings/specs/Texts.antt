-- The texts on standard error, each line ended by LF.
use Rattle.std.specs.Prelude.{ℕ, List, ◌++◌, codes, decimal}
use Rattle.rr_run.specs.Texts.{refusal_text as run_refusal_text}
use Rattle.rr_check_certificate.specs.Texts.{flaw_text, line}
use Rattle.rr_endings.specs.Refusals.{Refusal, TooManyBytes, Input, Flawed}

-- number, name and place
abbrev pub refusal_text : Refusal → List ℕ
refusal_text (TooManyBytes count) = codes "16 TooMany bytes " ++ decimal count
refusal_text (Input refusal) = run_refusal_text refusal
refusal_text (Flawed flaw n) = flaw_text flaw ++ (codes " line " ++ decimal n)

abbrev pub refused_text : Refusal → List ℕ
refused_text refusal = line (codes "refused " ++ refusal_text refusal)

abbrev pub absent_text : List ℕ → List ℕ
absent_text name = line (codes "absent " ++ name)

abbrev pub read_fault_text : List ℕ → List ℕ
read_fault_text name = line (codes "fault read " ++ name)

abbrev pub write_fault_text : List ℕ → List ℕ
write_fault_text name = line (codes "fault write " ++ name)

abbrev pub out_fault_text : List ℕ
out_fault_text = line (codes "fault out")

abbrev pub memory_text : List ℕ
memory_text = line (codes "out of memory")
