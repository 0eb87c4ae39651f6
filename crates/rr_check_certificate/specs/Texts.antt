-- The texts of verdicts and of bad lines.
use Rattle.std.specs.Prelude.{ℕ, List, [], ◌∷◌, ◌++◌, codes, decimal}
use Rattle.rr_check.specs.declared.verdict.Verdict.{Verdict}
use Rattle.rr_check.specs.declared.verdict.Verdict.TheVariants as found
use Rattle.rr_check_certificate.specs.declared.fault.Flaw.{Flaw}
use Rattle.rr_check_certificate.specs.declared.fault.Flaw.TheVariants as flaw

-- number and name of a bad line
abbrev pub flaw_text : Flaw → List ℕ
flaw_text flaw.Circuit = codes "34 BadCircuit"
flaw_text flaw.Proof = codes "35 BadProof"
flaw_text flaw.Rat = codes "36 RatLine"

-- a line of its own
abbrev pub line : List ℕ → List ℕ
line text = text ++ (10 ∷ [])

-- the verdict on a certificate
abbrev pub verdict_text : Verdict → List ℕ
verdict_text found.Accepted = line (codes "accepted")
verdict_text (found.Line n) = line (codes "refused addition " ++ decimal n)
verdict_text found.NoEmptyClause = line (codes "no empty clause")
