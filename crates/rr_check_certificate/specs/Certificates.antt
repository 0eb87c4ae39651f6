-- Certificates: what the two texts of one say, what is wrong with them, and the verdict (ASCII AIGER 20071012; LRAT without RAT lines).
use Rattle.std.specs.Prelude.{◌≡◌, ⊤, ℕ, List, length}
use Rattle.rr_cnf.specs.Clauses.{Clauses}
use Rattle.rr_circuit.specs.Values.{OutputNetlist}
use Rattle.rr_circuit.specs.Aag.{aag, IsBadLine, IsCircuit, IsTextOf}
use Rattle.rr_tseitin.specs.Tseitin.{formula_of, CanBeTrue}
use Rattle.rr_derive.specs.Derive.{Proof, Refutes, Step}
use Rattle.rr_derive.specs.Lrat.{AreWritable, IsCause, IsProofText, lrat}
use Rattle.rr_derive.specs.declared.read.ProofFault.{ProofFault}
use Rattle.rr_derive.specs.declared.read.ProofFault.TheVariants.{BadProof, RatLine}
use Rattle.rr_check.specs.declared.verdict.Verdict.{Verdict}
use Rattle.rr_check.specs.declared.verdict.Verdict.TheVariants.{Accepted}
use Rattle.rr_check.specs.Verdicts.{VerdictIs}
use Rattle.rr_check_certificate.specs.declared.fault.Flaw.{Flaw}
use Rattle.rr_check_certificate.specs.declared.fault.Flaw.TheVariants as flaw
use Rattle.rr_check_certificate.specs.declared.fault.CertificateFault.{CertificateFault}
use Rattle.rr_check_certificate.specs.declared.fault.CertificateFault.TheVariants.{Flawed, Memory}

-- the bytes are this circuit's text
pub record IsCircuitOf (bytes : List ℕ) (c : OutputNetlist) : Type 0 where
  pub text : IsTextOf bytes c
  pub circuit : IsCircuit c

-- .. and this is its formula
pub record IsFormulaOf (bytes : List ℕ) (formula : Clauses) : Type 0 where
  pub netlist : OutputNetlist
  pub read : IsCircuitOf bytes netlist
  pub is : formula ≡ formula_of netlist

-- the bytes are the additions of a proof over the formula
abbrev pub IsProofOver : Clauses → List ℕ → List Step → Type 0
IsProofOver formula bytes steps = IsProofText (length formula.clauses) formula.vars bytes steps

-- the circuit is read, and this is why no proof over its formula is
pub record IsNoProof (circuit proof : List ℕ) (fault : ProofFault) : Type 0 where
  pub formula : Clauses
  pub read : IsFormulaOf circuit formula
  pub cause : IsCause (length formula.clauses) formula.vars proof fault

-- the first bad line: of the circuit, or of the proof where the circuit has none
abbrev pub FlawIs : List ℕ → List ℕ → Flaw → ℕ → Type 0
FlawIs circuit proof flaw.Circuit n = IsBadLine circuit n
FlawIs circuit proof flaw.Proof n = IsNoProof circuit proof (BadProof n)
FlawIs circuit proof flaw.Rat n = IsNoProof circuit proof (RatLine n)

-- why there is no verdict on two texts; want of memory is free
abbrev pub IsFlawed : List ℕ → List ℕ → CertificateFault → Type 0
IsFlawed circuit proof (Flawed flaw n) = FlawIs circuit proof flaw n
IsFlawed circuit proof Memory = ⊤

-- circuit and proof are read, and this is the verdict on the proof over the circuit's formula
pub record IsJudged (circuit proof : List ℕ) (verdict : Verdict) : Type 0 where
  pub formula : Clauses
  pub steps : List Step
  pub circuit_read : IsFormulaOf circuit formula
  pub proof_read : IsProofOver formula proof steps
  pub judged : VerdictIs formula.clauses steps verdict

-- the bytes are a circuit's text, and no input makes every output of it true
pub record IsNeverTrue (circuit : List ℕ) : Type 0 where
  pub netlist : OutputNetlist
  pub read : IsCircuitOf circuit netlist
  pub never : CanBeTrue netlist → ⊥

-- the texts that are written of a circuit and of lines that refute its formula are accepted
abbrev pub WrittenIsAccepted : Type 0
WrittenIsAccepted = (c : OutputNetlist) (p : Proof) → IsCircuit c → Refutes (formula_of c).clauses p.lines → AreWritable (formula_of c) p.lines → IsJudged (aag c) (lrat p) Accepted
