-- the certificate of a repair is accepted
use Rattle.std.proofs.Common.{◌≡◌, ◌⊎◌, inl, inr, ℕ, List, []}
use Rattle.rr_circuit.specs.Aag.{aag}
use Rattle.rr_circuit.specs.Values.{OutputNetlist}
use Rattle.rr_cnf.specs.Dimacs.{dimacs}
use Rattle.rr_derive.specs.Derive.{Proof}
use Rattle.rr_derive.specs.Lrat.{lrat}
use Rattle.rr_tseitin.specs.Tseitin.{formula_of}
use Rattle.rr_check.specs.declared.verdict.Verdict.TheVariants.{Accepted}
use Rattle.rr_check_certificate.specs.Certificates.{IsJudged}
use Rattle.rr_check_certificate.proofs.Certified.{same_verdict}
use Rattle.rr_endings.specs.Found.{Answer, File}
use Rattle.rr_repair_output.specs.Certified.{certificate}
use Rattle.rr_repair.specs.Repairs.{PlainRequest}
use Rattle.rr_outcomes.specs.Outcomes.{IsDespaired, IsMended}
use Rattle.rr_rerun_laws.specs.Checks.{AreAccepted}

written : (cert : List ℕ) (files : List File) (circuit : OutputNetlist) (proof : Proof) → files ≡ certificate cert circuit proof → IsJudged (aag circuit) (lrat proof) Accepted → AreAccepted cert files
written cert files circuit proof are judged = record {
  circuit = aag circuit;
  formula = dimacs (formula_of circuit);
  proof = lrat proof;
  are = are;
  judged = judged;
  only = λ v j. same_verdict (aag circuit) (lrat proof) v Accepted j judged;
}

pub mended_accepted : (w : PlainRequest) (design table : List ℕ) (answer : Answer) → IsMended w design table answer → (answer.files ≡ []) ⊎ AreAccepted w.cert answer.files
mended_accepted w design table answer m = elim m.is [
  | inl u ↦ inl u.files
  | inr r ↦ inr (written w.cert answer.files r.circuit r.proof r.files r.fewer.accepted)
]

pub despaired_accepted : (w : PlainRequest) (design table : List ℕ) (answer : Answer) → IsDespaired w design table answer → AreAccepted w.cert answer.files
despaired_accepted w design table answer d = written w.cert answer.files d.is.circuit d.is.proof d.is.files d.is.all.accepted
