-- The certificate that a repair writes, checked.
use Rattle.std.specs.Prelude.{◌≡◌, ◌⊎◌, ℕ, List, [], ◌∷◌, ◌++◌, codes}
use Rattle.rr_check.specs.declared.verdict.Verdict.{Verdict}
use Rattle.rr_check.specs.declared.verdict.Verdict.TheVariants.{Accepted}
use Rattle.rr_check_certificate.specs.Certificates.{IsJudged}
use Rattle.rr_endings.specs.Found.{Answer, File}
use Rattle.rr_repair.specs.Repairs.{PlainRequest}
use Rattle.rr_outcomes.specs.Outcomes.{IsDespaired, IsMended}

-- the files of a certificate with this name: a circuit, a formula and a proof; circuit and proof have one verdict, that the
-- proof is accepted
pub record AreAccepted (cert : List ℕ) (files : List File) : Type 0 where
  pub circuit : List ℕ
  pub formula : List ℕ
  pub proof : List ℕ
  pub are : files ≡ (cert ++ codes ".aag", circuit) ∷ ((cert ++ codes ".cnf", formula) ∷ ((cert ++ codes ".lrat", proof) ∷ []))
  pub judged : IsJudged circuit proof Accepted
  pub only : (verdict : Verdict) → IsJudged circuit proof verdict → verdict ≡ Accepted

-- a repair writes nothing, where it changes nothing, or a certificate that a check accepts
abbrev pub CheckAccepts : Type 0
CheckAccepts = (w : PlainRequest) (design table : List ℕ) (answer : Answer) → IsMended w design table answer → (answer.files ≡ []) ⊎ AreAccepted w.cert answer.files

-- so it does where no choice matches
abbrev pub CheckAcceptsNone : Type 0
CheckAcceptsNone = (w : PlainRequest) (design table : List ℕ) (answer : Answer) → IsDespaired w design table answer → AreAccepted w.cert answer.files
