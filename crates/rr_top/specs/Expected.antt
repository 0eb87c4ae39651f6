-- How a command comes out, by what its files hold, where nothing fails and memory suffices.
use Rattle.std.specs.Prelude.{◌≡◌, ⊤, ℕ, List, Option, Some}
use Rattle.rr_edge.specs.Held.{Held}
use Rattle.rr_run.specs.declared.fault.Fault.TheVariants.{Syntax}
use Rattle.rr_run.specs.Refusals.{Refusal as RunRefusal, At}
use Rattle.rr_check_certificate.specs.Certificates.{IsJudged}
use Rattle.rr_check.specs.declared.verdict.Verdict.{Verdict}
use Rattle.rr_endings.specs.Refusals.{Refusal, TooManyBytes, Input, Flawed}
use Rattle.rr_effects.specs.Reads.{AbsentAt}
use Rattle.rr_top.specs.Outcomes.{Outcome, outcome_status}
use Rattle.rr_top.specs.Commands.{CertificateGiven, ComesTo, Command, Refuses}

pub data Expected : Type 0 where
  absent : List ℕ → Expected
  refused : Refusal → Expected
  unparsed : Expected
  done : Outcome → Expected

-- a text without a tree is refused at some byte
abbrev pub IsSyntax : RunRefusal → Type 0
IsSyntax refusal = (offset : ℕ) × (refusal ≡ At Syntax offset)

-- a refusal whose place is decided; of a text without a tree it is not
abbrev pub IsPlaced : Refusal → Type 0
IsPlaced (TooManyBytes count) = ⊤
IsPlaced (Input refusal) = IsSyntax refusal → ⊥
IsPlaced (Flawed flaw line) = ⊤

-- what a told shelf decides: by the reads in order, and then by what they gave
abbrev pub Judges : Command → Held → Expected → Type 0
Judges command held (absent name) = AbsentAt (Some held) command.reads name
Judges command held (refused refusal) = IsPlaced refusal × Refuses command (Some held) refusal
Judges command held unparsed = (offset : ℕ) × Refuses command (Some held) (Input (At Syntax offset))
Judges command held (done outcome) = ComesTo command (Some held) outcome

abbrev pub expected_status : Expected → ℕ
expected_status (absent name) = 4
expected_status (refused refusal) = 3
expected_status unparsed = 3
expected_status (done outcome) = outcome_status outcome

-- both files were read, and this is the verdict on the certificate
pub record IsChecked (told : Option Held) (circuit_name proof_name : List ℕ) (verdict : Verdict) : Type 0 where
  pub circuit : List ℕ
  pub proof : List ℕ
  pub given : CertificateGiven told circuit_name proof_name circuit proof
  pub judged : IsJudged circuit proof verdict
