-- Why the input is refused: a file past its limit, what is wrong with a design or its table, or a bad line of a certificate.
use Rattle.std.specs.Prelude.{ℕ}
use Rattle.rr_run.specs.Refusals.{Refusal as RunRefusal, plain_refusal as plain_run_refusal}
use Rattle.rr_check_certificate.specs.declared.fault.Flaw.{Flaw}
use Rattle.rr_endings.specs.declared.refusal.Refusal.{Refusal as RustRefusal}
use Rattle.rr_endings.specs.declared.refusal.Refusal.TheVariants as refusal

pub data Refusal : Type 0 where
  TooManyBytes : ℕ → Refusal
  Input : RunRefusal → Refusal
  Flawed : Flaw → ℕ → Refusal

abbrev pub plain_refusal : RustRefusal → Refusal
plain_refusal (refusal.TooManyBytes count) = TooManyBytes count
plain_refusal (refusal.Input r) = Input (plain_run_refusal r)
plain_refusal (refusal.Flawed flaw line) = Flawed flaw line
