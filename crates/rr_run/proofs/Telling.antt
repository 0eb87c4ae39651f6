-- where a broken law is told
use Rattle.std.proofs.Common.{◌≡◌, sym, subst, ℕ, List, Option, inr}
use Rattle.rr_flat.specs.Signals.{Text}
use Rattle.rr_lawful.specs.declared.laws.LawFault.{LawFault}
use Rattle.rr_lawful.specs.declared.laws.LawFault.TheVariants as law
use Rattle.rr_run.specs.declared.fault.Fault.{Fault}
use Rattle.rr_run.specs.declared.fault.Fault.TheVariants as fault
use Rattle.rr_run.specs.Runs.{IsAt, IsBroken, Told}

-- a law that is told is a fault of the design there
pub told_at : (bytes : List ℕ) (top word : Option Text) (found : LawFault) (what : Fault) (token at : ℕ) → Told found what token → IsBroken bytes top word what at → IsAt bytes top word what at
told_at bytes top word found what token at = go found
  where
    moved : (which : Fault) → what ≡ which → (IsBroken bytes top word which at → IsAt bytes top word which at) → IsBroken bytes top word what at → IsAt bytes top word what at
    moved which e f = subst (λ w. IsBroken bytes top word w at → IsAt bytes top word w at) (sym e) f

    go : (found : LawFault) → Told found what token → IsBroken bytes top word what at → IsAt bytes top word what at
    go (law.UnknownName t) h = moved fault.UnknownName h.0 (λ b. inr b)
    go (law.TwoDrivers bit first second) h = moved fault.TwoDrivers h.0 (λ b. b)
    go (law.WrongAssign t) h = moved fault.WrongAssign h.0 (λ b. b)
    go (law.Race t) h = moved fault.Race h.0 (λ b. b)
    go (law.Latch bit block) h = moved fault.Latch h.0 (λ b. b)
    go (law.Loop cycle t) h = moved fault.Loop h.0 (λ b. b)
    go (law.ClockUse t) h = moved fault.ClockUse h.0 (λ b. b)
    go (law.TwoClocks t) h = moved fault.TwoClocks h.0 (λ b. b)
    go (law.BadTarget t) h = moved fault.BadTarget h.0 (λ b. b)
    go (law.WildLabel t) h = moved fault.WildLabel h.0 (λ b. b)
    go law.Memory h = absurd h
