-- A fault that is handed on.
use Rattle.std.proofs.Common.{◌≡◌, Result, IsErrAnd, MatchResult}
use Rattle.std.proofs.lemmas.Result.{err_from_is_err_and}
use Rattle.rr_trace.specs.declared.fault.TableFault.{TableFault}
use Rattle.rr_trace.specs.View.{Refuses}

pub refused : {A T : Type 0} (r : Result T TableFault) (P : T → Type 0) (due : Result A TableFault) (x : TableFault) → IsErrAnd r (λ y. y ≡ x) → Refuses due x → MatchResult r P (Refuses due)
refused r P due x is h = let p = err_from_is_err_and r is in rw (p.1, p.2) h
