-- Updates of two lists are applied one list after the other.
use Rattle.std.proofs.Common.{◌≡◌, List, [], ◌∷◌, ◌++◌, refl}
use Rattle.rr_cycle.specs.Exec.{Environment, Update, applied}

pub applied_append : (us vs : List Update) (e : Environment) → applied (us ++ vs) e ≡ applied vs (applied us e)
unfolding applied
applied_append [] vs e = refl
applied_append (u ∷ us) vs e = applied_append us vs _
