use Rattle.rr_derive.proofs.Soundness.{unsatisfiable}
use Rattle.rr_derive.proofs.laws.refuted_means_unsatisfiable.Goals as goal

pub returns : goal.returns
returns c = unsatisfiable
