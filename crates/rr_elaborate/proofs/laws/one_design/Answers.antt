use Rattle.rr_elaborate.proofs.Once.{one_design, no_refusal, one_refusal}
use Rattle.rr_elaborate.proofs.laws.one_design.Goals as goal

pub returns : goal.returns
returns c = record { one = one_design; design_or_refusal = no_refusal; one_refusal = one_refusal }
