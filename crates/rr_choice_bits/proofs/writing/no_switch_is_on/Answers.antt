use Rattle.rr_choice_bits.proofs.CodeLaws.{free_zeros}
use Rattle.rr_choice_bits.proofs.writing.no_switch_is_on.Goals as goal

pub returns : goal.returns
returns c = free_zeros
