use Rattle.rr_blast.proofs.FewBits.{few_bits}
use Rattle.rr_question_tests.proofs.instances.transition_of.Goals as goal

pub bits-requires : goal.bits-requires
bits-requires c = few_bits c.args.list.now c.sites.ensures.kept c.requires.few
