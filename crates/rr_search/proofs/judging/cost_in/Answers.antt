use Rattle.std.proofs.Common.{arith}
use Rattle.rr_choice_bits.proofs.CodeLaws.{length_choice}
use Rattle.rr_search.specs.Answers.{task_of}
use Rattle.rr_search.proofs.Answering.{cost_within}
use Rattle.rr_search.proofs.judging.cost_in.Goals as goal

pub cost-requires : goal.cost-requires
cost-requires c = let l = length_choice c.args.job.now.list.now c.args.choice.now.picks.items c.requires.choice in omega (arith, l, c.site_count-sites.ensures.few)

pub returns-clause-value : goal.returns-clause-value
returns-clause-value c = let w = cost_within (task_of c.args.job.now) c.args.choice.now.picks.items c.requires.choice in omega (arith, w, c.min.ensures, c.cost.ensures, c.site_count-sites.ensures.value)
