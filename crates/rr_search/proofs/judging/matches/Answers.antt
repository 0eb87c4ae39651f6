use Rattle.std.proofs.Common.{◌∙◌}
use Rattle.rr_search.specs.Answers.{task_of}
use Rattle.rr_search.proofs.Answering.{judged_free}
use Rattle.rr_search.proofs.judging.matches.Goals as goal

pub returns : goal.returns
returns c = λ j of.
    let t = task_of c.args.job.now in
    judged_free t j c.as_slice.result.now c.transition.inside.choice_bits c.in_ok-same.same (c.as_slice.ensures.value ∙ c.in_ok-bits.ensures.items_if_clones_equal (λ y e. e)) (c.in_ok-same.ensures.matches j t.sites of.stands of.fits)
