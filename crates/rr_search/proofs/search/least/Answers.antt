use Rattle.std.proofs.Common.{◌≡◌, ◌↔◌, Bool, true, false, length, sym, subst, ◌∙◌, ap, arith}
use Rattle.rr_choice.specs.Choices.{cost}
use Rattle.rr_transition.specs.Cycles.{Design}
use Rattle.rr_unroll.specs.Matches.{Matches}
use Rattle.rr_search.specs.Answers.{Task, IsOf, plain_choices, task_of}
use Rattle.rr_search.specs.Replies.{AreFaulty, IsCheapest}
use Rattle.rr_search.proofs.Answering.{fine, open_below_each, open_below_none, unchanged_iff}
use Rattle.rr_search.proofs.Proposals.{at_choice, inside_proposals}
use Rattle.rr_search.proofs.search.least.Goals as goal

-- what the test says of the design
all_faulty : (t : Task) (r : Bool) → ((j : Design) → IsOf t j → (r ≡ true) ↔ Matches j t.table) → r ≡ false → AreFaulty t
all_faulty t r h e = λ j of m. let holds = (h j of).1 m in let z : true ≡ false = sym holds ∙ e in cc

pub returns-then-same-clause-answer : goal.returns-then-same-clause-answer
returns-then-same-clause-answer g c = λ j of. fine (task_of c.args.job.now) j ((c.in_ok-same.ensures j of).0 c.if-same.true)

pub from_choice-requires-clause-faulty : goal.from_choice-requires-clause-faulty
from_choice-requires-clause-faulty g c κs within = all_faulty (task_of c.args.job.now) c.in_ok-same.same c.in_ok-same.ensures c.if-same.false

pub from_all-requires-clause-faulty : goal.from_all-requires-clause-faulty
from_all-requires-clause-faulty g c κs within = all_faulty (task_of c.args.job.now) c.in_ok-same.same c.in_ok-same.ensures c.if-same.false

pub returns-in_ok-answer-in-Some-clause-unchanged : goal.returns-in_ok-answer-in-Some-clause-unchanged
returns-in_ok-answer-in-Some-clause-unchanged g c = λ j of. unchanged_iff (task_of c.args.job.now) j c.in_ok-answer-in-Some.answer (c.in_ok-answer-in-Some.ensures.answer j of)

pub returns-in_ok-answer-in-Some-clause-below : goal.returns-in_ok-answer-in-Some-clause-below
returns-in_ok-answer-in-Some-clause-below g c = λ j of.
    let t = task_of c.args.job.now in
    let xs = plain_choices c.args.proposals.now in
    let h = subst (IsCheapest t xs (length c.args.proposals.now)) c.in-Some.is c.in_ok-place.ensures in
    let e = at_choice c.args.proposals.now c.in-Some.place c.index-proposals-place.result c.index-proposals-place.is (inside_proposals c.args.proposals.now c.in-Some.place h.0) in
    open_below_each t j of xs c.in_ok-answer-in-Some.answer (cost c.index-proposals-place.result.picks.items)
    (λ i l m. let d = h.2 i (inside_proposals c.args.proposals.now i l) j of m in omega (arith, d, ap cost e)) c.in_ok-answer-in-Some.ensures.below

pub returns-in_ok-answer-in-None-clause-unchanged : goal.returns-in_ok-answer-in-None-clause-unchanged
returns-in_ok-answer-in-None-clause-unchanged g c = λ j of. unchanged_iff (task_of c.args.job.now) j c.in_ok-answer-in-None.answer (c.in_ok-answer-in-None.ensures j of)

pub returns-in_ok-answer-in-None-clause-below : goal.returns-in_ok-answer-in-None-clause-below
returns-in_ok-answer-in-None-clause-below g c = λ j of.
    let t = task_of c.args.job.now in
    let xs = plain_choices c.args.proposals.now in
    let h = subst (IsCheapest t xs (length c.args.proposals.now)) c.in-None.is c.in_ok-place.ensures in
    open_below_none t j of xs c.in_ok-answer-in-None.answer (λ i l m. h i (inside_proposals c.args.proposals.now i l) j of m)
