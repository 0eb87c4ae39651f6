use Rattle.std.proofs.Common.{◌≡◌, ℕ, ◌↔◌, ap, sym, subst, ◌∙◌, arith, Bool, true, false, List}
use Rattle.rr_choice.specs.declared.pick.Pick.{Pick}
use Rattle.rr_choice.specs.Choices.{cost, IsChoice}
use Rattle.rr_transition.specs.Cycles.{Design}
use Rattle.rr_search.specs.Answers.{Task, task_of, plain_choices, IsOf, Mends}
use Rattle.rr_search.specs.Replies.{IsCheapest, IsMending, choice_at}
use Rattle.rr_search.proofs.Proposals.{at_choice, choice_here, inside_plain, inside_proposals, stays, first_one, kept, replaced, place_of}
use Rattle.rr_search.proofs.judging.cheaper.Goals as goal

pub mends-requires-clause-choice : goal.mends-requires-clause-choice
mends-requires-clause-choice c = choice_here c.args.job.now.list.now c.args.proposals.now c.args.k c.index-proposals-k.result c.requires.proposals c.index-proposals-k.is c.requires.inside

pub bounds-proposals-other : goal.bounds-proposals-other
bounds-proposals-other c =
    let t = task_of c.args.job.now in
    let h = place_of t (plain_choices c.args.proposals.now) c.args.k c.in-Some.other c.args.best c.in-Some.is c.requires.best in
    inside_proposals c.args.proposals.now c.in-Some.other h.0

pub returns-then-not-mended : goal.returns-then-not-mended
returns-then-not-mended c =
    let t = task_of c.args.job.now in
    let e = at_choice c.args.proposals.now c.args.k c.index-proposals-k.result c.index-proposals-k.is c.requires.inside in
    stays t (plain_choices c.args.proposals.now) c.args.k c.args.best
    (λ j of m. let holds = (c.in_ok-mended.ensures j of).1 (subst (Mends j t) e m) in let fails = c.if-not-mended.true in let z : true ≡ false = sym holds ∙ fails in cc) c.requires.best

pub cost_in-requires-clause-choice : goal.cost_in-requires-clause-choice
cost_in-requires-clause-choice c =
    let t = task_of c.args.job.now in
    let h = place_of t (plain_choices c.args.proposals.now) c.args.k c.in-Some.other c.args.best c.in-Some.is c.requires.best in
    choice_here c.args.job.now.list.now c.args.proposals.now c.in-Some.other c.index-proposals-other.result c.requires.proposals c.index-proposals-other.is (inside_proposals c.args.proposals.now c.in-Some.other h.0)

pub cost_in-requires-in-Some-clause-choice : goal.cost_in-requires-in-Some-clause-choice
cost_in-requires-in-Some-clause-choice c = choice_here c.args.job.now.list.now c.args.proposals.now c.args.k c.index-proposals-k-in-Some.result c.requires.proposals c.index-proposals-k-in-Some.is c.requires.inside

-- what the test says of a choice that is the one at a place
mended_at : (t : Task) (choices : List (List Pick)) (k : ℕ) (picks : List Pick) (r : Bool) → choice_at choices k ≡ picks → IsChoice t.sites picks → ((j : Design) → IsOf t j → (r ≡ true) ↔ Mends j t picks) → r ≡ true → IsMending t (choice_at choices k)
mended_at t choices k picks r e is h true_r = subst (IsMending t) (sym e) (record { choice = is; mends = λ j of. (h j of).0 true_r })

pub returns-in-None : goal.returns-in-None
returns-in-None c =
    let t = task_of c.args.job.now in
    let xs = plain_choices c.args.proposals.now in
    let e = at_choice c.args.proposals.now c.args.k c.index-proposals-k.result c.index-proposals-k.is c.requires.inside in
    let is = choice_here c.args.job.now.list.now c.args.proposals.now c.args.k c.index-proposals-k.result c.requires.proposals c.index-proposals-k.is c.requires.inside in
    let m = mended_at t xs c.args.k c.index-proposals-k.result.picks.items c.in_ok-mended.mended e is c.in_ok-mended.ensures c.if-not-mended.false in
    first_one t xs c.args.k (inside_plain c.args.proposals.now c.args.k c.requires.inside) m (subst (IsCheapest t xs c.args.k) c.in-None.is c.requires.best)

pub returns-then-cost_in : goal.returns-then-cost_in
returns-then-cost_in c =
    let t = task_of c.args.job.now in
    let xs = plain_choices c.args.proposals.now in
    let h = place_of t xs c.args.k c.in-Some.other c.args.best c.in-Some.is c.requires.best in
    let e = at_choice c.args.proposals.now c.args.k c.index-proposals-k-in-Some.result c.index-proposals-k-in-Some.is c.requires.inside in
    let d = at_choice c.args.proposals.now c.in-Some.other c.index-proposals-other.result c.index-proposals-other.is (inside_proposals c.args.proposals.now c.in-Some.other h.0) in
    kept t xs c.args.k c.in-Some.other (omega (arith, ap cost e, ap cost d, c.cost_in.ensures.value, c.cost_in-in-Some.ensures.value, c.if-cost_in.true)) h

pub returns-else-cost_in : goal.returns-else-cost_in
returns-else-cost_in c =
    let t = task_of c.args.job.now in
    let xs = plain_choices c.args.proposals.now in
    let h = place_of t xs c.args.k c.in-Some.other c.args.best c.in-Some.is c.requires.best in
    let e = at_choice c.args.proposals.now c.args.k c.index-proposals-k-in-Some.result c.index-proposals-k-in-Some.is c.requires.inside in
    let f = at_choice c.args.proposals.now c.args.k c.index-proposals-k.result c.index-proposals-k.is c.requires.inside in
    let d = at_choice c.args.proposals.now c.in-Some.other c.index-proposals-other.result c.index-proposals-other.is (inside_proposals c.args.proposals.now c.in-Some.other h.0) in
    let is = choice_here c.args.job.now.list.now c.args.proposals.now c.args.k c.index-proposals-k.result c.requires.proposals c.index-proposals-k.is c.requires.inside in
    let m = mended_at t xs c.args.k c.index-proposals-k.result.picks.items c.in_ok-mended.mended f is c.in_ok-mended.ensures c.if-not-mended.false in
    replaced t xs c.args.k c.in-Some.other (inside_plain c.args.proposals.now c.args.k c.requires.inside) m (omega (arith, ap cost e, ap cost d, c.cost_in.ensures.value, c.cost_in-in-Some.ensures.value, c.if-cost_in.false)) h
