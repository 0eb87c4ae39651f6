use Rattle.std.proofs.Common.{◌≡◌, ◌∙◌, ◌∷◌, ap, sym, subst, arith, length}
use Rattle.rr_directive.specs.Expand.{bad, shown, turned, with_branches}
use Rattle.rr_directive.specs.View.{Blanks, plain_branch, plain_branches}
use Rattle.rr_directive.proofs.Acts.{branches_push, turned_none, turned_last, turns, shown_answers}
use Rattle.rr_directive.proofs.reading.Reader.turn.Goals as goal

pub returns-in-None : goal.returns-in-None
returns-in-None c = λ bytes u s events a k h.
    let z : length c.args.self.now.branches.items ≡ 0 = omega (arith, c.in-None.ensures.cases, c.args.self.now.branches.ok) in
    bad (turned_none s u c.args.self.now.branches.items k h.branches z)

pub returns-then-branch : goal.returns-then-branch
returns-then-branch c = λ bytes u s events a k h.
    bad (turned_last s u c.args.self.now.branches.items c.pop.new.self.items c.in-Some.branch k h.branches c.in-Some.ensures.items c.if-branch.true)

pub returns : goal.returns
returns c = λ bytes u s events a k h.
    let t = with_branches s (turned (plain_branch c.in-Some.branch) ∷ plain_branches c.pop.new.self.items) in
    shown_answers (Unit {0}) c.blank.result bytes s t u events c.is_on-on.result c.blank.new.self
    (turns s u c.args.self.now.branches.items c.pop.new.self.items c.in-Some.branch k h.branches c.in-Some.ensures.items c.if-branch.false ∙ ap (λ o. shown o t) (sym c.is_on-on.ensures))
    (subst (λ n. Blanks c.is_on-on.result n t events c.blank.new.self c.blank.result) (sym a)
    (c.blank.ensures t events (record { knows = h.knows; branches = branches_push c.pop.new.self.items _ _ c.in_ok-push.ensures.items; shows = h.shows })))
