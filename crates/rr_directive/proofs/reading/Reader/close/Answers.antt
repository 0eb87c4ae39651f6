use Rattle.std.proofs.Common.{◌≡◌, ◌∙◌, ap, refl, sym, subst, arith, length}
use Rattle.rr_directive.specs.Expand.{bad, shown, with_branches}
use Rattle.rr_directive.specs.View.{Blanks, plain_branches}
use Rattle.rr_directive.proofs.Acts.{closed_none, closes, shown_answers}
use Rattle.rr_directive.proofs.reading.Reader.close.Goals as goal

pub returns-in-None : goal.returns-in-None
returns-in-None c = λ bytes u s events a k h.
    let z : length c.args.self.now.branches.items ≡ 0 = omega (arith, c.in-None.ensures.cases, c.args.self.now.branches.ok) in
    bad (closed_none s u c.args.self.now.branches.items k h.branches z)

pub returns-in-Some : goal.returns-in-Some
returns-in-Some c = λ bytes u s events a k h.
    let t = with_branches s (plain_branches c.pop.new.self.items) in
    shown_answers (Unit {0}) c.blank.result bytes s t u events c.is_on-on.result c.blank.new.self
    (closes s u c.args.self.now.branches.items c.pop.new.self.items _ k h.branches c.in-Some.ensures.items ∙ ap (λ o. shown o t) (sym c.is_on-on.ensures))
    (subst (λ n. Blanks c.is_on-on.result n t events c.blank.new.self c.blank.result) (sym a) (c.blank.ensures t events (record { knows = h.knows; branches = refl; shows = h.shows })))
