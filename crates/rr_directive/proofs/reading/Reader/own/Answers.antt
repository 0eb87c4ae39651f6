use Rattle.std.proofs.Common.{◌∙◌, ◌++◌, refl, subst, true, false, arith, List}
use Rattle.std.specs.Result.{OnOk}
use Rattle.rr_directive.specs.Expand.{Event, Own}
use Rattle.rr_directive.specs.View.{Shows, unit_at}
use Rattle.rr_directive.proofs.Acts.{is_on_by, off, on, own_answers, silent, unit_length}
use Rattle.rr_directive.proofs.reading.Reader.own.Goals as goal

pub returns-then-not-is_on : goal.returns-then-not-is_on
returns-then-not-is_on c = λ s events which e x h.
    silent s (unit_at c.args.bytes.now c.args.at c.args.piece) events c.args.self.now (e ∙ off s (Own which) (is_on_by s c.is_on.result false c.args.self.now.branches.items c.is_on.ensures h.branches c.if-not-is_on.true)) h

pub returns : goal.returns
returns c = λ s events which e x h.
    let o = is_on_by s c.is_on.result true c.args.self.now.branches.items c.is_on.ensures h.branches c.if-not-is_on.false in
    own_answers (Unit {0}) c.give_own.result c.args.bytes.now s (unit_at c.args.bytes.now c.args.at c.args.piece) events which _ c.args.self.now _ refl refl (e ∙ on s (Own which) o)
    (unit_length c.args.bytes.now c.args.at c.args.piece.end (omega (arith, c.requires.within.some)) c.requires.within.within) h
    (subst (λ fs. OnOk c.give_own.result ((es : List Event) → Shows c.args.self.now.out es → Shows c.give_own.new.self (es ++ fs))) x c.give_own.ensures.given) c.give_own.ensures.full
