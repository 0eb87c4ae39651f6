use Rattle.std.proofs.Common.{◌≡◌, ◌++◌, sym, subst, rules, arith, [], Err}
use Rattle.rr_directive.specs.Expand.{from_use}
use Rattle.rr_directive.specs.View.{left_names, Opens, UseAnswers}
use Rattle.rr_directive.proofs.Frames.{popped, no_frames, empty_frames}
use Rattle.rr_directive.proofs.Running.{begun, first_fails, went, run_fails, run_ends}
use Rattle.rr_directive.proofs.using.give_use.Goals as goal

pub returns-in_err-begin : goal.returns-in_err-begin
returns-in_err-begin c = λ names ds name events h o s n.
    let q : c.from_residual.result ≡ Err c.in_err-begin.field-0.0 = search rules in
    subst (λ r. UseAnswers names ds name events c.args.offset c.begin.new.flags c.begin.new.out r) (sym q)
    (first_fails (Unit {0}) (Unit {0}) names ds name events c.args.offset c.begin.new.flags c.begin.new.frames.items c.begin.new.out c.in_err-begin.field-0.0
    (c.in_err-begin.ensures.answer names ds name [] events c.args.offset h o (no_frames names _ c.new-frames.ensures.items) s n))

pub loop-frame-init : goal.loop-frame-init
loop-frame-init c = λ names ds name events h o s n.
    begun names ds name events c.args.offset _ _ _ (c.in_ok-begin.ensures.answer names ds name [] events c.args.offset h o (no_frames names _ c.new-frames.ensures.items) s n)

pub loop-frame-preserved : goal.loop-frame-preserved
loop-frame-preserved c = λ names ds name events h o s n.
    let r = c.loop-frame.invariant names ds name events h o s n in
    let p = popped names c.loop-frame.frames.items c.pop.new.self.items c.in-Some.frame r.left c.in-Some.ensures.items r.stack in
    went names ds name events c.args.offset c.loop-frame.flags c.loop-frame.frames.items c.loop-frame.out _ _ _ p.0 p.1.0 r p.1.1.0
    (c.in_ok-advance.ensures.answer names ds p.0 p.1.0 (events ++ from_use c.args.offset r.gone) h (subst (λ ls. Opens names c.loop-frame.flags (left_names ls)) p.1.1.0 r.opens) p.1.1.1.0 p.1.1.1.1 r.shows)

pub returns-in_err-advance : goal.returns-in_err-advance
returns-in_err-advance c = λ names ds name events h o s n.
    let q : c.from_residual-in_err-advance.result ≡ Err c.in_err-advance.field-0.0 = search rules in
    let r = c.loop-frame.invariant names ds name events h o s n in
    let p = popped names c.loop-frame.frames.items c.pop.new.self.items c.in-Some.frame r.left c.in-Some.ensures.items r.stack in
    subst (λ r. UseAnswers names ds name events c.args.offset c.advance.new.flags c.advance.new.out r) (sym q)
    (run_fails (Unit {0}) (Unit {0}) names ds name events c.args.offset c.loop-frame.flags c.loop-frame.frames.items c.loop-frame.out c.advance.new.out c.advance.new.flags c.advance.new.frames.items p.0 p.1.0 c.in_err-advance.field-0.0 r p.1.1.0
    (c.in_err-advance.ensures.answer names ds p.0 p.1.0 (events ++ from_use c.args.offset r.gone) h (subst (λ ls. Opens names c.loop-frame.flags (left_names ls)) p.1.1.0 r.opens) p.1.1.1.0 p.1.1.1.1 r.shows))

pub returns : goal.returns
returns c = λ names ds name events h o s n.
    let r = c.loop-frame.invariant names ds name events h o s n in
    let k = rw c.in_default.is at c.pop.ensures.cases in
    run_ends names ds name events c.args.offset c.loop-frame.flags c.loop-frame.frames.items c.loop-frame.out r (empty_frames c.loop-frame.frames.items (omega (arith, k.0, c.loop-frame.frames.ok)))
