use Rattle.std.proofs.Common.{◌≡◌, Err, ◌∙◌, sym, subst, refl, arith, rules}
use Rattle.rr_vcd_text.specs.View.{plain_word, plain_declared, Fails}
use Rattle.rr_vcd_text.proofs.Reading.{next_step, head_further, head_ended, head_fails, head_bare}
use Rattle.rr_vcd_text.proofs.head.Head.finish.Goals as goal

pub returns-in_err-construct : goal.returns-in_err-construct
returns-in_err-construct c = λ bytes now.
    let step = next_step (plain_declared c.loop-word.self.declared) _ _ (plain_word c.in-Some.word) _ c.in-Some.ensures.word refl in
    let f = head_fails bytes c.loop-word.self (c.loop-word.invariant bytes now) c.in_err-construct.field-0.0 (subst (λ s. Fails s c.in_err-construct.field-0.0) (sym step) c.in_err-construct.ensures.step) in
    let q : c.from_residual.result ≡ Err c.in_err-construct.field-0.0 = search rules in
    rw q f

pub returns-then-not-branch : goal.returns-then-not-branch
returns-then-not-branch c = λ bytes now.
    head_ended bytes c.loop-word.self (c.loop-word.invariant bytes now) c.construct.new.self
    (next_step (plain_declared c.loop-word.self.declared) _ _ (plain_word c.in-Some.word) _ c.in-Some.ensures.word (rw c.if-not-branch.true at c.in_ok-construct.ensures.step))
    (c.in_ok-construct.ensures.same c.if-not-branch.true)

pub loop-word-smaller : goal.loop-word-smaller
loop-word-smaller c = omega (arith, c.in-Some.ensures.fewer, c.in_ok-construct.ensures.fewer)

pub loop-word-preserved : goal.loop-word-preserved
loop-word-preserved c = λ bytes now.
    head_further bytes c.loop-word.self (c.loop-word.invariant bytes now) c.construct.new.self
    (next_step (plain_declared c.loop-word.self.declared) _ _ (plain_word c.in-Some.word) _ c.in-Some.ensures.word (rw c.if-not-branch.false at c.in_ok-construct.ensures.step))
    (c.in_ok-construct.ensures.last ∙ c.in-Some.ensures.last)

pub returns : goal.returns
returns c = λ bytes now. head_bare bytes c.loop-word.self (c.loop-word.invariant bytes now) c.in_default.ensures.word c.next.new.self.last c.in_default.ensures.none
