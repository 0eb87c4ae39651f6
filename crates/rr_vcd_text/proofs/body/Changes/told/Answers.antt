use Rattle.std.proofs.Common.{sym, ap, length, rules}
use Rattle.rr_vcd_text.specs.Dump.{Change, Nothing}
use Rattle.rr_vcd_text.specs.Steps.{begun_step}
use Rattle.rr_vcd_text.specs.View.{left}
use Rattle.rr_vcd_text.proofs.body.Changes.told.Goals as goal

pub returns-in_err-id-in-Vector-clause-step : goal.returns-in_err-id-in-Vector-clause-step
returns-in_err-id-in-Vector-clause-step c = λ vs rooms.
    let s = c.in_err-id-in-Vector.ensures.step vs (λ id. Change id c.in-Vector.digits.now) rooms in
    let e = ap (λ x. begun_step vs x c.args.word.line (left c.args.self.now.words)) (sym (c.in-Vector.ensures vs rooms)) in
    rw e (search (rules, s))

pub returns-in_err-identifier-in-Other-clause-step : goal.returns-in_err-identifier-in-Other-clause-step
returns-in_err-identifier-in-Other-clause-step c = λ vs rooms.
    let s = c.in_err-identifier-in-Other.ensures.step vs (λ id. Nothing) rooms in
    let e = ap (λ x. begun_step vs x c.args.word.line (left c.args.self.now.words)) (sym (c.in-Other.ensures vs rooms)) in
    rw e (search (rules, s))
