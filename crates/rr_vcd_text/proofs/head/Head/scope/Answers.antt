use Rattle.std.proofs.Common.{rules}
use Rattle.rr_vcd_text.specs.Dump.{with_scope}
use Rattle.rr_vcd_text.specs.View.{plain_declared}
use Rattle.rr_vcd_text.proofs.Scoping.{scope_at}
use Rattle.rr_vcd_text.proofs.head.Head.scope.Goals as goal

pub returns-in_err-close-clause-step : goal.returns-in_err-close-clause-step
returns-in_err-close-clause-step c =
    let s = c.in_err-close.ensures.step (with_scope (plain_declared c.args.self.now.declared)) in
    let w = scope_at (plain_declared c.args.self.now.declared) c.args.line _ _ _ _ _ c.in_ok-need.ensures.words c.in_ok-need-2.ensures.words in
    rw w (search (rules, s))
