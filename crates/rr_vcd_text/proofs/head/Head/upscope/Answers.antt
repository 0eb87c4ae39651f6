use Rattle.std.proofs.Common.{rules, arith}
use Rattle.std.proofs.lemmas.Bool.Decides.{nat_tests}
use Rattle.rr_vcd_text.specs.Dump.{without_scope}
use Rattle.rr_vcd_text.specs.View.{plain_declared, left}
use Rattle.rr_vcd_text.proofs.Scoping.{upscope_at}
use Rattle.rr_vcd_text.proofs.head.Head.upscope.Goals as goal

pub returns-in_err-close-clause-step : goal.returns-in_err-close-clause-step
returns-in_err-close-clause-step c =
    let s = c.in_err-close.ensures.step (without_scope (plain_declared c.args.self.now.declared)) in
    let w = upscope_at (plain_declared c.args.self.now.declared) c.args.line (left c.args.self.now.words) (first_of (search rules, grind (arith, nat_tests))) in
    rw w (search (rules, s))
