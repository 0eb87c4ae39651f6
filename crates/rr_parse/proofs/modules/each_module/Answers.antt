use Rattle.std.proofs.Common.{rules, arith, Ok}
use Rattle.rr_grammar.specs.ModuleForms.{one_module}
use Rattle.rr_parse.proofs.Chained.{run_start, run_more}
use Rattle.rr_parse.proofs.Positives.{moves_by}
use Rattle.rr_parse.specs.Answer.{Answers}
use Rattle.rr_syntax.proofs.Nonempty.{spell_module-some}
use Rattle.rr_syntax.specs.View.{plain_module}
use Rattle.rr_parse.proofs.modules.each_module.Goals as goal

pub loop-more-init : goal.loop-more-init
loop-more-init c = (run_start _ _ _ c.new-list.ensures.items, omega arith)

pub loop-more-preserved : goal.loop-more-preserved
loop-more-preserved c =
    let r : Answers (one_module 498 497) plain_module c.args.input.tokens.now c.loop-more.next (Ok c.in-Ok.more) = search rules in
    let m = moves_by (one_module 498 497) plain_module c.args.input.tokens.now spell_module-some c.loop-more.next c.in-Ok.more r in
    (run_more _ _ _ _ _ _ _ c.in_ok-add-in-Ok.ensures c.loop-more.invariant.0 m.0 r, m.1)

pub loop-more-smaller : goal.loop-more-smaller
loop-more-smaller c =
    let r : Answers (one_module 498 497) plain_module c.args.input.tokens.now c.loop-more.next (Ok c.in-Ok.more) = search rules in
    let m = moves_by (one_module 498 497) plain_module c.args.input.tokens.now spell_module-some c.loop-more.next c.in-Ok.more r in
    omega (arith, m.0, m.1)
