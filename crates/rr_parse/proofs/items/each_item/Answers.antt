use Rattle.std.proofs.Common.{rules, arith, Ok}
use Rattle.rr_grammar.specs.ItemForms.{item}
use Rattle.rr_parse.proofs.Chained.{run_start, run_more}
use Rattle.rr_parse.proofs.Positives.{moves_by}
use Rattle.rr_parse.specs.Answer.{Answers}
use Rattle.rr_syntax.proofs.Nonempty.{spell_item-some}
use Rattle.rr_syntax.specs.View.{plain_item}
use Rattle.rr_parse.proofs.items.each_item.Goals as goal

pub loop-more-init : goal.loop-more-init
loop-more-init c = (run_start _ _ _ c.new-list.ensures.items, c.requires.inside)

pub loop-more-preserved : goal.loop-more-preserved
loop-more-preserved c =
    let r : Answers (item c.args.depth) plain_item c.args.input.tokens.now c.loop-more.next (Ok c.in-Ok.more) = search rules in
    let m = moves_by (item c.args.depth) plain_item c.args.input.tokens.now spell_item-some c.loop-more.next c.in-Ok.more r in
    (run_more _ _ _ _ _ _ _ c.in_ok-add-in-Ok.ensures c.loop-more.invariant.0 m.0 r, m.1)

pub loop-more-smaller : goal.loop-more-smaller
loop-more-smaller c =
    let r : Answers (item c.args.depth) plain_item c.args.input.tokens.now c.loop-more.next (Ok c.in-Ok.more) = search rules in
    let m = moves_by (item c.args.depth) plain_item c.args.input.tokens.now spell_item-some c.loop-more.next c.in-Ok.more r in
    omega (arith, m.0, m.1)
