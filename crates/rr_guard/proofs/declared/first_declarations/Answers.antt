use Rattle.rr_syntax.specs.View.{plain_identifier}
use Rattle.std.proofs.Common.{◌∙◌, sym, ap, map, drop, fold}
use Rattle.rr_guard.specs.Names.{texts_of, with_first}
use Rattle.rr_guard.proofs.ScalarNodes.{firsts_is}
use Rattle.rr_guard.proofs.Lists.{fold_more_at, fold_done}
use Rattle.rr_guard.proofs.declared.first_declarations.Goals as goal

pub loop-name-init : goal.loop-name-init
loop-name-init c = record {
  same = c.new-seen.ensures ∙ ap (λ ys. texts_of (map plain_identifier ys)) (sym c.new-list.ensures.items);
  folded = ap (λ ys. fold with_first (map plain_identifier ys) (map plain_identifier (drop 0 c.args.names.now))) c.new-list.ensures.items ∙ sym (firsts_is (map plain_identifier c.args.names.now));
}

pub loop-name-preserved : goal.loop-name-preserved
loop-name-preserved c = record {
  same = c.in_ok-add_first.ensures.same;
  folded = fold_more_at plain_identifier with_first c.args.names.now c.loop-name.name-index _ (map plain_identifier c.loop-name.list.items) _ _ c.loop-name-test.true c.in_ok-add_first.ensures.added c.loop-name.invariant.folded;
}

pub returns : goal.returns
returns c = fold_done plain_identifier with_first c.args.names.now c.loop-name.name-index (map plain_identifier c.loop-name.list.items) _ c.loop-name-test.false c.loop-name.invariant.folded
