use Rattle.std.proofs.Common.{◌≡◌, ◌∙◌, ◌<◌, ◌++◌, ◌-◌, sym, ap, [], length, map, arith}
use Rattle.rr_syntax.specs.View.{plain_identifier, texts}
use Rattle.rr_guard.proofs.Before.{left, first_is, below, before_more, before_few}
use Rattle.rr_guard.proofs.candidates.first_before.Goals as goal

pub loop-name-init : goal.loop-name-init
loop-name-init c =
    let none : length (texts c.new-list.result.items) ≡ 0 = ap (λ xs. length (texts xs)) c.new-list.ensures.items in
    record {
      few = omega (arith, none);
      told = ap (λ xs. texts xs ++ left (64 - length (texts xs)) c.args.token (map plain_identifier c.args.names.now)) c.new-list.ensures.items ∙ sym (first_is (map plain_identifier c.args.names.now) c.args.token);
    }

pub loop-name-preserved : goal.loop-name-preserved
loop-name-preserved c =
    let few : length (texts c.loop-name.list.items) < 64 = below c.loop-name.list.items (length c.as_slice.result.now) (ap length c.as_slice.ensures.value) c.loop-name.invariant.few c.if-as_slice-eq64.false in
    record {
      few = before_few c.args.token c.args.names.now c.loop-name.name-index _ (texts c.loop-name.list.items) _ [] few c.in_ok-add_before.ensures;
      told = before_more c.args.token c.args.names.now c.loop-name.name-index _ (texts c.loop-name.list.items) _ _ c.loop-name-test.true few c.in_ok-add_before.ensures c.loop-name.invariant.told;
    }
