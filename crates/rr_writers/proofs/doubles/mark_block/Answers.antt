use Rattle.std.proofs.Common.{◌∙◌, ap, true, ◌||◌}
use Rattle.std.proofs.lemmas.Result.{IfOk-weaker}
use Rattle.rr_syntax.specs.View.{plain_statement}
use Rattle.rr_flat.specs.View.{plain_flat, plain_block}
use Rattle.rr_flat.specs.Writers.{writes_at_all}
use Rattle.rr_named_bits.specs.Lists.{covered, may}
use Rattle.rr_writers.specs.Assigned.{assigns}
use Rattle.rr_writers.proofs.Marking.{may_new, set_same, taken_same}
use Rattle.rr_writers.proofs.Options.{none_map, some_map}
use Rattle.rr_writers.proofs.doubles.mark_block.Goals as goal

pub returns-clause-none : goal.returns-clause-none
returns-clause-none c =
    let P = writes_at_all (plain_flat c.args.flat.now) (plain_block c.args.block.now) in
    IfOk-weaker c.mark_reaches.result _ _
    (λ r h. none_map _ _ r (set_same true c.args.number (covered c.as_slice-2.result.now) P _ _ (λ b. ap (λ z. covered z b) c.as_slice-2.ensures.value ∙ (c.in_ok-reaches.ensures b ∙ (ap (λ z. may z b) c.as_slice.ensures.value ∙ may_new P _ _ c.new-writes.ensures.items (λ d. c.in_ok-add_assigned_bits.ensures d ∙ ap (λ s. may c.new-writes.result.items d || assigns true s (plain_statement c.args.block.now.body.now) d) c.scope_at-names.ensures.value) b)))) h)
    c.mark_reaches.ensures.none

pub returns-clause-some : goal.returns-clause-some
returns-clause-some c =
    let P = writes_at_all (plain_flat c.args.flat.now) (plain_block c.args.block.now) in
    IfOk-weaker c.mark_reaches.result _ _
    (λ r h. some_map _ _ r (λ d. taken_same true c.args.number (covered c.as_slice-2.result.now) P _ _ d (λ b. ap (λ z. covered z b) c.as_slice-2.ensures.value ∙ (c.in_ok-reaches.ensures b ∙ (ap (λ z. may z b) c.as_slice.ensures.value ∙ may_new P _ _ c.new-writes.ensures.items (λ d. c.in_ok-add_assigned_bits.ensures d ∙ ap (λ s. may c.new-writes.result.items d || assigns true s (plain_statement c.args.block.now.body.now) d) c.scope_at-names.ensures.value) b)))) h)
    c.mark_reaches.ensures.some
