use Rattle.std.proofs.Common.{◌∙◌, ap}
use Rattle.std.proofs.lemmas.Result.{IfOk-weaker}
use Rattle.rr_flat.specs.View.{plain_flat, plain_driver}
use Rattle.rr_flat.specs.Writers.{driven_by}
use Rattle.rr_named_bits.specs.Pieces.{all_bits}
use Rattle.rr_writers.proofs.Marking.{all_new, list_same, twice_same}
use Rattle.rr_writers.proofs.Options.{none_map, some_map}
use Rattle.rr_writers.proofs.doubles.mark_driver.Goals as goal

pub returns-clause-none : goal.returns-clause-none
returns-clause-none c =
    let bits = driven_by (plain_flat c.args.flat.now) (plain_driver c.args.driver.now).target in
    let e = ap all_bits c.as_slice.ensures.value ∙ all_new bits _ _ c.new-pieces.ensures.items c.in_ok-add_driven.ensures in
    IfOk-weaker c.mark_pieces.result _ _ (λ r h. none_map _ _ r (list_same c.args.number (all_bits c.as_slice.result.now) bits _ _ e) h) c.mark_pieces.ensures.none

pub returns-clause-some : goal.returns-clause-some
returns-clause-some c =
    let bits = driven_by (plain_flat c.args.flat.now) (plain_driver c.args.driver.now).target in
    let e = ap all_bits c.as_slice.ensures.value ∙ all_new bits _ _ c.new-pieces.ensures.items c.in_ok-add_driven.ensures in
    IfOk-weaker c.mark_pieces.result _ _ (λ r h. some_map _ _ r (λ b. twice_same c.args.number (all_bits c.as_slice.result.now) bits _ _ b e) h) c.mark_pieces.ensures.some
