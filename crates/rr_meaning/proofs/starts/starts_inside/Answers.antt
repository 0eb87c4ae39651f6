use Rattle.std.proofs.Common.{◌∙◌, ap, cond, false, refl, List, ℕ}
use mathlib.Core.Path.{fun_ext}
use Rattle.std.proofs.lemmas.List.{length-set, take_all}
use Rattle.rr_flat.specs.View.{plain_flat}
use Rattle.rr_cycle.specs.Cycles.{beginning}
use Rattle.rr_cycle.specs.Performing.{any_is}
use Rattle.rr_meaning.proofs.Rows.{inside_more, inside_none}
use Rattle.rr_meaning.proofs.starts.starts_inside.Goals as goal

pub loop-id-init : goal.loop-id-init
loop-id-init c = record {
  env = rw c.in_ok-starts.ensures.value (inside_none (beginning (plain_flat c.args.flat.now)));
  count = c.in_ok-starts.ensures.count;
}

pub loop-id-preserved : goal.loop-id-preserved
loop-id-preserved c = record {
  env = inside_more c.input_list-id-items.result.now c.loop-id.starts.items c.loop-id.id-index _ (beginning (plain_flat c.args.flat.now)) c.loop-id-test.true refl (rw c.loop-id.invariant.count (c.input_list-id-items.ensures.sound c.loop-id.id-index 0 c.loop-id-test.true)) c.loop-id.invariant.env;
  count = length-set c.loop-id.starts.items _ _ ∙ c.loop-id.invariant.count;
}

pub returns-clause-env : goal.returns-clause-env
returns-clause-env c = fun_ext (λ b.
    c.loop-id.invariant.env b
    ∙ ap (λ (ids : List ℕ). cond (any_is ids b.signal) false (beginning (plain_flat c.args.flat.now) b))
    (take_all c.loop-id.id-index c.input_list-id-items.result.now c.loop-id-test.false ∙ c.input_list-id-items.ensures.value))
