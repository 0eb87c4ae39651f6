use Rattle.std.proofs.Common.{nat_eq, nat_lt, ◌&&◌, ap, ◌∙◌}
use Rattle.std.specs.Map.{lookup}
use Rattle.indexmap.specs.IndexMap.{get}
use Rattle.rr_lint_names.specs.Latched.{is_below}
use Rattle.rr_lint_names.proofs.Lists.{any_full, any_step}
use Rattle.rr_lint_names.proofs.lows.lowest.Goals as goal

pub loop-bit-preserved : goal.loop-bit-preserved
loop-bit-preserved c = record {
  done = λ id width.
      any_step (λ b. nat_eq id b.signal && nat_lt b.place width) c.args.bits.now c.loop-bit.bit-index _ (is_below width (get nat_eq c.loop-bit.lows id)) (is_below width (get nat_eq c.note.new.lows id)) c.loop-bit-test.true
      (c.loop-bit.invariant.done id width) (c.in_ok-note.ensures id width);
}

pub loop-bit-init : goal.loop-bit-init
loop-bit-init c = record { done = λ id width. ap (λ es. is_below width (lookup (nat_eq id) es)) c.new-lows.ensures.empty }

pub returns : goal.returns
returns c = λ id width. c.loop-bit.invariant.done id width ∙ any_full (λ b. nat_eq id b.signal && nat_lt b.place width) c.args.bits.now c.loop-bit.bit-index c.loop-bit-test.false
