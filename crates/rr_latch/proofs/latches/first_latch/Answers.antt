use Rattle.std.proofs.Common.{ap, arith, get_or, length, refl}
use Rattle.std.proofs.lemmas.List.{length-map}
use Rattle.rr_flat.specs.View.{plain_block, plain_flat}
use Rattle.rr_latch.specs.Paths.{assigned}
use Rattle.rr_latch.proofs.BlocksInTurn.{block_here, block_passed, blocks_done, first_kept, kept_breaks}
use Rattle.rr_latch.proofs.latches.first_latch.Goals as goal

pub scope_at-names-requires : goal.scope_at-names-requires
scope_at-names-requires c = (c.combinational_blocks-block-items.ensures.sound c.loop-block.block-index _ c.loop-block-test.true).there

pub kept_bit-requires-clause-shaped : goal.kept_bit-requires-clause-shaped
kept_bit-requires-clause-shaped c = rw c.scope_at-names.ensures.value (c.combinational_blocks-block-items.ensures.sound c.loop-block.block-index _ c.loop-block-test.true).body.shaped

pub kept_bit-requires-clause-assigned : goal.kept_bit-requires-clause-assigned
kept_bit-requires-clause-assigned c = c.loop-block.invariant.0.assigned

pub kept_bit-requires-clause-shut : goal.kept_bit-requires-clause-shut
kept_bit-requires-clause-shut c = c.loop-block.invariant.1

pub kept_bit-requires-clause-empty : goal.kept_bit-requires-clause-empty
kept_bit-requires-clause-empty c = c.loop-block.invariant.2

pub loop-block-preserved : goal.loop-block-preserved
loop-block-preserved c = (
  block_passed (plain_flat c.args.flat.now) c.loop-block.block-index (plain_block (get_or c.combinational_blocks-block-items.result.now c.loop-block.block-index _)) c.scope_at-names.result.now _ _
      (block_here c.args.flat.now c.combinational_blocks-block-items.result.now c.loop-block.block-index _ c.combinational_blocks-block-items.ensures.value c.loop-block-test.true) c.scope_at-names.ensures.value c.loop-block.invariant.0
      (rw c.in_default.is at c.in_ok-bit.ensures.none) (rw c.in_default.is at c.in_ok-bit.ensures.left),
  (rw c.in_default.is at c.in_ok-bit.ensures.shut),
  (rw c.in_default.is at c.in_ok-bit.ensures.empty),
)

pub returns-in-Some-clause-some : goal.returns-in-Some-clause-some
returns-in-Some-clause-some c =
    kept_breaks (plain_flat c.args.flat.now) c.loop-block.block-index (plain_block (get_or c.combinational_blocks-block-items.result.now c.loop-block.block-index _)) c.scope_at-names.result.now c.in-Some.bit
    (omega (arith, c.loop-block-test.true, ap length c.combinational_blocks-block-items.ensures.value, length-map c.args.flat.now.combinational plain_block))
    (block_here c.args.flat.now c.combinational_blocks-block-items.result.now c.loop-block.block-index _ c.combinational_blocks-block-items.ensures.value c.loop-block-test.true) c.scope_at-names.ensures.value
    (rw c.in-Some.is at c.in_ok-bit.ensures.some)

pub returns-in-Some-clause-first : goal.returns-in-Some-clause-first
returns-in-Some-clause-first c =
    first_kept (plain_flat c.args.flat.now) c.loop-block.block-index (plain_block (get_or c.combinational_blocks-block-items.result.now c.loop-block.block-index _)) c.scope_at-names.result.now (assigned c.loop-block.path.unassigned) _
    (omega (arith, c.loop-block-test.true, ap length c.combinational_blocks-block-items.ensures.value, length-map c.args.flat.now.combinational plain_block))
    (block_here c.args.flat.now c.combinational_blocks-block-items.result.now c.loop-block.block-index _ c.combinational_blocks-block-items.ensures.value c.loop-block-test.true) c.scope_at-names.ensures.value c.loop-block.invariant.0
    (rw c.in-Some.is at c.in_ok-bit.ensures.some) refl

pub returns-clause-none : goal.returns-clause-none
returns-clause-none c =
    blocks_done (plain_flat c.args.flat.now) c.loop-block.block-index (assigned c.loop-block.path.unassigned)
    (omega (arith, c.loop-block-test.false, ap length c.combinational_blocks-block-items.ensures.value, length-map c.args.flat.now.combinational plain_block)) c.loop-block.invariant.0
