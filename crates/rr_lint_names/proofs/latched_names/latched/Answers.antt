use Rattle.std.proofs.Common.{◌≡◌, ap, arith, get_or, length, rules, Err}
use Rattle.std.proofs.lemmas.List.{length-map}
use Rattle.rr_flat.specs.View.{plain_block, plain_flat}
use Rattle.rr_latch.proofs.BlocksInTurn.{block_here}
use Rattle.rr_lint_names.specs.Latched.{marks}
use Rattle.rr_lint_names.proofs.Latching.{block_fault, noted_start, noted_passed, noted_done}
use Rattle.rr_lint_names.proofs.latched_names.latched.Goals as goal

pub loop-block-init : goal.loop-block-init
loop-block-init c = (noted_start (plain_flat c.args.flat.now) (marks c.new-noted.result) (λ token name. ap (λ l. marks l token name) c.new-noted.ensures), c.new-room.ensures)

pub scope_at-names-requires : goal.scope_at-names-requires
scope_at-names-requires c = (c.combinational_blocks-block-items.ensures.sound c.loop-block.block-index _ c.loop-block-test.true).there

pub note_block-requires : goal.note_block-requires
note_block-requires c = record { shaped = rw c.scope_at-names.ensures.value (c.combinational_blocks-block-items.ensures.sound c.loop-block.block-index _ c.loop-block-test.true).body.shaped; blank = c.loop-block.invariant.1 }

pub loop-block-preserved : goal.loop-block-preserved
loop-block-preserved c = (
  noted_passed (plain_flat c.args.flat.now) c.loop-block.block-index (plain_block (get_or c.combinational_blocks-block-items.result.now c.loop-block.block-index _)) c.scope_at-names.result.now (marks c.loop-block.noted) (marks c.note_block.new.noted)
      (omega (arith, c.loop-block-test.true, ap length c.combinational_blocks-block-items.ensures.value, length-map c.args.flat.now.combinational plain_block))
      (block_here c.args.flat.now c.combinational_blocks-block-items.result.now c.loop-block.block-index _ c.combinational_blocks-block-items.ensures.value c.loop-block-test.true) c.scope_at-names.ensures.value c.loop-block.invariant.0
      c.in_ok-note_block.ensures.noted c.in_ok-note_block.ensures.words,
  c.in_ok-note_block.ensures.blank,
)

pub returns-in_err-note_block : goal.returns-in_err-note_block
returns-in_err-note_block c =
    let q : c.from_residual.result ≡ Err c.in_err-note_block.field-0.0 = search rules in
    rw q (block_fault (plain_flat c.args.flat.now) c.loop-block.block-index (plain_block (get_or c.combinational_blocks-block-items.result.now c.loop-block.block-index _)) c.scope_at-names.result.now (marks c.loop-block.noted) _
    (omega (arith, c.loop-block-test.true, ap length c.combinational_blocks-block-items.ensures.value, length-map c.args.flat.now.combinational plain_block))
    (block_here c.args.flat.now c.combinational_blocks-block-items.result.now c.loop-block.block-index _ c.combinational_blocks-block-items.ensures.value c.loop-block-test.true) c.scope_at-names.ensures.value c.loop-block.invariant.0
    c.in_err-note_block.ensures.fault)

pub returns : goal.returns
returns c =
    noted_done (plain_flat c.args.flat.now) c.loop-block.block-index (marks c.loop-block.noted)
    (omega (arith, c.loop-block-test.false, ap length c.combinational_blocks-block-items.ensures.value, length-map c.args.flat.now.combinational plain_block)) c.loop-block.invariant.0
