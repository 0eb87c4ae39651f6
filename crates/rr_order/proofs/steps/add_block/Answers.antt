use Rattle.std.proofs.Common.{◌≡◌, ◌∙◌, ◌<◌, ◌+◌, arith, true, refl, ℕ, get_or}
use Rattle.rr_flat.specs.Reads.{StatementReads}
use Rattle.rr_flat.specs.View.{plain_flat, plain_block}
use Rattle.rr_flat.specs.Writers.{block_at, scope_at, writes_at_all}
use Rattle.rr_named_bits.specs.Lists.{covered}
use Rattle.rr_order.specs.Nodes.{IsWritten, widths}
use Rattle.rr_order.proofs.Growing.{written_low, written_inside, block_there, block_writes, block_written, grown_block, grown_distinct, block_row, block_added, stamped_low}
use Rattle.rr_order.proofs.steps.add_block.Goals as goal

pub stamp_all-requires : goal.stamp_all-requires
stamp_all-requires c = λ v i. omega (arith, c.requires.own.0, written_low (widths (plain_flat c.args.flat.now)) (λ b. covered c.as_slice-2.result.now b ≡ true) c.as_slice-3.result.now (rw c.as_slice-3.ensures.value c.in_ok-written.ensures) v i)

pub add_step-requires : goal.add_step-requires
add_step-requires c = rw c.as_slice-6.ensures.value (written_inside (plain_flat c.args.flat.now) _ c.args.nodes.now.steps.items c.args.nodes.now.rows.items (λ b. covered c.as_slice-2.result.now b ≡ true) c.in_ok-written.written.items c.requires.graph c.in_ok-written.ensures)

pub returns-clause-own : goal.returns-clause-own
returns-clause-own c = (c.stamp_all.ensures.count ∙ c.requires.own.0, stamped_low c.args.own.now.items c.stamp_all.new.own.items c.as_slice-3.result.now c.args.number (c.args.number + 1) refl c.requires.own.1 c.stamp_all.ensures)

pub returns-clause-graph : goal.returns-clause-graph
returns-clause-graph c =
    let l = block_there c.args.flat.now c.args.number c.requires.number in
    let m = block_writes (plain_flat c.args.flat.now) (plain_block c.combinational_at-block.result) (block_at (plain_flat c.args.flat.now).combinational c.args.number) c.scope_at-names.result.now c.new-writes.result.items c.add_assigned_bits.new.list.items c.as_slice.result.now c.new-writes.ensures.items c.as_slice.ensures.value
    c.scope_at-names.ensures.value c.combinational_at-block.ensures.value c.in_ok-add_assigned_bits.ensures in
    let w : IsWritten (widths (plain_flat c.args.flat.now)) (λ b. writes_at_all (plain_flat c.args.flat.now) (block_at (plain_flat c.args.flat.now).combinational c.args.number) b ≡ true) c.in_ok-written.written.items =
    block_written (plain_flat c.args.flat.now) c.args.number c.as_slice.result.now c.in_ok-assigned.assigned.items c.as_slice-2.result.now c.in_ok-written.written.items l m c.in_ok-assigned.ensures c.as_slice-2.ensures.value c.in_ok-written.ensures in
    let g = grown_block (plain_flat c.args.flat.now) (plain_block c.combinational_at-block.result) (block_at (plain_flat c.args.flat.now).combinational c.args.number) c.scope_at-names.result.now c.new-reads.result.items c.add_read_bits.new.list.items c.as_slice-4.result.now c.new-reads.ensures.items c.as_slice-4.ensures.value
    c.scope_at-names.ensures.value c.combinational_at-block.ensures.value c.in_ok-add_read_bits.ensures in
    let d = grown_distinct c.as_slice-4.result.now c.in_ok-named.named.items c.as_slice-5.result.now
    (StatementReads (scope_at (plain_flat c.args.flat.now) (block_at (plain_flat c.args.flat.now).combinational c.args.number).scope) (block_at (plain_flat c.args.flat.now).combinational c.args.number).body)
    c.in_ok-named.ensures c.as_slice-5.ensures.value g in
    let v : IsWritten (widths (plain_flat c.args.flat.now)) (λ b. writes_at_all (plain_flat c.args.flat.now) (block_at (plain_flat c.args.flat.now).combinational c.args.number) b ≡ true) c.as_slice-3.result.now = rw c.as_slice-3.ensures.value w in
    let u : IsWritten (widths (plain_flat c.args.flat.now)) (λ b. writes_at_all (plain_flat c.args.flat.now) (block_at (plain_flat c.args.flat.now).combinational c.args.number) b ≡ true) c.as_slice-6.result.now = rw c.as_slice-6.ensures.value w in
    let h : (n : ℕ) → get_or c.args.own.now.items n 0 < c.args.number + 1 = λ n. let o = c.requires.own.1 n in omega (arith, o) in
    block_added (plain_flat c.args.flat.now) _ c.args.number c.args.nodes.now.steps.items c.add_step.new.nodes.steps.items c.args.nodes.now.rows.items c.add_step.new.nodes.rows.items c.in_ok-row.row.items c.as_slice-6.result.now c.requires.graph l
    (block_row (plain_flat c.args.flat.now) c.args.number (c.args.number + 1) c.args.own.now.items c.stamp_all.new.own.items c.as_slice-3.result.now c.as_slice-5.result.now c.in_ok-row.row.items l d v c.stamp_all.ensures h c.in_ok-row.ensures) u c.in_ok-add_step.ensures.steps c.in_ok-add_step.ensures.graph
