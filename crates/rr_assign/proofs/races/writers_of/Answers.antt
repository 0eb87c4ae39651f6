use Rattle.std.proofs.Common.{◌∙◌, sym, ap, map, take}
use Rattle.rr_flat.specs.View.{plain_block, plain_flat}
use Rattle.rr_assign.specs.Races.{writer_table, writers_from}
use Rattle.rr_assign.proofs.Racing.{blocks_step, blocks_done}
use Rattle.rr_assign.proofs.races.writers_of.Goals as goal

pub loop-number-preserved : goal.loop-number-preserved
loop-number-preserved c = record {
  size = c.in_ok-note_block.ensures.size ∙ c.loop-number.invariant.size;
  held = blocks_step (plain_flat c.args.flat.now) c.clocked_blocks-blocks.result.now c.loop-number.number _ (writer_table c.note_block.new.writers.items) c.loop-number-test.true
      (c.in_ok-note_block.ensures.held (writers_from (plain_flat c.args.flat.now) 0 (take c.loop-number.number (map plain_block c.clocked_blocks-blocks.result.now))) c.loop-number.invariant.held);
}

pub returns-clause-held : goal.returns-clause-held
returns-clause-held c =
    blocks_done (plain_flat c.args.flat.now) c.clocked_blocks-blocks.result.now c.loop-number.number (writer_table c.loop-number.writers.items) (ap (map plain_block) (sym c.clocked_blocks-blocks.ensures.value)) c.loop-number-test.false c.loop-number.invariant.held

pub loop-number-init : goal.loop-number-init
unfolding writers_from
loop-number-init c = record { size = c.in_ok-writers.ensures.size ∙ c.signal_count.ensures.value; held = c.in_ok-writers.ensures.nothing }
