use Rattle.std.proofs.Common.{◌∙◌, ◌++◌, ap, map, take}
use Rattle.rr_flat.specs.View.{plain_flat}
use Rattle.rr_text_names.specs.View.{plain_target}
use Rattle.rr_assign.specs.Races.{writer_of, writer_table}
use Rattle.rr_assign.proofs.Racing.{writers_step, writers_all}
use Rattle.rr_assign.proofs.races.note_writers.Goals as goal

pub loop-target-preserved : goal.loop-target-preserved
loop-target-preserved c = record {
  size = c.note_writer.ensures.size ∙ c.loop-target.invariant.size;
  held = λ ws h. writers_step (λ t. writer_of (plain_flat c.args.flat.now) c.args.scope c.args.block (plain_target t)) ws c.args.targets.now c.loop-target.target-index _ (writer_table c.note_writer.new.writers.items) (c.args.block, c.written-id.result) c.loop-target-test.true
      (ap (λ o. (c.args.block, o)) c.written-id.ensures.value)
      (c.note_writer.ensures.held (ws ++ map (λ t. writer_of (plain_flat c.args.flat.now) c.args.scope c.args.block (plain_target t)) (take c.loop-target.target-index c.args.targets.now)) (c.loop-target.invariant.held ws h));
}

pub returns-clause-held : goal.returns-clause-held
returns-clause-held c ws h =
    writers_all ws (writer_of (plain_flat c.args.flat.now) c.args.scope c.args.block) plain_target c.args.targets.now c.loop-target.target-index (writer_table c.loop-target.writers.items) c.loop-target-test.false (c.loop-target.invariant.held ws h)
