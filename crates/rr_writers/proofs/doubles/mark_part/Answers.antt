use Rattle.std.proofs.lemmas.Result.{IfOk-weaker}
use Rattle.rr_flat.specs.View.{plain_flat, plain_driver, plain_block}
use Rattle.rr_writers.specs.Tables.{entry}
use Rattle.rr_writers.proofs.Options.{none_map, some_map}
use Rattle.rr_writers.proofs.Ordering.{there_plain, past_plain}
use Rattle.rr_writers.proofs.Parting.{driver_at_marked, driver_at_taken, driver_absent, clocked_at_marked, clocked_at_taken, clocked_absent, combinational_at_marked, combinational_at_taken, combinational_absent}
use Rattle.rr_writers.proofs.doubles.mark_part.Goals as goal

pub returns-in-Some-clause-none : goal.returns-in-Some-clause-none
returns-in-Some-clause-none c =
    IfOk-weaker c.mark_driver.result _ _
    (λ r h. none_map _ _ r (λ m. driver_at_marked (plain_flat c.args.flat.now) c.args.part c.in-Driver.at c.args.number (plain_driver c.in-Some.driver) _ _ c.in-Driver.is (there_plain plain_driver c.args.flat.now.drivers c.in-Driver.at c.in-Some.ensures.there) c.in-Some.ensures.some m) h) c.mark_driver.ensures.none

pub returns-in-Some-clause-some : goal.returns-in-Some-clause-some
returns-in-Some-clause-some c =
    IfOk-weaker c.mark_driver.result _ _
    (λ r h. some_map _ _ r (λ b t. driver_at_taken (plain_flat c.args.flat.now) c.args.part c.in-Driver.at c.args.number (plain_driver c.in-Some.driver) _ _ b c.in-Driver.is (there_plain plain_driver c.args.flat.now.drivers c.in-Driver.at c.in-Some.ensures.there) c.in-Some.ensures.some t) h) c.mark_driver.ensures.some

pub returns-in-None-clause-none : goal.returns-in-None-clause-none
returns-in-None-clause-none c = driver_absent (plain_flat c.args.flat.now) c.args.part c.in-Driver.at c.args.number (entry c.args.table.now) c.in-Driver.is (past_plain plain_driver c.args.flat.now.drivers c.in-Driver.at c.in-None.ensures.none)

pub returns-in-Some-clocked_block-clause-none : goal.returns-in-Some-clocked_block-clause-none
returns-in-Some-clocked_block-clause-none c =
    IfOk-weaker c.mark_block.result _ _
    (λ r h. none_map _ _ r (λ m. clocked_at_marked (plain_flat c.args.flat.now) c.args.part c.in-Clocked.at c.args.number (plain_block c.in-Some-clocked_block.block) _ _ c.in-Clocked.is (there_plain plain_block c.args.flat.now.clocked c.in-Clocked.at c.in-Some-clocked_block.ensures.there) c.in-Some-clocked_block.ensures.some c.requires.fresh m) h) c.mark_block.ensures.none

pub returns-in-Some-clocked_block-clause-some : goal.returns-in-Some-clocked_block-clause-some
returns-in-Some-clocked_block-clause-some c =
    IfOk-weaker c.mark_block.result _ _
    (λ r h. some_map _ _ r (λ b t. clocked_at_taken (plain_flat c.args.flat.now) c.args.part c.in-Clocked.at c.args.number (plain_block c.in-Some-clocked_block.block) _ _ b c.in-Clocked.is (there_plain plain_block c.args.flat.now.clocked c.in-Clocked.at c.in-Some-clocked_block.ensures.there) c.in-Some-clocked_block.ensures.some t) h) c.mark_block.ensures.some

pub returns-in-None-clocked_block-clause-none : goal.returns-in-None-clocked_block-clause-none
returns-in-None-clocked_block-clause-none c = clocked_absent (plain_flat c.args.flat.now) c.args.part c.in-Clocked.at c.args.number (entry c.args.table.now) c.in-Clocked.is (past_plain plain_block c.args.flat.now.clocked c.in-Clocked.at c.in-None-clocked_block.ensures.none)

pub returns-in-Some-combinational_block-clause-none : goal.returns-in-Some-combinational_block-clause-none
returns-in-Some-combinational_block-clause-none c =
    IfOk-weaker c.mark_block-in-Some-combinational_block.result _ _
    (λ r h. none_map _ _ r (λ m. combinational_at_marked (plain_flat c.args.flat.now) c.args.part c.in-Combinational.at c.args.number (plain_block c.in-Some-combinational_block.block) _ _ c.in-Combinational.is (there_plain plain_block c.args.flat.now.combinational c.in-Combinational.at c.in-Some-combinational_block.ensures.there) c.in-Some-combinational_block.ensures.some c.requires.fresh m) h) c.mark_block-in-Some-combinational_block.ensures.none

pub returns-in-Some-combinational_block-clause-some : goal.returns-in-Some-combinational_block-clause-some
returns-in-Some-combinational_block-clause-some c =
    IfOk-weaker c.mark_block-in-Some-combinational_block.result _ _
    (λ r h. some_map _ _ r (λ b t. combinational_at_taken (plain_flat c.args.flat.now) c.args.part c.in-Combinational.at c.args.number (plain_block c.in-Some-combinational_block.block) _ _ b c.in-Combinational.is (there_plain plain_block c.args.flat.now.combinational c.in-Combinational.at c.in-Some-combinational_block.ensures.there) c.in-Some-combinational_block.ensures.some t) h) c.mark_block-in-Some-combinational_block.ensures.some

pub returns-in-None-combinational_block-clause-none : goal.returns-in-None-combinational_block-clause-none
returns-in-None-combinational_block-clause-none c = combinational_absent (plain_flat c.args.flat.now) c.args.part c.in-Combinational.at c.args.number (entry c.args.table.now) c.in-Combinational.is (past_plain plain_block c.args.flat.now.combinational c.in-Combinational.at c.in-None-combinational_block.ensures.none)
