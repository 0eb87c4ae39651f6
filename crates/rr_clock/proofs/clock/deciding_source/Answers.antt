use Rattle.std.proofs.Common.{◌∙◌, refl}
use Rattle.rr_flat.specs.View.{plain_block, plain_flat}
use Rattle.rr_text_names.specs.Names.{entry}
use Rattle.rr_clock.proofs.Finding.{deciding_is}
use Rattle.rr_clock.proofs.clock.deciding_source.Goals as goal

pub returns-in_ok-body-in-Some : goal.returns-in_ok-body-in-Some
returns-in_ok-body-in-Some c =
    c.source_named.ensures
    ∙ deciding_is (plain_flat c.args.flat.now) (entry c.args.table.now) (plain_block c.args.block.now) c.args.block.now.edges.now c.in-Some.first.now _ c.deciding_edge-edge.result refl c.in-Some.ensures.value c.in_ok-body-in-Some.ensures
    c.deciding_edge-edge.ensures
