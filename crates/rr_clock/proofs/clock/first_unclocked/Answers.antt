use Rattle.std.proofs.Common.{◌≡◌, ◌∙◌, sym, ap, is_some, List, ℕ}
use Rattle.std.specs.Prelude.{flat_map}
use Rattle.rr_flat.specs.declared.design.Block.{Block}
use Rattle.rr_flat.specs.View.{plain_block, plain_flat}
use Rattle.rr_text_names.specs.Firsts.{earliest}
use Rattle.rr_text_names.specs.Names.{entry}
use Rattle.rr_text_names.proofs.Walks.{walk_skip_at, walk_hit_at, walk_done, flat_map_map}
use Rattle.rr_clock.specs.Found.{unclocked_block}
use Rattle.rr_clock.proofs.clock.first_unclocked.Goals as goal

pub loop-block-preserved : goal.loop-block-preserved
loop-block-preserved c =
    walk_skip_at (λ b. unclocked_block (plain_flat c.args.flat.now) (entry c.args.table.now) c.args.clock c.args.rising (plain_block b)) c.args.blocks.now c.loop-block.block-index _ c.loop-block-test.true (ap is_some (sym c.unclocked-found.ensures) ∙ (sym c.is_some.ensures ∙ c.if-is_some.false)) ∙ c.loop-block.invariant

pub returns-then-is_some : goal.returns-then-is_some
returns-then-is_some c =
    c.unclocked-found.ensures ∙ (walk_hit_at (λ b. unclocked_block (plain_flat c.args.flat.now) (entry c.args.table.now) c.args.clock c.args.rising (plain_block b)) c.args.blocks.now c.loop-block.block-index _ c.loop-block-test.true (ap is_some (sym c.unclocked-found.ensures) ∙ (sym c.is_some.ensures ∙ c.if-is_some.true)) ∙ (c.loop-block.invariant ∙ ap earliest (flat_map_map (unclocked_block (plain_flat c.args.flat.now) (entry c.args.table.now) c.args.clock c.args.rising) plain_block c.args.blocks.now)))

pub returns : goal.returns
returns c =
    walk_done (λ b. unclocked_block (plain_flat c.args.flat.now) (entry c.args.table.now) c.args.clock c.args.rising (plain_block b)) c.args.blocks.now c.loop-block.block-index c.loop-block-test.false ∙ (c.loop-block.invariant ∙ ap earliest (flat_map_map (unclocked_block (plain_flat c.args.flat.now) (entry c.args.table.now) c.args.clock c.args.rising) plain_block c.args.blocks.now))
