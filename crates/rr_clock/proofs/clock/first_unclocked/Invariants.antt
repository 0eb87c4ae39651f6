use Rattle.std.proofs.Common.{◌≡◌, drop}
use Rattle.std.specs.Prelude.{flat_map}
use Rattle.rr_flat.specs.View.{plain_block, plain_flat}
use Rattle.rr_text_names.specs.Firsts.{earliest}
use Rattle.rr_text_names.specs.Names.{entry}
use Rattle.rr_clock.specs.Found.{unclocked_block}
use Rattle.rr_clock.proofs.clock.first_unclocked.Given as goal

abbrev pub invariant-loop-block : goal.invariant-loop-block
invariant-loop-block l =
    earliest (flat_map (λ b. unclocked_block (plain_flat l.flat) (entry l.table) l.clock l.rising (plain_block b)) (drop l.block-index l.blocks)) ≡ earliest (flat_map (λ b. unclocked_block (plain_flat l.flat) (entry l.table) l.clock l.rising (plain_block b)) l.blocks)
