use Rattle.std.proofs.Common.{◌∙◌, sym, ap, map, subst}
use Rattle.rr_flat.specs.View.{plain_block, plain_flat}
use Rattle.rr_text_names.specs.Names.{entry}
use Rattle.rr_clock.specs.Clock.{AreSources}
use Rattle.rr_clock.proofs.Finding.{found_one, found_first, found_input}
use Rattle.rr_clock.proofs.clock.find_clock.Goals as goal

pub returns-clause-one : goal.returns-clause-one
returns-clause-one c =
    found_one (plain_flat c.args.flat.now) (entry c.as_slice.result.now) _ c.named_input-named.result (map plain_block c.clocked_blocks.result.now) c.found_by.result
    (subst (λ z. AreSources (plain_flat c.args.flat.now) (entry z)) (sym c.as_slice.ensures.value) c.in_ok-table.ensures) c.named_input-named.ensures (ap (map plain_block) c.clocked_blocks.ensures.value) c.found_by.ensures

pub returns-clause-first : goal.returns-clause-first
returns-clause-first c =
    found_first (plain_flat c.args.flat.now) (entry c.as_slice.result.now) _ c.named_input-named.result (map plain_block c.clocked_blocks.result.now) c.found_by.result
    (subst (λ z. AreSources (plain_flat c.args.flat.now) (entry z)) (sym c.as_slice.ensures.value) c.in_ok-table.ensures) c.named_input-named.ensures (ap (map plain_block) c.clocked_blocks.ensures.value) c.found_by.ensures

pub returns-clause-input : goal.returns-clause-input
returns-clause-input c =
    found_input (plain_flat c.args.flat.now) (entry c.as_slice.result.now) _ c.named_input-named.result (map plain_block c.clocked_blocks.result.now) c.found_by.result
    (subst (λ z. AreSources (plain_flat c.args.flat.now) (entry z)) (sym c.as_slice.ensures.value) c.in_ok-table.ensures) c.named_input-named.ensures (ap (map plain_block) c.clocked_blocks.ensures.value) c.found_by.ensures
