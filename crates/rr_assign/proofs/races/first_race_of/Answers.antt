use Rattle.std.proofs.Common.{◌∙◌, sym, ap, is_some}
use Rattle.rr_syntax.specs.View.{plain_identifier}
use Rattle.rr_flat.specs.View.{plain_flat}
use Rattle.rr_text_names.specs.Firsts.{earliest}
use Rattle.rr_text_names.proofs.Walks.{walk_skip_at, walk_hit_at, walk_done, flat_map_map}
use Rattle.rr_assign.specs.Races.{race_of}
use Rattle.rr_assign.proofs.races.first_race_of.Goals as goal

pub loop-named-preserved : goal.loop-named-preserved
loop-named-preserved c ws h =
    walk_skip_at (λ n. race_of (plain_flat c.args.flat.now) ws c.args.block c.args.scope (plain_identifier n)) c.args.names.now c.loop-named.named-index _ c.loop-named-test.true (ap is_some (sym (c.race_of-found.ensures ws h)) ∙ (sym c.is_some.ensures ∙ c.if-is_some.false))
    ∙ c.loop-named.invariant ws h

pub returns-then-is_some : goal.returns-then-is_some
returns-then-is_some c ws h =
    c.race_of-found.ensures ws h ∙ (walk_hit_at (λ n. race_of (plain_flat c.args.flat.now) ws c.args.block c.args.scope (plain_identifier n)) c.args.names.now c.loop-named.named-index _ c.loop-named-test.true (ap is_some (sym (c.race_of-found.ensures ws h)) ∙ (sym c.is_some.ensures ∙ c.if-is_some.true))
    ∙ (c.loop-named.invariant ws h ∙ ap earliest (flat_map_map (race_of (plain_flat c.args.flat.now) ws c.args.block c.args.scope) plain_identifier c.args.names.now)))

pub returns : goal.returns
returns c ws h =
    walk_done (λ n. race_of (plain_flat c.args.flat.now) ws c.args.block c.args.scope (plain_identifier n)) c.args.names.now c.loop-named.named-index c.loop-named-test.false
    ∙ (c.loop-named.invariant ws h ∙ ap earliest (flat_map_map (race_of (plain_flat c.args.flat.now) ws c.args.block c.args.scope) plain_identifier c.args.names.now))
