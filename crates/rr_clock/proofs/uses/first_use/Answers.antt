use Rattle.std.proofs.Common.{◌≡◌, ◌∙◌, sym, ap, true, false, is_some}
use Rattle.std.specs.Prelude.{flat_map}
use Rattle.rr_flat.specs.View.{plain_flat}
use Rattle.rr_text_names.specs.Firsts.{earliest}
use Rattle.rr_text_names.proofs.Walks.{walk_skip_at, walk_hit_at, walk_done}
use Rattle.rr_syntax.specs.View.{plain_identifier}
use Rattle.rr_clock.specs.Clock.{use_of}
use Rattle.rr_text_names.specs.Names.{entry, is_the}
use Rattle.rr_text_names.proofs.Walks.{flat_map_map}
use Rattle.rr_clock.proofs.uses.first_use.Goals as goal

pub loop-named-preserved : goal.loop-named-preserved
loop-named-preserved c =
    walk_skip_at (λ n. use_of (plain_flat c.args.flat.now) (λ x. is_the c.args.clock (entry c.args.table.now x)) c.args.scope (plain_identifier n)) c.args.names.now c.loop-named.named-index _ c.loop-named-test.true (ap is_some (sym c.clock_use-found.ensures) ∙ (sym c.is_some.ensures ∙ c.if-is_some.false)) ∙ c.loop-named.invariant

pub returns-then-is_some : goal.returns-then-is_some
returns-then-is_some c =
    c.clock_use-found.ensures ∙ (walk_hit_at (λ n. use_of (plain_flat c.args.flat.now) (λ x. is_the c.args.clock (entry c.args.table.now x)) c.args.scope (plain_identifier n)) c.args.names.now c.loop-named.named-index _ c.loop-named-test.true (ap is_some (sym c.clock_use-found.ensures) ∙ (sym c.is_some.ensures ∙ c.if-is_some.true)) ∙ (c.loop-named.invariant ∙ ap earliest (flat_map_map (use_of (plain_flat c.args.flat.now) (λ x. is_the c.args.clock (entry c.args.table.now x)) c.args.scope) plain_identifier c.args.names.now)))

pub returns : goal.returns
returns c = walk_done (λ n. use_of (plain_flat c.args.flat.now) (λ x. is_the c.args.clock (entry c.args.table.now x)) c.args.scope (plain_identifier n)) c.args.names.now c.loop-named.named-index c.loop-named-test.false ∙ (c.loop-named.invariant ∙ ap earliest (flat_map_map (use_of (plain_flat c.args.flat.now) (λ x. is_the c.args.clock (entry c.args.table.now x)) c.args.scope) plain_identifier c.args.names.now))
