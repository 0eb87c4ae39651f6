use Rattle.std.proofs.Common.{nat_eq, ◌∙◌, ap, ◌||◌}
use Rattle.indexmap.specs.IndexMap.{get}
use Rattle.rr_text_names.specs.View.{plain_target}
use Rattle.rr_lint_names.specs.Latched.{is_noted, marks}
use Rattle.rr_lint_names.proofs.Lists.{any_map_full, any_map_step, or_none}
use Rattle.rr_lint_names.proofs.latched_names.note_targets.Goals as goal

pub loop-target-init : goal.loop-target-init
loop-target-init c = record { done = λ t name. or_none (is_noted c.args.names.now (get nat_eq c.args.lows.now) c.args.token t name) plain_target c.args.targets.now (marks c.args.noted.now t name) }

pub loop-target-preserved : goal.loop-target-preserved
loop-target-preserved c = record {
  done = λ t name.
      any_map_step (is_noted c.args.names.now (get nat_eq c.args.lows.now) c.args.token t name) plain_target c.args.targets.now c.loop-target.target-index _ (marks c.args.noted.now t name) (marks c.loop-target.noted t name)
      (marks c.note_target.new.noted t name) c.loop-target-test.true (c.loop-target.invariant.done t name) (c.in_ok-note_target.ensures t name);
}

pub returns : goal.returns
returns c = λ t name.
    c.loop-target.invariant.done t name
    ∙ ap (λ b. marks c.args.noted.now t name || b) (any_map_full (is_noted c.args.names.now (get nat_eq c.args.lows.now) c.args.token t name) plain_target c.args.targets.now c.loop-target.target-index c.loop-target-test.false)
