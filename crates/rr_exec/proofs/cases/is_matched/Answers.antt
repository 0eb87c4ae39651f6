use Rattle.std.proofs.Common.{◌∙◌, sym}
use Rattle.rr_expr.specs.Scopes.{env_of}
use Rattle.rr_exec.proofs.Loops.{label_shaped, match_done, match_hit, match_more, narrow_at}
use Rattle.rr_exec.proofs.cases.is_matched.Goals as goal

pub is_label-requires-clause-shaped : goal.is_label-requires-clause-shaped
is_label-requires-clause-shaped c = label_shaped c.args.scope.now c.args.labels.now c.loop-label.label-index c.label-item.result c.loop-label-test.true c.label-item.is c.requires.shaped

pub is_label-requires-clause-narrow : goal.is_label-requires-clause-narrow
is_label-requires-clause-narrow c = narrow_at c.args.scope.now c.args.selector.now.shape.width c.args.labels.now c.loop-label.label-index c.label-item.result c.loop-label-test.true c.label-item.is c.requires.narrow

pub returns-then-is_label : goal.returns-then-is_label
returns-then-is_label c =
    let s = c.args.selector.now in
    match_hit c.args.scope.now s.kind.0 s.shape s.value c.args.labels.now c.loop-label.label-index c.label-item.result (env_of c.args.env.now.values.items) _ c.loop-label-test.true c.label-item.is
    (sym c.is_label.ensures ∙ c.if-is_label.true) c.loop-label.invariant

pub loop-label-preserved : goal.loop-label-preserved
loop-label-preserved c =
    let s = c.args.selector.now in
    match_more c.args.scope.now s.kind.0 s.shape s.value c.args.labels.now c.loop-label.label-index c.label-item.result (env_of c.args.env.now.values.items) _ c.loop-label-test.true c.label-item.is
    (sym c.is_label.ensures ∙ c.if-is_label.false) c.loop-label.invariant

pub returns : goal.returns
returns c =
    let s = c.args.selector.now in
    match_done c.args.scope.now s.kind.0 s.shape s.value c.args.labels.now c.loop-label.label-index (env_of c.args.env.now.values.items) _ c.loop-label-test.false c.loop-label.invariant
