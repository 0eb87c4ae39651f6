use Rattle.std.proofs.Common.{◌∙◌, ap, length}
use Rattle.rr_syntax.specs.View.{plain}
use Rattle.rr_expr.specs.Scopes.{env_of}
use Rattle.rr_flat.proofs.Shaping.{clear}
use Rattle.rr_wiring.proofs.Widths.{length_value}
use Rattle.rr_exec.proofs.cases.selector_of.Goals as goal

pub value-value-requires-clause-none : goal.value-value-requires-clause-none
value-value-requires-clause-none c = clear c.args.scope.now (plain c.args.on.now) c.requires.on

pub returns-clause-width : goal.returns-clause-width
returns-clause-width c =
    ap length c.value-value.ensures
    ∙ length_value c.args.scope.now (plain c.args.on.now) (env_of c.args.env.now.values.items) c.case_shape-shape.result.width c.case_shape-shape.result.signed
