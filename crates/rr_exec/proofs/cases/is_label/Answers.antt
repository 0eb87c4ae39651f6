use Rattle.std.proofs.Common.{◌∙◌, sym, ap, arith, length}
use Rattle.rr_syntax.specs.View.{plain}
use Rattle.rr_expr.specs.Scopes.{env_of}
use Rattle.rr_flat.proofs.Shaping.{clear}
use Rattle.rr_named_bits.proofs.Nodes.{shaped_positive}
use Rattle.rr_exec.proofs.Labels.{length_wild}
use Rattle.rr_wiring.proofs.Widths.{length_value}
use Rattle.rr_exec.proofs.cases.is_label.Goals as goal

pub value-word-requires-clause-none : goal.value-word-requires-clause-none
value-word-requires-clause-none c = clear c.args.scope.now (plain c.args.label.now) c.requires.shaped

pub wild-requires-clause-shaped : goal.wild-requires-clause-shaped
wild-requires-clause-shaped c = (c.args.scope.now, clear c.args.scope.now (plain c.args.label.now) c.requires.shaped)

pub wild-requires-clause-low : goal.wild-requires-clause-low
wild-requires-clause-low c =
    let l = shaped_positive c.args.scope.now (plain c.args.label.now) (clear c.args.scope.now (plain c.args.label.now) c.requires.shaped) in
    omega (arith, l)

pub is_equal-requires-clause-one : goal.is_equal-requires-clause-one
is_equal-requires-clause-one c = ap length c.wild.ensures ∙ length_wild c.args.selector.now.kind.0 (plain c.args.label.now) c.args.selector.now.shape.width ∙ sym c.requires.width

pub is_equal-requires-clause-two : goal.is_equal-requires-clause-two
is_equal-requires-clause-two c =
    ap length c.value-word.ensures
    ∙ length_value c.args.scope.now (plain c.args.label.now) (env_of c.args.env.now.values.items) c.args.selector.now.shape.width c.args.selector.now.shape.signed
    ∙ sym c.requires.width
