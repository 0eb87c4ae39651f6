use Rattle.std.proofs.Common.{◌∙◌, ap}
use Rattle.rr_syntax.specs.View.{plain}
use Rattle.rr_expr.specs.Values.{value}
use Rattle.rr_instance.specs.Instances.{instance_tree}
use Rattle.rr_cycle.specs.Exec.{Environment}
use Rattle.rr_blast_terms.specs.Choosing.{picks_of}
use Rattle.rr_blast_terms.proofs.WildLaws.{carried_signals}
use Rattle.rr_blast_terms.proofs.expression.wires.Goals as goal

pub returns-clause-value : goal.returns-clause-value
returns-clause-value c = λ env.
    c.in_ok-out.ensures.value env
    ∙ ap (λ (e : Environment). value c.args.scope.now (instance_tree c.args.choice.now.sites.now (picks_of c.args.b.now env c.args.choice.now) (plain c.args.expr.now)) e c.args.width c.args.signed)
    (carried_signals c.args.b.now env c.args.words.now)
