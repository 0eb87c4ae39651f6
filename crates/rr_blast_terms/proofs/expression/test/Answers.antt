use Rattle.std.proofs.Common.{◌∙◌, ap}
use Rattle.rr_syntax.specs.View.{plain}
use Rattle.rr_instance.specs.Instances.{instance_test}
use Rattle.rr_cycle.specs.Exec.{Environment, is_true}
use Rattle.rr_blast_terms.specs.Choosing.{picks_of}
use Rattle.rr_blast_terms.proofs.WildLaws.{carried_signals}
use Rattle.rr_blast_terms.proofs.expression.test.Goals as goal

pub returns-clause-value : goal.returns-clause-value
returns-clause-value c = λ env.
    c.in_ok-out.ensures.value env
    ∙ ap (λ (e : Environment). is_true c.args.scope.now (instance_test c.args.choice.now.sites.now (picks_of c.args.b.now env c.args.choice.now) (plain c.args.expr.now)) e) (carried_signals c.args.b.now env c.args.words.now)
