use Rattle.std.proofs.Common.{◌∙◌, ap}
use Rattle.rr_syntax.specs.View.{plain}
use Rattle.rr_expr.specs.Values.{own}
use Rattle.rr_cycle.specs.Exec.{Environment}
use Rattle.rr_blast_terms.proofs.WildLaws.{carried_signals}
use Rattle.rr_blast_terms.proofs.expression.own_wires.Goals as goal

pub returns-clause-value : goal.returns-clause-value
returns-clause-value c = λ env.
    c.in_ok-out.ensures.value env
    ∙ ap (λ (e : Environment). own c.args.scope.now (plain c.args.expr.now) e) (carried_signals c.args.b.now env c.args.words.now)
