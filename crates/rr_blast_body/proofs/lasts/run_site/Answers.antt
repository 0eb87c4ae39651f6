use Rattle.std.proofs.Common.{◌∙◌, refl}
use Rattle.rr_circuit.specs.Values.{wire_values}
use Rattle.rr_syntax.specs.declared.site.SiteKind.TheVariants as kind
use Rattle.rr_choice.specs.Choices.{read_pick}
use Rattle.rr_choice.specs.View.{plain_site}
use Rattle.rr_blast_stmt.specs.Running.{held}
use Rattle.rr_blast_body.specs.declared.lasts.Last.{Last}
use Rattle.rr_blast_body.proofs.LastLaws.{site_here, site_off, site_past}
use Rattle.rr_blast_body.proofs.lasts.run_site.Goals as goal

pub returns-in-Literal-clause-ran : goal.returns-in-Literal-clause-ran
returns-in-Literal-clause-ran c = λ env.
    site_off c.args.scope.now c.args.token c.args.site.now (kind.Literal c.in-Literal.width c.in-Literal.signed) (read_pick (plain_site c.args.site.now) (wire_values c.args.b.now env c.args.bits.now)) (held c.args.b.now env c.args.machine.now) c.in-Literal.is refl

pub returns-in-Guard-clause-ran : goal.returns-in-Guard-clause-ran
returns-in-Guard-clause-ran c = λ env.
    site_off c.args.scope.now c.args.token c.args.site.now (kind.Guard c.in-Guard.module c.in-Guard.extent c.in-Guard.names) (read_pick (plain_site c.args.site.now) (wire_values c.args.b.now env c.args.bits.now)) (held c.args.b.now env c.args.machine.now) c.in-Guard.is refl

pub returns-then-site-token-clause-ran : goal.returns-then-site-token-clause-ran
returns-then-site-token-clause-ran c = λ env.
    site_past c.args.scope.now c.args.token c.args.site.now (read_pick (plain_site c.args.site.now) (wire_values c.args.b.now env c.args.bits.now)) (held c.args.b.now env c.args.machine.now) c.if-site-token.true

pub returns-in_ok-run_last-in-Overwrite-clause-ran : goal.returns-in_ok-run_last-in-Overwrite-clause-ran
returns-in_ok-run_last-in-Overwrite-clause-ran c = λ env.
    let x = c.in-Overwrite in
    let last : Last = record { target = x.target; width = x.width; at_once = x.now; names = x.names; places = 0 } in
    c.in_ok-run_last-in-Overwrite.ensures.ran env
    ∙ site_here c.args.scope.now c.args.token x.module c.args.site.now last (wire_values c.args.b.now env c.args.bits.now) (held c.args.b.now env c.args.machine.now) x.is c.if-site-token.false
