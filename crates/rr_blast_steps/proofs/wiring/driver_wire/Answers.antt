use Rattle.std.proofs.Common.{◌≡◌, ◌∙◌, sym, ap, false, get_or}
use Rattle.rr_syntax.specs.View.{plain}
use Rattle.rr_expr.specs.Scopes.{Names}
use Rattle.rr_expr.specs.Values.{own}
use Rattle.rr_flat.specs.View.{Design, plain_flat, plain_side}
use Rattle.rr_flat.specs.Writers.{scope_at}
use Rattle.rr_instance.specs.Instances.{instance_tree}
use Rattle.rr_blast_terms.specs.Choosing.{picks_of}
use Rattle.rr_signal_wires.specs.Words.{carried}
use Rattle.rr_meaning.proofs.Scoping.{scope_read}
use Rattle.rr_blast_steps.proofs.PartLaws.{joined_side}
use Rattle.rr_blast_steps.proofs.wiring.driver_wire.Goals as goal

pub returns-in_ok-wire-in-Text-clause-value : goal.returns-in_ok-wire-in-Text-clause-value
returns-in_ok-wire-in-Text-clause-value c = λ env.
    let d : Design = c.args.flat.now in
    let r = rw c.in-Text.is at c.requires.driver.value in
    let x : c.index-scope.result.now ≡ scope_at (plain_flat d) c.in-Text.scope = scope_read d c.in-Text.scope c.index-scope.result.now c.flat.inside.scopes.items r.0 c.index-scope.ensures (ap (λ (z : Design). z.scopes) c.flat.view_is) in
    c.in_ok-wire-in-Text.ensures.value env
    ∙ ap (λ (s : Names). get_or (own s (instance_tree c.args.choice.now.sites.now (picks_of c.args.b.now env c.args.choice.now) (plain c.in-Text.expr.now)) (carried c.args.b.now env c.args.words.now)) c.args.place false) x
    ∙ rw c.in-Text.is (joined_side (plain_flat d) c.args.choice.now.sites.now (picks_of c.args.b.now env c.args.choice.now) (plain_side c.args.driver.now.target) (plain c.in-Text.expr.now) c.in-Text.scope c.args.driver.now.token c.args.place (carried c.args.b.now env c.args.words.now) (sym c.is_concatenation.ensures ∙ c.if-is_concatenation.true))
