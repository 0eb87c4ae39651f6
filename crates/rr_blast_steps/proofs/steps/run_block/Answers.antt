use Rattle.std.proofs.Common.{◌≡◌, ◌∙◌, sym, ap, subst}
use Rattle.rr_syntax.specs.View.{plain_statement}
use Rattle.rr_expr.specs.Scopes.{Names}
use Rattle.rr_flat.specs.View.{Design, plain_flat}
use Rattle.rr_flat.specs.Writers.{scope_at}
use Rattle.rr_signal_wires.specs.Words.{widths_of}
use Rattle.rr_blast_steps.specs.Designs.{signal_widths}
use Rattle.rr_blast_body.specs.Overwrites.{body_instance}
use Rattle.rr_blast_stmt.specs.Running.{held, ran}
use Rattle.rr_blast_terms.specs.Choosing.{picks_of}
use Rattle.rr_blast_stmt.proofs.ArmLaws.{holds_again, machine_again}
use Rattle.rr_meaning.proofs.Scoping.{IsSound, scope_is, scope_read}
use Rattle.rr_blast_steps.proofs.DesignLaws.{narrow_widths, scope_holds}
use Rattle.rr_blast_steps.proofs.steps.run_block.Goals as goal

pub execute_body-requires : goal.execute_body-requires
execute_body-requires c =
    let d : Design = c.args.flat.now in
    let f : IsSound d = subst IsSound c.flat.view_is c.flat.invariant in
    let y : c.index-scope.result.now ≡ scope_at (plain_flat d) c.args.block.now.scope =
    scope_read d c.args.block.now.scope c.index-scope.result.now c.flat.inside.scopes.items c.requires.block.there c.index-scope.ensures (ap (λ (z : Design). z.scopes) c.flat.view_is) in
    record {
      shaped = rw y c.requires.block.body.shaped;
      choice = c.requires.choice;
      machine = machine_again c.args.b.now (signal_widths d.signals) c.args.machine.now c.requires.machine;
      holds = holds_again c.index-scope.result.now c.args.b.now (signal_widths d.signals) c.args.machine.now c.requires.machine (scope_holds d c.index-scope.result.now f (scope_is d c.args.block.now.scope c.index-scope.result.now f c.requires.block.there y));
      narrow = narrow_widths d f (widths_of c.args.machine.now.now.items) c.requires.machine.now_widths;
    }

pub returns-clause-machine : goal.returns-clause-machine
returns-clause-machine c = rw (sym c.requires.machine.now_widths) c.in_ok-execute_body.ensures.machine

pub returns-clause-ran : goal.returns-clause-ran
returns-clause-ran c = λ env.
    let d : Design = c.args.flat.now in
    let f : IsSound d = subst IsSound c.flat.view_is c.flat.invariant in
    let y : c.index-scope.result.now ≡ scope_at (plain_flat d) c.args.block.now.scope =
    scope_read d c.args.block.now.scope c.index-scope.result.now c.flat.inside.scopes.items c.requires.block.there c.index-scope.ensures (ap (λ (z : Design). z.scopes) c.flat.view_is) in
    c.in_ok-execute_body.ensures.ran env
    ∙ ap (λ (s : Names). ran s (body_instance c.args.choice.now.sites.now (picks_of c.args.b.now env c.args.choice.now) (plain_statement c.args.block.now.body.now)) (held c.args.b.now env c.args.machine.now)) y
