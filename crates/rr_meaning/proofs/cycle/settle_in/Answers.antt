use Rattle.std.proofs.Common.{◌≡◌, ◌∙◌, sym, ap, ap₂, subst, List, ℕ}
use Rattle.std.proofs.lemmas.Result.{on_ok_weaker}
use Rattle.rr_expr.specs.Scopes.{env_of}
use Rattle.rr_flat.specs.declared.design.Step.{Step}
use Rattle.rr_flat.specs.View.{plain_flat}
use Rattle.rr_cycle.specs.Cycles.{Settled}
use Rattle.rr_cycle.specs.Exec.{Environment}
use Rattle.rr_cycle.specs.Performing.{base, performed}
use Rattle.rr_cycle.proofs.Free.{free_inputs}
use Rattle.rr_cycle.proofs.Settled.{settles}
use Rattle.rr_meaning.specs.Work.{given_over, masked}
use Rattle.rr_meaning.proofs.Rows.{base_made, inputs_unwritten}
use Rattle.rr_meaning.proofs.cycle.settle_in.Goals as goal

pub returns-clause-settled : goal.returns-clause-settled
returns-clause-settled c =
    let F = plain_flat c.args.flat.now in
    let o = c.args.order.now in
    let e : Environment = env_of c.args.machine.now.env.values.items in
    let b : env_of c.give.new.values.items ≡ base F o.clock e c.args.row.now =
    c.give.ensures.env
    ∙ ap (λ (f : Environment). given_over F.signals c.as_slice-3.result.now c.args.row.now f) (c.mask.ensures.env ∙ ap₂ (λ (ms os : List ℕ). masked ms os e) c.as_slice.ensures.value c.as_slice-2.ensures.value)
    ∙ ap (λ (ids : List ℕ). given_over F.signals ids c.args.row.now (masked c.args.plan.now.registers.items c.args.plan.now.starts.items e)) (c.as_slice-3.ensures.value ∙ c.requires.inputs)
    ∙ base_made F o.clock c.args.row.now c.args.plan.now.registers.items c.args.plan.now.starts.items c.args.machine.now.env.values.items c.requires.registers c.requires.starts
    c.requires.above
    (inputs_unwritten F (λ b i x. free_inputs F c.requires.sound (c.requires.ordered.0, c.requires.ordered.1.0) b i x))
    (λ b h. c.requires.narrow b (c.requires.registers b ∙ h)) in
    on_ok_weaker c.perform_all.result
    (λ q. subst (Settled F o.clock e c.args.row.now)
    (sym (q ∙ ap (λ (ss : List Step). performed F ss (env_of c.give.new.values.items)) c.as_slice-4.ensures.value ∙ ap (performed F o.steps.items) b))
    (settles F o.clock o.rising o.steps.items c.requires.sound c.requires.ordered e c.args.row.now))
    c.perform_all.ensures.env
