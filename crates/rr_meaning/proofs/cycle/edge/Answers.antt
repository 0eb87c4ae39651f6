use Rattle.std.proofs.Common.{◌≡◌, ◌∙◌, sym, ap, subst, List}
use Rattle.rr_expr.specs.Scopes.{env_of}
use Rattle.rr_flat.specs.View.{plain_flat}
use Rattle.rr_cycle.specs.Cycles.{IsNext}
use Rattle.rr_cycle.specs.Exec.{Environment, Update, applied}
use Rattle.rr_cycle.specs.Performing.{run_blocks, updates_of_blocks}
use Rattle.rr_cycle.proofs.Settled.{next_is}
use Rattle.rr_exec.specs.declared.writes.Later.{Later}
use Rattle.rr_exec.specs.Work.{updates_in}
use Rattle.rr_exec.proofs.Nodes.{none_applied}
use Rattle.rr_meaning.proofs.cycle.edge.Goals as goal

pub returns-clause-next : goal.returns-clause-next
returns-clause-next c =
    let F = plain_flat c.args.flat.now in
    let e : Environment = env_of c.args.machine.now.env.values.items in
    let us : List Update = updates_of_blocks F F.clocked e in
    let m : Environment = env_of c.run_all.new.machine.env.values.items in
    let q : env_of c.apply.new.values.items ≡ applied us (run_blocks F F.clocked e) =
    c.apply.ensures.env ∙ ap (λ (ls : List Later). applied (updates_in ls) m) c.as_slice.ensures.value
    ∙ c.in_ok-run_all.ensures.later m
    ∙ ap (λ (ls : List Later). applied us (applied (updates_in ls) m)) c.clear.ensures.items
    ∙ ap (applied us) (none_applied m) ∙ ap (applied us) c.in_ok-run_all.ensures.env in
    subst (IsNext F e) (sym q) (next_is F c.requires.sound c.requires.lawful e)
