use Rattle.std.proofs.Common.{◌∙◌, sym, ap, Bool, ℕ, List, cond}
use Rattle.rr_syntax.specs.Tree.{Statement}
use Rattle.rr_syntax.specs.View.{plain_statement}
use Rattle.rr_choice.specs.declared.pick.Pick.{Pick}
use Rattle.rr_instance.specs.Firsts.{first_token}
use Rattle.rr_instance.specs.Instances.{instance_statement}
use Rattle.rr_blast_body.specs.Overwrites.{sites_ran}
use Rattle.rr_blast_stmt.specs.Running.{Values, held, ran}
use Rattle.rr_signal_wires.specs.Words.{widths_of}
use Rattle.rr_blast_terms.specs.Choosing.{picks_of}
use Rattle.rr_blast_stmt.proofs.ArmLaws.{holds_again, machine_again}
use Rattle.rr_blast_body.proofs.OverwriteLaws.{ran_bodies}
use Rattle.rr_blast_terms.proofs.ChoiceLaws.{ready-extends, picks-extends}
use Rattle.rr_blast_body.proofs.bodies.execute_body.Goals as goal

pub run_sites-requires : goal.run_sites-requires
run_sites-requires c =
    let w : List ℕ = widths_of c.args.machine.now.now.items in
    let x = c.in_ok-execute.ensures in
    record {
      choice = ready-extends c.args.b.now c.execute.new.b c.args.choice.now x.extends c.requires.choice;
      machine = machine_again c.execute.new.b w c.execute.new.machine x.machine;
      holds = holds_again c.args.scope.now c.execute.new.b w c.execute.new.machine x.machine c.requires.holds;
      narrow = rw x.machine.now_widths c.requires.narrow;
    }

pub returns-clause-machine : goal.returns-clause-machine
returns-clause-machine c = rw (sym c.in_ok-execute.ensures.machine.now_widths) c.in_ok-run_sites.ensures.machine

pub returns-clause-ran : goal.returns-clause-ran
returns-clause-ran c = λ env.
    let ss = c.args.choice.now.sites.now in
    let ps : List Pick = picks_of c.args.b.now env c.args.choice.now in
    let t : Statement = plain_statement c.args.stmt.now in
    let v : Values = held c.args.b.now env c.args.machine.now in
    c.in_ok-run_sites.ensures.ran env
    ∙ ap (λ (qs : List Pick). sites_ran c.args.scope.now (first_token t) ss qs (held c.execute.new.b env c.execute.new.machine)) (picks-extends c.args.b.now c.execute.new.b env c.args.choice.now c.in_ok-execute.ensures.extends c.requires.choice)
    ∙ ap (sites_ran c.args.scope.now (first_token t) ss ps)
    (c.in_ok-execute.ensures.ran env ∙ ap (λ (g : Bool). cond g (ran c.args.scope.now (instance_statement ss ps t) v) v) (c.constant-always.ensures.value env))
    ∙ sym (ran_bodies c.args.scope.now (first_token t) ss ps (instance_statement ss ps t) v)
