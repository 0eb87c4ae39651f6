use Rattle.rr_flat.specs.View.{plain_flat}
use Rattle.rr_signal_wires.specs.Words.{carried}
use Rattle.rr_blast_terms.specs.Choosing.{picks_of}
use Rattle.rr_blast_steps.proofs.CopyLaws.{next_of_two}
use Rattle.rr_signal_wires.proofs.WordLaws.{carried-extends}
use Rattle.rr_blast_terms.proofs.ChoiceLaws.{picks-extends}
use Rattle.rr_blast_steps.proofs.clocking.edge.Goals as goal

pub returns-clause-value : goal.returns-clause-value
returns-clause-value c = λ env.
    let x = c.in_ok-first.ensures in
    let y = c.in_ok-second.ensures in
    next_of_two (plain_flat c.args.flat.now) c.args.choice.now.sites.now (picks_of c.args.b.now env c.args.choice.now) _ (carried c.args.b.now env c.args.words.now) _ _ _ _
    (picks-extends c.args.b.now _ env c.args.choice.now x.extends c.requires.choice)
    (carried-extends c.args.b.now _ env c.args.words.now x.extends c.requires.words)
    (x.ran env) (y.ran env)
