use Rattle.std.proofs.Common.{◌∙◌, ap, get_or}
use Rattle.rr_flat.specs.View.{Design}
use Rattle.rr_blast_stmt.specs.Running.{Values, held}
use Rattle.rr_blast_terms.specs.Choosing.{picks_of}
use Rattle.rr_blast_steps.proofs.DesignLaws.{act_block}
use Rattle.rr_blast_steps.proofs.steps.perform_block.Goals as goal

pub returns-clause-env : goal.returns-clause-env
returns-clause-env c = λ env.
    ap (λ (v : Values). v.now) (c.in_ok-run_block.ensures.ran env)
    ∙ act_block c.args.flat.now c.args.choice.now.sites.now (picks_of c.args.b.now env c.args.choice.now) c.args.number c.index-block.result.now (held c.args.b.now env c.args.machine.now) c.requires.number
    (c.index-block.ensures ∙ ap (λ (z : Design). get_or z.combinational c.args.number c.index-block.result.now) c.flat.view_is)
