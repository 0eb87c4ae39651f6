use Rattle.std.proofs.Common.{ap, sym, ◌∙◌, arith}
use Rattle.rr_choice.specs.Choices.{total_bits}
use Rattle.rr_blast_sites.proofs.FindLaws.{found_nowhere, found_in}
use Rattle.rr_blast_sites.proofs.GrowthLaws.{listed_still, listed_all}
use Rattle.rr_blast_sites.proofs.finding.site_in.Goals as goal

pub returns-then-inputs : goal.returns-then-inputs
returns-then-inputs c = found_nowhere _ _ (listed_still c.args.inputs.now c.if-inputs.true)

pub site_at-requires : goal.site_at-requires
site_at-requires c = let e = ap total_bits (listed_all c.args.inputs.now c.if-inputs.false) in omega (arith, e, c.requires)

pub returns : goal.returns
returns c = found_in _ _ _ _ (listed_all c.args.inputs.now c.if-inputs.false) c.site_at.ensures
