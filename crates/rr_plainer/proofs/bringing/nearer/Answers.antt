use Rattle.std.proofs.Common.{◌≡◌, List, length, false, sym, subst}
use Rattle.rr_syntax.specs.declared.site.SiteKind.TheVariants as kind
use Rattle.rr_choice.proofs.BitsRead.{site_fits}
use Rattle.rr_choice.specs.Choices.{IsChoice}
use Rattle.rr_choice.specs.declared.pick.Pick.{Pick}
use Rattle.rr_instance_laws.proofs.DecodeLaws.{decoded_choice}
use Rattle.rr_plainer.proofs.bringing.nearer.Goals as goal

pub site_bits-requires : goal.site_bits-requires
site_bits-requires c = site_fits c.sites-each.result.now c.args.list.now c.loop-site.site-index (record { kind = kind.Literal 0 false; token = 0 }) c.sites-each.ensures.same c.sites-each.ensures.kept c.loop-site-test.true

pub returns : goal.returns
returns c = subst (λ (ps : List Pick). IsChoice c.args.list.now ps) (sym c.in_ok-choice.ensures) (decoded_choice c.args.list.now c.as_slice.result.now)
