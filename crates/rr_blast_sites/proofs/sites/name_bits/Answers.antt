use Rattle.std.proofs.Common.{◌∙◌, ◌-◌, ap}
use Rattle.rr_choice.specs.View.{plain_site}
use Rattle.rr_blast_sites.proofs.SiteLaws.{name_bits_of}
use Rattle.rr_blast_sites.proofs.sites.name_bits.Goals as goal

pub returns : goal.returns
returns c = λ extent guard. c.saturating_sub.ensures ∙ ap (λ k. k - 4) c.site_bits.ensures.value ∙ name_bits_of (plain_site c.args.site.now).kind extent guard
