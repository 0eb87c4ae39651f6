use Rattle.rr_choice.specs.Places.{is_literal_at}
use Rattle.rr_choice.specs.View.{plain_site}
use Rattle.rr_blast_sites.proofs.SiteLaws.{switch_read}
use Rattle.rr_blast_sites.proofs.sites.literal_changes.Goals as goal

pub returns-in-Some-clause-value : goal.returns-in-Some-clause-value
returns-in-Some-clause-value c =
    switch_read c.args.b.now c.args.choice.now (is_literal_at c.args.token) c.args.list.now (plain_site c.in-Some.found.site) c.in-Some.found.at (record { 0 = 0 }) c.in-Some.ensures c.requires.room
