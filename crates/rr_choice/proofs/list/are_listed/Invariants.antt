use Rattle.std.proofs.Common.{drop}
use Rattle.rr_choice.specs.View.{plain_sites}
use Rattle.rr_choice.proofs.Listed.{Rising}
use Rattle.rr_choice.proofs.list.are_listed.Given as goal

abbrev pub invariant-loop-site : goal.invariant-loop-site
invariant-loop-site l = record {
  there : Rising 0 (plain_sites l.sites) → Rising l.last (plain_sites (drop l.site-index l.sites));
  back : Rising l.last (plain_sites (drop l.site-index l.sites)) → Rising 0 (plain_sites l.sites);
}
