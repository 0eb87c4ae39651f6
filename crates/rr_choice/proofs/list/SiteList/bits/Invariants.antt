use Rattle.std.proofs.Common.{◌≡◌, ◌+◌, drop}
use Rattle.rr_choice.specs.Choices.{total_bits}
use Rattle.rr_choice.specs.View.{plain_sites}
use Rattle.rr_choice.proofs.list.SiteList.bits.Given as goal

abbrev pub invariant-loop-site : goal.invariant-loop-site
invariant-loop-site l = l.total + total_bits (plain_sites (drop l.site-index l.list)) ≡ total_bits (plain_sites l.list)
