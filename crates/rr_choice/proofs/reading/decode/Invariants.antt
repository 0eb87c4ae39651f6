use Rattle.std.proofs.Common.{◌≡◌, ◌+◌, ◌++◌, drop}
use Rattle.rr_choice.specs.Choices.{decode, total_bits}
use Rattle.rr_choice.specs.View.{plain_sites}
use Rattle.rr_choice.proofs.reading.decode.Given as goal

abbrev pub invariant-loop-site : goal.invariant-loop-site
invariant-loop-site l =
    (l.at + total_bits (plain_sites (drop l.site-index l.list)) ≡ total_bits (plain_sites l.list))
    × (decode (plain_sites l.list) l.bits ≡ l.picks.items ++ decode (plain_sites (drop l.site-index l.list)) (drop l.at l.bits))
