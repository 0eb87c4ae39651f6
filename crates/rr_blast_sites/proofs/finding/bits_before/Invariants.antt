use Rattle.std.proofs.Common.{◌≡◌, take}
use Rattle.rr_choice.specs.Choices.{total_bits}
use Rattle.rr_choice.specs.View.{plain_sites}
use Rattle.rr_blast_sites.proofs.finding.bits_before.Given as goal

abbrev pub invariant-loop-i : goal.invariant-loop-i
invariant-loop-i l = l.total ≡ total_bits (take l.i (plain_sites l.sites))
