use Rattle.std.proofs.Common.{◌-◌, length}
use Rattle.rr_blast_sites.specs.Finding.{extent_of}
use Rattle.rr_blast_sites.proofs.FindLaws.{Missed}
use Rattle.rr_blast_sites.proofs.finding.site_at.Given as goal

abbrev pub invariant-loop-i : goal.invariant-loop-i
invariant-loop-i l = Missed (extent_of l.sought) l.token l.sites l.initial.i l.i

abbrev pub decreases-loop-i : goal.decreases-loop-i
decreases-loop-i l = length l.sites - l.i
