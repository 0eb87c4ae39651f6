use Rattle.std.proofs.Common.{◌≡◌, ◌-◌, drop}
use Rattle.rr_sites_listed.specs.Listing.{scope_of as scope_in}
use Rattle.rr_sites_listed.proofs.listing.scope_of.Given as goal

abbrev pub invariant-loop-i : goal.invariant-loop-i
invariant-loop-i l = scope_in (drop l.i l.scopes) (drop l.i l.owners) l.«module» ≡ scope_in l.scopes l.owners l.«module»

abbrev pub decreases-loop-i : goal.decreases-loop-i
decreases-loop-i l = l.end - l.i
