use Rattle.std.proofs.Common.{◌≡◌, drop}
use Rattle.rr_sites_listed.specs.Listing.{scope_of}
use Rattle.rr_template_tests.proofs.designs.first_scope.Given as goal

abbrev pub invariant-loop-i : goal.invariant-loop-i
invariant-loop-i l = scope_of (drop l.i l.scopes) (drop l.i l.owners) l.«module» ≡ scope_of l.scopes l.owners l.«module»
