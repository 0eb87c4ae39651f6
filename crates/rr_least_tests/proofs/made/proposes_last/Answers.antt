use Rattle.rr_least_tests.proofs.made.proposes_last.Goals as goal

pub propose-requires : goal.propose-requires
propose-requires g c = (c.type_bounds.sync-R, ((rw c.in-Some.is at c.in_ok-cycle.ensures) c.requires.fits.0 c.requires.fits.1).choice_bits)
