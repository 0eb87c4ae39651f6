use Rattle.std.proofs.Common.{List, All, arith, subst, sym}
use Rattle.std.proofs.lemmas.List.Elements.{All-map}
use Rattle.rr_choice.specs.declared.pick.Choice.{Choice}
use Rattle.rr_choice.specs.Choices.{IsChoice}
use Rattle.rr_search.proofs.Tasks.{task_stands}
use Rattle.rr_least_tests.proofs.found.searched.Goals as goal

pub propose-requires : goal.propose-requires
propose-requires g c = (c.type_bounds.sync-R, ((rw c.in-Some.is at c.in_ok-cycle.ensures) c.requires.fits.0 c.requires.fits.1).choice_bits)

pub least-requires-clause-task : goal.least-requires-clause-task
least-requires-clause-task g c κs within =
    task_stands _ c.requires.fits.0 ((rw c.in-Some.is at c.in_ok-cycle.ensures) c.requires.fits.0 c.requires.fits.1) (omega arith) (omega arith) (omega arith)

pub least-requires-clause-proposals : goal.least-requires-clause-proposals
least-requires-clause-proposals g c κs within =
    All-map (IsChoice c.args.list.now) (λ (x : Choice). x.picks.items) c.as_slice.result.now
    (subst (λ (xs : List Choice). All (λ (x : Choice). IsChoice c.args.list.now x.picks.items) xs) (sym c.as_slice.ensures.value) c.in_ok-proposed.ensures)
