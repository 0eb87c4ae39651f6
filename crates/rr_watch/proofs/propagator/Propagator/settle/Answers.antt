use Rattle.std.proofs.Common.{sym, subst, refl}
use Rattle.rr_watch.specs.Lists.{SteppedIs, watching_at}
use Rattle.rr_watch.specs.declared.propagator.Propagator.{Propagator}
use Rattle.rr_watch.specs.declared.propagator.Step.TheVariants.{Kept}
use Rattle.rr_watch.proofs.AdvanceLaws.{served_more, served_next}
use Rattle.rr_watch.proofs.propagator.Propagator.settle.Goals as goal

pub returns-in-None-clause-stepped : goal.returns-in-None-clause-stepped
returns-in-None-clause-stepped c =
    let o = c.args.self.now in
    let q = c.args.falsified in
    let t = c.enforce.new.self.trail in
    let n : Propagator = record o { trail = t } in
    let g = c.enforce.ensures.advances.grown in
    let m = c.in-None.ensures.forced in
    subst (λ z. SteppedIs o z q c.args.at Kept) (sym c.enforce.ensures.state)
    (served_next n q c.args.at (λ i b. served_more o.trail.entries t.entries (watching_at o q i).clause g (c.requires.served i b)) (c.args.lit, (c.requires.forces.member, m)), refl)
