use Rattle.std.proofs.Common.{◌+◌, ap, ◌∙◌}
use Rattle.std.proofs.lemmas.List.{length_push}
use Rattle.rr_trail.specs.Trails.{lits}
use Rattle.rr_solver.proofs.Values.{Agrees-push}
use Rattle.rr_solver.proofs.engine.bits_of.Goals as goal

pub loop-index-preserved : goal.loop-index-preserved
loop-index-preserved c =
    let i = c.loop-index.invariant in
    let a = Agrees-push c.loop-index.bits.items c.loop-index.index (lits c.args.watch.now.trail) c.is_true.result i.long i.agrees c.is_true.ensures.positive c.is_true.ensures.negative in
    rw c.in_ok-push-2.ensures.items (record { long = length_push c.loop-index.bits.items c.is_true.result ∙ ap (λ n. n + 1) i.long; agrees = a })
