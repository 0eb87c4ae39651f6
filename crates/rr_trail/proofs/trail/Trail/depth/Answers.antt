use Rattle.std.proofs.Common.{arith}
use Rattle.std.specs.Prelude.{vec_capacity}
use Rattle.rr_trail.proofs.LevelLaws.{few_levels}
use Rattle.rr_trail.proofs.trail.Trail.depth.Goals as goal

pub overflow_cast-result : goal.overflow_cast-result
overflow_cast-result c =
    let o = c.self.inside in
    let n = few_levels o.assignment o.starts.items (vec_capacity o.starts) c.self.invariant in
    omega (arith, n, c.self.invariant.few, c.self.invariant.most, o.starts.ok.0)
