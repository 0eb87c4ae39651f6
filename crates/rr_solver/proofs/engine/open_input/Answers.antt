use Rattle.std.proofs.Common.{◌+◌, subst, arith}
use Rattle.std.specs.Prelude.{Contains, MatchOption, MatchBool}
use Rattle.rr_cnf.specs.Clauses.{Literal, negated}
use Rattle.rr_trail.specs.Trails.{lits}
use Rattle.rr_solver.proofs.Values.{assigned_from, up_one}
use Rattle.rr_solver.proofs.engine.open_input.Goals as goal

pub loop-index-preserved : goal.loop-index-preserved
loop-index-preserved c =
    let held = lits c.args.watch.now.trail in
    let m = subst (λ (l : Literal). MatchOption c.value.result ((Contains held l → ⊥) × (Contains held (negated l) → ⊥)) (λ x. MatchBool x (Contains held l) (Contains held (negated l)))) c.new-lit.ensures c.value.ensures in
    up_one held c.loop-index.index c.loop-index.invariant (assigned_from held (c.loop-index.index + 1) c.value.result c.is_none.result c.is_none.ensures c.if-is_none.false m)

pub returns : goal.returns
returns c = λ v low high. c.loop-index.invariant v low (omega (arith, c.loop-index-test.false))
