use Rattle.std.proofs.Common.{◌≡◌, sym, subst, arith, length}
use Rattle.std.specs.Prelude.{Contains, vec_capacity}
use Rattle.rr_cnf.specs.Clauses.{negated}
use Rattle.rr_trail.specs.Trails.{Standing, lits}
use Rattle.rr_trail.proofs.LevelLaws.{IsLevelled-force, few_levels, grew}
use Rattle.rr_trail.proofs.trail.Trail.force.Goals as goal

pub overflow_cast-level : goal.overflow_cast-level
overflow_cast-level c =
    let o = c.self.inside in
    let n = few_levels o.assignment o.starts.items (vec_capacity o.starts) c.self.invariant in
    omega (arith, n, c.self.invariant.few, c.self.invariant.most, o.starts.ok.0)

pub invariant_of-self : goal.invariant_of-self
invariant_of-self c =
    let o = c.self.inside in
    let l = c.args.lit in
    let p = subst (λ (v : Standing). Contains (lits v.entries) l → ⊥) (sym c.self.view_is) c.requires.not_true in
    let q = subst (λ (v : Standing). Contains (lits v.entries) (negated l) → ⊥) (sym c.self.view_is) c.requires.not_false in
    let few = grew o.assignment c.push.new.self _ c.push.ensures.state c.push.ensures.room in
    let level : c.len-level.result ≡ length o.starts.items = omega (arith, c.len-level.ensures, o.starts.ok.0) in
    rw (c.push.ensures.state, level) (IsLevelled-force o.assignment o.starts.items (vec_capacity o.starts) c.self.invariant l p q c.args.id few)

pub returns-clause-lawful : goal.returns-clause-lawful
returns-clause-lawful c =
    let o = c.self.inside in
    let l = c.args.lit in
    let p = subst (λ (v : Standing). Contains (lits v.entries) l → ⊥) (sym c.self.view_is) c.requires.not_true in
    let q = subst (λ (v : Standing). Contains (lits v.entries) (negated l) → ⊥) (sym c.self.view_is) c.requires.not_false in
    let few = grew o.assignment c.push.new.self _ c.push.ensures.state c.push.ensures.room in
    let level : c.len-level.result ≡ length o.starts.items = omega (arith, c.len-level.ensures, o.starts.ok.0) in
    rw (c.push.ensures.state, level) (IsLevelled-force o.assignment o.starts.items (vec_capacity o.starts) c.self.invariant l p q c.args.id few).lawful
