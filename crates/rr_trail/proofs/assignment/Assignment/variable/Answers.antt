use Rattle.std.proofs.Common.{◌≡◌, ◌<◌, ℕ, subst, arith, length}
use Rattle.rr_trail.specs.Trails.{entry}
use Rattle.rr_trail.proofs.TableLaws.{level_at, place_at, reason_at, within_in}
use Rattle.rr_trail.proofs.assignment.Assignment.variable.Goals as goal

pub returns-clause-level : goal.returns-clause-level
returns-clause-level c =
    let o = c.self.inside in
    let within = within_in o.variables.items o.lits.items _ c.self.view_is c.args.lit c.requires in
    let inside : c.args.lit.var < length o.variables.items = omega (arith, within.0, within.1, c.self.invariant.some) in
    subst (λ v. (k : ℕ) → k < length v.entries → (entry v.entries k).lit.var ≡ c.args.lit.var → (entry v.entries k).level ≡ c.index.result.now.level) c.self.view_is
    (λ k h e. level_at o.variables.items o.lits.items k c.args.lit.var h e c.index.result.now inside (rw (← c.var.ensures.value) c.index.ensures))

pub returns-clause-place : goal.returns-clause-place
returns-clause-place c =
    let o = c.self.inside in
    let within = within_in o.variables.items o.lits.items _ c.self.view_is c.args.lit c.requires in
    let inside : c.args.lit.var < length o.variables.items = omega (arith, within.0, within.1, c.self.invariant.some) in
    subst (λ v. (k : ℕ) → k < length v.entries → (entry v.entries k).lit.var ≡ c.args.lit.var → c.index.result.now.place ≡ k) c.self.view_is
    (λ k h e. place_at o.variables.items o.lits.items k c.args.lit.var h e c.index.result.now inside (rw (← c.var.ensures.value) c.index.ensures) c.self.invariant.placed)

pub returns-clause-reason : goal.returns-clause-reason
returns-clause-reason c =
    let o = c.self.inside in
    let within = within_in o.variables.items o.lits.items _ c.self.view_is c.args.lit c.requires in
    let inside : c.args.lit.var < length o.variables.items = omega (arith, within.0, within.1, c.self.invariant.some) in
    subst (λ v. (k : ℕ) → k < length v.entries → (entry v.entries k).lit.var ≡ c.args.lit.var → (entry v.entries k).reason ≡ c.index.result.now.reason) c.self.view_is
    (λ k h e. reason_at o.variables.items o.lits.items k c.args.lit.var h e c.index.result.now inside (rw (← c.var.ensures.value) c.index.ensures))
