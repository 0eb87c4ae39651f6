use Rattle.std.proofs.Common.{◌≤◌, refl, sym, subst, arith, length}
use Rattle.std.specs.Prelude.{vec_capacity}
use Rattle.rr_trail.specs.Tables.{Cleared}
use Rattle.rr_trail.proofs.TableLaws.{IsTables-cut, entries-take, length_entries}
use Rattle.rr_trail.proofs.assignment.Assignment.cut.Goals as goal

pub invariant_of-self : goal.invariant_of-self
invariant_of-self c =
    let o = c.self.inside in
    let le = subst (λ v. c.args.len ≤ length v.entries) (sym c.self.view_is) c.requires in
    let cleared = subst (λ ls. Cleared o.truths.items c.clear.new.truths.items ls c.args.len (length ls)) c.as_slice.ensures.value c.clear.ensures in
    let w = IsTables-cut o.truths.items c.clear.new.truths.items o.variables.items o.lits.items (vec_capacity o.lits) (vec_capacity c.truncate.new.self) c.args.len c.self.invariant (omega (arith, le, length_entries o.variables.items o.lits.items)) (omega (arith, c.truncate.ensures.capacity)) cleared in
    rw c.truncate.ensures.items w

pub returns : goal.returns
returns c = rw (← c.self.view_is) (rw (c.truncate.ensures.items, entries-take) refl)
