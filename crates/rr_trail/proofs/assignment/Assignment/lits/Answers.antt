use Rattle.std.proofs.Common.{◌∙◌, ◌≤◌, length, subst}
use Rattle.std.specs.Prelude.{vec_capacity}
use Rattle.rr_trail.proofs.TableLaws.{held_is, room_at}
use Rattle.rr_trail.proofs.assignment.Assignment.lits.Goals as goal

pub returns-clause-lits : goal.returns-clause-lits
returns-clause-lits c = c.as_slice.ensures.value ∙ held_is c.self.inside.variables.items c.self.inside.lits.items _ c.self.view_is

pub returns-clause-room : goal.returns-clause-room
returns-clause-room c =
    let o = c.self.inside in
    subst (λ v. length v.entries ≤ v.vars) c.self.view_is (room_at o.truths.items o.variables.items o.lits.items (vec_capacity o.lits) c.self.invariant)
