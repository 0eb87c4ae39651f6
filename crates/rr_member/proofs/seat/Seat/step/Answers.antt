use Rattle.std.proofs.Common.{◌∙◌, ◌++◌, ◌∷◌, [], ap, subst, sym}
use Rattle.rr_solver.specs.Searches.{SteppedIs}
use Rattle.rr_member.specs.Seats.{Does}
use Rattle.rr_member.proofs.Sitting.{does_learn, does_refute, does_solve}
use Rattle.rr_member.proofs.seat.Seat.step.Goals as goal

pub returns-in-Learned-clause-does : goal.returns-in-Learned-clause-does
returns-in-Learned-clause-does c =
    let i = c.self.inside in
    let e = c.in_ok-stepped.ensures in
    let going = ap (λ v. v.search.status) c.self.view_is ∙ c.requires in
    let p = subst (SteppedIs i.solver c.conflict_step.new.self) c.in-Learned.is (e.running going) in
    subst (λ v. Does c.args.round v (record { search = c.conflict_step.new.self; rounds = c.push_reserved.new.self.items; origins = i.origins.items })) c.self.view_is
    (does_learn c.args.round i.solver c.conflict_step.new.self i.rounds.items i.origins.items i.stepped c.self.invariant going e.same c.push_reserved.new.self.items (c.push_reserved.ensures.items ∙ ap (λ x. x ++ c.args.round ∷ []) c.in_ok-reserve.ensures.items) p)

pub returns-in-Model-clause-does : goal.returns-in-Model-clause-does
returns-in-Model-clause-does c =
    let i = c.self.inside in
    let e = c.in_ok-stepped.ensures in
    let going = ap (λ v. v.search.status) c.self.view_is ∙ c.requires in
    let p = subst (SteppedIs i.solver c.conflict_step.new.self) c.in-Model.is (e.running going) in
    subst (λ v. Does c.args.round v (record { search = c.conflict_step.new.self; rounds = c.reserve.new.self.items; origins = i.origins.items })) c.self.view_is
    (subst (λ x. Does c.args.round (record { search = i.solver; rounds = i.rounds.items; origins = i.origins.items }) (record { search = c.conflict_step.new.self; rounds = x; origins = i.origins.items })) (sym c.in_ok-reserve.ensures.items)
    (does_solve c.args.round i.solver c.conflict_step.new.self i.rounds.items i.origins.items i.stepped c.self.invariant going e.same p))

pub returns-in-Refuted-clause-does : goal.returns-in-Refuted-clause-does
returns-in-Refuted-clause-does c =
    let i = c.self.inside in
    let e = c.in_ok-stepped.ensures in
    let going = ap (λ v. v.search.status) c.self.view_is ∙ c.requires in
    let p = subst (SteppedIs i.solver c.conflict_step.new.self) c.in-Refuted.is (e.running going) in
    subst (λ v. Does c.args.round v (record { search = c.conflict_step.new.self; rounds = c.reserve.new.self.items; origins = i.origins.items })) c.self.view_is
    (subst (λ x. Does c.args.round (record { search = i.solver; rounds = i.rounds.items; origins = i.origins.items }) (record { search = c.conflict_step.new.self; rounds = x; origins = i.origins.items })) (sym c.in_ok-reserve.ensures.items)
    (does_refute c.args.round i.solver c.conflict_step.new.self i.rounds.items i.origins.items i.stepped c.self.invariant going e.same p))
