use Rattle.std.proofs.Common.{rules, ◌≡◌, ◌<◌, ◌∙◌, ap, get_or, length, sym, subst, arith}
use Rattle.rr_rounds.specs.States.{learned}
use Rattle.rr_member.specs.Seats.{member_of, with_rounds}
use Rattle.rr_rounds.proofs.Lawful.{no_step}
use Rattle.rr_member.proofs.Sitting.{rounds_few, with_rounds_at, with_rounds_length}
use Rattle.rr_member.proofs.seat.Seat.clause.Goals as goal

pub clause_at-requires : goal.clause_at-requires
clause_at-requires c =
    let i = c.self.inside in
    let h = subst (λ v. c.args.line < length (with_rounds v.rounds v.search.lines)) (sym c.self.view_is) c.requires in
    let few = rounds_few i.solver i.rounds.items i.origins.items i.stepped c.self.invariant in
    let e = with_rounds_length i.rounds.items i.solver.lines few in
    let n : c.lines.result.now ≡ i.solver.lines = search rules in
    let m : length c.lines.result.now ≡ length i.solver.lines = ap length n in
    omega (arith, h, e, few, m)

pub returns : goal.returns
returns c =
    let i = c.self.inside in
    let h = subst (λ v. c.args.line < length (with_rounds v.rounds v.search.lines)) (sym c.self.view_is) c.requires in
    let few = rounds_few i.solver i.rounds.items i.origins.items i.stepped c.self.invariant in
    let e = with_rounds_length i.rounds.items i.solver.lines few in
    let l : c.args.line < length i.rounds.items = omega (arith, h, e) in
    let n : c.lines.result.now ≡ i.solver.lines = search rules in
    subst (λ v. c.clause_at.result.now ≡ (learned (member_of v) c.args.line).step.clause) c.self.view_is
    (c.clause_at.ensures no_step ∙ ap (λ ls. (get_or ls c.args.line no_step).clause) n ∙ sym (ap (λ x. x.step.clause) (with_rounds_at i.rounds.items i.solver.lines c.args.line _ no_step few l)))
