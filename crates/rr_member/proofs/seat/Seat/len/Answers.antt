use Rattle.std.proofs.Common.{rules, ◌≡◌, ◌∙◌, length, sym, subst}
use Rattle.rr_member.specs.Seats.{with_rounds}
use Rattle.rr_member.proofs.Sitting.{rounds_few, with_rounds_length}
use Rattle.rr_member.proofs.seat.Seat.len.Goals as goal

pub returns : goal.returns
returns c =
    let i = c.self.inside in
    let n : c.len.result ≡ length i.rounds.items = search rules in
    subst (λ v. c.len.result ≡ length (with_rounds v.rounds v.search.lines)) c.self.view_is
    (n ∙ sym (with_rounds_length i.rounds.items i.solver.lines (rounds_few i.solver i.rounds.items i.origins.items i.stepped c.self.invariant)))
