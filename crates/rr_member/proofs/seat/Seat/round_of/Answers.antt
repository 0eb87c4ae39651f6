use Rattle.std.proofs.Common.{◌≡◌, ◌<◌, ◌∙◌, ap, get_or, length, sym, subst, arith}
use Rattle.std.specs.Vec.{vec_len}
use Rattle.std.proofs.lemmas.List.{get_or_read}
use Rattle.rr_rounds.specs.States.{learned}
use Rattle.rr_member.specs.Seats.{member_of, with_rounds}
use Rattle.rr_rounds.proofs.Lawful.{no_step}
use Rattle.rr_member.proofs.Sitting.{rounds_few, with_rounds_at, with_rounds_length}
use Rattle.rr_member.proofs.seat.Seat.round_of.Goals as goal

pub index-requires : goal.index-requires
index-requires c =
    let i = c.self.inside in
    let h = subst (λ v. c.args.line < length (with_rounds v.rounds v.search.lines)) (sym c.self.view_is) c.requires in
    let e = with_rounds_length i.rounds.items i.solver.lines (rounds_few i.solver i.rounds.items i.origins.items i.stepped c.self.invariant) in
    let n : vec_len i.rounds ≡ length i.rounds.items = i.rounds.ok.0 in
    omega (arith, h, e, n)

pub returns : goal.returns
returns c =
    let i = c.self.inside in
    let h = subst (λ v. c.args.line < length (with_rounds v.rounds v.search.lines)) (sym c.self.view_is) c.requires in
    let few = rounds_few i.solver i.rounds.items i.origins.items i.stepped c.self.invariant in
    let e = with_rounds_length i.rounds.items i.solver.lines few in
    let l : c.args.line < length i.rounds.items = omega (arith, h, e) in
    let at : c.index.result.now ≡ get_or i.rounds.items c.args.line 0 = get_or_read i.rounds.items c.args.line c.index.result.now l c.index.ensures 0 in
    subst (λ v. c.index.result.now ≡ (learned (member_of v) c.args.line).round) c.self.view_is
    (at ∙ sym (ap (λ x. x.round) (with_rounds_at i.rounds.items i.solver.lines c.args.line _ no_step few l)))
