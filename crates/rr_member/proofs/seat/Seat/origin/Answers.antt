use Rattle.std.proofs.Common.{◌≡◌, ◌<◌, ◌∙◌, ap, length, sym, subst, arith}
use Rattle.std.specs.Vec.{vec_len}
use Rattle.std.proofs.lemmas.List.{get_or_read}
use Rattle.rr_rounds.specs.States.{taken}
use Rattle.rr_member.specs.Seats.{member_of, place_of, with_origins}
use Rattle.rr_member.proofs.Sitting.{no_origin, taken_read}
use Rattle.rr_member.proofs.seat.Seat.origin.Goals as goal

pub index-origin-requires : goal.index-origin-requires
index-origin-requires c =
    let i = c.self.inside in
    let h = subst (λ v. c.args.index < length (with_origins v.origins v.search.handed)) (sym c.self.view_is) c.requires in
    let l = (taken_read i.solver i.rounds.items i.origins.items i.stepped c.self.invariant c.args.index h).0 in
    let n : vec_len i.origins ≡ length i.origins.items = i.origins.ok.0 in
    omega (arith, l, n)

pub returns : goal.returns
returns c =
    let i = c.self.inside in
    let h = subst (λ v. c.args.index < length (with_origins v.origins v.search.handed)) (sym c.self.view_is) c.requires in
    let r = taken_read i.solver i.rounds.items i.origins.items i.stepped c.self.invariant c.args.index h in
    subst (λ v. place_of c.index-origin.result.now ≡ (taken (member_of v) c.args.index).origin) c.self.view_is
    (ap place_of (get_or_read i.origins.items c.args.index c.index-origin.result.now r.0 c.index-origin.ensures no_origin) ∙ sym r.1.0)
