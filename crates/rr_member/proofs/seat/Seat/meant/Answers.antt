use Rattle.std.proofs.Common.{◌∙◌, ap}
use Rattle.std.specs.Prelude.{Some}
use Rattle.rr_member.specs.Seats.{member_of}
use Rattle.rr_rounds.proofs.Joining.{meant_none, meant_own, meant_taken}
use Rattle.rr_member.proofs.seat.Seat.meant.Goals as goal

pub returns-in-Some : goal.returns-in-Some
returns-in-Some c =
    let f = c.in-Some.ensures.found in
    meant_own c.args.place (member_of c.args.self.now) c.requires c.in-Some.line c.args.id f.0 f.1

pub returns-in-Some-taken_with : goal.returns-in-Some-taken_with
returns-in-Some-taken_with c =
    let f = c.in-Some-taken_with.ensures.found in
    ap (λ p. Some p) c.origin.ensures ∙ meant_taken c.args.place (member_of c.args.self.now) c.requires c.in-Some-taken_with.index c.args.id f.0 f.1

pub returns-in-None-taken_with : goal.returns-in-None-taken_with
returns-in-None-taken_with c = meant_none c.args.place (member_of c.args.self.now) c.requires c.args.id c.in-None.ensures.none c.in-None-taken_with.ensures.none
