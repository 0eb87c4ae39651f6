use Rattle.std.proofs.Common.{◌≡◌, ◌+◌, ◌∙◌, ◌++◌, length, ap, sym, arith}
use Rattle.rr_rounds.specs.Joined.{flat, lines_in, of_round}
use Rattle.rr_member.specs.Seats.{member_of}
use Rattle.rr_member.specs.Sharing.{seat, state_of}
use Rattle.rr_rounds.proofs.Flat.{flat_more}
use Rattle.rr_member.proofs.Handing.{round_is}
use Rattle.rr_members.proofs.join.order_of.Goals as goal

pub loop-round-preserved : goal.loop-round-preserved
loop-round-preserved c =
    let seats = c.args.seats.now in
    let r = c.loop-round.round in
    let f = of_round (state_of c.args.last seats) in
    c.in_ok-push_round.ensures
    ∙ ap (λ xs. xs ++ flat (length seats) (λ i. lines_in r i (member_of (seat seats i)))) c.loop-round.invariant
    ∙ ap (λ ys. flat r f ++ ys) (round_is c.args.last r seats)
    ∙ sym (flat_more f r)

pub returns : goal.returns
returns c =
    let f = of_round (state_of c.args.last c.args.seats.now) in
    let end : c.loop-round.round ≡ c.args.last + 1 = omega (arith, c.loop-round-test.false, c.loop-round.auto.round-end) in
    c.loop-round.invariant ∙ ap (λ n. flat n f) end ∙ flat_more f c.args.last
