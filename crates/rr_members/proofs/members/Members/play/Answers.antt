use Rattle.std.proofs.Common.{rules, ◌≡◌, ◌∙◌, ◌+◌, false, ap, subst, arith}
use Rattle.rr_rounds.specs.Rounds.{IsRound}
use Rattle.rr_member.specs.Sharing.{state_of}
use Rattle.rr_members.specs.Groups.{EachRan}
use Rattle.rr_members.proofs.Rounding.{is_group, is_round, within_mid}
use Rattle.rr_members.proofs.members.Members.play.Goals as goal

pub hand_over-requires : goal.hand_over-requires
hand_over-requires g c =
    let i = c.self.inside in
    let going : i.failed ≡ false = ap (λ v. v.failed) c.self.view_is ∙ c.requires in
    let w = c.self.invariant going in
    let mid = c.in_ok-seats.seats.items in
    let old_is : c.replace-seats.result.items ≡ i.seats.items = search rules in
    let ran = subst (λ xs. EachRan c.args.steps i.round xs mid) old_is c.in_ok-seats.ensures in
    within_mid c.args.steps i.round i.count i.seats.items mid w ran

pub invariant_of-self-2 : goal.invariant_of-self-2
invariant_of-self-2 g c = λ q.
    let i = c.self.inside in
    let going : i.failed ≡ false = ap (λ v. v.failed) c.self.view_is ∙ c.requires in
    let w = c.self.invariant going in
    let mid = c.in_ok-seats.seats.items in
    let old_is : c.replace-seats.result.items ≡ i.seats.items = search rules in
    let ran = subst (λ xs. EachRan c.args.steps i.round xs mid) old_is c.in_ok-seats.ensures in
    let new = c.hand_over.new.seats.items in
    is_group c.args.steps i.round i.count i.seats.items mid w ran new c.in_ok-hand_over.ensures (omega (arith, c.if-self-ge-MOST_ROUND.false))

pub returns-clause-ran : goal.returns-clause-ran
returns-clause-ran g c =
    let i = c.self.inside in
    let going : i.failed ≡ false = ap (λ v. v.failed) c.self.view_is ∙ c.requires in
    let w = c.self.invariant going in
    let mid = c.in_ok-seats.seats.items in
    let old_is : c.replace-seats.result.items ≡ i.seats.items = search rules in
    let ran = subst (λ xs. EachRan c.args.steps i.round xs mid) old_is c.in_ok-seats.ensures in
    let new = c.hand_over.new.seats.items in
    subst (λ v. IsRound v.formula v.inputs c.args.steps v.state (state_of (i.round + 1) new)) c.self.view_is
    (is_round c.args.steps i.round i.count i.seats.items mid w ran new c.in_ok-hand_over.ensures)
