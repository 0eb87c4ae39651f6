use Rattle.std.proofs.Common.{ap, subst, sym}
use Rattle.rr_rounds.specs.Rounds.{IsRound}
use Rattle.rr_members.proofs.members.Members.advance.Goals.{then-not-has_ended+in_ok-play, else-not-has_ended}
use Rattle.rr_members.proofs.members.Members.advance.Goals as goal

pub returns-in-Ok-clause-ran : goal.returns-in-Ok-clause-ran
returns-in-Ok-clause-ran g c = λ none.
    let v = c.args.self.now in
    elim c.if-not-has_ended.branch [
      | then-not-has_ended+in_ok-play w ↦ subst (λ x. IsRound v.formula v.inputs c.args.steps v.state x.state) (sym w.self-is) w.in_ok-play.ensures.ran
      | else-not-has_ended w ↦ absurd (c.has_ended.ensures.ended w.if-not-has_ended.false none)
    ]

pub returns-in-Ok-clause-stays : goal.returns-in-Ok-clause-stays
returns-in-Ok-clause-stays g c = λ some.
    elim c.if-not-has_ended.branch [
      | then-not-has_ended+in_ok-play w ↦ absurd (some (c.has_ended.ensures.going w.if-not-has_ended.true))
      | else-not-has_ended w ↦ ap (λ x. x.state) w.self-is
    ]
