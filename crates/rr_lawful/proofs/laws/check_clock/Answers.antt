use Rattle.std.proofs.Common.{option_map, subst}
use Rattle.rr_flat.specs.View.{plain_flat}
use Rattle.rr_clock.specs.Clock.{IsOne}
use Rattle.rr_lawful.proofs.Denied.{clock_denies}
use Rattle.rr_lawful.proofs.laws.check_clock.Goals as goal

pub returns-in-Clock-clause-denied : goal.returns-in-Clock-clause-denied
returns-in-Clock-clause-denied c =
    let F = plain_flat c.args.flat.now in
    let W = option_map (λ w. w.now) c.args.word in
    clock_denies F W c.in-Clock.signal c.in-Clock.rising c.check_uses.result (subst (IsOne F W) c.in-Clock.is c.in_ok-token.ensures.one) c.check_uses.ensures.denied
