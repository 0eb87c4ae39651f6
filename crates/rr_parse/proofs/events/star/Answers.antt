use Rattle.std.proofs.Common.{Err, rules, ◌≡◌}
use Rattle.rr_grammar.specs.Parts.{star_closed}
use Rattle.rr_parse.proofs.Founds.{expect_then, lacks, mapped_none, other_mark}
use Rattle.rr_parse.proofs.MadeEvents.{made_star}
use Rattle.rr_parse.proofs.events.star.Goals as goal

pub returns-in_err-star : goal.returns-in_err-star
returns-in_err-star c =
    let q : c.from_residual.result ≡ Err c.in_err-star.field-0.0 = search rules in
    rw q (lacks star_closed c.args.input.tokens.now c.args.from _ _ c.in_err-star.field-0.0 (λ h. record { none_is = (mapped_none _ (other_mark _ _ _ h)) }) c.in_err-star.ensures)

pub returns-in_err-next : goal.returns-in_err-next
returns-in_err-next c =
    let q : c.from_residual-in_err-next.result ≡ Err c.in_err-next.field-0.0 = search rules in
    rw q (lacks star_closed c.args.input.tokens.now c.args.from _ _ c.in_err-next.field-0.0 (λ h. record { none_is = (mapped_none _ (expect_then _ _ _ _ _ c.in_ok-star.ensures (other_mark _ _ _ h))) }) c.in_err-next.ensures)

pub returns : goal.returns
returns c = made_star c.in_ok-star.ensures c.in_ok-next.ensures
