use Rattle.std.proofs.Common.{Err, rules, sym, subst, ◌≡◌}
use Rattle.rr_syntax.specs.declared.tree.Source.{Source}
use Rattle.rr_parse.specs.Exact.{IsSpelled}
use Rattle.rr_parse.proofs.Sources.{missed_source, not_in_full, spelled_source}
use Rattle.rr_parse.proofs.source.whole.Goals as goal

pub returns-in_err-found : goal.returns-in_err-found
returns-in_err-found c =
    let q : c.from_residual.result ≡ Err c.in_err-found.field-0.0 = search rules in
    rw q (missed_source c.args.tokens.now c.in_err-found.field-0.0 c.in_err-found.ensures)

pub returns-then-found-tokens : goal.returns-then-found-tokens
returns-then-found-tokens c = not_in_full c.args.tokens.now _ c.in_ok-found.found.next c.if-found-tokens.true c.in_ok-found.ensures

pub returns-in-Ok : goal.returns-in-Ok
returns-in-Ok c = subst (λ (s : Source). IsSpelled c.args.tokens.now s) (sym c.in-Ok.ensures) (spelled_source c.args.tokens.now (record { modules = c.in_ok-found.found.value }) c.in_ok-found.found.next c.if-found-tokens.false c.in_ok-found.ensures)
