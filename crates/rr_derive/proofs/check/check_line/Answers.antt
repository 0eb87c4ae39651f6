use Rattle.std.proofs.Common.{◌≡◌, ◌∙◌, ◌↔◌, ap, take, true}
use Rattle.rr_derive.specs.Derive.{Names, Passes}
use Rattle.rr_derive.proofs.DeriveLaws.{PassesAt-iff}
use Rattle.rr_derive.proofs.check.check_line.Goals as goal

pub returns-clause-result : goal.returns-clause-result
returns-clause-result c =
    let lines = c.args.journal.now.lines in
    let s = c.index-lines-index.result in
    let cs = c.args.formula.now.clauses in
    let clause : c.lits.result.now ≡ s.clause = c.lits.ensures ∙ ap (λ x. x.clause) c.line.view_is in
    let hints : c.as_slice.result.now ≡ s.hints = c.as_slice.ensures.value ∙ ap (λ x. x.hints) c.line.view_is in
    let p : (c.passes.result ≡ true) ↔ Passes (Names cs (take c.args.index lines)) s.clause s.hints = rw (← clause, ← hints, ← c.lines-lines.ensures.lines) c.passes.ensures.result in
    PassesAt-iff cs lines c.args.index s c.requires.index (rw (← c.lines-lines.ensures.lines) c.index-lines-index.is) c.passes.result p
