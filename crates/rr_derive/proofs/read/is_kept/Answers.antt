use Rattle.std.proofs.Common.{◌≡◌, ◌≤◌, ◌∙◌, ap, arith, subst}
use Rattle.std.specs.List.{AllByRecursion}
use Rattle.std.specs.Prelude.{MatchBool}
use Rattle.rr_derive.specs.Derive.{IsNoTautology, Step}
use Rattle.rr_derive.specs.Lrat.{HasBothSigns}
use Rattle.rr_derive.proofs.LratText.{kept_of}
use Rattle.rr_derive.proofs.read.is_kept.Goals as goal

pub returns : goal.returns
returns c =
    let clause : c.lits-clause.result.now ≡ c.args.line.now.clause = c.lits-clause.ensures ∙ ap (λ (s : Step). s.clause) c.line.view_is in
    let id : c.line.inside.id ≡ c.args.line.now.id = ap (λ (s : Step). s.id) c.line.view_is in
    kept_of _ _ _ _ (omega (arith, id, c.if-line-last.false)) (subst (AllByRecursion (λ l. l.var ≤ c.args.vars)) clause c.if-variable_above.ensures)
    (subst (λ x. MatchBool c.in_ok-is_tautology.field-0 (HasBothSigns x) (IsNoTautology x)) clause c.in_ok-is_tautology.ensures)
