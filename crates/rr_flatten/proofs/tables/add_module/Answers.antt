use Rattle.std.proofs.Common.{◌≡◌, ◌∙◌, sym, ap, is_some, false}
use Rattle.rr_expr.specs.Scopes.{lookup}
use Rattle.rr_flatten.proofs.TableLemmas.{grown_by_one}
use Rattle.rr_flatten.proofs.tables.add_module.Goals as goal

pub returns-clause-grown : goal.returns-clause-grown
returns-clause-grown c =
    let gone : is_some (lookup c.args.own.now.name.now c.args.table.now) ≡ false = ap is_some (sym c.find.ensures) ∙ (sym c.is_some.ensures ∙ c.if-is_some.false) in
    rw c.in_ok-put_place.ensures (grown_by_one c.args.table.now c.args.own.now.name.now _ gone)
