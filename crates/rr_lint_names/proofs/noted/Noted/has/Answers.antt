use Rattle.std.proofs.Common.{◌∙◌, refl}
use Rattle.rr_lint_names.specs.declared.noted.Key.{Key}
use Rattle.rr_lint_names.specs.contracts.noted.KeyPartialEq.TheImpl.{eq-value}
use Rattle.rr_lint_names.proofs.Noting.{has_mark}
use Rattle.rr_lint_names.proofs.noted.Noted.has.Goals as goal

pub returns : goal.returns
returns c =
    let key : Key = record { token = c.args.token; name = c.args.name } in
    rw (← c.self.view_is) (c.contains.ensures ∙ has_mark (eq-value).it (λ a b. refl) key c.self.inside.keys.keys)
