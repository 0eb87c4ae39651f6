use Rattle.std.proofs.Common.{refl, rules}
use Rattle.rr_lint_names.specs.declared.noted.Key.{Key}
use Rattle.rr_lint_names.specs.contracts.noted.KeyPartialEq.TheImpl.{eq-value}
use Rattle.rr_lint_names.proofs.Noting.{added_mark}
use Rattle.rr_lint_names.proofs.noted.Noted.add.Goals as goal
use Rattle.rr_lint_names.proofs.noted.Noted.add.Goals.{in-Ok, in-Err}

pub returns : goal.returns
returns c =
    let key : Key = record { token = c.args.token; name = c.args.name } in
    elim c.match-insert.branch [
      | in-Ok w ↦ rw (w.result-is, ← c.self.view_is, w.in-Ok.ensures.keys) (λ t text. added_mark (eq-value).it (λ a b. refl) key c.self.inside.keys.keys t text)
      | in-Err w ↦ rw w.result-is (search rules)
    ]
