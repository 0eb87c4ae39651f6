use Rattle.std.proofs.Common.{◌≡◌, ◌∙◌, sym, ap, true, false, not, is_some, rules}
use Rattle.std.specs.Map.{lookup as looked_up}
use Rattle.std.specs.Str.{bytes_eq}
use Rattle.rr_expr.specs.Scopes.{lookup}
use Rattle.rr_expr.proofs.Names.{added_last, none_of, same_lookup}
use Rattle.rr_expr.proofs.scope.Scope.add.Goals as goal
use Rattle.rr_expr.proofs.scope.Scope.add.Goals.{in-Ok, in-Err}

pub returns-then-contains_key-clause-was_new : goal.returns-then-contains_key-clause-was_new
returns-then-contains_key-clause-was_new c =
    let same = same_lookup c.args.name.now c.self.inside.names.entries in
    let there : is_some (lookup c.args.name.now c.args.self.now) ≡ true = rw (← c.self.view_is) (ap is_some same ∙ (sym c.contains_key.ensures ∙ c.if-contains_key.true)) in
    sym (ap not there)

pub returns-clause-was_new : goal.returns-clause-was_new
returns-clause-was_new c =
    let same = same_lookup c.args.name.now c.self.inside.names.entries in
    let gone : is_some (lookup c.args.name.now c.args.self.now) ≡ false = rw (← c.self.view_is) (ap is_some same ∙ (sym c.contains_key.ensures ∙ c.if-contains_key.false)) in
    elim c.match-insert.branch [
      | in-Ok w ↦ rw w.result-is (sym (ap not gone))
      | in-Err w ↦ rw w.result-is (search rules)
    ]

pub returns-clause-added : goal.returns-clause-added
returns-clause-added c =
    let none = none_of (looked_up (λ k. bytes_eq c.args.name.now k.now) c.self.inside.names.entries) (sym c.contains_key.ensures ∙ c.if-contains_key.false) in
    let last = added_last c.args.name c.args.entity c.self.inside.names.entries none in
    elim c.match-insert.branch [
      | in-Ok w ↦ rw (w.result-is, ← c.self.view_is, w.in-Ok.ensures.entries) last
      | in-Err w ↦ rw w.result-is (search rules)
    ]
