use Rattle.std.proofs.Common.{◌≡◌, ◌∙◌, sym, ap, true, is_some, rules, Some, None, refl, if◌then◌else◌}
use Rattle.std.specs.Map.{lookup as looked_up}
use Rattle.rr_vcd.specs.declared.places.Key.{Key}
use Rattle.rr_vcd.specs.contracts.places.KeyPartialEq.TheImpl.{eq-value}
use Rattle.rr_vcd.specs.View.{place_at}
use Rattle.rr_vcd.proofs.Scoping.{as_port, key_eq, same_place, some_map, stands_is, stays_placed, put_place, not_some}
use Rattle.rr_vcd.proofs.places.Places.add.Goals as goal
use Rattle.rr_vcd.proofs.places.Places.add.Goals.{in-Ok, in-Err}

pub returns-then-contains_key : goal.returns-then-contains_key
returns-then-contains_key c =
    let key : Key = record { scope = c.in-Some.scope; size = c.args.variable.size; name = c.bare_name.result } in
    let same = same_place (eq-value).it key_eq key c.self.inside.ids.entries in
    let there : is_some (place_at key.scope (as_port key) c.args.self.now) ≡ true =
    rw (← c.self.view_is) (ap is_some same ∙ (some_map (looked_up ((eq-value).it key) c.self.inside.ids.entries) ∙ (sym c.contains_key.ensures ∙ c.if-contains_key.true))) in
    λ s p. stays_placed key c.args.variable.id.now c.args.self.now there s p
    ∙ ap (λ b. if is_some (place_at s p c.args.self.now) then place_at s p c.args.self.now else if b then Some c.args.variable.id.now else None)
    (stands_is c.args.variable key c.in-Some.is c.bare_name.ensures refl s p)

pub returns : goal.returns
returns c =
    let key : Key = record { scope = c.in-Some.scope; size = c.args.variable.size; name = c.bare_name.result } in
    let none = not_some (looked_up ((eq-value).it key) c.self.inside.ids.entries) (sym c.contains_key.ensures ∙ c.if-contains_key.false) in
    elim c.match-insert.branch [
      | in-Ok w ↦ rw (w.result-is, ← c.self.view_is, w.in-Ok.ensures.entries)
          (λ s p. rw (← (stands_is c.args.variable key c.in-Some.is c.bare_name.ensures refl s p)) (put_place (eq-value).it key c.args.variable.id c.self.inside.ids.entries s p none))
      | in-Err w ↦ rw w.result-is (search rules)
    ]
