use Rattle.std.proofs.Common.{◌∙◌, sym, ap, option_map}
use Rattle.rr_vcd.specs.declared.places.Key.{Key}
use Rattle.rr_vcd.specs.contracts.places.KeyPartialEq.TheImpl.{eq-value}
use Rattle.rr_vcd.proofs.Scoping.{key_eq, same_place}
use Rattle.rr_vcd.proofs.places.Places.find.Goals as goal

pub returns : goal.returns
returns c =
    let key : Key = record { scope = c.args.scope; size = c.from.result; name = c.args.port.name } in
    let same = same_place (eq-value).it key_eq key c.self.inside.ids.entries in
    rw (← c.self.view_is, ← c.from.ensures) (ap (option_map (λ t. t.now)) (c.copied.ensures ∙ c.get.ensures.value) ∙ sym same)
