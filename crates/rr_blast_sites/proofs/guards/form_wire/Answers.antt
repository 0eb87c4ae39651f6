use Rattle.std.proofs.Common.{◌&&◌, ◌||◌, sym}
use Rattle.rr_circuit.specs.Values.{wire_value, wire_values}
use Rattle.rr_circuit.proofs.Netlists.{Extends-trans}
use Rattle.rr_bits.specs.Words.{number}
use Rattle.rr_word_gates.proofs.Carrying.{CarriesBit-same, CarriesBit-extends, carried_bits}
use Rattle.rr_blast_sites.proofs.GuardLaws.{itself, negation, chosen-carried, guard_min}
use Rattle.rr_blast_sites.proofs.guards.form_wire.Goals as goal

pub returns-clause-value : goal.returns-clause-value
returns-clause-value c =
    let x1 = c.in_ok-last.ensures in
    let x2 = c.in_ok-or.ensures in
    let x3 = c.in_ok-and_not.ensures in
    let x4 = c.in_ok-and.ensures in
    let x5 = c.in_ok-from_3.ensures in
    let x6 = c.in_ok-from_2.ensures in
    let x7 = c.in_ok-from_1.ensures in
    let x8 = c.in_ok-from_0.ensures in
    let e12 = Extends-trans _ _ _ x1.extends x2.extends in
    let e13 = Extends-trans _ _ _ e12 x3.extends in
    let e14 = Extends-trans _ _ _ e13 x4.extends in
    let e15 = Extends-trans _ _ _ e14 x5.extends in
    let e16 = Extends-trans _ _ _ e15 x6.extends in
    let e17 = Extends-trans _ _ _ e16 x7.extends in
    let e34 = Extends-trans _ _ _ x3.extends x4.extends in
    let e24 = Extends-trans _ _ _ x2.extends e34 in
    let e45 = Extends-trans _ _ _ x4.extends x5.extends in
    let e56 = Extends-trans _ _ _ x5.extends x6.extends in
    let e57 = Extends-trans _ _ _ e56 x7.extends in
    let e = itself _ _ c.requires.e in
    let s = itself _ _ c.requires.s in
    let not_s = negation _ _ _ _ s c.not-not_s.ensures.wire c.not-not_s.ensures.value in
    let last = carried_bits (λ a b. a || b) _ _ _ _ _ _ _ e not_s (record { wire = x1.wire; value = x1.value }) in
    let or = carried_bits (λ a b. a || b) _ _ _ _ _ _ _ (CarriesBit-extends _ _ _ _ x1.extends e) (CarriesBit-extends _ _ _ _ x1.extends s) (record { wire = x2.wire; value = x2.value }) in
    let and_not = carried_bits (λ a b. a && b) _ _ _ _ _ _ _ (CarriesBit-extends _ _ _ _ e12 e) (CarriesBit-extends _ _ _ _ e12 not_s) (record { wire = x3.wire; value = x3.value }) in
    let and = carried_bits (λ a b. a && b) _ _ _ _ _ _ _ (CarriesBit-extends _ _ _ _ e13 e) (CarriesBit-extends _ _ _ _ e13 s) (record { wire = x4.wire; value = x4.value }) in
    let not_e = negation _ _ _ _ (CarriesBit-extends _ _ _ _ e14 e) c.not-not_e.ensures.wire c.not-not_e.ensures.value in
    let from_3 = chosen-carried _ _ _ c.args.form.now _ _ _ _ _ 3 e14 c.requires.form (CarriesBit-extends _ _ _ _ e34 or) (CarriesBit-extends _ _ _ _ e24 last) x5.value in
    let from_2 = chosen-carried _ _ _ c.args.form.now _ _ _ _ _ 2 e15 c.requires.form (CarriesBit-extends _ _ _ _ e45 and_not) from_3 x6.value in
    let from_1 = chosen-carried _ _ _ c.args.form.now _ _ _ _ _ 1 e16 c.requires.form (CarriesBit-extends _ _ _ _ e56 and) from_2 x7.value in
    let from_0 = chosen-carried _ _ _ c.args.form.now _ _ _ _ _ 0 e17 c.requires.form (CarriesBit-extends _ _ _ _ e57 not_e) from_1 x8.value in
    CarriesBit-same _ _ _ _ from_0 (λ input. sym (guard_min (number (wire_values c.args.b.now input c.args.form.now)) (wire_value c.args.b.now input c.args.e) (wire_value c.args.b.now input c.args.s)))
