use Rattle.std.proofs.Common.{◌≡◌, ◌∙◌, sym, ap, subst, arith, length, ◌<◌, ℕ, get_or, All}
use Rattle.std.specs.Prelude.{Vec}
use Rattle.std.specs.Global.{Global}
use Rattle.std.proofs.lemmas.List.{length-map}
use Rattle.std.proofs.lemmas.List.Elements.{All-append}
use Rattle.rr_circuit.specs.declared.Wire.{Wire}
use Rattle.rr_circuit.specs.Values.{AreWires, IsWire, wire_values}
use Rattle.rr_flat.specs.declared.signal.Signal.{Signal}
use Rattle.rr_flat.specs.View.{Design, plain_flat}
use Rattle.rr_signal_wires.specs.Words.{carried}
use Rattle.rr_blast.proofs.CycleLaws.{outputs_more}
use Rattle.rr_meaning.proofs.Scoping.{IsSound}
use Rattle.rr_blast_steps.proofs.SideLaws.{signal_wires}
use Rattle.rr_signal_wires.proofs.WordLaws.{count_of}
use Rattle.rr_blast.proofs.cycle.output_wires.Goals as goal

pub bounds-words-id : goal.bounds-words-id
bounds-words-id c =
    let f : IsSound c.args.flat.now = subst IsSound c.flat.view_is c.flat.invariant in
    let e : c.deref-id-items.result.now ≡ c.args.flat.now.outputs = c.deref-id-items.ensures.value ∙ ap (λ (d : Design). d.outputs) c.flat.view_is in
    let l : get_or c.deref-id-items.result.now c.loop-id.id-index 0 < length c.args.flat.now.signals = (subst (All (λ (id : ℕ). id < length c.args.flat.now.signals)) (sym e) f.outputs_in) c.loop-id.id-index 0 c.loop-id-test.true in
    omega (arith, l, count_of c.args.words.now, ap length c.requires.widths, length-map c.args.flat.now.signals (λ (s : Signal). s.width))

pub loop-id-preserved : goal.loop-id-preserved
loop-id-preserved c =
    let d : Design = c.args.flat.now in
    let f : IsSound d = subst IsSound c.flat.view_is c.flat.invariant in
    let e : c.deref-id-items.result.now ≡ d.outputs = c.deref-id-items.ensures.value ∙ ap (λ (z : Design). z.outputs) c.flat.view_is in
    let id : ℕ = get_or c.deref-id-items.result.now c.loop-id.id-index 0 in
    let l : id < length d.signals = (subst (All (λ (i : ℕ). i < length d.signals)) (sym e) f.outputs_in) c.loop-id.id-index 0 c.loop-id-test.true in
    let m : id < length c.args.words.now = omega (arith, l, count_of c.args.words.now, ap length c.requires.widths, length-map d.signals (λ (s : Signal). s.width)) in
    let v : Vec Wire Global = c.index-words-id.result in
    let g : AreWires c.args.b.now v.items = rw (ap (λ (u : Vec Wire Global). u.items) c.index-words-id.is) (c.requires.words id v m) in
    let w : c.as_slice.result.now ≡ v.items = c.as_slice.ensures.value in
    let k = c.in_ok-add_word.ensures in
    record {
      wires = rw (k, w) (All-append (IsWire c.args.b.now) c.loop-id.wires.items v.items c.loop-id.invariant.wires g);
      value = λ env. outputs_more (plain_flat d) c.args.b.now env (carried c.args.b.now env c.args.words.now) c.deref-id-items.result.now c.loop-id.id-index c.loop-id.wires.items c.add_word.new.list.items c.as_slice.result.now c.loop-id-test.true
          (c.loop-id.invariant.value env) k
          (ap (wire_values c.args.b.now env) w ∙ signal_wires c.args.b.now env d c.args.words.now id v f l c.requires.widths c.index-words-id.is);
    }
