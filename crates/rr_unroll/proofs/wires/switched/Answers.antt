use Rattle.std.proofs.Common.{◌<◌, ◌∙◌, ap, length, arith}
use Rattle.std.proofs.lemmas.List.{take_all}
use Rattle.std.proofs.lemmas.List.Elements.{All-push, All-get_or}
use Rattle.rr_circuit.specs.Values.{IsWire, wire_values}
use Rattle.rr_transition.specs.Transitions.{switched}
use Rattle.rr_unroll.proofs.WireLaws.{switched_more}
use Rattle.rr_unroll.proofs.wires.switched.Goals as goal

pub loop-place-preserved : goal.loop-place-preserved
loop-place-preserved c =
    let h = c.loop-place.invariant in
    let here = All-get_or (λ k. k < length c.args.choice.now) c.args.places.now c.loop-place.place-index 0 (omega arith) c.requires.inside in
    record {
      wires = rw c.in_ok-push.ensures.items (All-push (IsWire c.args.b.now) _ _ h.wires (All-get_or (IsWire c.args.b.now) c.args.choice.now _ _ here c.requires.choice));
      value = λ env. rw c.in_ok-push.ensures.items (switched_more c.args.b.now env c.loop-place.out.items c.args.choice.now c.args.places.now c.loop-place.place-index _ (omega arith) here (h.value env));
    }

pub returns-clause-wires : goal.returns-clause-wires
returns-clause-wires c = c.loop-place.invariant.wires

pub returns-clause-value : goal.returns-clause-value
returns-clause-value c = λ env. c.loop-place.invariant.value env ∙ ap (λ ps. switched ps (wire_values c.args.b.now env c.args.choice.now)) (take_all c.loop-place.place-index c.args.places.now (omega arith))
