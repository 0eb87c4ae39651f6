use Rattle.std.proofs.Common.{◌++◌, ap, ◌∙◌, arith}
use Rattle.std.proofs.lemmas.List.Elements.{All-push}
use Rattle.rr_circuit.specs.Values.{IsWire}
use Rattle.rr_unroll.proofs.WireLaws.{followed_first, followed_more, followed_all, followed_width}
use Rattle.rr_unroll.proofs.wires.followed.Goals as goal

pub loop-bit-init : goal.loop-bit-init
loop-bit-init c =
    let e = c.in_ok-extend_from_slice.ensures.items ∙ ap (λ xs. xs ++ c.args.wires.now) c.in_ok-all.ensures.items in
    record {
      wires = rw e c.requires;
      value = λ env. rw e (followed_first c.args.b.now env c.args.wires.now c.args.bits.now);
    }

pub loop-bit-preserved : goal.loop-bit-preserved
loop-bit-preserved c =
    let h = c.loop-bit.invariant in
    record {
      wires = rw c.in_ok-push.ensures.items (All-push (IsWire c.args.b.now) _ _ h.wires c.constant.ensures.wire);
      value = λ env. rw c.in_ok-push.ensures.items (followed_more c.args.b.now env c.args.wires.now c.loop-bit.all.items _ c.args.bits.now c.loop-bit.bit-index (omega arith) (h.value env) (c.constant.ensures.value env));
    }

pub returns-clause-wires : goal.returns-clause-wires
returns-clause-wires c = c.loop-bit.invariant.wires

pub returns-clause-value : goal.returns-clause-value
returns-clause-value c = λ env. followed_all c.args.b.now env c.args.wires.now c.loop-bit.all.items c.args.bits.now c.loop-bit.bit-index (omega arith) (c.loop-bit.invariant.value env)

pub returns-clause-width : goal.returns-clause-width
returns-clause-width c =
    followed_width c.args.b.now c.args.wires.now c.loop-bit.all.items c.args.bits.now
    (λ env. followed_all c.args.b.now env c.args.wires.now c.loop-bit.all.items c.args.bits.now c.loop-bit.bit-index (omega arith) (c.loop-bit.invariant.value env))
