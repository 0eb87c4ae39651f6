use Rattle.std.proofs.Common.{◌-◌, get_or, false, arith, sym}
use Rattle.rr_choice.proofs.BitsRead.{number_none, room_down, value_down, bit_small}
use Rattle.rr_choice.proofs.reading.number_of.Goals as goal

pub loop-i-init : goal.loop-i-init
loop-i-init c = (omega arith, sym (number_none c.args.bits.now _ (omega arith)))

pub overflow_mul-value : goal.overflow_mul-value
overflow_mul-value c =
    let r = room_down c.args.bits.now c.loop-i.i c.loop-i.value c.requires c.loop-i-test.true c.loop-i.invariant.0 c.loop-i.invariant.1 in omega (arith, r)

pub overflow_add-value : goal.overflow_add-value
overflow_add-value c =
    let r = room_down c.args.bits.now c.loop-i.i c.loop-i.value c.requires c.loop-i-test.true c.loop-i.invariant.0 c.loop-i.invariant.1 in
    let e = c.bit_value.ensures in
    let b = bit_small (get_or c.args.bits.now (c.loop-i.i - 1) false) in
    omega (arith, r, e, b)

pub loop-i-preserved : goal.loop-i-preserved
loop-i-preserved c = (
  let l = c.loop-i.invariant.0 in omega (arith, l),
  value_down c.args.bits.now c.loop-i.i c.bit_value.result c.loop-i.value c.loop-i-test.true c.loop-i.invariant.0 c.bit_value.ensures c.loop-i.invariant.1,
)
