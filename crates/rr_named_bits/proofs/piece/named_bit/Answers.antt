use Rattle.std.proofs.Common.{◌≡◌, ◌+◌, ◌-◌, ◌<◌, ◌∙◌, arith, length, refl, get_or}
use Rattle.rr_named_bits.proofs.Places.{bits_left, count_more, count_none, no_piece, piece_hit}
use Rattle.rr_named_bits.proofs.piece.named_bit.Goals as goal

pub loop-left-init : goal.loop-left-init
loop-left-init c = record { from = count_none c.args.pieces.now; below = omega arith; left = omega arith }

pub overflow_add-from : goal.overflow_add-from
overflow_add-from c =
    let l : c.loop-left.left - 1 < length c.args.pieces.now = omega arith in
    let j : c.loop-left.left ≡ c.loop-left.left - 1 + 1 = omega arith in
    let m = count_more c.args.pieces.now (c.loop-left.left - 1) c.loop-left.left c.loop-left.from (get_or c.args.pieces.now (c.loop-left.left - 1) no_piece) no_piece l refl j c.loop-left.invariant.from in
    omega (arith, m, bits_left c.args.pieces.now (c.loop-left.left - 1), c.requires.few)

pub returns-then-place-from : goal.returns-then-place-from
returns-then-place-from c =
    let l : c.loop-left.left - 1 < length c.args.pieces.now = omega arith in
    let j : c.loop-left.left ≡ c.loop-left.left - 1 + 1 = omega arith in
    c.bit.ensures
    ∙ piece_hit c.args.pieces.now (c.loop-left.left - 1) c.loop-left.left c.loop-left.from c.args.place (get_or c.args.pieces.now (c.loop-left.left - 1) no_piece) no_piece l refl j c.loop-left.invariant.from c.loop-left.invariant.below c.if-place-from.true

pub loop-left-preserved : goal.loop-left-preserved
loop-left-preserved c =
    let l : c.loop-left.left - 1 < length c.args.pieces.now = omega arith in
    let j : c.loop-left.left ≡ c.loop-left.left - 1 + 1 = omega arith in
    record {
      from = count_more c.args.pieces.now (c.loop-left.left - 1) c.loop-left.left c.loop-left.from (get_or c.args.pieces.now (c.loop-left.left - 1) no_piece) no_piece l refl j c.loop-left.invariant.from;
      below = c.if-place-from.false;
      left = omega arith;
    }
