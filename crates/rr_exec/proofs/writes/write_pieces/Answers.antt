use Rattle.std.proofs.Common.{◌≡◌, ◌+◌, ◌-◌, ◌<◌, ◌∙◌, arith, length, refl, ℕ, get_or}
use Rattle.rr_expr.specs.Scopes.{env_of}
use Rattle.rr_named_bits.proofs.Places.{bits_left, count_more, count_none, no_piece}
use Rattle.rr_exec.proofs.Pieces.{write_more, write_none}
use Rattle.rr_exec.proofs.writes.write_pieces.Goals as goal

pub loop-left-init : goal.loop-left-init
loop-left-init c = record { env = write_none c.args.pieces.now c.args.bits (env_of c.args.values.now.items); from = count_none c.args.pieces.now; left = omega arith; count = refl }

pub write_piece-requires-clause-from : goal.write_piece-requires-clause-from
write_piece-requires-clause-from c = omega (arith, bits_left c.args.pieces.now c.loop-left.left)

pub overflow_add-from : goal.overflow_add-from
overflow_add-from c =
    let l : c.loop-left.left - 1 < length c.args.pieces.now = omega arith in
    let j : c.loop-left.left ≡ c.loop-left.left - 1 + 1 = omega arith in
    let m = count_more c.args.pieces.now (c.loop-left.left - 1) c.loop-left.left c.loop-left.from (get_or c.args.pieces.now (c.loop-left.left - 1) no_piece) no_piece l refl j c.loop-left.invariant.from in
    omega (arith, m, bits_left c.args.pieces.now (c.loop-left.left - 1), c.requires.few)

pub loop-left-preserved : goal.loop-left-preserved
loop-left-preserved c =
    let i : ℕ = c.loop-left.left - 1 in
    let l : i < length c.args.pieces.now = omega arith in
    let j : c.loop-left.left ≡ i + 1 = omega arith in
    record {
      env = write_more c.args.pieces.now i c.loop-left.left c.loop-left.from (get_or c.args.pieces.now (c.loop-left.left - 1) no_piece) no_piece c.args.bits (env_of c.args.values.now.items) (env_of c.loop-left.values.items) _ l refl j c.loop-left.invariant.from c.loop-left.invariant.env c.write_piece.ensures.env;
      from = count_more c.args.pieces.now i c.loop-left.left c.loop-left.from (get_or c.args.pieces.now (c.loop-left.left - 1) no_piece) no_piece l refl j c.loop-left.invariant.from;
      left = omega arith;
      count = c.write_piece.ensures.count ∙ c.loop-left.invariant.count;
    }
