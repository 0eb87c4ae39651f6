use Rattle.std.proofs.Common.{◌≡◌, ◌+◌, ◌-◌, ◌<◌, ◌≤◌, arith, length, refl, ℕ, get_or}
use Rattle.std.proofs.lemmas.List.Elements.{All-push}
use Rattle.rr_cycle.specs.Exec.{applied}
use Rattle.rr_exec.specs.Work.{IsLater, updates_in}
use Rattle.rr_named_bits.proofs.Places.{bits_left, count_more, count_none, no_piece}
use Rattle.rr_exec.proofs.Pieces.{applied_push, write_more, write_none}
use Rattle.rr_exec.proofs.writes.postpone.Goals as goal

pub loop-left-init : goal.loop-left-init
loop-left-init c = record {
  later = λ e. write_none c.args.pieces.now c.args.bits (applied (updates_in c.args.list.now.items) e);
  from = count_none c.args.pieces.now;
  left = omega arith;
  fits = λ n f g. g;
}

pub overflow_add-from : goal.overflow_add-from
overflow_add-from c =
    let l : c.loop-left.left - 1 < length c.args.pieces.now = omega arith in
    let j : c.loop-left.left ≡ c.loop-left.left - 1 + 1 = omega arith in
    let m = count_more c.args.pieces.now (c.loop-left.left - 1) c.loop-left.left c.loop-left.from (get_or c.args.pieces.now (c.loop-left.left - 1) no_piece) no_piece l refl j c.loop-left.invariant.from in
    omega (arith, m, bits_left c.args.pieces.now (c.loop-left.left - 1), c.requires.few)

pub loop-left-preserved : goal.loop-left-preserved
loop-left-preserved c =
    let i : ℕ = c.loop-left.left - 1 in
    let l : i < length c.args.pieces.now = omega arith in
    let j : c.loop-left.left ≡ i + 1 = omega arith in
    let f : c.loop-left.from ≤ 128 = omega (arith, bits_left c.args.pieces.now c.loop-left.left, c.requires.few, c.loop-left.invariant.from) in
    record {
      later = λ e. write_more c.args.pieces.now i c.loop-left.left c.loop-left.from (get_or c.args.pieces.now (c.loop-left.left - 1) no_piece) no_piece c.args.bits (applied (updates_in c.args.list.now.items) e) (applied (updates_in c.loop-left.list.items) e) _ l refl j c.loop-left.invariant.from (c.loop-left.invariant.later e)
          (rw c.in_ok-push_later.ensures (applied_push c.loop-left.list.items _ e));
      from = count_more c.args.pieces.now i c.loop-left.left c.loop-left.from (get_or c.args.pieces.now (c.loop-left.left - 1) no_piece) no_piece l refl j c.loop-left.invariant.from;
      left = omega arith;
      fits = λ n a b. rw c.in_ok-push_later.ensures (All-push (IsLater n) c.loop-left.list.items _ (c.loop-left.invariant.fits n a b) (record { piece = a i no_piece l; from = f }));
    }
