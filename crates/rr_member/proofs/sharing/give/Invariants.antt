use Rattle.std.proofs.Common.{◌≡◌, ℕ, ◌<◌, ◌≤◌, length}
use Rattle.rr_member.specs.Sharing.{Took, seat}
use Rattle.rr_member.proofs.sharing.give.Given as goal

abbrev pub invariant-loop-place : goal.invariant-loop-place
invariant-loop-place l = record {
  count : length l.seats.items ≡ length l.fn.seats.items;
  done : (k : ℕ) → k < l.place → Took k l.shorts (seat l.fn.seats.items k) (seat l.seats.items k);
  rest : (k : ℕ) → l.place ≤ k → seat l.seats.items k ≡ seat l.fn.seats.items k;
}
