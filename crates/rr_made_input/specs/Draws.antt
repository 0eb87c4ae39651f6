-- The numbers that a seed gives: a linear congruential generator with a state of 64 bits, of which the upper 31 are used.
use Rattle.std.specs.Prelude.{ℕ, zero, suc, ◌+◌, ◌*◌, ◌/◌, ◌%◌}

-- the state after one draw
abbrev pub next : ℕ → ℕ
next x = (x * 6364136223846793005 + 1442695040888963407) % 18446744073709551616

-- .. and after so many
unfoldable pub state : ℕ → ℕ → ℕ
state seed zero = seed
state seed (suc n) = next (state seed n)

-- the draw with this number, from 0, below a bound
abbrev pub draw : ℕ → ℕ → ℕ → ℕ
draw seed n bound = (state seed (n + 1) / 8589934592) % bound
