-- how many of some truth values are true
use Rattle.std.specs.Prelude.{ℕ, zero, suc, ◌+◌, ◌-◌, nat_lt, Bool, true, false, not, ◌&&◌, ◌||◌, cond, List, [], ◌∷◌, slice_index_or}

abbrev pub true_count : List Bool → ℕ
true_count [] = 0
true_count (b ∷ bs) = cond b 1 0 + true_count bs

-- the bound is not below the count
abbrev pub is_at_most : ℕ → List Bool → Bool
is_at_most bound bits = not (nat_lt bound (true_count bits))

-- ---- of a counter, whose wires are the counts from the first one on, and whose later counts are false

abbrev pub count_value : List Bool → ℕ → ℕ → Bool
count_value counts first k = slice_index_or counts (k - first) false

-- before count 0 all is reached
abbrev pub value_before : List Bool → ℕ → ℕ → Bool
value_before counts first zero = true
value_before counts first (suc k) = count_value counts first k

-- a count with one wire more: it was reached, or the one before was and the wire is true
abbrev pub next_count : List Bool → ℕ → Bool → ℕ → Bool
next_count counts first x k = count_value counts first k || (x && value_before counts first k)
