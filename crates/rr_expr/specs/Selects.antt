-- Selects (IEEE 1364-2005 section 5.2.1): which places of a word indices name.
use Rattle.std.specs.Prelude.{ℕ, zero, suc, ◌+◌, List, [], ◌++◌, Bool, cond, ℤ, pos, negsuc, ◌+ℤ◌, ◌-ℤ◌, int_lt, nat_lt, unsigned_abs}
use Rattle.rr_bits.specs.Words.{reading}
use Rattle.rr_expr.specs.declared.types.Shape.{Shape}

-- the place of an index in a range [left:right]; the right bound has place 0
abbrev pub place : ℕ × ℕ → ℤ → ℤ
place r i = cond (nat_lt r.0 r.1) (pos r.1 -ℤ i) (i -ℤ pos r.1)

-- the number of indices from one to another
abbrev pub span : ℤ → ℤ → ℕ
span a b = unsigned_abs (a -ℤ b) + 1

-- the first index has a lower place than the second
abbrev pub is_against : ℕ × ℕ → ℤ → ℤ → Bool
is_against r a b = int_lt (place r a) (place r b)

-- a number of bits or of copies; one below 0 is none
abbrev pub count : ℤ → ℕ
count (pos n) = n
count (negsuc n) = 0

-- the lowest and the highest index of n indices from i up or down
abbrev pub lowest : Bool → ℤ → ℕ → ℤ
lowest up i n = cond up i ((i +ℤ pos 1) -ℤ pos n)

abbrev pub highest : Bool → ℤ → ℕ → ℤ
highest up i n = cond up ((i +ℤ pos n) -ℤ pos 1) i

-- the lowest place of these indices: that of the index nearest to the right bound
abbrev pub lowest_place : ℕ × ℕ → Bool → ℤ → ℕ → ℤ
lowest_place r up i n = place r (cond (nat_lt r.0 r.1) (highest up i n) (lowest up i n))

-- an operand by itself, as a number that is signed where the operand is
abbrev pub integer_with : Shape → (ℕ → Bool → List Bool) → ℤ
integer_with a x = reading a.signed (x a.width a.signed)

-- n copies
unfoldable pub repeated : ℕ → List Bool → List Bool
repeated zero xs = []
repeated (suc n) xs = xs ++ repeated n xs
