-- Operations bit by bit, and of all bits.
use Rattle.std.specs.Prelude.{Bool, false, not, ◌&&◌, ◌||◌, List, length, get_or}
use Rattle.rr_bits.specs.Words.{tabulate, is_zero}
use Rattle.rr_circuit.specs.Values.{xor}
use Rattle.rr_expr.specs.Operators.{every, parity}
use Rattle.rr_word_gates.specs.declared.words.Connective.{Connective}
use Rattle.rr_word_gates.specs.declared.words.Connective.TheVariants.{And, Or, Xor}

abbrev pub connected : Connective → Bool → Bool → Bool
connected And x y = x && y
connected Or x y = x || y
connected Xor x y = xor x y

-- each two bits
abbrev pub bitwise : Connective → List Bool → List Bool → List Bool
bitwise op xs ys = tabulate (length xs) (λ i. connected op (get_or xs i false) (get_or ys i false))

-- all bits: each is one, some is one, an odd number is one
abbrev pub of_all : Connective → List Bool → Bool
of_all And xs = every xs
of_all Or xs = not (is_zero xs)
of_all Xor xs = parity xs
