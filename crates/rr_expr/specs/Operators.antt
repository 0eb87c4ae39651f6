-- The operators of the profile (IEEE 1364-2005 section 5.1): which marks they are, the width and sign of
-- their results (sections 5.4.1 and 5.5.1), and what they do to words.
use Rattle.std.specs.Prelude.{ℕ, ◌==◌, max, List, [], ◌∷◌, Bool, true, false, cond, not, ◌&&◌, ◌||◌}
use Rattle.rr_bits.specs.Words.{number, extend, add, sub, mul, both, either, one_of, inverted, negated, less, shl, shr, sar, is_zero, quotient, remainder, power}
use Rattle.rr_expr.specs.declared.types.Shape.{Shape}
use Rattle.rr_expr.specs.declared.operators.Operation.{Operation}
use Rattle.rr_expr.specs.declared.operators.Operation.TheVariants.{Add, Subtract, Multiply, And, Or, Xor, Xnor}
use Rattle.rr_expr.specs.declared.operators.Shift.{Shift}
use Rattle.rr_expr.specs.declared.operators.Shift.TheVariants.{Left, Right, SignedRight}
use Rattle.rr_expr.specs.declared.operators.Relation.{Relation}
use Rattle.rr_expr.specs.declared.operators.Relation.TheVariants.{Less, Greater, LessOrEqual, GreaterOrEqual, Equal, NotEqual}
use Rattle.rr_expr.specs.declared.operators.Reduction.{Reduction}
use Rattle.rr_expr.specs.declared.operators.Reduction.TheVariants as reduction
use Rattle.rr_expr.specs.declared.operators.Infix.{Infix}
use Rattle.rr_expr.specs.declared.operators.Infix.TheVariants.{Arithmetic, Divide, Remainder, Power, Shifted, Compared, Both, Either}
use Rattle.rr_expr.specs.declared.operators.Prefix.{Prefix}
use Rattle.rr_expr.specs.declared.operators.Prefix.TheVariants.{Plus, Minus, Invert, Reduced}

-- the operator that each mark is between operands, in the order of the marks; a mark that is none is read as `||`
abbrev pub infixes : List Infix
infixes =
    -- ( ) [ ] { } , ; : . # @ ? =
    Either ∷ Either ∷ Either ∷ Either ∷ Either ∷ Either ∷ Either ∷ Either ∷ Either ∷ Either ∷ Either ∷ Either ∷ Either ∷ Either ∷
    -- + - * / % ! ~ & | ^ < > **
    Arithmetic Add ∷ Arithmetic Subtract ∷ Arithmetic Multiply ∷ Divide ∷ Remainder ∷ Either ∷ Either ∷ Arithmetic And ∷ Arithmetic Or ∷ Arithmetic Xor ∷ Compared Less ∷ Compared Greater ∷ Power ∷
    -- == != === !== <= >= << >> <<< >>>
    Compared Equal ∷ Compared NotEqual ∷ Compared Equal ∷ Compared NotEqual ∷ Compared LessOrEqual ∷ Compared GreaterOrEqual ∷ Shifted Left ∷ Shifted Right ∷ Shifted Left ∷ Shifted SignedRight ∷
    -- && || ~& ~| ~^ ^~ +: -:
    Both ∷ Either ∷ Either ∷ Either ∷ Arithmetic Xnor ∷ Arithmetic Xnor ∷ Either ∷ Either ∷ []

-- the operator that each mark is before an operand; a mark that is none is read as `+`
abbrev pub prefixes : List Prefix
prefixes =
    -- ( ) [ ] { } , ; : . # @ ? =
    Plus ∷ Plus ∷ Plus ∷ Plus ∷ Plus ∷ Plus ∷ Plus ∷ Plus ∷ Plus ∷ Plus ∷ Plus ∷ Plus ∷ Plus ∷ Plus ∷
    -- + - * / % ! ~ & | ^ < > **
    Plus ∷ Minus ∷ Plus ∷ Plus ∷ Plus ∷ Reduced reduction.Nor ∷ Invert ∷ Reduced reduction.And ∷ Reduced reduction.Or ∷ Reduced reduction.Xor ∷ Plus ∷ Plus ∷ Plus ∷
    -- == != === !== <= >= << >> <<< >>>
    Plus ∷ Plus ∷ Plus ∷ Plus ∷ Plus ∷ Plus ∷ Plus ∷ Plus ∷ Plus ∷ Plus ∷
    -- && || ~& ~| ~^ ^~ +: -:
    Plus ∷ Plus ∷ Reduced reduction.Nand ∷ Reduced reduction.Nor ∷ Reduced reduction.Xnor ∷ Reduced reduction.Xnor ∷ Plus ∷ Plus ∷ []

abbrev pub one_bit : Shape
one_bit = record { width = 1; signed = false }

-- the greater width, signed where both are
abbrev pub joined : Shape → Shape → Shape
joined a b = record { width = max a.width b.width; signed = a.signed && b.signed }

abbrev pub prefix_shape : Prefix → Shape → Shape
prefix_shape Plus a = a
prefix_shape Minus a = a
prefix_shape Invert a = a
prefix_shape (Reduced op) a = one_bit

abbrev pub infix_shape : Infix → Shape → Shape → Shape
infix_shape (Arithmetic op) a b = joined a b
infix_shape Divide a b = joined a b
infix_shape Remainder a b = joined a b
infix_shape Power a b = a
infix_shape (Shifted op) a b = a
infix_shape (Compared op) a b = one_bit
infix_shape Both a b = one_bit
infix_shape Either a b = one_bit

abbrev pub truth : Bool → List Bool
truth b = b ∷ []

-- all bits are one
unfoldable pub every : List Bool → Bool
every [] = true
every (b ∷ bs) = b && every bs

-- an odd number of bits is one
unfoldable pub parity : List Bool → Bool
parity [] = false
parity (b ∷ bs) = cond b (not (parity bs)) (parity bs)

-- section 5.1.11; `!` is `~|`, since a word is true where some bit is one (section 5.1.9)
abbrev pub reduction_holds : Reduction → List Bool → Bool
reduction_holds reduction.And xs = every xs
reduction_holds reduction.Nand xs = not (every xs)
reduction_holds reduction.Or xs = not (is_zero xs)
reduction_holds reduction.Nor xs = is_zero xs
reduction_holds reduction.Xor xs = parity xs
reduction_holds reduction.Xnor xs = not (parity xs)

-- sections 5.1.5 and 5.1.10
abbrev pub operation_value : Operation → List Bool → List Bool → List Bool
operation_value Add xs ys = add xs ys
operation_value Subtract xs ys = sub xs ys
operation_value Multiply xs ys = mul xs ys
operation_value And xs ys = both xs ys
operation_value Or xs ys = either xs ys
operation_value Xor xs ys = one_of xs ys
operation_value Xnor xs ys = inverted (one_of xs ys)

-- section 5.1.12: `>>>` fills with the top bit where the result is signed
abbrev pub shift_value : Shift → Bool → List Bool → ℕ → List Bool
shift_value Left signed xs by = shl xs by
shift_value Right signed xs by = shr xs by
shift_value SignedRight signed xs by = cond signed (sar xs by) (shr xs by)

-- sections 5.1.7 and 5.1.8
abbrev pub relation_holds : Relation → Bool → List Bool → List Bool → Bool
relation_holds Less signed xs ys = less signed xs ys
relation_holds Greater signed xs ys = less signed ys xs
relation_holds LessOrEqual signed xs ys = not (less signed ys xs)
relation_holds GreaterOrEqual signed xs ys = not (less signed xs ys)
relation_holds Equal signed xs ys = number xs == number ys
relation_holds NotEqual signed xs ys = not (number xs == number ys)

-- the value of an operand by itself, of its own shape
abbrev pub own_with : Shape → (ℕ → Bool → List Bool) → List Bool
own_with a x = x a.width a.signed

-- an operand gives its word in each context of a width and a sign
abbrev pub prefix_value : Prefix → Shape → (ℕ → Bool → List Bool) → ℕ → Bool → List Bool
prefix_value Plus a x w signed = x w signed
prefix_value Minus a x w signed = negated (x w signed)
prefix_value Invert a x w signed = inverted (x w signed)
prefix_value (Reduced op) a x w signed = extend w signed (truth (reduction_holds op (own_with a x)))

abbrev pub infix_value : Infix → Shape → Shape → (ℕ → Bool → List Bool) → (ℕ → Bool → List Bool) → ℕ → Bool → List Bool
infix_value (Arithmetic op) a b x y w signed = operation_value op (x w signed) (y w signed)
infix_value Divide a b x y w signed = quotient signed (x w signed) (y w signed)
infix_value Remainder a b x y w signed = remainder signed (x w signed) (y w signed)
infix_value Power a b x y w signed = power (x w signed) (number (own_with b y))
infix_value (Shifted op) a b x y w signed = shift_value op signed (x w signed) (number (own_with b y))
infix_value (Compared op) a b x y w signed = extend w signed (truth (relation_holds op (joined a b).signed (own_with (joined a b) x) (own_with (joined a b) y)))
infix_value Both a b x y w signed = extend w signed (truth (not (is_zero (own_with a x)) && not (is_zero (own_with b y))))
infix_value Either a b x y w signed = extend w signed (truth (not (is_zero (own_with a x)) || not (is_zero (own_with b y))))
