-- Which expressions keep their low bits when their context is extended (IEEE 1364-2005 section 5.4.1).
use Rattle.std.specs.Prelude.{◌≡◌, ℕ, ◌≤◌, Bool, true, false, ◌&&◌, get_or, take}
use Rattle.rr_syntax.specs.Tree.{Tree, Name, Literal, Bit as BitSelect, Part, Indexed, Unary, Binary, Cond, Concat, Repeat, Cast, Paren}
use Rattle.rr_expr.specs.declared.types.Bit.{Bit}
use Rattle.rr_expr.specs.declared.operators.Infix.{Infix}
use Rattle.rr_expr.specs.declared.operators.Infix.TheVariants.{Arithmetic, Divide, Remainder, Power, Shifted, Compared, Both, Either}
use Rattle.rr_expr.specs.declared.operators.Prefix.{Prefix}
use Rattle.rr_expr.specs.declared.operators.Prefix.TheVariants.{Plus, Minus, Invert, Reduced}
use Rattle.rr_expr.specs.declared.operators.Shift.{Shift}
use Rattle.rr_expr.specs.declared.operators.Shift.TheVariants.{Left, Right, SignedRight}
use Rattle.rr_expr.specs.Operators.{infixes, prefixes}
use Rattle.rr_expr.specs.Scopes.{Names}
use Rattle.rr_expr.specs.Values.{value}

abbrev pub low_shift : Shift → Bool → Bool
low_shift Left a = a
low_shift Right a = false
low_shift SignedRight a = false

-- of the operators that take their operands in the context, those under which a bit stands on lower bits alone: not
-- `/`, `%` and the shifts to the right
abbrev pub low_infix : Infix → Bool → Bool → Bool
low_infix (Arithmetic op) a b = a && b
low_infix Divide a b = false
low_infix Remainder a b = false
low_infix Power a b = a
low_infix (Shifted op) a b = low_shift op a
low_infix (Compared op) a b = true
low_infix Both a b = true
low_infix Either a b = true

abbrev pub low_prefix : Prefix → Bool → Bool
low_prefix Plus a = a
low_prefix Minus a = a
low_prefix Invert a = a
low_prefix (Reduced op) a = true

unfoldable pub keeps_low : Tree → Bool
keeps_low (Name token name) = true
keeps_low (Literal token n) = true
keeps_low (BitSelect token name i) = true
keeps_low (Part token name l r) = true
keeps_low (Indexed token name f n up) = true
keeps_low (Unary op t) = low_prefix (get_or prefixes op Plus) (keeps_low t)
keeps_low (Binary op l r) = low_infix (get_or infixes op Either) (keeps_low l) (keeps_low r)
keeps_low (Cond a b c) = keeps_low b && keeps_low c
keeps_low (Concat ts) = true
keeps_low (Repeat n ts) = true
keeps_low (Cast signed t) = true
keeps_low (Paren t) = keeps_low t

-- in a wider context such an expression has the same low bits
abbrev pub LowBitsKept : Type 0
LowBitsKept =
    (s : Names) (t : Tree) (env : Bit → Bool) (w v : ℕ) (signed : Bool) → keeps_low t ≡ true → w ≤ v → take w (value s t env v signed) ≡ value s t env w signed
