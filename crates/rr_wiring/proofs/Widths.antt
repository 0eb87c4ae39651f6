-- a value has the width of its context
use Rattle.std.proofs.Common.{◌≡◌, ◌==◌, ℤ, pos, negsuc, suc, ℕ, Bool, true, false, cond, List, length, get_or, ◌∙◌}
use Rattle.rr_syntax.specs.Tree.{Tree, Name, Literal, Bit as BitSelect, Part, Indexed, Unary, Binary, Cond, Concat, Repeat, Cast, Paren}
use Rattle.rr_bits.specs.Words.{word, number, of_integer, is_zero}
use Rattle.rr_bits.specs.Fields.{length_word}
use Rattle.rr_bits.proofs.Places.{length_tabulate}
use Rattle.rr_expr.specs.declared.types.Bit.{Bit}
use Rattle.rr_expr.specs.declared.types.Shape.{Shape}
use Rattle.rr_expr.specs.declared.operators.Infix.{Infix}
use Rattle.rr_expr.specs.declared.operators.Infix.TheVariants.{Arithmetic, Divide, Remainder, Power, Shifted, Compared, Both, Either}
use Rattle.rr_expr.specs.declared.operators.Prefix.{Prefix}
use Rattle.rr_expr.specs.declared.operators.Prefix.TheVariants.{Plus, Minus, Invert, Reduced}
use Rattle.rr_expr.specs.declared.operators.Operation.{Operation}
use Rattle.rr_expr.specs.declared.operators.Operation.TheVariants.{Add, Subtract, Multiply, And, Or, Xor, Xnor}
use Rattle.rr_expr.specs.declared.operators.Shift.{Shift}
use Rattle.rr_expr.specs.declared.operators.Shift.TheVariants.{Left, Right, SignedRight}
use Rattle.rr_expr.specs.Operators.{infixes, prefixes, prefix_value, infix_value, operation_value, shift_value, own_with}
use Rattle.rr_expr.specs.Scopes.{Names}
use Rattle.rr_expr.specs.Values.{form, value}

length_operation : (op : Operation) (xs ys : List Bool) (w : ℕ) → length xs ≡ w → length (operation_value op xs ys) ≡ w
length_operation Add xs ys w e = length_word (length xs) _ ∙ e
length_operation Subtract xs ys w e = length_word (length xs) _ ∙ e
length_operation Multiply xs ys w e = length_word (length xs) _ ∙ e
length_operation And xs ys w e = length_tabulate (length xs) _ ∙ e
length_operation Or xs ys w e = length_tabulate (length xs) _ ∙ e
length_operation Xor xs ys w e = length_tabulate (length xs) _ ∙ e
length_operation Xnor xs ys w e = length_tabulate (length (operation_value Xor xs ys)) _ ∙ (length_tabulate (length xs) _ ∙ e)

length_shift : (op : Shift) (signed : Bool) (xs : List Bool) (by w : ℕ) → length xs ≡ w → length (shift_value op signed xs by) ≡ w
length_shift Left signed xs by w e = length_tabulate (length xs) _ ∙ e
length_shift Right signed xs by w e = length_tabulate (length xs) _ ∙ e
length_shift SignedRight true xs by w e = length_tabulate (length xs) _ ∙ e
length_shift SignedRight false xs by w e = length_tabulate (length xs) _ ∙ e

length_integer : (w : ℕ) (z : ℤ) → length (of_integer w z) ≡ w
length_integer w (pos n) = length_word w n
length_integer w (negsuc n) = length_word (length (word w (suc n))) _ ∙ length_word w (suc n)

length_cond : (b : Bool) (xs ys : List Bool) (w : ℕ) → length xs ≡ w → length ys ≡ w → length (cond b xs ys) ≡ w
length_cond true xs ys w e f = e
length_cond false xs ys w e f = f

length_infix : (op : Infix) (a b : Shape) (x y : ℕ → Bool → List Bool) (w : ℕ) (signed : Bool) → length (x w signed) ≡ w → length (infix_value op a b x y w signed) ≡ w
length_infix (Arithmetic op) a b x y w signed e = length_operation op (x w signed) (y w signed) w e
length_infix Divide a b x y w signed e = length_cond (number (y w signed) == 0) _ _ w (length_word (length (x w signed)) 0 ∙ e) (length_integer (length (x w signed)) _ ∙ e)
length_infix Remainder a b x y w signed e = length_cond (number (y w signed) == 0) _ _ w (length_word (length (x w signed)) 0 ∙ e) (length_integer (length (x w signed)) _ ∙ e)
length_infix Power a b x y w signed e = length_word (length (x w signed)) _ ∙ e
length_infix (Shifted op) a b x y w signed e = length_shift op signed (x w signed) _ w e
length_infix (Compared op) a b x y w signed e = length_tabulate w _
length_infix Both a b x y w signed e = length_tabulate w _
length_infix Either a b x y w signed e = length_tabulate w _

length_prefix : (op : Prefix) (a : Shape) (x : ℕ → Bool → List Bool) (w : ℕ) (signed : Bool) → length (x w signed) ≡ w → length (prefix_value op a x w signed) ≡ w
length_prefix Plus a x w signed e = e
length_prefix Minus a x w signed e = length_word (length (x w signed)) _ ∙ e
length_prefix Invert a x w signed e = length_tabulate (length (x w signed)) _ ∙ e
length_prefix (Reduced op) a x w signed e = length_tabulate w _

-- a value has the width of its context
pub length_value : (s : Names) (t : Tree) (env : Bit → Bool) (w : ℕ) (signed : Bool) → length (value s t env w signed) ≡ w
unfolding value
length_value s (Name token x) env w signed = length_tabulate w _
length_value s (Literal token n) env w signed = length_tabulate w _
length_value s (BitSelect token x i) env w signed = length_tabulate w _
length_value s (Part token x l r) env w signed = length_tabulate w _
length_value s (Indexed token x f n up) env w signed = length_tabulate w _
length_value s (Unary op t) env w signed = length_prefix (get_or prefixes op Plus) (form s t) (value s t env) w signed (length_value s t env w signed)
length_value s (Binary op l r) env w signed = length_infix (get_or infixes op Either) (form s l) (form s r) (value s l env) (value s r env) w signed (length_value s l env w signed)
length_value s (Cond a b c) env w signed = length_cond (is_zero (own_with (form s a) (value s a env))) _ _ w (length_value s c env w signed) (length_value s b env w signed)
length_value s (Concat ts) env w signed = length_tabulate w _
length_value s (Repeat n ts) env w signed = length_tabulate w _
length_value s (Cast to t) env w signed = length_tabulate w _
length_value s (Paren t) env w signed = length_value s t env w signed
