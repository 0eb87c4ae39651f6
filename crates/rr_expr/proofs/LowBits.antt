-- extending a context keeps the low bits
use Rattle.std.proofs.Common.{◌≡◌, ℕ, zero, suc, ◌+◌, ◌-◌, ◌*◌, ◌/◌, ◌%◌, ◌^◌, ◌==◌, ◌<◌, ◌≤◌, Bool, true, false, cond, not, ◌&&◌, ◌||◌, List, [], ◌∷◌, length, get_or, take, refl, sym, ◌∙◌, ap, nat_lt, arith}
use Rattle.std.proofs.lemmas.Bool.{and_parts}
use Rattle.std.proofs.lemmas.List.{get_or-take, length-take-le}
use Rattle.std.proofs.lemmas.Nat.{mul-mod, pow-mod, pow_pos, pow-add}
use Rattle.std.proofs.Math.Nat.{add-mod, mod-mod, add-mul-mod_self_left, lt_of_mul-lt-mul_left}
use Rattle.rr_syntax.specs.Tree.{Tree, Name, Literal, Bit as BitSelect, Part, Indexed, Unary, Binary, Cond, Concat, Repeat, Cast, Paren}
use Rattle.rr_bits.specs.Words.{number, word, tabulate, extend, add, sub, mul, one_of, inverted, negated, shl, power, is_zero, select}
use Rattle.rr_bits.specs.Fields.{length_word, number_word}
use Rattle.rr_bits.proofs.Numbers.{word_number, word_same, number-lt}
use Rattle.rr_bits.proofs.Places.{length_tabulate, get_tabulate}
use Rattle.rr_expr.specs.declared.types.Bit.{Bit}
use Rattle.rr_expr.specs.declared.operators.Infix.{Infix}
use Rattle.rr_expr.specs.declared.operators.Infix.TheVariants.{Arithmetic, Divide, Remainder, Power, Shifted, Compared, Both, Either}
use Rattle.rr_expr.specs.declared.operators.Operation.{Operation}
use Rattle.rr_expr.specs.declared.operators.Operation.TheVariants.{Add, Subtract, Multiply, And, Or, Xor, Xnor}
use Rattle.rr_expr.specs.declared.operators.Prefix.{Prefix}
use Rattle.rr_expr.specs.declared.operators.Prefix.TheVariants.{Plus, Minus, Invert, Reduced}
use Rattle.rr_expr.specs.declared.operators.Shift.TheVariants.{Left, Right, SignedRight}
use Rattle.rr_expr.specs.declared.types.Shape.{Shape}
use Rattle.rr_expr.specs.LowBits.{keeps_low, low_infix, low_prefix, LowBitsKept}
use Rattle.rr_expr.specs.Operators.{infixes, prefixes, joined, truth, reduction_holds, relation_holds, own_with, operation_value, infix_value, prefix_value}
use Rattle.rr_expr.specs.Scopes.{Names, meant, entity_range, entity_value}
use Rattle.rr_expr.specs.Selects.{place, span, count, lowest_place, integer_with, repeated}
use Rattle.rr_expr.specs.Memories.{index_value}
use Rattle.rr_expr.specs.Values.{form, value, values, nowhere}

-- the second word is the lowest w bits of the first, which has v
record Low (w v : ℕ) (xs ys : List Bool) : Type 0 where
  wide : length xs ≡ v
  low : take w xs ≡ ys

same_lists : (xs ys : List Bool) → length xs ≡ length ys → ((i : ℕ) → i < length xs → get_or xs i false ≡ get_or ys i false) → xs ≡ ys
same_lists [] [] l h = refl
same_lists [] (y ∷ ys) l h = absurd (omega arith)
same_lists (x ∷ xs) [] l h = absurd (omega arith)
same_lists (x ∷ xs) (y ∷ ys) l h =
    let e : x ≡ y = h 0 (omega arith) in
    let r : xs ≡ ys = same_lists xs ys (omega arith) (λ i q. h (suc i) (omega arith)) in
    rw (e, r) refl

narrow : (w v : ℕ) (xs ys : List Bool) → w ≤ v → Low w v xs ys → length ys ≡ w
narrow w v xs ys h l = sym (ap length l.low) ∙ length-take-le w xs (omega (arith, l.wide))

bit_of : (w v i : ℕ) (xs ys : List Bool) → Low w v xs ys → i < w → get_or xs i false ≡ get_or ys i false
bit_of w v i xs ys l h = sym (get_or-take w xs i false h) ∙ ap (λ zs. get_or zs i false) l.low

take_word : (w v n : ℕ) → w ≤ v → take w (word v n) ≡ word w n
unfolding word
take_word zero v n h = refl
take_word (suc w) zero n h = absurd (omega arith)
take_word (suc w) (suc v) n h = ap (λ xs. (n % 2 == 1) ∷ xs) (take_word w v (n / 2) (omega arith))

number_low : (w v : ℕ) (xs ys : List Bool) → w ≤ v → Low w v xs ys → number ys ≡ number xs % 2 ^ w
number_low w v xs ys h l =
    let e : take w xs ≡ word w (number xs) = ap (take w) (sym (word_number xs)) ∙ take_word w (length xs) (number xs) (omega (arith, l.wide)) in
    ap number (sym l.low ∙ e) ∙ number_word w (number xs)

tabulated : (w v : ℕ) (f g : ℕ → Bool) → w ≤ v → ((i : ℕ) → i < w → f i ≡ g i) → Low w v (tabulate v f) (tabulate w g)
tabulated w v f g h e = record {
  wide = length_tabulate v f;
  low = same_lists (take w (tabulate v f)) (tabulate w g)
      (length-take-le w (tabulate v f) (omega (arith, length_tabulate v f)) ∙ sym (length_tabulate w g))
      (λ i q.
      let k : i < w = omega (arith, q, length-take-le w (tabulate v f) (omega (arith, length_tabulate v f))) in
      get_or-take w (tabulate v f) i false k ∙ get_tabulate v i f false (omega arith) ∙ e i k ∙ sym (get_tabulate w i g false k));
}

words : (w v m n : ℕ) → w ≤ v → m % 2 ^ w ≡ n % 2 ^ w → Low w v (word v m) (word w n)
words w v m n h e = record { wide = length_word v m; low = take_word w v m h ∙ word_same w m n e }

extended : (w v : ℕ) (signed : Bool) (xs : List Bool) → w ≤ v → Low w v (extend v signed xs) (extend w signed xs)
extended w v signed xs h = tabulated w v _ _ h (λ i k. refl)

first_mod : (x y m : ℕ) → (x + y) % m ≡ (x % m + y) % m
first_mod x y m = add-mod x y m ∙ sym (add-mod (x % m) y m ∙ ap (λ n. (n + y % m) % m) (mod-mod x m))

stepped : (a b p d t : ℕ) → p * d + b % p ≡ b → b % p < p → a + (p * (suc d + t) - b) ≡ (a + (p - b % p)) + p * t
stepped a b p d t h l = let m : p * (suc d + t) ≡ p * d + p + p * t = omega arith in rw m (omega arith)

-- the difference modulo a smaller power of two
lower : (a b p q : ℕ) → 0 < p → b < p * q → (a + (p * q - b)) % p ≡ (a % p + (p - b % p)) % p
lower a b p q z h = go (q - suc (b / p)) (gap (lt_of_mul-lt-mul_left p (omega arith)))
  where
    gap : b / p < q → q ≡ suc (b / p) + (q - suc (b / p))
    gap l = omega arith

    go : (t : ℕ) → q ≡ suc (b / p) + t → (a + (p * q - b)) % p ≡ (a % p + (p - b % p)) % p
    go t e =
        let d : p * (b / p) + b % p ≡ b = omega arith in
        let r : b % p < p = omega arith in
        rw (e, stepped a b p (b / p) t d r) (add-mul-mod_self_left (a + (p - b % p)) p t ∙ first_mod a (p - b % p) p)

summed : (w v : ℕ) (xs ys zs us : List Bool) → w ≤ v → Low w v xs ys → Low w v zs us → Low w v (add xs zs) (add ys us)
summed w v xs ys zs us h a b =
    rw (a.wide, narrow w v xs ys h a, number_low w v xs ys h a, number_low w v zs us h b)
    (words w v (number xs + number zs) (number xs % 2 ^ w + number zs % 2 ^ w) h (add-mod (number xs) (number zs) (2 ^ w)))

multiplied : (w v : ℕ) (xs ys zs us : List Bool) → w ≤ v → Low w v xs ys → Low w v zs us → Low w v (mul xs zs) (mul ys us)
multiplied w v xs ys zs us h a b =
    rw (a.wide, narrow w v xs ys h a, number_low w v xs ys h a, number_low w v zs us h b)
    (words w v (number xs * number zs) (number xs % 2 ^ w * (number zs % 2 ^ w)) h (mul-mod (number xs) (number zs) (2 ^ w)))

raised : (w v n : ℕ) (xs ys : List Bool) → w ≤ v → Low w v xs ys → Low w v (power xs n) (power ys n)
raised w v n xs ys h a =
    rw (a.wide, narrow w v xs ys h a, number_low w v xs ys h a)
    (words w v (number xs ^ n) ((number xs % 2 ^ w) ^ n) h (sym (pow-mod (number xs) n (2 ^ w))))

whole : (w v : ℕ) → w ≤ v → 2 ^ v ≡ 2 ^ w * 2 ^ (v - w)
whole w v h = let k : v ≡ w + (v - w) = omega arith in ap (λ n. 2 ^ n) k ∙ pow-add 2 w (v - w)

fits_in : (v : ℕ) (xs : List Bool) → length xs ≡ v → number xs < 2 ^ v
fits_in v xs e = rw e at (number-lt xs)

subtracted : (w v : ℕ) (xs ys zs us : List Bool) → w ≤ v → Low w v xs ys → Low w v zs us → Low w v (sub xs zs) (sub ys us)
subtracted w v xs ys zs us h a b =
    let small : number zs < 2 ^ w * 2 ^ (v - w) = rw (whole w v h) at (fits_in v zs b.wide) in
    let e : (number xs + (2 ^ v - number zs)) % 2 ^ w ≡ (number xs % 2 ^ w + (2 ^ w - number zs % 2 ^ w)) % 2 ^ w =
    rw (whole w v h) (lower (number xs) (number zs) (2 ^ w) (2 ^ (v - w)) (pow_pos w) small) in
    rw (a.wide, narrow w v xs ys h a, number_low w v xs ys h a, number_low w v zs us h b)
    (words w v (number xs + (2 ^ v - number zs)) (number xs % 2 ^ w + (2 ^ w - number zs % 2 ^ w)) h e)

minus : (w v : ℕ) (xs ys : List Bool) → w ≤ v → Low w v xs ys → Low w v (negated xs) (negated ys)
minus w v xs ys h a =
    let small : number xs < 2 ^ w * 2 ^ (v - w) = rw (whole w v h) at (fits_in v xs a.wide) in
    let e : (0 + (2 ^ v - number xs)) % 2 ^ w ≡ (0 % 2 ^ w + (2 ^ w - number xs % 2 ^ w)) % 2 ^ w =
    rw (whole w v h) (lower 0 (number xs) (2 ^ w) (2 ^ (v - w)) (pow_pos w) small) in
    let z : 0 % 2 ^ w ≡ 0 = omega (arith, pow_pos w) in
    let za : 0 + (2 ^ v - number xs) ≡ 2 ^ v - number xs = omega arith in
    let zb : 0 + (2 ^ w - number xs % 2 ^ w) ≡ 2 ^ w - number xs % 2 ^ w = omega arith in
    let k : (2 ^ v - number xs) % 2 ^ w ≡ (2 ^ w - number xs % 2 ^ w) % 2 ^ w = rw (z, za, zb) at e in
    rw (a.wide, narrow w v xs ys h a, number_low w v xs ys h a) (words w v (2 ^ v - number xs) (2 ^ w - number xs % 2 ^ w) h k)

bitwise : (w v : ℕ) (g : Bool → Bool → Bool) (xs ys zs us : List Bool) → w ≤ v → Low w v xs ys → Low w v zs us
    → Low w v (tabulate (length xs) (λ i. g (get_or xs i false) (get_or zs i false))) (tabulate (length ys) (λ i. g (get_or ys i false) (get_or us i false)))
bitwise w v g xs ys zs us h a b =
    rw (a.wide, narrow w v xs ys h a) (tabulated w v _ _ h (λ i k. ap (λ x. g x (get_or zs i false)) (bit_of w v i xs ys a k) ∙ ap (g (get_or ys i false)) (bit_of w v i zs us b k)))

turned : (w v : ℕ) (xs ys : List Bool) → w ≤ v → Low w v xs ys → Low w v (inverted xs) (inverted ys)
turned w v xs ys h a = rw (a.wide, narrow w v xs ys h a) (tabulated w v _ _ h (λ i k. ap not (bit_of w v i xs ys a k)))

shifted_left : (w v by : ℕ) (xs ys : List Bool) → w ≤ v → Low w v xs ys → Low w v (shl xs by) (shl ys by)
shifted_left w v by xs ys h a =
    rw (a.wide, narrow w v xs ys h a) (tabulated w v _ _ h (λ i k. ap (cond (nat_lt i by) false) (bit_of w v (i - by) xs ys a (omega arith))))

operated : (op : Operation) (w v : ℕ) (xs ys zs us : List Bool) → w ≤ v → Low w v xs ys → Low w v zs us → Low w v (operation_value op xs zs) (operation_value op ys us)
operated Add w v xs ys zs us h a b = summed w v xs ys zs us h a b
operated Subtract w v xs ys zs us h a b = subtracted w v xs ys zs us h a b
operated Multiply w v xs ys zs us h a b = multiplied w v xs ys zs us h a b
operated And w v xs ys zs us h a b = bitwise w v (λ x y. x && y) xs ys zs us h a b
operated Or w v xs ys zs us h a b = bitwise w v (λ x y. x || y) xs ys zs us h a b
operated Xor w v xs ys zs us h a b = bitwise w v (λ x y. cond y (not x) x) xs ys zs us h a b
operated Xnor w v xs ys zs us h a b =
    turned w v (one_of xs zs) (one_of ys us) h (bitwise w v (λ x y. cond y (not x) x) xs ys zs us h a b)

-- an operand's words in the two contexts
abbrev Kept : ℕ → ℕ → Bool → Bool → (ℕ → Bool → List Bool) → Type 0
Kept w v signed k x = k ≡ true → Low w v (x v signed) (x w signed)

infix_low : (op : Infix) (a b : Shape) (x y : ℕ → Bool → List Bool) (w v : ℕ) (signed j k : Bool) → w ≤ v → Kept w v signed j x → Kept w v signed k y
    → low_infix op j k ≡ true → Low w v (infix_value op a b x y v signed) (infix_value op a b x y w signed)
infix_low (Arithmetic op) a b x y w v signed j k h p q e =
    operated op w v (x v signed) (x w signed) (y v signed) (y w signed) h (p (and_parts j k e).0) (q (and_parts j k e).1)
infix_low Divide a b x y w v signed j k h p q e = cc
infix_low Remainder a b x y w v signed j k h p q e = cc
infix_low Power a b x y w v signed j k h p q e = raised w v (number (own_with b y)) (x v signed) (x w signed) h (p e)
infix_low (Shifted Left) a b x y w v signed j k h p q e = shifted_left w v (number (own_with b y)) (x v signed) (x w signed) h (p e)
infix_low (Shifted Right) a b x y w v signed j k h p q e = cc
infix_low (Shifted SignedRight) a b x y w v signed j k h p q e = cc
infix_low (Compared op) a b x y w v signed j k h p q e = extended w v signed (truth (relation_holds op (joined a b).signed (own_with (joined a b) x) (own_with (joined a b) y))) h
infix_low Both a b x y w v signed j k h p q e = extended w v signed (truth (not (is_zero (own_with a x)) && not (is_zero (own_with b y)))) h
infix_low Either a b x y w v signed j k h p q e = extended w v signed (truth (not (is_zero (own_with a x)) || not (is_zero (own_with b y)))) h

prefix_low : (op : Prefix) (a : Shape) (x : ℕ → Bool → List Bool) (w v : ℕ) (signed k : Bool) → w ≤ v → Kept w v signed k x → low_prefix op k ≡ true
    → Low w v (prefix_value op a x v signed) (prefix_value op a x w signed)
prefix_low Plus a x w v signed k h p e = p e
prefix_low Minus a x w v signed k h p e = minus w v (x v signed) (x w signed) h (p e)
prefix_low Invert a x w v signed k h p e = turned w v (x v signed) (x w signed) h (p e)
prefix_low (Reduced op) a x w v signed k h p e = extended w v signed (truth (reduction_holds op (own_with a x))) h

chosen : (c : Bool) (w v : ℕ) (xs ys zs us : List Bool) → Low w v xs ys → Low w v zs us → Low w v (cond c xs zs) (cond c ys us)
chosen true w v xs ys zs us a b = a
chosen false w v xs ys zs us a b = b

low : (s : Names) (t : Tree) (env : Bit → Bool) (w v : ℕ) (signed : Bool) → w ≤ v → Kept w v signed (keeps_low t) (value s t env)
unfolding keeps_low value
low s (Name token name) env w v signed h e = extended w v signed (entity_value env (meant s name)) h
low s (Literal token n) env w v signed h e = extended w v signed (word n.width n.value) h
low s (BitSelect token name i) env w v signed h e = extended w v signed (index_value env (meant s name) (integer_with (form s i) (value s i env))) h
low s (Part token name l r) env w v signed h e = extended w v signed (select (entity_value env (meant s name)) (place (entity_range (meant s name)) (integer_with (form s r) (value s r nowhere))) (span (integer_with (form s l) (value s l nowhere)) (integer_with (form s r) (value s r nowhere)))) h
low s (Indexed token name f n up) env w v signed h e = extended w v signed (select (entity_value env (meant s name)) (lowest_place (entity_range (meant s name)) up (integer_with (form s f) (value s f env)) (count (integer_with (form s n) (value s n nowhere)))) (count (integer_with (form s n) (value s n nowhere)))) h
low s (Unary op t) env w v signed h e = prefix_low (get_or prefixes op Plus) (form s t) (value s t env) w v signed (keeps_low t) h (low s t env w v signed h) e
low s (Binary op l r) env w v signed h e =
    infix_low (get_or infixes op Either) (form s l) (form s r) (value s l env) (value s r env) w v signed (keeps_low l) (keeps_low r) h (low s l env w v signed h) (low s r env w v signed h) e
low s (Cond a b c) env w v signed h e =
    let p = and_parts (keeps_low b) (keeps_low c) e in
    chosen (is_zero (own_with (form s a) (value s a env))) w v _ _ _ _ (low s c env w v signed h p.1) (low s b env w v signed h p.0)
low s (Concat ts) env w v signed h e = extended w v signed (values s ts env) h
low s (Repeat n ts) env w v signed h e = extended w v signed (repeated (count (integer_with (form s n) (value s n nowhere))) (values s ts env)) h
low s (Cast to t) env w v signed h e = extended w v signed (own_with (form s t) (value s t env)) h
low s (Paren t) env w v signed h e = low s t env w v signed h e

pub low_bits_kept : LowBitsKept
low_bits_kept s t env w v signed k h = (low s t env w v signed h k).low
