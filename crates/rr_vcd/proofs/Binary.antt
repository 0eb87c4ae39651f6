-- Binary numbers, digit by digit.
use Rattle.std.proofs.Common.{◌≡◌, ℕ, suc, ◌+◌, ◌*◌, ◌<◌, ◌≤◌, ◌^◌, ◌%◌, ◌/◌, Bool, true, false, List, [], ◌∷◌, ◌++◌, length, refl, sym, ◌∙◌, ap, subst, arith, if◌then◌else◌}
use Rattle.std.proofs.Math.Nat.{mod-eq_of_lt, mod-add-div, add-mul-mod_self_left, mul-add-mod_self_right, pow-suc}
use Rattle.std.proofs.lemmas.Nat.{mul-mod_first}
use Rattle.rr_vcd.specs.Values.{binary_from, binary}

abbrev pub bit : Bool → ℕ
bit b = if b then 1 else 0

bit_small : (b : Bool) → bit b ≤ 1
bit_small true = omega arith
bit_small false = omega arith

pub binary_append : (n : ℕ) (xs ys : List Bool) → binary_from n (xs ++ ys) ≡ binary_from (binary_from n xs) ys
unfolding binary_from
binary_append n [] ys = refl
binary_append n (x ∷ xs) ys = binary_append (n * 2 + bit x) xs ys

pub binary_next : (xs : List Bool) (x : Bool) → binary (xs ++ x ∷ []) ≡ binary xs * 2 + bit x
unfolding binary_from
binary_next xs x = binary_append 0 xs (x ∷ [])

shift : (n x p b : ℕ) → (n * 2 + x) * p + b ≡ n * (p * 2) + (x * p + b)
shift n x p b = omega arith

pub binary_split : (n : ℕ) (xs : List Bool) → binary_from n xs ≡ n * 2 ^ length xs + binary xs
unfolding binary_from
binary_split n [] = omega arith
binary_split n (x ∷ xs) =
    let a : binary_from (n * 2 + bit x) xs ≡ (n * 2 + bit x) * 2 ^ length xs + binary xs = binary_split (n * 2 + bit x) xs in
    let b : binary_from (bit x) xs ≡ bit x * 2 ^ length xs + binary xs = binary_split (bit x) xs in
    let z : 0 + bit x ≡ bit x = omega arith in
    let c : 2 ^ suc (length xs) ≡ 2 ^ length xs * 2 = pow-suc 2 (length xs) in
    let d = shift n (bit x) (2 ^ length xs) (binary xs) in
    a ∙ (d ∙ (ap (λ y. n * y + (bit x * 2 ^ length xs + binary xs)) (sym c) ∙ (ap (λ y. n * 2 ^ suc (length xs) + y) (sym b) ∙ ap (λ y. n * 2 ^ suc (length xs) + binary_from y xs) (sym z))))

pub binary_bound : (xs : List Bool) → binary xs < 2 ^ length xs
unfolding binary_from
binary_bound [] = omega arith
binary_bound (x ∷ xs) = let z : 0 + bit x ≡ bit x = omega arith in subst (λ y. binary_from y xs < 2 ^ suc (length xs)) (sym z) (go x (binary_split (bit x) xs) (binary_bound xs))
  where
    go : (b : Bool) → binary_from (bit b) xs ≡ bit b * 2 ^ length xs + binary xs → binary xs < 2 ^ length xs → binary_from (bit b) xs < 2 ^ suc (length xs)
    go true e h = let c : 2 ^ suc (length xs) ≡ 2 ^ length xs * 2 = pow-suc 2 (length xs) in omega arith
    go false e h = let c : 2 ^ suc (length xs) ≡ 2 ^ length xs * 2 = pow-suc 2 (length xs) in omega arith

-- the lowest digits write what is left behind so many binary places
pub binary_low : (xs ys : List Bool) → binary ys ≡ binary (xs ++ ys) % 2 ^ length ys
binary_low xs ys =
    let s : binary (xs ++ ys) ≡ binary xs * 2 ^ length ys + binary ys = binary_append 0 xs ys ∙ binary_split (binary xs) ys in
    sym (ap (λ y. y % 2 ^ length ys) s ∙ (mul-add-mod_self_right (binary xs) (2 ^ length ys) (binary ys) ∙ mod-eq_of_lt (binary_bound ys)))

add_mod : (x d m : ℕ) → (x % m + d) % m ≡ (x + d) % m
add_mod x d m =
    let e : x + d ≡ (x % m + d) + m * (x / m) = let f = mod-add-div x m in omega (arith, f) in
    sym (ap (λ y. y % m) e ∙ add-mul-mod_self_left (x % m + d) m (x / m))

-- one digit more where the highest places fall off
pub low_more : (u n m d : ℕ) → u ≡ n % m → (u * 2 % m + d) % m ≡ (n * 2 + d) % m
low_more u n m d e =
    let f : u * 2 % m ≡ n * 2 % m = ap (λ x. x * 2 % m) e ∙ mul-mod_first n 2 m in
    ap (λ x. (x + d) % m) f ∙ add_mod (n * 2) d m
