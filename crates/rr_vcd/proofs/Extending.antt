-- Digits that are extended to the left, and their lowest ones.
use Rattle.std.proofs.Common.{◌≡◌, ℕ, zero, suc, ◌||◌, ◌==◌, append-nil, ◌+◌, ◌-◌, ◌*◌, ◌<◌, ◌≤◌, ◌^◌, ◌%◌, Bool, true, false, List, [], ◌∷◌, ◌++◌, length, take, drop, map, get_or, Option, Some, None, refl, sym, ◌∙◌, ap, subst, arith, if◌then◌else◌, append_assoc}
use Rattle.std.specs.Prelude.{replicate, slice_get}
use Rattle.std.proofs.Math.Seq.{drop-append-add, take-length}
use Rattle.std.proofs.lemmas.List.{length-replicate, replicate-append-replicate, length-map, map-append, take-append-drop, length-drop, length-append, take_more, drop-drop}
use Rattle.std.proofs.Math.Nat.{mod-le, mod-eq_of_lt, pow-le-pow_right}
use Rattle.rr_trace.specs.declared.cell.Cell.{Cell}
use Rattle.rr_vcd.specs.Values.{binary_from, binary, is_one, is_known, extension, extended, cell_of}
use Rattle.rr_vcd.proofs.Binary.{bit, binary_low, binary_next, low_more}

-- the digits of so many places, before the highest are left out
abbrev pub whole : ℕ → List ℕ → List ℕ
whole width digits = replicate width (extension digits) ++ digits

length_whole : (w : ℕ) (digits : List ℕ) → length (whole w digits) ≡ w + length digits
length_whole w digits = length-append (replicate w (extension digits)) digits ∙ ap (λ n. n + length digits) (length-replicate w (extension digits))

pub length_extended : (w : ℕ) (digits : List ℕ) → length (extended w digits) ≡ w
length_extended w digits =
    let a = length-drop (length digits) (whole w digits) in
    let b = length_whole w digits in
    omega (arith, a, b)

-- what is left of all digits
pub low_is : (f : ℕ → Bool) (w : ℕ) (digits : List ℕ) → binary (map f (extended w digits)) ≡ binary (map f (whole w digits)) % 2 ^ w
low_is f w digits =
    let front = take (length digits) (whole w digits) in
    let both : map f front ++ map f (extended w digits) ≡ map f (whole w digits) =
    sym (map-append f front (extended w digits)) ∙ ap (map f) (take-append-drop (length digits) (whole w digits)) in
    let size : length (map f (extended w digits)) ≡ w = length-map (extended w digits) f ∙ length_extended w digits in
    binary_low (map f front) (map f (extended w digits)) ∙ (ap (λ xs. binary xs % 2 ^ length (map f (extended w digits))) both ∙ ap (λ n. binary (map f (whole w digits)) % 2 ^ n) size)

-- fewer places are the lowest of more
narrow_digits : (w v : ℕ) (digits : List ℕ) → w + v ≡ 128 → extended w digits ≡ drop v (extended 128 digits)
narrow_digits w v digits e =
    let r : replicate v (extension digits) ++ replicate w (extension digits) ≡ replicate 128 (extension digits) = replicate-append-replicate v w (extension digits) ∙ let h : v + w ≡ 128 = omega arith in ap (λ n. replicate n (extension digits)) h in
    let split : whole 128 digits ≡ replicate v (extension digits) ++ whole w digits = ap (λ xs. xs ++ digits) (sym r) ∙ append_assoc (replicate v (extension digits)) (replicate w (extension digits)) digits in
    let size : length (replicate v (extension digits)) ≡ v = length-replicate v (extension digits) in
    let go : drop (v + length digits) (whole 128 digits) ≡ extended w digits =
    ap (drop (v + length digits)) split ∙ (ap (λ n. drop (n + length digits) (replicate v (extension digits) ++ whole w digits)) (sym size) ∙ drop-append-add (replicate v (extension digits)) (whole w digits) (length digits)) in
    let dd : drop v (drop (length digits) (whole 128 digits)) ≡ drop (v + length digits) (whole 128 digits) = drop-drop v (length digits) (whole 128 digits) ∙ let h : length digits + v ≡ v + length digits = omega arith in ap (λ n. drop n (whole 128 digits)) h in
    sym (dd ∙ go)

narrow_part : (f : ℕ → Bool) (w : ℕ) (digits : List ℕ) → w ≤ 128 → binary (map f (extended w digits)) ≡ binary (map f (extended 128 digits)) % 2 ^ w
narrow_part f w digits l =
    let e : w + (128 - w) ≡ 128 = omega arith in
    let d = narrow_digits w (128 - w) digits e in
    let front = take (128 - w) (extended 128 digits) in
    let both : map f front ++ map f (extended w digits) ≡ map f (extended 128 digits) =
    ap (λ xs. map f front ++ map f xs) d ∙ (sym (map-append f front (drop (128 - w) (extended 128 digits))) ∙ ap (map f) (take-append-drop (128 - w) (extended 128 digits))) in
    let size : length (map f (extended w digits)) ≡ w = length-map (extended w digits) f ∙ length_extended w digits in
    binary_low (map f front) (map f (extended w digits)) ∙ (ap (λ xs. binary xs % 2 ^ length (map f (extended w digits))) both ∙ ap (λ n. binary (map f (extended 128 digits)) % 2 ^ n) size)

zero_mod : (m : ℕ) → 0 % m ≡ 0
zero_mod m = let h = mod-le 0 m in omega (arith, h)

abbrev pub narrow : ℕ → Cell → Cell
narrow w c = record { value = c.value % 2 ^ w; known = c.known % 2 ^ w }

pub narrow_is : (w : ℕ) (change : Option (List ℕ)) → w ≤ 128 → narrow w (cell_of 128 change) ≡ cell_of w change
narrow_is w None l = rw (zero_mod (2 ^ w)) refl
narrow_is w (Some digits) l = rw (narrow_part is_one w digits l, narrow_part is_known w digits l) refl

limit : (w : ℕ) → w < 128 → 1 * 2 ^ w % 2 ^ 128 ≡ 2 ^ w
limit w l =
    let p : 2 ^ w ≤ 2 ^ 127 = let l127 : w ≤ 127 = omega arith in pow-le-pow_right {n = 2} (omega arith) l127 in
    let e : 1 * 2 ^ w ≡ 2 ^ w = omega arith in
    let less : 2 ^ w < 2 ^ 128 = omega (arith, p) in
    ap (λ n. n % 2 ^ 128) e ∙ mod-eq_of_lt less

pub narrowed_is : (w : ℕ) (c : Cell) (change : Option (List ℕ)) → w < 128 → c ≡ cell_of 128 change → record { value = c.value % (1 * 2 ^ w % 2 ^ 128); known = c.known % (1 * 2 ^ w % 2 ^ 128) } ≡ cell_of w change
narrowed_is w c change l is = ap (λ m. record { value = c.value % m; known = c.known % m }) (limit w l) ∙ (ap (narrow w) is ∙ narrow_is w change (omega arith))

pub wide_is : (w : ℕ) (c : Cell) (change : Option (List ℕ)) → 128 ≤ w → w ≤ 128 → c ≡ cell_of 128 change → c ≡ cell_of w change
wide_is w c change l h is = let e : 128 ≡ w = omega arith in is ∙ ap (λ n. cell_of n change) e

-- reading: the front of all digits up to a place
pub record Reads (digits : List ℕ) (at v k : ℕ) : Type 0 where
  pub value : v ≡ binary (map is_one (replicate 128 (extension digits) ++ take at digits)) % 2 ^ 128
  pub known : k ≡ binary (map is_known (replicate 128 (extension digits) ++ take at digits)) % 2 ^ 128

part_more : (f : ℕ → Bool) (digits front : List ℕ) (at u : ℕ) → at < length digits → u ≡ binary (map f (front ++ take at digits)) % 2 ^ 128
    → (u * 2 % 2 ^ 128 + bit (f (get_or digits at 0))) % 2 ^ 128 ≡ binary (map f (front ++ take (at + 1) digits)) % 2 ^ 128
part_more f digits front at u l e =
    let t : front ++ take (at + 1) digits ≡ (front ++ take at digits) ++ get_or digits at 0 ∷ [] =
    ap (λ xs. front ++ xs) (take_more digits at 0 l) ∙ sym (append_assoc front (take at digits) (get_or digits at 0 ∷ [])) in
    let m : map f (front ++ take (at + 1) digits) ≡ map f (front ++ take at digits) ++ f (get_or digits at 0) ∷ [] =
    ap (map f) t ∙ map-append f (front ++ take at digits) (get_or digits at 0 ∷ []) in
    let b = ap binary m ∙ binary_next (map f (front ++ take at digits)) (f (get_or digits at 0)) in
    low_more u (binary (map f (front ++ take at digits))) (2 ^ 128) (bit (f (get_or digits at 0))) e ∙ ap (λ n. n % 2 ^ 128) (sym b)

pub Reads-more : (digits : List ℕ) (at value known v k : ℕ) → Reads digits at value known → at < length digits
    → v ≡ (value * 2 % 2 ^ 128 + bit (is_one (get_or digits at 0))) % 2 ^ 128 → k ≡ (known * 2 % 2 ^ 128 + bit (is_known (get_or digits at 0))) % 2 ^ 128
    → Reads digits (at + 1) v k
Reads-more digits at value known v k r l p q = record {
  value = p ∙ part_more is_one digits (replicate 128 (extension digits)) at value l r.value;
  known = q ∙ part_more is_known digits (replicate 128 (extension digits)) at known l r.known;
}

take_all : (xs : List ℕ) (n : ℕ) → n ≡ length xs → take n xs ≡ xs
take_all xs n e = ap (λ k. take k xs) e ∙ take-length xs

pub Reads-all : (digits : List ℕ) (at value known : ℕ) → Reads digits at value known → at ≡ length digits → record { value = value; known = known } ≡ cell_of 128 (Some digits)
Reads-all digits at value known r e =
    let t = take_all digits at e in
    let v : value ≡ binary (map is_one (extended 128 digits)) = r.value ∙ (ap (λ xs. binary (map is_one (replicate 128 (extension digits) ++ xs)) % 2 ^ 128) t ∙ sym (low_is is_one 128 digits)) in
    let k : known ≡ binary (map is_known (extended 128 digits)) = r.known ∙ (ap (λ xs. binary (map is_known (replicate 128 (extension digits) ++ xs)) % 2 ^ 128) t ∙ sym (low_is is_known 128 digits)) in
    rw (v, k) refl

-- before the first digit
ones : binary (map is_known (replicate 128 48)) % 2 ^ 128 ≡ 2 ^ 128 - 1
unfolding binary_from
ones = refl

none_of : (f : ℕ → Bool) (n b : ℕ) → f b ≡ false → binary (map f (replicate n b)) ≡ 0
unfolding binary_from
none_of f zero b e = refl
none_of f (suc n) b e = rw e (none_of f n b e)

front_is : (f : ℕ → Bool) (digits : List ℕ) (x : ℕ) → extension digits ≡ x → binary (map f (replicate 128 (extension digits) ++ take 0 digits)) % 2 ^ 128 ≡ binary (map f (replicate 128 x)) % 2 ^ 128
front_is f digits x e = ap (λ y. binary (map f (replicate 128 y ++ [])) % 2 ^ 128) e ∙ ap (λ xs. binary (map f xs) % 2 ^ 128) (append-nil (replicate 128 x))

zeros : (f : ℕ → Bool) (x : ℕ) → f x ≡ false → 0 ≡ binary (map f (replicate 128 x)) % 2 ^ 128
zeros f x e = sym (ap (λ n. n % 2 ^ 128) (none_of f 128 x e) ∙ zero_mod (2 ^ 128))

one_known : (x : ℕ) → is_known x ≡ false → is_one x ≡ false
one_known x e = go (x == 48) (x == 49) e
  where
    go : (a b : Bool) → (a || b) ≡ false → b ≡ false
    go true b e = cc
    go false b e = e

-- no digit was read, and the first decides what extends them
pub Reads-known : (digits : List ℕ) → extension digits ≡ 48 → Reads digits 0 0 (2 ^ 128 - 1)
Reads-known digits e = record {
  value = zeros is_one 48 refl ∙ sym (front_is is_one digits 48 e);
  known = sym (front_is is_known digits 48 e ∙ ones);
}

pub Reads-unknown : (digits : List ℕ) (x : ℕ) → extension digits ≡ x → is_known x ≡ false → Reads digits 0 0 0
Reads-unknown digits x e u = record {
  value = zeros is_one x (one_known x u) ∙ sym (front_is is_one digits x e);
  known = zeros is_known x u ∙ sym (front_is is_known digits x e);
}

pub Reads-none : (digits : List ℕ) (known : ℕ) → known ≡ (if is_known (extension digits) then 2 ^ 128 - 1 else 0) → Reads digits 0 0 known
Reads-none [] known e = subst (Reads [] 0 0) (sym e) (Reads-known [] refl)
Reads-none (b ∷ bs) known e = go (is_known b) refl e
  where
    go : (x : Bool) → is_known b ≡ x → known ≡ (if is_known (if x then 48 else b) then 2 ^ 128 - 1 else 0) → Reads (b ∷ bs) 0 0 known
    go true h e = subst (Reads (b ∷ bs) 0 0) (sym e) (Reads-known (b ∷ bs) (ap (λ x. if x then 48 else b) h))
    go false h e = subst (Reads (b ∷ bs) 0 0) (sym (e ∙ ap (λ x. if x then 2 ^ 128 - 1 else 0) h)) (Reads-unknown (b ∷ bs) b (ap (λ x. if x then 48 else b) h) h)

pub extension_known : (digits : List ℕ) (b : ℕ) → slice_get digits 0 ≡ Some b → is_known (extension digits) ≡ is_known b
extension_known [] b e = cc
extension_known (x ∷ xs) b e = let same : x ≡ b = cc in go (is_known x) refl ∙ ap is_known same
  where
    go : (y : Bool) → is_known x ≡ y → is_known (if y then 48 else x) ≡ is_known x
    go true h = sym h
    go false h = refl

pub extension_none : (digits : List ℕ) → slice_get digits 0 ≡ None → is_known (extension digits) ≡ true
extension_none [] e = refl
extension_none (x ∷ xs) e = cc
