-- Numbers and picks from the bits of a slice, and numbers cut to a width.
use Rattle.std.proofs.Common.{◌≡◌, ℕ, zero, suc, ◌+◌, ◌-◌, ◌*◌, ◌^◌, ◌%◌, ◌<◌, ◌≤◌, Bool, true, false, List, [], ◌∷◌, ◌++◌, length, take, drop, get_or, refl, sym, ◌∙◌, ap, subst, arith, add-one, append_assoc, length-drop, length-take, drop-cons}
use Rattle.std.proofs.lemmas.List.{append-nil, drop_all, get_or-map, length-map}
use Rattle.std.proofs.Math.Nat.{mod-eq_of_lt}
use Rattle.std.proofs.Math.Pow.{pow_mono}
use Rattle.rr_bits.specs.Words.{bit, number}
use Rattle.rr_bits.proofs.Numbers.{number-lt}
use Rattle.rr_syntax.specs.declared.site.Site.{Site as ArenaSite}
use Rattle.rr_choice.specs.declared.pick.Pick.{Pick}
use Rattle.rr_choice.specs.Sites.{Site, IsSite, IsSiteList}
use Rattle.rr_choice.specs.Choices.{site_bits, total_bits, read_pick, decode}
use Rattle.rr_choice.specs.View.{plain_site, plain_sites}

number_cons : (b : Bool) (bs : List Bool) → number (b ∷ bs) ≡ bit b + 2 * number bs
unfolding number
number_cons b bs = refl

pub number_down : (bits : List Bool) (i : ℕ) (d : Bool) → i < length bits → number (drop i bits) ≡ bit (get_or bits i d) + 2 * number (drop (i + 1) bits)
number_down bits i d l = ap number (drop-cons bits i d l) ∙ number_cons (get_or bits i d) (drop (suc i) bits) ∙ ap (λ k. bit (get_or bits i d) + 2 * number (drop k bits)) (sym (add-one i))

pub number_none : (bits : List Bool) (i : ℕ) → length bits ≤ i → number (drop i bits) ≡ 0
unfolding number
number_none bits i l = rw (drop_all i bits l) refl

-- one more bit is below 2 to the number of bits from there
pub number_room : (bits : List Bool) (i : ℕ) → length bits ≤ 128 → i < length bits → 2 * number (drop (i + 1) bits) + 1 < 2 ^ 128
number_room bits i w l =
    let n = number-lt (drop (i + 1) bits) in
    let e = length-drop (i + 1) bits in
    let m : 2 ^ length (drop (i + 1) bits) ≤ 2 ^ 127 = pow_mono {i = length (drop (i + 1) bits)} {j = 127} (omega (arith, e)) in
    omega (arith, n, m)

-- few bits write a small number
pub number_small_of : (bits : List Bool) (w : ℕ) → length bits ≤ w → w ≤ 7 → number bits < 256
number_small_of bits w l h =
    let n = number-lt bits in
    let m : 2 ^ length bits ≤ 2 ^ 7 = pow_mono {i = length bits} {j = 7} (omega (arith, l, h)) in
    omega (arith, n, m)

pub number_taken : (bits : List Bool) (w : ℕ) → w ≤ 7 → number (take w bits) < 256
number_taken bits w h = number_small_of (take w bits) w (let e = length-take w bits in omega (arith, e)) h

drop_none : {A : Type 0} (n : ℕ) → drop {A = A} n [] ≡ []
drop_none zero = refl
drop_none (suc n) = refl

drop_twice : {A : Type 0} (m n : ℕ) (xs : List A) → drop n (drop m xs) ≡ drop (m + n) xs
drop_twice zero n xs = let e : 0 + n ≡ n = omega arith in rw e refl
drop_twice (suc m) n [] = drop_none n ∙ sym (drop_none (suc m + n))
drop_twice (suc m) n (x ∷ xs) = let e : suc m + n ≡ suc (m + n) = omega arith in rw e (drop_twice m n xs)

-- each site of a list in the arena
pub site_fits : (list : List ArenaSite) (sites : List Site) (i : ℕ) (d : ArenaSite) → plain_sites list ≡ sites → IsSiteList sites → i < length list → IsSite (plain_site (get_or list i d))
site_fits list sites i d e g l =
    let n = length-map list plain_site in
    let h : IsSiteList (plain_sites list) = subst IsSiteList (sym e) g in
    subst IsSite (get_or-map plain_site list i d (plain_site d) l) (h.each i (plain_site d) (omega (arith, l, n)))

-- the sites from one on, and the choice that bits from a place on write for them
module _ (sites : List ArenaSite) (i : ℕ) (d : ArenaSite) (l : i < length sites) where
  pub sites_here : plain_sites (drop i sites) ≡ plain_site (get_or sites i d) ∷ plain_sites (drop (i + 1) sites)
  sites_here = ap plain_sites (drop-cons sites i d l) ∙ ap (λ k. plain_site (get_or sites i d) ∷ plain_sites (drop k sites)) (sym (add-one i))

  pub total_here : total_bits (plain_sites (drop i sites)) ≡ site_bits (plain_site (get_or sites i d)) + total_bits (plain_sites (drop (i + 1) sites))
  unfolding total_bits
  total_here = ap total_bits sites_here

  decode_here : (bits : List Bool) → decode (plain_sites (drop i sites)) bits ≡ read_pick (plain_site (get_or sites i d)) bits ∷ decode (plain_sites (drop (i + 1) sites)) (drop (site_bits (plain_site (get_or sites i d))) bits)
  unfolding decode
  decode_here bits = ap (λ (ss : List Site). decode ss bits) sites_here

  pub decoded_more : (picks : List Pick) (at size : ℕ) (bits : List Bool) → size ≡ site_bits (plain_site (get_or sites i d)) →
      decode (plain_sites sites) bits ≡ picks ++ decode (plain_sites (drop i sites)) (drop at bits) →
      decode (plain_sites sites) bits ≡ (picks ++ read_pick (plain_site (get_or sites i d)) (drop at bits) ∷ []) ++ decode (plain_sites (drop (i + 1) sites)) (drop (at + size) bits)
  decoded_more picks at size bits e h =
      h ∙ ap (λ (ps : List Pick). picks ++ ps) (decode_here (drop at bits)
      ∙ ap (λ (bs : List Bool). read_pick (plain_site (get_or sites i d)) (drop at bits) ∷ decode (plain_sites (drop (i + 1) sites)) bs)
      (drop_twice at (site_bits (plain_site (get_or sites i d))) bits ∙ ap (λ k. drop (at + k) bits) (sym e)))
      ∙ sym (append_assoc picks (read_pick (plain_site (get_or sites i d)) (drop at bits) ∷ []) (decode (plain_sites (drop (i + 1) sites)) (drop (at + size) bits)))

pub total_end : (sites : List ArenaSite) (i : ℕ) → length sites ≤ i → total_bits (plain_sites (drop i sites)) ≡ 0
unfolding total_bits
total_end sites i l = ap (λ (xs : List ArenaSite). total_bits (plain_sites xs)) (drop_all i sites l)

pub decoded_all : (sites : List ArenaSite) (picks : List Pick) (i at : ℕ) (bits : List Bool) → length sites ≤ i → decode (plain_sites sites) bits ≡ picks ++ decode (plain_sites (drop i sites)) (drop at bits) → picks ≡ decode (plain_sites sites) bits
unfolding decode
decoded_all sites picks i at bits l h = sym (h ∙ ap (λ (xs : List ArenaSite). picks ++ decode (plain_sites xs) (drop at bits)) (drop_all i sites l) ∙ append-nil picks)

-- with one more bit from below
pub room_down : (bits : List Bool) (i v : ℕ) → length bits ≤ 128 → 0 < i → i ≤ length bits → v ≡ number (drop i bits) → 2 * v + 1 < 2 ^ 128
room_down bits i v w p l e =
    let one : i - 1 + 1 ≡ i = omega (arith, p) in
    let r = number_room bits (i - 1) w (omega (arith, p, l)) in
    let q : 2 * number (drop i bits) + 1 < 2 ^ 128 = subst (λ k. 2 * number (drop k bits) + 1 < 2 ^ 128) one r in
    subst (λ k. 2 * k + 1 < 2 ^ 128) (sym e) q

pub value_down : (bits : List Bool) (i low v : ℕ) → 0 < i → i ≤ length bits → low ≡ bit (get_or bits (i - 1) false) → v ≡ number (drop i bits) → low + 2 * v ≡ number (drop (i - 1) bits)
value_down bits i low v p l a e =
    let one : i - 1 + 1 ≡ i = omega (arith, p) in
    let n = number_down bits (i - 1) false (omega (arith, p, l)) in
    let q : number (drop (i - 1) bits) ≡ bit (get_or bits (i - 1) false) + 2 * number (drop i bits) = subst (λ k. number (drop (i - 1) bits) ≡ bit (get_or bits (i - 1) false) + 2 * number (drop k bits)) one n in
    omega (arith, q, a, e)

pub bit_small : (b : Bool) → bit b ≤ 1
bit_small true = omega arith
bit_small false = omega arith

-- a number of 128 bits is itself at a width of as many
pub wide_cut : (value width : ℕ) → value < 2 ^ 128 → 128 ≤ width → value ≡ value % 2 ^ width
wide_cut value width h w =
    let m : 2 ^ 128 ≤ 2 ^ width = pow_mono {i = 128} {j = width} w in
    sym (mod-eq_of_lt {n = value} {m = 2 ^ width} (omega (arith, h, m)))
