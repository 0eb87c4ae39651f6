-- Sums of widths that stop at the greatest count of 64 bits.
use Rattle.std.proofs.Common.{◌≡◌, ◌≤◌, ◌<◌, ℕ, zero, suc, ◌+◌, min, List, [], ◌∷◌, length, get_or, map, drop, refl, sym, ◌∙◌, ap, arith}
use Rattle.std.specs.List.{sum}
use Rattle.std.proofs.lemmas.List.Sums.{sum_by-cons}
use Rattle.std.proofs.lemmas.List.{drop_all, drop_more, length-map}
use Rattle.rr_flat.specs.Signals.{Signal}
use Rattle.rr_flat.specs.View.{plain_signal}
use Rattle.rr_flat.specs.declared.signal.Signal.{Signal as ArenaSignal}

abbrev pub Most : ℕ
Most = 18446744073709551615

-- the first i of these widths are counted
pub record Counted (ws : List ℕ) (bits i : ℕ) : Type 0 where
  pub within : i ≤ length ws
  pub same : min (bits + sum (drop i ws)) Most ≡ min (sum ws) Most
  pub most : bits ≤ Most

from_none : (n : ℕ) → 0 + n ≡ n
from_none n = omega arith

pub Counted-none : (ws : List ℕ) → Counted ws 0 0
Counted-none ws = record { within = omega arith; same = ap (λ (n : ℕ). min n Most) (from_none (sum ws)); most = omega arith }

sum_more : (ws : List ℕ) (i : ℕ) → i < length ws → sum (drop i ws) ≡ get_or ws i 0 + sum (drop (i + 1) ws)
sum_more ws i l = ap (λ (xs : List ℕ). sum xs) (drop_more ws i 0 l) ∙ sum_by-cons (λ x. x) (get_or ws i 0) (drop (i + 1) ws)

capped : (b w r s m : ℕ) → s ≡ w + r → min (b + s) m ≡ min (min (b + w) m + r) m
capped b w r s m e = omega (arith, e)

pub Counted-more : (ws : List ℕ) (bits next i w : ℕ) → Counted ws bits i → i < length ws → get_or ws i 0 ≡ w → next ≡ min (bits + w) Most → Counted ws next (i + 1)
Counted-more ws bits next i w h l g e = record {
  within = omega (arith, l);
  same =
      ap (λ (n : ℕ). min (n + sum (drop (i + 1) ws)) Most) e
      ∙ sym (capped bits w (sum (drop (i + 1) ws)) (sum (drop i ws)) Most (sum_more ws i l ∙ ap (λ (n : ℕ). n + sum (drop (i + 1) ws)) g))
      ∙ h.same;
  most = omega (arith, e);
}

pub Counted-all : (ws : List ℕ) (bits i : ℕ) → Counted ws bits i → length ws ≤ i → bits ≡ min (sum ws) Most
Counted-all ws bits i h l =
    let z : sum (drop i ws) ≡ 0 = ap (λ (xs : List ℕ). sum xs) (drop_all i ws l) in
    let s = h.same in
    let m = h.most in
    omega (arith, z, s, m)

-- the widths of signals as they stand in the arena

pub width_at : (signals : List ArenaSignal) (i : ℕ) (d : ArenaSignal) → i < length signals → get_or (map (λ (s : Signal). s.width) (map plain_signal signals)) i 0 ≡ (get_or signals i d).width
width_at [] i d l = absurd (omega (arith, l))
width_at (x ∷ signals) zero d l = refl
width_at (x ∷ signals) (suc i) d l = width_at signals i d (omega (arith, l))

pub width_count : (signals : List ArenaSignal) → length (map (λ (s : Signal). s.width) (map plain_signal signals)) ≡ length signals
width_count signals = length-map (map plain_signal signals) (λ (s : Signal). s.width) ∙ length-map signals plain_signal
