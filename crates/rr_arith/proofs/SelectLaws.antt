-- the turns of a selection
use Rattle.std.proofs.Common.{◌≡◌, ◌⊎◌, inl, inr, ℕ, ◌+◌, ◌*◌, ◌/◌, ◌^◌, ◌<◌, ◌≤◌, Bool, false, List, length, get_or, take, refl, sym, ◌∙◌, ap, arith}
use Rattle.std.proofs.lemmas.Bool.{cases_lt}
use Rattle.std.proofs.lemmas.Grind.{pow_more}
use Rattle.std.proofs.lemmas.List.{take_all, get_or-map, get_or_past}
use Rattle.std.proofs.lemmas.List.Elements.{All-get_or}
use Rattle.rr_circuit.specs.declared.Wire.{Wire}
use Rattle.rr_circuit.specs.Values.{Netlist, wire_value, IsWire, Extends, AreWires, wire_values}
use Rattle.rr_circuit.proofs.Netlists.{Extends-trans, Extends-refl}
use Rattle.rr_bits.specs.Words.{bit, number, tabulate}
use Rattle.rr_bits.proofs.Places.{length_tabulate, get_tabulate}
use Rattle.rr_arith.proofs.Ripple.{number-take, width-values}
use Rattle.rr_arith.proofs.ShiftLaws.{Filled, turned_bit}

abbrev pub halved_bit : Netlist → List Wire → Wire → Wire → (ℕ → Bool) → ℕ → Bool
halved_bit n xs test none env j = turned_bit n xs test 1 none env (2 * j)

bit_small : (b : Bool) → bit b ≤ 1
bit_small b = grind arith

pub Halved-all : (start now : Netlist) (xs out : List Wire) (test none : Wire) (i : ℕ) → Filled start now (halved_bit start xs test none) out i → i ≡ (length xs + 1) / 2 → ((env : ℕ → Bool) → wire_value start env none ≡ false) → (env : ℕ → Bool) (k : ℕ) → get_or (wire_values now env out) k false ≡ get_or (wire_values start env xs) (2 * k + bit (wire_value start env test)) false
Halved-all start now xs out test none i r e f env k =
    ap (λ vs. get_or vs k false) (r.value env) ∙ by_cases (cases_lt k i)
  where
    by_cases : ((k < i) ⊎ (i ≤ k)) → get_or (tabulate i (halved_bit start xs test none env)) k false ≡ get_or (wire_values start env xs) (2 * k + bit (wire_value start env test)) false
    by_cases (inl l) =
        let n : 2 * k + 1 * bit (wire_value start env test) ≡ 2 * k + bit (wire_value start env test) = omega arith in
        get_tabulate i k (halved_bit start xs test none env) false l ∙ rw (n, f env) refl
    by_cases (inr l) =
        let a = length_tabulate i (halved_bit start xs test none env) in
        let w = width-values start env xs in
        get_or_past (tabulate i (halved_bit start xs test none env)) k false (omega arith) ∙ sym (get_or_past (wire_values start env xs) (2 * k + bit (wire_value start env test)) false (omega arith))

-- the wires that are left after i bits of the place
pub record Selected (start now : Netlist) (xs at out : List Wire) (i : ℕ) : Type 0 where
  pub extends : Extends start now
  pub wires : AreWires now out
  pub some : 1 ≤ length out
  pub few : length out ≤ 128
  pub value : (env : ℕ → Bool) (k : ℕ) → get_or (wire_values now env out) k false ≡ get_or (wire_values start env xs) (number (wire_values start env (take i at)) + 2 ^ i * k) false

pub Selected-none : (start : Netlist) (xs at out : List Wire) → AreWires start xs → 1 ≤ length xs → length xs ≤ 128 → out ≡ xs → Selected start start xs at out 0
unfolding number
Selected-none start xs at out h l m e = record {
  extends = Extends-refl start;
  wires = rw e h;
  some = rw e l;
  few = rw e m;
  value = λ env k. rw e (ap (λ n. get_or (wire_values start env xs) n false) (omega arith));
}

pub Selected-more : (start now next : Netlist) (xs at out slice new : List Wire) (d : Wire) (i : ℕ) → slice ≡ out → Selected start now xs at out i → i < length at → AreWires start at → Extends now next → AreWires next new → length new ≡ (length slice + 1) / 2 → ((env : ℕ → Bool) (k : ℕ) → get_or (wire_values next env new) k false ≡ get_or (wire_values now env slice) (2 * k + bit (wire_value now env (get_or at i d))) false) → Selected start next xs at new (i + 1)
Selected-more start now next xs at out slice new d i is r l ha e h w v = record {
  extends = Extends-trans start now next r.extends e;
  wires = h;
  some = let a = r.some in let b : length slice ≡ length out = ap length is in omega arith;
  few = let a = r.few in let b : length slice ≡ length out = ap length is in omega arith;
  value = λ env k.
      let same = r.extends.values env (get_or at i d) (All-get_or (IsWire start) at i d l ha) in
      let here = rw (is, same) at (v env k) in
      let place = spread (number (wire_values start env (take i at))) (2 ^ i) (bit (wire_value start env (get_or at i d))) k in
      here ∙ r.value env (2 * k + bit (wire_value start env (get_or at i d))) ∙ ap (λ n. get_or (wire_values start env xs) n false) (place ∙ rw (number-take start env at i d l, pow_more 2 i) refl);
}
  where
    spread : (a p b k : ℕ) → a + p * (2 * k + b) ≡ (a + p * b) + p * 2 * k
    spread a p b k = omega arith

pub Selected-all : (start now : Netlist) (xs at out : List Wire) (d : Wire) (i : ℕ) → Selected start now xs at out i → i ≡ length at → (env : ℕ → Bool) → wire_value now env (get_or out 0 d) ≡ get_or (wire_values start env xs) (number (wire_values start env at)) false
Selected-all start now xs at out d i r e env =
    let s = r.some in
    let z : number (wire_values start env at) + 2 ^ i * 0 ≡ number (wire_values start env at) = omega arith in
    sym (get_or-map (wire_value now env) out 0 d false (omega arith)) ∙ r.value env 0 ∙ rw (take_all i at (omega arith), z) refl
