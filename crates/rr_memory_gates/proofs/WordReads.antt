-- the words of a memory that an index reads, one word after the other
use Rattle.std.proofs.Common.{◌≡◌, ℕ, ◌+◌, ◌<◌, ◌≤◌, ◌⊎◌, inl, inr, Bool, true, false, ◌||◌, if◌then◌else◌, List, length, get_or, map, Option, Some, None, refl, sym, ◌∙◌, ap, ap₂, ℤ, pos}
use mathlib.Core.Path.{fun_ext}
use Rattle.std.specs.Prelude.{Vec}
use Rattle.std.specs.Global.{Global}
use Rattle.std.specs.Ordering.{int_eq}
use Rattle.std.proofs.lemmas.Bool.{cases_lt}
use Rattle.std.proofs.lemmas.List.{get_or_past}
use Rattle.rr_bits.specs.Words.{tabulate, word, reading}
use Rattle.rr_bits.proofs.Places.{length_tabulate, get_tabulate}
use Rattle.rr_circuit.specs.declared.Wire.{Wire}
use Rattle.rr_circuit.specs.Values.{Netlist, Extends, AreWires, wire_value, wire_values}
use Rattle.rr_circuit.proofs.Netlists.{Extends-trans, wire_values-extends}
use Rattle.rr_expr.specs.declared.types.Bit.{Bit}
use Rattle.rr_expr.specs.declared.types.Entity.TheVariants as entity
use Rattle.rr_expr.specs.Memories.{word_at, word_signal, word_bits, bit_value, index_value}
use Rattle.rr_expr.proofs.MemoryWords.{no_word_value, some_word_value, zero_word}
use Rattle.rr_expr.specs.Scopes.{env_of_lists, range_width}
use Rattle.rr_expr.specs.Selects.{place}
use Rattle.rr_word_gates.specs.declared.words.Connective.TheVariants.{Or}
use Rattle.rr_word_gates.specs.Carried.{Carries, CarriesBit}
use Rattle.rr_word_gates.specs.Gates.{bitwise}
use Rattle.rr_word_gates.proofs.Carrying.{Carries-same, tabulated}
use Rattle.rr_word_gates.proofs.MemoryLaws.{IsNext, next_word, no_word}
use Rattle.rr_blast_sites.specs.Signals.{AreSignals, signal_values}
use Rattle.rr_blast_sites.proofs.SignalLaws.{signal_values-extends}
use Rattle.rr_memory_gates.specs.declared.Memory.{Memory}
use Rattle.rr_memory_gates.specs.Reading.{first_words, word_read, word_value}

-- words of zeros

abbrev pub zeros : ℕ → List Bool
zeros width = tabulate width (λ i. false)

zero_at : (width i : ℕ) → get_or (zeros width) i false ≡ false
zero_at width i = by_cases (cases_lt i width)
  where
    by_cases : ((i < width) ⊎ (width ≤ i)) → get_or (zeros width) i false ≡ false
    by_cases (inl l) = get_tabulate width i (λ j. false) false l
    by_cases (inr l) = get_or_past (zeros width) i false (rw (length_tabulate width (λ j. false)) l)

or_false : (x : Bool) → (x || false) ≡ x
or_false true = refl
or_false false = refl

or_zeros : (width : ℕ) (xs : List Bool) → bitwise Or xs (zeros width) ≡ xs
or_zeros width xs = ap (tabulate (length xs)) (fun_ext (λ (i : ℕ). ap (λ b. get_or xs i false || b) (zero_at width i) ∙ or_false (get_or xs i false))) ∙ tabulated xs false

zeros_or : (width : ℕ) (xs : List Bool) → length xs ≡ width → bitwise Or (zeros width) xs ≡ xs
zeros_or width xs e =
    ap (λ n. tabulate n (λ i. get_or (zeros width) i false || get_or xs i false)) (length_tabulate width (λ i. false) ∙ sym e)
    ∙ ap (tabulate (length xs)) (fun_ext (λ (i : ℕ). ap (λ b. b || get_or xs i false) (zero_at width i)))
    ∙ tabulated xs false

length_value : (env : Bit → Bool) (width : ℕ) (word : Option ℕ) → length (word_value env width word) ≡ width
length_value env width None = length_tabulate width (λ i. false)
length_value env width (Some id) = length_tabulate width (λ i. env (record { signal = id; place = i }))

-- one word more is asked
read_more : (env : Bit → Bool) (m : Memory) (k : ℕ) (i at : ℤ) → at ≡ pos k →
    bitwise Or (word_read env (first_words k m) i) (if int_eq (place (m.low, m.low) i) at then word_value env m.width (Some (m.first + k)) else zeros m.width) ≡ word_read env (first_words (k + 1) m) i
read_more env m k i at e = by_cases (next_word m.low k i at e)
  where
    by_cases : ((int_eq (place (m.low, m.low) i) at ≡ true) × IsNext m.low k i) ⊎ ((int_eq (place (m.low, m.low) i) at ≡ false) × (word_at m.low (k + 1) i ≡ word_at m.low k i)) →
        bitwise Or (word_read env (first_words k m) i) (if int_eq (place (m.low, m.low) i) at then word_value env m.width (Some (m.first + k)) else zeros m.width) ≡ word_read env (first_words (k + 1) m) i
    by_cases (inl (t, n)) =
        ap₂ (λ (o : Option ℕ) (b : Bool). bitwise Or (word_value env m.width (word_signal m.first o)) (if b then word_value env m.width (Some (m.first + k)) else zeros m.width)) n.before t
        ∙ zeros_or m.width (word_value env m.width (Some (m.first + k))) (length_value env m.width (Some (m.first + k)))
        ∙ sym (ap (λ (o : Option ℕ). word_value env m.width (word_signal m.first o)) n.new)
    by_cases (inr (f, s)) =
        ap (λ (b : Bool). bitwise Or (word_read env (first_words k m) i) (if b then word_value env m.width (Some (m.first + k)) else zeros m.width)) f
        ∙ or_zeros m.width (word_read env (first_words k m) i)
        ∙ sym (ap (λ (o : Option ℕ). word_value env m.width (word_signal m.first o)) s)

pub read_none : (env : Bit → Bool) (m : Memory) (i : ℤ) → zeros m.width ≡ word_read env (first_words 0 m) i
read_none env m i = sym (ap (λ (o : Option ℕ). word_value env m.width (word_signal m.first o)) (no_word m.low i))

pub read_all : (env : Bit → Bool) (m : Memory) (k : ℕ) (i : ℤ) → k ≡ m.words → word_read env (first_words k m) i ≡ word_read env m i
read_all env m k i e = ap (λ (n : ℕ). word_value env m.width (word_signal m.first (word_at m.low n i))) e

-- what is read, by the wires

abbrev pub read_from : Netlist → List (Vec Wire Global) → List Wire → Bool → Memory → (ℕ → Bool) → List Bool
read_from n signals ys signed m input = word_read (env_of_lists (signal_values n input signals)) m (reading signed (wire_values n input ys))

pub read-extends : (old new : Netlist) (signals : List (Vec Wire Global)) (ys : List Wire) (signed : Bool) (m : Memory) → Extends old new → AreSignals old signals → AreWires old ys → (input : ℕ → Bool) → read_from new signals ys signed m input ≡ read_from old signals ys signed m input
read-extends old new signals ys signed m e hs hy input =
    ap₂ (λ (vs : List (List Bool)) (us : List Bool). word_read (env_of_lists vs) m (reading signed us)) (signal_values-extends old new input signals e hs) (wire_values-extends old new ys input e hy)

pub with-carried : (start n m k : Netlist) (signals : List (Vec Wire Global)) (ys before wires us part vs out : List Wire) (signed : Bool) (mem : Memory) (w : ℕ) (at : ℤ) (here : Wire) (none : List Bool)
    → Extends start n → Extends n m → AreSignals start signals → AreWires start before → at ≡ pos w → none ≡ word mem.width 0 → us ≡ wires → vs ≡ part
    → CarriesBit n here (λ input. int_eq (place (mem.low, mem.low) (reading signed (wire_values start input ys))) at)
    → Carries n wires (λ input. word_value (env_of_lists (signal_values n input signals)) mem.width (Some (mem.first + w)))
    → Carries m part (λ input. (if (wire_value n input here) then (wire_values n input us) else none))
    → Carries k out (λ input. bitwise Or (wire_values m input before) (wire_values m input vs))
    → Carries start before (read_from start signals ys signed (first_words w mem)) → Carries k out (read_from start signals ys signed (first_words (w + 1) mem))
with-carried start n m k signals ys before wires us part vs out signed mem w at here none x y hs hb e z u v ch cw cp co cb = record {
  wires = co.wires;
  value = λ input.
      let env : Bit → Bool = env_of_lists (signal_values start input signals) in
      let i : ℤ = reading signed (wire_values start input ys) in
      let test : Bool = int_eq (place (mem.low, mem.low) i) at in
      let old : wire_values m input before ≡ word_read env (first_words w mem) i = wire_values-extends start m before input (Extends-trans start n m x y) hb ∙ cb.value input in
      let here_word : wire_values n input us ≡ word_value env mem.width (Some (mem.first + w)) =
      ap (wire_values n input) u ∙ cw.value input ∙ ap (λ (ss : List (List Bool)). word_value (env_of_lists ss) mem.width (Some (mem.first + w))) (signal_values-extends start n input signals x hs) in
      let new : wire_values m input vs ≡ (if test then word_value env mem.width (Some (mem.first + w)) else zeros mem.width) =
      ap (wire_values m input) v ∙ cp.value input
      ∙ ap (λ (b : Bool). if b then (wire_values n input us) else none) (ch.value input)
      ∙ ap₂ (λ (xs zs : List Bool). if test then xs else zs) here_word (z ∙ zero_word mem.width) in
      co.value input ∙ ap₂ (bitwise Or) old new ∙ read_more env mem w i at e;
}

-- what an index of a memory reads is a word

word_is : (env : Bit → Bool) (range : Option (ℕ × ℕ)) (o : Option ℕ) → word_value env (range_width range) o ≡ map (bit_value env) (word_bits range o)
word_is env range None = sym (no_word_value env range)
word_is env range (Some id) = sym (some_word_value env range id)

pub read_is : (env : Bit → Bool) (first low words width : ℕ) (range : Option (ℕ × ℕ)) (signed : Bool) (i : ℤ) → width ≡ range_width range →
    word_read env (record { first = first; low = low; words = words; width = width }) i ≡ index_value env (entity.Memory first low words range signed) i
read_is env first low words width range signed i e =
    ap (λ (w : ℕ). word_value env w (word_signal first (word_at low words i))) e ∙ word_is env range (word_signal first (word_at low words i))
