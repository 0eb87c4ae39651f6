-- cycles from lists of bits
use Rattle.std.proofs.Common.{◌≡◌, ℕ, ◌<◌, ◌≤◌, Bool, true, false, cond, ◌||◌, List, [], ◌∷◌, ◌++◌, get_or, drop, take, map, refl, sym, subst, ◌∙◌, ap, arith}
use Rattle.std.specs.Prelude.{Option, nat_eq}
use Rattle.std.proofs.lemmas.Bool.{eqb-true}
use Rattle.std.proofs.lemmas.List.{length-map, drop_at, take_at}
use Rattle.rr_bits.specs.Fields.{length_word}
use Rattle.rr_bits.specs.Words.{number, word}
use Rattle.rr_bits.proofs.Numbers.{word_number}
use Rattle.rr_bits.proofs.Places.{get_word}
use Rattle.rr_expr.specs.declared.types.Bit.{Bit}
use Rattle.rr_flat.specs.Signals.{signal_at}
use Rattle.rr_flat.specs.Plain.{Flat}
use Rattle.rr_flat.specs.Targets.{same_bit}
use Rattle.rr_flat.proofs.Bits.{same_is}
use Rattle.rr_flat.specs.Inputs.{row_inputs}
use Rattle.rr_cycle.specs.Cycles.{given, head, tail, zeros}
use Rattle.rr_cycle.specs.Exec.{Environment, put}
use Rattle.rr_cycle.specs.Performing.{next_after}
use Rattle.rr_flat.specs.declared.design.Step.{Step}
use Rattle.rr_cycle.proofs.Settled.{settles, next_is}
use Rattle.rr_cycle.proofs.Writes.{put_hit, put_miss}
use Rattle.rr_flatten.proofs.WalkOf.{sound}
use Rattle.rr_transition.specs.Cycles.{Design, HasCycles, IsCycle, widths_of}
use Rattle.rr_transition.specs.Placed.{placed, any_bit, row_of, settled_of, HasCyclesOfBits, PerformsSteps}
use Rattle.rr_transition.specs.Transitions.{Transition, words}
use Rattle.rr_transition.proofs.WordLaws.{length_words}

or_second : (x y : Bool) → x ≡ false → (x || y) ≡ true → y ≡ true
or_second true y e h = cc
or_second false y e h = h

placed_next : (c b : Bit) (cs : List Bit) (s : Environment) (x : Bool) → same_bit c b ≡ x → (same_bit c b || any_bit cs b) ≡ true → (any_bit cs b ≡ true → placed cs (map s cs) zeros b ≡ s b) → put c (s c) (placed cs (map s cs) zeros) b ≡ s b
placed_next c b cs s true e h later = put_hit c (s c) (placed cs (map s cs) zeros) b e ∙ ap s (same_is c b e)
placed_next c b cs s false e h later = put_miss c (s c) (placed cs (map s cs) zeros) b e ∙ later (or_second (same_bit c b) (any_bit cs b) e h)

-- a register has its value in the state
placed_has : (bs : List Bit) (s : Environment) (b : Bit) → any_bit bs b ≡ true → placed bs (map s bs) zeros b ≡ s b
unfolding placed any_bit
placed_has [] s b h = cc
placed_has (c ∷ cs) s b h = placed_next c b cs s (same_bit c b) refl h (placed_has cs s b)

cond_same : (x a b c d : Bool) → (x ≡ true → a ≡ b) → c ≡ d → cond x a c ≡ cond x b d
cond_same true a b c d h e = h refl
cond_same false a b c d h e = e

head_is : (xs : List ℕ) → head xs ≡ get_or xs 0 0
head_is [] = refl
head_is (x ∷ xs) = refl

tail_is : (xs : List ℕ) → tail xs ≡ drop 1 xs
tail_is [] = refl
tail_is (x ∷ xs) = refl

-- a bit of the number of a word
bit_of_word : (w n p : ℕ) → p < w → w ≤ 128 → get_or (word 128 (number (word w n))) p false ≡ get_or (word 128 n) p false
bit_of_word w n p l h =
    let whole : word w (number (word w n)) ≡ word w n = ap (λ k. word k (number (word w n))) (sym (length_word w n)) ∙ word_number (word w n) in
    get_word 128 (number (word w n)) p false (omega arith) ∙ sym (get_word w (number (word w n)) p false l)
    ∙ ap (λ xs. get_or xs p false) whole
    ∙ get_word w n p false l ∙ sym (get_word 128 n p false (omega arith))

module _ (flat : Flat) (narrow : (id : ℕ) → (signal_at flat.signals id).width ≤ 128) where
  -- a row's numbers, cut to their widths, give each bit its value
  given_same : (ids row : List ℕ) (b : Bit) → b.place < (signal_at flat.signals b.signal).width → given ids (row_of flat.signals ids (words (widths_of flat ids) row)) b ≡ given ids row b
  unfolding given row_of words
  given_same [] row b l = refl
  given_same (id ∷ ids) row b l =
      let w = (signal_at flat.signals id).width in
      let n = get_or row 0 0 in
      let more : List Bool = words (widths_of flat ids) (drop 1 row) in
      let front : take w (word w n ++ more) ≡ word w n = take_at (word w n) more w (length_word w n) in
      let back : drop w (word w n ++ more) ≡ more = drop_at (word w n) more w (length_word w n) in
      cond_same (nat_eq id b.signal) _ _ _ _
      (λ e.
      let same : id ≡ b.signal = eqb-true id b.signal e in
      let there : b.place < w = subst (λ z. b.place < (signal_at flat.signals z).width) (sym same) l in
      ap (λ xs. get_or (word 128 (number xs)) b.place false) front ∙ bit_of_word w n b.place there (narrow id) ∙ ap (λ m. get_or (word 128 m) b.place false) (sym (head_is row)))
      (ap (λ xs. given ids (row_of flat.signals ids xs) b) back ∙ given_same ids (drop 1 row) b l ∙ ap (λ xs. given ids xs b) (sym (tail_is row)))

pub cycles_from_bits : (flat : Flat) (clock : Option ℕ) (t : Transition) (registers : List Bit) (choice : List Bool) → HasCyclesOfBits flat clock t registers choice → (state : Environment) (row : List ℕ) → IsCycle flat clock t registers choice state row
cycles_from_bits flat clock t registers choice h state row =
    let c = h.cycles (map state registers) (words t.input_widths row) (length-map registers state) (length_words t.input_widths row) in
    let ids : List ℕ = row_inputs clock flat.inputs in
    record {
      env = c.env;
      next = c.next;
      settled = record {
        registers = λ k b w. c.settled.registers k b w ∙ placed_has registers state b (h.written k b w);
        inputs = λ b i. c.settled.inputs b i ∙ ap (λ ws. given ids (row_of flat.signals ids (words ws row)) b) h.widths ∙ given_same flat h.narrow ids row b i.1;
        drivers = c.settled.drivers;
        blocks = c.settled.blocks;
        others = c.settled.others;
      };
      edge = c.edge;
      bits = c.bits;
    }

pub cycles_from_steps : (j : Design) (clock : Option ℕ) (rising : Bool) (steps : List Step) (t : Transition) (registers : List Bit) (choice : List Bool) → PerformsSteps j clock rising steps t registers choice → HasCycles j t registers choice
cycles_from_steps j clock rising steps t registers choice h = record {
  flat = h.flat;
  clock = clock;
  design = record { design = h.design; lawful = h.lawful; rising = rising; one_clock = h.ordered.one_clock };
  input_widths = h.input_widths;
  output_widths = h.output_widths;
  start = h.start;
  cycles = cycles_from_bits h.flat clock t registers choice (record {
    widths = h.input_widths;
    narrow = h.narrow;
    written = h.written;
    cycles = λ state row l m.
        let env : Environment = settled_of h.flat clock steps registers state row in
        record {
          env = env;
          next = next_after h.flat env;
          settled = settles h.flat clock rising steps (sound j.source j.top h.flat h.design) (j.word, (h.lawful, h.ordered)) (placed registers state zeros) (row_of h.flat.signals (row_inputs clock h.flat.inputs) row);
          edge = next_is h.flat (sound j.source j.top h.flat h.design) (j.word, h.lawful) env;
          bits = h.bits state row l m;
        };
  });
}
