-- from the transition's outputs to the runs of instances
use Rattle.std.proofs.Common.{◌≡◌, ◌⊎◌, inl, inr, ℕ, ◌+◌, ◌<◌, ◌≤◌, Bool, false, not, cond, nat_lt, List, [], ◌∷◌, ◌++◌, length, get_or, take, drop, map, refl, sym, ◌∙◌, ap, ap₂}
use Rattle.std.specs.Prelude.{Option, nat_le, flat_map}
use Rattle.std.proofs.lemmas.Bool.{cases_lt, lt-ltb, le-ltb, le-leb, lt-leb}
use Rattle.std.proofs.lemmas.List.{length-map, drop_at, take_at, drop-drop}
use Rattle.std.proofs.lemmas.List.Sums.{sum_by-cons}
use Rattle.rr_bits.specs.Words.{word, number}
use Rattle.rr_bits.proofs.Numbers.{word_number}
use Rattle.rr_circuit.specs.Values.{OutputNetlist, output_values, given}
use Rattle.rr_count.specs.Counts.{true_count, is_at_most}
use Rattle.rr_expr.specs.declared.types.Bit.{Bit}
use Rattle.rr_flat.specs.Signals.{signal_at}
use Rattle.rr_flat.specs.Plain.{Flat}
use Rattle.rr_flat.specs.Writers.{entity_of_signal, signal_bits}
use Rattle.rr_cycle.specs.Cycles.{Runs, ended, cycle, bit_value, outputs_of, signal_value, beginning}
use Rattle.rr_cycle.specs.Exec.{Environment}
use Rattle.rr_cycle.proofs.Wiring.{length_there}
use Rattle.rr_choice.specs.Choices.{cost, decode, read_pick, site_bits, total_bits}
use Rattle.rr_choice.specs.declared.pick.Pick.{Pick}
use Rattle.rr_choice.specs.Sites.{Site}
use Rattle.rr_trace.specs.declared.cell.Cell.{Cell}
use Rattle.rr_trace.specs.Tables.{Table}
use Rattle.rr_transition.specs.Cycles.{Design, IsCycle, Cycle, instance_design, output_bits, switch_places, widths_of}
use Rattle.rr_unroll.specs.Faithful.{Faithful, IsJudged}
use Rattle.rr_unroll.specs.Questions.{agree_row, agreed, judged}
use Rattle.rr_transition.specs.Transitions.{Transition, cycle_bits, switched, words}
use Rattle.rr_unroll.proofs.WordLaws.{drop_head}

-- an output's word is that of its number
length_value : (flat : Flat) (id : ℕ) (env : Environment) → length (signal_value flat id env) ≡ (signal_at flat.signals id).width
length_value flat id env = length-map (signal_bits flat id) (bit_value env) ∙ length_there (entity_of_signal flat id) _ (signal_at flat.signals id).width

word_of_output : (flat : Flat) (id : ℕ) (env : Environment) → word (signal_at flat.signals id).width (number (signal_value flat id env)) ≡ signal_value flat id env
word_of_output flat id env = ap (λ w. word w (number (signal_value flat id env))) (sym (length_value flat id env)) ∙ word_number (signal_value flat id env)

words_of_outputs : (flat : Flat) (env : Environment) (ids : List ℕ) → flat_map (λ id. signal_value flat id env) ids ≡ words (widths_of flat ids) (map (λ id. number (signal_value flat id env)) ids)
unfolding words
words_of_outputs flat env [] = refl
words_of_outputs flat env (id ∷ ids) = ap₂ (λ xs ys. xs ++ ys) (sym (word_of_output flat id env)) (words_of_outputs flat env ids)

-- what the transition gives of rows from a state is what the run of the flat design from it has
pub record Ran (flat : Flat) (t : Transition) (clock : Option ℕ) (registers : List Bit) (choice : List Bool) (state : Environment) (rows : List (List ℕ)) (expected : List (List Cell)) : Type 0 where
  pub outputs : List (List ℕ)
  pub last : Environment
  pub run : Runs flat clock state rows outputs last
  pub same : judged t choice (map state registers) rows expected ≡ agreed t.output_widths expected outputs

module _ (flat : Flat) (clock : Option ℕ) (t : Transition) (registers : List Bit) (choice : List Bool) (width : t.state_bits ≡ length registers) (outs : t.output_widths ≡ widths_of flat flat.outputs)
    (cycles : (state : Environment) (row : List ℕ) → IsCycle flat clock t registers choice state row) where
  next_bits : (state : Environment) (row : List ℕ) → take t.state_bits (cycle_bits t choice (map state registers) row) ≡ map (cycles state row).next registers
  next_bits state row =
      let c = cycles state row in
      ap (take t.state_bits) c.bits ∙ take_at (map c.next registers) (output_bits flat c.env) t.state_bits (length-map registers c.next ∙ sym width)

  found_bits : (state : Environment) (row : List ℕ) → drop t.state_bits (cycle_bits t choice (map state registers) row) ≡ words t.output_widths (outputs_of flat (cycles state row).env)
  found_bits state row =
      let c = cycles state row in
      ap (drop t.state_bits) c.bits ∙ drop_at (map c.next registers) (output_bits flat c.env) t.state_bits (length-map registers c.next ∙ sym width)
      ∙ words_of_outputs flat c.env flat.outputs ∙ ap (λ ws. words ws (outputs_of flat c.env)) (sym outs)

  pub ran : (state : Environment) (rows : List (List ℕ)) (expected : List (List Cell)) → Ran flat t clock registers choice state rows expected
  unfolding judged agreed
  ran state [] expected = record { outputs = []; last = state; run = ended; same = refl }
  ran state (row ∷ rows) expected =
      let c = cycles state row in
      let later = ran c.next rows (drop 1 expected) in
      record {
        outputs = outputs_of flat c.env ∷ later.outputs;
        last = later.last;
        run = cycle c.env c.next c.settled c.edge later.run;
        same = ap₂ (λ bs next. agree_row t.output_widths (get_or expected 0 []) bs ++ judged t choice next rows (drop 1 expected)) (found_bits state row) (next_bits state row)
            ∙ ap (λ xs. agree_row t.output_widths (get_or expected 0 []) (words t.output_widths (outputs_of flat c.env)) ++ xs) later.same;
      }

-- the cost of a choice is the number of switches that are true
pub cost_by_switches : (sites : List Site) (at : ℕ) (bits : List Bool) → cost (decode sites (drop at bits)) ≡ true_count (switched (switch_places at sites) bits)
unfolding decode switch_places
cost_by_switches [] at bits = refl
cost_by_switches (s ∷ ss) at bits =
    sum_by-cons (λ (p : Pick). cond p.on 1 0) (read_pick s (drop at bits)) (decode ss (drop (site_bits s) (drop at bits)))
    ∙ ap₂ (λ b n. cond b 1 0 + n) (drop_head bits at false)
    (ap (λ bs. cost (decode ss bs)) (drop-drop (site_bits s) at bits) ∙ cost_by_switches ss (at + site_bits s) bits)

at_most_cost : (bound n : ℕ) → not (nat_lt bound n) ≡ nat_le n bound
at_most_cost bound n = by_cases (cases_lt bound n)
  where
    by_cases : ((bound < n) ⊎ (n ≤ bound)) → not (nat_lt bound n) ≡ nat_le n bound
    by_cases (inl l) = rw (lt-ltb bound n l) (sym (lt-leb n bound l))
    by_cases (inr l) = rw (le-ltb bound n l) (sym (le-leb n bound l))

-- the verdicts of the transition are those of the choice's instance
pub record Judged (t : Transition) (table : Table) (j : Design) (bits : List Bool) : Type 0 where
  pub judged : IsJudged j table (judged t bits t.start table.inputs table.expected)
  pub widths : t.output_widths ≡ widths_of judged.flat judged.flat.outputs

pub instance_judged : (t : Transition) (table : Table) (j : Design) (sites : List Site) → Cycle j sites t → (bits : List Bool) → length bits ≡ total_bits sites → Judged t table (instance_design sites (decode sites bits) j) bits
instance_judged t table j sites stands bits l =
    let h = stands.instances bits l in
    let r = ran h.flat h.clock t stands.registers bits stands.state_bits h.output_widths h.cycles (beginning h.flat) table.inputs table.expected in
    record {
      judged = record {
        flat = h.flat;
        clock = h.clock;
        design = h.design;
        outputs = r.outputs;
        run = (r.last, r.run);
        verdicts =
            ap (λ xs. judged t bits xs table.inputs table.expected) h.start
            ∙ r.same ∙ ap (λ ws. agreed ws table.expected r.outputs) h.output_widths;
      };
      widths = h.output_widths;
    }

pub faithful : (t : Transition) (circuit : OutputNetlist) (table : Table) (bound : ℕ) → circuit.netlist.inputs ≡ t.choice_bits →
    ((bits : List Bool) → length bits ≡ t.choice_bits → output_values circuit (given bits)
    ≡ judged t bits t.start table.inputs table.expected ++ is_at_most bound (switched t.switches bits) ∷ []) →
    (j : Design) (sites : List Site) → Cycle j sites t → Faithful circuit j sites table bound
faithful t circuit table bound inputs outputs j sites stands = record {
  inputs = inputs ∙ stands.choice_bits;
  answers = λ bits l.
      let verdicts : List Bool = judged t bits t.start table.inputs table.expected in
      record {
        verdicts = verdicts;
        judged = (instance_judged t table j sites stands bits l).judged;
        outputs = outputs bits (l ∙ sym stands.choice_bits)
            ∙ ap (λ b. verdicts ++ b ∷ [])
            (ap (λ ps. is_at_most bound (switched ps bits)) stands.switches ∙ ap (λ n. not (nat_lt bound n)) (sym (cost_by_switches sites 0 bits)) ∙ at_most_cost bound (cost (decode sites bits)));
      };
}
