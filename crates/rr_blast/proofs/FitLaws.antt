-- from the circuit of a cycle to what a transition stands for
use Rattle.std.proofs.Common.{◌≡◌, ◌∙◌, sym, ap, ap₂, refl, subst, ℕ, zero, suc, ◌+◌, ◌<◌, ◌≤◌, Bool, true, List, [], ◌∷◌, ◌++◌, length, map, flat_map, drop, drop-cons, get_or, All, Option, Some, Ok, arith}
use Rattle.std.specs.List.{AllByRecursion, sum}
use Rattle.std.proofs.lemmas.List.{append-nil, append_assoc, drop_all, length-append, length-map}
use Rattle.std.proofs.lemmas.List.Elements.{All-from_recursion}
use Rattle.std.proofs.lemmas.List.FromFn.{length-map-range_with_len}
use Rattle.std.proofs.lemmas.List.Sums.{sum_by-cons}
use Rattle.rr_circuit.specs.Values.{output_values, given as given_bits}
use Rattle.rr_syntax.specs.declared.site.Site.{Site as ArenaSite}
use Rattle.rr_syntax.specs.Tree.{SourceText}
use Rattle.rr_expr.specs.declared.types.Bit.{Bit}
use Rattle.rr_flat.specs.declared.design.Step.{Step}
use Rattle.rr_flat.specs.Inputs.{row_inputs}
use Rattle.rr_flat.specs.Lawful.{Lawful}
use Rattle.rr_flat.specs.Ordered.{IsStep, Ordered}
use Rattle.rr_flat.specs.Plain.{Flat, Block}
use Rattle.rr_flat.specs.Signals.{Signal, Text, signal_at}
use Rattle.rr_flat.specs.Writers.{Clocked, Writes, block_at, writes_at_all}
use Rattle.rr_flat.proofs.Bits.{or_left, or_right}
use Rattle.rr_flat_instance.specs.Flats.{instance_flat}
use Rattle.rr_cycle.specs.Cycles.{beginning, signal_value}
use Rattle.rr_cycle.specs.Exec.{Environment}
use Rattle.rr_cycle.specs.Performing.{any_writes}
use Rattle.rr_cycle.proofs.Wiring.{length_there}
use Rattle.rr_choice.specs.declared.pick.Pick.{Pick}
use Rattle.rr_choice.specs.Choices.{decode, site_bits, total_bits}
use Rattle.rr_choice.specs.Sites.{Site}
use Rattle.rr_choice.specs.View.{plain_site, plain_sites}
use Rattle.rr_flatten.specs.Walk.{flat_by}
use Rattle.rr_flatten.proofs.Limits.{design_stays}
use Rattle.rr_lawful_instance.specs.Laws.{IsRepairable}
use Rattle.rr_lawful_instance.specs.Listed.{AreRight}
use Rattle.rr_lawful_instance.proofs.Cycles.{bases_stay, stays_lawful}
use Rattle.rr_lawful_instance.proofs.Listing.{listed}
use Rattle.rr_lawful_instance.proofs.Whole.{writers}
use Rattle.rr_transition.specs.Cycles.{Cycle, Design, instance_design, output_bits, switch_places, widths_of}
use Rattle.rr_transition.specs.Placed.{any_bit, settled_of}
use Rattle.rr_transition.specs.Transitions.{Transition}
use Rattle.rr_transition.proofs.PlacedLaws.{cycles_from_steps}
use Rattle.rr_registers.specs.Registers.{bits_of_signal}
use Rattle.rr_flat.specs.View.{Design as View, plain_signal}
use Rattle.rr_signal_wires.specs.Words.{IsThere}
use Rattle.rr_blast_steps.specs.Designs.{signal_widths}
use Rattle.rr_blast_steps.proofs.BitLaws.{whole_there}
use Rattle.rr_blast.specs.Circuits.{FitsArguments, PerformsCycles, answers_of}
use Rattle.rr_blast.specs.Rows.{AreNarrow, AreRegisters, BasesStay, bits_of_row}

-- switches

pub switches_more : (xs : List ArenaSite) (i at next : ℕ) (x d : ArenaSite) (places new r : List ℕ) → i < length xs → x ≡ get_or xs i d → next ≡ at + site_bits (plain_site x) →
    places ++ switch_places at (plain_sites (drop i xs)) ≡ r → new ≡ places ++ at ∷ [] → new ++ switch_places next (plain_sites (drop (i + 1) xs)) ≡ r
unfolding switch_places
switches_more xs i at next x d places new r l q n h k =
    let one : suc i ≡ i + 1 = omega arith in
    let whole : drop i xs ≡ x ∷ drop (i + 1) xs = drop-cons xs i d l ∙ ap₂ (λ (y : ArenaSite) (m : ℕ). y ∷ drop m xs) (sym q) one in
    ap₂ (λ (ys : List ℕ) (m : ℕ). ys ++ switch_places m (plain_sites (drop (i + 1) xs))) k n
    ∙ append_assoc places (at ∷ []) (switch_places (at + site_bits (plain_site x)) (plain_sites (drop (i + 1) xs)))
    ∙ sym (ap (λ (ys : List ArenaSite). places ++ switch_places at (plain_sites ys)) whole) ∙ h

pub switches_done : (xs : List ArenaSite) (i at : ℕ) (places r : List ℕ) → length xs ≤ i → places ++ switch_places at (plain_sites (drop i xs)) ≡ r → places ≡ r
unfolding switch_places
switches_done xs i at places r l h = sym (append-nil places) ∙ sym (ap (λ (ys : List ArenaSite). places ++ switch_places at (plain_sites ys)) (drop_all i xs l)) ∙ h

pub bits_left : (xs : List ArenaSite) (i : ℕ) (x d : ArenaSite) → i < length xs → x ≡ get_or xs i d → total_bits (plain_sites (drop i xs)) ≡ site_bits (plain_site x) + total_bits (plain_sites (drop (i + 1) xs))
unfolding total_bits
bits_left xs i x d l q =
    let one : suc i ≡ i + 1 = omega arith in
    ap (λ (ys : List ArenaSite). total_bits (plain_sites ys)) (drop-cons xs i d l ∙ ap₂ (λ (y : ArenaSite) (m : ℕ). y ∷ drop m xs) (sym q) one)

places_below : (ss : List Site) (at limit : ℕ) → at + total_bits ss ≤ limit → AllByRecursion (λ (k : ℕ). k < limit) (switch_places at ss)
unfolding switch_places total_bits
places_below [] at limit l = tt
places_below (s ∷ ss) at limit l = (omega (arith, l), places_below ss (at + site_bits s) limit (omega (arith, l)))

pub switches_inside : (ss : List Site) (n : ℕ) → n ≡ total_bits ss → All (λ (k : ℕ). k < n) (switch_places 0 ss)
switches_inside ss n e = All-from_recursion (λ (k : ℕ). k < n) (switch_places 0 ss) (places_below ss 0 n (omega (arith, e)))

-- widths

pub row_length : (signals : List Signal) (ids : List ℕ) → length (bits_of_row signals ids) ≡ sum (map (λ (id : ℕ). (signal_at signals id).width) ids)
unfolding bits_of_row
row_length signals [] = refl
row_length signals (id ∷ ids) =
    length-append (bits_of_signal signals id) (bits_of_row signals ids)
    ∙ ap₂ (λ (a b : ℕ). a + b) (length-map-range_with_len {X = Bit} (λ (p : ℕ). record { signal = id; place = p }) 0 (signal_at signals id).width) (row_length signals ids)
    ∙ sym (sum_by-cons (λ (x : ℕ). x) (signal_at signals id).width (map (λ (i : ℕ). (signal_at signals i).width) ids))

value_length : (F : Flat) (id : ℕ) (e : Environment) → length (signal_value F id e) ≡ (signal_at F.signals id).width
value_length F id e = length-map _ _ ∙ length_there _ _ _

outputs_length : (F : Flat) (e : Environment) (ids : List ℕ) → length (flat_map (λ (id : ℕ). signal_value F id e) ids) ≡ sum (widths_of F ids)
outputs_length F e [] = refl
outputs_length F e (id ∷ ids) =
    length-append (signal_value F id e) (flat_map (λ (id : ℕ). signal_value F id e) ids) ∙ ap₂ (λ (a b : ℕ). a + b) (value_length F id e) (outputs_length F e ids)
    ∙ sym (sum_by-cons (λ (x : ℕ). x) (signal_at F.signals id).width (widths_of F ids))

pub answers_length : (F : Flat) (ss : List Site) (ps : List Pick) (registers : List Bit) (e : Environment) → length (answers_of (instance_flat ss ps F) registers e) ≡ length registers + sum (widths_of F F.outputs)
unfolding instance_flat
answers_length F ss ps registers e =
    length-append (map _ registers) (output_bits (instance_flat ss ps F) e) ∙ ap₂ (λ (a b : ℕ). a + b) (length-map registers _) (outputs_length (instance_flat ss ps F) e F.outputs)

-- registers

pub any_from : (F : Flat) (blocks : List Block) (k : ℕ) (b : Bit) → k < length blocks → writes_at_all F (block_at blocks k) b ≡ true → any_writes F blocks b ≡ true
unfolding any_writes
any_from F [] k b l h = absurd (omega arith)
any_from F (x ∷ xs) zero b l h = or_left (writes_at_all F x b) (any_writes F xs b) h
any_from F (x ∷ xs) (suc k) b l h = or_right (writes_at_all F x b) (any_writes F xs b) (any_from F xs k b (omega arith) h)

any_default : (xs : List Step) (i : ℕ) (d e : Step) → i < length xs → get_or xs i e ≡ get_or xs i d
any_default [] i d e l = absurd (omega arith)
any_default (x ∷ xs) zero d e l = refl
any_default (x ∷ xs) (suc i) d e l = any_default xs i d e (omega arith)

pub steps_are : (flat : Flat) (word : Option Text) (clock : Option ℕ) (rising : Bool) (steps : List Step) → Ordered flat word clock rising steps → (i : ℕ) (d : Step) → i < length steps → IsStep flat (get_or steps i d)
steps_are flat word clock rising steps o i d l = subst (IsStep flat) (any_default steps i d _ l) (o.each i l)

-- a design that fits

abbrev repairable : (j : Design) (F : Flat) (clock : Option ℕ) (rising : Bool) (steps : List Step) (ss : List Site) → FitsArguments j F clock rising steps ss → IsRepairable j.source j.top F j.word clock rising steps ss
repairable j F clock rising steps ss f = record { elaborated = f.design; lawful = f.lawful; ordered = f.ordered; right = f.right }

pub bases_of : (j : Design) (F : Flat) (clock : Option ℕ) (rising : Bool) (steps : List Step) (ss : List Site) → FitsArguments j F clock rising steps ss → BasesStay F clock ss
bases_of j F clock rising steps ss f = bases_stay j.source j.top F j.word clock rising steps ss (repairable j F clock rising steps ss f)

module _ (F : Flat) (clock : Option ℕ) (rising : Bool) (steps : List Step) (ss : List Site) (registers : List Bit) (t : Transition) where
  -- what the calls of the code say of the parts of a transition
  pub record IsMade : Type 0 where
    pub narrow : AreNarrow F.signals
    pub kept : AreRegisters F registers
    pub choice_bits : t.choice_bits ≡ total_bits ss
    pub state_bits : t.state_bits ≡ length registers
    pub start : t.start ≡ map (beginning F) registers
    pub switches : t.switches ≡ switch_places 0 ss
    pub input_widths : t.input_widths ≡ widths_of F (row_inputs clock F.inputs)
    pub output_widths : t.output_widths ≡ widths_of F F.outputs
    pub performs : PerformsCycles F clock steps ss registers t.circuit

  written_stays : (m : IsMade) (j : Design) → FitsArguments j F clock rising steps ss → (ps : List Pick) (k : ℕ) (b : Bit) → Writes (instance_flat ss ps F) (Clocked k) b → any_bit registers b ≡ true
  unfolding Writes
  written_stays m j f ps k b w =
      let v = (writers F j.word ss ps (listed j.source j.top F j.word ss f.design f.right) (Clocked k) b).1 w in
      m.kept b ∙ any_from F F.clocked k b v.0 v.1

  bits_are : (m : IsMade) (choice : List Bool) → length choice ≡ total_bits ss → (state row : List Bool) → length state ≡ length registers → length row ≡ sum t.input_widths →
      output_values t.circuit (given_bits (choice ++ (state ++ row)))
      ≡ answers_of (instance_flat ss (decode ss choice) F) registers (settled_of (instance_flat ss (decode ss choice) F) clock steps registers state row)
  unfolding PerformsCycles
  bits_are m choice lc state row ls lr = m.performs choice state row lc ls (lr ∙ ap sum m.input_widths ∙ sym (row_length F.signals (row_inputs clock F.inputs)))

  -- the transition stands for the design, with these registers
  pub stands : IsMade → (j : Design) → FitsArguments j F clock rising steps ss → (c : Cycle j ss t) × (c.registers ≡ registers)
  unfolding instance_flat
  stands m j f = (
    record {
      choice_bits = m.choice_bits;
      switches = m.switches;
      registers = registers;
      state_bits = m.state_bits;
      instances = λ choice lc.
          let ps : List Pick = decode ss choice in
          let law = stays_lawful j.source j.top F j.word clock rising steps ss ps f.design f.lawful f.ordered f.right in
          cycles_from_steps (instance_design ss ps j) clock rising steps t registers choice
          (record {
            flat = instance_flat ss ps F;
            design = law.0;
            lawful = law.1;
            ordered = law.2;
            input_widths = m.input_widths;
            output_widths = m.output_widths;
            start = m.start;
            narrow = m.narrow;
            written = λ k b w. written_stays m j f ps k b w;
            bits = bits_are m choice lc;
          });
    },
    refl,
  )

-- a design within the limit on the tokens of loops that is lawful in this order, with its sites as they are listed for it, fits
pub design_fits : (source : SourceText) (top word : Option Text) (F : Flat) (clock : Option ℕ) (rising : Bool) (steps : List Step) (ss : List Site) →
    flat_by (Some 1048576) source top ≡ Ok F → Lawful F word → Ordered F word clock rising steps → AreRight source F word ss → (j : Design) × FitsArguments j F clock rising steps ss
design_fits source top word F clock rising steps ss d l o r = (record { source = source; top = top; word = word }, record { design = design_stays 1048576 source top F d; lawful = l; ordered = o; right = r })

-- registers have wires

pub register_wires : (d : View) (list : List Bit) → All (λ (b : Bit). (b.signal < length d.signals) × (b.place < (signal_at (map plain_signal d.signals) b.signal).width)) list → All (IsThere (signal_widths d.signals)) list
register_wires d list h k x l = let r = h k x l in whole_there d (get_or list k x).signal (get_or list k x).place r.0 r.1
