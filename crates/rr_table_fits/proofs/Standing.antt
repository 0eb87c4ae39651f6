-- The outputs of a transition that stands for a design are those of the design.
use Rattle.std.proofs.Common.{◌≡◌, ◌∙◌, ℕ, zero, suc, ◌+◌, Bool, false, cond, List, [], ◌∷◌, get_or, drop, replicate, Option, Result, Ok, refl, sym, subst, ap, ap₂}
use Rattle.std.proofs.lemmas.List.{get_or-drop, length-replicate}
use Rattle.std.proofs.lemmas.List.Sums.{sum_by-cons}
use Rattle.rr_flat.specs.Plain.{Flat}
use Rattle.rr_flat.specs.declared.fault.FlatFault.{FlatFault}
use Rattle.rr_flatten.specs.Walk.{flat_of}
use Rattle.rr_choice.specs.declared.pick.Pick.{Pick}
use Rattle.rr_choice.specs.Choices.{cost, decode, read_pick, site_bits, total_bits}
use Rattle.rr_choice.specs.Sites.{Site}
use Rattle.rr_instance_laws.proofs.OffLaws.{keeps_at_no_cost}
use Rattle.rr_trace.specs.Tables.{Table, table_of}
use Rattle.rr_trace.specs.Tops.{ports_of}
use Rattle.rr_vcd.specs.Sampled.{IsSampled}
use Rattle.rr_transition.specs.Cycles.{Cycle, Design, widths_of}
use Rattle.rr_transition.specs.Transitions.{Transition}
use Rattle.rr_unroll.specs.Matches.{FitsOutputs}
use Rattle.rr_table_fits.proofs.Fitting.{tables_fit}
use Rattle.rr_table_fits.proofs.Sampling.{samples_fit}

all_off : (n i : ℕ) → get_or (replicate n false) i false ≡ false
all_off zero i = refl
all_off (suc n) zero = refl
all_off (suc n) (suc i) = all_off n i

-- no switch is on
no_cost : (sites : List Site) (bits : List Bool) → ((i : ℕ) → get_or bits i false ≡ false) → cost (decode sites bits) ≡ 0
unfolding decode
no_cost [] bits off = refl
no_cost (s ∷ ss) bits off =
    sum_by-cons (λ (p : Pick). cond p.on 1 0) (read_pick s bits) (decode ss (drop (site_bits s) bits))
    ∙ ap₂ (λ b n. cond b 1 0 + n) (off 0) (no_cost ss (drop (site_bits s) bits) (λ i. get_or-drop (site_bits s) bits i false ∙ off (site_bits s + i)))

same_flat : (f g : Flat) (r : Result Flat FlatFault) → r ≡ Ok f → r ≡ Ok g → f ≡ g
same_flat f g r a b = let both : Ok f ≡ Ok g = sym a ∙ b in cc

stands_of : (j : Design) (sites : List Site) (t : Transition) → Cycle j sites t → (flat : Flat) → flat_of j.source j.top ≡ Ok flat → (table : Table) →
    FitsOutputs (widths_of flat flat.outputs) table → FitsOutputs t.output_widths table
stands_of j sites t stands flat e table fits =
    let bits : List Bool = replicate (total_bits sites) false in
    let h = stands.instances bits (length-replicate (total_bits sites) false) in
    let source = keeps_at_no_cost.source sites (decode sites bits) j.source (no_cost sites bits (all_off (total_bits sites))) in
    let same = same_flat flat h.flat (flat_of j.source j.top) e (ap (λ s. flat_of s j.top) (sym source) ∙ h.design.design) in
    subst (λ ws. FitsOutputs ws table) (ap (λ f. widths_of f f.outputs) same ∙ sym h.output_widths) fits

pub tables_stand : (j : Design) (sites : List Site) (t : Transition) → Cycle j sites t → (flat : Flat) → flat_of j.source j.top ≡ Ok flat → (clock : Option ℕ) (bytes : List ℕ) (table : Table) →
    table_of (ports_of flat clock) bytes ≡ Ok table → FitsOutputs t.output_widths table
tables_stand j sites t stands flat e clock bytes table d = stands_of j sites t stands flat e table (tables_fit j.source j.top flat e clock bytes table d)

pub samples_stand : (j : Design) (sites : List Site) (t : Transition) → Cycle j sites t → (flat : Flat) → flat_of j.source j.top ≡ Ok flat → (clock : Option ℕ) (rising : Bool) (bytes : List ℕ) (table : Table) →
    IsSampled flat clock rising bytes table → FitsOutputs t.output_widths table
samples_stand j sites t stands flat e clock rising bytes table d = stands_of j sites t stands flat e table (samples_fit flat clock rising bytes table d)
