-- The ports of the top of a flat design: no two of them have one name.
use Rattle.std.proofs.Common.{◌≡◌, ◌∙◌, ℕ, ◌+◌, ◌-◌, ◌<◌, Bool, true, false, if◌then◌else◌, List, [], ◌∷◌, ◌++◌, length, Option, None, is_some, Result, Ok, Err, refl, sym, subst, ap, arith}
use Rattle.std.specs.Prelude.{All, nat_eq, slice_index_or}
use Rattle.std.proofs.lemmas.Bool.{and_parts, both_ways, eqb-true}
use Rattle.std.proofs.lemmas.List.{append_assoc, get_or-append_right, length-append}
use Rattle.std.proofs.lemmas.List.Elements.{All-nil, All-cons, All-filter, All-append}
use Rattle.rr_syntax.specs.Tree.{ModuleDeclaration, SourceText}
use Rattle.rr_expr.specs.Scopes.{Names}
use Rattle.rr_flat.specs.Faults.{and_then, each}
use Rattle.rr_flat.specs.Inputs.{row_inputs}
use Rattle.rr_flat.specs.Plain.{Flat}
use Rattle.rr_flat.specs.Signals.{Signal, Text, no_signal, signal_at}
use Rattle.rr_flat.specs.declared.fault.FlatFault.{FlatFault}
use Rattle.rr_flat.specs.declared.signal.Port.{Port}
use Rattle.rr_flat.specs.declared.signal.Port.TheVariants.{Inner}
use Rattle.rr_flatten.specs.Tables.{add_module}
use Rattle.rr_flatten.specs.Walk.{Walked, enter_top, finished, flat_by, flat_of, is_top_port, is_way, top_place, top_ports}
use Rattle.rr_flat_laws.specs.Declared.{DeclaresAs}
use Rattle.rr_flat_laws.specs.Names.{IsPort, IsSignalOf, NamesAre, module_of}
use Rattle.rr_flat_laws.proofs.Naming.{names_of_design}
use Rattle.rr_trace.specs.Tops.{name_of}

-- a port of the top
pub record IsOfTop (signals : List Signal) (id : ℕ) : Type 0 where
  pub there : id < length signals
  pub instance : (signal_at signals id).instance ≡ 0
  pub port : IsPort (signal_at signals id)

way_port : (input : Bool) (p : Port) → is_way input p ≡ true → p ≡ Inner → ⊥
way_port input p h e = both_ways (is_way input p) (ap (is_way input) e) h

next_there : (more : List Signal) (s : Signal) (ss : List Signal) (k : ℕ) → length more ≡ k → signal_at (more ++ s ∷ ss) k ≡ s
next_there more s ss k h =
    let z : k - k ≡ 0 = omega arith in
    get_or-append_right more (s ∷ ss) k k no_signal h (omega arith) ∙ ap (λ (i : ℕ). slice_index_or (s ∷ ss) i no_signal) z

top_one : (input : Bool) (more : List Signal) (s : Signal) (ss : List Signal) (k : ℕ) (b : Bool) → length more ≡ k → is_top_port input s ≡ b →
    All (IsOfTop (more ++ s ∷ ss)) (top_ports input (k + 1) ss) → All (IsOfTop (more ++ s ∷ ss)) (if b then k ∷ top_ports input (k + 1) ss else top_ports input (k + 1) ss)
top_one input more s ss k true h q rest =
    let p = and_parts (nat_eq s.instance 0) (is_way input s.port) q in
    let l = length-append more (s ∷ ss) in
    All-cons (IsOfTop (more ++ s ∷ ss)) k (top_ports input (k + 1) ss)
    (record {
      there = omega arith;
      instance = ap (λ (x : Signal). x.instance) (next_there more s ss k h) ∙ eqb-true s.instance 0 p.0;
      port = subst IsPort (sym (next_there more s ss k h)) (way_port input s.port p.1);
    }) rest
top_one input more s ss k false h q rest = rest

top_at : (input : Bool) (ss more : List Signal) (k : ℕ) → length more ≡ k → All (IsOfTop (more ++ ss)) (top_ports input k ss)
unfolding top_ports
top_at input [] more k h = All-nil (IsOfTop (more ++ []))
top_at input (s ∷ ss) more k h =
    let l = length-append more (s ∷ []) in
    top_one input more s ss k (is_top_port input s) h refl
    (subst (λ all. All (IsOfTop all) (top_ports input (k + 1) ss)) (append_assoc more (s ∷ []) ss) (top_at input ss (more ++ s ∷ []) (k + 1) (omega arith)))

-- the ports are those of the walk
pub record Ports (flat : Flat) : Type 0 where
  pub inputs : flat.inputs ≡ top_ports true 0 flat.signals
  pub outputs : flat.outputs ≡ top_ports false 0 flat.signals

ports_finished : (source : List ModuleDeclaration) (w flat : Flat) → finished source w ≡ flat → Ports flat
ports_finished source w flat e = subst Ports e (record { inputs = refl; outputs = refl })

ports_walked : (source : List ModuleDeclaration) (flat : Flat) (r : Result Walked FlatFault) → and_then r (λ w. Ok (finished source w.flat)) ≡ Ok flat → Ports flat
ports_walked source flat (Ok w) e = let same : finished source w.flat ≡ flat = cc in ports_finished source w.flat flat same
ports_walked source flat (Err f) e = cc

ports_tabled : (source : List ModuleDeclaration) (top : Option Text) (flat : Flat) (r : Result Names FlatFault) →
    and_then r (λ table. and_then (enter_top None source table (top_place source table top)) (λ w. Ok (finished source w.flat))) ≡ Ok flat → Ports flat
ports_tabled source top flat (Ok table) e = ports_walked source flat (enter_top None source table (top_place source table top)) e
ports_tabled source top flat (Err f) e = cc

ports : (source : SourceText) (top : Option Text) (flat : Flat) → flat_of source top ≡ Ok flat → Ports flat
unfolding flat_by
ports source top flat e = ports_tabled source.modules top flat (each add_module source.modules []) e

-- the inputs but the clock, and the outputs
pub of_top : (source : SourceText) (top : Option Text) (flat : Flat) → flat_of source top ≡ Ok flat → (clock : Option ℕ) →
    All (IsOfTop flat.signals) (row_inputs clock flat.inputs ++ flat.outputs)
of_top source top flat e clock =
    let p = ports source top flat e in
    All-append (IsOfTop flat.signals) (row_inputs clock flat.inputs) flat.outputs
    (All-filter _ (IsOfTop flat.signals) flat.inputs (subst (All (IsOfTop flat.signals)) (sym p.inputs) (top_at true flat.signals [] 0 refl)))
    (subst (All (IsOfTop flat.signals)) (sym p.outputs) (top_at false flat.signals [] 0 refl))

pub outputs_of_top : (source : SourceText) (top : Option Text) (flat : Flat) → flat_of source top ≡ Ok flat → All (IsOfTop flat.signals) flat.outputs
outputs_of_top source top flat e = subst (All (IsOfTop flat.signals)) (sym (ports source top flat e).outputs) (top_at false flat.signals [] 0 refl)

-- two of one name are one
pub one_name : (source : SourceText) (top : Option Text) (flat : Flat) → flat_of source top ≡ Ok flat → (a b : ℕ) → IsOfTop flat.signals a → IsOfTop flat.signals b → name_of flat a ≡ name_of flat b → a ≡ b
one_name source top flat e a b h k same =
    let names : NamesAre source flat = names_of_design source top flat e in
    let named = names.named b k.there in
    let whole : DeclaresAs (module_of source flat (signal_at flat.signals b).instance) false (name_of flat b) =
    subst (λ (w : Option ℕ). DeclaresAs (module_of source flat (signal_at flat.signals b).instance) (is_some w) (name_of flat b)) (named.whole k.port) named.declared in
    let one = names.one 0 (name_of flat b) (subst (λ i. i < length flat.owners) k.instance named.there) (subst (λ i. DeclaresAs (module_of source flat i) false (name_of flat b)) k.instance whole) in
    let first : IsSignalOf flat 0 (name_of flat b) a = record { there = h.there; instance = h.instance; named = same } in
    let second : IsSignalOf flat 0 (name_of flat b) b = record { there = k.there; instance = k.instance; named = refl } in
    one.alone a first ∙ sym (one.alone b second)
