-- copies of wires, and the clock edge
use Rattle.std.proofs.Common.{◌≡◌, ◌∙◌, sym, ap, ap₂, subst, ℕ, ◌<◌, ◌≤◌, Bool, List, [], ◌∷◌, length, map, take, All, arith, refl}
use Rattle.std.specs.Prelude.{Vec}
use Rattle.std.specs.Global.{Global}
use Rattle.std.proofs.lemmas.List.{take_all, get_or-map, length-map}
use Rattle.rr_circuit.specs.declared.Wire.{Wire}
use Rattle.rr_circuit.specs.Values.{AreWires, Netlist, wire_values}
use Rattle.rr_expr.specs.declared.types.Bit.{Bit}
use Rattle.rr_expr.specs.Scopes.{env_of_lists}
use Rattle.rr_cycle.specs.Exec.{Environment}
use Rattle.rr_flat.specs.Plain.{Flat}
use Rattle.rr_flat_instance.specs.Flats.{instance_flat}
use Rattle.rr_choice.specs.declared.pick.Pick.{Pick}
use Rattle.rr_choice.specs.Sites.{Site}
use Rattle.rr_signal_wires.specs.Words.{AreWords, carried, widths_of, word_values}
use Rattle.rr_cycle.specs.Performing.{next_after}
use Rattle.rr_blast_stmt.specs.Running.{Values}
use Rattle.rr_blast_steps.specs.Designs.{ran_blocks}

pub no_word : (words : List (Vec Wire Global)) (k : ℕ) → k < length words → Vec Wire Global
no_word [] k l = absurd (omega arith)
no_word (v ∷ vs) k l = v

abbrev pub lists_of : List (Vec Wire Global) → List (List Wire)
lists_of words = map (λ (v : Vec Wire Global). v.items) words

values_of_lists : (n : Netlist) (env : ℕ → Bool) (words : List (Vec Wire Global)) → word_values n env words ≡ map (wire_values n env) (lists_of words)
unfolding word_values
values_of_lists n env [] = refl
values_of_lists n env (v ∷ vs) = ap (λ (xs : List (List Bool)). wire_values n env v.items ∷ xs) (values_of_lists n env vs)

widths_of_lists : (words : List (Vec Wire Global)) → widths_of words ≡ map (λ (xs : List Wire). length xs) (lists_of words)
unfolding widths_of
widths_of_lists [] = refl
widths_of_lists (v ∷ vs) = ap (λ (xs : List ℕ). length v.items ∷ xs) (widths_of_lists vs)

pub copied_values : (n : Netlist) (env : ℕ → Bool) (new old : List (Vec Wire Global)) → lists_of new ≡ lists_of old → carried n env new ≡ carried n env old
unfolding carried
copied_values n env new old q =
    ap {B = Environment} (λ (vs : List (List Bool)) (b : Bit). env_of_lists vs b) (values_of_lists n env new ∙ ap (λ (ls : List (List Wire)). map (wire_values n env) ls) q ∙ sym (values_of_lists n env old))

pub copied_widths : (new old : List (Vec Wire Global)) → lists_of new ≡ lists_of old → widths_of new ≡ widths_of old
copied_widths new old q = widths_of_lists new ∙ ap (λ (ls : List (List Wire)). map (λ (xs : List Wire). length xs) ls) q ∙ sym (widths_of_lists old)

lists_all : (n : Netlist) (words : List (Vec Wire Global)) → AreWords n words → All (AreWires n) (lists_of words)
lists_all n words a k d l =
    let m : k < length words = omega (arith, l, length-map words (λ (v : Vec Wire Global). v.items)) in
    rw (get_or-map (λ (v : Vec Wire Global). v.items) words k (no_word words k m) d m) (a k (no_word words k m) m)

all_lists : (n : Netlist) (words : List (Vec Wire Global)) → All (AreWires n) (lists_of words) → AreWords n words
all_lists n words a k d l = rw (← get_or-map (λ (v : Vec Wire Global). v.items) words k d [] l) (a k [] (omega (arith, l, length-map words (λ (v : Vec Wire Global). v.items))))

pub copied_wires : (n : Netlist) (new old : List (Vec Wire Global)) → lists_of new ≡ lists_of old → AreWords n old → AreWords n new
copied_wires n new old q a = all_lists n new (subst (All (AreWires n)) (sym q) (lists_all n old a))

pub whole : (ls : List (List Wire)) (words : List (Vec Wire Global)) (i : ℕ) → length words ≤ i → ls ≡ lists_of (take i words) → ls ≡ lists_of words
whole ls words i l h = h ∙ ap lists_of (take_all i words l)

-- the blocks run twice: onto anything, and onto what `=` left then

abbrev run_onto : Flat → List Site → List Pick → Environment → Environment → Values
run_onto F ss ps e l = ran_blocks (instance_flat ss ps F) (instance_flat ss ps F).clocked (record { now = e; later = l })

pub next_of_two : (F : Flat) (ss : List Site) (ps qs : List Pick) (e f l : Environment) (v w : Values) → qs ≡ ps → f ≡ e → v ≡ run_onto F ss ps e l → w ≡ run_onto F ss qs f v.now → w.later ≡ next_after (instance_flat ss ps F) e
unfolding ran_blocks
next_of_two F ss ps qs e f l v w p q h k =
    ap (λ (x : Values). x.later) k ∙ ap₂ (λ (z : List Pick) (g : Environment). (run_onto F ss z g v.now).later) p q ∙ ap (λ (x : Values). (run_onto F ss ps e x.now).later) h
