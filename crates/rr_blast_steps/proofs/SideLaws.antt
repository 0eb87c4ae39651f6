-- sides of drivers on wires
use Rattle.std.proofs.Common.{◌≡◌, ◌∙◌, sym, ap, ap₂, refl, ℕ, zero, suc, ◌+◌, ◌<◌, ◌≤◌, Bool, List, ◌∷◌, length, map, get_or, Option, max, pos, arith}
use Rattle.std.specs.Prelude.{Vec}
use Rattle.std.specs.Global.{Global}
use Rattle.std.specs.List.{range_with_len}
use Rattle.std.proofs.lemmas.Bool.{lt-ltb, le-ltb}
use Rattle.std.proofs.lemmas.List.{get_or-map, length-map, same_lists}
use Rattle.std.proofs.lemmas.List.FromFn.{get_or-map-range_with_len, length-map-range_with_len}
use Rattle.rr_circuit.specs.declared.Wire.{Wire}
use Rattle.rr_circuit.specs.Values.{Netlist, wire_value, wire_values}
use Rattle.rr_expr.specs.declared.types.Bit.{Bit}
use Rattle.rr_expr.specs.declared.types.Entity.TheVariants as entity
use Rattle.rr_expr.specs.declared.types.Shape.{Shape}
use Rattle.rr_expr.specs.Scopes.{range_width}
use Rattle.rr_flat.specs.declared.signal.Signal.{Signal}
use Rattle.rr_flat.specs.Signals.{signal_at}
use Rattle.rr_flat.specs.View.{plain_signal}
use Rattle.rr_flat.specs.Plain.{Side, Written, Whole}
use Rattle.rr_flat.specs.Plain as plain
use Rattle.rr_flat.specs.Targets.{bits_there}
use Rattle.rr_flat.specs.View.{Design, plain_flat}
use Rattle.rr_flat.specs.Writers.{signal_bits}
use Rattle.rr_choice.specs.declared.pick.Pick.{Pick}
use Rattle.rr_choice.specs.Sites.{Site}
use Rattle.rr_named_bits.specs.Pieces.{bits_of}
use Rattle.rr_cycle.specs.Cycles.{bit_value, side_shape, side_value, signal_value}
use Rattle.rr_cycle.specs.Exec.{Environment}
use Rattle.rr_blast_steps.specs.Designs.{signal_widths}
use Rattle.rr_flat_instance.specs.Flats.{instance_side}
use Rattle.rr_signal_wires.specs.Words.{IsThere, carried, widths_of}
use Rattle.rr_meaning.proofs.Placing.{there_is}
use Rattle.rr_meaning.proofs.Scoping.{IsSound, wide}
use Rattle.rr_blast_steps.proofs.DesignLaws.{width_there}
use Rattle.rr_instance_laws.proofs.FormLaws.{form_instance}
use Rattle.rr_signal_wires.proofs.GuardedPieceLaws.{signal_piece}
use Rattle.rr_signal_wires.proofs.WordLaws.{count_of, value_there, width_at}

-- whole signals

pub signal_wires : (n : Netlist) (env : ℕ → Bool) (d : Design) (words : List (Vec Wire Global)) (id : ℕ) (v : Vec Wire Global) → IsSound d → id < length d.signals → widths_of words ≡ signal_widths d.signals → v ≡ get_or words id v →
    wire_values n env v.items ≡ signal_value (plain_flat d) id (carried n env words)
signal_wires n env d words id v f l w q =
    let s = signal_at (map plain_signal d.signals) id in
    let r = wide d id f l in
    let m : id < length words = omega (arith, count_of words, ap length w, length-map d.signals (λ (x : Signal). x.width), l) in
    let t : length v.items ≡ s.width = ap (λ (u : Vec Wire Global). length u.items) q ∙ sym (width_at words id v m) ∙ ap (λ (ws : List ℕ). get_or ws id 0) w ∙ width_there d.signals id l in
    same_lists (wire_values n env v.items) (map (λ (i : ℕ). carried n env words (record { signal = id; place = i })) (range_with_len 0 s.width))
    (length-map v.items (wire_value n env) ∙ t ∙ sym (length-map-range_with_len (λ (i : ℕ). carried n env words (record { signal = id; place = i })) 0 s.width))
    (λ k e g.
    let p : k < length v.items = omega (arith, g, length-map v.items (wire_value n env)) in
    let b : Bit = record { signal = id; place = k } in
    let there : IsThere (widths_of words) b = (omega (arith, count_of words, m), omega (arith, p, ap (λ (u : Vec Wire Global). length u.items) q, width_at words id v m)) in
    get_or-map (wire_value n env) v.items k (record { 0 = 0 }) e p
    ∙ ap (λ (u : Vec Wire Global). wire_value n env (get_or u.items k (record { 0 = 0 }))) q
    ∙ value_there n env words b v (record { 0 = 0 }) there
    ∙ sym (get_or-map-range_with_len (λ (i : ℕ). carried n env words (record { signal = id; place = i })) 0 s.width k k e (omega (arith, p, t)) (omega arith)))
    ∙ sym (there_is id s.range s.signed (carried n env words) 0 s.width (omega (arith, r.range)))

pub whole_piece : (d : Design) (id w : ℕ) → IsSound d → id < length d.signals → w ≡ (signal_at (map plain_signal d.signals) id).width → bits_of (record { signal = id; width = w; from = pos 0; count = w }) ≡ signal_bits (plain_flat d) id
whole_piece d id w f l q =
    let s = signal_at (map plain_signal d.signals) id in
    signal_piece id s.range s.signed w (pos 0) w (q ∙ (wide d id f l).range) ∙ ap (bits_there (entity.Signal id s.range s.signed) (pos 0)) q

-- instances of sides keep their shapes
pub side_same : (F : plain.Flat) (ss : List Site) (ps : List Pick) (side : Side) → side_shape F (instance_side ss ps side) ≡ side_shape F side
unfolding side_shape
side_same F ss ps (Written t i) = form_instance ss ps _ t
side_same F ss ps (Whole id) = refl

pub driver_is : (F : plain.Flat) (ss : List Site) (ps : List Pick) (t v : Side) (e : Environment) (m : ℕ) (w own : Shape) (bits : List Bool) → m ≡ max w.width own.width → w ≡ side_shape F t → own ≡ side_shape F v →
    bits ≡ side_value F (instance_side ss ps v) e m own.signed →
    bits ≡ side_value F (instance_side ss ps v) e (max (side_shape F t).width (side_shape F (instance_side ss ps v)).width) (side_shape F (instance_side ss ps v)).signed
driver_is F ss ps t v e m w own bits r p q h =
    h ∙ ap (λ (k : ℕ). side_value F (instance_side ss ps v) e k own.signed) r
    ∙ ap₂ (λ (x y : Shape). side_value F (instance_side ss ps v) e (max x.width y.width) y.signed) p (q ∙ sym (side_same F ss ps v))
