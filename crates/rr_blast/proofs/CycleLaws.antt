-- a cycle of an instance
use Rattle.std.proofs.Common.{◌≡◌, ◌∙◌, sym, ap, ap₂, refl, ℕ, zero, suc, ◌+◌, ◌-◌, ◌<◌, ◌≤◌, Bool, false, List, [], ◌∷◌, ◌++◌, length, map, take, drop, drop-cons, get_or, arith, Option}
use Rattle.std.specs.List.{flat_map, range_with_len}
use Rattle.std.proofs.lemmas.List.{append-nil, append_assoc, length-append, drop_all, get_or_append_left, get_or-append_right, map-append, same_lists, take_more}
use Rattle.std.proofs.lemmas.List.FromFn.{get_or-map-range_with_len, length-map-range_with_len, map-range_with_len_more}
use Rattle.rr_circuit.specs.declared.Wire.{Wire}
use Rattle.rr_circuit.specs.Values.{Netlist, wire_value, wire_values, given}
use Rattle.rr_expr.specs.declared.types.Bit.{Bit}
use Rattle.rr_flat.specs.declared.signal.Signal as declared
use Rattle.rr_flat.specs.Signals as head
use Rattle.rr_flat.specs.Signals.{signal_at}
use Rattle.rr_flat.specs.declared.design.Step.{Step}
use Rattle.rr_flat.specs.Plain.{Flat}
use Rattle.rr_flat.specs.View.{Design, plain_flat}
use Rattle.rr_choice.specs.declared.pick.Pick.{Pick}
use Rattle.rr_choice.specs.Choices.{decode}
use Rattle.rr_choice.specs.Sites.{Site}
use Rattle.rr_cycle.specs.Cycles.{signal_value, zeros}
use Rattle.rr_flat.specs.Inputs.{row_inputs}
use Rattle.rr_cycle.specs.Exec.{Environment}
use Rattle.rr_cycle.specs.Performing.{base, next_after, performed}
use Rattle.rr_flat_instance.specs.Flats.{instance_flat}
use Rattle.rr_blast.specs.Rows.{AreNarrow, AreRegisters, BasesStay, bits_of_row}
use Rattle.rr_transition.specs.Placed.{placed, row_of}
use Rattle.rr_transition.specs.Placed.{settled_of}
use Rattle.rr_transition.specs.Cycles.{output_bits}
use Rattle.rr_blast.specs.Circuits.{answers_of}
use Rattle.rr_blast.proofs.BaseLaws.{base_is}
use Rattle.rr_meaning.specs.Work.{NoneAbove, inner_beginning}
use Rattle.rr_meaning.proofs.Scoping.{signal_read}

-- lists of bits

abbrev pub run : ℕ → ℕ → List Bit
run s n = map (λ (p : ℕ). record { signal = s; place = p }) (range_with_len 0 n)

pub bits_more : (old list new : List Bit) (s p : ℕ) → list ≡ old ++ run s p → new ≡ list ++ record { signal = s; place = p } ∷ [] → new ≡ old ++ run s (p + 1)
bits_more old list new s p h k =
    let e : 0 + p ≡ p = omega arith in
    k ∙ ap (λ (xs : List Bit). xs ++ record { signal = s; place = p } ∷ []) h ∙ append_assoc old (run s p) (record { signal = s; place = p } ∷ [])
    ∙ ap (λ (xs : List Bit). old ++ xs) (sym (map-range_with_len_more {X = Bit} (λ (q : ℕ). record { signal = s; place = q }) 0 p p e))

pub row_more : (d : Design) (ids : List ℕ) (i : ℕ) (x : declared.Signal) (bits new r : List Bit) → i < length ids → get_or ids i 0 < length d.signals → x ≡ get_or d.signals (get_or ids i 0) x →
    bits ++ bits_of_row (plain_flat d).signals (drop i ids) ≡ r → new ≡ bits ++ run (get_or ids i 0) x.width → new ++ bits_of_row (plain_flat d).signals (drop (i + 1) ids) ≡ r
unfolding bits_of_row
row_more d ids i x bits new r l m q h k =
    let S = (plain_flat d).signals in
    let id : ℕ = get_or ids i 0 in
    let w : x.width ≡ (signal_at S id).width = ap (λ (s : head.Signal). s.width) (signal_read d.signals id x x m q) in
    let s : suc i ≡ i + 1 = omega arith in
    ap (λ (xs : List Bit). xs ++ bits_of_row S (drop (i + 1) ids)) (k ∙ ap (λ (n : ℕ). bits ++ run id n) w)
    ∙ append_assoc bits (run id (signal_at S id).width) (bits_of_row S (drop (i + 1) ids))
    ∙ ap (λ (js : List ℕ). bits ++ bits_of_row S js) (ap (λ (n : ℕ). id ∷ drop n ids) (sym s) ∙ sym (drop-cons ids i 0 l))
    ∙ h

pub row_done : (S : List head.Signal) (ids : List ℕ) (i : ℕ) (bits r : List Bit) → length ids ≤ i → bits ++ bits_of_row S (drop i ids) ≡ r → bits ≡ r
unfolding bits_of_row
row_done S ids i bits r l h = sym (append-nil bits) ∙ ap (λ (js : List ℕ). bits ++ bits_of_row S js) (sym (drop_all i ids l)) ∙ h

-- wires of inputs

pub inputs_more : (n : Netlist) (env : ℕ → Bool) (list new : List Wire) (w : Wire) (from p : ℕ) → wire_values n env list ≡ map env (range_with_len from p) → new ≡ list ++ w ∷ [] → wire_value n env w ≡ env (from + p) →
    wire_values n env new ≡ map env (range_with_len from (p + 1))
inputs_more n env list new w from p h k v =
    ap (wire_values n env) k ∙ map-append (wire_value n env) list (w ∷ []) ∙ ap₂ (λ (xs : List Bool) (x : Bool). xs ++ x ∷ []) h v ∙ sym (map-range_with_len_more env from p (from + p) refl)

-- the inputs that the middle of a list gives
pub given_middle : (p m q : List Bool) (from count : ℕ) → from ≡ length p → count ≡ length m → map (given (p ++ (m ++ q))) (range_with_len from count) ≡ m
given_middle p m q from count f c =
    same_lists (map (given (p ++ (m ++ q))) (range_with_len from count)) m (length-map-range_with_len (given (p ++ (m ++ q))) from count ∙ c)
    (λ k d l.
    let t : k < count = omega (arith, l, length-map-range_with_len (given (p ++ (m ++ q))) from count) in
    let u : k < length m = omega (arith, t, c) in
    let e : from + k - length p ≡ k = omega (arith, f) in
    get_or-map-range_with_len (given (p ++ (m ++ q))) from count k (from + k) d t refl
    ∙ get_or-append_right p (m ++ q) (length p) (from + k) false refl (omega (arith, f))
    ∙ ap (λ (i : ℕ). get_or (m ++ q) i false) e
    ∙ get_or_append_left m q false k u
    ∙ other m k d u)
  where
    other : (xs : List Bool) (k : ℕ) (d : Bool) → k < length xs → get_or xs k false ≡ get_or xs k d
    other [] k d l = absurd (omega arith)
    other (x ∷ xs) zero d l = refl
    other (x ∷ xs) (suc k) d l = other xs k d (omega (arith, l))

-- wires of outputs

pub outputs_more : (F : Flat) (n : Netlist) (env : ℕ → Bool) (e : Environment) (ids : List ℕ) (i : ℕ) (list new word : List Wire) → i < length ids →
    wire_values n env list ≡ flat_map (λ id. signal_value F id e) (take i ids) → new ≡ list ++ word → wire_values n env word ≡ signal_value F (get_or ids i 0) e →
    wire_values n env new ≡ flat_map (λ id. signal_value F id e) (take (i + 1) ids)
outputs_more F n env e ids i list new word l h k v =
    ap (wire_values n env) k ∙ map-append (wire_value n env) list word ∙ ap₂ (λ (xs ys : List Bool). xs ++ ys) h v
    ∙ last (take i ids) (get_or ids i 0) ∙ ap (flat_map (λ id. signal_value F id e)) (sym (take_more ids i 0 l))
  where
    last : (xs : List ℕ) (x : ℕ) → flat_map (λ id. signal_value F id e) xs ++ signal_value F x e ≡ flat_map (λ id. signal_value F id e) (xs ++ x ∷ [])
    last [] x = sym (append-nil (signal_value F x e))
    last (y ∷ ys) x = append_assoc (signal_value F y e) (flat_map (λ id. signal_value F id e) ys) (signal_value F x e) ∙ ap (λ (zs : List Bool). signal_value F y e ++ zs) (last ys x)

-- all together

answers_cong : (F : Flat) (registers : List Bit) (e f : Environment) → e ≡ f → answers_of F registers e ≡ answers_of F registers f
answers_cong F registers e f q = ap (answers_of F registers) q

answers_parts : (F : Flat) (ss : List Site) (ps : List Pick) (registers : List Bit) (e : Environment) → map (next_after (instance_flat ss ps F) e) registers ++ output_bits F e ≡ answers_of (instance_flat ss ps F) registers e
unfolding instance_flat
answers_parts F ss ps registers e = refl

settled_parts : (F : Flat) (ss : List Site) (ps : List Pick) (clock : Option ℕ) (steps : List Step) (registers : List Bit) (s r : List Bool) →
    performed (instance_flat ss ps F) steps (base (instance_flat ss ps F) clock (placed registers s zeros) (row_of F.signals (row_inputs clock F.inputs) r)) ≡ settled_of (instance_flat ss ps F) clock steps registers s r
unfolding instance_flat
settled_parts F ss ps clock steps registers s r = refl

pub answers_are : (F : Flat) (clock : Option ℕ) (ss : List Site) (ps qs : List Pick) (steps : List Step) (registers inputs : List Bit) (s r : List Bool) (e0 e1 e2 en : Environment) (xs ys zs : List Bool) →
    AreNarrow F.signals → NoneAbove F → AreRegisters F registers → BasesStay F clock ss → inputs ≡ bits_of_row F.signals (row_inputs clock F.inputs) →
    e0 ≡ placed registers s (placed inputs r (inner_beginning F)) → e1 ≡ performed (instance_flat ss ps F) steps e0 → qs ≡ ps → en ≡ next_after (instance_flat ss qs F) e1 → e2 ≡ e1 →
    xs ≡ map en registers → ys ≡ output_bits F e2 → zs ≡ xs ++ ys →
    zs ≡ answers_of (instance_flat ss ps F) registers (settled_of (instance_flat ss ps F) clock steps registers s r)
answers_are F clock ss ps qs steps registers inputs s r e0 e1 e2 en xs ys zs narrow above are bases row h0 h1 p hn h2 hx hy hz =
    let b : e0 ≡ base (instance_flat ss ps F) clock (placed registers s zeros) (row_of F.signals (row_inputs clock F.inputs) r) =
    h0 ∙ ap (λ (bs : List Bit). placed registers s (placed bs r (inner_beginning F))) row ∙ base_is F clock registers s r narrow above are
    ∙ sym (bases ps (placed registers s zeros) (row_of F.signals (row_inputs clock F.inputs) r)) in
    let e : e1 ≡ settled_of (instance_flat ss ps F) clock steps registers s r = h1 ∙ ap (performed (instance_flat ss ps F) steps) b ∙ settled_parts F ss ps clock steps registers s r in
    hz ∙ ap₂ (λ (us vs : List Bool). us ++ vs)
    (hx ∙ ap (λ (f : Environment). map f registers) (hn ∙ ap (λ (z : List Pick). next_after (instance_flat ss z F) e1) p))
    (hy ∙ ap (output_bits F) h2)
    ∙ answers_parts F ss ps registers e1
    ∙ answers_cong (instance_flat ss ps F) registers e1 (settled_of (instance_flat ss ps F) clock steps registers s r) e

pub same_answers : (F : Flat) (clock : Option ℕ) (ss : List Site) (steps : List Step) (registers : List Bit) (c1 c2 s1 s2 r1 r2 : List Bool) → c1 ≡ c2 → s1 ≡ s2 → r1 ≡ r2 →
    answers_of (instance_flat ss (decode ss c1) F) registers (settled_of (instance_flat ss (decode ss c1) F) clock steps registers s1 r1)
    ≡ answers_of (instance_flat ss (decode ss c2) F) registers (settled_of (instance_flat ss (decode ss c2) F) clock steps registers s2 r2)
same_answers F clock ss steps registers c1 c2 s1 s2 r1 r2 p q r =
    ap (λ (c : List Bool). answers_of (instance_flat ss (decode ss c) F) registers (settled_of (instance_flat ss (decode ss c) F) clock steps registers s1 r1)) p
    ∙ ap₂ (λ (s t : List Bool). answers_of (instance_flat ss (decode ss c2) F) registers (settled_of (instance_flat ss (decode ss c2) F) clock steps registers s t)) q r

-- those that its end gives
pub given_last : (p m q : List Bool) (from count : ℕ) → from ≡ length p + length m → count ≡ length q → map (given (p ++ (m ++ q))) (range_with_len from count) ≡ q
given_last p m q from count f c =
    ap (λ (xs : List Bool). map (given xs) (range_with_len from count)) (sym (append_assoc p m q) ∙ ap (λ (ys : List Bool). (p ++ m) ++ ys) (sym (append-nil q)))
    ∙ given_middle (p ++ m) q [] from count (f ∙ sym (length-append p m)) c
