-- the wires of signals, and the environments that they carry
use Rattle.std.proofs.Common.{◌≡◌, ◌∙◌, sym, ap, ap₂, refl, ℕ, ◌<◌, Bool, true, false, cond, List, [], ◌∷◌, length, get_or, set, arith, ◌⊎◌, inl, inr}
use mathlib.Core.Path.{fun_ext}
use Rattle.std.specs.Prelude.{Vec}
use Rattle.std.specs.Global.{Global}
use Rattle.std.proofs.lemmas.Bool.{cases_eq, eq-eqb, ne_eqb}
use Rattle.std.proofs.lemmas.List.{length-map, length-set, get_or-map, get_or-set_same, get_or-set_other, map-set, set-get_or}
use Rattle.std.proofs.lemmas.List.Elements.{All-head, All-tail, All-get_or, All-set}
use Rattle.rr_circuit.specs.declared.Wire.{Wire}
use Rattle.rr_circuit.specs.Values.{Netlist, AreWires, IsWire, Extends, wire_value, wire_values}
use Rattle.rr_circuit.proofs.Netlists.{AreWires-extends, wire_values-extends}
use Rattle.rr_expr.specs.declared.types.Bit.{Bit}
use Rattle.rr_expr.specs.Scopes.{env_of_lists}
use Rattle.rr_flat.proofs.Bits.{same_is}
use Rattle.rr_flat.specs.Targets.{same_bit}
use Rattle.rr_cycle.specs.Exec.{Environment, put}
use Rattle.rr_signal_wires.specs.Words.{AreWords, IsThere, carried, word_values, widths_of}

pub AreWords-extends : (old new : Netlist) (words : List (Vec Wire Global)) → Extends old new → AreWords old words → AreWords new words
AreWords-extends old new words e h k d l = AreWires-extends old new _ e (h k d l)

word_values-extends : (old new : Netlist) (env : ℕ → Bool) (words : List (Vec Wire Global)) → Extends old new → AreWords old words → word_values new env words ≡ word_values old env words
unfolding word_values
word_values-extends old new env [] e h = refl
word_values-extends old new env (v ∷ vs) e h =
    ap₂ (λ (x : List Bool) xs. x ∷ xs) (wire_values-extends old new v.items env e (All-head (λ (u : Vec Wire Global). AreWires old u.items) v vs h))
    (word_values-extends old new env vs e (All-tail (λ (u : Vec Wire Global). AreWires old u.items) v vs h))

pub carried-extends : (old new : Netlist) (env : ℕ → Bool) (words : List (Vec Wire Global)) → Extends old new → AreWords old words → carried new env words ≡ carried old env words
unfolding carried
carried-extends old new env words e h = ap {B = Environment} (λ (vs : List (List Bool)) (b : Bit). env_of_lists vs b) (word_values-extends old new env words e h)

-- the words that there are

pub count_of : (words : List (Vec Wire Global)) → length (widths_of words) ≡ length words
unfolding widths_of
count_of words = length-map words (λ (w : Vec Wire Global). length w.items)

pub width_at : (words : List (Vec Wire Global)) (s : ℕ) (d : Vec Wire Global) → s < length words → get_or (widths_of words) s 0 ≡ length (get_or words s d).items
unfolding widths_of
width_at words s d l = get_or-map (λ (w : Vec Wire Global). length w.items) words s d 0 l

pub values_at : (n : Netlist) (env : ℕ → Bool) (words : List (Vec Wire Global)) (s : ℕ) (d : Vec Wire Global) → s < length words → get_or (word_values n env words) s [] ≡ wire_values n env (get_or words s d).items
unfolding word_values
values_at n env words s d l = get_or-map (λ (w : Vec Wire Global). wire_values n env w.items) words s d [] l

pub there_signal : (words : List (Vec Wire Global)) (b : Bit) → IsThere (widths_of words) b → b.signal < length words
there_signal words b h = omega (arith, count_of words, h.0)

pub there_place : (words : List (Vec Wire Global)) (b : Bit) (d : Vec Wire Global) → IsThere (widths_of words) b → b.place < length (get_or words b.signal d).items
there_place words b d h = omega (arith, width_at words b.signal d (there_signal words b h), h.1)

pub wire_there : (n : Netlist) (words : List (Vec Wire Global)) (b : Bit) (d : Vec Wire Global) (e : Wire) → IsThere (widths_of words) b → AreWords n words → IsWire n (get_or (get_or words b.signal d).items b.place e)
wire_there n words b d e h a =
    All-get_or (IsWire n) (get_or words b.signal d).items b.place e (there_place words b d h) (All-get_or (λ (w : Vec Wire Global). AreWires n w.items) words b.signal d (there_signal words b h) a)

pub value_there : (n : Netlist) (env : ℕ → Bool) (words : List (Vec Wire Global)) (b : Bit) (d : Vec Wire Global) (e : Wire) → IsThere (widths_of words) b →
    wire_value n env (get_or (get_or words b.signal d).items b.place e) ≡ carried n env words b
unfolding carried
value_there n env words b d e h =
    sym (ap (λ (xs : List Bool). get_or xs b.place false) (values_at n env words b.signal d (there_signal words b h))
    ∙ get_or-map (wire_value n env) (get_or words b.signal d).items b.place e false (there_place words b d h))

-- a bit that has another value

list_put : (vs : List (List Bool)) (a : Bit) (x : Bool) (ws : List Bool) → a.signal < length vs → get_or vs a.signal [] ≡ ws → a.place < length ws → (b : Bit) → env_of_lists (set vs a.signal (set ws a.place x)) b ≡ put a x (env_of_lists vs) b
list_put vs a x ws l q m b = by (cases_eq a.signal b.signal) (cases_eq a.place b.place)
  where
    by : ((a.signal ≡ b.signal) ⊎ (a.signal ≡ b.signal → ⊥)) → ((a.place ≡ b.place) ⊎ (a.place ≡ b.place → ⊥)) → env_of_lists (set vs a.signal (set ws a.place x)) b ≡ put a x (env_of_lists vs) b
    by (inr s) p = rw (ne_eqb a.signal b.signal s, get_or-set_other vs a.signal b.signal (set ws a.place x) [] (λ r. s (sym r))) refl
    by (inl s) (inl p) = rw (eq-eqb a.signal b.signal s, eq-eqb a.place b.place p, ← s, ← p, get_or-set_same vs a.signal (set ws a.place x) [] l) (get_or-set_same ws a.place x false m)
    by (inl s) (inr p) =
        rw (eq-eqb a.signal b.signal s, ne_eqb a.place b.place p, ← s, get_or-set_same vs a.signal (set ws a.place x) [] l, q) (get_or-set_other ws a.place b.place x false (λ r. p (sym r)))

pub carried_put : (n : Netlist) (env : ℕ → Bool) (words : List (Vec Wire Global)) (a : Bit) (w : Wire) (v d : Vec Wire Global) → IsThere (widths_of words) a → v.items ≡ set (get_or words a.signal d).items a.place w →
    carried n env (set words a.signal v) ≡ put a (wire_value n env w) (carried n env words)
unfolding carried word_values
carried_put n env words a w v d h q =
    let l : a.signal < length (word_values n env words) = omega (arith, there_signal words a h, length-map words (λ (u : Vec Wire Global). wire_values n env u.items)) in
    let m : a.place < length (wire_values n env (get_or words a.signal d).items) = omega (arith, there_place words a d h, length-map (get_or words a.signal d).items (wire_value n env)) in
    fun_ext (λ (b : Bit).
    ap (λ (vs : List (List Bool)). env_of_lists vs b)
    (map-set (λ (u : Vec Wire Global). wire_values n env u.items) words a.signal v
    ∙ ap (λ (xs : List Bool). set (word_values n env words) a.signal xs) (ap (wire_values n env) q ∙ map-set (wire_value n env) (get_or words a.signal d).items a.place w))
    ∙ list_put (word_values n env words) a (wire_value n env w) (wire_values n env (get_or words a.signal d).items) l (values_at n env words a.signal d (there_signal words a h)) m b)

pub widths_put : (words : List (Vec Wire Global)) (a : Bit) (w : Wire) (v d : Vec Wire Global) → IsThere (widths_of words) a → v.items ≡ set (get_or words a.signal d).items a.place w → widths_of (set words a.signal v) ≡ widths_of words
unfolding widths_of
widths_put words a w v d h q =
    map-set (λ (u : Vec Wire Global). length u.items) words a.signal v
    ∙ ap (set (widths_of words) a.signal) (ap length q ∙ length-set (get_or words a.signal d).items a.place w ∙ sym (width_at words a.signal d (there_signal words a h)))
    ∙ set-get_or (widths_of words) a.signal 0

pub wires_put : (n : Netlist) (words : List (Vec Wire Global)) (a : Bit) (w : Wire) (v d : Vec Wire Global) → IsThere (widths_of words) a → v.items ≡ set (get_or words a.signal d).items a.place w → AreWords n words → IsWire n w →
    AreWords n (set words a.signal v)
wires_put n words a w v d h q ws i =
    All-set (λ (u : Vec Wire Global). AreWires n u.items) words a.signal v
    (rw q (All-set (IsWire n) (get_or words a.signal d).items a.place w i (All-get_or (λ (u : Vec Wire Global). AreWires n u.items) words a.signal d (there_signal words a h) ws))) ws

-- a bit that is given a value where a guard is true, over what it was given before where the guard is

pub put_guarded : (g : Bool) (a : Bit) (v : Bool) (p e : Environment) → put a (cond g v ((cond g p e) a)) (cond g p e) ≡ cond g (put a v p) e
put_guarded true a v p e = refl
put_guarded false a v p e = fun_ext (λ (b : Bit). by (same_bit a b) b refl)
  where
    by : (k : Bool) (b : Bit) → same_bit a b ≡ k → cond k (e a) (e b) ≡ e b
    by true b h = ap e (same_is a b h)
    by false b h = refl
