-- bits that are given values
use Rattle.std.proofs.Common.{◌≡◌, ◌∙◌, sym, ap, ap₂, refl, ℕ, zero, suc, ◌+◌, ◌-◌, ◌<◌, ◌≤◌, Bool, true, false, cond, List, [], ◌∷◌, ◌++◌, length, map, take, drop, drop-cons, get_or, All, arith, ◌⊎◌, inl, inr}
use Rattle.std.specs.Prelude.{Vec}
use Rattle.std.specs.Global.{Global}
use mathlib.Core.Path.{fun_ext}
use Rattle.std.proofs.lemmas.Bool.{cases_lt}
use Rattle.std.proofs.lemmas.List.{drop_all, get_or-map, get_or_append_left, get_or-append_right, get_or_past, length-map, length-take, map_more, map_push, take_all}
use Rattle.std.proofs.lemmas.List.Elements.{All-get_or}
use Rattle.rr_bits.specs.Words.{word}
use Rattle.rr_bits.proofs.Places.{get_past, get_word}
use Rattle.rr_circuit.specs.declared.Wire.{Wire}
use Rattle.rr_circuit.specs.Values.{Netlist, wire_value, wire_values}
use Rattle.rr_expr.specs.declared.types.Bit.{Bit}
use Rattle.rr_expr.specs.Scopes.{env_of}
use Rattle.rr_flat.specs.declared.signal.Signal.{Signal}
use Rattle.rr_flat.specs.Signals.{signal_at}
use Rattle.rr_flat.specs.View.{Design, plain_flat}
use Rattle.rr_cycle.specs.Cycles.{beginning, zeros}
use Rattle.rr_cycle.specs.Exec.{Environment, first, put, rest}
use Rattle.rr_cycle.specs.Performing.{any_is}
use Rattle.rr_transition.specs.Placed.{placed}
use Rattle.rr_meaning.specs.Work.{NoneAbove, inner_beginning}
use Rattle.rr_meaning.proofs.Rows.{past_values}
use Rattle.rr_meaning.proofs.Scoping.{IsSound}
use Rattle.rr_blast_steps.specs.Designs.{signal_widths}
use Rattle.rr_blast_steps.proofs.DesignLaws.{narrow_widths, width_there}
use Rattle.rr_signal_wires.specs.Words.{carried, widths_of, word_values}
use Rattle.rr_signal_wires.proofs.WordLaws.{values_at}

-- bits and values one after the other, the last first

pub placed_none : (bs : List Bit) (vs : List Bool) (e : Environment) → e ≡ placed (drop (length bs) bs) vs e
unfolding placed
placed_none bs vs e = ap (λ (cs : List Bit). placed cs vs e) (sym (drop_all (length bs) bs (omega arith)))

first_at : (vs : List Bool) (k : ℕ) → first (drop k vs) ≡ get_or vs k false
first_at [] zero = refl
first_at [] (suc k) = refl
first_at (v ∷ vs) zero = refl
first_at (v ∷ vs) (suc k) = first_at vs k

rest_at : (vs : List Bool) (k : ℕ) → rest (drop k vs) ≡ drop (suc k) vs
rest_at [] zero = refl
rest_at [] (suc k) = refl
rest_at (v ∷ vs) zero = refl
rest_at (v ∷ vs) (suc k) = rest_at vs k

pub placed_at : (bs : List Bit) (vs : List Bool) (e : Environment) (k : ℕ) (d : Bit) → k < length bs → placed (drop k bs) (drop k vs) e ≡ put (get_or bs k d) (get_or vs k false) (placed (drop (suc k) bs) (drop (suc k) vs) e)
unfolding placed
placed_at bs vs e k d l =
    ap (λ (cs : List Bit). placed cs (drop k vs) e) (drop-cons bs k d l)
    ∙ ap₂ (λ (v : Bool) (us : List Bool). put (get_or bs k d) v (placed (drop (suc k) bs) us e)) (first_at vs k) (rest_at vs k)

pub placed_more : (n : Netlist) (env : ℕ → Bool) (bs : List Bit) (ws : List Wire) (e f g : Environment) (k j : ℕ) (d : Bit) (x : Wire) → k < length bs → length ws ≡ length bs → j ≡ k + 1 →
    f ≡ placed (drop j bs) (drop j (wire_values n env ws)) e → g ≡ put (get_or bs k d) (wire_value n env (get_or ws k x)) f → g ≡ placed (drop k bs) (drop k (wire_values n env ws)) e
placed_more n env bs ws e f g k j d x l m q h i =
    let s : suc k ≡ j = omega (arith, q) in
    let v : wire_value n env (get_or ws k x) ≡ get_or (wire_values n env ws) k false = sym (get_or-map (wire_value n env) ws k x false (omega (arith, l, m))) in
    i ∙ ap₂ (λ (y : Bool) (c : Environment). put (get_or bs k d) y c) v (h ∙ ap (λ (t : ℕ). placed (drop t bs) (drop t (wire_values n env ws)) e) (sym s))
    ∙ sym (placed_at bs (wire_values n env ws) e k d l)

-- words of zeros

no_word : (words : List (Vec Wire Global)) (k : ℕ) → k < length words → Vec Wire Global
no_word [] k l = absurd (omega arith)
no_word (v ∷ vs) k l = v

pub zeros_carried : (n : Netlist) (env : ℕ → Bool) (z : Wire) (words : List (Vec Wire Global)) → wire_value n env z ≡ false → All (λ (v : Vec Wire Global). All (λ w. w ≡ z) v.items) words → carried n env words ≡ zeros
unfolding carried word_values
zeros_carried n env z words h a = fun_ext (λ (b : Bit). by b (cases_lt b.signal (length words)))
  where
    inside : (xs : List Wire) (p : ℕ) → All (λ w. w ≡ z) xs → ((p < length xs) ⊎ (length xs ≤ p)) → get_or (wire_values n env xs) p false ≡ false
    inside xs p all (inl l) = get_or-map (wire_value n env) xs p z false l ∙ ap (wire_value n env) (all p z l) ∙ h
    inside xs p all (inr l) = get_or_past (wire_values n env xs) p false (omega (arith, l, length-map xs (wire_value n env)))

    by : (b : Bit) → ((b.signal < length words) ⊎ (length words ≤ b.signal)) → get_or (get_or (word_values n env words) b.signal []) b.place false ≡ false
    by b (inl l) =
        let d = no_word words b.signal l in
        ap (λ (xs : List Bool). get_or xs b.place false) (values_at n env words b.signal d l)
        ∙ inside (get_or words b.signal d).items b.place (All-get_or (λ (v : Vec Wire Global). All (λ w. w ≡ z) v.items) words b.signal d l a) (cases_lt b.place (length (get_or words b.signal d).items))
    by b (inr l) =
        ap (λ (xs : List Bool). get_or xs b.place false) (get_or_past (word_values n env words) b.signal [] (omega (arith, l, length-map words (λ (v : Vec Wire Global). wire_values n env v.items))))

-- words of starting values

abbrev values_of : Netlist → (ℕ → Bool) → Vec Wire Global → List Bool
values_of n env w = wire_values n env w.items

-- a word more
pub starts_more : (n : Netlist) (env : ℕ → Bool) (words new : List (Vec Wire Global)) (v : Vec Wire Global) (widths starts : List ℕ) (i : ℕ) → length words ≡ i → new ≡ words ++ v ∷ [] →
    wire_values n env v.items ≡ word (get_or widths i 0) (get_or starts i 0) →
    ((k : ℕ) → k < i → get_or (word_values n env words) k [] ≡ word (get_or widths k 0) (get_or starts k 0)) → (k : ℕ) → k < i + 1 → get_or (word_values n env new) k [] ≡ word (get_or widths k 0) (get_or starts k 0)
unfolding word_values
starts_more n env words new v widths starts i size e h old k l =
    ap (λ (ws : List (Vec Wire Global)). get_or (map (values_of n env) ws) k []) e ∙ ap (λ (xs : List (List Bool)). get_or xs k []) (map_push (values_of n env) words v) ∙ by (cases_lt k i)
  where
    size_is : i ≡ length (map (values_of n env) words)
    size_is = sym (length-map words (values_of n env) ∙ size)

    zero_left : i ≡ k → k - i ≡ 0
    zero_left q = omega (arith, q)

    by : ((k < i) ⊎ (i ≤ k)) → get_or (map (values_of n env) words ++ values_of n env v ∷ []) k [] ≡ word (get_or widths k 0) (get_or starts k 0)
    by (inl m) = get_or_append_left (map (values_of n env) words) (values_of n env v ∷ []) [] k (omega (arith, m, size, length-map words (values_of n env))) ∙ old k m
    by (inr m) =
        let q : i ≡ k = omega (arith, l, m) in
        get_or-append_right (map (values_of n env) words) (values_of n env v ∷ []) i k [] (sym size_is) (omega arith)
        ∙ ap (λ (j : ℕ). get_or (values_of n env v ∷ []) j []) (zero_left q)
        ∙ h ∙ ap (λ (j : ℕ). word (get_or widths j 0) (get_or starts j 0)) q

-- the widths of the words so far
pub widths_none : (words : List (Vec Wire Global)) → words ≡ [] → widths_of words ≡ []
unfolding widths_of
widths_none words e = rw e refl

pub widths_more : (words new : List (Vec Wire Global)) (v : Vec Wire Global) (signals : List Signal) (i : ℕ) (d : Signal) → i < length signals → widths_of words ≡ signal_widths (take i signals) →
    length v.items ≡ (get_or signals i d).width → new ≡ words ++ v ∷ [] → widths_of new ≡ signal_widths (take (i + 1) signals)
unfolding widths_of
widths_more words new v signals i d l h size e =
    ap (map (λ (w : Vec Wire Global). length w.items)) e ∙ map_push (λ (w : Vec Wire Global). length w.items) words v
    ∙ ap₂ (λ (ws : List ℕ) (w : ℕ). ws ++ w ∷ []) h size ∙ sym (map_more (λ (s : Signal). s.width) signals i d l)

words_size : (words : List (Vec Wire Global)) (signals : List Signal) (i : ℕ) → widths_of words ≡ signal_widths (take i signals) → length words ≡ length (take i signals)
unfolding widths_of
words_size words signals i h = sym (length-map words (λ (w : Vec Wire Global). length w.items)) ∙ ap length h ∙ length-map (take i signals) (λ (s : Signal). s.width)

pub words_before : (words : List (Vec Wire Global)) (signals : List Signal) (i : ℕ) → i < length signals → widths_of words ≡ signal_widths (take i signals) → length words ≡ i
words_before words signals i l h = let r = words_size words signals i h in let t = length-take i signals in omega (arith, r, t, l)

pub words_all : (words : List (Vec Wire Global)) (signals : List Signal) (i : ℕ) → length signals ≤ i → widths_of words ≡ signal_widths (take i signals) → length words ≡ length signals
words_all words signals i l h = words_size words signals i h ∙ ap length (take_all i signals l)

pub starts_carried : (d : Design) (n : Netlist) (env : ℕ → Bool) (words : List (Vec Wire Global)) (starts : List ℕ) → IsSound d → length words ≡ length d.signals → length starts ≡ length d.signals →
    env_of starts ≡ inner_beginning (plain_flat d) → NoneAbove (plain_flat d) → ((k : ℕ) → k < length words → get_or (word_values n env words) k [] ≡ word (get_or (signal_widths d.signals) k 0) (get_or starts k 0)) →
    carried n env words ≡ inner_beginning (plain_flat d)
unfolding carried word_values
starts_carried d n env words starts sound size count are above h = fun_ext (λ (b : Bit). by b (cases_lt b.signal (length d.signals)) ∙ ap (λ (e : Environment). e b) are)
  where
    none : (x y : Bool) → y ≡ false → cond x false y ≡ false
    none true y k = refl
    none false y k = k

    at : (b : Bit) → b.signal < length d.signals → ((b.place < get_or (signal_widths d.signals) b.signal 0) ⊎ (get_or (signal_widths d.signals) b.signal 0 ≤ b.place)) →
        get_or (word (get_or (signal_widths d.signals) b.signal 0) (get_or starts b.signal 0)) b.place false ≡ env_of starts b
    at b l (inl m) =
        let small : get_or (signal_widths d.signals) b.signal 0 ≤ 128 = narrow_widths d sound (signal_widths d.signals) refl b.signal in
        get_word (get_or (signal_widths d.signals) b.signal 0) (get_or starts b.signal 0) b.place false m ∙ sym (get_word 128 (get_or starts b.signal 0) b.place false (omega (arith, m, small)))
    at b l (inr m) =
        let past : (signal_at (plain_flat d).signals b.signal).width ≤ b.place = omega (arith, m, width_there d.signals b.signal l) in
        get_past (get_or (signal_widths d.signals) b.signal 0) (get_or starts b.signal 0) b.place false m
        ∙ sym (ap (λ (e : Environment). e b) are ∙ none (any_is (plain_flat d).inputs b.signal) (beginning (plain_flat d) b) (above b past))

    by : (b : Bit) → ((b.signal < length d.signals) ⊎ (length d.signals ≤ b.signal)) → get_or (get_or (word_values n env words) b.signal []) b.place false ≡ env_of starts b
    by b (inl l) = ap (λ (xs : List Bool). get_or xs b.place false) (h b.signal (omega (arith, l, size))) ∙ at b l (cases_lt b.place (get_or (signal_widths d.signals) b.signal 0))
    by b (inr l) =
        ap (λ (xs : List Bool). get_or xs b.place false) (get_or_past (word_values n env words) b.signal [] (omega (arith, l, size, length-map words (λ (v : Vec Wire Global). wire_values n env v.items))))
        ∙ sym (past_values starts b (omega (arith, l, count)))
