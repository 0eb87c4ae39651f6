-- the turns of the question
use Rattle.std.proofs.Common.{◌≡◌, ℕ, ◌+◌, ◌<◌, ◌≤◌, Bool, false, cond, List, [], ◌∷◌, ◌++◌, length, get_or, take, drop, refl, sym, ◌∙◌, ap, ap₂, append_assoc, append-nil}
use Rattle.std.proofs.lemmas.List.{drop_more, drop_all, get_or-map}
use Rattle.rr_circuit.specs.declared.Wire.{Wire}
use Rattle.rr_circuit.specs.Values.{Netlist, wire_value, wire_values}
use Rattle.rr_cycle.specs.Exec.{first, rest}
use Rattle.rr_trace.specs.declared.cell.Cell.{Cell}
use Rattle.rr_unroll.specs.Questions.{is_same, agree, agree_row, judged}
use Rattle.rr_transition.specs.Transitions.{Transition, cycle_bits}
use Rattle.rr_unroll.proofs.WordLaws.{drop_head, drop_rest}

pub first_head : (xs : List Bool) → first xs ≡ get_or xs 0 false
first_head [] = refl
first_head (x ∷ xs) = refl

rest_drop : (xs : List Bool) → rest xs ≡ drop 1 xs
rest_drop [] = refl
rest_drop (x ∷ xs) = refl

first_left : (xs : List Bool) (i : ℕ) → first (drop i xs) ≡ get_or xs i false
first_left xs i = first_head (drop i xs) ∙ drop_head xs i false

rest_left : (xs : List Bool) (i : ℕ) → rest (drop i xs) ≡ drop (i + 1) xs
rest_left xs i = rest_drop (drop i xs) ∙ drop_rest xs i

-- one place more
pub agree_step : (ks es bs : List Bool) (i : ℕ) → i < length ks →
    agree (drop i ks) (drop i es) (drop i bs)
    ≡ cond (get_or ks i false) (is_same (get_or es i false) (get_or bs i false) ∷ []) [] ++ agree (drop (i + 1) ks) (drop (i + 1) es) (drop (i + 1) bs)
unfolding agree
agree_step ks es bs i l =
    ap (λ xs. agree xs (drop i es) (drop i bs)) (drop_more ks i false l)
    ∙ ap₂ (λ e b. cond (get_or ks i false) (is_same e b ∷ []) [] ++ agree (drop (i + 1) ks) (rest (drop i es)) (rest (drop i bs))) (first_left es i) (first_left bs i)
    ∙ ap₂ (λ xs ys. cond (get_or ks i false) (is_same (get_or es i false) (get_or bs i false) ∷ []) [] ++ agree (drop (i + 1) ks) xs ys) (rest_left es i) (rest_left bs i)

pub asked_more : (n : Netlist) (env : ℕ → Bool) (out new : List Wire) (all ks es : List Bool) (ws : List Wire) (i : ℕ) (d : Wire) → i < length ks → i < length ws →
    wire_values n env new ≡ wire_values n env out ++ cond (get_or ks i false) (is_same (get_or es i false) (wire_value n env (get_or ws i d)) ∷ []) [] →
    wire_values n env out ++ agree (drop i ks) (drop i es) (drop i (wire_values n env ws)) ≡ all →
    wire_values n env new ++ agree (drop (i + 1) ks) (drop (i + 1) es) (drop (i + 1) (wire_values n env ws)) ≡ all
asked_more n env out new all ks es ws i d l r v h =
    let bs : List Bool = wire_values n env ws in
    let later : List Bool = agree (drop (i + 1) ks) (drop (i + 1) es) (drop (i + 1) bs) in
    ap (λ xs. xs ++ later) (v ∙ ap (λ b. wire_values n env out ++ cond (get_or ks i false) (is_same (get_or es i false) b ∷ []) []) (sym (get_or-map (wire_value n env) ws i d false r)))
    ∙ append_assoc (wire_values n env out) (cond (get_or ks i false) (is_same (get_or es i false) (get_or bs i false) ∷ []) []) later
    ∙ ap (λ xs. wire_values n env out ++ xs) (sym (agree_step ks es bs i l))
    ∙ h

pub asked_all : (out all ks es bs : List Bool) (i : ℕ) → length ks ≤ i → out ++ agree (drop i ks) (drop i es) (drop i bs) ≡ all → out ≡ all
unfolding agree
asked_all out all ks es bs i l h = sym (append-nil out) ∙ ap (λ xs. out ++ agree xs (drop i es) (drop i bs)) (sym (drop_all i ks l)) ∙ h

-- one row more
pub judged_step : (t : Transition) (choice state : List Bool) (rows : List (List ℕ)) (expected : List (List Cell)) (r : ℕ) → r < length rows →
    judged t choice state (drop r rows) (drop r expected)
    ≡ agree_row t.output_widths (get_or expected r []) (drop t.state_bits (cycle_bits t choice state (get_or rows r [])))
    ++ judged t choice (take t.state_bits (cycle_bits t choice state (get_or rows r []))) (drop (r + 1) rows) (drop (r + 1) expected)
unfolding judged
judged_step t choice state rows expected r l =
    ap (λ xs. judged t choice state xs (drop r expected)) (drop_more rows r [] l)
    ∙ ap₂ (λ cells more. agree_row t.output_widths cells (drop t.state_bits (cycle_bits t choice state (get_or rows r [])))
    ++ judged t choice (take t.state_bits (cycle_bits t choice state (get_or rows r []))) (drop (r + 1) rows) more)
    (drop_head expected r []) (drop_rest expected r)

pub judged_more : (t : Transition) (choice state next out new all : List Bool) (rows : List (List ℕ)) (expected : List (List Cell)) (r : ℕ) → r < length rows →
    new ≡ out ++ agree_row t.output_widths (get_or expected r []) (drop t.state_bits (cycle_bits t choice state (get_or rows r []))) →
    next ≡ take t.state_bits (cycle_bits t choice state (get_or rows r [])) →
    out ++ judged t choice state (drop r rows) (drop r expected) ≡ all →
    new ++ judged t choice next (drop (r + 1) rows) (drop (r + 1) expected) ≡ all
judged_more t choice state next out new all rows expected r l v s h =
    let here : List Bool = agree_row t.output_widths (get_or expected r []) (drop t.state_bits (cycle_bits t choice state (get_or rows r []))) in
    let later : List Bool = judged t choice (take t.state_bits (cycle_bits t choice state (get_or rows r []))) (drop (r + 1) rows) (drop (r + 1) expected) in
    ap₂ (λ xs ys. xs ++ judged t choice ys (drop (r + 1) rows) (drop (r + 1) expected)) v s
    ∙ append_assoc out here later
    ∙ ap (λ xs. out ++ xs) (sym (judged_step t choice state rows expected r l))
    ∙ h

pub judged_all : (t : Transition) (choice state out all : List Bool) (rows : List (List ℕ)) (expected : List (List Cell)) (r : ℕ) → length rows ≤ r →
    out ++ judged t choice state (drop r rows) (drop r expected) ≡ all → out ≡ all
unfolding judged
judged_all t choice state out all rows expected r l h = sym (append-nil out) ∙ ap (λ xs. out ++ judged t choice state xs (drop r expected)) (sym (drop_all r rows l)) ∙ h
