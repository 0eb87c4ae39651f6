-- the parts of a circuit's text
use Rattle.std.proofs.Common.{◌≡◌, ◌≢◌, ◌⊎◌, inl, inr, ℕ, zero, suc, ◌+◌, ◌*◌, ◌^◌, ◌<◌, ◌≤◌, List, [], ◌∷◌, ◌++◌, length, get_or, take, refl, sym, ◌∙◌, ap, ap₂, subst, arith, length-append}
use Rattle.std.specs.Prelude.{All}
use Rattle.std.specs.Fmt.{decimal}
use Rattle.std.proofs.lemmas.Bool.{cases_lt}
use Rattle.std.proofs.lemmas.List.{append_assoc, take_more, take_all, map_push, length-map, length-take-le, get_or_append_left, get_or_push}
use Rattle.std.proofs.lemmas.List.FromFn.{map-range_with_len_more, length-map-range_with_len}
use Rattle.std.proofs.lemmas.List.Elements.{All-push}
use Rattle.rr_circuit.specs.declared.Wire.{Wire}
use Rattle.rr_circuit.specs.declared.Gate.{Gate}
use Rattle.rr_circuit.specs.declared.aag.Counts.{Counts}
use Rattle.rr_circuit.specs.Values.{IsGateAt, IsNetlist}
use Rattle.rr_circuit.specs.Aag.{header_line, input_line, output_line, gate_line, input_lines, output_lines, gate_lines, text_of, IsLine, AreLines, GoesWrong}
use Rattle.rr_decimal.proofs.Numerals.{number_unique}
use Rattle.rr_circuit.proofs.AagLaws.{text_of-append, text_grows, AreLines-append, AreLines-push}

no_wire : Wire
no_wire = record { 0 = 0 }

no_gate : Gate
no_gate = record { left = record { 0 = 0 }; right = record { 0 = 0 } }

-- ---- writing: one line more
pub text_pushed : (start out : List ℕ) (xs : List (List ℕ)) (line : List ℕ) → out ≡ start ++ text_of xs → out ++ (line ++ 10 ∷ []) ≡ start ++ text_of (xs ++ line ∷ [])
text_pushed start out xs line e =
    ap (λ z. z ++ (line ++ 10 ∷ [])) e ∙ append_assoc start (text_of xs) (line ++ 10 ∷ []) ∙ ap (λ z. start ++ z) (sym (text_of-append xs (line ∷ [])))

pub input_lines-more : (k : ℕ) → input_lines (k + 1) ≡ input_lines k ++ input_line (k + 1) ∷ []
input_lines-more k = map-range_with_len_more (λ i. input_line (i + 1)) 0 k k (omega arith)

pub output_lines-push : (ws : List Wire) (w : Wire) → output_lines (ws ++ w ∷ []) ≡ output_lines ws ++ output_line w ∷ []
output_lines-push ws w = map_push output_line ws w

pub gate_lines-push : (v : ℕ) (gs : List Gate) (g : Gate) → gate_lines v (gs ++ g ∷ []) ≡ gate_lines v gs ++ gate_line (v + length gs) g ∷ []
gate_lines-push v [] g = ap (λ n. gate_line n g ∷ []) (omega arith)
gate_lines-push v (x ∷ gs) g = ap (λ z. gate_line v x ∷ z) (gate_lines-push (v + 1) gs g ∙ ap (λ n. gate_lines (v + 1) gs ++ gate_line n g ∷ []) (omega arith))

length-gate_lines : (v : ℕ) (gs : List Gate) → length (gate_lines v gs) ≡ length gs
length-gate_lines v [] = refl
length-gate_lines v (g ∷ gs) = let h = length-gate_lines (v + 1) gs in omega arith

-- ---- what stands at a place
pub input_place : (h : Counts) (k : ℕ) (line : List ℕ) → k < h.inputs → IsLine h (1 + k) line → line ≡ input_line (k + 1)
input_place h k line l (inl p) = absurd (let e = p.0 in omega arith)
input_place h k line l (inr (inl p)) = p.text ∙ ap (λ n. input_line (n + 1)) (let e = p.place in omega arith)
input_place h k line l (inr (inr (inl p))) = absurd (let e = p.place in omega arith)
input_place h k line l (inr (inr (inr p))) = absurd (let e = p.place in omega arith)

pub output_place : (h : Counts) (k : ℕ) (line : List ℕ) → k < h.outputs → IsLine h (1 + h.inputs + k) line → (w : Wire) × ((w.0 < 2 * (1 + h.inputs + h.gates)) × (line ≡ output_line w))
output_place h k line l (inl p) = absurd (let e = p.0 in omega arith)
output_place h k line l (inr (inl p)) = absurd (let e = p.place in let w = p.within in omega arith)
output_place h k line l (inr (inr (inl p))) = (p.wire, (p.known, p.text))
output_place h k line l (inr (inr (inr p))) = absurd (let e = p.place in omega arith)

pub gate_place : (h : Counts) (k : ℕ) (line : List ℕ) → k < h.gates → IsLine h (1 + h.inputs + h.outputs + k) line → (g : Gate) × (IsGateAt h.inputs k g × (line ≡ gate_line (1 + h.inputs + k) g))
gate_place h k line l (inl p) = absurd (let e = p.0 in omega arith)
gate_place h k line l (inr (inl p)) = absurd (let e = p.place in let w = p.within in omega arith)
gate_place h k line l (inr (inr (inl p))) = absurd (let e = p.place in let w = p.within in omega arith)
gate_place h k line l (inr (inr (inr p))) =
    let same : p.number ≡ k = let e = p.place in omega arith in
    (p.gate, (subst (λ n. IsGateAt h.inputs n p.gate) same p.known, p.text ∙ ap (λ n. gate_line (1 + h.inputs + n) p.gate) same))

-- ---- the lines of each part
pub are_inputs : (h : Counts) (k : ℕ) → k ≤ h.inputs → AreLines h 1 (input_lines k)
are_inputs h zero l = tt
are_inputs h (suc k) l =
    let next : k + 1 ≡ suc k = omega arith in
    let more : input_lines k ++ input_line (k + 1) ∷ [] ≡ input_lines (suc k) = sym (input_lines-more k) ∙ ap input_lines next in
    let size = length-map-range_with_len (λ i. input_line (i + 1)) 0 k in
    subst (AreLines h 1) more (AreLines-push h 1 (input_lines k) (input_line (k + 1)) (are_inputs h k (omega arith))
    (inr (inl (record { number = k; within = omega arith; place = omega arith; text = refl }))))

pub are_outputs_upto : (h : Counts) (ws : List Wire) (k : ℕ) → k ≤ length ws → length ws ≤ h.outputs → All (λ w. w.0 < 2 * (1 + h.inputs + h.gates)) ws → AreLines h (1 + h.inputs) (output_lines (take k ws))
are_outputs_upto h ws zero l m p = tt
are_outputs_upto h ws (suc k) l m p =
    let w : Wire = get_or ws k no_wire in
    let next : k + 1 ≡ suc k = omega arith in
    let more : output_lines (take k ws) ++ output_line w ∷ [] ≡ output_lines (take (suc k) ws) =
    sym (output_lines-push (take k ws) w) ∙ ap output_lines (sym (take_more ws k no_wire l)) ∙ ap (λ n. output_lines (take n ws)) next in
    let size = length-map (take k ws) output_line in
    let taken = length-take-le k ws (omega arith) in
    subst (AreLines h (1 + h.inputs)) more (AreLines-push h (1 + h.inputs) (output_lines (take k ws)) (output_line w) (are_outputs_upto h ws k (omega arith) m p)
    (inr (inr (inl (record { number = k; within = omega arith; place = omega arith; wire = w; known = p k no_wire l; text = refl })))))

pub are_outputs : (h : Counts) (ws : List Wire) → length ws ≤ h.outputs → All (λ w. w.0 < 2 * (1 + h.inputs + h.gates)) ws → AreLines h (1 + h.inputs) (output_lines ws)
are_outputs h ws m p = subst (λ xs. AreLines h (1 + h.inputs) (output_lines xs)) (take_all (length ws) ws (omega arith)) (are_outputs_upto h ws (length ws) (omega arith) m p)

are_gates_upto : (h : Counts) (gs : List Gate) (k : ℕ) → k ≤ length gs → length gs ≤ h.gates → IsNetlist h.inputs gs → AreLines h (1 + h.inputs + h.outputs) (gate_lines (1 + h.inputs) (take k gs))
are_gates_upto h gs zero l m p = tt
are_gates_upto h gs (suc k) l m p =
    let g : Gate = get_or gs k no_gate in
    let taken : length (take k gs) ≡ k = length-take-le k gs (omega arith) in
    let next : k + 1 ≡ suc k = omega arith in
    let own : 1 + h.inputs + k ≡ 1 + h.inputs + length (take k gs) = omega (arith, taken) in
    let more : gate_lines (1 + h.inputs) (take k gs) ++ gate_line (1 + h.inputs + k) g ∷ [] ≡ gate_lines (1 + h.inputs) (take (suc k) gs) =
    ap (λ n. gate_lines (1 + h.inputs) (take k gs) ++ gate_line n g ∷ []) own
    ∙ sym (gate_lines-push (1 + h.inputs) (take k gs) g) ∙ ap (gate_lines (1 + h.inputs)) (sym (take_more gs k no_gate l)) ∙ ap (λ n. gate_lines (1 + h.inputs) (take n gs)) next in
    let size = length-gate_lines (1 + h.inputs) (take k gs) in
    subst (AreLines h (1 + h.inputs + h.outputs)) more (AreLines-push h (1 + h.inputs + h.outputs) (gate_lines (1 + h.inputs) (take k gs)) (gate_line (1 + h.inputs + k) g) (are_gates_upto h gs k (omega arith) m p)
    (inr (inr (inr (record { number = k; within = omega arith; place = omega arith; gate = g; known = p k no_gate l; text = refl })))))

are_gates : (h : Counts) (gs : List Gate) → length gs ≤ h.gates → IsNetlist h.inputs gs → AreLines h (1 + h.inputs + h.outputs) (gate_lines (1 + h.inputs) gs)
are_gates h gs m p = subst (λ xs. AreLines h (1 + h.inputs + h.outputs) (gate_lines (1 + h.inputs) xs)) (take_all (length gs) gs (omega arith)) (are_gates_upto h gs (length gs) (omega arith) m p)

-- ---- the parts from the first line on
abbrev pub lines_in : Counts → List (List ℕ)
lines_in h = (header_line h ∷ []) ++ input_lines h.inputs

pub length-lines_in : (h : Counts) → length (lines_in h) ≡ 1 + h.inputs
length-lines_in h = let i = length-map-range_with_len (λ i. input_line (i + 1)) 0 h.inputs in omega arith

pub are_lines_in : (h : Counts) → AreLines h 0 (lines_in h)
are_lines_in h = AreLines-append h 0 (header_line h ∷ []) (input_lines h.inputs) (inl (refl, refl), tt) (are_inputs h h.inputs (omega arith))

abbrev pub lines_out : Counts → List Wire → List (List ℕ)
lines_out h ws = lines_in h ++ output_lines ws

pub length-lines_out : (h : Counts) (ws : List Wire) → length (lines_out h ws) ≡ 1 + h.inputs + length ws
length-lines_out h ws = length-append (lines_in h) (output_lines ws) ∙ ap₂ (λ m n. m + n) (length-lines_in h) (length-map ws output_line)

pub are_lines_out : (h : Counts) (ws : List Wire) → length ws ≤ h.outputs → All (λ w. w.0 < 2 * (1 + h.inputs + h.gates)) ws → AreLines h 0 (lines_out h ws)
are_lines_out h ws m p = AreLines-append h 0 (lines_in h) (output_lines ws) (are_lines_in h) (subst (λ n. AreLines h n (output_lines ws)) (let l = length-lines_in h in omega arith) (are_outputs h ws m p))

abbrev pub lines_all : Counts → List Wire → List Gate → List (List ℕ)
lines_all h ws gs = lines_out h ws ++ gate_lines (1 + h.inputs) gs

pub length-lines_all : (h : Counts) (ws : List Wire) (gs : List Gate) → length (lines_all h ws gs) ≡ 1 + h.inputs + length ws + length gs
length-lines_all h ws gs = length-append (lines_out h ws) (gate_lines (1 + h.inputs) gs) ∙ ap₂ (λ m n. m + n) (length-lines_out h ws) (length-gate_lines (1 + h.inputs) gs)

pub are_lines_all : (h : Counts) (ws : List Wire) (gs : List Gate) → length ws ≡ h.outputs → length gs ≤ h.gates → All (λ w. w.0 < 2 * (1 + h.inputs + h.gates)) ws → IsNetlist h.inputs gs → AreLines h 0 (lines_all h ws gs)
are_lines_all h ws gs m n p q = AreLines-append h 0 (lines_out h ws) (gate_lines (1 + h.inputs) gs) (are_lines_out h ws (omega arith) p) (subst (λ n. AreLines h n (gate_lines (1 + h.inputs) gs)) (let l = length-lines_out h ws in omega arith) (are_gates h gs n q))

-- ---- what the reader has of a part
pub inputs_wrong : (h : Counts) (text rest : List ℕ) (k : ℕ) → text ≡ text_of (input_lines k) ++ rest → k < h.inputs → ((more : List ℕ) → rest ≢ decimal (2 * (k + 1)) ++ 10 ∷ more) → GoesWrong h 1 text (k + 2)
inputs_wrong h text rest k e l none =
    let size : length (input_lines k) ≡ k = length-map-range_with_len (λ i. input_line (i + 1)) 0 k in
    record {
      lines = input_lines k;
      grammar = are_inputs h k (omega arith);
      rest = rest;
      text_is = e;
      place = omega arith;
      within = omega arith;
      none = λ line more i f. none more (f ∙ ap (λ z. z ++ 10 ∷ more) (input_place h k line l (subst (λ n. IsLine h n line) (omega (arith, size)) i)));
    }

pub record OutputsRead (h : Counts) (text : List ℕ) (ws : List Wire) (k : ℕ) (rest : List ℕ) : Type 0 where
  pub size : length ws ≡ k
  pub known : All (λ w. w.0 < 2 * (1 + h.inputs + h.gates)) ws
  pub text_is : text ≡ text_of (output_lines ws) ++ rest

pub OutputsRead-more : (h : Counts) (text rest more : List ℕ) (ws : List Wire) (k : ℕ) (w : Wire) → OutputsRead h text ws k rest → w.0 < 2 * (1 + h.inputs + h.gates) → rest ≡ output_line w ++ 10 ∷ more → OutputsRead h text (ws ++ w ∷ []) (k + 1) more
OutputsRead-more h text rest more ws k w r l e = record {
  size = let n = length-append ws (w ∷ []) in let s = r.size in omega arith;
  known = All-push (λ x. x.0 < 2 * (1 + h.inputs + h.gates)) ws w r.known l;
  text_is = text_grows text (output_lines ws) (output_line w) rest more r.text_is e ∙ ap (λ z. text_of z ++ more) (sym (output_lines-push ws w));
}

pub outputs_wrong : (h : Counts) (text rest : List ℕ) (ws : List Wire) (k : ℕ) → OutputsRead h text ws k rest → k < h.outputs → ((w : Wire) (more : List ℕ) → w.0 < 2 * (1 + h.inputs + h.gates) → rest ≢ output_line w ++ 10 ∷ more) → GoesWrong h (1 + h.inputs) text (h.inputs + k + 2)
outputs_wrong h text rest ws k r l none =
    let size : length (output_lines ws) ≡ k = length-map ws output_line ∙ r.size in
    record {
      lines = output_lines ws;
      grammar = are_outputs h ws (omega (arith, r.size)) r.known;
      rest = rest;
      text_is = r.text_is;
      place = omega arith;
      within = omega arith;
      none = λ line more i f. let p = output_place h k line l (subst (λ n. IsLine h n line) (omega (arith, size)) i) in none p.0 more p.1.0 (f ∙ ap (λ z. z ++ 10 ∷ more) p.1.1);
    }

pub record GatesRead (h : Counts) (text : List ℕ) (gs : List Gate) (k : ℕ) (rest : List ℕ) : Type 0 where
  pub size : length gs ≡ k
  pub known : IsNetlist h.inputs gs
  pub text_is : text ≡ text_of (gate_lines (1 + h.inputs) gs) ++ rest

pub netlist_push : (inputs : ℕ) (gs : List Gate) (g : Gate) → IsNetlist inputs gs → IsGateAt inputs (length gs) g → IsNetlist inputs (gs ++ g ∷ [])
netlist_push inputs gs g h n = λ k d l. by_cases k d l (cases_lt k (length gs))
  where
    by_cases : (k : ℕ) (d : Gate) → k < length (gs ++ g ∷ []) → ((k < length gs) ⊎ (length gs ≤ k)) → IsGateAt inputs k (get_or (gs ++ g ∷ []) k d)
    by_cases k d l (inl below) = rw (get_or_append_left gs (g ∷ []) d k below) (h k d below)
    by_cases k d l (inr above) =
        let p = length-append gs (g ∷ []) in
        let e : length gs ≡ k = omega arith in
        rw (get_or_push gs g d k e) (subst (λ n. IsGateAt inputs n g) e n)

pub GatesRead-more : (h : Counts) (text rest more : List ℕ) (gs : List Gate) (k : ℕ) (g : Gate) → GatesRead h text gs k rest → IsGateAt h.inputs k g → rest ≡ gate_line (1 + h.inputs + k) g ++ 10 ∷ more → GatesRead h text (gs ++ g ∷ []) (k + 1) more
GatesRead-more h text rest more gs k g r l e = record {
  size = let n = length-append gs (g ∷ []) in let s = r.size in omega arith;
  known = netlist_push h.inputs gs g r.known (subst (λ n. IsGateAt h.inputs n g) (sym r.size) l);
  text_is = text_grows text (gate_lines (1 + h.inputs) gs) (gate_line (1 + h.inputs + k) g) rest more r.text_is e
      ∙ ap (λ z. text_of z ++ more) (ap (λ n. gate_lines (1 + h.inputs) gs ++ gate_line (1 + h.inputs + n) g ∷ []) (sym r.size) ∙ sym (gate_lines-push (1 + h.inputs) gs g));
}

pub gates_wrong : (h : Counts) (text rest : List ℕ) (gs : List Gate) (k : ℕ) → GatesRead h text gs k rest → k < h.gates → ((g : Gate) (more : List ℕ) → IsGateAt h.inputs k g → rest ≢ gate_line (1 + h.inputs + k) g ++ 10 ∷ more) → GoesWrong h (1 + h.inputs + h.outputs) text (h.inputs + h.outputs + k + 2)
gates_wrong h text rest gs k r l none =
    let size : length (gate_lines (1 + h.inputs) gs) ≡ k = length-gate_lines (1 + h.inputs) gs ∙ r.size in
    record {
      lines = gate_lines (1 + h.inputs) gs;
      grammar = are_gates h gs (omega (arith, r.size)) r.known;
      rest = rest;
      text_is = r.text_is;
      place = omega arith;
      within = omega arith;
      none = λ line more i f. let p = gate_place h k line l (subst (λ n. IsLine h n line) (omega (arith, size)) i) in none p.0 more p.1.0 (f ∙ ap (λ z. z ++ 10 ∷ more) p.1.1);
    }

-- ---- writing gates
pub gate_pushed : (start out : List ℕ) (v : ℕ) (gs : List Gate) (k : ℕ) → out ≡ start ++ text_of (gate_lines v (take k gs)) → (d : Gate) → k < length gs → out ++ text_of (gate_line (v + k) (get_or gs k d) ∷ []) ≡ start ++ text_of (gate_lines v (take (k + 1) gs))
gate_pushed start out v gs k e d l =
    let g : Gate = get_or gs k d in
    let taken : length (take k gs) ≡ k = length-take-le k gs (omega arith) in
    text_pushed start out (gate_lines v (take k gs)) (gate_line (v + k) g) e
    ∙ ap (λ z. start ++ text_of z) (ap (λ n. gate_lines v (take k gs) ++ gate_line (v + n) g ∷ []) (sym taken) ∙ sym (gate_lines-push v (take k gs) g) ∙ ap (gate_lines v) (sym (take_more gs k d l)))

pub output_pushed : (start out : List ℕ) (ws : List Wire) (k : ℕ) → out ≡ start ++ text_of (output_lines (take k ws)) → (d : Wire) → k < length ws → out ++ (decimal (get_or ws k d).0 ++ 10 ∷ []) ≡ start ++ text_of (output_lines (take (k + 1) ws))
output_pushed start out ws k e d l =
    text_pushed start out (output_lines (take k ws)) (output_line (get_or ws k d)) e
    ∙ ap (λ z. start ++ text_of z) (sym (output_lines-push (take k ws) (get_or ws k d)) ∙ ap output_lines (sym (take_more ws k d l)))

pub input_pushed : (start out : List ℕ) (k : ℕ) → out ≡ start ++ text_of (input_lines k) → out ++ (decimal (2 * (k + 1)) ++ 10 ∷ []) ≡ start ++ text_of (input_lines (k + 1))
input_pushed start out k e =
    text_pushed start out (input_lines k) (input_line (k + 1)) e ∙ ap (λ z. start ++ text_of z) (sym (input_lines-more k))

-- ---- the literal's line
pub other_literal : (text rest : List ℕ) (found literal : ℕ) → found < 2 ^ 64 → literal < 2 ^ 64 → text ≡ decimal found ++ 10 ∷ rest → (found ≡ literal → ⊥) → (more : List ℕ) → text ≢ decimal literal ++ 10 ∷ more
other_literal text rest found literal hf hl e no_same more f = no_same (number_unique found literal 10 rest more hf hl (omega arith) (sym e ∙ f)).0

pub past_bound : (text rest : List ℕ) (found bound : ℕ) → found < 2 ^ 64 → bound < 2 ^ 64 → text ≡ decimal found ++ 10 ∷ rest → bound ≤ found → (w : Wire) (more : List ℕ) → w.0 < bound → text ≢ output_line w ++ 10 ∷ more
past_bound text rest found bound hf hb e high w more l f = let p = number_unique found w.0 10 rest more hf (omega arith) (omega arith) (sym e ∙ f) in let q = p.0 in omega arith
