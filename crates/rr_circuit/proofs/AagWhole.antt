-- whole texts of circuits
use Rattle.std.proofs.Common.{◌≡◌, inl, ℕ, ◌+◌, ◌*◌, ◌^◌, ◌<◌, ◌≤◌, List, [], ◌∷◌, ◌++◌, length, refl, sym, ◌∙◌, ap, ap₂, arith, length-append}
use Rattle.std.specs.Prelude.{All, Result, Ok, Err, IfOk, IfErr}
use Rattle.std.specs.Fmt.{decimal}
use Rattle.std.proofs.lemmas.List.{append_cancel_left, append-nil}
use Rattle.std.proofs.lemmas.List.Elements.{All-head, All-tail, All-weaker}
use Rattle.std.proofs.lemmas.Fmt.{decimal_injective}
use Rattle.rr_circuit.specs.declared.Wire.{Wire}
use Rattle.rr_circuit.specs.declared.Gate.{Gate}
use Rattle.rr_circuit.specs.declared.aag.Counts.{Counts}
use Rattle.rr_circuit.specs.declared.aag.AagFault.{AagFault}
use Rattle.rr_circuit.specs.declared.aag.AagFault.TheVariants.{BadCircuit, Memory}
use Rattle.rr_circuit.specs.Values.{OutputNetlist, IsWire, IsNetlist, AreWires}
use Rattle.rr_circuit.specs.Aag.{AreCounts, counts_of, header_line, gate_line, input_lines, output_lines, gate_lines, text_of, aag_lines, AreLines, line_count, IsUnread, IsText, IsBadLine, IsTextOf, IsCircuit, IsCause, ReadsAs, GoesWrong, GoesWrongBy}
use Rattle.rr_decimal.proofs.Numerals.{same_tail, number_unique}
use Rattle.rr_circuit.proofs.AagLaws.{text_of-append, first_line, text_joins, bad_line, bad_end, lines_cut, same_counts}
use Rattle.rr_circuit.proofs.AagParts.{lines_in, length-lines_in, are_lines_in, lines_out, length-lines_out, are_lines_out, lines_all, length-lines_all, are_lines_all}

-- ---- the reader, part by part
pub after_header : (bytes text : List ℕ) (h : Counts) → bytes ≡ header_line h ++ 10 ∷ text → bytes ≡ text_of (header_line h ∷ []) ++ text
after_header bytes text h e = e ∙ sym (first_line (header_line h) [] text)

pub after_inputs : (bytes text rest : List ℕ) (h : Counts) → bytes ≡ header_line h ++ 10 ∷ text → text ≡ text_of (input_lines h.inputs) ++ rest → bytes ≡ text_of (lines_in h) ++ rest
after_inputs bytes text rest h e f = text_joins bytes (header_line h ∷ []) (input_lines h.inputs) text rest (after_header bytes text h e) f

pub after_outputs : (bytes text rest : List ℕ) (h : Counts) (ws : List Wire) → bytes ≡ text_of (lines_in h) ++ text → text ≡ text_of (output_lines ws) ++ rest → bytes ≡ text_of (lines_out h ws) ++ rest
after_outputs bytes text rest h ws e f = text_joins bytes (lines_in h) (output_lines ws) text rest e f

pub after_gates : (bytes text rest : List ℕ) (h : Counts) (ws : List Wire) (gs : List Gate) → bytes ≡ text_of (lines_out h ws) ++ text → text ≡ text_of (gate_lines (1 + h.inputs) gs) ++ rest → bytes ≡ text_of (lines_all h ws gs) ++ rest
after_gates bytes text rest h ws gs e f = text_joins bytes (lines_out h ws) (gate_lines (1 + h.inputs) gs) text rest e f

cause_by : (bytes : List ℕ) (h : Counts) (xs : List (List ℕ)) (text : List ℕ) (n : ℕ) (fault : AagFault) → AreCounts h → AreLines h 0 xs → n ≡ length xs → 1 ≤ n → bytes ≡ text_of xs ++ text → GoesWrongBy h n text fault → IsCause bytes fault
cause_by bytes h xs text n (BadCircuit bad) a p l o e g = bad_line bytes h xs text n bad a p l o e g
cause_by bytes h xs text n Memory a p l o e g = tt

pub inputs_cause : (bytes text : List ℕ) (h : Counts) (bad : ℕ) → AreCounts h → bytes ≡ header_line h ++ 10 ∷ text → GoesWrong h 1 text bad → IsBadLine bytes bad
inputs_cause bytes text h bad a e g = bad_line bytes h (header_line h ∷ []) text 1 bad a (inl (refl, refl), tt) refl (omega arith) (after_header bytes text h e) g

pub outputs_cause : (bytes text : List ℕ) (h : Counts) (fault : AagFault) → AreCounts h → bytes ≡ text_of (lines_in h) ++ text → GoesWrongBy h (1 + h.inputs) text fault → IsCause bytes fault
outputs_cause bytes text h fault a e g = cause_by bytes h (lines_in h) text (1 + h.inputs) fault a (are_lines_in h) (sym (length-lines_in h)) (omega arith) e g

pub gates_cause : (bytes text : List ℕ) (h : Counts) (ws : List Wire) (fault : AagFault) → AreCounts h → length ws ≡ h.outputs → All (λ w. w.0 < 2 * (1 + h.inputs + h.gates)) ws → bytes ≡ text_of (lines_out h ws) ++ text → GoesWrongBy h (1 + h.inputs + h.outputs) text fault → IsCause bytes fault
gates_cause bytes text h ws fault a n k e g =
    let l = length-lines_out h ws in
    cause_by bytes h (lines_out h ws) text (1 + h.inputs + h.outputs) fault a (are_lines_out h ws (omega arith) k) (omega (arith, l, n)) (omega arith) e g

pub end_cause : (bytes rest : List ℕ) (h : Counts) (ws : List Wire) (gs : List Gate) → AreCounts h → length ws ≡ h.outputs → length gs ≡ h.gates → All (λ w. w.0 < 2 * (1 + h.inputs + h.gates)) ws → IsNetlist h.inputs gs → bytes ≡ text_of (lines_all h ws gs) ++ rest → (IsUnread rest → ⊥) → IsBadLine bytes (line_count h + 1)
end_cause bytes rest h ws gs a n m k q e u =
    let l = length-lines_all h ws gs in
    bad_end bytes h (lines_all h ws gs) rest a (are_lines_all h ws gs n (omega arith) k q) (omega (arith, l, n, m)) e u

-- the circuit that was read
pub is_text_of : (bytes rest : List ℕ) (h : Counts) (ws : List Wire) (gs : List Gate) → length ws ≡ h.outputs → length gs ≡ h.gates → bytes ≡ text_of (lines_all h ws gs) ++ rest → IsUnread rest → IsTextOf bytes (record { netlist = record { inputs = h.inputs; gates = gs }; outputs = ws })
is_text_of bytes rest h ws gs n m e u =
    let same : h ≡ record { inputs = h.inputs; outputs = length ws; gates = length gs } = ap₂ (λ o g. record { inputs = h.inputs; outputs = o; gates = g }) (sym n) (sym m) in
    record {
      rest = rest;
      text = e ∙ ap (λ k. text_of ((((header_line k ∷ []) ++ input_lines h.inputs) ++ output_lines ws) ++ gate_lines (1 + h.inputs) gs) ++ rest) same;
      unread = u;
    }

pub are_wires : (h : Counts) (ws : List Wire) (gs : List Gate) → length gs ≡ h.gates → All (λ w. w.0 < 2 * (1 + h.inputs + h.gates)) ws → AreWires (record { inputs = h.inputs; gates = gs }) ws
unfolding IsWire
are_wires h ws gs m k = All-weaker (λ w. w.0 < 2 * (1 + h.inputs + h.gates)) (λ w. w.0 < 2 * (1 + h.inputs + length gs)) (λ w l. omega (arith, m)) ws k

pub is_circuit : (h : Counts) (ws : List Wire) (gs : List Gate) → AreCounts h → length ws ≡ h.outputs → length gs ≡ h.gates → All (λ w. w.0 < 2 * (1 + h.inputs + h.gates)) ws → IsNetlist h.inputs gs → IsCircuit (record { netlist = record { inputs = h.inputs; gates = gs }; outputs = ws })
is_circuit h ws gs a n m k q = record {
  gates = q;
  outputs = are_wires h ws gs m k;
  bounds = (let b = a.0 in omega (arith, m), let b = a.1 in omega (arith, n));
}

-- ---- texts of circuits are texts
outputs_known : (c : OutputNetlist) → IsCircuit c → All (λ w. w.0 < 2 * (1 + c.netlist.inputs + length c.netlist.gates)) c.outputs
unfolding IsWire
outputs_known c l = l.outputs

are_aag_lines : (c : OutputNetlist) → IsCircuit c → AreLines (counts_of c) 0 (aag_lines c)
are_aag_lines c l = are_lines_all (counts_of c) c.outputs c.netlist.gates refl (omega arith) (outputs_known c l) l.gates

length-aag_lines : (c : OutputNetlist) → length (aag_lines c) ≡ line_count (counts_of c)
length-aag_lines c = length-lines_all (counts_of c) c.outputs c.netlist.gates

pub text_of_circuit : (bytes : List ℕ) (c : OutputNetlist) → IsCircuit c → IsTextOf bytes c → IsText bytes
text_of_circuit bytes c l t = record {
  counts = counts_of c;
  bounds = l.bounds;
  lines = aag_lines c;
  count = length-aag_lines c;
  grammar = are_aag_lines c l;
  rest = t.rest;
  text = t.text;
  unread = t.unread;
}

-- ---- a text is that of one circuit
head_line : List (List ℕ) → List ℕ
head_line [] = []
head_line (x ∷ xs) = x

tail_lines : List (List ℕ) → List (List ℕ)
tail_lines [] = []
tail_lines (x ∷ xs) = xs

lines_head : (x y : List ℕ) (xs ys : List (List ℕ)) → x ∷ xs ≡ y ∷ ys → x ≡ y
unfolding head_line
lines_head x y xs ys e = ap head_line e

lines_tail : (x y : List ℕ) (xs ys : List (List ℕ)) → x ∷ xs ≡ y ∷ ys → xs ≡ ys
unfolding tail_lines
lines_tail x y xs ys e = ap tail_lines e

same_parts : (xs ys us vs : List (List ℕ)) → length xs ≡ length us → xs ++ ys ≡ us ++ vs → (xs ≡ us) × (ys ≡ vs)
same_parts [] ys [] vs n e = (refl, e)
same_parts [] ys (u ∷ us) vs n e = absurd (omega arith)
same_parts (x ∷ xs) ys [] vs n e = absurd (omega arith)
same_parts (x ∷ xs) ys (u ∷ us) vs n e =
    let rest = same_parts xs ys us vs (omega arith) (lines_tail x u (xs ++ ys) (us ++ vs) e) in
    (ap₂ (λ z zs. z ∷ zs) (lines_head x u (xs ++ ys) (us ++ vs) e) rest.0, rest.1)

outputs_same : (ws vs : List Wire) → All (λ w. w.0 < 2 ^ 64) ws → All (λ w. w.0 < 2 ^ 64) vs → output_lines ws ≡ output_lines vs → ws ≡ vs
outputs_same [] [] p q e = refl
outputs_same [] (v ∷ vs) p q e = absurd (let n = ap length e in omega arith)
outputs_same (w ∷ ws) [] p q e = absurd (let n = ap length e in omega arith)
outputs_same (w ∷ ws) (v ∷ vs) p q e =
    let head : w.0 ≡ v.0 = decimal_injective w.0 v.0 (All-head (λ x. x.0 < 2 ^ 64) w ws p) (All-head (λ x. x.0 < 2 ^ 64) v vs q) (lines_head _ _ _ _ e) in
    let rest : ws ≡ vs = outputs_same ws vs (All-tail (λ x. x.0 < 2 ^ 64) w ws p) (All-tail (λ x. x.0 < 2 ^ 64) v vs q) (lines_tail _ _ _ _ e) in
    ap₂ (λ x xs. record { 0 = x } ∷ xs) head rest

abbrev IsSmall : Gate → Type 0
IsSmall g = (g.left.0 < 2 ^ 64) × (g.right.0 < 2 ^ 64)

gate_same : (v : ℕ) (g k : Gate) → IsSmall g → IsSmall k → gate_line v g ≡ gate_line v k → g ≡ k
gate_same v g k p q e =
    let rest = same_tail 32 32 _ _ (append_cancel_left (decimal (2 * v)) _ _ e) in
    let left = number_unique g.left.0 k.left.0 32 _ _ p.0 q.0 (omega arith) rest in
    let right : g.right.0 ≡ k.right.0 = decimal_injective g.right.0 k.right.0 p.1 q.1 left.1 in
    ap₂ (λ x y. record { left = record { 0 = x }; right = record { 0 = y } }) left.0 right

gates_same : (v : ℕ) (gs ks : List Gate) → All (λ g. IsSmall g) gs → All (λ g. IsSmall g) ks → gate_lines v gs ≡ gate_lines v ks → gs ≡ ks
gates_same v [] [] p q e = refl
gates_same v [] (k ∷ ks) p q e = absurd (let n = ap length e in omega arith)
gates_same v (g ∷ gs) [] p q e = absurd (let n = ap length e in omega arith)
gates_same v (g ∷ gs) (k ∷ ks) p q e =
    ap₂ (λ x xs. x ∷ xs)
    (gate_same v g k (All-head (λ x. IsSmall x) g gs p) (All-head (λ x. IsSmall x) k ks q) (lines_head _ _ _ _ e))
    (gates_same (v + 1) gs ks (All-tail (λ x. IsSmall x) g gs p) (All-tail (λ x. IsSmall x) k ks q) (lines_tail _ _ _ _ e))

small_wires : (c : OutputNetlist) → IsCircuit c → All (λ w. w.0 < 2 ^ 64) c.outputs
small_wires c l = All-weaker (λ w. w.0 < 2 * (1 + c.netlist.inputs + length c.netlist.gates)) (λ w. w.0 < 2 ^ 64) (λ w h. let b = l.bounds.0 in omega arith) c.outputs (outputs_known c l)

small_gates : (c : OutputNetlist) → IsCircuit c → All (λ g. IsSmall g) c.netlist.gates
small_gates c l = λ k d h.
    let g = l.gates k d h in
    let left = g.0.1 in
    let right = g.1.1 in
    let b = l.bounds.0 in
    (omega arith, omega arith)

same_lines : (c d : OutputNetlist) → IsCircuit c → IsCircuit d → counts_of c ≡ counts_of d → aag_lines c ≡ aag_lines d → c ≡ d
same_lines c d l m n e =
    let inputs : c.netlist.inputs ≡ d.netlist.inputs = ap (λ h. h.inputs) n in
    let outs : length c.outputs ≡ length d.outputs = ap (λ h. h.outputs) n in
    let in_size : length (lines_in (counts_of c)) ≡ length (lines_in (counts_of d)) = ap (λ h. length (lines_in h)) n in
    let left_size = length-lines_out (counts_of c) c.outputs in
    let right_size = length-lines_out (counts_of d) d.outputs in
    let out_size : length (lines_out (counts_of c) c.outputs) ≡ length (lines_out (counts_of d) d.outputs) = omega (arith, left_size, right_size, inputs, outs) in
    let cut = same_parts (lines_out (counts_of c) c.outputs) (gate_lines (1 + c.netlist.inputs) c.netlist.gates) (lines_out (counts_of d) d.outputs) (gate_lines (1 + d.netlist.inputs) d.netlist.gates) out_size e in
    let first = same_parts (lines_in (counts_of c)) (output_lines c.outputs) (lines_in (counts_of d)) (output_lines d.outputs) in_size cut.0 in
    let gates : c.netlist.gates ≡ d.netlist.gates = gates_same (1 + c.netlist.inputs) c.netlist.gates d.netlist.gates (small_gates c l) (small_gates d m) (cut.1 ∙ ap (λ i. gate_lines (1 + i) d.netlist.gates) (sym inputs)) in
    let outputs : c.outputs ≡ d.outputs = outputs_same c.outputs d.outputs (small_wires c l) (small_wires d m) first.1 in
    ap₂ (λ i gs. record { netlist = record { inputs = i; gates = gs }; outputs = c.outputs }) inputs gates ∙ ap (λ ws. record { netlist = d.netlist; outputs = ws }) outputs

same_circuit : (bytes : List ℕ) (c d : OutputNetlist) → IsCircuit c → IsCircuit d → IsTextOf bytes c → IsTextOf bytes d → c ≡ d
same_circuit bytes c d l m t u =
    let e : text_of (aag_lines c) ++ t.rest ≡ text_of (aag_lines d) ++ u.rest = sym t.text ∙ u.text in
    let sc = length-aag_lines c in
    let sd = length-aag_lines d in
    let n : counts_of c ≡ counts_of d = same_counts (counts_of c) (counts_of d) (aag_lines c) (aag_lines d) t.rest u.rest l.bounds m.bounds (are_aag_lines c l) (are_aag_lines d m) e (omega (arith, sc)) (omega (arith, sd)) in
    let size : length (aag_lines d) ≡ length (aag_lines c) = sd ∙ ap line_count (sym n) ∙ sym sc in
    let cut = lines_cut (counts_of c) (counts_of d) 0 (aag_lines c) (aag_lines d) t.rest u.rest l.bounds m.bounds (are_aag_lines c l) (are_aag_lines d m) e (omega (arith, size)) in
    same_lines c d l m n (go (aag_lines c) (aag_lines d) cut.0 size cut.1.0)
  where
    go : (xs ys zs : List (List ℕ)) → length ys ≡ length xs → ys ≡ xs ++ zs → xs ≡ ys
    go xs ys [] n f = sym (f ∙ append-nil xs)
    go xs ys (z ∷ zs) n f = absurd (let k = ap length f ∙ length-append xs (z ∷ zs) in omega arith)

-- ---- the writer
pub written : (h : Counts) (ws : List Wire) (gs : List Gate) → (((([] ++ text_of (header_line h ∷ [])) ++ text_of (input_lines h.inputs)) ++ text_of (output_lines ws)) ++ text_of (gate_lines (1 + h.inputs) gs)) ≡ text_of (lines_all h ws gs)
written h ws gs = sym (
    text_of-append (lines_out h ws) (gate_lines (1 + h.inputs) gs)
    ∙ ap (λ z. z ++ text_of (gate_lines (1 + h.inputs) gs)) (text_of-append (lines_in h) (output_lines ws)
    ∙ ap (λ z. z ++ text_of (output_lines ws)) (text_of-append (header_line h ∷ []) (input_lines h.inputs))))

pub reads_back : (bytes : List ℕ) (r : Result OutputNetlist AagFault) → IfOk r (IsTextOf bytes) → IfOk r IsCircuit → IfErr r (IsCause bytes) → (c : OutputNetlist) → IsCircuit c → IsTextOf bytes c → ReadsAs r c
reads_back bytes (Ok d) t m e c l u = same_circuit bytes d c m l t u
reads_back bytes (Err (BadCircuit n)) t m e c l u = absurd (e.no_text (text_of_circuit bytes c l u))
reads_back bytes (Err Memory) t m e c l u = refl

pub reads_text : (bytes : List ℕ) (r : Result OutputNetlist AagFault) → IfOk r (IsTextOf bytes) → IfOk r IsCircuit → IfOk r (λ c. IsText bytes)
reads_text bytes (Ok d) t m = text_of_circuit bytes d m t
reads_text bytes (Err e) t m = tt
