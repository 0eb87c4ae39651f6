-- the numbers of a header, one after the other
use Rattle.std.proofs.Common.{◌≡◌, ◌≢◌, ℕ, ◌+◌, ◌^◌, ◌<◌, List, ◌∷◌, ◌++◌, sym, ◌∙◌, ap, arith}
use Rattle.std.specs.Prelude.{codes}
use Rattle.std.specs.Fmt.{decimal}
use Rattle.rr_circuit.specs.declared.aag.Counts.{Counts}
use Rattle.rr_circuit.specs.Aag.{AreCounts, header_line}
use Rattle.rr_decimal.proofs.Numerals.{number_unique}
use Rattle.rr_circuit.proofs.AagLaws.{after_word, header_nested, header_cut}

-- no header of any counts stands there
abbrev pub NoHeader : List ℕ → Type 0
NoHeader text = (h : Counts) (rest : List ℕ) → AreCounts h → codes "aag " ++ text ≢ header_line h ++ 10 ∷ rest

abbrev pub NoNumber : ℕ → List ℕ → Type 0
NoNumber stop text = (n : ℕ) (rest : List ℕ) → n < 2 ^ 64 → text ≢ decimal n ++ stop ∷ rest

-- the numbers that were read, and what follows them
first_rest : (h : Counts) (rest text t1 : List ℕ) (m : ℕ) → AreCounts h → m < 2 ^ 64 → text ≡ decimal m ++ 32 ∷ t1 → codes "aag " ++ text ≡ header_line h ++ 10 ∷ rest →
    t1 ≡ decimal h.inputs ++ 32 ∷ (decimal 0 ++ 32 ∷ (decimal h.outputs ++ 32 ∷ (decimal h.gates ++ 10 ∷ rest)))
first_rest h rest text t1 m b hm e f =
    let small = b.0 in
    (number_unique m (h.inputs + h.gates) 32 t1 _ hm (omega arith) (omega arith) (sym e ∙ after_word text _ (f ∙ header_nested h rest))).1

next_rest : (n k stop : ℕ) (text r s : List ℕ) → n < 2 ^ 64 → k < 2 ^ 64 → stop < 48 → text ≡ decimal n ++ stop ∷ r → text ≡ decimal k ++ stop ∷ s → r ≡ s
next_rest n k stop text r s hn hk low e f = (number_unique n k stop r s hn hk low (sym e ∙ f)).1

pub no_first : (text : List ℕ) → NoNumber 32 text → NoHeader text
no_first text none h rest b f = let small = b.0 in none (h.inputs + h.gates) _ (omega arith) (after_word text _ (f ∙ header_nested h rest))

pub no_second : (text t1 : List ℕ) (m : ℕ) → m < 2 ^ 64 → text ≡ decimal m ++ 32 ∷ t1 → NoNumber 32 t1 → NoHeader text
no_second text t1 m hm e none h rest b f = let small = b.0 in none h.inputs _ (omega arith) (first_rest h rest text t1 m b hm e f)

pub no_third : (text t1 t2 : List ℕ) (m i : ℕ) → m < 2 ^ 64 → i < 2 ^ 64 → text ≡ decimal m ++ 32 ∷ t1 → t1 ≡ decimal i ++ 32 ∷ t2 → NoNumber 32 t2 → NoHeader text
no_third text t1 t2 m i hm hi e e1 none h rest b f =
    let small = b.0 in
    none 0 _ (omega arith) (next_rest i h.inputs 32 t1 t2 _ hi (omega arith) (omega arith) e1 (first_rest h rest text t1 m b hm e f))

pub no_fourth : (text t1 t2 t3 : List ℕ) (m i l : ℕ) → m < 2 ^ 64 → i < 2 ^ 64 → l < 2 ^ 64 → text ≡ decimal m ++ 32 ∷ t1 → t1 ≡ decimal i ++ 32 ∷ t2 → t2 ≡ decimal l ++ 32 ∷ t3 → NoNumber 32 t3 → NoHeader text
no_fourth text t1 t2 t3 m i l hm hi hl e e1 e2 none h rest b f =
    let small = b.0 in
    let few = b.1 in
    none h.outputs _ (omega arith) (next_rest l 0 32 t2 t3 _ hl (omega arith) (omega arith) e2 (next_rest i h.inputs 32 t1 t2 _ hi (omega arith) (omega arith) e1 (first_rest h rest text t1 m b hm e f)))

pub no_fifth : (text t1 t2 t3 t4 : List ℕ) (m i l o : ℕ) → m < 2 ^ 64 → i < 2 ^ 64 → l < 2 ^ 64 → o < 2 ^ 64 → text ≡ decimal m ++ 32 ∷ t1 → t1 ≡ decimal i ++ 32 ∷ t2 → t2 ≡ decimal l ++ 32 ∷ t3 → t3 ≡ decimal o ++ 32 ∷ t4 → NoNumber 10 t4 → NoHeader text
no_fifth text t1 t2 t3 t4 m i l o hm hi hl ho e e1 e2 e3 none h rest b f =
    let small = b.0 in
    let few = b.1 in
    none h.gates rest (omega arith) (next_rest o h.outputs 32 t3 t4 _ ho (omega arith) (omega arith) e3 (next_rest l 0 32 t2 t3 _ hl (omega arith) (omega arith) e2 (next_rest i h.inputs 32 t1 t2 _ hi (omega arith) (omega arith) e1 (first_rest h rest text t1 m b hm e f))))

-- the five numbers are those of no header
pub header_wrong : (text t1 t2 t3 t4 t5 : List ℕ) (m i l o a : ℕ) → m < 2 ^ 64 → i < 2 ^ 64 → l < 2 ^ 64 → o < 2 ^ 64 → a < 2 ^ 64 → text ≡ decimal m ++ 32 ∷ t1 → t1 ≡ decimal i ++ 32 ∷ t2 → t2 ≡ decimal l ++ 32 ∷ t3 → t3 ≡ decimal o ++ 32 ∷ t4 → t4 ≡ decimal a ++ 10 ∷ t5 →
    (l ≡ 0 → m < 2 ^ 62 → o < 2 ^ 62 → m ≡ i + a → ⊥) → NoHeader text
header_wrong text t1 t2 t3 t4 t5 m i l o a hm hi hl ho ha e e1 e2 e3 e4 wrong h rest b f =
    let small = b.0 in
    let few = b.1 in
    let p = header_cut h rest m i l o a t1 t2 t3 t4 t5 b hm hi hl ho ha e1 e2 e3 e4 (ap (λ z. codes "aag " ++ z) (sym e) ∙ f) in
    wrong p.latches_same (omega (arith, p.variables_same)) (omega (arith, p.outputs_same)) (omega (arith, p.variables_same, p.inputs_same, p.gates_same))
