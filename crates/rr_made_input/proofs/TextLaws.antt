-- Texts and registers that are written piece by piece.
use Rattle.std.proofs.Common.{◌≡◌, ◌∙◌, ℕ, suc, ◌+◌, ◌-◌, ◌*◌, ◌/◌, ◌%◌, ◌<◌, ◌≤◌, List, [], ◌∷◌, ◌++◌, length, drop, get_or, map, replicate, refl, sym, ap, ap₂, arith}
use Rattle.std.specs.Prelude.{codes, decimal, flat_map}
use Rattle.std.specs.List.{range_with_len}
use Rattle.std.proofs.lemmas.List.{append_assoc, append-nil, drop_all, drop_more, length-append, length-drop}
use Rattle.std.proofs.lemmas.Fmt.{decimal_digit}
use Rattle.std.proofs.lemmas.List.Concat.{flat_map-append}
use Rattle.std.proofs.lemmas.List.FromFn.{map-range_with_len_more}
use Rattle.rr_made_input.specs.Draws.{state}
use Rattle.rr_made_input.specs.Made.{all_counted, column_text, head_text, hex_digit, made_design, counted, enable, line_text, register_text, registers, reset, row_text, steps, written}

-- ---- pieces for numbers from 0 on
range_more : (n : ℕ) → range_with_len 0 (n + 1) ≡ range_with_len 0 n ++ (n ∷ [])
range_more n = sym (map_same (range_with_len 0 (n + 1))) ∙ map-range_with_len_more (λ (x : ℕ). x) 0 n n (omega arith) ∙ ap (λ (xs : List ℕ). xs ++ (n ∷ [])) (map_same (range_with_len 0 n))
  where
    map_same : (xs : List ℕ) → map (λ (x : ℕ). x) xs ≡ xs
    map_same [] = refl
    map_same (x ∷ xs) = ap (λ (ys : List ℕ). x ∷ ys) (map_same xs)

pub pieces_more : (f : ℕ → List ℕ) (n : ℕ) (head now next : List ℕ) → now ≡ head ++ flat_map f (range_with_len 0 n) → next ≡ now ++ f n → next ≡ head ++ flat_map f (range_with_len 0 (n + 1))
pieces_more f n head now next at step =
    step ∙ ap (λ (xs : List ℕ). xs ++ f n) at ∙ append_assoc head (flat_map f (range_with_len 0 n)) (f n)
    ∙ ap (λ (xs : List ℕ). head ++ (flat_map f (range_with_len 0 n) ++ xs)) (sym (append-nil (f n)))
    ∙ ap (λ (xs : List ℕ). head ++ xs) (sym (flat_map-append f (range_with_len 0 n) (n ∷ [])))
    ∙ ap (λ (xs : List ℕ). head ++ flat_map f xs) (sym (range_more n))

pub pieces_none : (f : ℕ → List ℕ) (head : List ℕ) → head ≡ head ++ flat_map f (range_with_len 0 0)
pieces_none f head = sym (append-nil head)

-- ---- a line of numbers
pub record Lined (numbers before now : List ℕ) (i : ℕ) : Type 0 where
  pub within : i ≤ length numbers
  pub text : now ++ line_text (drop i numbers) ≡ before ++ line_text numbers

line_last : (n : ℕ) → line_text (n ∷ []) ≡ decimal n ++ (10 ∷ [])
unfolding line_text
line_last n = refl

line_more : (n m : ℕ) (ns : List ℕ) → line_text (n ∷ (m ∷ ns)) ≡ decimal n ++ (44 ∷ line_text (m ∷ ns))
unfolding line_text
line_more n m ns = refl

line_none : line_text [] ≡ []
unfolding line_text
line_none = refl

module _ (numbers before now next : List ℕ) (i n : ℕ) (h : Lined numbers before now i) (within : i < length numbers) (at : get_or numbers i 0 ≡ n) where
  here : drop i numbers ≡ n ∷ drop (i + 1) numbers
  here = drop_more numbers i 0 within ∙ ap (λ (x : ℕ). x ∷ drop (i + 1) numbers) at

  pub Lined-last : i + 1 ≡ length numbers → next ≡ now ++ (decimal n ++ (10 ∷ [])) → Lined numbers before next (i + 1)
  Lined-last last grown = record {
    within = omega (arith, within);
    text =
        let none : drop (i + 1) numbers ≡ [] = drop_all (i + 1) numbers (omega (arith, last)) in
        let rest : line_text (drop (i + 1) numbers) ≡ [] = ap line_text none ∙ line_none in
        let line : line_text (drop i numbers) ≡ decimal n ++ (10 ∷ []) = ap line_text (here ∙ ap (λ (xs : List ℕ). n ∷ xs) none) ∙ line_last n in
        ap₂ (λ (a b : List ℕ). a ++ b) grown rest ∙ append-nil (now ++ (decimal n ++ (10 ∷ []))) ∙ ap (λ (xs : List ℕ). now ++ xs) (sym line) ∙ h.text;
  }

  after : (xs : List ℕ) → drop (i + 1) numbers ≡ xs → 0 < length xs → line_text (n ∷ xs) ≡ decimal n ++ (44 ∷ line_text xs)
  after [] e l = absurd (omega (arith, l))
  after (x ∷ xs) e l = line_more n x xs

  pub Lined-more : (i + 1 ≡ length numbers → ⊥) → next ≡ now ++ (decimal n ++ (44 ∷ [])) → Lined numbers before next (i + 1)
  Lined-more more grown = record {
    within = omega (arith, within);
    text =
        let count = length-drop (i + 1) numbers in
        let left : 0 < length (drop (i + 1) numbers) = omega (arith, count, more, within) in
        let line : line_text (drop i numbers) ≡ decimal n ++ (44 ∷ line_text (drop (i + 1) numbers)) = ap line_text here ∙ after (drop (i + 1) numbers) refl left in
        ap (λ (xs : List ℕ). xs ++ line_text (drop (i + 1) numbers)) grown
        ∙ append_assoc now (decimal n ++ (44 ∷ [])) (line_text (drop (i + 1) numbers))
        ∙ ap (λ (xs : List ℕ). now ++ xs) (append_assoc (decimal n) (44 ∷ []) (line_text (drop (i + 1) numbers)) ∙ sym line)
        ∙ h.text;
  }

pub Lined-all : (numbers before now : List ℕ) (i : ℕ) → Lined numbers before now i → i ≡ length numbers → now ≡ before ++ line_text numbers
Lined-all numbers before now i h e =
    let none : line_text (drop i numbers) ≡ [] = ap line_text (drop_all i numbers (omega (arith, e))) ∙ line_none in
    sym (append-nil now) ∙ ap (λ (xs : List ℕ). now ++ xs) (sym none) ∙ h.text

-- ---- registers after a row
pub record Counted (rst en : ℕ) (ks vs now : List ℕ) (i : ℕ) : Type 0 where
  pub within : i ≤ length ks
  pub count : length now ≡ i
  pub values : now ++ all_counted rst en (drop i ks) (drop i vs) ≡ all_counted rst en ks vs

counted_none : (rst en : ℕ) (vs : List ℕ) → all_counted rst en [] vs ≡ []
unfolding all_counted
counted_none rst en vs = refl

counted_more : (rst en k v : ℕ) (ks vs : List ℕ) → all_counted rst en (k ∷ ks) (v ∷ vs) ≡ counted rst en k v ∷ all_counted rst en ks vs
unfolding all_counted
counted_more rst en k v ks vs = refl

module _ (rst en : ℕ) (ks vs : List ℕ) where
  pub Counted-none : Counted rst en ks vs [] 0
  Counted-none = record { within = omega arith; count = refl; values = refl }

  pub Counted-more : (now : List ℕ) (i k v w : ℕ) → Counted rst en ks vs now i → i < length ks → i < length vs → get_or ks i 0 ≡ k → get_or vs i 0 ≡ v → w ≡ counted rst en k v
      → Counted rst en ks vs (now ++ (w ∷ [])) (i + 1)
  Counted-more now i k v w h l m ek ev ew = record {
    within = omega (arith, l);
    count = length-append now (w ∷ []) ∙ ap (λ (n : ℕ). n + 1) h.count;
    values =
        append_assoc now (w ∷ []) (all_counted rst en (drop (i + 1) ks) (drop (i + 1) vs))
        ∙ ap (λ (x : ℕ). now ++ (x ∷ all_counted rst en (drop (i + 1) ks) (drop (i + 1) vs))) ew
        ∙ ap (λ (xs : List ℕ). now ++ xs) (sym (counted_more rst en k v (drop (i + 1) ks) (drop (i + 1) vs)))
        ∙ ap₂ (λ (a b : List ℕ). now ++ all_counted rst en a b)
        (sym (drop_more ks i 0 l ∙ ap (λ (x : ℕ). x ∷ drop (i + 1) ks) ek))
        (sym (drop_more vs i 0 m ∙ ap (λ (x : ℕ). x ∷ drop (i + 1) vs) ev))
        ∙ h.values;
  }

  pub Counted-all : (now : List ℕ) (i : ℕ) → Counted rst en ks vs now i → i ≡ length ks → now ≡ all_counted rst en ks vs
  Counted-all now i h e =
      let none : all_counted rst en (drop i ks) (drop i vs) ≡ [] = ap (λ (xs : List ℕ). all_counted rst en xs (drop i vs)) (drop_all i ks (omega (arith, e))) ∙ counted_none rst en (drop i vs) in
      sym (append-nil now) ∙ ap (λ (xs : List ℕ). now ++ xs) (sym none) ∙ h.values

-- ---- all rows
-- what is kept before a row
pub record Tabled (seed row now : ℕ) (text values : List ℕ) : Type 0 where
  pub drawn : now ≡ state seed (8 + 2 * (row - 2))
  pub held : values ≡ registers seed row
  pub count : length values ≡ 8
  pub written : text ≡ column_text ++ flat_map (row_text seed) (range_with_len 0 row)

registers_none : (seed : ℕ) → replicate 8 0 ≡ registers seed 0
unfolding registers
registers_none seed = refl

registers_more : (seed row : ℕ) → all_counted (reset seed row) (enable seed row) (steps seed) (registers seed row) ≡ registers seed (suc row)
unfolding registers
registers_more seed row = refl

module _ (seed : ℕ) where
  pub Tabled-none : (now : ℕ) (text values : List ℕ) → now ≡ state seed 8 → values ≡ replicate 8 0 → text ≡ column_text → Tabled seed 0 now text values
  Tabled-none now text values drawn zeros head = record {
    drawn = drawn;
    held = zeros ∙ registers_none seed;
    count = ap length zeros;
    written = head ∙ pieces_none (row_text seed) column_text;
  }

  pub Tabled-more : (row now next rst en : ℕ) (text longer values after : List ℕ) → Tabled seed row now text values → (next ≡ state seed (8 + 2 * (row + 1 - 2))) × (rst ≡ reset seed row) × (en ≡ enable seed row)
      → longer ≡ text ++ line_text (rst ∷ (en ∷ values)) → after ≡ all_counted rst en (steps seed) values → length after ≡ 8 → Tabled seed (row + 1) next longer after
  Tabled-more row now next rst en text longer values after h (drawn, r, e) line counts eight = record {
    drawn = drawn;
    held =
        let more : suc row ≡ row + 1 = omega arith in
        let here : all_counted rst en (steps seed) values ≡ all_counted (reset seed row) (enable seed row) (steps seed) (registers seed row) = rw (r, e, h.held) refl in
        counts ∙ here ∙ registers_more seed row ∙ ap (registers seed) more;
    count = eight;
    written =
        let here : line_text (rst ∷ (en ∷ values)) ≡ row_text seed row = rw (r, e, h.held) refl in
        pieces_more (row_text seed) row column_text text longer h.written (line ∙ ap (λ (xs : List ℕ). text ++ xs) here);
  }

-- ---- the length of the design
register_length : (i k : ℕ) → i < 10 → length (register_text i k) ≡ 85
register_length i k small =
    let one : length (decimal i) ≡ 1 = ap length (decimal_digit i small) in
    let t6 : List ℕ = codes " + 8'h" ++ (hex_digit (k / 16) ∷ (hex_digit (k % 16) ∷ codes ";\n")) in
    let t5 : List ℕ = decimal i ++ t6 in
    let t4 : List ℕ = codes " <= r" ++ t5 in
    let t3 : List ℕ = decimal i ++ t4 in
    let t2 : List ℕ = codes " <= 8'h00;\n    else if (en) r" ++ t3 in
    let t1 : List ℕ = decimal i ++ t2 in
    let l6 : length t6 ≡ 10 = refl in
    let l5 : length t5 ≡ 11 = length-append (decimal i) t6 ∙ ap₂ (λ (a b : ℕ). a + b) one l6 in
    let l4 : length t4 ≡ 16 = length-append (codes " <= r") t5 ∙ ap (λ (n : ℕ). 5 + n) l5 in
    let l3 : length t3 ≡ 17 = length-append (decimal i) t4 ∙ ap₂ (λ (a b : ℕ). a + b) one l4 in
    let l2 : length t2 ≡ 46 = length-append (codes " <= 8'h00;\n    else if (en) r") t3 ∙ ap (λ (n : ℕ). 29 + n) l3 in
    let l1 : length t1 ≡ 47 = length-append (decimal i) t2 ∙ ap₂ (λ (a b : ℕ). a + b) one l2 in
    length-append (codes "  always @(posedge clk)\n    if (rst) r") t1 ∙ ap (λ (n : ℕ). 38 + n) l1

abbrev EachIs : (ℕ → List ℕ) → ℕ → List ℕ → Type 0
EachIs f n [] = Unit {0}
EachIs f n (x ∷ xs) = (length (f x) ≡ n) × EachIs f n xs

pieces_length : (f : ℕ → List ℕ) (n : ℕ) (xs : List ℕ) → EachIs f n xs → length (flat_map f xs) ≡ length xs * n
pieces_length f n [] h = omega arith
pieces_length f n (x ∷ xs) h =
    let rest = pieces_length f n xs h.1 in
    let more : n + length xs * n ≡ suc (length xs) * n = omega arith in
    length-append (f x) (flat_map f xs) ∙ ap₂ (λ (a b : ℕ). a + b) h.0 rest ∙ more

pub design_length : (seed : ℕ) → length (made_design seed) ≡ 903
design_length seed =
    let f : ℕ → List ℕ = λ i. register_text i (written seed i) in
    let at : (i : ℕ) → i < 10 → length (f i) ≡ 85 = λ i small. register_length i (written seed i) small in
    let all : EachIs f 85 (range_with_len 0 8) = (at 0 (omega arith), (at 1 (omega arith), (at 2 (omega arith), (at 3 (omega arith), (at 4 (omega arith), (at 5 (omega arith), (at 6 (omega arith), (at 7 (omega arith), tt)))))))) in
    let pieces = pieces_length f 85 (range_with_len 0 8) all in
    length-append head_text (flat_map f (range_with_len 0 8) ++ codes "endmodule\n")
    ∙ ap (λ (n : ℕ). length head_text + n) (length-append (flat_map f (range_with_len 0 8)) (codes "endmodule\n") ∙ ap (λ (n : ℕ). n + 10) pieces)
