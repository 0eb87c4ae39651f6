-- texts of circuits, line by line
use Rattle.std.proofs.Common.{◌≡◌, ◌≢◌, inl, inr, ℕ, ◌+◌, ◌*◌, ◌^◌, ◌<◌, ◌≤◌, List, [], ◌∷◌, ◌++◌, length, refl, sym, ◌∙◌, ap, ap₂, subst, arith, length-append}
use Rattle.std.specs.Prelude.{codes, ⊤}
use Rattle.std.specs.Fmt.{decimal}
use Rattle.std.specs.Str.Parse.{AllDigits}
use Rattle.std.proofs.lemmas.List.{append_assoc}
use Rattle.std.proofs.lemmas.Str.Parse.{digit_from_value}
use Rattle.std.proofs.lemmas.Fmt.{digits_decimal}
use Rattle.rr_circuit.specs.declared.Gate.{Gate}
use Rattle.rr_circuit.specs.declared.aag.Counts.{Counts}
use Rattle.rr_circuit.specs.Values.{IsOperandAt, IsGateAt}
use Rattle.rr_circuit.specs.Aag.{AreCounts, header_line, gate_line, text_of, IsLine, AreLines, line_count, IsUnread, IsBadLine, GoesWrong}
use Rattle.rr_decimal.proofs.Numerals.{own, same_head, same_tail, number_unique}

-- ---- lines and their ends
pub text_of-append : (xs ys : List (List ℕ)) → text_of (xs ++ ys) ≡ text_of xs ++ text_of ys
text_of-append [] ys = refl
text_of-append (x ∷ xs) ys = ap (λ z. x ++ 10 ∷ z) (text_of-append xs ys) ∙ sym (append_assoc x (10 ∷ text_of xs) (text_of ys))

-- one line more of a text
pub text_grows : (bytes : List ℕ) (xs : List (List ℕ)) (line rest more : List ℕ) → bytes ≡ text_of xs ++ rest → rest ≡ line ++ 10 ∷ more → bytes ≡ text_of (xs ++ line ∷ []) ++ more
text_grows bytes xs line rest more e f =
    e ∙ ap (λ z. text_of xs ++ z) (f ∙ sym (append_assoc line (10 ∷ []) more))
    ∙ sym (append_assoc (text_of xs) (line ++ 10 ∷ []) more)
    ∙ sym (ap (λ z. z ++ more) (text_of-append xs (line ∷ [])))

-- some lines more
pub text_joins : (bytes : List ℕ) (xs ys : List (List ℕ)) (rest more : List ℕ) → bytes ≡ text_of xs ++ rest → rest ≡ text_of ys ++ more → bytes ≡ text_of (xs ++ ys) ++ more
text_joins bytes xs ys rest more e f =
    e ∙ ap (λ z. text_of xs ++ z) f ∙ sym (append_assoc (text_of xs) (text_of ys) more) ∙ sym (ap (λ z. z ++ more) (text_of-append xs ys))

-- the first of some lines
pub first_line : (x : List ℕ) (xs : List (List ℕ)) (r : List ℕ) → text_of (x ∷ xs) ++ r ≡ x ++ 10 ∷ (text_of xs ++ r)
first_line x xs r = append_assoc x (10 ∷ text_of xs) r

-- ---- a line has no end in it
Clean : List ℕ → Type 0
Clean [] = ⊤
Clean (b ∷ bs) = (b ≢ 10) × Clean bs

clean-append : (xs ys : List ℕ) → Clean xs → Clean ys → Clean (xs ++ ys)
unfolding Clean
clean-append [] ys p q = q
clean-append (x ∷ xs) ys p q = (p.0, clean-append xs ys p.1 q)

clean-digits : (ds : List ℕ) → AllDigits 10 ds → Clean ds
unfolding Clean
clean-digits [] p = tt
clean-digits (d ∷ ds) p = (λ e. let r = digit_from_value d p.0 in let low = r.0 in omega arith, clean-digits ds p.1)

clean-decimal : (n : ℕ) → n < 2 ^ 64 → Clean (decimal n)
clean-decimal n h = clean-digits (decimal n) (digits_decimal own n h)

clean-spaced : (n : ℕ) (ys : List ℕ) → n < 2 ^ 64 → Clean ys → Clean (decimal n ++ 32 ∷ ys)
unfolding Clean
clean-spaced n ys h p = clean-append (decimal n) (32 ∷ ys) (clean-decimal n h) (λ e. omega arith, p)

clean-header : (h : Counts) → AreCounts h → Clean (header_line h)
unfolding Clean
clean-header h b =
    let m = b.0 in let o = b.1 in
    clean-append (codes "aag ") _ (λ e. omega arith, (λ e. omega arith, (λ e. omega arith, (λ e. omega arith, tt))))
    (clean-spaced _ _ (omega arith) (clean-spaced _ _ (omega arith) (clean-spaced _ _ (omega arith) (clean-spaced _ _ (omega arith) (clean-decimal _ (omega arith))))))

clean-line : (h : Counts) (n : ℕ) (line : List ℕ) → AreCounts h → IsLine h n line → Clean line
clean-line h n line b (inl p) = subst Clean (sym p.1) (clean-header h b)
clean-line h n line b (inr (inl p)) = subst Clean (sym p.text) (clean-decimal _ (let m = b.0 in let w = p.within in omega arith))
clean-line h n line b (inr (inr (inl p))) = subst Clean (sym p.text) (clean-decimal _ (let m = b.0 in let w = p.known in omega arith))
clean-line h n line b (inr (inr (inr p))) =
    let m = b.0 in
    let w = p.within in
    let l = p.known.0.1 in
    let r = p.known.1.1 in
    subst Clean (sym p.text) (clean-spaced _ _ (omega arith) (clean-spaced _ _ (omega arith) (clean-decimal _ (omega arith))))

line_cut : (xs ys r s : List ℕ) → Clean xs → Clean ys → xs ++ 10 ∷ r ≡ ys ++ 10 ∷ s → (xs ≡ ys) × (r ≡ s)
unfolding Clean
line_cut [] [] r s p q e = (refl, same_tail 10 10 r s e)
line_cut [] (y ∷ ys) r s p q e = absurd (q.0 (sym (same_head 10 y r (ys ++ 10 ∷ s) e)))
line_cut (x ∷ xs) [] r s p q e = absurd (p.0 (same_head x 10 (xs ++ 10 ∷ r) s e))
line_cut (x ∷ xs) (y ∷ ys) r s p q e =
    let rest = line_cut xs ys r s p.1 q.1 (same_tail x y (xs ++ 10 ∷ r) (ys ++ 10 ∷ s) e) in
    (ap₂ (λ b bs. b ∷ bs) (same_head x y (xs ++ 10 ∷ r) (ys ++ 10 ∷ s) e) rest.0, rest.1)

-- ---- lists of lines
pub AreLines-append : (h : Counts) (n : ℕ) (xs ys : List (List ℕ)) → AreLines h n xs → AreLines h (n + length xs) ys → AreLines h n (xs ++ ys)
AreLines-append h n [] ys p q = subst (λ k. AreLines h k ys) (omega arith) q
AreLines-append h n (x ∷ xs) ys p q = (p.0, AreLines-append h (n + 1) xs ys p.1 (subst (λ k. AreLines h k ys) (omega arith) q))

pub AreLines-push : (h : Counts) (n : ℕ) (xs : List (List ℕ)) (line : List ℕ) → AreLines h n xs → IsLine h (n + length xs) line → AreLines h n (xs ++ line ∷ [])
AreLines-push h n xs line p q = AreLines-append h n xs (line ∷ []) p (q, tt)

AreLines-rest : (h : Counts) (n : ℕ) (xs zs : List (List ℕ)) → AreLines h n (xs ++ zs) → AreLines h (n + length xs) zs
AreLines-rest h n [] zs p = subst (λ k. AreLines h k zs) (omega arith) p
AreLines-rest h n (x ∷ xs) zs p = subst (λ k. AreLines h k zs) (omega arith) (AreLines-rest h (n + 1) xs zs p.1)

-- two readings of one text: the longer one has the shorter one's lines
pub lines_cut : (h k : Counts) (n : ℕ) (xs ys : List (List ℕ)) (r s : List ℕ) → AreCounts h → AreCounts k → AreLines h n xs → AreLines k n ys → text_of xs ++ r ≡ text_of ys ++ s → length xs ≤ length ys → (zs : List (List ℕ)) × ((ys ≡ xs ++ zs) × (r ≡ text_of zs ++ s))
lines_cut h k n [] ys r s a b p q e l = (ys, (refl, e))
lines_cut h k n (x ∷ xs) [] r s a b p q e l = absurd (omega arith)
lines_cut h k n (x ∷ xs) (y ∷ ys) r s a b p q e l =
    let cut = line_cut x y (text_of xs ++ r) (text_of ys ++ s) (clean-line h n x a p.0) (clean-line k n y b q.0) (sym (first_line x xs r) ∙ e ∙ first_line y ys s) in
    let rest = lines_cut h k (n + 1) xs ys r s a b p.1 q.1 cut.1 (omega arith) in
    (rest.0, (ap₂ (λ z zs. z ∷ zs) (sym cut.0) rest.1.0, rest.1.1))

-- ---- headers
pub header_nested : (h : Counts) (rest : List ℕ) → header_line h ++ 10 ∷ rest ≡ codes "aag " ++ (decimal (h.inputs + h.gates) ++ 32 ∷ (decimal h.inputs ++ 32 ∷ (decimal 0 ++ 32 ∷ (decimal h.outputs ++ 32 ∷ (decimal h.gates ++ 10 ∷ rest)))))
header_nested h rest = simp append_assoc refl

header_text : Counts → List ℕ → List ℕ
header_text h rest = decimal (h.inputs + h.gates) ++ 32 ∷ (decimal h.inputs ++ 32 ∷ (decimal 0 ++ 32 ∷ (decimal h.outputs ++ 32 ∷ (decimal h.gates ++ 10 ∷ rest))))

pub after_word : (xs ys : List ℕ) → codes "aag " ++ xs ≡ codes "aag " ++ ys → xs ≡ ys
after_word xs ys e = same_tail 32 32 xs ys (same_tail 103 103 _ _ (same_tail 97 97 _ _ (same_tail 97 97 _ _ e)))

pub record HeaderParts (h : Counts) (rest : List ℕ) (m i l o a : ℕ) (more : List ℕ) : Type 0 where
  pub variables_same : m ≡ h.inputs + h.gates
  pub inputs_same : i ≡ h.inputs
  pub latches_same : l ≡ 0
  pub outputs_same : o ≡ h.outputs
  pub gates_same : a ≡ h.gates
  pub rest_same : more ≡ rest

pub header_cut : (h : Counts) (rest : List ℕ) (m i l o a : ℕ) (t1 t2 t3 t4 t5 : List ℕ) → AreCounts h → m < 2 ^ 64 → i < 2 ^ 64 → l < 2 ^ 64 → o < 2 ^ 64 → a < 2 ^ 64 →
    t1 ≡ decimal i ++ 32 ∷ t2 → t2 ≡ decimal l ++ 32 ∷ t3 → t3 ≡ decimal o ++ 32 ∷ t4 → t4 ≡ decimal a ++ 10 ∷ t5 →
    codes "aag " ++ (decimal m ++ 32 ∷ t1) ≡ header_line h ++ 10 ∷ rest → HeaderParts h rest m i l o a t5
header_cut h rest m i l o a t1 t2 t3 t4 t5 b hm hi hl ho ha e1 e2 e3 e4 e =
    let mb = b.0 in let ob = b.1 in
    let p0 = number_unique m _ 32 t1 _ hm (omega arith) (omega arith) (after_word _ _ (e ∙ header_nested h rest)) in
    let p1 = number_unique i _ 32 t2 _ hi (omega arith) (omega arith) (sym e1 ∙ p0.1) in
    let p2 = number_unique l _ 32 t3 _ hl (omega arith) (omega arith) (sym e2 ∙ p1.1) in
    let p3 = number_unique o _ 32 t4 _ ho (omega arith) (omega arith) (sym e3 ∙ p2.1) in
    let p4 = number_unique a _ 10 t5 _ ha (omega arith) (omega arith) (sym e4 ∙ p3.1) in
    record { variables_same = p0.0; inputs_same = p1.0; latches_same = p2.0; outputs_same = p3.0; gates_same = p4.0; rest_same = p4.1 }

header_unique : (h k : Counts) (r s : List ℕ) → AreCounts h → AreCounts k → header_line h ++ 10 ∷ r ≡ header_line k ++ 10 ∷ s → h ≡ k
header_unique h k r s a b e =
    let m = a.0 in let o = a.1 in
    let p = header_cut k s _ _ _ _ _ _ _ _ _ _ b (omega arith) (omega arith) (omega arith) (omega arith) (omega arith) refl refl refl refl (sym (header_nested h r) ∙ e) in
    ap (λ x. record { inputs = x; outputs = h.outputs; gates = h.gates }) p.inputs_same
    ∙ ap (λ x. record { inputs = k.inputs; outputs = x; gates = h.gates }) p.outputs_same
    ∙ ap (λ x. record { inputs = k.inputs; outputs = k.outputs; gates = x }) p.gates_same

zeroth_line : (h : Counts) (line : List ℕ) → IsLine h 0 line → line ≡ header_line h
zeroth_line h line (inl p) = p.1
zeroth_line h line (inr (inl p)) = absurd (let e = p.place in omega arith)
zeroth_line h line (inr (inr (inl p))) = absurd (let e = p.place in omega arith)
zeroth_line h line (inr (inr (inr p))) = absurd (let e = p.place in omega arith)

-- two readings of one text have one header
pub same_counts : (h k : Counts) (xs ys : List (List ℕ)) (r s : List ℕ) → AreCounts h → AreCounts k → AreLines h 0 xs → AreLines k 0 ys → text_of xs ++ r ≡ text_of ys ++ s → 1 ≤ length xs → 1 ≤ length ys → h ≡ k
same_counts h k [] ys r s a b p q e lx ly = absurd (omega arith)
same_counts h k (x ∷ xs) [] r s a b p q e lx ly = absurd (omega arith)
same_counts h k (x ∷ xs) (y ∷ ys) r s a b p q e lx ly =
    header_unique h k (text_of xs ++ r) (text_of ys ++ s) a b
    (ap (λ z. z ++ 10 ∷ (text_of xs ++ r)) (sym (zeroth_line h x p.0)) ∙ sym (first_line x xs r) ∙ e ∙ first_line y ys s ∙ ap (λ z. z ++ 10 ∷ (text_of ys ++ s)) (zeroth_line k y q.0))

-- ---- the first bad line
-- where no further line stands, no reading has more lines
no_longer : (h k : Counts) (xs ys : List (List ℕ)) (r s : List ℕ) → AreCounts h → AreCounts k → AreLines h 0 xs → AreLines k 0 ys → text_of xs ++ r ≡ text_of ys ++ s → 1 ≤ length xs → length xs < length ys →
    ((line more : List ℕ) → IsLine h (length xs) line → r ≡ line ++ 10 ∷ more → ⊥) → ⊥
no_longer h k xs ys r s a b p q e lx l none = go cut.0 cut.1.0 cut.1.1
  where
    same : h ≡ k
    same = same_counts h k xs ys r s a b p q e lx (omega arith)

    cut : (zs : List (List ℕ)) × ((ys ≡ xs ++ zs) × (r ≡ text_of zs ++ s))
    cut = lines_cut h k 0 xs ys r s a b p q e (omega arith)

    go : (zs : List (List ℕ)) → ys ≡ xs ++ zs → r ≡ text_of zs ++ s → ⊥
    go [] f g = let n = ap length f ∙ length-append xs [] in omega arith
    go (z ∷ zs) f g =
        let here : AreLines k (0 + length xs) (z ∷ zs) = AreLines-rest k 0 xs (z ∷ zs) (subst (AreLines k 0) f q) in
        let line : IsLine h (length xs) z = subst (λ c. IsLine c (length xs) z) (sym same) (subst (λ n. IsLine k n z) (omega arith) here.0) in
        none z (text_of zs ++ s) line (g ∙ first_line z zs s)

pub bad_line : (bytes : List ℕ) (h : Counts) (xs : List (List ℕ)) (text : List ℕ) (n bad : ℕ) → AreCounts h → AreLines h 0 xs → n ≡ length xs → 1 ≤ n → bytes ≡ text_of xs ++ text → GoesWrong h n text bad → IsBadLine bytes bad
bad_line bytes h xs text n bad a p at l e g = record {
  no_text = λ t.
      let same = same_counts h t.counts all t.lines g.rest t.rest a t.bounds lawful t.grammar (sym whole ∙ t.text) (omega (arith, size, at)) (omega (arith, t.count)) in
      let few = g.within in
      no_longer h t.counts all t.lines g.rest t.rest a t.bounds lawful t.grammar (sym whole ∙ t.text) (omega (arith, size, at)) (let c : length t.lines ≡ line_count h = t.count ∙ ap line_count (sym same) in omega (arith, size)) none;
  first = omega (arith, g.place);
  before = record { counts = h; bounds = a; lines = all; count = omega (arith, g.place, size); grammar = lawful; rest = g.rest; text = whole };
  here = λ t. no_longer h t.counts all t.lines g.rest t.rest a t.bounds lawful t.grammar (sym whole ∙ t.text) (omega (arith, size, at)) (omega (arith, t.count, g.place, size)) none;
}
  where
    all : List (List ℕ)
    all = xs ++ g.lines

    size : length all ≡ n + length g.lines
    size = length-append xs g.lines ∙ ap (λ k. k + length g.lines) (sym at)

    whole : bytes ≡ text_of all ++ g.rest
    whole = text_joins bytes xs g.lines text g.rest e g.text_is

    lawful : AreLines h 0 all
    lawful = AreLines-append h 0 xs g.lines p (subst (λ k. AreLines h k g.lines) (omega (arith, at)) g.grammar)

    none : (line more : List ℕ) → IsLine h (length all) line → g.rest ≡ line ++ 10 ∷ more → ⊥
    none line more i = g.none line more (subst (λ k. IsLine h k line) size i)

past_last : (h : Counts) (line : List ℕ) → IsLine h (line_count h) line → ⊥
past_last h line (inl p) = let e = p.0 in omega arith
past_last h line (inr (inl p)) = let e = p.place in let w = p.within in omega arith
past_last h line (inr (inr (inl p))) = let e = p.place in let w = p.within in omega arith
past_last h line (inr (inr (inr p))) = let e = p.place in let w = p.within in omega arith

pub bad_end : (bytes : List ℕ) (h : Counts) (xs : List (List ℕ)) (rest : List ℕ) → AreCounts h → AreLines h 0 xs → length xs ≡ line_count h → bytes ≡ text_of xs ++ rest → (IsUnread rest → ⊥) → IsBadLine bytes (line_count h + 1)
bad_end bytes h xs rest a p l e unread = record {
  no_text = λ t.
      let f = sym e ∙ t.text in
      let same = same_counts h t.counts xs t.lines rest t.rest a t.bounds p t.grammar f (omega arith) (omega (arith, t.count)) in
      let size : length t.lines ≡ length xs = t.count ∙ ap line_count (sym same) ∙ sym l in
      let cut = lines_cut h t.counts 0 xs t.lines rest t.rest a t.bounds p t.grammar f (omega arith) in
      go cut.0 t.lines t.rest size cut.1.0 cut.1.1 t.unread;
  first = omega arith;
  before = record { counts = h; bounds = a; lines = xs; count = omega arith; grammar = p; rest = rest; text = e };
  here = λ t. no_longer h t.counts xs t.lines rest t.rest a t.bounds p t.grammar (sym e ∙ t.text) (omega arith) (omega (arith, t.count)) (λ line more i f. past_last h line (subst (λ k. IsLine h k line) l i));
}
  where
    go : (zs ys : List (List ℕ)) (s : List ℕ) → length ys ≡ length xs → ys ≡ xs ++ zs → rest ≡ text_of zs ++ s → IsUnread s → ⊥
    go [] ys s n f g u = unread (subst IsUnread (sym g) u)
    go (z ∷ zs) ys s n f g u = let k = ap length f ∙ length-append xs (z ∷ zs) in omega arith

pub bad_header : (bytes : List ℕ) → ((h : Counts) (rest : List ℕ) → AreCounts h → bytes ≢ header_line h ++ 10 ∷ rest) → IsBadLine bytes 1
bad_header bytes none = record {
  no_text = λ t. go t.counts t.lines t.rest t.bounds t.grammar (omega (arith, t.count)) t.text;
  first = omega arith;
  before = record { counts = record { inputs = 0; outputs = 0; gates = 0 }; bounds = (omega arith, omega arith); lines = []; count = refl; grammar = tt; rest = bytes; text = refl };
  here = λ t. go t.counts t.lines t.rest t.bounds t.grammar (omega (arith, t.count)) t.text;
}
  where
    go : (h : Counts) (ys : List (List ℕ)) (s : List ℕ) → AreCounts h → AreLines h 0 ys → 1 ≤ length ys → bytes ≡ text_of ys ++ s → ⊥
    go h [] s a p l e = omega arith
    go h (y ∷ ys) s a p l e = none h (text_of ys ++ s) a (e ∙ first_line y ys s ∙ ap (λ z. z ++ 10 ∷ (text_of ys ++ s)) (zeroth_line h y p.0))

-- ---- gates
gate_nested : (v : ℕ) (g : Gate) (rest : List ℕ) → gate_line v g ++ 10 ∷ rest ≡ decimal (2 * v) ++ 32 ∷ (decimal g.left.0 ++ 32 ∷ (decimal g.right.0 ++ 10 ∷ rest))
gate_nested v g rest = simp append_assoc refl

pub record GateParts (v : ℕ) (g : Gate) (rest : List ℕ) (literal : ℕ) (t1 : List ℕ) : Type 0 where
  pub literal_same : literal ≡ 2 * v
  pub rest_same : t1 ≡ decimal g.left.0 ++ 32 ∷ (decimal g.right.0 ++ 10 ∷ rest)

pub gate_start : (inputs number : ℕ) (g : Gate) (text rest : List ℕ) (literal : ℕ) (t1 : List ℕ) → inputs + number < 2 ^ 62 → literal < 2 ^ 64 → text ≡ decimal literal ++ 32 ∷ t1 → text ≡ gate_line (1 + inputs + number) g ++ 10 ∷ rest → GateParts (1 + inputs + number) g rest literal t1
gate_start inputs number g text rest literal t1 small hl e f =
    let p = number_unique literal (2 * (1 + inputs + number)) 32 t1 _ hl (omega arith) (omega arith) (sym e ∙ f ∙ gate_nested (1 + inputs + number) g rest) in
    record { literal_same = p.0; rest_same = p.1 }

pub gate_whole : (v : ℕ) (g : Gate) (text rest : List ℕ) → text ≡ decimal (2 * v) ++ 32 ∷ (decimal g.left.0 ++ 32 ∷ (decimal g.right.0 ++ 10 ∷ rest)) → text ≡ gate_line v g ++ 10 ∷ rest
gate_whole v g text rest e = e ∙ sym (gate_nested v g rest)

-- no left operand stands there
pub gate_no_left : (inputs number : ℕ) (text : List ℕ) (literal : ℕ) (t1 : List ℕ) → inputs + number < 2 ^ 62 → literal < 2 ^ 64 → text ≡ decimal literal ++ 32 ∷ t1 →
    ((n : ℕ) (more : List ℕ) → n < 2 ^ 64 → t1 ≢ decimal n ++ 32 ∷ more) → (g : Gate) (rest : List ℕ) → IsGateAt inputs number g → text ≢ gate_line (1 + inputs + number) g ++ 10 ∷ rest
gate_no_left inputs number text literal t1 small hl e none g rest k f =
    let p = gate_start inputs number g text rest literal t1 small hl e f in
    let low = k.0.1 in
    none g.left.0 (decimal g.right.0 ++ 10 ∷ rest) (omega arith) p.rest_same

-- no right operand stands there
pub gate_no_right : (inputs number : ℕ) (text : List ℕ) (literal left : ℕ) (t1 t2 : List ℕ) → inputs + number < 2 ^ 62 → literal < 2 ^ 64 → left < 2 ^ 64 → text ≡ decimal literal ++ 32 ∷ t1 → t1 ≡ decimal left ++ 32 ∷ t2 →
    ((n : ℕ) (more : List ℕ) → n < 2 ^ 64 → t2 ≢ decimal n ++ 10 ∷ more) → (g : Gate) (rest : List ℕ) → IsGateAt inputs number g → text ≢ gate_line (1 + inputs + number) g ++ 10 ∷ rest
gate_no_right inputs number text literal left t1 t2 small hl hf e e1 none g rest k f =
    let p = gate_start inputs number g text rest literal t1 small hl e f in
    let low = k.0.1 in
    let high = k.1.1 in
    let q = number_unique left g.left.0 32 t2 _ hf (omega arith) (omega arith) (sym e1 ∙ p.rest_same) in
    none g.right.0 rest (omega arith) q.1

-- the three numbers are not those of this gate
pub gate_other : (inputs number : ℕ) (text : List ℕ) (literal left right : ℕ) (t1 t2 t3 : List ℕ) → inputs + number < 2 ^ 62 → literal < 2 ^ 64 → left < 2 ^ 64 → right < 2 ^ 64 → text ≡ decimal literal ++ 32 ∷ t1 → t1 ≡ decimal left ++ 32 ∷ t2 → t2 ≡ decimal right ++ 10 ∷ t3 →
    (literal ≡ 2 * (1 + inputs + number) → IsOperandAt inputs number (record { 0 = left }) → IsOperandAt inputs number (record { 0 = right }) → ⊥) → (g : Gate) (rest : List ℕ) → IsGateAt inputs number g → text ≢ gate_line (1 + inputs + number) g ++ 10 ∷ rest
gate_other inputs number text literal left right t1 t2 t3 small hl hf hr e e1 e2 no_gate g rest k f =
    let p = gate_start inputs number g text rest literal t1 small hl e f in
    let low = k.0.1 in
    let high = k.1.1 in
    let q = number_unique left g.left.0 32 t2 _ hf (omega arith) (omega arith) (sym e1 ∙ p.rest_same) in
    let r = number_unique right g.right.0 10 t3 _ hr (omega arith) (omega arith) (sym e2 ∙ q.1) in
    no_gate p.literal_same (subst (λ x. IsOperandAt inputs number (record { 0 = x })) (sym q.0) k.0) (subst (λ x. IsOperandAt inputs number (record { 0 = x })) (sym r.0) k.1)
