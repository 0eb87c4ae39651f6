-- The edits of the bytes stand in their order, each at a token, and make the patched text.
use Rattle.std.proofs.Common.{ℕ, ◌≡◌, ◌+◌, ◌-◌, ◌≤◌, ◌<◌, List, [], ◌∷◌, ◌++◌, length, take, drop, true, Option, Some, None, refl, ap, ap₂, ◌∙◌, sym, arith}
use Rattle.std.specs.List.{All, AllByRecursion}
use Rattle.std.proofs.lemmas.List.{append_assoc, drop-drop, take-append-drop}
use Rattle.std.proofs.lemmas.List.Elements.{All-from_recursion}
use Rattle.std.proofs.Math.Seq.{take-add}
use Rattle.rr_directive.specs.Bytes as bytes
use Rattle.rr_edit.specs.Edits.{Edit, edited, InOrder, IsPlaced}
use Rattle.rr_lex.specs.Bytes.{begins, is_printable}
use Rattle.rr_lex.specs.Tokens.{Lexeme, Rise, AreTokens}
use Rattle.rr_lex.specs.Patch as patch
use Rattle.rr_lex.specs.Patch.{New, token_text, run_text, patched}
use Rattle.rr_lex.proofs.Steps.{lex_rise}
use Rattle.rr_patch.specs.Edits.{replaced_edit, run_edit, byte_edits}
use Rattle.rr_patch.proofs.Firm.{IsFirm, tokens_firm, same_class}

rise_within : (at end : ℕ) (ts : List Lexeme) → Rise at end ts → at ≤ end
rise_within at end [] h = h
rise_within at end (t ∷ ts) h = let r = rise_within t.end end ts h.2 in omega (arith, h.0, h.1, r)

order_from : (a b end : ℕ) (es : List Edit) → a ≤ b → InOrder b end es → InOrder a end es
unfolding InOrder
order_from a b end [] l h = omega (arith, l, h)
order_from a b end (e ∷ es) l h = (omega (arith, l, h.0), h.1)

-- with the edits at one token in front
run_order : (ns : List New) (t : Lexeme) (end : ℕ) (es : List Edit) → InOrder t.end end es → InOrder t.end end (run_edit ns t ++ es)
unfolding InOrder
run_order [] t end es h = h
run_order (n ∷ ns) t end es h = (omega arith, (omega arith, h))

token_order : (o : Option New) (t : Lexeme) (at end : ℕ) (es : List Edit) → at ≤ t.start → t.start < t.end → InOrder t.end end es → InOrder at end (replaced_edit o t ++ es)
unfolding InOrder
token_order None t at end es a l h = order_from at t.end end es (omega (arith, a, l)) h
token_order (Some n) t at end es a l h = (a, (omega (arith, l), h))

rise_order : (at end : ℕ) (ts : List Lexeme) (es : List patch.Edit) → Rise at end ts → InOrder at end (byte_edits ts es)
unfolding byte_edits InOrder
rise_order at end [] es h = h
rise_order at end (t ∷ ts) [] h = rise_within at end (t ∷ ts) h
rise_order at end (t ∷ ts) (e ∷ es) h =
    token_order e.text t at end (run_edit e.run t ++ byte_edits ts es) h.0 h.1 (run_order e.run t end (byte_edits ts es) (rise_order t.end end ts es h.2))

-- bytes before the first edit stay
kept_front : (at m end : ℕ) (bs : List ℕ) (es : List Edit) → at ≤ m → InOrder m end es → edited at bs es ≡ take (m - at) bs ++ edited m (drop (m - at) bs) es
unfolding edited InOrder
kept_front at m end bs [] l h = sym (take-append-drop (m - at) bs)
kept_front at m end bs (e ∷ es) l h =
    let a : e.from - at ≡ (m - at) + (e.from - m) = omega (arith, l, h.0) in
    let b : (m - at) + (e.to - m) ≡ e.to - at = omega (arith, l, h.0, h.1.0) in
    ap₂ (λ (x y : List ℕ). x ++ (e.text ++ edited e.to y es))
    (ap (λ (n : ℕ). take n bs) a ∙ take-add (m - at) (e.from - m) bs)
    (ap (λ (n : ℕ). drop n bs) (sym b) ∙ sym (drop-drop (e.to - m) (m - at) bs))
    ∙ append_assoc (take (m - at) bs) (take (e.from - m) (drop (m - at) bs)) _

same_place : (n : ℕ) → n - n ≡ 0
same_place n = omega arith

-- a run behind a token
run_made : (ns : List New) (t : Lexeme) (bs : List ℕ) (es : List Edit) → edited t.end bs (run_edit ns t ++ es) ≡ run_text ns ++ edited t.end bs es
unfolding edited
run_made [] t bs es = refl
run_made (n ∷ ns) t bs es = ap₂ (λ (x y : List ℕ). x ++ (run_text (n ∷ ns) ++ edited t.end y es)) (ap (λ (k : ℕ). take k bs) (same_place t.end)) (ap (λ (k : ℕ). drop k bs) (same_place t.end))

-- a token, replaced or not
token_made : (o : Option New) (t : Lexeme) (at end : ℕ) (bs : List ℕ) (es : List Edit) → at ≤ t.start → t.start < t.end → InOrder t.end end es →
    edited at bs (replaced_edit o t ++ es) ≡ take (t.start - at) bs ++ (token_text o (take (t.end - t.start) (drop (t.start - at) bs)) ++ edited t.end (drop (t.end - at) bs) es)
unfolding edited
token_made (Some n) t at end bs es a l h = refl
token_made None t at end bs es a l h =
    let s : t.end - at ≡ (t.start - at) + (t.end - t.start) = omega (arith, a, l) in
    kept_front at t.end end bs es (omega (arith, a, l)) h
    ∙ ap (λ (x : List ℕ). x ++ edited t.end (drop (t.end - at) bs) es) (ap (λ (n : ℕ). take n bs) s ∙ take-add (t.start - at) (t.end - t.start) bs)
    ∙ append_assoc (take (t.start - at) bs) (take (t.end - t.start) (drop (t.start - at) bs)) _

made_text : (at end : ℕ) (bs : List ℕ) (ts : List Lexeme) (es : List patch.Edit) → Rise at end ts → edited at bs (byte_edits ts es) ≡ patched at bs ts es
unfolding byte_edits edited
made_text at end bs [] es h = refl
made_text at end bs (t ∷ ts) [] h = refl
made_text at end bs (t ∷ ts) (e ∷ es) h =
    token_made e.text t at end bs (run_edit e.run t ++ byte_edits ts es) h.0 h.1 (run_order e.run t end (byte_edits ts es) (rise_order t.end end ts es h.2))
    ∙ ap (λ (x : List ℕ). take (t.start - at) bs ++ (token_text e.text (take (t.end - t.start) (drop (t.start - at) bs)) ++ x))
    (run_made e.run t (drop (t.end - at) bs) (byte_edits ts es) ∙ ap (λ (x : List ℕ). run_text e.run ++ x) (made_text t.end end (drop (t.end - at) bs) ts es h.2))

-- each at a token whose first byte and whose last are printable
begins_there : (bs : List ℕ) → begins is_printable bs ≡ true → bytes.begins bytes.is_printable bs ≡ true
begins_there [] h = h
begins_there (b ∷ bs) h = same_class b h

module _ (bs : List ℕ) (t : Lexeme) (f : IsFirm bs t) where
  run_placed : (ns : List New) (es : List Edit) → AllByRecursion (IsPlaced bs) es → AllByRecursion (IsPlaced bs) (run_edit ns t ++ es)
  run_placed [] es h = h
  run_placed (n ∷ ns) es h = (record { first = λ l. absurd (omega (arith, l)); last = λ _. begins_there (drop (t.end - 1) bs) f.last }, h)

  token_placed : (o : Option New) (es : List Edit) → AllByRecursion (IsPlaced bs) es → AllByRecursion (IsPlaced bs) (replaced_edit o t ++ es)
  token_placed None es h = h
  token_placed (Some n) es h = (record { first = λ _. begins_there (drop t.start bs) f.first; last = λ _. begins_there (drop (t.end - 1) bs) f.last }, h)

all_placed : (bs : List ℕ) (ts : List Lexeme) (es : List patch.Edit) → AllByRecursion (IsFirm bs) ts → AllByRecursion (IsPlaced bs) (byte_edits ts es)
unfolding byte_edits
all_placed bs [] es h = tt
all_placed bs (t ∷ ts) [] h = tt
all_placed bs (t ∷ ts) (e ∷ es) h = token_placed bs t h.0 e.text (run_edit e.run t ++ byte_edits ts es) (run_placed bs t h.0 e.run (byte_edits ts es) (all_placed bs ts es h.1))

module _ (bs : List ℕ) (ts : List Lexeme) (es : List patch.Edit) (are : AreTokens bs ts) where
  pub edits_patch : edited 0 bs (byte_edits ts es) ≡ patched 0 bs ts es
  edits_patch = made_text 0 (length bs) bs ts es (lex_rise bs ts are)

  pub edits_order : InOrder 0 (length bs) (byte_edits ts es)
  edits_order = rise_order 0 (length bs) ts es (lex_rise bs ts are)

  pub edits_placed : All (IsPlaced bs) (byte_edits ts es)
  edits_placed = All-from_recursion (IsPlaced bs) (byte_edits ts es) (all_placed bs ts es (tokens_firm bs ts are))
