-- The body of an `always` ends within the source.
use Rattle.std.proofs.Common.{ℕ, ◌≡◌, ◌+◌, ◌≤◌, ◌==◌, ◌⊎◌, inl, inr, Bool, true, false, if◌then◌else◌, List, [], ◌∷◌, ◌++◌, length, Option, Some, None, refl, ◌∙◌, arith, length-append}
use Rattle.std.specs.List.{flat_map}
use Rattle.std.proofs.lemmas.Bool.{eqb-true}
use Rattle.rr_syntax.specs.Items.{NumberedAll, NumberedItem, NumberedModule, NumberedSource, spell_all, spell_events, spell_item, spell_module, spell_parameters, spell_ports, spell_source}
use Rattle.rr_syntax.specs.Statements.{spell_statement}
use Rattle.rr_syntax.specs.Tree.{Always, Assigns, Initial, Instances, Integers, ModuleDeclaration, ModuleItem, Nets, Parameters, Ports, SourceText, Variables}
use Rattle.rr_syntax.specs.Words.{Marked, Reserved, keyword_endmodule, mark_semicolon}
use Rattle.rr_kept.specs.Kept.{body_at, body_length, body_length_in, or_next}

-- a body that begins at a token is none of an item, or ends with it
abbrev Fits : ℕ → Option ℕ → ℕ → Type 0
Fits k None end = Unit {0}
Fits k (Some n) end = k + n ≤ end

item_fits : (k : ℕ) (x : ModuleItem) (at : ℕ) → NumberedItem x at → Fits k (body_at k x) (at + length (spell_item x))
unfolding body_at spell_item NumberedItem
item_fits k (Ports p) at n = tt
item_fits k (Nets signed range names) at n = tt
item_fits k (Variables signed range names) at n = tt
item_fits k (Integers names) at n = tt
item_fits k (Parameters p) at n = tt
item_fits k (Assigns pairs) at n = tt
item_fits k (Always events body token) at n = by_test (token + 2 + length (spell_events events) == k) refl
  where
    by_test : (c : Bool) → (token + 2 + length (spell_events events) == k) ≡ c → Fits k (if c then Some (length (spell_statement body)) else None) (at + length (spell_item (Always events body token)))
    by_test true e =
        let q : token + 2 + length (spell_events events) ≡ k = eqb-true (token + 2 + length (spell_events events)) k e in
        let s = length-append (spell_events events) (spell_statement body) in
        omega (arith, q, n.0, s)
    by_test false e = tt
item_fits k (Initial body token) at n = tt
item_fits k (Instances m token overrides list) at n = tt

-- so the first body among items and later ones is one of the later, or ends with the items
items_fit : (k : ℕ) (xs later : List ModuleItem) (at : ℕ) → NumberedAll spell_item NumberedItem xs at →
    (body_length k (xs ++ later) ≡ body_length k later) ⊎ (k + body_length k (xs ++ later) ≤ at + length (spell_all spell_item xs))
unfolding body_length spell_all NumberedAll
items_fit k [] later at n = inl refl
items_fit k (x ∷ xs) later at n = by_body (body_at k x) (item_fits k x at n.0) (items_fit k xs later (at + length (spell_item x)) n.1)
  where
    by_body : (b : Option ℕ) → Fits k b (at + length (spell_item x)) →
        (body_length k (xs ++ later) ≡ body_length k later) ⊎ (k + body_length k (xs ++ later) ≤ at + length (spell_item x) + length (spell_all spell_item xs)) →
        (or_next b (body_length k (xs ++ later)) ≡ body_length k later) ⊎ (k + or_next b (body_length k (xs ++ later)) ≤ at + length (spell_item x ++ spell_all spell_item xs))
    by_body None f (inl e) = inl e
    by_body None f (inr l) = inr (omega (arith, l, length-append (spell_item x) (spell_all spell_item xs)))
    by_body (Some m) f r = inr (omega (arith, f, length-append (spell_item x) (spell_all spell_item xs)))

abbrev all_items : List ModuleDeclaration → List ModuleItem
all_items ms = flat_map (λ (m : ModuleDeclaration). m.items) ms

-- the items of a module end before it does
items_end : (m : ModuleDeclaration) (at : ℕ) → at + 2 + length (spell_parameters m.params) + length (spell_ports m.header m.groups) + 1 + length (spell_all spell_item m.items) ≤ at + length (spell_module m)
unfolding spell_module
items_end m at =
    let c = length-append (spell_all spell_item m.items) (Reserved keyword_endmodule ∷ []) in
    let b = length-append (spell_ports m.header m.groups) (Marked mark_semicolon ∷ (spell_all spell_item m.items ++ (Reserved keyword_endmodule ∷ []))) in
    let a = length-append (spell_parameters m.params) (spell_ports m.header m.groups ++ (Marked mark_semicolon ∷ (spell_all spell_item m.items ++ (Reserved keyword_endmodule ∷ [])))) in
    omega (arith, a, b, c)

modules_fit : (k : ℕ) (ms : List ModuleDeclaration) (at : ℕ) → NumberedAll spell_module NumberedModule ms at →
    (body_length k (all_items ms) ≡ 0) ⊎ (k + body_length k (all_items ms) ≤ at + length (spell_all spell_module ms))
unfolding spell_all NumberedAll NumberedModule body_length
modules_fit k [] at n = inl refl
modules_fit k (m ∷ ms) at n =
    let start : ℕ = at + 2 + length (spell_parameters m.params) + length (spell_ports m.header m.groups) + 1 in
    let w = length-append (spell_module m) (spell_all spell_module ms) in
    elim (items_fit k m.items (all_items ms) start n.0.3) [
      | inr l ↦ inr (let z = items_end m at in omega (arith, l, w, z))
      | inl e ↦ elim (modules_fit k ms (at + length (spell_module m)) n.1) [
        | inl z ↦ inl (e ∙ z)
        | inr l ↦ inr (omega (arith, e, l, w))
      ]
    ]

pub source_fits : (k : ℕ) (source : SourceText) → NumberedSource source → k ≤ length (spell_source source) → k + body_length_in source k ≤ length (spell_source source)
unfolding NumberedSource spell_source
source_fits k source n l = elim (modules_fit k source.modules 0 n) [
  | inl z ↦ omega (arith, z, l)
  | inr f ↦ omega (arith, f)
]
