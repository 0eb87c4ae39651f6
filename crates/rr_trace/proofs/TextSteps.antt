-- The text of a table, record by record.
use Rattle.std.proofs.Common.{◌≡◌, ◌∙◌, ℕ, ◌+◌, List, [], ◌∷◌, ◌++◌, map, Some, refl, sym, ap, arith}
use Rattle.std.specs.List.{flat_map, range_with_len}
use Rattle.std.proofs.lemmas.List.{append-nil}
use Rattle.std.proofs.lemmas.Grind.{flat_map-append}
use Rattle.std.proofs.lemmas.List.FromFn.{map-range_with_len_more}
use Rattle.csv.specs.Writing.{row_text}
use Rattle.rr_trace.specs.declared.ports.Port.{Port as Own}
use Rattle.rr_trace.specs.Columns as columns
use Rattle.rr_trace.specs.Names.{Text}
use Rattle.rr_trace.specs.View.{plain_port}
use Rattle.rr_trace.specs.Written.{layout}

abbrev text_of : List (List Text) → List ℕ
text_of rows = flat_map (row_text layout) rows

abbrev one : List Text → List ℕ
one fields = row_text layout fields

abbrev name_now : Own → Text
name_now x = x.name.now

abbrev name_then : columns.Port → Text
name_then x = x.name

fused : (xs : List Own) → map name_now xs ≡ map name_then (map plain_port xs)
fused [] = refl
fused (x ∷ xs) = ap (λ rest. x.name.now ∷ rest) (fused xs)

pub both_names : (inputs outputs : List Own) → map name_now inputs ++ map name_now outputs ≡ map name_then (map plain_port inputs) ++ map name_then (map plain_port outputs)
both_names inputs outputs = rw (fused inputs, fused outputs) refl

pub first_text : (new old : List ℕ) (names fields : List Text) → new ≡ old ++ one fields → old ≡ [] → fields ≡ names → Some new ≡ Some (text_of (names ∷ []))
first_text new old names fields step none same =
    let here : new ≡ one names = step ∙ rw (none, same) refl in
    ap (λ (t : List ℕ). Some t) (here ∙ sym (append-nil (one names)))

pub next_text : (f : ℕ → List Text) (new old : List ℕ) (names fields : List Text) (n : ℕ) → new ≡ old ++ one fields → Some old ≡ Some (text_of (names ∷ map f (range_with_len 0 n)))
    → fields ≡ f n → Some new ≡ Some (text_of (names ∷ map f (range_with_len 0 (n + 1))))
next_text f new old names fields n step before same =
    let was : old ≡ text_of (names ∷ map f (range_with_len 0 n)) = cc in
    let more : map f (range_with_len 0 (n + 1)) ≡ map f (range_with_len 0 n) ++ f n ∷ [] = map-range_with_len_more f 0 n n (omega arith) in
    let split : text_of ((names ∷ map f (range_with_len 0 n)) ++ f n ∷ []) ≡ text_of (names ∷ map f (range_with_len 0 n)) ++ (one (f n) ++ []) =
    flat_map-append (row_text layout) (names ∷ map f (range_with_len 0 n)) (f n ∷ []) in
    let here : new ≡ text_of (names ∷ map f (range_with_len 0 n)) ++ one (f n) = step ∙ rw (was, same) refl in
    let whole : new ≡ text_of ((names ∷ map f (range_with_len 0 n)) ++ f n ∷ []) = here ∙ (ap (λ t. text_of (names ∷ map f (range_with_len 0 n)) ++ t) (sym (append-nil (one (f n)))) ∙ sym split) in
    ap (λ (t : List ℕ). Some t) (whole ∙ ap (λ rows. text_of (names ∷ rows)) (sym more))
