-- The numbers of bits of ports, by their names.
use Rattle.std.proofs.Common.{◌≡◌, ◌∙◌, ℕ, ◌+◌, ◌<◌, Bool, true, false, cond, List, [], ◌∷◌, ◌++◌, length, get_or, take, map, Some, refl, sym, ap}
use Rattle.std.specs.Str.{bytes_eq}
use Rattle.std.proofs.lemmas.List.{append_assoc, take_more, map-append}
use Rattle.rr_trace.specs.declared.ports.Port.{Port as Own}
use Rattle.rr_trace.specs.Columns as columns
use Rattle.rr_trace.specs.Names.{Text, number_of}
use Rattle.rr_trace.specs.View.{SameNumbers, plain_port}
use Rattle.rr_trace.proofs.Entries.{or_else}

abbrev pub wide : Own → Text × ℕ
wide x = (x.name.now, x.width)

-- the first list that has a name decides its number
joined : (t : Text) (es fs : List (Text × ℕ)) → number_of t (es ++ fs) ≡ or_else (number_of t es) (number_of t fs)
unfolding number_of or_else
joined t [] fs = refl
joined t (e ∷ es) fs = go (bytes_eq t e.0) (joined t es fs)
  where
    go : (b : Bool) → number_of t (es ++ fs) ≡ or_else (number_of t es) (number_of t fs)
        → cond b (Some e.1) (number_of t (es ++ fs)) ≡ or_else (cond b (Some e.1) (number_of t es)) (number_of t fs)
    go true h = refl
    go false h = h

same_more : (a b fs : List (Text × ℕ)) → SameNumbers a b → SameNumbers (a ++ fs) (b ++ fs)
same_more a b fs same t = joined t a fs ∙ (ap (λ o. or_else o (number_of t fs)) (same t) ∙ sym (joined t b fs))

pub widths_more : (widths more old : List (Text × ℕ)) (xs : List Own) (i : ℕ) (d x : Own) → i < length xs → x ≡ get_or xs i d
    → SameNumbers widths (old ++ map wide (take i xs)) → SameNumbers more (widths ++ wide x ∷ []) → SameNumbers more (old ++ map wide (take (i + 1) xs))
widths_more widths more old xs i d x l e same h t =
    let taken : take (i + 1) xs ≡ take i xs ++ x ∷ [] = take_more xs i d l ∙ ap (λ y. take i xs ++ y ∷ []) (sym e) in
    let names : map wide (take (i + 1) xs) ≡ map wide (take i xs) ++ wide x ∷ [] = rw taken (map-append wide (take i xs) (x ∷ [])) in
    let split : old ++ map wide (take (i + 1) xs) ≡ (old ++ map wide (take i xs)) ++ wide x ∷ [] =
    rw names (sym (append_assoc old (map wide (take i xs)) (wide x ∷ []))) in
    h t ∙ (same_more widths (old ++ map wide (take i xs)) (wide x ∷ []) same t ∙ ap (number_of t) (sym split))

abbrev plain_wide : columns.Port → Text × ℕ
plain_wide x = (x.name, x.width)

fused : (xs : List Own) → map plain_wide (map plain_port xs) ≡ map wide xs
fused [] = refl
fused (x ∷ xs) = ap (λ rest. wide x ∷ rest) (fused xs)

-- the inputs' numbers and then the outputs'
pub both_widths : (first both : List (Text × ℕ)) (inputs outputs : List Own) → SameNumbers first ([] ++ map wide inputs) → SameNumbers both (first ++ map wide outputs)
    → SameNumbers both (map plain_wide (map plain_port inputs ++ map plain_port outputs))
both_widths first both inputs outputs one two t =
    let split : map plain_wide (map plain_port inputs ++ map plain_port outputs) ≡ map wide inputs ++ map wide outputs =
    map-append plain_wide (map plain_port inputs) (map plain_port outputs) ∙ rw (fused inputs, fused outputs) refl in
    two t ∙ (same_more first (map wide inputs) (map wide outputs) one t ∙ ap (number_of t) (sym split))
