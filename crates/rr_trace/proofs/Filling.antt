-- The header of a table, column by column.
use Rattle.std.proofs.Common.{◌≡◌, ◌∙◌, ◌⊎◌, ℕ, ◌+◌, ◌-◌, ◌<◌, ◌≤◌, Bool, true, false, List, [], ◌∷◌, ◌++◌, length, get_or, take, drop, map, Option, Some, None, is_some, Result, Ok, Err, refl, sym, ap, arith, cond, ◌||◌, inl, inr}
use Rattle.std.specs.List.{list_any}
use Rattle.std.specs.Str.{bytes_eq}
use Rattle.std.proofs.lemmas.List.{append_assoc, append-nil, drop_more, take_more, take_all, length-take-le, length-map, get_or-map}
use Rattle.std.proofs.Math.ListN.{drop_of_length-le}
use Rattle.rr_trace.specs.declared.fault.TableFault.{TableFault}
use Rattle.rr_trace.specs.Columns.{Ports, and_then, column, columns, only_once, trimmed}
use Rattle.rr_trace.specs.Names.{Text, number_of, numbered}
use Rattle.rr_trace.specs.View.{Refuses, SameNumbers}
use Rattle.rr_trace.proofs.Entries.{or_else, or_none, push}

abbrev Widths : Type 0
Widths = List (Option ℕ)

-- the widths of the columns so far, and the numbers of their names
pub record Filled (p : Ports) (names : List Text) (at : ℕ) (widths : Widths) (numbers : List (Text × ℕ)) : Type 0 where
  pub rest : columns p [] names ≡ and_then (columns p (take at names) (drop at names)) (λ ws. Ok (widths ++ ws))
  pub same : SameNumbers numbers (numbered 0 (take at names))

-- what a column must keep
abbrev Once : Ports → ℕ → List (Text × ℕ) → Text → Result (Option ℕ) TableFault
Once p at numbers t = only_once at (is_some (number_of t numbers)) (column p t)

same_result : (r : Result Widths TableFault) → r ≡ and_then r (λ ws. Ok ([] ++ ws))
same_result (Ok ws) = refl
same_result (Err e) = refl

pub filled_none : (p : Ports) (names : List Text) → Filled p names 0 [] []
unfolding numbered
filled_none p names = record { rest = same_result (columns p [] names); same = λ t. refl }

found : (k : ℕ) (t : Text) (names : List Text) → is_some (number_of t (numbered k names)) ≡ list_any (bytes_eq t) names
unfolding number_of numbered
found k t [] = refl
found k t (n ∷ ns) = go (bytes_eq t n) (found (k + 1) t ns)
  where
    go : (b : Bool) → is_some (number_of t (numbered (k + 1) ns)) ≡ list_any (bytes_eq t) ns
        → is_some (cond b (Some k) (number_of t (numbered (k + 1) ns))) ≡ (b || list_any (bytes_eq t) ns)
    go true h = refl
    go false h = h

numbered_push : (k : ℕ) (names : List Text) (t : Text) → numbered k (names ++ t ∷ []) ≡ numbered k names ++ (t, k + length names) ∷ []
unfolding numbered
numbered_push k [] t = let e : k ≡ k + 0 = omega arith in ap (λ n. (t, n) ∷ []) e
numbered_push k (n ∷ ns) t =
    let e : (k + 1) + length ns ≡ k + length (n ∷ ns) = omega arith in
    ap (λ rest. (n, k) ∷ rest) (numbered_push (k + 1) ns t ∙ ap (λ m. numbered (k + 1) ns ++ (t, m) ∷ []) e)

regroup : (r : Result Widths TableFault) (w : Option ℕ) (widths : Widths)
    → and_then (and_then r (λ ws. Ok (w ∷ ws))) (λ ws. Ok (widths ++ ws)) ≡ and_then r (λ ws. Ok ((widths ++ w ∷ []) ++ ws))
regroup (Ok ws) w widths = ap Ok (sym (append_assoc widths (w ∷ []) ws))
regroup (Err e) w widths = refl

step_ok : (p : Ports) (earlier : List Text) (t : Text) (ts : List Text) (w : Option ℕ) → only_once (length earlier) (list_any (bytes_eq t) earlier) (column p t) ≡ Ok w
    → columns p earlier (t ∷ ts) ≡ and_then (columns p (earlier ++ t ∷ []) ts) (λ ws. Ok (w ∷ ws))
unfolding columns
step_ok p earlier t ts w e = ap (λ r. and_then r (λ x. and_then (columns p (earlier ++ t ∷ []) ts) (λ ws. Ok (x ∷ ws)))) e

step_err : (p : Ports) (earlier : List Text) (t : Text) (ts : List Text) (f : TableFault) → only_once (length earlier) (list_any (bytes_eq t) earlier) (column p t) ≡ Err f
    → columns p earlier (t ∷ ts) ≡ Err f
unfolding columns
step_err p earlier t ts f e = ap (λ r. and_then r (λ x. and_then (columns p (earlier ++ t ∷ []) ts) (λ ws. Ok (x ∷ ws)))) e

-- the same as the definition asks, of the names so far
seen : (p : Ports) (names : List Text) (at : ℕ) (numbers : List (Text × ℕ)) (t : Text) → at < length names → SameNumbers numbers (numbered 0 (take at names))
    → only_once (length (take at names)) (list_any (bytes_eq t) (take at names)) (column p t) ≡ Once p at numbers t
seen p names at numbers t l same =
    let n : length (take at names) ≡ at = length-take-le at names (omega arith) in
    let b : list_any (bytes_eq t) (take at names) ≡ is_some (number_of t numbers) = sym (ap is_some (same t) ∙ found 0 t (take at names)) in
    rw (n, b) refl

push_same : (numbers more : List (Text × ℕ)) (names : List Text) (at : ℕ) (t : Text) → at < length names → SameNumbers numbers (numbered 0 (take at names))
    → SameNumbers more (numbers ++ (t, at) ∷ []) → SameNumbers more (numbered 0 (take at names ++ t ∷ []))
push_same numbers more names at t l same h u =
    let n : length (take at names) ≡ at = length-take-le at names (omega arith) in
    let z : 0 + length (take at names) ≡ at = omega (arith, n) in
    let e : numbered 0 (take at names ++ t ∷ []) ≡ numbered 0 (take at names) ++ (t, at) ∷ [] = numbered_push 0 (take at names) t ∙ ap (λ m. numbered 0 (take at names) ++ (t, m) ∷ []) z in
    h u ∙ (push u t at numbers ∙ (ap (λ o. or_else o (cond (bytes_eq u t) (Some at) None)) (same u) ∙ (sym (push u t at (numbered 0 (take at names))) ∙ ap (number_of u) (sym e))))

pub filled_more : (p : Ports) (names : List Text) (at : ℕ) (widths : Widths) (numbers more : List (Text × ℕ)) (w : Option ℕ) → at < length names → Filled p names at widths numbers
    → Once p at numbers (get_or names at []) ≡ Ok w → SameNumbers more (numbers ++ (get_or names at [], at) ∷ []) → Filled p names (at + 1) (widths ++ w ∷ []) more
filled_more p names at widths numbers more w l h e m =
    let t = get_or names at [] in
    let split = drop_more names at [] l in
    let taken = take_more names at [] l in
    let one = step_ok p (take at names) t (drop (at + 1) names) w (seen p names at numbers t l h.same ∙ e) in
    record {
      rest = rw taken (h.rest ∙ (ap (λ ts. and_then (columns p (take at names) ts) (λ ws. Ok (widths ++ ws))) split ∙ (ap (λ r. and_then r (λ ws. Ok (widths ++ ws))) one ∙ regroup (columns p (take at names ++ t ∷ []) (drop (at + 1) names)) w widths)));
      same = rw taken (push_same numbers more names at t l h.same m);
    }

pub filled_err : (p : Ports) (names : List Text) (at : ℕ) (widths : Widths) (numbers : List (Text × ℕ)) (f : TableFault) → at < length names → Filled p names at widths numbers
    → Refuses (Once p at numbers (get_or names at [])) f → Refuses (columns p [] names) f
filled_err p names at widths numbers f l h (inl m) = inl m
filled_err p names at widths numbers f l h (inr e) =
    let t = get_or names at [] in
    let one = step_err p (take at names) t (drop (at + 1) names) f (seen p names at numbers t l h.same ∙ e) in
    inr (h.rest ∙ (ap (λ ts. and_then (columns p (take at names) ts) (λ ws. Ok (widths ++ ws))) (drop_more names at [] l) ∙ ap (λ r. and_then r (λ ws. Ok (widths ++ ws))) one))

done : (p : Ports) (earlier : List Text) (rest : List Text) → rest ≡ [] → columns p earlier rest ≡ Ok []
unfolding columns
done p earlier rest e = rw e refl

pub filled_all : (p : Ports) (names : List Text) (at : ℕ) (widths : Widths) (numbers : List (Text × ℕ)) → length names ≤ at → Filled p names at widths numbers
    → (columns p [] names ≡ Ok widths) × SameNumbers numbers (numbered 0 names)
filled_all p names at widths numbers l h = (
  h.rest ∙ (ap (λ r. and_then r (λ ws. Ok (widths ++ ws))) (done p (take at names) (drop at names) (drop_of_length-le names l)) ∙ ap Ok (append-nil widths)),
  (let e : take at names ≡ names = take_all at names l in rw e at h.same),
)

-- the same of fields, whose names are trimmed
named : (fs : List Text) (at : ℕ) (name : Text) → at < length fs → name ≡ trimmed (get_or fs at []) → name ≡ get_or (map trimmed fs) at []
named fs at name l e = e ∙ sym (get_or-map trimmed fs at [] [] l)

pub columns_more : (p : Ports) (fs : List Text) (at number : ℕ) (widths : Widths) (numbers more : List (Text × ℕ)) (name : Text) (w : Option ℕ) → at < length fs → number ≡ at
    → name ≡ trimmed (get_or fs at []) → Filled p (map trimmed fs) at widths numbers → Once p number numbers name ≡ Ok w → SameNumbers more (numbers ++ (name, number) ∷ [])
    → Filled p (map trimmed fs) (at + 1) (widths ++ w ∷ []) more
columns_more p fs at number widths numbers more name w l n e h o m =
    let same = named fs at name l e in
    filled_more p (map trimmed fs) at widths numbers more w (rw (length-map fs trimmed) l) h (rw (← same, ← n) o) (rw (← same, ← n) m)

pub columns_err : (p : Ports) (fs : List Text) (at number : ℕ) (widths : Widths) (numbers : List (Text × ℕ)) (name : Text) (f : TableFault) → at < length fs → number ≡ at
    → name ≡ trimmed (get_or fs at []) → Filled p (map trimmed fs) at widths numbers → Refuses (Once p number numbers name) f → Refuses (columns p [] (map trimmed fs)) f
columns_err p fs at number widths numbers name f l n e h r =
    let same = named fs at name l e in
    filled_err p (map trimmed fs) at widths numbers f (rw (length-map fs trimmed) l) h (rw (← same, ← n) r)
