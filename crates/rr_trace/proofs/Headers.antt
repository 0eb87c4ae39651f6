-- What a header keeps.
use Rattle.std.proofs.Common.{◌≡◌, ◌∙◌, ℕ, suc, ◌+◌, ◌<◌, ◌≤◌, ◌||◌, Bool, true, false, cond, All, List, [], ◌∷◌, ◌++◌, length, map, Option, Some, None, IfSome, Result, Ok, Err, refl, sym, ap, arith}
use Rattle.std.specs.List.{list_any}
use Rattle.std.specs.Str.{bytes_eq}
use Rattle.std.proofs.lemmas.List.Elements.{All-nil, All-cons, All-head, All-tail, All-append}
use Rattle.rr_trace.specs.declared.fault.TableFault.{TableFault}
use Rattle.rr_trace.specs.Columns.{Ports, Port, and_then, column, columns, only_once, width_in, is_unread, widths_of, place, given, input_places}
use Rattle.rr_trace.specs.Names.{Text, number_of, numbered}
use Rattle.rr_trace.specs.View.{IsColumn, IsWidth}

-- the numbers of names that are numbered
below : (t : Text) (k : ℕ) (names : List Text) (j : ℕ) → number_of t (numbered k names) ≡ Some j → j < k + length names
unfolding number_of numbered
below t k [] j e = cc
below t k (n ∷ ns) j e = go (bytes_eq t n) e (below t (k + 1) ns j)
  where
    go : (b : Bool) → cond b (Some k) (number_of t (numbered (k + 1) ns)) ≡ Some j → (number_of t (numbered (k + 1) ns) ≡ Some j → j < (k + 1) + length ns) → j < k + length (n ∷ ns)
    go true h rec = let same : k ≡ j = cc in omega arith
    go false h rec = let l = rec h in omega (arith, l)

-- the widths of ports
wide : (t : Text) (ports : List Port) (w : ℕ) → All (λ x. IsWidth x.width) ports → number_of t (map (λ x. (x.name, x.width)) ports) ≡ Some w → IsWidth w
unfolding number_of
wide t [] w all e = cc
wide t (x ∷ xs) w all e = go (bytes_eq t x.name) e (wide t xs w (All-tail (λ x. IsWidth x.width) x xs all))
  where
    go : (b : Bool) → cond b (Some x.width) (number_of t (map (λ x. (x.name, x.width)) xs)) ≡ Some w → (number_of t (map (λ x. (x.name, x.width)) xs) ≡ Some w → IsWidth w) → IsWidth w
    go true h rec = let same : x.width ≡ w = cc in rw (← same) (All-head (λ x. IsWidth x.width) x xs all)
    go false h rec = rec h

-- a column that is read
column_wide : (unread : Bool) (o : Option ℕ) (w : Option ℕ) → ((n : ℕ) → o ≡ Some n → IsWidth n) → width_in unread o ≡ Some w → IsColumn w
column_wide true o w h e = let same : None ≡ w = cc in rw (← same) tt
column_wide false None w h e = cc
column_wide false (Some n) w h e = let same : Some n ≡ w = cc in rw (← same) (h n refl)

once_wide : (k : ℕ) (again : Bool) (c : Option (Option ℕ)) (w : Option ℕ) → only_once k again c ≡ Ok w → c ≡ Some w
once_wide k again None w e = cc
once_wide k true (Some v) w e = cc
once_wide k false (Some v) w e = let same : v ≡ w = cc in ap Some same

pub columns_sound : (p : Ports) (earlier names : List Text) (ws : List (Option ℕ)) → All (λ x. IsWidth x.width) (p.inputs ++ p.outputs) → columns p earlier names ≡ Ok ws
    → All IsColumn ws × (length ws ≡ length names)
unfolding columns
columns_sound p earlier [] ws wide_ports e = let same : [] ≡ ws = cc in rw (← same) (All-nil IsColumn, refl)
columns_sound p earlier (t ∷ ts) ws wide_ports e =
    go (only_once (length earlier) (list_any (bytes_eq t) earlier) (column p t)) refl (columns p (earlier ++ t ∷ []) ts) e (λ vs d. columns_sound p (earlier ++ t ∷ []) ts vs wide_ports d)
  where
    go : (r : Result (Option ℕ) TableFault) → only_once (length earlier) (list_any (bytes_eq t) earlier) (column p t) ≡ r → (s : Result (List (Option ℕ)) TableFault)
        → and_then r (λ x. and_then s (λ xs. Ok (x ∷ xs))) ≡ Ok ws → ((vs : List (Option ℕ)) → s ≡ Ok vs → All IsColumn vs × (length vs ≡ length ts)) → All IsColumn ws × (length ws ≡ length (t ∷ ts))
    go (Err f) h s d rec = cc
    go (Ok x) h (Err f) d rec = cc
    go (Ok x) h (Ok vs) d rec =
        let same : x ∷ vs ≡ ws = cc in
        let more = rec vs refl in
        let here : IsColumn x = column_wide (is_unread p t) (number_of t (widths_of p)) x (λ n g. wide t (p.inputs ++ p.outputs) n wide_ports g) (once_wide (length earlier) (list_any (bytes_eq t) earlier) (column p t) x h) in
        rw (← same) (All-cons IsColumn x vs here more.0, ap suc more.1)

abbrev pub InRange : List Text → ℕ → Type 0
InRange names k = k < length names

placed_below : (p : Ports) (names : List Text) (x : Port) (k : ℕ) → place p names x ≡ Some k → k < length names
placed_below p names x k e = go (is_unread p x.name) e
  where
    go : (b : Bool) → cond b None (number_of x.name (numbered 0 names)) ≡ Some k → k < length names
    go true h = cc
    go false h = let l = below x.name 0 names k h in omega (arith, l)

pub inputs_sound : (p : Ports) (names : List Text) (xs : List Port) (ks : List ℕ) → input_places p names xs ≡ Ok ks → All (λ k. k < length names) ks
unfolding input_places
inputs_sound p names [] ks e = let same : [] ≡ ks = cc in rw (← same) (All-nil (λ k. k < length names))
inputs_sound p names (x ∷ xs) ks e = go (place p names x) refl (input_places p names xs) e (λ js d. inputs_sound p names xs js d)
  where
    go : (o : Option ℕ) → place p names x ≡ o → (s : Result (List ℕ) TableFault) → and_then (given x.id o) (λ k. and_then s (λ js. Ok (k ∷ js))) ≡ Ok ks
        → ((js : List ℕ) → s ≡ Ok js → All (λ k. k < length names) js) → All (λ k. k < length names) ks
    go None h s d rec = cc
    go (Some k) h (Err f) d rec = cc
    go (Some k) h (Ok js) d rec = let same : k ∷ js ≡ ks = cc in rw (← same) (All-cons (λ k. k < length names) k js (placed_below p names x k h) (rec js refl))

some_below : (p : Ports) (names : List Text) (x : Port) (o : Option ℕ) → place p names x ≡ o → IfSome o (λ k. k < length names)
some_below p names x None e = tt
some_below p names x (Some k) e = placed_below p names x k e

pub outputs_sound : (p : Ports) (names : List Text) (xs : List Port) → All (λ o. IfSome o (λ k. k < length names)) (map (place p names) xs)
outputs_sound p names [] = All-nil (λ o. IfSome o (λ k. k < length names))
outputs_sound p names (x ∷ xs) = All-cons (λ o. IfSome o (λ k. k < length names)) (place p names x) (map (place p names) xs) (some_below p names x (place p names x) refl) (outputs_sound p names xs)
