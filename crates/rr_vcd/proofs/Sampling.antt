-- The rows of what is told so far.
use Rattle.std.proofs.Common.{◌≡◌, ℕ, zero, suc, ◌+◌, ◌-◌, ◌<◌, ◌≤◌, Bool, true, false, List, [], ◌∷◌, ◌++◌, map, refl, sym, ◌∙◌, ap, arith, if◌then◌else◌, cond, Option, Some, None, nat_le}
use Rattle.std.specs.List.{filter, list_any, range_with_len}
use Rattle.std.proofs.lemmas.Bool.Decides.{nat_tests}
use Rattle.std.proofs.lemmas.List.{map-append}
use Rattle.std.proofs.lemmas.List.Elements.{filter-append}
use Rattle.rr_vcd_text.specs.Dump.{Told, Moment, Off, Declared}
use Rattle.rr_trace.specs.Rows.{Row}
use Rattle.rr_vcd.specs.View.{earlier}
use Rattle.rr_vcd.specs.Tops.{Top, Clock}
use Rattle.rr_vcd.specs.Moments.{is_moment, is_off, moments, before, up_to, before_off, valued}
use Rattle.rr_vcd.specs.Sampled.{row_behind, row_after, goes_over, is_edge, sampled, rows_of}
use Rattle.rr_vcd.proofs.Telling.{moments_more, before_all, up_to_more, up_to_time, before_time, off_more, before_off_same, before_off_all, before_off_ends, off_fewer}

-- rows by places that are alike are alike
alike : {X : Type 0} (f g : ℕ → X) (a n : ℕ) → ((i : ℕ) → i < a + n → f i ≡ g i) → map f (range_with_len a n) ≡ map g (range_with_len a n)
alike f g a zero same = refl
alike f g a (suc n) same =
    let rest = alike f g (a + 1) n (λ i l. same i (omega arith)) in
    let first : f a ≡ g a = same a (omega arith) in
    ap (λ x. x ∷ map f (range_with_len (a + 1) n)) first ∙ ap (λ xs. g a ∷ xs) rest

picked : {X : Type 0} (f g : ℕ → X) (p q : ℕ → Bool) (a n : ℕ) → ((i : ℕ) → i < a + n → f i ≡ g i) → ((i : ℕ) → i < a + n → p i ≡ q i)
    → map f (filter p (range_with_len a n)) ≡ map g (filter q (range_with_len a n))
picked f g p q a zero same test = refl
picked f g p q a (suc n) same test =
    go (q a) (test a (omega arith)) (same a (omega arith)) (picked f g p q (a + 1) n (λ i l. same i (omega arith)) (λ i l. test i (omega arith)))
  where
    go : (b : Bool) → p a ≡ b → f a ≡ g a → map f (filter p (range_with_len (a + 1) n)) ≡ map g (filter q (range_with_len (a + 1) n))
        → map f (cond (p a) (a ∷ filter p (range_with_len (a + 1) n)) (filter p (range_with_len (a + 1) n))) ≡ map g (cond b (a ∷ filter q (range_with_len (a + 1) n)) (filter q (range_with_len (a + 1) n)))
    go true e h rest = rw e (ap (λ x. x ∷ map f (filter p (range_with_len (a + 1) n))) h ∙ ap (λ xs. g a ∷ xs) rest)
    go false e h rest = rw e rest

range_more : (a n : ℕ) → range_with_len a (suc n) ≡ range_with_len a n ++ (a + n) ∷ []
range_more a zero = let e : a ≡ a + 0 = omega arith in ap (λ x. x ∷ []) e
range_more a (suc n) = let e : (a + 1) + n ≡ a + suc n = omega arith in ap (λ xs. a ∷ xs) (range_more (a + 1) n ∙ ap (λ x. range_with_len (a + 1) n ++ x ∷ []) e)

module _ (top : Top) (d : Declared) (s : ℕ) where
  abbrev rows_by : Option Clock → List Told → ℕ → List Row
  rows_by c told count = map (row_after top d s told) (sampled c d s told count)

  rows_alike : (c : Option Clock) (told other : List Told) (count : ℕ) → ((i : ℕ) → i < count → up_to i other ≡ up_to i told) → rows_by c other count ≡ rows_by c told count
  rows_alike None told other count same = alike (row_after top d s other) (row_after top d s told) 0 count (λ i l. ap (row_behind top d s) (same i (omega arith)))
  rows_alike (Some clock) told other count same =
      picked (row_after top d s other) (row_after top d s told) (is_edge d s clock other) (is_edge d s clock told) 0 (count - 1)
      (λ i l. ap (row_behind top d s) (same i (omega arith)))
      (λ i l. ap (λ x. goes_over d s clock x (up_to (i + 1) other)) (same i (omega arith)) ∙ ap (goes_over d s clock (up_to i told)) (same (i + 1) (omega arith)))

  pub rows_same : (told other : List Told) (count : ℕ) → ((i : ℕ) → i < count → up_to i other ≡ up_to i told) → rows_of top d s other count ≡ rows_of top d s told count
  rows_same told other count same = rows_alike top.clock told other count same

  -- without a clock each moment gives a row
  pub close_all : (told : List Told) → top.clock ≡ None → 0 < moments told → rows_of top d s told (moments told) ≡ rows_of top d s told (moments told - 1) ++ row_behind top d s told ∷ []
  close_all told e l = ap (λ c. rows_by c told (moments told)) e ∙ (go ∙ sym (ap (λ c. rows_by c told (moments told - 1) ++ row_behind top d s told ∷ []) e))
    where
      go : rows_by None told (moments told) ≡ rows_by None told (moments told - 1) ++ row_behind top d s told ∷ []
      go =
          let m : moments told ≡ suc (moments told - 1) = omega arith in
          let r : range_with_len 0 (moments told) ≡ range_with_len 0 (moments told - 1) ++ (0 + (moments told - 1)) ∷ [] = ap (range_with_len 0) m ∙ range_more 0 (moments told - 1) in
          let u : up_to (0 + (moments told - 1)) told ≡ told = before_all (suc (0 + (moments told - 1))) told (omega arith) in
          ap (map (row_after top d s told)) r ∙ (map-append (row_after top d s told) (range_with_len 0 (moments told - 1)) ((0 + (moments told - 1)) ∷ [])
          ∙ ap (λ x. rows_by None told (moments told - 1) ++ row_behind top d s x ∷ []) u)

  abbrev last_row : List Told → Clock → ℕ → List Row
  last_row told clock at = if goes_over d s clock (up_to at told) told then row_behind top d s (up_to at told) ∷ [] else []

  one_row : (told : List Told) (clock : Clock) (at : ℕ) → moments told ≤ suc (at + 1) → map (row_after top d s told) (filter (is_edge d s clock told) (at ∷ [])) ≡ last_row told clock at
  one_row told clock at l =
      let u : up_to (at + 1) told ≡ told = before_all (suc (at + 1)) told l in
      one (is_edge d s clock told at) ∙ ap (λ x. if goes_over d s clock (up_to at told) x then row_behind top d s (up_to at told) ∷ [] else []) u
    where
      one : (b : Bool) → map (row_after top d s told) (cond b (at ∷ []) []) ≡ (if b then row_behind top d s (up_to at told) ∷ [] else [])
      one true = refl
      one false = refl

  close_by : (told : List Told) (clock : Clock) (at : ℕ) → moments told - 2 ≡ at → 1 < moments told → rows_by (Some clock) told (moments told) ≡ rows_by (Some clock) told (moments told - 1) ++ last_row told clock at
  close_by told clock at e l =
      let m : moments told - 1 ≡ suc ((moments told - 1) - 1) = omega arith in
      let k : 0 + ((moments told - 1) - 1) ≡ at = omega arith in
      let r : range_with_len 0 (moments told - 1) ≡ range_with_len 0 ((moments told - 1) - 1) ++ at ∷ [] =
      ap (range_with_len 0) m ∙ (range_more 0 ((moments told - 1) - 1) ∙ ap (λ x. range_with_len 0 ((moments told - 1) - 1) ++ x ∷ []) k) in
      let f : filter (is_edge d s clock told) (range_with_len 0 (moments told - 1)) ≡ filter (is_edge d s clock told) (range_with_len 0 ((moments told - 1) - 1)) ++ filter (is_edge d s clock told) (at ∷ []) =
      ap (filter (is_edge d s clock told)) r ∙ filter-append (is_edge d s clock told) (range_with_len 0 ((moments told - 1) - 1)) (at ∷ []) in
      ap (map (row_after top d s told)) f
      ∙ (map-append (row_after top d s told) (filter (is_edge d s clock told) (range_with_len 0 ((moments told - 1) - 1))) (filter (is_edge d s clock told) (at ∷ []))
      ∙ ap (λ xs. rows_by (Some clock) told (moments told - 1) ++ xs) (one_row told clock at (omega arith)))

  -- with a clock a moment gives one where the clock goes over its edge
  pub close_one : (told : List Told) (clock : Clock) → top.clock ≡ Some clock → 1 < moments told
      → rows_of top d s told (moments told) ≡ rows_of top d s told (moments told - 1) ++ (if goes_over d s clock (up_to (moments told - 2) told) told then row_behind top d s (up_to (moments told - 2) told) ∷ [] else [])
  close_one told clock e l =
      ap (λ c. rows_by c told (moments told)) e ∙ (close_by told clock (moments told - 2) refl l ∙ sym (ap (λ c. rows_by c told (moments told - 1) ++ last_row told clock (moments told - 2)) e))

  -- the first moment gives none
  pub close_first : (told : List Told) (clock : Clock) → top.clock ≡ Some clock → moments told ≡ 1 → rows_of top d s told (moments told) ≡ rows_of top d s told (moments told - 1)
  close_first told clock e l = ap (λ c. rows_by c told (moments told)) e ∙ (ap (rows_by (Some clock) told) l ∙ sym (ap (λ c. rows_by c told (moments told - 1)) e ∙ ap (λ n. rows_by (Some clock) told (n - 1)) l))

  abbrev pub ended : List Told → List Row
  ended told = rows_of top d s told (moments (before_off told) - 1)

  few_same : (told : List Told) (t : Told) (count : ℕ) → count ≤ moments told - 1 → rows_of top d s (told ++ t ∷ []) count ≡ rows_of top d s told count
  few_same told t count l = rows_same told (told ++ t ∷ []) count (λ i k. up_to_more i told t (omega arith))

  -- behind the end of dumping nothing ends a moment
  pub ended_off : (told : List Told) (t : Told) → list_any is_off told ≡ true → ended (told ++ t ∷ []) ≡ ended told
  ended_off told t h =
      let m = off_fewer told in
      ap (λ x. rows_of top d s (told ++ t ∷ []) (moments x - 1)) (before_off_same told t h) ∙ few_same told t (moments (before_off told) - 1) (omega arith)

  pub ended_is : (told : List Told) → list_any is_off told ≡ false → ended told ≡ rows_of top d s told (moments told - 1)
  ended_is told gone = ap (λ x. rows_of top d s told (moments x - 1)) (before_off_all told gone)

  pub ended_ends : (told : List Told) → list_any is_off told ≡ false → ended (told ++ Off ∷ []) ≡ ended told
  ended_ends told gone =
      ap (λ x. rows_of top d s (told ++ Off ∷ []) (moments x - 1)) (before_off_ends told gone) ∙ (few_same told Off (moments told - 1) (omega arith) ∙ sym (ended_is told gone))

  -- nor does a construct that is no moment
  pub ended_same : (told : List Told) (t : Told) → list_any is_off told ≡ false → is_off t ≡ false → is_moment t ≡ false → ended (told ++ t ∷ []) ≡ ended told
  ended_same told t gone stays e =
      let off : list_any is_off (told ++ t ∷ []) ≡ false = off_more told t ∙ rw (gone, stays) refl in
      let m : moments (told ++ t ∷ []) ≡ moments told = moments_more told t ∙ rw e (omega arith) in
      ended_is (told ++ t ∷ []) off ∙ (ap (λ n. rows_of top d s (told ++ t ∷ []) (n - 1)) m ∙ (few_same told t (moments told - 1) (omega arith) ∙ sym (ended_is told gone)))

  -- and a moment ends the one before it
  pub ended_time : (told : List Told) (n : ℕ) → list_any is_off told ≡ false → ended (told ++ Moment n ∷ []) ≡ rows_of top d s told (moments told)
  ended_time told n gone =
      let off : list_any is_off (told ++ Moment n ∷ []) ≡ false = off_more told (Moment n) ∙ rw gone refl in
      let m : moments (told ++ Moment n ∷ []) - 1 ≡ moments told = let h = moments_more told (Moment n) in omega arith in
      ended_is (told ++ Moment n ∷ []) off ∙ (ap (rows_of top d s (told ++ Moment n ∷ [])) m ∙ rows_same told (told ++ Moment n ∷ []) (moments told) (λ i k. up_to_time i told n (omega arith)))

  -- all rows of a dump
  pub valued_off : (told : List Told) → list_any is_off told ≡ true → rows_of top d s told (valued told) ≡ ended told
  valued_off told h = ap (λ b. rows_of top d s told (if b then moments (before_off told) - 1 else moments told)) h

  pub valued_all : (told : List Told) → list_any is_off told ≡ false → rows_of top d s told (valued told) ≡ rows_of top d s told (moments told)
  valued_all told h = ap (λ b. rows_of top d s told (if b then moments (before_off told) - 1 else moments told)) h

  pub valued_none : (told : List Told) → list_any is_off told ≡ false → moments told ≡ 0 → rows_of top d s told (valued told) ≡ ended told
  valued_none told h z = valued_all told h ∙ sym (ended_is told h ∙ let e : moments told - 1 ≡ moments told = omega arith in ap (rows_of top d s told) e)

  pub ended_none : ended [] ≡ []
  unfolding before_off
  ended_none = go top.clock
    where
      go : (c : Option Clock) → rows_by c [] 0 ≡ []
      go None = refl
      go (Some clock) = refl

pub earlier_first : (told : List Told) → moments told ≤ 1 → earlier told ≡ []
earlier_first told l = let e : nat_le (moments told) 1 ≡ true = grind (arith, nat_tests) in ap (λ b. if b then [] else up_to (moments told - 2) told) e

pub earlier_is : (told : List Told) → 1 < moments told → earlier told ≡ up_to (moments told - 2) told
earlier_is told l = let e : nat_le (moments told) 1 ≡ false = grind (arith, nat_tests) in ap (λ b. if b then [] else up_to (moments told - 2) told) e

pub earlier_same : (told : List Told) (t : Told) → is_moment t ≡ false → earlier (told ++ t ∷ []) ≡ earlier told
earlier_same told t e =
    let m : moments (told ++ t ∷ []) ≡ moments told = moments_more told t ∙ rw e (omega arith) in
    ap (λ n. if nat_le n 1 then [] else up_to (n - 2) (told ++ t ∷ [])) m ∙ go (nat_le (moments told) 1) refl
  where
    go : (b : Bool) → nat_le (moments told) 1 ≡ b → (if b then [] else up_to (moments told - 2) (told ++ t ∷ [])) ≡ (if b then [] else up_to (moments told - 2) told)
    go true h = refl
    go false h = let l : suc (moments told - 2) < moments told = grind (arith, nat_tests) in up_to_more (moments told - 2) told t l

pub earlier_time : (told : List Told) (n : ℕ) → 0 < moments told → earlier (told ++ Moment n ∷ []) ≡ told
earlier_time told n l =
    let m = moments_more told (Moment n) in
    let k : suc (moments (told ++ Moment n ∷ []) - 2) ≡ moments told = omega arith in
    earlier_is (told ++ Moment n ∷ []) (omega arith) ∙ (ap (λ j. before j (told ++ Moment n ∷ [])) k ∙ before_time (moments told) told n refl)
