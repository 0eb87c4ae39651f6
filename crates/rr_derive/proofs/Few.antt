-- the fresh lines of a member are few
use Rattle.std.proofs.Common.{◌≡◌, inl, inr, ℕ, suc, zero, ◌+◌, ◌*◌, ◌^◌, ◌<◌, ◌≤◌, List, [], ◌∷◌, ◌++◌, length, map, take, drop, refl, sym, ◌∙◌, ap, subst, arith}
use Rattle.std.specs.Prelude.{Contains, slice_index_or}
use Rattle.std.specs.List.{AllByRecursion}
use Rattle.std.proofs.lemmas.List.{take-append-drop, map-append, get_or-map, length-map, length-take-le, get_or-take}
use Rattle.std.proofs.lemmas.List.Elements.{Contains-append_left, Contains-append_right, Contains-append_cases, Contains-get_or}
use Rattle.rr_cnf.specs.Clauses.{Literal}
use Rattle.rr_derive.specs.Derive.{Step}
use Rattle.rr_derive.specs.Fresh.{Fresh, Handed, hand_of}
use Rattle.rr_derive.proofs.Trails.{Line, IsFresh as IsFreshLine, Before, InOrder, rejects_from}
use Rattle.rr_derive.proofs.CountLaws.{few_fresh_lines}

no_line : Step
no_line = record { id = 0; clause = []; hints = [] }

no_handed : Handed
no_handed = record { id = 0; clause = [] }

take_take : {X : Type 0} (k n : ℕ) (xs : List X) → k ≤ n → take k (take n xs) ≡ take k xs
take_take zero n xs h = refl
take_take (suc k) zero xs h = absurd (omega arith)
take_take (suc k) (suc n) [] h = refl
take_take (suc k) (suc n) (x ∷ xs) h = ap (λ t. x ∷ t) (take_take k n xs (omega arith))

-- what is handed over stays, clause by clause
clauses_stay : (xs ys : List Handed) → ((h : Handed) → Contains xs h → Contains ys h) → (c : List Literal) → Contains (map (λ h. h.clause) xs) c → Contains (map (λ h. h.clause) ys) c
clauses_stay xs ys up c m =
    let size = length-map xs (λ (h : Handed). h.clause) in
    let inside : m.0 < length xs = omega (arith, size, m.1) in
    let h = slice_index_or xs m.0 no_handed in
    let there = up h (Contains-get_or xs m.0 no_handed inside) in
    let size_there = length-map ys (λ (h : Handed). h.clause) in
    let is : h.clause ≡ c = sym (get_or-map (λ h. h.clause) xs m.0 no_handed c inside) ∙ m.2 in
    (there.0, omega (arith, size_there, there.1), get_or-map (λ h. h.clause) ys there.0 h c there.1 ∙ ap (λ h. h.clause) there.2 ∙ is)

module _ (formula : List (List Literal)) (inputs : ℕ) (held : List (List Handed)) (lines : List Step) (ev : Fresh formula inputs held lines) where
  item : (k : ℕ) → k < length lines → Line
  item k h = let f = ev.each k no_line h in record { hand = hand_of formula (take k lines) (slice_index_or held k []); trail = f.trail; decision = f.decision; clause = (slice_index_or lines k no_line).clause }

  build : (n k : ℕ) → k + n ≤ length lines → List Line
  build zero k h = []
  build (suc n) k h = item k (omega arith) ∷ build n (k + 1) (omega arith)

  clauses_upto : (j k : ℕ) (c : List Literal) → j ≤ k → Contains (map (λ s. s.clause) (take j lines)) c → Contains (map (λ s. s.clause) (take k lines)) c
  clauses_upto j k c h m =
      let whole : map (λ s. s.clause) (take j lines) ++ map (λ s. s.clause) (drop j (take k lines)) ≡ map (λ s. s.clause) (take k lines) =
      ap (λ x. map (λ s. s.clause) x ++ map (λ s. s.clause) (drop j (take k lines))) (sym (take_take j k lines h)) ∙ sym (map-append (λ s. s.clause) (take j (take k lines)) (drop j (take k lines))) ∙ ap (map (λ s. s.clause)) (take-append-drop j (take k lines)) in
      subst (λ x. Contains x c) whole (Contains-append_left (map (λ s. s.clause) (take j lines)) _ c m)

  upto : (j k : ℕ) → j < k → k < length lines → (c : List Literal) → Contains (hand_of formula (take j lines) (slice_index_or held j [])) c → Contains (hand_of formula (take k lines) (slice_index_or held k [])) c
  upto j k h hk c m =
      let f : Step → List Literal = λ s. s.clause in
      let g : Handed → List Literal = λ h. h.clause in
      elim (Contains-append_cases formula (map f (take j lines) ++ map g (slice_index_or held j [])) c m) [
        | inl a ↦ Contains-append_left formula (map f (take k lines) ++ map g (slice_index_or held k [])) c a
        | inr b ↦ Contains-append_right formula (map f (take k lines) ++ map g (slice_index_or held k [])) c
            (elim (Contains-append_cases (map f (take j lines)) (map g (slice_index_or held j [])) c b) [
              | inl a ↦ Contains-append_left (map f (take k lines)) (map g (slice_index_or held k [])) c (clauses_upto j k c (omega arith) a)
              | inr d ↦ Contains-append_right (map f (take k lines)) (map g (slice_index_or held k [])) c (clauses_stay (slice_index_or held j []) (slice_index_or held k []) (λ x. ev.stays j k x h hk) c d)
            ])
      ]

  own : (j k : ℕ) → j < k → k < length lines → Contains (hand_of formula (take k lines) (slice_index_or held k [])) (slice_index_or lines j no_line).clause
  own j k h hk =
      let f : Step → List Literal = λ s. s.clause in
      let g : Handed → List Literal = λ h. h.clause in
      let n = length-take-le k lines (omega arith) in
      let c = (slice_index_or lines j no_line).clause in
      Contains-append_right formula (map f (take k lines) ++ map g (slice_index_or held k [])) c
      (Contains-append_left (map f (take k lines)) (map g (slice_index_or held k [])) c
      (j, omega (arith, n, length-map (take k lines) f), get_or-map f (take k lines) j no_line c (omega (arith, n)) ∙ ap f (get_or-take k lines j no_line h)))

  before : (j k : ℕ) (hj : j < length lines) (hk : k < length lines) → j < k → Before (item j hj) (item k hk)
  unfolding item
  before j k hj hk h = (upto j k h hk, own j k h hk)

  before_all : (j : ℕ) (hj : j < length lines) (n k : ℕ) (h : k + n ≤ length lines) → j < k → AllByRecursion (Before (item j hj)) (build n k h)
  unfolding build
  before_all j hj zero k h l = tt
  before_all j hj (suc n) k h l = (before j k hj _ l, before_all j hj n (k + 1) _ (omega arith))

  in_order : (n k : ℕ) (h : k + n ≤ length lines) → InOrder (build n k h)
  unfolding build
  in_order zero k h = tt
  in_order (suc n) k h = (before_all k _ n (k + 1) _ (omega arith), in_order n (k + 1) _)

  all_fresh : (n k : ℕ) (h : k + n ≤ length lines) → AllByRecursion (IsFreshLine inputs) (build n k h)
  unfolding build item
  all_fresh zero k h = tt
  all_fresh (suc n) k h = (rejects_from _ _ inputs _ _ (ev.each k no_line (omega arith)), all_fresh n (k + 1) _)

  built : (n k : ℕ) (h : k + n ≤ length lines) → length (build n k h) ≡ n
  unfolding build
  built zero k h = refl
  built (suc n) k h = ap suc (built n (k + 1) _)

  pub few : length lines ≤ inputs * 3 ^ inputs
  few = let h : 0 + length lines ≤ length lines = omega arith in
      let w = few_fresh_lines inputs (build (length lines) 0 h) (all_fresh (length lines) 0 h) (in_order (length lines) 0 h) in
      omega (arith, w, built (length lines) 0 h)
