-- Runs of bytes and texts that are cut, with other bytes behind them.
use Rattle.std.proofs.Common.{ℕ, zero, suc, ◌≡◌, ◌+◌, ◌≤◌, ◌<◌, List, [], ◌∷◌, ◌++◌, length, drop, take, Bool, true, false, ◌&&◌, ◌==◌, refl, ap, ◌∙◌, sym, arith, inl, inr}
use Rattle.std.specs.List.{prefix_len}
use Rattle.std.proofs.lemmas.Bool.{cases_Bool, and_parts}
use Rattle.rr_directive.specs.Bytes.{begins, is}
use Rattle.rr_directive.specs.Pieces.{closed}
use Rattle.rr_directive.proofs.Facts.{closed_yes, closed_no}

-- ---- runs

pub none : (p : ℕ → Bool) (bs : List ℕ) → begins p bs ≡ false → prefix_len p bs ≡ 0
none p [] h = refl
none p (b ∷ bs) h = rw h refl

none_begins : (p : ℕ → Bool) (bs : List ℕ) → prefix_len p bs ≤ 0 → begins p bs ≡ false
none_begins p [] l = refl
none_begins p (b ∷ bs) l = elim (cases_Bool (p b)) [
  | inl t ↦ let k : 1 + prefix_len p bs ≤ 0 = rw t at l in absurd (omega (arith, k))
  | inr f ↦ f
]

-- what is cut behind a run ends the run, if what follows does
pub run : (p : ℕ → Bool) (k : ℕ) (cs ws : List ℕ) → prefix_len p cs ≤ k → (begins p (drop k cs) ≡ false → begins p ws ≡ false) → prefix_len p (take k cs ++ ws) ≡ prefix_len p cs
run p zero cs ws l h =
    let b : begins p cs ≡ false = none_begins p cs l in
    none p ws (h b) ∙ sym (none p cs b)
run p (suc k) [] ws l h = none p ws (h refl)
run p (suc k) (c ∷ cs) ws l h = elim (cases_Bool (p c)) [
  | inl t ↦ let m : 1 + prefix_len p cs ≤ suc k = rw t at l in rw t (ap (λ (n : ℕ). 1 + n) (run p k cs ws (omega (arith, m)) h))
  | inr f ↦ rw f refl
]

-- and so does a cut further behind
pub run_within : (p : ℕ → Bool) (k : ℕ) (cs ws : List ℕ) → prefix_len p cs < k → prefix_len p cs < length cs → prefix_len p (take k cs ++ ws) ≡ prefix_len p cs
run_within p zero cs ws l m = absurd (omega arith)
run_within p (suc k) [] ws l m = absurd (omega arith)
run_within p (suc k) (c ∷ cs) ws l m = elim (cases_Bool (p c)) [
  | inl t ↦
      let l2 : 1 + prefix_len p cs < suc k = rw t at l in
      let m2 : 1 + prefix_len p cs < suc (length cs) = rw t at m in
      rw t (ap (λ (n : ℕ). 1 + n) (run_within p k cs ws (omega (arith, l2)) (omega (arith, m2))))
  | inr f ↦ rw f refl
]

-- behind a run none of its bytes stands
pub run_ends : (p : ℕ → Bool) (cs : List ℕ) → begins p (drop (prefix_len p cs) cs) ≡ false
run_ends p [] = refl
run_ends p (c ∷ cs) = elim (cases_Bool (p c)) [
  | inl t ↦ let e : 1 + prefix_len p cs ≡ suc (prefix_len p cs) = omega arith in rw (t, e) (run_ends p cs)
  | inr f ↦ rw f f
]

pub some_run : (p : ℕ → Bool) (cs : List ℕ) → begins p cs ≡ true → 1 ≤ prefix_len p cs
some_run p [] h = absurd (cc)
some_run p (c ∷ cs) h = rw h (omega arith)

-- ---- cuts

pub take_in : (m k : ℕ) (cs ws : List ℕ) → m ≤ k → m ≤ length cs → take m (take k cs ++ ws) ≡ take m cs
take_in zero k cs ws l n = refl
take_in (suc m) zero cs ws l n = absurd (omega arith)
take_in (suc m) (suc k) [] ws l n = absurd (omega arith)
take_in (suc m) (suc k) (c ∷ cs) ws l n = ap (λ (xs : List ℕ). c ∷ xs) (take_in m k cs ws (omega arith) (omega arith))

pub drop_in : (m j k : ℕ) (cs ws : List ℕ) → k ≡ m + j → m ≤ length cs → drop m (take k cs ++ ws) ≡ take j (drop m cs) ++ ws
drop_in zero j k cs ws e n = let d : k ≡ j = omega (arith, e) in ap (λ (i : ℕ). take i cs ++ ws) d
drop_in (suc m) j zero cs ws e n = absurd (omega (arith, e))
drop_in (suc m) j (suc k) [] ws e n = absurd (omega arith)
drop_in (suc m) j (suc k) (c ∷ cs) ws e n = drop_in m j k cs ws (omega (arith, e)) (omega arith)

pub begins_in : (p : ℕ → Bool) (k : ℕ) (cs ws : List ℕ) → 1 ≤ k → 1 ≤ length cs → begins p (take k cs ++ ws) ≡ begins p cs
begins_in p zero cs ws l n = absurd (omega arith)
begins_in p (suc k) [] ws l n = absurd (omega arith)
begins_in p (suc k) (c ∷ cs) ws l n = refl

-- bytes of which no such is the first, cut and followed by such
pub begins_on : (p : ℕ → Bool) (k : ℕ) (cs ws : List ℕ) → begins p cs ≡ false → (begins p (drop k cs) ≡ false → begins p ws ≡ false) → begins p (take k cs ++ ws) ≡ false
begins_on p zero cs ws b h = h b
begins_on p (suc k) [] ws b h = h refl
begins_on p (suc k) (c ∷ cs) ws b h = b

pub begins_some : (p : ℕ → Bool) (cs : List ℕ) → begins p cs ≡ true → 1 ≤ length cs
begins_some p [] h = absurd (cc)
begins_some p (c ∷ cs) h = omega arith

-- ---- comments

closed_some : (a b x : ℕ) (xs : List ℕ) → 1 ≤ closed a b (x ∷ xs)
closed_some a b x xs = elim (cases_Bool ((x == a) && begins (is b) xs)) [
  | inl h ↦ omega (arith, closed_yes a b x xs h)
  | inr h ↦ omega (arith, closed_no a b x xs h)
]

closed_nothing : (a b : ℕ) → closed a b [] ≡ 0
unfolding closed
closed_nothing a b = refl

second_in : (b m : ℕ) (xs ws : List ℕ) → (length xs ≤ 0 → ws ≡ []) → (1 ≤ length xs → 1 ≤ m) → begins (is b) (take m xs ++ ws) ≡ begins (is b) xs
second_in b zero [] ws h l = ap (begins (is b)) (h (omega arith))
second_in b (suc m) [] ws h l = ap (begins (is b)) (h (omega arith))
second_in b zero (x ∷ xs) ws h l = let k : 1 ≤ zero = l (omega arith) in absurd (omega (arith, k))
second_in b (suc m) (x ∷ xs) ws h l = refl

both_true : (a b x : ℕ) (xs ws : List ℕ) → ((x == a) && begins (is b) xs) ≡ true → closed a b (take 2 (x ∷ xs) ++ ws) ≡ 2
both_true a b x [] ws h = let k = and_parts (x == a) false h in absurd (cc)
both_true a b x (y ∷ ys) ws h = closed_yes a b x (y ∷ ws) h

pub closed_on : (a b : ℕ) (cs ws : List ℕ) → (drop (closed a b cs) cs ≡ [] → ws ≡ []) → closed a b (take (closed a b cs) cs ++ ws) ≡ closed a b cs
closed_on a b [] ws h =
    let e : drop (closed a b []) [] ≡ [] = rw (closed_nothing a b) refl in
    let w : ws ≡ [] = h e in
    rw (closed_nothing a b, w) (closed_nothing a b)
closed_on a b (x ∷ xs) ws h = elim (cases_Bool ((x == a) && begins (is b) xs)) [
  | inl t ↦ let e = closed_yes a b x xs t in rw e (both_true a b x xs ws t)
  | inr f ↦
      let e : closed a b (x ∷ xs) ≡ suc (closed a b xs) = omega (arith, closed_no a b x xs f) in
      let h2 : drop (closed a b xs) xs ≡ [] → ws ≡ [] = rw e at h in
      let i = closed_on a b xs ws h2 in
      let g : ((x == a) && begins (is b) (take (closed a b xs) xs ++ ws)) ≡ false =
      ap (λ (c : Bool). (x == a) && c) (second_in b (closed a b xs) xs ws (λ l. nothing_behind xs ws l h2) (λ l. closed_many xs l)) ∙ f in
      rw e (closed_no a b x (take (closed a b xs) xs ++ ws) g ∙ (ap (λ (n : ℕ). 1 + n) i ∙ omega arith))
]
  where
    nothing_behind : (ys vs : List ℕ) → length ys ≤ 0 → (drop (closed a b ys) ys ≡ [] → vs ≡ []) → vs ≡ []
    nothing_behind [] vs l h = h (rw (closed_nothing a b) refl)
    nothing_behind (y ∷ ys) vs l h = absurd (omega (arith, l))

    closed_many : (ys : List ℕ) → 1 ≤ length ys → 1 ≤ closed a b ys
    closed_many [] l = absurd (omega (arith, l))
    closed_many (y ∷ ys) l = closed_some a b y ys
