-- Moments of what is told, construct by construct.
use Rattle.std.proofs.Common.{◌≡◌, ℕ, zero, suc, ◌+◌, ◌<◌, ◌≤◌, Bool, true, false, ◌||◌, List, [], ◌∷◌, ◌++◌, length, refl, sym, ◌∙◌, ap, arith, if◌then◌else◌, None, ◌==◌}
use Rattle.std.specs.List.{filter, list_any}
use Rattle.std.proofs.lemmas.List.{length-append}
use Rattle.std.proofs.lemmas.List.Elements.{filter-append}
use Rattle.std.proofs.lemmas.List.Sums.{fold-append}
use Rattle.std.proofs.lemmas.List.Folds.{list_any-append}
use Rattle.std.proofs.lemmas.Bool.Decides.{nat_tests}
use Rattle.rr_vcd_text.specs.Dump.{Told, Nothing, Moment, Change, Off}
use Rattle.rr_vcd.specs.Moments.{is_moment, is_off, moments, before, up_to, changed, last_change, before_off}

pub moments_more : (told : List Told) (t : Told) → moments (told ++ t ∷ []) ≡ moments told + (if is_moment t then 1 else 0)
moments_more told t = ap length (filter-append is_moment told (t ∷ [])) ∙ (length-append (filter is_moment told) (filter is_moment (t ∷ [])) ∙ ap (λ n. moments told + n) (one t))
  where
    one : (t : Told) → length (filter is_moment (t ∷ [])) ≡ (if is_moment t then 1 else 0)
    one Nothing = refl
    one (Moment n) = refl
    one (Change id digits) = refl
    one Off = refl

pub last_more : (id : List ℕ) (told : List Told) (t : Told) → last_change id (told ++ t ∷ []) ≡ changed id (last_change id told) t
last_more id told t = fold-append (changed id) None told (t ∷ [])

-- what is told later is behind so many times
pub before_more : (k : ℕ) (told more : List Told) → k < moments told → before k (told ++ more) ≡ before k told
unfolding before
before_more k [] more l = absurd (omega arith)
before_more zero (t ∷ ts) more l = go (is_moment t) l (before_more zero ts more)
  where
    go : (b : Bool) → 0 < length (if b then t ∷ filter is_moment ts else filter is_moment ts) → (0 < moments ts → before zero (ts ++ more) ≡ before zero ts) → (if b then [] else t ∷ before zero (ts ++ more)) ≡ (if b then [] else t ∷ before zero ts)
    go true l rec = refl
    go false l rec = ap (λ xs. t ∷ xs) (rec l)
before_more (suc k) (t ∷ ts) more l = ap (λ xs. t ∷ xs) (go (is_moment t) l (before_more k ts more) (before_more (suc k) ts more))
  where
    go : (b : Bool) → suc k < length (if b then t ∷ filter is_moment ts else filter is_moment ts) → (k < moments ts → before k (ts ++ more) ≡ before k ts) → (suc k < moments ts → before (suc k) (ts ++ more) ≡ before (suc k) ts)
        → before (if b then k else suc k) (ts ++ more) ≡ before (if b then k else suc k) ts
    go true l rec one = rec (omega arith)
    go false l rec one = one l

-- all is told before a time that has not come
pub before_all : (k : ℕ) (told : List Told) → moments told ≤ k → before k told ≡ told
unfolding before
before_all k [] l = refl
before_all zero (t ∷ ts) l = go (is_moment t) l (before_all zero ts)
  where
    go : (b : Bool) → length (if b then t ∷ filter is_moment ts else filter is_moment ts) ≤ 0 → (moments ts ≤ 0 → before zero ts ≡ ts) → (if b then [] else t ∷ before zero ts) ≡ t ∷ ts
    go true l rec = absurd (omega arith)
    go false l rec = ap (λ xs. t ∷ xs) (rec l)
before_all (suc k) (t ∷ ts) l = ap (λ xs. t ∷ xs) (go (is_moment t) l (before_all k ts) (before_all (suc k) ts))
  where
    go : (b : Bool) → length (if b then t ∷ filter is_moment ts else filter is_moment ts) ≤ suc k → (moments ts ≤ k → before k ts ≡ ts) → (moments ts ≤ suc k → before (suc k) ts ≡ ts) → before (if b then k else suc k) ts ≡ ts
    go true l rec one = rec (omega arith)
    go false l rec one = one l

-- up to a time
pub before_time : (k : ℕ) (told : List Told) (n : ℕ) → moments told ≡ k → before k (told ++ Moment n ∷ []) ≡ told
unfolding before
before_time zero [] n e = refl
before_time (suc k) [] n e = absurd (omega arith)
before_time zero (t ∷ ts) n e = go (is_moment t) e (before_time zero ts n)
  where
    go : (b : Bool) → length (if b then t ∷ filter is_moment ts else filter is_moment ts) ≡ 0 → (moments ts ≡ 0 → before zero (ts ++ Moment n ∷ []) ≡ ts) → (if b then [] else t ∷ before zero (ts ++ Moment n ∷ [])) ≡ t ∷ ts
    go true e rec = absurd (omega arith)
    go false e rec = ap (λ xs. t ∷ xs) (rec e)
before_time (suc k) (t ∷ ts) n e = ap (λ xs. t ∷ xs) (go (is_moment t) e (before_time k ts n) (before_time (suc k) ts n))
  where
    go : (b : Bool) → length (if b then t ∷ filter is_moment ts else filter is_moment ts) ≡ suc k → (moments ts ≡ k → before k (ts ++ Moment n ∷ []) ≡ ts) → (moments ts ≡ suc k → before (suc k) (ts ++ Moment n ∷ []) ≡ ts)
        → before (if b then k else suc k) (ts ++ Moment n ∷ []) ≡ ts
    go true e rec one = rec (omega arith)
    go false e rec one = one e

pub off_more : (told : List Told) (t : Told) → list_any is_off (told ++ t ∷ []) ≡ (list_any is_off told || is_off t)
off_more told t = list_any-append is_off told (t ∷ []) ∙ ap (λ b. list_any is_off told || b) (or_false (is_off t))
  where
    or_false : (b : Bool) → (b || false) ≡ b
    or_false true = refl
    or_false false = refl

-- behind the first end of dumping nothing counts
pub before_off_same : (told : List Told) (t : Told) → list_any is_off told ≡ true → before_off (told ++ t ∷ []) ≡ before_off told
unfolding before_off
before_off_same [] t e = cc
before_off_same (x ∷ xs) t e = go (is_off x) e (before_off_same xs t)
  where
    go : (b : Bool) → (b || list_any is_off xs) ≡ true → (list_any is_off xs ≡ true → before_off (xs ++ t ∷ []) ≡ before_off xs)
        → (if b then [] else x ∷ before_off (xs ++ t ∷ [])) ≡ (if b then [] else x ∷ before_off xs)
    go true e rec = refl
    go false e rec = ap (λ ys. x ∷ ys) (rec e)

-- where there is none all counts
pub before_off_all : (told : List Told) → list_any is_off told ≡ false → before_off told ≡ told
unfolding before_off
before_off_all [] e = refl
before_off_all (x ∷ xs) e = go (is_off x) e (before_off_all xs)
  where
    go : (b : Bool) → (b || list_any is_off xs) ≡ false → (list_any is_off xs ≡ false → before_off xs ≡ xs) → (if b then [] else x ∷ before_off xs) ≡ x ∷ xs
    go true e rec = cc
    go false e rec = ap (λ ys. x ∷ ys) (rec e)

pub before_off_ends : (told : List Told) → list_any is_off told ≡ false → before_off (told ++ Off ∷ []) ≡ told
unfolding before_off
before_off_ends [] e = refl
before_off_ends (x ∷ xs) e = go (is_off x) e (before_off_ends xs)
  where
    go : (b : Bool) → (b || list_any is_off xs) ≡ false → (list_any is_off xs ≡ false → before_off (xs ++ Off ∷ []) ≡ xs) → (if b then [] else x ∷ before_off (xs ++ Off ∷ [])) ≡ x ∷ xs
    go true e rec = cc
    go false e rec = ap (λ ys. x ∷ ys) (rec e)

pub off_fewer : (told : List Told) → moments (before_off told) ≤ moments told
unfolding before_off
off_fewer [] = omega arith
off_fewer (x ∷ xs) = go (is_off x) (is_moment x) refl (off_fewer xs)
  where
    go : (b m : Bool) → is_moment x ≡ m → moments (before_off xs) ≤ moments xs → moments (if b then [] else x ∷ before_off xs) ≤ moments (x ∷ xs)
    go true m e h = omega arith
    go false true e h = rw e (omega arith)
    go false false e h = rw e h

-- a moment that has ended stays as it is
pub up_to_more : (i : ℕ) (told : List Told) (t : Told) → suc i < moments told → up_to i (told ++ t ∷ []) ≡ up_to i told
up_to_more i told t l = before_more (suc i) told (t ∷ []) l

pub up_to_time : (i : ℕ) (told : List Told) (n : ℕ) → suc i ≤ moments told → up_to i (told ++ Moment n ∷ []) ≡ up_to i told
up_to_time i told n l = go (moments told == suc i) refl
  where
    go : (b : Bool) → (moments told == suc i) ≡ b → up_to i (told ++ Moment n ∷ []) ≡ up_to i told
    go true e = let same : moments told ≡ suc i = grind (arith, nat_tests) in before_time (suc i) told n same ∙ sym (before_all (suc i) told (omega arith))
    go false e = let less : suc i < moments told = grind (arith, nat_tests) in before_more (suc i) told (Moment n ∷ []) less
