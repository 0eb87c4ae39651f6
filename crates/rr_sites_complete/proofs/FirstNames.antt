-- Each name once, at its first declaration.
use Rattle.std.proofs.Common.{◌≡◌, ◌⊎◌, inl, inr, ℕ, ◌<◌, ◌≤◌, Bool, true, false, if◌then◌else◌, List, [], ◌∷◌, ◌++◌, fold, Contains, refl, sym, subst, ◌∙◌, arith}
use Rattle.std.specs.List.{list_any}
use Rattle.std.specs.Str.{bytes_eq}
use Rattle.std.proofs.lemmas.Bool.{both_ways}
use Rattle.std.proofs.lemmas.List.Elements.{Contains-append_left, Contains-push, Contains-push_cases}
use Rattle.std.proofs.lemmas.Slice.Eq.{bytes_eq-Decides}
use Rattle.rr_syntax.specs.Tree.{Identifier}
use Rattle.rr_guard.specs.Names.{with_first, firsts}
use Rattle.rr_sites_complete.specs.GuardNames.{Rising}
use Rattle.rr_sites_complete.proofs.Declared.{any_from, any_in}
use Rattle.rr_sites_complete.proofs.Lists.{head_in, tail_in, none_in, all_in, every_in, cases_in}
use Rattle.rr_sites_complete.proofs.Rises.{rising_join}

abbrev pub token_of : Identifier → ℕ
token_of x = x.token

abbrev pub IsNew : List Identifier → Identifier → Type 0
IsNew acc x = (z : Identifier) → Contains acc z → z.text ≡ x.text → ⊥

abbrev pub IsLeast : List Identifier → Identifier → Type 0
IsLeast xs x = (z : Identifier) → Contains xs z → z.text ≡ x.text → x.token ≤ z.token

abbrev is_known : List Identifier → Identifier → Bool
is_known acc x = list_any (λ (y : Identifier). bytes_eq y.text x.text) acc

known_from : (acc : List Identifier) (x : Identifier) → is_known acc x ≡ true → IsNew acc x → ⊥
known_from acc x h n = let r = any_from (λ (y : Identifier). bytes_eq y.text x.text) acc h in n r.0 r.1 ((bytes_eq-Decides r.0.text x.text).0 r.2)

new_from : (acc : List Identifier) (x : Identifier) → is_known acc x ≡ false → IsNew acc x
new_from acc x h z c e = both_ways (is_known acc x) h (any_in (λ (y : Identifier). bytes_eq y.text x.text) acc z c ((bytes_eq-Decides z.text x.text).1 e))

-- the list with one more
data Step (acc : List Identifier) (y : Identifier) : List Identifier → Type 0 where
  stays : (IsNew acc y → ⊥) → Step acc y acc
  grows : IsNew acc y → Step acc y (acc ++ y ∷ [])

step_of : (acc : List Identifier) (y : Identifier) → Step acc y (with_first acc y)
step_of acc y = by (is_known acc y) refl
  where
    by : (b : Bool) → is_known acc y ≡ b → Step acc y (if b then acc else acc ++ y ∷ [])
    by true e = stays (known_from acc y e)
    by false e = grows (new_from acc y e)

step_keeps : {acc out : List Identifier} {y : Identifier} → Step acc y out → (x : Identifier) → Contains acc x → Contains out x
step_keeps (stays n) x c = c
step_keeps {acc} {y = y} (grows n) x c = Contains-append_left acc (y ∷ []) x c

step_cases : {acc out : List Identifier} {y : Identifier} → Step acc y out → (x : Identifier) → Contains out x → Contains acc x ⊎ ((y ≡ x) × IsNew acc y)
step_cases (stays n) x c = inl c
step_cases {acc} {y = y} (grows n) x c = elim (Contains-push_cases acc y x c) [
  | inl d ↦ inl d
  | inr e ↦ inr (e, n)
]

-- its name is there
step_has : {acc out : List Identifier} {y : Identifier} → Step acc y out → IsNew out y → ⊥
step_has (stays n) h = n h
step_has {acc} {y = y} (grows n) h = h y (Contains-push acc y) refl

step_adds : {acc out : List Identifier} {y : Identifier} → Step acc y out → IsNew acc y → Contains out y
step_adds (stays n) h = absurd (n h)
step_adds {acc} {y = y} (grows n) h = Contains-push acc y

step_new : {acc out : List Identifier} {y : Identifier} → Step acc y out → (x : Identifier) → IsNew acc x → (y.text ≡ x.text → ⊥) → IsNew out x
step_new s x n d z c e = elim (step_cases s z c) [
  | inl k ↦ n z k e
  | inr (q, k) ↦ d (subst (λ (w : Identifier). w.text ≡ x.text) (sym q) e)
]

keeps : (xs acc : List Identifier) (x : Identifier) → Contains acc x → Contains (fold with_first acc xs) x
keeps [] acc x c = c
keeps (y ∷ ys) acc x c = keeps ys (with_first acc y) x (step_keeps (step_of acc y) x c)

adds : (xs acc : List Identifier) (x : Identifier) → Rising token_of xs → Contains xs x → IsLeast xs x → IsNew acc x → Contains (fold with_first acc xs) x
unfolding Rising
adds [] acc x r c l n = absurd (none_in x c)
adds (y ∷ ys) acc x r c l n = elim (cases_in y ys x c) [
  | inl e ↦ keeps ys (with_first acc y) x (subst (Contains (with_first acc y)) e (step_adds (step_of acc y) (subst (IsNew acc) (sym e) n)))
  | inr d ↦
      let after = all_in (λ z. y.token < z.token) ys x r.0 d in
      adds ys (with_first acc y) x r.1 d (λ z k e. l z (tail_in y ys z k) e) (step_new (step_of acc y) x n (λ e. let b = l y (head_in y ys) e in omega (arith, b, after)))
]

record IsAdded (acc xs : List Identifier) (x : Identifier) : Type 0 where
  there : Contains xs x
  least : IsLeast xs x
  new : IsNew acc x

later : (acc ys : List Identifier) (y x : Identifier) → IsAdded (with_first acc y) ys x → IsAdded acc (y ∷ ys) x
later acc ys y x a = record {
  there = tail_in y ys x a.there;
  least = λ z c e. elim (cases_in y ys z c) [
    | inl q ↦ absurd (step_has (step_of acc y) (λ w k s. a.new w k (s ∙ subst (λ (u : Identifier). u.text ≡ x.text) (sym q) e)))
    | inr d ↦ a.least z d e
  ];
  new = λ z c e. a.new z (step_keeps (step_of acc y) z c) e;
}

from : (xs acc : List Identifier) (x : Identifier) → Rising token_of xs → Contains (fold with_first acc xs) x → Contains acc x ⊎ IsAdded acc xs x
unfolding Rising
from [] acc x r c = inl c
from (y ∷ ys) acc x r c = elim (from ys (with_first acc y) x r.1 c) [
  | inr a ↦ inr (later acc ys y x a)
  | inl d ↦ elim (step_cases (step_of acc y) x d) [
    | inl k ↦ inl k
    | inr (e, n) ↦ inr (subst (IsAdded acc (y ∷ ys)) e (record {
      there = head_in y ys;
      least = λ z k s. elim (cases_in y ys z k) [
        | inl q ↦ subst (λ (w : Identifier). y.token ≤ w.token) q (omega arith)
        | inr b ↦ let l = all_in (λ (z : Identifier). y.token < z.token) ys z r.0 b in omega (arith, l)
      ];
      new = n;
    }))
  ]
]

step_rises : {acc out : List Identifier} {y : Identifier} → Step acc y out → Rising token_of acc → ((a : Identifier) → Contains acc a → a.token < y.token) → Rising token_of out
unfolding Rising
step_rises (stays n) r h = r
step_rises {acc} {y = y} (grows n) r h = rising_join token_of y.token acc (y ∷ []) (every_in (λ (a : Identifier). a.token < y.token) acc h) (omega arith, tt) r (tt, tt)

rises : (xs acc : List Identifier) → Rising token_of acc → Rising token_of xs → ((a z : Identifier) → Contains acc a → Contains xs z → a.token < z.token) → Rising token_of (fold with_first acc xs)
unfolding Rising
rises [] acc a r h = a
rises (y ∷ ys) acc a r h =
    rises ys (with_first acc y) (step_rises (step_of acc y) a (λ z c. h z y c (head_in y ys))) r.1
    (λ z w c d. elim (step_cases (step_of acc y) z c) [
      | inl k ↦ h z w k (tail_in y ys w d)
      | inr (e, n) ↦ let l = all_in (λ (v : Identifier). y.token < v.token) ys w r.0 d in subst (λ (v : Identifier). v.token < w.token) e l
    ])

-- of a list in the order of tokens

pub firsts_from : (xs : List Identifier) (x : Identifier) → Rising token_of xs → Contains (firsts xs) x → Contains xs x × IsLeast xs x
unfolding firsts
firsts_from xs x r c = elim (from xs [] x r c) [
  | inl d ↦ absurd (none_in x d)
  | inr a ↦ (a.there, a.least)
]

pub firsts_in : (xs : List Identifier) (x : Identifier) → Rising token_of xs → Contains xs x → IsLeast xs x → Contains (firsts xs) x
unfolding firsts
firsts_in xs x r c l = adds xs [] x r c l (λ z k e. none_in z k)

pub firsts_rise : (xs : List Identifier) → Rising token_of xs → Rising token_of (firsts xs)
unfolding firsts Rising
firsts_rise xs r = rises xs [] tt r (λ a z c d. absurd (none_in a c))
