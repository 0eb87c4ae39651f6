-- lists of watchers that change, and the places and names of the clauses at hand
use Rattle.std.proofs.Common.{◌≡◌, ◌⊎◌, inl, inr, ℕ, ◌+◌, ◌-◌, ◌<◌, ◌≤◌, Bool, true, false, cond, eqb, List, [], ◌∷◌, ◌++◌, length, get_or, set, refl, sym, ◌∙◌, ap, subst, arith}
use Rattle.std.specs.Prelude.{Contains}
use Rattle.std.specs.List.{swap_remove}
use Rattle.std.proofs.Math.Seq.{get_or-append_seam, map-set_same}
use Rattle.std.proofs.lemmas.List.{get_or_append_left, get_or-take, length-take-le, length_push, length-set, map_push, get_or_default, get_or-set_same, get_or-set_other}
use Rattle.std.proofs.lemmas.List.Elements.{Contains-append_left, Contains-push, Contains-push_cases, Contains-get_or}
use Rattle.std.proofs.lemmas.List.Folds.{list_any_at}
use Rattle.std.proofs.lemmas.Bool.{cases_lt, cases_eq, eq-eqb}
use Rattle.rr_cnf.specs.Clauses.{Literal}
use Rattle.rr_cnf.specs.Codes.{code_of}
use Rattle.rr_watch_lists.specs.WatchLists.{WatchList, IsListed, nobody}
use Rattle.rr_watch_lists.specs.declared.watchers.Watcher.{Watcher}
use Rattle.rr_watch_lists.specs.Holdings.{Held, all_numbered, held_at, numbered}
use Rattle.rr_watch_lists.specs.Lists.{Unlisted, Listed, list_at, has}

-- a list without the element at a place, into which the last moves
module _ {X : Type 0} (xs : List X) (at : ℕ) (z : X) (h : at < length xs) where
  abbrev moved : List X
  moved = set xs at (get_or xs (length xs - 1) z)

  length_moved : length moved ≡ length xs
  length_moved = length-set xs at (get_or xs (length xs - 1) z)

  pub length_removed : length (swap_remove xs at z) + 1 ≡ length xs
  length_removed = omega (arith, length-take-le (length xs - 1) moved (omega (arith, length_moved)))

  read_removed : (k : ℕ) → k < length xs - 1 → get_or (swap_remove xs at z) k z ≡ get_or moved k z
  read_removed k b = get_or-take (length xs - 1) moved k z b

  pub removed_before : (k : ℕ) → k < at → get_or (swap_remove xs at z) k z ≡ get_or xs k z
  removed_before k b = read_removed k (omega arith) ∙ get_or-set_other xs at k (get_or xs (length xs - 1) z) z (λ e. omega arith)

  to_contains : (ys : List X) (k : ℕ) (x : X) → k < length ys → get_or ys k z ≡ x → Contains ys x
  to_contains ys k x b e = subst (Contains ys) e (Contains-get_or ys k z b)

  pub removed_other : (x : X) → Contains xs x → (get_or xs at z ≡ x → ⊥) → Contains (swap_remove xs at z) x
  removed_other x c n =
      let e : get_or xs c.0 z ≡ x = get_or_default xs c.0 z x c.1 ∙ c.2 in
      let apart : c.0 ≡ at → ⊥ = λ q. n (ap (λ i. get_or xs i z) (sym q) ∙ e) in
      elim (cases_lt c.0 (length xs - 1)) [
        | inl b ↦ to_contains (swap_remove xs at z) c.0 x (omega (arith, length_removed)) (read_removed c.0 b ∙ get_or-set_other xs at c.0 (get_or xs (length xs - 1) z) z apart ∙ e)
        | inr b ↦ (let last : c.0 ≡ length xs - 1 = omega (arith, c.1) in
            let before : at < length xs - 1 = elim (cases_lt at (length xs - 1)) [ inl y ↦ y | inr y ↦ absurd (apart (omega (arith, c.1))) ] in
            to_contains (swap_remove xs at z) at x (omega (arith, length_removed)) (read_removed at before ∙ get_or-set_same xs at (get_or xs (length xs - 1) z) z h ∙ ap (λ i. get_or xs i z) (sym last) ∙ e))
      ]

  pub removed_old : (x : X) → Contains (swap_remove xs at z) x → Contains xs x
  removed_old x c =
      let b : c.0 < length xs - 1 = omega (arith, length_removed, c.1) in
      let e : get_or moved c.0 z ≡ x = sym (read_removed c.0 b) ∙ get_or_default (swap_remove xs at z) c.0 z x c.1 ∙ c.2 in
      elim (cases_eq c.0 at) [
        | inl q ↦ to_contains xs (length xs - 1) x (omega arith) (sym (get_or-set_same xs at (get_or xs (length xs - 1) z) z h) ∙ ap (λ i. get_or moved i z) (sym q) ∙ e)
        | inr q ↦ to_contains xs c.0 x (omega arith) (sym (get_or-set_other xs at c.0 (get_or xs (length xs - 1) z) z q) ∙ e)
      ]

pub Unlisted-set : (ls : List WatchList) (from at : ℕ) (w old : WatchList) → from < length ls → old ≡ get_or ls from old → w.entries ≡ swap_remove old.entries at nobody → w.uses ≡ old.uses → Unlisted ls (set ls from w) from at
Unlisted-set ls from at w old h e p q =
    let same : list_at (set ls from w) from ≡ w = get_or-set_same ls from w _ h in
    let was : old ≡ list_at ls from = e ∙ get_or_default ls from old _ h in
    record {
      long = length-set ls from w;
      entries = ap (λ x. x.entries) same ∙ p ∙ ap (λ x. swap_remove x.entries at nobody) was;
      uses = ap (λ x. x.uses) same ∙ q ∙ ap (λ x. x.uses) was;
      others = λ c n. get_or-set_other ls from c w _ n;
    }

pub Listed-set : (ls : List WatchList) (to : ℕ) (i : Watcher) (w old : WatchList) → to < length ls → old ≡ get_or ls to old → w.entries ≡ old.entries ++ i ∷ [] → w.uses ≡ old.uses → Listed ls (set ls to w) to i
Listed-set ls to i w old h e p q =
    let same : list_at (set ls to w) to ≡ w = get_or-set_same ls to w _ h in
    let was : old ≡ list_at ls to = e ∙ get_or_default ls to old _ h in
    record {
      long = length-set ls to w;
      entries = ap (λ x. x.entries) same ∙ p ∙ ap (λ x. x.entries ++ i ∷ []) was;
      uses = ap (λ x. x.uses) same ∙ q ∙ ap (λ x. x.uses) was;
      others = λ c n. get_or-set_other ls to c w _ n;
    }

module _ (ls new : List WatchList) (to : ℕ) (i : Watcher) (r : Listed ls new to i) where
  pub listed_more : (c k : ℕ) → IsListed (list_at ls c).entries k → IsListed (list_at new c).entries k
  listed_more c k m = elim (cases_eq c to) [
    | inl q ↦ (let z : Contains (list_at new to).entries m.0 = subst (λ e. Contains e m.0) (sym r.entries) (Contains-append_left (list_at ls to).entries (i ∷ []) m.0 (subst (λ x. Contains (list_at ls x).entries m.0) q m.1.0)) in
        (m.0, (subst (λ x. Contains (list_at new x).entries m.0) (sym q) z, m.1.1)))
    | inr q ↦ subst (λ w. IsListed w.entries k) (sym (r.others c q)) m
  ]

  pub listed_new : IsListed (list_at new to).entries i.place
  listed_new = (i, (subst (λ e. Contains e i) (sym r.entries) (Contains-push (list_at ls to).entries i), refl))

  pub listed_cases : (c : ℕ) (w : Watcher) → Contains (list_at new c).entries w → Contains (list_at ls c).entries w ⊎ ((c ≡ to) × (i ≡ w))
  listed_cases c w m = elim (cases_eq c to) [
    | inl q ↦ elim (Contains-push_cases (list_at ls to).entries i w (subst (λ e. Contains e w) r.entries (subst (λ x. Contains (list_at new x).entries w) q m))) [
      | inl y ↦ inl (subst (λ x. Contains (list_at ls x).entries w) (sym q) y)
      | inr y ↦ inr (q, y)
    ]
    | inr q ↦ inl (subst (λ x. Contains x.entries w) (r.others c q) m)
  ]

  pub listed_length : (c : ℕ) → ((c ≡ to) × (length (list_at new c).entries ≡ length (list_at ls c).entries + 1) × ((list_at new c).uses ≡ (list_at ls c).uses)) ⊎ ((c ≡ to → ⊥) × (list_at new c ≡ list_at ls c))
  listed_length c = elim (cases_eq c to) [
    | inl q ↦ inl (q, ap (λ x. length (list_at new x).entries) q ∙ ap length r.entries ∙ length_push (list_at ls to).entries i ∙ ap (λ x. length (list_at ls x).entries + 1) (sym q), ap (λ x. (list_at new x).uses) q ∙ r.uses ∙ ap (λ x. (list_at ls x).uses) (sym q))
    | inr q ↦ inr (q, r.others c q)
  ]

module _ (ls new : List WatchList) (from at : ℕ) (r : Unlisted ls new from at) (h : at < length (list_at ls from).entries) where
  pub unlisted_old : (c : ℕ) (w : Watcher) → Contains (list_at new c).entries w → Contains (list_at ls c).entries w
  unlisted_old c w m = elim (cases_eq c from) [
    | inl q ↦ subst (λ x. Contains (list_at ls x).entries w) (sym q) (removed_old (list_at ls from).entries at nobody h w (subst (λ e. Contains e w) r.entries (subst (λ x. Contains (list_at new x).entries w) q m)))
    | inr q ↦ subst (λ x. Contains x.entries w) (r.others c q) m
  ]

  -- another clause, or another list
  pub unlisted_other : (c k : ℕ) → ((c ≡ from) → (get_or (list_at ls from).entries at nobody).place ≡ k → ⊥) → IsListed (list_at ls c).entries k → IsListed (list_at new c).entries k
  unlisted_other c k n m = elim (cases_eq c from) [
    | inl q ↦ (m.0, (subst (λ x. Contains (list_at new x).entries m.0) (sym q) (subst (λ e. Contains e m.0) (sym r.entries) (removed_other (list_at ls from).entries at nobody h m.0 (subst (λ x. Contains (list_at ls x).entries m.0) q m.1.0) (λ e. n q (ap (λ w. w.place) e ∙ m.1.1)))), m.1.1))
    | inr q ↦ subst (λ w. IsListed w.entries k) (sym (r.others c q)) m
  ]

  pub unlisted_length : (c : ℕ) → ((c ≡ from) × (length (list_at new c).entries + 1 ≡ length (list_at ls c).entries) × ((list_at new c).uses ≡ (list_at ls c).uses)) ⊎ ((c ≡ from → ⊥) × (list_at new c ≡ list_at ls c))
  unlisted_length c = elim (cases_eq c from) [
    | inl q ↦ inl (q, ap (λ x. length (list_at new x).entries + 1) q ∙ ap (λ e. length e + 1) r.entries ∙ length_removed (list_at ls from).entries at nobody h ∙ ap (λ x. length (list_at ls x).entries) (sym q), ap (λ x. (list_at new x).uses) q ∙ r.uses ∙ ap (λ x. (list_at ls x).uses) (sym q))
    | inr q ↦ inr (q, r.others c q)
  ]

pub unlisted_count : (ls new : List WatchList) (from at : ℕ) → Unlisted ls new from at → at < length (list_at ls from).entries → length (list_at new from).entries + 1 ≡ length (list_at ls from).entries
unlisted_count ls new from at r h = ap (λ e. length e + 1) r.entries ∙ length_removed (list_at ls from).entries at nobody h

-- whether a clause has a literal, as a number
abbrev pub bit : Bool → ℕ
bit b = cond b 1 0

pub bit_le : (b : Bool) → bit b ≤ 1
bit_le true = omega arith
bit_le false = omega arith

pub has_member : (c : List Literal) (l : Literal) → Contains c l → has c (code_of l) ≡ true
has_member c l m = list_any_at (λ x. eqb (code_of x) (code_of l)) c m.0 l m.1 (eq-eqb (code_of (get_or c m.0 l)) (code_of l) (ap code_of m.2))

pub has_bit : (c : List Literal) (l : Literal) → Contains c l → bit (has c (code_of l)) ≡ 1
has_bit c l m = ap bit (has_member c l m)

-- places and names of the clauses at hand
pub held_old : (hs : List Held) (h : Held) (k : ℕ) → k < length hs → held_at (hs ++ h ∷ []) k ≡ held_at hs k
held_old hs h k b = get_or_append_left hs (h ∷ []) _ k b

pub held_new : (hs : List Held) (h : Held) → held_at (hs ++ h ∷ []) (length hs) ≡ h
held_new hs h = get_or-append_seam hs h [] _

pub held_same : (hs : List Held) (i : ℕ) (h : Held) → i < length hs → held_at (set hs i h) i ≡ h
held_same hs i h b = get_or-set_same hs i h _ b

pub held_other : (hs : List Held) (i k : ℕ) (h : Held) → (k ≡ i → ⊥) → held_at (set hs i h) k ≡ held_at hs k
held_other hs i k h n = get_or-set_other hs i k h _ n

pub numbered_set : (hs : List Held) (i : ℕ) (h : Held) → h.id ≡ (held_at hs i).id → h.clause ≡ (held_at hs i).clause → all_numbered (set hs i h) ≡ all_numbered hs
numbered_set hs i h p q = map-set_same numbered hs i h _ (ap (λ x. record { id = x; clause = h.clause }) p ∙ ap (λ x. record { id = (held_at hs i).id; clause = x }) q)

pub numbered_push : (hs : List Held) (h : Held) → all_numbered (hs ++ h ∷ []) ≡ all_numbered hs ++ numbered h ∷ []
numbered_push hs h = map_push numbered hs h
