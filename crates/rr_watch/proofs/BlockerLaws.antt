-- a clause that stays in a list, with another blocker
use Rattle.std.proofs.Common.{◌≡◌, ◌⊎◌, inl, inr, ℕ, ◌<◌, List, length, get_or, set, sym, ◌∙◌, ap, subst, arith}
use Rattle.std.specs.Prelude.{Contains}
use Rattle.std.proofs.lemmas.List.{length-set, get_or_default, get_or-set_same, get_or-set_other}
use Rattle.std.proofs.lemmas.List.Elements.{Contains-get_or}
use Rattle.std.proofs.lemmas.Bool.{cases_eq}
use Rattle.rr_cnf.specs.Clauses.{Literal}
use Rattle.rr_cnf.specs.Codes.{code_of}
use Rattle.rr_trail.specs.Trails.{Entry, Standing}
use Rattle.rr_watch_lists.specs.WatchLists.{WatchList, IsListed, nobody}
use Rattle.rr_watch_lists.specs.declared.watchers.Watcher.{Watcher}
use Rattle.rr_watch_lists.specs.Holdings.{Held, held_at}
use Rattle.rr_watch.specs.Lists.{IsPropagator, IsServed, IsWatcher, first_of, second_of}
use Rattle.rr_watch_lists.specs.Lists.{Reblocked, list_at, watcher_at}

module _ (ls new : List WatchList) (code at : ℕ) (i : Watcher) (r : Reblocked ls new code at i) (h : at < length (list_at ls code).entries) where
  abbrev old : List Watcher
  old = (list_at ls code).entries

  reblocked_here : get_or (set old at i) at nobody ≡ i
  reblocked_here = get_or-set_same old at i nobody h

  pub reblocked_length : (c : ℕ) → length (list_at new c).entries ≡ length (list_at ls c).entries
  reblocked_length c = elim (cases_eq c code) [
    | inl q ↦ ap (λ x. length (list_at new x).entries) q ∙ ap length r.entries ∙ length-set old at i ∙ ap (λ x. length (list_at ls x).entries) (sym q)
    | inr q ↦ ap (λ x. length x.entries) (r.others c q)
  ]

  pub reblocked_uses : (c : ℕ) → (list_at new c).uses ≡ (list_at ls c).uses
  reblocked_uses c = elim (cases_eq c code) [
    | inl q ↦ ap (λ x. (list_at new x).uses) q ∙ r.uses ∙ ap (λ x. (list_at ls x).uses) (sym q)
    | inr q ↦ ap (λ x. x.uses) (r.others c q)
  ]

  -- the entries are those that were there, and the one that was set
  set_cases : (w : Watcher) → Contains (set old at i) w → Contains old w ⊎ (i ≡ w)
  set_cases w m =
      let e : get_or (set old at i) m.0 nobody ≡ w = get_or_default (set old at i) m.0 nobody w m.1 ∙ m.2 in
      let b : m.0 < length old = omega (arith, m.1, length-set old at i) in
      elim (cases_eq m.0 at) [
        | inl q ↦ inr (sym reblocked_here ∙ ap (λ k. get_or (set old at i) k nobody) (sym q) ∙ e)
        | inr q ↦ inl (subst (Contains old) (sym (get_or-set_other old at m.0 i nobody q) ∙ e) (Contains-get_or old m.0 nobody b))
      ]

  pub reblocked_cases : (c : ℕ) (w : Watcher) → Contains (list_at new c).entries w → Contains (list_at ls c).entries w ⊎ ((c ≡ code) × (i ≡ w))
  reblocked_cases c w m = elim (cases_eq c code) [
    | inl q ↦ elim (set_cases w (subst (λ e. Contains e w) r.entries (subst (λ x. Contains (list_at new x).entries w) q m))) [
      | inl y ↦ inl (subst (λ x. Contains (list_at ls x).entries w) (sym q) y)
      | inr y ↦ inr (q, y)
    ]
    | inr q ↦ inl (subst (λ x. Contains x.entries w) (r.others c q) m)
  ]

  module _ (same : i.place ≡ (get_or (list_at ls code).entries at nobody).place) where
    -- each entry of the list stands for the clause that it stood for
    pub reblocked_place : (k : ℕ) → (get_or (list_at new code).entries k nobody).place ≡ (get_or (list_at ls code).entries k nobody).place
    reblocked_place k = ap (λ e. (get_or e k nobody).place) r.entries ∙ elim (cases_eq k at) [
      | inl q ↦ ap (λ x. (get_or (set old at i) x nobody).place) q ∙ ap (λ w. w.place) reblocked_here ∙ same ∙ ap (λ x. (get_or old x nobody).place) (sym q)
      | inr q ↦ ap (λ w. w.place) (get_or-set_other old at k i nobody q)
    ]

    listed_here : (k : ℕ) → IsListed old k → IsListed (list_at new code).entries k
    listed_here k m =
        let n = m.1.0.0 in
        let b : n < length (list_at new code).entries = omega (arith, m.1.0.1, reblocked_length code) in
        let w = get_or (list_at new code).entries n nobody in
        let was : get_or old n nobody ≡ m.0 = get_or_default old n nobody m.0 m.1.0.1 ∙ m.1.0.2 in
        (w, (Contains-get_or (list_at new code).entries n nobody b, reblocked_place n ∙ ap (λ x. x.place) was ∙ m.1.1))

    pub reblocked_listed : (c k : ℕ) → IsListed (list_at ls c).entries k → IsListed (list_at new c).entries k
    reblocked_listed c k m = elim (cases_eq c code) [
      | inl q ↦ subst (λ x. IsListed (list_at new x).entries k) (sym q) (listed_here k (subst (λ x. IsListed (list_at ls x).entries k) q m))
      | inr q ↦ subst (λ w. IsListed w.entries k) (sym (r.others c q)) m
    ]

-- the state, with another blocker
pub State-block : (tr : Standing) (hs : List Held) (ls : List WatchList) (short : List ℕ) (settled head late : ℕ) → IsPropagator tr hs ls short settled head late
    → (new : List WatchList) (q : Literal) (at : ℕ) (i : Watcher) → at < length (list_at ls (code_of q)).entries → Reblocked ls new (code_of q) at i → i.place ≡ (watcher_at ls q at).place → IsWatcher hs (code_of q) i
    → IsPropagator tr hs new short settled head late
State-block tr hs ls short settled head late p new q at i inside r same on = record {
  sized = r.long ∙ p.sized;
  few = p.few;
  lawful = p.lawful;
  fits = p.fits;
  most = p.most;
  trail_within = p.trail_within;
  forced = p.forced;
  rising = p.rising;
  within = p.within;
  keeps = λ k x. elim (p.keeps k x) [
    | inl y ↦ inl (record {
      placed = y.placed;
      differ = y.differ;
      first_listed = reblocked_listed ls new (code_of q) at i r inside same (code_of (first_of (held_at hs k))) k y.first_listed;
      second_listed = reblocked_listed ls new (code_of q) at i r inside same (code_of (second_of (held_at hs k))) k y.second_listed;
      first_serves = y.first_serves;
      second_serves = y.second_serves;
    })
    | inr y ↦ inr y
  ];
  listed = λ c w m. elim (reblocked_cases ls new (code_of q) at i r inside c w m) [
    | inl y ↦ p.listed c w y
    | inr y ↦ subst (λ v. IsWatcher hs c v) y.1 (subst (λ x. IsWatcher hs x i) (sym y.0) on)
  ];
  room = λ c. let a = p.room c in omega (arith, a, reblocked_length ls new (code_of q) at i r inside c, reblocked_uses ls new (code_of q) at i r inside c);
  shorts = p.shorts;
  settled_few = p.settled_few;
  settled_true = p.settled_true;
  seen = p.seen;
  pending = p.pending;
}

-- what the clauses of the list have seen they have seen still
pub served_blocked : (t : List Entry) (hs : List Held) (ls new : List WatchList) (q : Literal) (at : ℕ) (i : Watcher) → at < length (list_at ls (code_of q)).entries → Reblocked ls new (code_of q) at i → i.place ≡ (watcher_at ls q at).place
    → (n : ℕ) → ((k : ℕ) → k < n → IsServed t (held_at hs (watcher_at ls q k).place).clause) → (k : ℕ) → k < n → IsServed t (held_at hs (watcher_at new q k).place).clause
served_blocked t hs ls new q at i inside r same n f k b = subst (λ x. IsServed t (held_at hs x).clause) (sym (reblocked_place ls new (code_of q) at i r inside same k)) (f k b)
