-- the state between the steps of propagation, as it changes
use Rattle.std.proofs.Common.{◌≡◌, ◌⊎◌, inl, inr, ℕ, ◌+◌, ◌*◌, ◌<◌, ◌≤◌, Bool, true, false, not, List, [], ◌∷◌, ◌++◌, length, get_or, refl, sym, ◌∙◌, ap, subst, arith}
use Rattle.std.specs.Prelude.{All, Contains, Some, None}
use Rattle.std.proofs.lemmas.List.{get_or-take, length_push, get_or_default}
use Rattle.std.proofs.lemmas.List.Elements.{All-contains, Contains-get_or}
use Rattle.std.proofs.lemmas.Bool.{cases_lt, true≢false, false≢true}
use Rattle.rr_cnf.specs.Clauses.{Literal, negated, IsWithin}
use Rattle.rr_cnf.specs.Codes.{code_of}
use Rattle.rr_cnf.specs.Partial.{IsFalse, IsUnit, IsQuiet}
use Rattle.rr_trail.specs.Trails.{Entry, Standing, entry, lits, IsTrail, AreForced, Forces, IsCutBack}
use Rattle.rr_watch.specs.Watches.{Named, bare}
use Rattle.rr_watch_lists.specs.WatchLists.{WatchList, IsListed, nobody}
use Rattle.rr_watch_lists.specs.Holdings.{Held, all_numbered, held_at}
use Rattle.rr_watch.specs.Lists.{literal_at, first_of, second_of, wanted, Excuse, Serves, IsLong, IsShort, IsSettled, IsPropagator, IsServed, IsOther}
use Rattle.rr_watch_lists.specs.Lists.{watcher_at, Unlisted, list_at, HasRoom}
use Rattle.rr_trail.proofs.EntryLaws.{entry_old, entry_new, place_cases, place_of, holds_at, AreForced-push, AreForced-take}
use Rattle.rr_trail.proofs.TableLaws.{negated-negated}
use Rattle.rr_watch.proofs.WantLaws.{bare_place, code_same}
use Rattle.rr_watch_lists.proofs.ListLaws.{unlisted_old, unlisted_other, unlisted_length}

pub negated_same : (a b : Literal) → negated a ≡ negated b → a ≡ b
negated_same a b e = sym (negated-negated a) ∙ ap negated e ∙ negated-negated b

not-other : (b : Bool) → b ≡ not b → ⊥
not-other true e = true≢false e
not-other false e = false≢true e

-- no literal is true and false
pub not_both : (t : List Entry) (d : ℕ) → IsTrail t d → (l : Literal) → Contains (lits t) l → Contains (lits t) (negated l) → ⊥
not_both t d tr l a b =
    let p = place_of t l a in
    let q = place_of t (negated l) b in
    let v : (entry t p.0).lit.var ≡ (entry t q.0).lit.var = ap (λ x. x.var) (p.1.1 ∙ refl) ∙ sym (ap (λ x. x.var) q.1.1) in
    elim (cases_lt p.0 q.0) [
      | inl x ↦ tr.apart p.0 q.0 x q.1.0 v
      | inr x ↦ elim (cases_lt q.0 p.0) [
        | inl y ↦ tr.apart q.0 p.0 y p.1.0 (sym v)
        | inr y ↦ (let same : p.0 ≡ q.0 = omega (arith, x, y) in not-other l.negative (ap (λ x. x.negative) (sym p.1.1 ∙ ap (λ i. (entry t i).lit) same ∙ q.1.1)))
      ]
    ]

-- the trail grows by one entry
module _ (t : List Entry) (e : Entry) where
  Excuse-push : (late j : ℕ) (c : List Literal) → j < length t → Excuse t late j c → Excuse (t ++ e ∷ []) late j c
  Excuse-push late j c h x = record {
    place = x.place;
    inside = omega (arith, x.inside, length_push t e);
    member = subst (λ y. Contains c y.lit) (sym (entry_old t e x.place x.inside)) x.member;
    level = λ b. let k = x.level b in omega (arith, k, ap (λ y. y.level) (entry_old t e x.place x.inside), ap (λ y. y.level) (entry_old t e j h));
  }

  Serves-push : (head late : ℕ) (w : Literal) (c : List Literal) → head ≤ length t → Serves t head late w c → Serves (t ++ e ∷ []) head late w c
  Serves-push head late w c le s = λ j h q. let hj : j < length t = omega arith in Excuse-push late j c hj (s j h (ap (λ y. y.lit) (sym (entry_old t e j hj)) ∙ q))

  IsLong-push : (ls : List WatchList) (head late k : ℕ) (h : Held) → head ≤ length t → IsLong t ls head late k h → IsLong (t ++ e ∷ []) ls head late k h
  IsLong-push ls head late k h le x = record {
    placed = x.placed;
    differ = x.differ;
    first_listed = x.first_listed;
    second_listed = x.second_listed;
    first_serves = Serves-push head late (first_of h) h.clause le x.first_serves;
    second_serves = Serves-push head late (second_of h) h.clause le x.second_serves;
  }

  IsSettled-push : (c : List Literal) → IsSettled t c → IsSettled (t ++ e ∷ []) c
  IsSettled-push c x = record {
    place = x.place;
    inside = omega (arith, x.inside, length_push t e);
    member = subst (λ y. Contains c y.lit) (sym (entry_old t e x.place x.inside)) x.member;
    level = ap (λ y. y.level) (entry_old t e x.place x.inside) ∙ x.level;
  }

Serves-late : (t : List Entry) (head late less : ℕ) (w : Literal) (c : List Literal) → less ≤ late → Serves t head late w c → Serves t head less w c
Serves-late t head late less w c le s = λ j h q. let x = s j h q in record { place = x.place; inside = x.inside; member = x.member; level = λ b. x.level (omega arith) }

IsLong-late : (t : List Entry) (ls : List WatchList) (head late less k : ℕ) (h : Held) → less ≤ late → IsLong t ls head late k h → IsLong t ls head less k h
IsLong-late t ls head late less k h le x = record {
  placed = x.placed;
  differ = x.differ;
  first_listed = x.first_listed;
  second_listed = x.second_listed;
  first_serves = Serves-late t head late less (first_of h) h.clause le x.first_serves;
  second_serves = Serves-late t head late less (second_of h) h.clause le x.second_serves;
}

module _ (tr : Standing) (hs : List Held) (ls : List WatchList) (short : List ℕ) (settled head late : ℕ) (p : IsPropagator tr hs ls short settled head late) where
  abbrev t : List Entry
  t = tr.entries

  -- one entry more
  pub State-push : (new : Standing) (e : Entry) (less : ℕ) → new.vars ≡ tr.vars → new.entries ≡ tr.entries ++ e ∷ [] → IsTrail new.entries new.depth → length new.entries ≤ new.vars → IsWithin tr.vars e.lit → e.level ≡ new.depth
      → less ≤ late → ((k : ℕ) → head ≤ k → k < length tr.entries → k < less → (entry tr.entries k).level ≡ new.depth)
      → ((id : ℕ) → e.reason ≡ Some id → (c : List Literal) × (Named (all_numbered hs) id c × Forces (lits tr.entries) c e.lit))
      → IsPropagator new hs ls short settled head less
  State-push new e less v en lawful fits w top le old_pending reason = record {
    sized = p.sized ∙ ap (λ n. 2 * n + 2) (sym v);
    few = p.few;
    lawful = lawful;
    fits = fits;
    most = omega (arith, p.most, v);
    trail_within = λ k h. let b : k < length (t ++ e ∷ []) = subst (λ x. k < length x) en h in
        subst (λ x. IsWithin new.vars (entry x k).lit) (sym en) (subst (λ n. IsWithin n (entry (t ++ e ∷ []) k).lit) (sym v) (elim (place_cases t e k b) [
          | inl i ↦ subst (λ x. IsWithin tr.vars x.lit) (sym (entry_old t e k i)) (p.trail_within k i)
          | inr i ↦ subst (λ x. IsWithin tr.vars x.lit) (sym (ap (entry (t ++ e ∷ [])) i ∙ entry_new t e)) w
        ]));
    forced = subst (AreForced (Named (all_numbered hs))) (sym en) (AreForced-push (Named (all_numbered hs)) t e p.forced reason);
    rising = p.rising;
    within = λ k h. subst (λ n. All (IsWithin n) (held_at hs k).clause) (sym v) (p.within k h);
    keeps = λ k h. elim (p.keeps k h) [
      | inl x ↦ inl (subst (λ y. IsLong y ls head less k (held_at hs k)) (sym en) (IsLong-late (t ++ e ∷ []) ls head late less k (held_at hs k) le (IsLong-push t e ls head late k (held_at hs k) p.seen x)))
      | inr x ↦ inr x
    ];
    listed = p.listed;
    room = p.room;
    shorts = p.shorts;
    settled_few = p.settled_few;
    settled_true = λ s h. subst (λ y. IsSettled y (held_at hs (get_or short s 0)).clause) (sym en) (IsSettled-push t e (held_at hs (get_or short s 0)).clause (p.settled_true s h));
    seen = omega (arith, p.seen, ap length en, length_push t e);
    pending = λ k a h b. let z : k < length (t ++ e ∷ []) = subst (λ x. k < length x) en h in
        subst (λ x. (entry x k).level ≡ new.depth) (sym en) (elim (place_cases t e k z) [
          | inl i ↦ ap (λ x. x.level) (entry_old t e k i) ∙ old_pending k a i b
          | inr i ↦ ap (λ x. x.level) (ap (entry (t ++ e ∷ [])) i ∙ entry_new t e) ∙ top
        ]);
  }

  -- the later levels go
  pub State-back : (new : Standing) (level h l : ℕ) → IsCutBack tr new level → IsTrail new.entries new.depth → length new.entries ≤ new.vars → h ≤ head → h ≤ late → h ≤ length new.entries
      → ((k : ℕ) → h ≤ k → k < length new.entries → k < l → (entry new.entries k).level ≡ new.depth)
      → IsPropagator new hs ls short settled h l
  State-back new level h l b lawful fits le1 le2 le3 rest = record {
    sized = p.sized ∙ ap (λ n. 2 * n + 2) (sym b.vars);
    few = p.few;
    lawful = lawful;
    fits = fits;
    most = omega (arith, p.most, b.vars);
    trail_within = λ k x. subst (λ n. IsWithin n (entry new.entries k).lit) (sym b.vars) (subst (λ y. IsWithin tr.vars y.lit) (sym (same k x)) (p.trail_within k (omega (arith, b.cut.shorter))));
    forced = subst (AreForced (Named (all_numbered hs))) (sym b.cut.front) (AreForced-take (Named (all_numbered hs)) t (length new.entries) b.cut.shorter p.forced);
    rising = p.rising;
    within = λ k x. subst (λ n. All (IsWithin n) (held_at hs k).clause) (sym b.vars) (p.within k x);
    keeps = λ k x. elim (p.keeps k x) [
      | inl y ↦ inl (record {
        placed = y.placed;
        differ = y.differ;
        first_listed = y.first_listed;
        second_listed = y.second_listed;
        first_serves = serves (first_of (held_at hs k)) (held_at hs k).clause y.first_serves;
        second_serves = serves (second_of (held_at hs k)) (held_at hs k).clause y.second_serves;
      })
      | inr y ↦ inr y
    ];
    listed = p.listed;
    room = p.room;
    shorts = p.shorts;
    settled_few = p.settled_few;
    settled_true = λ s x. stays (held_at hs (get_or short s 0)).clause (p.settled_true s x);
    seen = le3;
    pending = rest;
  }
    where
      same : (k : ℕ) → k < length new.entries → entry new.entries k ≡ entry tr.entries k
      same k x = ap (λ y. entry y k) b.cut.front ∙ get_or-take (length new.entries) tr.entries k _ x

      -- what has a level up to this one stays
      inside : (i : ℕ) → i < length tr.entries → (entry tr.entries i).level ≤ level → i < length new.entries
      inside i x y = elim (cases_lt i (length new.entries)) [ inl z ↦ z | inr z ↦ absurd (let q = b.cut.undone i z x in omega (arith, q)) ]

      serves : (w : Literal) (c : List Literal) → Serves tr.entries head late w c → Serves new.entries h l w c
      serves w c s = λ j x q.
          let hj : j < length new.entries = omega arith in
          let e = same j hj in
          let y = s j (omega arith) (ap (λ z. z.lit) (sym e) ∙ q) in
          let low = y.level (omega arith) in
          let here = lawful.below j hj in
          let i : y.place < length new.entries = inside y.place y.inside (omega (arith, low, here, b.depth, ap (λ z. z.level) e)) in
          record {
            place = y.place;
            inside = i;
            member = subst (λ z. Contains c z.lit) (sym (same y.place i)) y.member;
            level = λ x. omega (arith, low, ap (λ z. z.level) e, ap (λ z. z.level) (same y.place i));
          }

      stays : (c : List Literal) → IsSettled tr.entries c → IsSettled new.entries c
      stays c y =
          let i : y.place < length new.entries = inside y.place y.inside (omega (arith, y.level)) in
          record {
            place = y.place;
            inside = i;
            member = subst (λ z. Contains c z.lit) (sym (same y.place i)) y.member;
            level = ap (λ z. z.level) (same y.place i) ∙ y.level;
          }

  -- fewer literals have been seen
  pub State-rewind : (h : ℕ) → h ≤ head → ((k : ℕ) → h ≤ k → k < head → (entry tr.entries k).level ≡ tr.depth) → IsPropagator tr hs ls short settled h late
  State-rewind h le again = record {
    sized = p.sized;
    few = p.few;
    lawful = p.lawful;
    fits = p.fits;
    most = p.most;
    trail_within = p.trail_within;
    forced = p.forced;
    rising = p.rising;
    within = p.within;
    keeps = λ k x. elim (p.keeps k x) [
      | inl y ↦ inl (record {
        placed = y.placed;
        differ = y.differ;
        first_listed = y.first_listed;
        second_listed = y.second_listed;
        first_serves = λ j z q. y.first_serves j (omega arith) q;
        second_serves = λ j z q. y.second_serves j (omega arith) q;
      })
      | inr y ↦ inr y
    ];
    listed = p.listed;
    room = p.room;
    shorts = p.shorts;
    settled_few = p.settled_few;
    settled_true = p.settled_true;
    seen = omega (arith, p.seen);
    pending = λ k a x b. elim (cases_lt k head) [ inl y ↦ again k a y | inr y ↦ p.pending k y x b ];
  }

  -- the short clauses are true for good
  pub State-settle : tr.depth ≡ 0 → ((s : ℕ) → s < length short → (l : Literal) × (Contains (held_at hs (get_or short s 0)).clause l × Contains (lits tr.entries) l)) → IsPropagator tr hs ls short (length short) head late
  State-settle none all = record {
    sized = p.sized;
    few = p.few;
    lawful = p.lawful;
    fits = p.fits;
    most = p.most;
    trail_within = p.trail_within;
    forced = p.forced;
    rising = p.rising;
    within = p.within;
    keeps = p.keeps;
    listed = p.listed;
    room = p.room;
    shorts = p.shorts;
    settled_few = omega arith;
    settled_true = λ s x.
        let a = all s x in
        let q = place_of tr.entries a.0 a.1.1 in
        let low = p.lawful.below q.0 q.1.0 in
        record {
          place = q.0;
          inside = q.1.0;
          member = subst (Contains (held_at hs (get_or short s 0)).clause) (sym q.1.1) a.1.0;
          level = omega (arith, low, none);
        };
    seen = p.seen;
    pending = p.pending;
  }

  -- more room
  pub State-room : (new : List WatchList) (c : List Literal) → HasRoom ls new c → IsPropagator tr hs new short settled head late
  State-room new c r = record {
    sized = r.long ∙ p.sized;
    few = p.few;
    lawful = p.lawful;
    fits = p.fits;
    most = p.most;
    trail_within = p.trail_within;
    forced = p.forced;
    rising = p.rising;
    within = p.within;
    keeps = λ k x. elim (p.keeps k x) [
      | inl y ↦ inl (record {
        placed = y.placed;
        differ = y.differ;
        first_listed = subst (λ e. IsListed e k) (sym (r.entries (code_of (first_of (held_at hs k))))) y.first_listed;
        second_listed = subst (λ e. IsListed e k) (sym (r.entries (code_of (second_of (held_at hs k))))) y.second_listed;
        first_serves = y.first_serves;
        second_serves = y.second_serves;
      })
      | inr y ↦ inr y
    ];
    listed = λ code w m. p.listed code w (subst (λ e. Contains e w) (r.entries code) m);
    room = λ code. let a = p.room code in let b = r.uses code in omega (arith, a, b, ap length (r.entries code));
    shorts = p.shorts;
    settled_few = p.settled_few;
    settled_true = p.settled_true;
    seen = p.seen;
    pending = p.pending;
  }

  -- the next literal has been seen by the clauses that watch its negation
  pub State-next : (q : Literal) → head < length tr.entries → (entry tr.entries head).lit ≡ negated q
      → ((i : ℕ) → i < length (list_at ls (code_of q)).entries → IsServed tr.entries (held_at hs (watcher_at ls q i).place).clause)
      → IsPropagator tr hs ls short settled (head + 1) late
  State-next q inside here all = record {
    sized = p.sized;
    few = p.few;
    lawful = p.lawful;
    fits = p.fits;
    most = p.most;
    trail_within = p.trail_within;
    forced = p.forced;
    rising = p.rising;
    within = p.within;
    keeps = λ k x. elim (p.keeps k x) [
      | inl y ↦ inl (record {
        placed = y.placed;
        differ = y.differ;
        first_listed = y.first_listed;
        second_listed = y.second_listed;
        first_serves = serves k (first_of (held_at hs k)) y.first_listed y.first_serves;
        second_serves = serves k (second_of (held_at hs k)) y.second_listed y.second_serves;
      })
      | inr y ↦ inr y
    ];
    listed = p.listed;
    room = p.room;
    shorts = p.shorts;
    settled_few = p.settled_few;
    settled_true = p.settled_true;
    seen = omega arith;
    pending = λ k a x b. p.pending k (omega arith) x b;
  }
    where
      served : (k : ℕ) → IsListed (list_at ls (code_of q)).entries k → IsServed tr.entries (held_at hs k).clause
      served k m = subst (λ i. IsServed tr.entries (held_at hs i).clause) (ap (λ w. w.place) (get_or_default (list_at ls (code_of q)).entries m.1.0.0 nobody m.0 m.1.0.1 ∙ m.1.0.2) ∙ m.1.1) (all m.1.0.0 m.1.0.1)

      serves : (k : ℕ) (w : Literal) → IsListed (list_at ls (code_of w)).entries k → Serves tr.entries head late w (held_at hs k).clause → Serves tr.entries (head + 1) late w (held_at hs k).clause
      serves k w m s = λ j x e. elim (cases_lt j head) [
        | inl y ↦ s j y e
        | inr y ↦ (let at : j ≡ head = omega arith in
            let same : w ≡ q = negated_same w q (sym e ∙ ap (λ i. (entry tr.entries i).lit) at ∙ here) in
            let f = served k (subst (λ l. IsListed (list_at ls (code_of l)).entries k) same m) in
            let z = place_of tr.entries f.0 f.1.1 in
            record {
              place = z.0;
              inside = z.1.0;
              member = subst (Contains (held_at hs k).clause) (sym z.1.1) f.1.0;
              level = λ b.
                  let low = p.lawful.below z.0 z.1.0 in
                  let top = p.pending head (omega arith) inside (omega arith) in
                  omega (arith, low, top, ap (λ i. (entry tr.entries i).level) at);
            })
      ]

  -- at rest
  pub quiet_at_rest : length tr.entries ≤ head → ((s : ℕ) → s < length short → (l : Literal) × (Contains (held_at hs (get_or short s 0)).clause l × Contains (lits tr.entries) l)) → IsQuiet (bare (all_numbered hs)) (lits tr.entries)
  quiet_at_rest rest shorts c m =
      let k = bare_place hs c m in
      subst (λ x. (IsFalse (lits tr.entries) x → ⊥) × ((l : Literal) → IsUnit (lits tr.entries) x l → ⊥)) k.1.1 (elim (p.keeps k.0 k.1.0) [ inl x ↦ long k.0 x | inr x ↦ brief k.0 x ])
    where
      -- what a false watched literal shows
      shows : (w : Literal) (c : List Literal) → Serves tr.entries head late w c → Contains (lits tr.entries) (negated w) → IsServed tr.entries c
      shows w c s f =
          let j = place_of tr.entries (negated w) f in
          let x = s j.0 (omega (arith, j.1.0)) j.1.1 in
          ((entry tr.entries x.place).lit, (x.member, holds_at tr.entries x.place x.inside))

      member : (xs : List Literal) (i : ℕ) → i < length xs → Contains xs (literal_at xs i)
      member xs i b = Contains-get_or xs i _ b

      long : (k : ℕ) → IsLong tr.entries ls head late k (held_at hs k) → (IsFalse (lits tr.entries) (held_at hs k).clause → ⊥) × ((l : Literal) → IsUnit (lits tr.entries) (held_at hs k).clause l → ⊥)
      long k x =
          let h = held_at hs k in
          let a = member h.clause h.first x.placed.first in
          let b = member h.clause h.second x.placed.second in
          let both = not_both tr.entries tr.depth p.lawful in (
            λ f. let first_false = All-contains (λ (l : Literal). Contains (lits tr.entries) (negated l)) h.clause (first_of h) f a in
                let s = shows (first_of h) h.clause x.first_serves first_false in
                both s.0 s.1.1 (All-contains (λ (l : Literal). Contains (lits tr.entries) (negated l)) h.clause s.0 f s.1.0),
            λ l u. let no : IsServed tr.entries h.clause → ⊥ = λ s. elim (All-contains (λ (m : Literal). (m ≡ l) ⊎ Contains (lits tr.entries) (negated m)) h.clause s.0 u.others s.1.0) [
              | inl e ↦ u.not_true (subst (Contains (lits tr.entries)) e s.1.1)
              | inr g ↦ both s.0 s.1.1 g
            ] in
                elim (All-contains (λ (m : Literal). (m ≡ l) ⊎ Contains (lits tr.entries) (negated m)) h.clause (first_of h) u.others a) [
                  | inl e ↦ elim (All-contains (λ (m : Literal). (m ≡ l) ⊎ Contains (lits tr.entries) (negated m)) h.clause (second_of h) u.others b) [
                    | inl g ↦ x.differ (e ∙ sym g)
                    | inr g ↦ no (shows (second_of h) h.clause x.second_serves g)
                  ]
                  | inr e ↦ no (shows (first_of h) h.clause x.first_serves e)
                ],
          )

      brief : (k : ℕ) → IsShort short k (held_at hs k).clause → (IsFalse (lits tr.entries) (held_at hs k).clause → ⊥) × ((l : Literal) → IsUnit (lits tr.entries) (held_at hs k).clause l → ⊥)
      brief k x =
          let at : get_or short x.listed.0 0 ≡ k = get_or_default short x.listed.0 0 k x.listed.1 ∙ x.listed.2 in
          let s = shorts x.listed.0 x.listed.1 in
          let m : Contains (held_at hs k).clause s.0 = subst (λ i. Contains (held_at hs i).clause s.0) at s.1.0 in (
            λ f. not_both tr.entries tr.depth p.lawful s.0 s.1.1 (All-contains (λ (l : Literal). Contains (lits tr.entries) (negated l)) (held_at hs k).clause s.0 f m),
            λ l u. u.not_true (subst (Contains (lits tr.entries)) (x.alike s.0 l m u.member) s.1.1),
          )

  -- a clause is taken off the list of a literal that it does not watch
  pub State-unlist : (new : List WatchList) (q : Literal) (at : ℕ) → at < length (list_at ls (code_of q)).entries → Unlisted ls new (code_of q) at → IsOther (held_at hs (watcher_at ls q at).place) q None → IsPropagator tr hs new short settled head late
  State-unlist new q at inside r other = record {
    sized = r.long ∙ p.sized;
    few = p.few;
    lawful = p.lawful;
    fits = p.fits;
    most = p.most;
    trail_within = p.trail_within;
    forced = p.forced;
    rising = p.rising;
    within = p.within;
    keeps = λ k x. elim (p.keeps k x) [
      | inl y ↦ inl (record {
        placed = y.placed;
        differ = y.differ;
        first_listed = unlisted_other ls new (code_of q) at r inside (code_of (first_of (held_at hs k))) k (λ e z. code_same (first_of (held_at hs k)) q e (subst (λ i. first_of (held_at hs i) ≡ q → ⊥) z other.0)) y.first_listed;
        second_listed = unlisted_other ls new (code_of q) at r inside (code_of (second_of (held_at hs k))) k (λ e z. code_same (second_of (held_at hs k)) q e (subst (λ i. second_of (held_at hs i) ≡ q → ⊥) z other.1)) y.second_listed;
        first_serves = y.first_serves;
        second_serves = y.second_serves;
      })
      | inr y ↦ inr y
    ];
    listed = λ c w m. p.listed c w (unlisted_old ls new (code_of q) at r inside c w m);
    room = λ c. let a = p.room c in elim (unlisted_length ls new (code_of q) at r inside c) [
      | inl y ↦ omega (arith, a, y.1, y.2)
      | inr y ↦ subst (λ w. length w.entries + wanted hs c ≤ w.uses) (sym y.1) a
    ];
    shorts = p.shorts;
    settled_few = p.settled_few;
    settled_true = p.settled_true;
    seen = p.seen;
    pending = p.pending;
  }

-- a clause whose literals are all false
pub all_false : (held : List Literal) (c : List Literal) (l : Literal) → Forces held c l → Contains held (negated l) → IsFalse held c
all_false held c l f n = λ k d h. elim (f.others k d h) [ inl e ↦ subst (λ m. Contains held (negated m)) (sym e) n | inr e ↦ e ]

pub open_within : (n : ℕ) (c : List Literal) (l : Literal) → All (IsWithin n) c → Contains c l → IsWithin n l
open_within n c l a m = All-contains (IsWithin n) c l a m

pub name_of : (hs : List Held) (i : ℕ) (h : Held) → i < length hs → h ≡ get_or hs i h → (held_at hs i).id ≡ h.id
name_of hs i h b e = ap (λ x. x.id) (sym (e ∙ get_or_default hs i h _ b))

pub held_is : (hs : List Held) (i : ℕ) (h : Held) → i < length hs → h ≡ get_or hs i h → h ≡ held_at hs i
held_is hs i h b e = e ∙ get_or_default hs i h _ b
