-- the state between the steps of propagation, as clauses come and watches move
use Rattle.std.proofs.Common.{true, false, ◌≡◌, ◌⊎◌, inl, inr, ℕ, suc, zero, ◌+◌, ◌*◌, ◌<◌, ◌≤◌, List, [], ◌∷◌, ◌++◌, length, get_or, set, refl, sym, ◌∙◌, ap, subst, arith}
use Rattle.std.specs.Prelude.{All, Contains, Some}
use Rattle.std.proofs.lemmas.List.{length_push, length-set, get_or_default, get_or_append_left}
use Rattle.std.proofs.Math.Seq.{get_or-append_seam}
use Rattle.std.proofs.lemmas.List.Elements.{All-get_or, Contains-append_left, Contains-push, Contains-get_or}
use Rattle.std.proofs.lemmas.Bool.{true≢false, cases_lt, cases_eq}
use Rattle.std.proofs.lemmas.List.Sums.{get_or-le-sum_by}
use Rattle.rr_cnf.specs.Clauses.{Literal, negated, IsWithin}
use Rattle.rr_cnf.specs.Codes.{code_of, same_code}
use Rattle.rr_trail.specs.Trails.{Entry, Standing, entry, lits, AreForced, IsTrail}
use Rattle.rr_watch.specs.Watches.{Named}
use Rattle.rr_watch_lists.specs.WatchLists.{WatchList, IsListed, blocker_of, is_brief, nobody}
use Rattle.rr_watch_lists.specs.declared.watchers.Watcher.{Watcher}
use Rattle.rr_watch_lists.specs.Holdings.{Held, all_numbered, held_at, numbered}
use Rattle.rr_watch.specs.Lists.{IsWatcher, AreAlike, literal_at, first_of, second_of, wants, wanted, Serves, IsPlaced, IsLong, IsShort, IsSettled, IsPropagator, IsServed, IsOther, IsReplacement}
use Rattle.rr_watch_lists.specs.Lists.{watcher_at, Unlisted, Listed, list_at, has}
use Rattle.rr_trail.proofs.EntryLaws.{holds_at, AreForced-more}
use Rattle.rr_trail.proofs.LevelLaws.{IsTrail-none}
use Rattle.rr_watch.proofs.WantLaws.{wants_watched, wants_unwatched, wants_least, wants_few, wanted_set, wanted_push, ids_below, code_same}
use Rattle.rr_watch_lists.proofs.ListLaws.{listed_more, listed_new, listed_cases, listed_length, unlisted_old, unlisted_other, unlisted_length, unlisted_count, removed_before, bit_le, has_bit, bit, held_old, held_new, held_same, held_other, numbered_set, numbered_push}

member : (xs : List Literal) (i : ℕ) → i < length xs → Contains xs (literal_at xs i)
member xs i b = Contains-get_or xs i _ b

-- a watch moves from q to the literal at the found place
module _ (tr : Standing) (hs : List Held) (ls : List WatchList) (short : List ℕ) (settled head late : ℕ) (p : IsPropagator tr hs ls short settled head late)
    (middle : List WatchList) (q : Literal) (at i other found : ℕ) (h : Held)
    (inside : at < length (list_at ls (code_of q)).entries)
    (index : i ≡ (watcher_at ls q at).place)
    (is_other : IsOther (held_at hs i) q (Some other))
    (is_found : IsReplacement tr.entries (held_at hs i).clause (literal_at (held_at hs i).clause other) (Some found))
    (next : head < length tr.entries) (falsified : (entry tr.entries head).lit ≡ negated q)
    (id : h.id ≡ (held_at hs i).id) (clause : h.clause ≡ (held_at hs i).clause) (first : h.first ≡ other) (second : h.second ≡ found)
    (off : Unlisted ls middle (code_of q) at) where
  watches : IsWatcher hs (code_of q) (watcher_at ls q at)
  watches = p.listed (code_of q) (watcher_at ls q at) (Contains-get_or (list_at ls (code_of q)).entries at nobody inside)

  pub index_in : i < length hs
  index_in = omega (arith, index, watches.inside)

  placed : IsPlaced (held_at hs i)
  placed = subst (λ k. IsPlaced (held_at hs k)) (sym index) watches.placed

  other_in : other < length (held_at hs i).clause
  other_in = elim is_other [ inl x ↦ subst (λ n. n < length (held_at hs i).clause) (sym x.1) placed.second | inr x ↦ subst (λ n. n < length (held_at hs i).clause) (sym x.1) placed.first ]

  q_in : Contains (held_at hs i).clause q
  q_in = elim is_other [ inl x ↦ subst (Contains (held_at hs i).clause) x.0 (member (held_at hs i).clause (held_at hs i).first placed.first) | inr x ↦ subst (Contains (held_at hs i).clause) x.0 (member (held_at hs i).clause (held_at hs i).second placed.second) ]

  new_first : first_of h ≡ literal_at (held_at hs i).clause other
  new_first = ap (λ c. literal_at c h.first) clause ∙ ap (literal_at (held_at hs i).clause) first

  new_second : second_of h ≡ literal_at (held_at hs i).clause found
  new_second = ap (λ c. literal_at c h.second) clause ∙ ap (literal_at (held_at hs i).clause) second

  long : (IsLong tr.entries ls head late i (held_at hs i) ⊎ IsShort short i (held_at hs i).clause) → IsLong tr.entries ls head late i (held_at hs i)
  long (inl x) = x
  long (inr x) = absurd (is_found.1 (x.alike (literal_at (held_at hs i).clause found) (literal_at (held_at hs i).clause other) (member (held_at hs i).clause found is_found.0) (member (held_at hs i).clause other other_in)))

  was : IsLong tr.entries ls head late i (held_at hs i)
  was = long (p.keeps i index_in)

  -- the other literal is not q
  apart : literal_at (held_at hs i).clause other ≡ q → ⊥
  apart = elim is_other [
    | inl x ↦ (λ e. was.differ (x.0 ∙ sym e ∙ ap (literal_at (held_at hs i).clause) x.1))
    | inr x ↦ (λ e. was.differ (sym (ap (literal_at (held_at hs i).clause) x.1) ∙ e ∙ sym x.0))
  ]

  other_listed : IsListed (list_at ls (code_of (literal_at (held_at hs i).clause other))).entries i
  other_listed = elim is_other [
    | inl x ↦ subst (λ n. IsListed (list_at ls (code_of (literal_at (held_at hs i).clause n))).entries i) (sym x.1) was.second_listed
    | inr x ↦ subst (λ n. IsListed (list_at ls (code_of (literal_at (held_at hs i).clause n))).entries i) (sym x.1) was.first_listed
  ]

  -- once it is seen that the other is false, a literal of the clause is true
  other_serves : Serves tr.entries head late (literal_at (held_at hs i).clause other) (held_at hs i).clause
  other_serves = elim is_other [
    | inl x ↦ subst (λ n. Serves tr.entries head late (literal_at (held_at hs i).clause n) (held_at hs i).clause) (sym x.1) was.second_serves
    | inr x ↦ subst (λ n. Serves tr.entries head late (literal_at (held_at hs i).clause n) (held_at hs i).clause) (sym x.1) was.first_serves
  ]

  q_false : Contains (lits tr.entries) (negated q)
  q_false = subst (Contains (lits tr.entries)) falsified (holds_at tr.entries head next)

  -- the found literal is not q
  found_apart : literal_at (held_at hs i).clause found ≡ q → ⊥
  found_apart e = is_found.2 (subst (λ m. Contains (lits tr.entries) (negated m)) (sym e) q_false)

  -- what the clauses are, but for the watched places
  same_id : (k : ℕ) → (held_at (set hs i h) k).id ≡ (held_at hs k).id
  same_id k = elim (cases_eq k i) [
    | inl e ↦ ap (λ x. (held_at (set hs i h) x).id) e ∙ ap (λ x. x.id) (held_same hs i h index_in) ∙ id ∙ ap (λ x. (held_at hs x).id) (sym e)
    | inr e ↦ ap (λ x. x.id) (held_other hs i k h e)
  ]

  same_clause : (k : ℕ) → (held_at (set hs i h) k).clause ≡ (held_at hs k).clause
  same_clause k = elim (cases_eq k i) [
    | inl e ↦ ap (λ x. (held_at (set hs i h) x).clause) e ∙ ap (λ x. x.clause) (held_same hs i h index_in) ∙ clause ∙ ap (λ x. (held_at hs x).clause) (sym e)
    | inr e ↦ ap (λ x. x.clause) (held_other hs i k h e)
  ]

  pub rewatch_numbered : all_numbered (set hs i h) ≡ all_numbered hs
  rewatch_numbered = numbered_set hs i h id clause

  has_found : bit (has (held_at hs i).clause (code_of (literal_at (held_at hs i).clause found))) ≡ 1
  has_found = has_bit (held_at hs i).clause (literal_at (held_at hs i).clause found) (member (held_at hs i).clause found is_found.0)

  -- the watched literals before are q and the other one
  watched_cases : (m : Literal) → (first_of (held_at hs i) ≡ m) ⊎ (second_of (held_at hs i) ≡ m) → (m ≡ q) ⊎ (m ≡ literal_at (held_at hs i).clause other)
  watched_cases m w = elim is_other [
    | inl x ↦ elim w [ inl e ↦ inl (sym e ∙ x.0) | inr e ↦ inr (sym e ∙ ap (literal_at (held_at hs i).clause) (sym x.1)) ]
    | inr x ↦ elim w [ inl e ↦ inr (sym e ∙ ap (literal_at (held_at hs i).clause) (sym x.1)) | inr e ↦ inl (sym e ∙ x.0) ]
  ]

  q_watched : (code_of (first_of (held_at hs i)) ≡ code_of q) ⊎ (code_of (second_of (held_at hs i)) ≡ code_of q)
  q_watched = elim is_other [ inl x ↦ inl (ap code_of x.0) | inr x ↦ inr (ap code_of x.0) ]

  -- the wish for the found literal before
  wants_found : wants (code_of (literal_at (held_at hs i).clause found)) (held_at hs i) ≡ 1
  wants_found = wants_unwatched (code_of (literal_at (held_at hs i).clause found)) (held_at hs i) (λ e. not_watched (first_of (held_at hs i)) (inl refl) e) (λ e. not_watched (second_of (held_at hs i)) (inr refl) e) ∙ has_found
    where
      not_watched : (m : Literal) → (first_of (held_at hs i) ≡ m) ⊎ (second_of (held_at hs i) ≡ m) → code_of m ≡ code_of (literal_at (held_at hs i).clause found) → ⊥
      not_watched m w e = code_same m (literal_at (held_at hs i).clause found) e (λ z. elim (watched_cases m w) [ inl y ↦ found_apart (sym z ∙ y) | inr y ↦ is_found.1 (sym z ∙ y) ])

  -- elsewhere no wish is new
  wants_else : (c : ℕ) → (c ≡ code_of q → ⊥) → wants c h ≤ wants c (held_at hs i)
  wants_else c n = elim (cases_eq (code_of (first_of h)) c) [
    | inl e ↦ (let z = wants_watched c h (inl e) in omega (arith, z))
    | inr e ↦ elim (cases_eq (code_of (second_of h)) c) [
      | inl g ↦ (let z = wants_watched c h (inr g) in omega (arith, z))
      | inr g ↦ (let new_wish : wants c h ≤ bit (has (held_at hs i).clause c) = subst (λ x. wants c h ≤ bit (has x c)) clause (wants_least c h) in
          let none : (m : Literal) → (first_of (held_at hs i) ≡ m) ⊎ (second_of (held_at hs i) ≡ m) → code_of m ≡ c → ⊥ =
          λ m w y. elim (watched_cases m w) [ inl x ↦ n (sym y ∙ ap code_of x) | inr x ↦ e (ap code_of (new_first ∙ sym x) ∙ y) ] in
          let old_wish = wants_unwatched c (held_at hs i) (none (first_of (held_at hs i)) (inl refl)) (none (second_of (held_at hs i)) (inr refl)) in
          omega (arith, new_wish, old_wish))
    ]
  ]

  away : code_of q ≡ code_of (literal_at (held_at hs i).clause found) → ⊥
  away e = code_same (literal_at (held_at hs i).clause found) q (sym e) found_apart

  pub rewatch_room : length (list_at middle (code_of (literal_at (held_at hs i).clause found))).entries < (list_at middle (code_of (literal_at (held_at hs i).clause found))).uses
  rewatch_room =
      let same = off.others (code_of (literal_at (held_at hs i).clause found)) (λ e. away (sym e)) in
      let r = p.room (code_of (literal_at (held_at hs i).clause found)) in
      let one : wants (code_of (literal_at (held_at hs i).clause found)) (held_at hs i) ≤ wanted hs (code_of (literal_at (held_at hs i).clause found)) = get_or-le-sum_by (wants (code_of (literal_at (held_at hs i).clause found))) hs i _ index_in in
      omega (arith, r, one, wants_found, ap (λ x. length x.entries) same, ap (λ x. x.uses) same)

  module _ (new : List WatchList) (w : Watcher) (on : Listed middle new (code_of (literal_at (held_at hs i).clause found)) w)
      (w_place : w.place ≡ i) (w_blocker : blocker_of w ≡ literal_at (held_at hs i).clause other) (w_long : is_brief w ≡ false) where
    now_listed : (c k : ℕ) → (c ≡ code_of q → i ≡ k → ⊥) → IsListed (list_at ls c).entries k → IsListed (list_at new c).entries k
    now_listed c k n m = listed_more middle new _ w on c k (unlisted_other ls middle (code_of q) at off inside c k (λ e z. n e (index ∙ z)) m)

    IsLong-now : IsLong tr.entries new head late i h
    IsLong-now = record {
      placed = record { few = subst (λ c. length c ≤ 4294967295) (sym clause) placed.few; first = subst (λ n. n < length h.clause) (sym first) (subst (λ c. other < length c) (sym clause) other_in); second = subst (λ n. n < length h.clause) (sym second) (subst (λ c. found < length c) (sym clause) is_found.0) };
      differ = λ e. is_found.1 (sym new_second ∙ sym e ∙ new_first);
      first_listed = subst (λ m. IsListed (list_at new (code_of m)).entries i) (sym new_first) (now_listed (code_of (literal_at (held_at hs i).clause other)) i (λ e z. code_same (literal_at (held_at hs i).clause other) q e apart) other_listed);
      second_listed = subst (λ m. IsListed (list_at new (code_of m)).entries i) (sym new_second) (subst (IsListed (list_at new (code_of (literal_at (held_at hs i).clause found))).entries) w_place (listed_new middle new _ w on));
      first_serves = subst (λ m. Serves tr.entries head late m h.clause) (sym new_first) (subst (Serves tr.entries head late (literal_at (held_at hs i).clause other)) (sym clause) other_serves);
      second_serves = λ j x e. absurd (is_found.2 (subst (Contains (lits tr.entries)) (e ∙ ap negated new_second) (holds_at tr.entries j (omega (arith, p.seen)))));
    }

    room_now : (c : ℕ) → length (list_at new c).entries + wanted (set hs i h) c ≤ (list_at new c).uses
    room_now c =
        let more = wanted_set hs i c h index_in in
        let was_room = p.room c in
        elim (listed_length middle new (code_of (literal_at (held_at hs i).clause found)) w on c) [
          | inl x ↦ elim (unlisted_length ls middle (code_of q) at off inside c) [
            | inl y ↦ absurd (code_same (literal_at (held_at hs i).clause found) q (sym x.0 ∙ y.0) found_apart)
            | inr y ↦ (let none = wants_watched c h (inr (ap code_of new_second ∙ sym x.0)) in
                let one = ap (λ z. wants z (held_at hs i)) x.0 ∙ wants_found in
                let len = ap (λ z. length z.entries) y.1 in
                let uses1 = ap (λ z. z.uses) y.1 in
                omega (arith, more, was_room, x.1, x.2, none, one, len, uses1))
          ]
          | inr x ↦ (let len2 = ap (λ z. length z.entries) x.1 in
              let uses2 = ap (λ z. z.uses) x.1 in
              elim (unlisted_length ls middle (code_of q) at off inside c) [
                | inl y ↦ (let few = wants_few c h in
                    let zero_wish = ap (λ z. wants z (held_at hs i)) y.0 ∙ wants_watched (code_of q) (held_at hs i) q_watched in
                    omega (arith, more, was_room, y.1, y.2, few, zero_wish, len2, uses2))
                | inr y ↦ (let less = wants_else c y.0 in
                    let len = ap (λ z. length z.entries) y.1 in
                    let uses1 = ap (λ z. z.uses) y.1 in
                    omega (arith, more, was_room, less, len, uses1, len2, uses2))
              ])
        ]

    pub State-rewatch : IsPropagator tr (set hs i h) new short settled head late
    State-rewatch = record {
      sized = on.long ∙ off.long ∙ p.sized;
      few = omega (arith, p.few, length-set hs i h);
      lawful = p.lawful;
      fits = p.fits;
      most = p.most;
      trail_within = p.trail_within;
      forced = subst (λ n. AreForced (Named n) tr.entries) (sym rewatch_numbered) p.forced;
      rising = λ j k a b. let z = p.rising j k a (omega (arith, length-set hs i h)) in omega (arith, z, same_id j, same_id k);
      within = λ k b. subst (λ c. All (IsWithin tr.vars) c) (sym (same_clause k)) (p.within k (omega (arith, length-set hs i h)));
      keeps = λ k b. let bk : k < length hs = omega (arith, length-set hs i h) in elim (cases_eq k i) [
        | inl e ↦ inl (subst (λ x. IsLong tr.entries new head late x (held_at (set hs i h) x)) (sym e) (subst (IsLong tr.entries new head late i) (sym (held_same hs i h index_in)) IsLong-now))
        | inr e ↦ subst (λ x. IsLong tr.entries new head late k x ⊎ IsShort short k x.clause) (sym (held_other hs i k h e)) (elim (p.keeps k bk) [
          | inl y ↦ inl (record {
            placed = y.placed;
            differ = y.differ;
            first_listed = now_listed (code_of (first_of (held_at hs k))) k (λ z x. e (sym x)) y.first_listed;
            second_listed = now_listed (code_of (second_of (held_at hs k))) k (λ z x. e (sym x)) y.second_listed;
            first_serves = y.first_serves;
            second_serves = y.second_serves;
          })
          | inr y ↦ inr y
        ])
      ];
      listed = λ c v m. elim (listed_cases middle new _ w on c v m) [
        | inl x ↦ stays c v (p.listed c v (unlisted_old ls middle (code_of q) at off inside c v x))
        | inr x ↦ subst (IsWatcher (set hs i h) c) x.1 (here c)
      ];
      room = room_now;
      shorts = λ s b. let z = p.shorts s b in (omega (arith, z.0, length-set hs i h), subst AreAlike (sym (same_clause (get_or short s 0))) z.1);
      settled_few = p.settled_few;
      settled_true = λ s b. subst (IsSettled tr.entries) (sym (same_clause (get_or short s 0))) (p.settled_true s b);
      seen = p.seen;
      pending = p.pending;
    }
      where
        placed_now : (k : ℕ) → IsPlaced (held_at hs k) → IsPlaced (held_at (set hs i h) k)
        placed_now k x = elim (cases_eq k i) [
          | inl e ↦ subst (λ j. IsPlaced (held_at (set hs i h) j)) (sym e) (subst IsPlaced (sym (held_same hs i h index_in)) IsLong-now.placed)
          | inr e ↦ subst IsPlaced (sym (held_other hs i k h e)) x
        ]

        stays : (c : ℕ) (v : Watcher) → IsWatcher hs c v → IsWatcher (set hs i h) c v
        stays c v x = record {
          inside = omega (arith, x.inside, length-set hs i h);
          placed = placed_now v.place x.placed;
          member = subst (λ y. Contains y (blocker_of v)) (sym (same_clause v.place)) x.member;
          brief = λ b. subst (λ y. All (λ (m : Literal). (code_of m ≡ c) ⊎ (m ≡ blocker_of v)) y) (sym (same_clause v.place)) (x.brief b);
        }

        here : (c : ℕ) → IsWatcher (set hs i h) c w
        here c = record {
          inside = omega (arith, index_in, w_place, length-set hs i h);
          placed = placed_now w.place (subst (λ k. IsPlaced (held_at hs k)) (sym w_place) placed);
          member = subst (λ y. Contains y (blocker_of w)) (sym (same_clause w.place)) (subst (λ k. Contains (held_at hs k).clause (blocker_of w)) (sym w_place) (subst (Contains (held_at hs i).clause) (sym w_blocker) (member (held_at hs i).clause other other_in)));
          brief = λ b. absurd (true≢false (sym b ∙ w_long));
        }

    pub rewatch_length : length (list_at new (code_of q)).entries + 1 ≡ length (list_at ls (code_of q)).entries
    rewatch_length = ap (λ w. length w.entries + 1) (on.others (code_of q) away) ∙ unlisted_count ls middle (code_of q) at off inside

    pub rewatch_served : ((j : ℕ) → j < at → IsServed tr.entries (held_at hs (watcher_at ls q j).place).clause) → (j : ℕ) → j < at → IsServed tr.entries (held_at (set hs i h) (watcher_at new q j).place).clause
    rewatch_served f j b =
        let same = ap (λ x. get_or x.entries j nobody) (on.others (code_of q) away) ∙ ap (λ e. get_or e j nobody) off.entries ∙ removed_before (list_at ls (code_of q)).entries at nobody inside j b in
        subst (λ v. IsServed tr.entries (held_at (set hs i h) v.place).clause) (sym same) (subst (IsServed tr.entries) (sym (same_clause (watcher_at ls q j).place)) (f j b))

-- the clauses before the place of one that was taken off the list
pub served_unlisted : (t : List Entry) (hs : List Held) (ls new : List WatchList) (q : Literal) (at : ℕ) → at < length (list_at ls (code_of q)).entries → Unlisted ls new (code_of q) at
    → ((i : ℕ) → i < at → IsServed t (held_at hs (watcher_at ls q i).place).clause) → (i : ℕ) → i < at → IsServed t (held_at hs (watcher_at new q i).place).clause
served_unlisted t hs ls new q at inside r f i b =
    subst (λ w. IsServed t (held_at hs w.place).clause) (sym (ap (λ e. get_or e i nobody) r.entries ∙ removed_before (list_at ls (code_of q)).entries at nobody inside i b)) (f i b)

-- a literal's lists are there
pub code_in : (n : ℕ) (l : Literal) → IsWithin n l → code_of l < 2 * n + 2
code_in n l w = omega (arith, w.1, bit_le l.negative)

-- a clause comes
module _ (tr : Standing) (hs : List Held) (ls : List WatchList) (short : List ℕ) (settled head late : ℕ) (p : IsPropagator tr hs ls short settled head late)
    (h : Held) (few : length hs < 4294967295) (above : All (λ n. n.id < h.id) (all_numbered hs)) (within : All (IsWithin tr.vars) h.clause) where
  more : (id : ℕ) (c : List Literal) → Named (all_numbered hs) id c → Named (all_numbered (hs ++ h ∷ [])) id c
  more id c m = subst (λ n. Named n id c) (sym (numbered_push hs h)) (Contains-append_left (all_numbered hs) (numbered h ∷ []) _ m)

  was_or_new : (k : ℕ) → k < length (hs ++ h ∷ []) → (k < length hs) ⊎ (k ≡ length hs)
  was_or_new k b = elim (cases_lt k (length hs)) [ inl x ↦ inl x | inr x ↦ inr (omega (arith, length_push hs h)) ]

  new_at : (k : ℕ) → k ≡ length hs → held_at (hs ++ h ∷ []) k ≡ h
  new_at k e = ap (held_at (hs ++ h ∷ [])) e ∙ held_new hs h

  rising_now : (j k : ℕ) → j < k → k < length (hs ++ h ∷ []) → (held_at (hs ++ h ∷ []) j).id < (held_at (hs ++ h ∷ []) k).id
  rising_now j k a b = elim (was_or_new k b) [
    | inl x ↦ (let z = p.rising j k a x in omega (arith, z, ap (λ y. y.id) (held_old hs h j (omega arith)), ap (λ y. y.id) (held_old hs h k x)))
    | inr x ↦ (let z = ids_below hs h.id j above (omega arith) in omega (arith, z, ap (λ y. y.id) (held_old hs h j (omega arith)), ap (λ y. y.id) (new_at k x)))
  ]

  within_now : (k : ℕ) → k < length (hs ++ h ∷ []) → All (IsWithin tr.vars) (held_at (hs ++ h ∷ []) k).clause
  within_now k b = elim (was_or_new k b) [
    | inl x ↦ subst (λ y. All (IsWithin tr.vars) y.clause) (sym (held_old hs h k x)) (p.within k x)
    | inr x ↦ subst (λ y. All (IsWithin tr.vars) y.clause) (sym (new_at k x)) within
  ]

  watcher_more : (c : ℕ) (v : Watcher) → IsWatcher hs c v → IsWatcher (hs ++ h ∷ []) c v
  watcher_more c v x = record {
    inside = omega (arith, x.inside, length_push hs h);
    placed = subst IsPlaced (sym (held_old hs h v.place x.inside)) x.placed;
    member = subst (λ y. Contains y.clause (blocker_of v)) (sym (held_old hs h v.place x.inside)) x.member;
    brief = λ b. subst (λ y. All (λ (m : Literal). (code_of m ≡ c) ⊎ (m ≡ blocker_of v)) y.clause) (sym (held_old hs h v.place x.inside)) (x.brief b);
  }

  watcher_new : (c : ℕ) (v : Watcher) → v.place ≡ length hs → IsPlaced h → Contains h.clause (blocker_of v) → (is_brief v ≡ true → All (λ m. (code_of m ≡ c) ⊎ (m ≡ blocker_of v)) h.clause) → IsWatcher (hs ++ h ∷ []) c v
  watcher_new c v e placed m f = record {
    inside = omega (arith, e, length_push hs h);
    placed = subst IsPlaced (sym (new_at v.place e)) placed;
    member = subst (λ y. Contains y.clause (blocker_of v)) (sym (new_at v.place e)) m;
    brief = λ b. subst (λ y. All (λ (m : Literal). (code_of m ≡ c) ⊎ (m ≡ blocker_of v)) y.clause) (sym (new_at v.place e)) (f b);
  }

  -- what the earlier clauses have seen, where a clause comes that watches two literals
  pub seen_held : (middle new : List WatchList) (v w : Watcher) (m n : ℕ) → Listed ls middle m v → Listed middle new n w → (late head k : ℕ) → k < length hs
      → IsLong tr.entries ls head late k (held_at hs k) ⊎ IsShort short k (held_at hs k).clause
      → IsLong tr.entries new head late k (held_at (hs ++ h ∷ []) k) ⊎ IsShort short k (held_at (hs ++ h ∷ []) k).clause
  seen_held middle new v w m n a b late head k y x = subst (λ z. IsLong tr.entries new head late k z ⊎ IsShort short k z.clause) (sym (held_old hs h k y)) (elim x [
    | inl z ↦ inl (record {
      placed = z.placed;
      differ = z.differ;
      first_listed = stays (code_of (first_of (held_at hs k))) z.first_listed;
      second_listed = stays (code_of (second_of (held_at hs k))) z.second_listed;
      first_serves = z.first_serves;
      second_serves = z.second_serves;
    })
    | inr z ↦ inr z
  ])
    where
      stays : (c : ℕ) → IsListed (list_at ls c).entries k → IsListed (list_at new c).entries k
      stays c i = listed_more middle new n w b c k (listed_more ls middle m v a c k i)

  -- and one that watches nothing
  pub seen_short : (late head k : ℕ) → k < length hs
      → IsLong tr.entries ls head late k (held_at hs k) ⊎ IsShort short k (held_at hs k).clause
      → IsLong tr.entries ls head late k (held_at (hs ++ h ∷ []) k) ⊎ IsShort (short ++ length hs ∷ []) k (held_at (hs ++ h ∷ []) k).clause
  seen_short late head k y x = subst (λ z. IsLong tr.entries ls head late k z ⊎ IsShort (short ++ length hs ∷ []) k z.clause) (sym (held_old hs h k y)) (elim x [
    | inl z ↦ inl z
    | inr z ↦ inr (record { alike = z.alike; listed = Contains-append_left short (length hs ∷ []) k z.listed })
  ])

  -- a clause that watches two literals
  pub State-hold : (middle new : List WatchList) (v w : Watcher) → IsPlaced h → (first_of h ≡ second_of h → ⊥) → Serves tr.entries head late (first_of h) h.clause → Serves tr.entries head late (second_of h) h.clause
      → ((c : ℕ) → length (list_at ls c).entries + (wanted hs c + bit (has h.clause c)) ≤ (list_at ls c).uses)
      → Listed ls middle (code_of (first_of h)) v → Listed middle new (code_of (second_of h)) w
      → v.place ≡ length hs → w.place ≡ length hs → blocker_of v ≡ second_of h → blocker_of w ≡ first_of h
      → (is_brief v ≡ true → length h.clause ≡ 2) → (is_brief w ≡ true → length h.clause ≡ 2)
      → IsPropagator tr (hs ++ h ∷ []) new short settled head late
  State-hold middle new v w placed differ one two spare a b v_place w_place v_blocker w_blocker v_brief w_brief = record {
    sized = b.long ∙ a.long ∙ p.sized;
    few = omega (arith, few, length_push hs h);
    lawful = p.lawful;
    fits = p.fits;
    most = p.most;
    trail_within = p.trail_within;
    forced = AreForced-more (Named (all_numbered hs)) (Named (all_numbered (hs ++ h ∷ []))) more tr.entries p.forced;
    rising = rising_now;
    within = within_now;
    keeps = λ k x. elim (was_or_new k x) [
      | inl y ↦ seen_held middle new v w (code_of (first_of h)) (code_of (second_of h)) a b late head k y (p.keeps k y)
      | inr y ↦ inl (subst (IsLong tr.entries new head late k) (sym (new_at k y)) (record {
        placed = placed;
        differ = differ;
        first_listed = subst (IsListed (list_at new (code_of (first_of h))).entries) (v_place ∙ sym y) (listed_more middle new (code_of (second_of h)) w b (code_of (first_of h)) v.place (listed_new ls middle (code_of (first_of h)) v a));
        second_listed = subst (IsListed (list_at new (code_of (second_of h))).entries) (w_place ∙ sym y) (listed_new middle new (code_of (second_of h)) w b);
        first_serves = one;
        second_serves = two;
      }))
    ];
    listed = λ c x m. elim (listed_cases middle new (code_of (second_of h)) w b c x m) [
      | inl y ↦ elim (listed_cases ls middle (code_of (first_of h)) v a c x y) [
        | inl z ↦ watcher_more c x (p.listed c x z)
        | inr z ↦ subst (IsWatcher (hs ++ h ∷ []) c) z.1 (subst (λ n. IsWatcher (hs ++ h ∷ []) n v) (sym z.0) (watcher_new (code_of (first_of h)) v v_place placed (subst (Contains h.clause) (sym v_blocker) (member h.clause h.second placed.second)) (λ q. pair (first_of h) (blocker_of v) (λ k i l. subst (λ n. (code_of (literal_at h.clause k) ≡ code_of (first_of h)) ⊎ (literal_at h.clause k ≡ n)) (sym v_blocker) (two_places k i l)) (v_brief q))))
      ]
      | inr z ↦ subst (IsWatcher (hs ++ h ∷ []) c) z.1 (subst (λ n. IsWatcher (hs ++ h ∷ []) n w) (sym z.0) (watcher_new (code_of (second_of h)) w w_place placed (subst (Contains h.clause) (sym w_blocker) (member h.clause h.first placed.first)) (λ q. pair (second_of h) (blocker_of w) (λ k i l. subst (λ n. (code_of (literal_at h.clause k) ≡ code_of (second_of h)) ⊎ (literal_at h.clause k ≡ n)) (sym w_blocker) (other_way k (two_places k i l))) (w_brief q))))
    ];
    room = λ c. room_now c;
    shorts = λ s x. let z = p.shorts s x in (omega (arith, z.0, length_push hs h), subst (λ y. AreAlike y.clause) (sym (held_old hs h (get_or short s 0) z.0)) z.1);
    settled_few = p.settled_few;
    settled_true = λ s x. let z = (p.shorts s (omega (arith, p.settled_few))).0 in subst (λ y. IsSettled tr.entries y.clause) (sym (held_old hs h (get_or short s 0) z)) (p.settled_true s x);
    seen = p.seen;
    pending = p.pending;
  }
    where
      apart : h.first ≡ h.second → ⊥
      apart e = differ (ap (literal_at h.clause) e)

      -- in a clause of two literals there is no third place
      two_places : (k : ℕ) → k < length h.clause → length h.clause ≡ 2 → (code_of (literal_at h.clause k) ≡ code_of (first_of h)) ⊎ (literal_at h.clause k ≡ second_of h)
      two_places k i l = elim (cases_eq k h.first) [
        | inl e ↦ inl (ap (λ n. code_of (literal_at h.clause n)) e)
        | inr e ↦ inr (ap (literal_at h.clause) (elim (cases_eq k h.second) [
          | inl f ↦ f
          | inr f ↦ (let x = placed.first in let y = placed.second in absurd (elim (cases_eq h.first h.second) [ inl g ↦ apart g | inr g ↦ omega (arith, i, l, x, y, e, f, g) ]))
        ]))
      ]

      other_way : (k : ℕ) → (code_of (literal_at h.clause k) ≡ code_of (first_of h)) ⊎ (literal_at h.clause k ≡ second_of h) → (code_of (literal_at h.clause k) ≡ code_of (second_of h)) ⊎ (literal_at h.clause k ≡ first_of h)
      other_way k (inl e) = inr (same_code (literal_at h.clause k) (first_of h) e)
      other_way k (inr e) = inl (ap code_of e)

      pair : (l m : Literal) → ((k : ℕ) → k < length h.clause → length h.clause ≡ 2 → (code_of (literal_at h.clause k) ≡ code_of l) ⊎ (literal_at h.clause k ≡ m)) → length h.clause ≡ 2 → All (λ x. (code_of x ≡ code_of l) ⊎ (x ≡ m)) h.clause
      pair l m f e = λ k d i. subst (λ x. (code_of x ≡ code_of l) ⊎ (x ≡ m)) (get_or_default h.clause k (record { var = 0; negative = false }) d i) (f k i e)

      room_now : (c : ℕ) → length (list_at new c).entries + wanted (hs ++ h ∷ []) c ≤ (list_at new c).uses
      room_now c =
          let more = wanted_push hs c h in
          let s = spare c in
          elim (listed_length middle new (code_of (second_of h)) w b c) [
            | inl x ↦ elim (listed_length ls middle (code_of (first_of h)) v a c) [
              | inl y ↦ absurd (code_same (first_of h) (second_of h) (sym y.0 ∙ x.0) differ)
              | inr y ↦ (let none = wants_watched c h (inr (sym x.0)) in
                  let one_more = ap (λ z. bit (has h.clause z)) x.0 ∙ has_bit h.clause (second_of h) (member h.clause h.second placed.second) in
                  omega (arith, more, s, x.1, x.2, none, one_more, ap (λ z. length z.entries) y.1, ap (λ z. z.uses) y.1))
            ]
            | inr x ↦ (let len2 = ap (λ z. length z.entries) x.1 in
                let uses2 = ap (λ z. z.uses) x.1 in
                elim (listed_length ls middle (code_of (first_of h)) v a c) [
                  | inl y ↦ (let none = wants_watched c h (inl (sym y.0)) in
                      let one_more = ap (λ z. bit (has h.clause z)) y.0 ∙ has_bit h.clause (first_of h) (member h.clause h.first placed.first) in
                      omega (arith, more, s, y.1, y.2, none, one_more, len2, uses2))
                  | inr y ↦ (let least = wants_least c h in
                      omega (arith, more, s, least, len2, uses2, ap (λ z. length z.entries) y.1, ap (λ z. z.uses) y.1))
                ])
          ]

  -- a clause that watches nothing
  pub State-short : AreAlike h.clause
      → ((c : ℕ) → length (list_at ls c).entries + (wanted hs c + bit (has h.clause c)) ≤ (list_at ls c).uses)
      → IsPropagator tr (hs ++ h ∷ []) ls (short ++ length hs ∷ []) settled head late
  State-short alike spare = record {
    sized = p.sized;
    few = omega (arith, few, length_push hs h);
    lawful = p.lawful;
    fits = p.fits;
    most = p.most;
    trail_within = p.trail_within;
    forced = AreForced-more (Named (all_numbered hs)) (Named (all_numbered (hs ++ h ∷ []))) more tr.entries p.forced;
    rising = rising_now;
    within = within_now;
    keeps = λ k x. elim (was_or_new k x) [
      | inl y ↦ seen_short late head k y (p.keeps k y)
      | inr y ↦ inr (subst (λ z. IsShort (short ++ length hs ∷ []) k z.clause) (sym (new_at k y)) (record { alike = alike; listed = subst (Contains (short ++ length hs ∷ [])) (sym y) (Contains-push short (length hs)) }))
    ];
    listed = λ c v m. watcher_more c v (p.listed c v m);
    room = λ c. let s = spare c in omega (arith, s, wanted_push hs c h, wants_least c h);
    shorts = λ s x. elim (cases_lt s (length short)) [
      | inl y ↦ (let z = p.shorts s y in
          let e = get_or_append_left short (length hs ∷ []) 0 s y in
          (omega (arith, z.0, length_push hs h, e), subst (λ i. AreAlike (held_at (hs ++ h ∷ []) i).clause) (sym e) (subst (λ y. AreAlike y.clause) (sym (held_old hs h (get_or short s 0) z.0)) z.1)))
      | inr y ↦ (let e : s ≡ length short = omega (arith, length_push short (length hs)) in
          let g = ap (λ i. get_or (short ++ length hs ∷ []) i 0) e ∙ get_or-append_seam short (length hs) [] 0 in
          (omega (arith, length_push hs h, g), subst (λ i. AreAlike (held_at (hs ++ h ∷ []) i).clause) (sym g) (subst (λ y. AreAlike y.clause) (sym (held_new hs h)) alike)))
    ];
    settled_few = omega (arith, p.settled_few, length_push short (length hs));
    settled_true = λ s x.
        let b : s < length short = omega (arith, p.settled_few) in
        let z = (p.shorts s b).0 in
        subst (λ i. IsSettled tr.entries (held_at (hs ++ h ∷ []) i).clause) (sym (get_or_append_left short (length hs ∷ []) 0 s b))
        (subst (λ y. IsSettled tr.entries y.clause) (sym (held_old hs h (get_or short s 0) z)) (p.settled_true s x));
    seen = p.seen;
    pending = p.pending;
  }

-- no clauses, and nothing true
beyond : (ls : List WatchList) (c : ℕ) (d : WatchList) → length ls ≤ c → get_or ls c d ≡ d
beyond [] c d h = refl
beyond (w ∷ ls) zero d h = absurd (omega arith)
beyond (w ∷ ls) (suc c) d h = beyond ls c d (omega arith)

empty_at : (ls : List WatchList) (c : ℕ) → All (λ w. w ≡ record { entries = []; uses = 0 }) ls → list_at ls c ≡ record { entries = []; uses = 0 }
empty_at ls c a = elim (cases_lt c (length ls)) [
  | inl b ↦ All-get_or (λ (w : WatchList). w ≡ record { entries = []; uses = 0 }) ls c _ b a
  | inr b ↦ beyond ls c _ b
]

pub State-none : (tr : Standing) (ls : List WatchList) (late : ℕ) → tr.entries ≡ [] → tr.depth ≡ 0 → tr.vars ≤ 1073741823 → length ls ≡ 2 * tr.vars + 2 → All (λ w. w ≡ record { entries = []; uses = 0 }) ls → IsPropagator tr [] ls [] 0 0 late
State-none tr ls late none zero_depth most sized empty = record {
  sized = sized;
  few = omega arith;
  lawful = subst (λ d. IsTrail tr.entries d) (sym zero_depth) (subst (λ t. IsTrail t 0) (sym none) IsTrail-none);
  fits = omega (arith, ap length none);
  most = most;
  trail_within = λ k b. absurd (omega (arith, b, ap length none));
  forced = λ k id b. absurd (omega (arith, b, ap length none));
  rising = λ j k a b. absurd (omega (arith, b));
  within = λ k b. absurd (omega (arith, b));
  keeps = λ k b. absurd (omega (arith, b));
  listed = λ c w m. absurd (let z = m.1 in let e = ap (λ x. length x.entries) (empty_at ls c empty) in omega (arith, z, e));
  room = λ c. let e = ap (λ w. length w.entries) (empty_at ls c empty) in omega (arith, e);
  shorts = λ s b. absurd (omega (arith, b));
  settled_few = omega arith;
  settled_true = λ s b. absurd (omega (arith, b));
  seen = omega arith;
  pending = λ k a b. absurd (omega (arith, b, ap length none));
}

-- the read of a literal of a clause
pub literal_is : (c d : List Literal) (k : ℕ) (l : Literal) → c ≡ d → k < length d → l ≡ get_or c k l → l ≡ literal_at d k
literal_is c d k l e b r = r ∙ ap (λ x. get_or x k l) e ∙ get_or_default d k l _ b

pub list_is : (ls : List WatchList) (k n : ℕ) (w : WatchList) → k < length ls → k ≡ n → w ≡ get_or ls k w → w ≡ list_at ls n
list_is ls k n w b e r = r ∙ get_or_default ls k w _ b ∙ ap (list_at ls) e
