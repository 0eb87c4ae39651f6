-- the lists of all literals in one table, as one of them changes or moves
use Rattle.std.proofs.Common.{◌≡◌, inl, inr, ℕ, ◌+◌, ◌-◌, ◌<◌, ◌≤◌, List, [], ◌∷◌, ◌++◌, length, get_or, set, take, drop, refl, sym, ◌∙◌, ap, subst, arith}
use Rattle.std.specs.Prelude.{All}
use Rattle.std.specs.List.{swap_remove}
use Rattle.std.proofs.lemmas.List.{length-map, length-set, length-drop, length-take-le, length_push, get_or-map, get_or-take, get_or-drop, get_or_default, get_or-set_same, get_or-set_other, get_or_append_left, get_or_push, ext_get_or, take_more_set, take-set-le, take-take, take-append-le, take-append-drop, set-append_left, drop-set-lt, drop-set-add, drop-take, set-get_or}
use Rattle.std.proofs.Math.Seq.{take-set-lt}
use Rattle.std.proofs.lemmas.List.Elements.{All-get_or, All-set, All-push, All-weaker, All-map}
use Rattle.std.proofs.lemmas.Bool.{cases_lt, cases_eq}
use Rattle.rr_watch_lists.specs.WatchLists.{WatchList, nobody}
use Rattle.rr_watch_lists.specs.Spans.{span_at, list_in, lists_in, IsSpan, AreDisjoint, AreSpans, IsMoved}
use Rattle.rr_watch_lists.specs.Lists.{Listed, Reblocked, Unlisted, list_at}
use Rattle.rr_watch_lists.proofs.ListLaws.{Listed-set, Unlisted-set}
use Rattle.rr_watch_lists.specs.declared.watchers.Watcher.{Watcher}
use Rattle.rr_watch_lists.specs.declared.watchers.Span.{Span}

other_way : (s t : Span) → AreDisjoint s t → AreDisjoint t s
other_way s t (inl h) = inr h
other_way s t (inr h) = inl h

span_wider : (n m : ℕ) → n ≤ m → (s : Span) → IsSpan n s → IsSpan m s
span_wider n m h s i = record { inside = omega (arith, i.inside); few = i.few; len = i.len; uses = i.uses }

-- another list in the place of one
module _ (n m : ℕ) (ss : List Span) (c : ℕ) (t : Span) (h : AreSpans n ss) (b : c < length ss) (more : n ≤ m) (i : IsSpan m t) (d : (j : ℕ) → j < length ss → (j ≡ c → ⊥) → AreDisjoint (span_at ss j) t) where
  here : (j : ℕ) → j ≡ c → span_at (set ss c t) j ≡ t
  here j q = ap (λ x. span_at (set ss c t) x) q ∙ get_or-set_same ss c t _ b

  there : (j : ℕ) → (j ≡ c → ⊥) → span_at (set ss c t) j ≡ span_at ss j
  there j q = get_or-set_other ss c j t _ q

  apart : (j k : ℕ) → j < length ss → k < length ss → (j ≡ k → ⊥) → AreDisjoint (span_at (set ss c t) j) (span_at (set ss c t) k)
  apart j k x y z = elim (cases_eq j c) [
    | inl q ↦ elim (cases_eq k c) [
      | inl r ↦ absurd (z (q ∙ sym r))
      | inr r ↦ subst (λ s. AreDisjoint s (span_at (set ss c t) k)) (sym (here j q)) (subst (λ s. AreDisjoint t s) (sym (there k r)) (other_way (span_at ss k) t (d k y r)))
    ]
    | inr q ↦ elim (cases_eq k c) [
      | inl r ↦ subst (λ s. AreDisjoint s (span_at (set ss c t) k)) (sym (there j q)) (subst (λ s. AreDisjoint (span_at ss j) s) (sym (here k r)) (d j x q))
      | inr r ↦ subst (λ s. AreDisjoint s (span_at (set ss c t) k)) (sym (there j q)) (subst (λ s. AreDisjoint (span_at ss j) s) (sym (there k r)) (h.disjoint j k x y z))
    ]
  ]

  pub spans_set : AreSpans m (set ss c t)
  spans_set = record {
    inside = All-set (IsSpan m) ss c t i (All-weaker (IsSpan n) (IsSpan m) (span_wider n m more) ss h.inside);
    disjoint = λ j k x y z. apart j k (omega (arith, x, length-set ss c t)) (omega (arith, y, length-set ss c t)) z;
  }

-- one list more, behind all entries
module _ (n m : ℕ) (ss : List Span) (t : Span) (h : AreSpans n ss) (behind : n ≤ t.start) (more : n ≤ m) (i : IsSpan m t) where
  front : (j : ℕ) → j < length ss → span_at (ss ++ t ∷ []) j ≡ span_at ss j
  front j x = get_or_append_left ss (t ∷ []) _ j x

  back : (j : ℕ) → length ss ≤ j → j < length (ss ++ t ∷ []) → span_at (ss ++ t ∷ []) j ≡ t
  back j x y = get_or_push ss t _ j (omega (arith, y, length_push ss t))

  below : (j : ℕ) → j < length ss → AreDisjoint (span_at ss j) t
  below j x = (let s : IsSpan n (span_at ss j) = All-get_or (IsSpan n) ss j _ x h.inside in inl (omega (arith, s.inside)))

  beside : (j k : ℕ) → j < length (ss ++ t ∷ []) → k < length (ss ++ t ∷ []) → (j ≡ k → ⊥) → AreDisjoint (span_at (ss ++ t ∷ []) j) (span_at (ss ++ t ∷ []) k)
  beside j k x y z = elim (cases_lt j (length ss)) [
    | inl q ↦ elim (cases_lt k (length ss)) [
      | inl r ↦ subst (λ s. AreDisjoint s (span_at (ss ++ t ∷ []) k)) (sym (front j q)) (subst (λ s. AreDisjoint (span_at ss j) s) (sym (front k r)) (h.disjoint j k q r z))
      | inr r ↦ subst (λ s. AreDisjoint s (span_at (ss ++ t ∷ []) k)) (sym (front j q)) (subst (λ s. AreDisjoint (span_at ss j) s) (sym (back k r y)) (below j q))
    ]
    | inr q ↦ elim (cases_lt k (length ss)) [
      | inl r ↦ subst (λ s. AreDisjoint s (span_at (ss ++ t ∷ []) k)) (sym (back j q x)) (subst (λ s. AreDisjoint t s) (sym (front k r)) (other_way (span_at ss k) t (below k r)))
      | inr r ↦ (let long = length_push ss t in absurd (z (omega (arith, long, x, y))))
    ]
  ]

  pub spans_push : AreSpans m (ss ++ t ∷ [])
  spans_push = record {
    inside = All-push (IsSpan m) ss t (All-weaker (IsSpan n) (IsSpan m) (span_wider n m more) ss h.inside) i;
    disjoint = beside;
  }

-- the lists that are read
module _ (es : List Watcher) (ss : List Span) (h : AreSpans (length es) ss) where
  pub is_span : (c : ℕ) → c < length ss → IsSpan (length es) (span_at ss c)
  is_span c b = All-get_or (IsSpan (length es)) ss c _ b h.inside

  pub list_is : (c : ℕ) → c < length ss → list_at (lists_in es ss) c ≡ list_in es (span_at ss c)
  list_is c b = get_or-map (list_in es) ss c _ _ b

  pub list_length : (c : ℕ) → c < length ss → length (list_at (lists_in es ss) c).entries ≡ (span_at ss c).len
  list_length c b =
      let i = is_span c b in
      let s = span_at ss c in
      ap (λ w. length w.entries) (list_is c b) ∙ length-take-le s.len (drop s.start es) (omega (arith, i.inside, i.len, length-drop s.start es))

  pub list_uses : (c : ℕ) → c < length ss → (list_at (lists_in es ss) c).uses ≡ (span_at ss c).uses
  list_uses c b = ap (λ w. w.uses) (list_is c b)

  pub list_entry : (c at : ℕ) (d : Watcher) → c < length ss → at < (span_at ss c).len → get_or (list_at (lists_in es ss) c).entries at d ≡ get_or es ((span_at ss c).start + at) d
  list_entry c at d b x =
      let s = span_at ss c in
      ap (λ w. get_or w.entries at d) (list_is c b) ∙ get_or-take s.len (drop s.start es) at d x ∙ get_or-drop s.start es at d

  -- all lists but one stay
  module _ (new : List Watcher) (c : ℕ) (t : Span) (b : c < length ss) (keeps : (j : ℕ) → j < length ss → (j ≡ c → ⊥) → list_in new (span_at ss j) ≡ list_in es (span_at ss j)) where
    changed_at : (d : WatchList) (j : ℕ) → j < length ss → get_or (lists_in new (set ss c t)) j d ≡ get_or (set (lists_in es ss) c (list_in new t)) j d
    changed_at d j x =
        let l : j < length (set ss c t) = omega (arith, x, length-set ss c t) in
        let m : c < length (lists_in es ss) = omega (arith, b, length-map ss (list_in es)) in
        get_or-map (list_in new) (set ss c t) j (record { start = 0; len = 0; room = 0; uses = 0 }) d l
        ∙ elim (cases_eq j c) [
          | inl q ↦ ap (λ k. list_in new (span_at (set ss c t) k)) q ∙ ap (list_in new) (get_or-set_same ss c t _ b) ∙ sym (ap (λ k. get_or (set (lists_in es ss) c (list_in new t)) k d) q ∙ get_or-set_same (lists_in es ss) c (list_in new t) d m)
          | inr q ↦ ap (list_in new) (get_or-set_other ss c j t _ q) ∙ keeps j x q ∙ sym (get_or-map (list_in es) ss j _ d x) ∙ sym (get_or-set_other (lists_in es ss) c j (list_in new t) d q)
        ]

    pub changed : lists_in new (set ss c t) ≡ set (lists_in es ss) c (list_in new t)
    changed =
        let l = length-map (set ss c t) (list_in new) in
        let m = length-set ss c t in
        ext_get_or (record { entries = []; uses = 0 }) _ _ (l ∙ m ∙ sym (length-set (lists_in es ss) c (list_in new t) ∙ length-map ss (list_in es))) (λ j x. changed_at _ j (omega (arith, x, l, m)))

  -- an entry that is written in the room of one list
  module _ (c k : ℕ) (w : Watcher) (b : c < length ss) (low : (span_at ss c).start ≤ k) (high : k < (span_at ss c).start + (span_at ss c).room) where
    pub set_keeps : (j : ℕ) → j < length ss → (j ≡ c → ⊥) → list_in (set es k w) (span_at ss j) ≡ list_in es (span_at ss j)
    set_keeps j x n =
        let s = span_at ss j in
        let i = is_span j x in
        elim (cases_lt k s.start) [
          | inl y ↦ ap (λ e. record { entries = take s.len e; uses = s.uses }) (drop-set-lt s.start es k w y)
          | inr y ↦ (let e : s.start + (k - s.start) ≡ k = omega arith in
              let far : s.len ≤ k - s.start = elim (h.disjoint j c x b n) [ inl z ↦ omega (arith, i.len, z) | inr z ↦ absurd (omega (arith, z)) ] in
              ap (λ l. record { entries = l; uses = s.uses }) (ap (λ p. take s.len (drop s.start (set es p w))) (sym e) ∙ ap (take s.len) (drop-set-add s.start es (k - s.start) w) ∙ take-set-le s.len (drop s.start es) (k - s.start) w far))
        ]

-- entries behind those that there were
module _ (old new : List Watcher) (kept : take (length old) new ≡ old) where
  pub same_front : (start len : ℕ) → start + len ≤ length old → take len (drop start new) ≡ take len (drop start old)
  same_front start len b =
      sym (drop-take start len new)
      ∙ ap (drop start) (sym (take-take (start + len) (length old) new b) ∙ ap (take (start + len)) kept)
      ∙ drop-take start len old

  pub same_list : (s : Span) → IsSpan (length old) s → list_in new s ≡ list_in old s
  same_list s i = ap (λ e. record { entries = e; uses = s.uses }) (same_front s.start s.len (omega (arith, i.inside, i.len)))

-- one list that changes
module _ (es : List Watcher) (start len : ℕ) (b : start + len < length es) (w : Watcher) where
  pub entries_push : take (len + 1) (drop start (set es (start + len) w)) ≡ take len (drop start es) ++ w ∷ []
  entries_push = ap (take (len + 1)) (drop-set-add start es len w) ∙ take_more_set (drop start es) len w (omega (arith, length-drop start es))

module _ (xs : List Watcher) (n at : ℕ) (w : Watcher) (b : n + 1 ≤ length xs) (inside : at < n + 1) where
  take_set : take n (set xs at w) ≡ take n (set (take (n + 1) xs) at w)
  take_set =
      let l : length (take (n + 1) xs) ≡ n + 1 = length-take-le (n + 1) xs b in
      ap (λ x. take n (set x at w)) (sym (take-append-drop (n + 1) xs))
      ∙ ap (take n) (set-append_left (take (n + 1) xs) (drop (n + 1) xs) at w (omega (arith, l, inside)))
      ∙ take-append-le n (set (take (n + 1) xs) at w) (drop (n + 1) xs) (omega (arith, l, length-set (take (n + 1) xs) at w))

pub entries_remove : (es : List Watcher) (start len at : ℕ) (w : Watcher) → start + (len + 1) ≤ length es → at < len + 1 → w ≡ get_or es (start + len) w → take len (drop start (set es (start + at) w)) ≡ swap_remove (take (len + 1) (drop start es)) at nobody
entries_remove es start len at w b inside e =
    let xs = drop start es in
    let long : len + 1 ≤ length xs = omega (arith, length-drop start es) in
    let l : length (take (len + 1) xs) ≡ len + 1 = length-take-le (len + 1) xs long in
    let last : length (take (len + 1) xs) - 1 ≡ len = omega (arith, l) in
    let v : w ≡ get_or (take (len + 1) xs) len nobody =
    e ∙ get_or_default es (start + len) w nobody (omega (arith, b)) ∙ sym (get_or-drop start es len nobody) ∙ sym (get_or-take (len + 1) xs len nobody (omega arith)) in
    ap (take len) (drop-set-add start es at w)
    ∙ take_set xs len at w long inside
    ∙ ap (λ x. take len (set (take (len + 1) xs) at x)) v
    ∙ ap (λ k. take k (set (take (len + 1) xs) at (get_or (take (len + 1) xs) k nobody))) (sym last)

-- lists in which no clause stands
pub all_empty : (es : List Watcher) (ss : List Span) → All (λ s. (s.len ≡ 0) × (s.uses ≡ 0)) ss → All (λ w. w ≡ record { entries = []; uses = 0 }) (lists_in es ss)
all_empty es ss a =
    let none : (s : Span) → (s.len ≡ 0) × (s.uses ≡ 0) → list_in es s ≡ record { entries = []; uses = 0 } = λ (s : Span) (e : (s.len ≡ 0) × (s.uses ≡ 0)). ap (λ n. record { entries = take n (drop s.start es); uses = s.uses }) e.0 ∙ ap (λ u. record { entries = []; uses = u }) e.1 in
    All-map (λ w. w ≡ record { entries = []; uses = 0 }) (list_in es) ss (All-weaker (λ s. (s.len ≡ 0) × (s.uses ≡ 0)) (λ s. list_in es s ≡ record { entries = []; uses = 0 }) none ss a)

-- a table whose end alone is new
pub all_kept : (es new : List Watcher) (ss : List Span) → AreSpans (length es) ss → take (length es) new ≡ es → lists_in new ss ≡ lists_in es ss
all_kept es new ss h kept =
    let l = length-map ss (list_in new) in
    let one : (j : ℕ) → j < length ss → list_at (lists_in new ss) j ≡ list_at (lists_in es ss) j = λ (j : ℕ) (y : j < length ss). get_or-map (list_in new) ss j _ _ y ∙ same_list es new kept (span_at ss j) (is_span es ss h j y) ∙ sym (list_is es ss h j y) in
    ext_get_or (record { entries = []; uses = 0 }) _ _ (l ∙ sym (length-map ss (list_in es))) (λ j x. one j (omega (arith, x, l)))

abbrev one_more : WatchList → WatchList
one_more w = record { entries = w.entries; uses = w.uses + 1 }

-- the steps of the lists, whose value is v
module _ (es : List Watcher) (ss : List Span) (h : AreSpans (length es) ss) (v : List WatchList) (is : lists_in es ss ≡ v) (c : ℕ) (s : Span) (b : c < length v) (read : s ≡ get_or ss c s) where
  inside : c < length ss
  inside = omega (arith, b, ap length is, length-map ss (list_in es))

  span_is : s ≡ span_at ss c
  span_is = read ∙ get_or_default ss c s _ inside

  pub read_span : IsSpan (length es) s
  read_span = subst (IsSpan (length es)) (sym span_is) (is_span es ss h c inside)

  listed : list_at v c ≡ list_in es s
  listed = ap (λ x. list_at x c) (sym is) ∙ list_is es ss h c inside ∙ ap (list_in es) (sym span_is)

  listed_length : length (list_at v c).entries ≡ s.len
  listed_length = (let i = read_span in ap (λ x. length x.entries) listed ∙ length-take-le s.len (drop s.start es) (omega (arith, i.inside, i.len, length-drop s.start es)))

  replaced : (new : List Watcher) (t : Span) → ((j : ℕ) → j < length ss → (j ≡ c → ⊥) → list_in new (span_at ss j) ≡ list_in es (span_at ss j)) → lists_in new (set ss c t) ≡ set v c (list_in new t)
  replaced new t keeps = changed es ss h new c t inside keeps ∙ ap (λ x. set x c (list_in new t)) is

  written : (at : ℕ) (w : Watcher) → at < s.room → (j : ℕ) → j < length ss → (j ≡ c → ⊥) → list_in (set es (s.start + at) w) (span_at ss j) ≡ list_in es (span_at ss j)
  written at w x =
      let start : s.start ≡ (span_at ss c).start = ap (λ y. y.start) span_is in
      let room : s.room ≡ (span_at ss c).room = ap (λ y. y.room) span_is in
      set_keeps es ss h c (s.start + at) w inside (omega (arith, start)) (omega (arith, start, room, x))

  itself : list_at v c ≡ get_or v c (list_at v c)
  itself = get_or_default v c _ (list_at v c) b

  pub pushed : (w : Watcher) → length (list_at v c).entries < (list_at v c).uses → Listed v (lists_in (set es (s.start + s.len) w) (set ss c (record s { len = s.len + 1 }))) c w
  pushed w room =
      let i = read_span in
      let fits : s.len < s.room = omega (arith, room, i.uses, listed_length, ap (λ x. x.uses) listed) in
      let new = set es (s.start + s.len) w in
      let t : Span = record s { len = s.len + 1 } in
      subst (λ x. Listed v x c w) (sym (replaced new t (written s.len w fits)))
      (Listed-set v c w (list_in new t) (list_at v c) b itself
      (entries_push es s.start s.len (omega (arith, fits, i.inside)) w ∙ ap (λ x. x.entries ++ w ∷ []) (sym listed))
      (ap (λ x. x.uses) (sym listed)))

  pub removed : (at : ℕ) (w : Watcher) → at < length (list_at v c).entries → w ≡ get_or es (s.start + (s.len - 1)) w → Unlisted v (lists_in (set es (s.start + at) w) (set ss c (record s { len = s.len - 1 }))) c at
  removed at w x e =
      let i = read_span in
      let here : at < s.len = omega (arith, x, listed_length) in
      let less : s.len - 1 + 1 ≡ s.len = omega (arith, here) in
      let new = set es (s.start + at) w in
      let t : Span = record s { len = s.len - 1 } in
      subst (λ y. Unlisted v y c at) (sym (replaced new t (written at w (omega (arith, here, i.len)))))
      (Unlisted-set v c at (list_in new t) (list_at v c) b itself
      (entries_remove es s.start (s.len - 1) at w (omega (arith, less, i.inside, i.len)) (omega (arith, less, here)) e ∙ ap (λ n. swap_remove (take n (drop s.start es)) at nobody) less ∙ ap (λ y. swap_remove y.entries at nobody) (sym listed))
      (ap (λ y. y.uses) (sym listed)))

  pub reblocked : (at : ℕ) (w : Watcher) → at < length (list_at v c).entries → Reblocked v (lists_in (set es (s.start + at) w) ss) c at w
  reblocked at w x =
      let i = read_span in
      let here : at < s.len = omega (arith, x, listed_length) in
      let new = set es (s.start + at) w in
      let same : set ss c s ≡ ss = ap (set ss c) read ∙ set-get_or ss c s in
      let whole : lists_in new ss ≡ set v c (list_in new s) = ap (lists_in new) (sym same) ∙ replaced new s (written at w (omega (arith, here, i.len))) in
      let got : list_at (set v c (list_in new s)) c ≡ list_in new s = get_or-set_same v c (list_in new s) _ b in
      subst (λ y. Reblocked v y c at w) (sym whole)
      (record {
        long = length-set v c (list_in new s);
        entries = ap (λ y. y.entries) got ∙ ap (take s.len) (drop-set-add s.start es at w) ∙ take-set-lt s.len (drop s.start es) at w here ∙ ap (λ y. set y.entries at w) (sym listed);
        uses = ap (λ y. y.uses) got ∙ ap (λ y. y.uses) (sym listed);
        others = λ k n. get_or-set_other v c k (list_in new s) _ n;
      })

  more : one_more (list_in es s) ≡ one_more (list_at v c)
  more = ap one_more (sym listed)

  pub expected : lists_in es (set ss c (record s { uses = s.uses + 1 })) ≡ set v c (record { entries = (list_at v c).entries; uses = (list_at v c).uses + 1 })
  expected = replaced es (record s { uses = s.uses + 1 }) (λ j x n. refl) ∙ ap (set v c) more

  pub expected_behind : (new : List Watcher) (t : Span) → IsMoved es new s t → lists_in new (set ss c t) ≡ set v c (record { entries = (list_at v c).entries; uses = (list_at v c).uses + 1 })
  expected_behind new t m =
      replaced new t (λ j x n. same_list es new m.kept (span_at ss j) (is_span es ss h j x))
      ∙ ap (λ e. set v c (record { entries = e; uses = t.uses })) m.entries
      ∙ ap (λ u. set v c (record { entries = (list_in es s).entries; uses = u })) m.uses
      ∙ ap (set v c) more
