-- The searches: through a node back to it, and over all that a node leads to.
use Rattle.std.proofs.Common.{◌≡◌, ◌∙◌, sym, ap, ℕ, zero, suc, ◌+◌, ◌≤◌, ◌<◌, ◌⊎◌, inl, inr, Bool, true, false, List, [], ◌∷◌, ◌++◌, length, get_or, set, take, refl, subst, arith}
use Rattle.std.proofs.lemmas.Bool.{cases_eq, cases_lt}
use Rattle.std.proofs.lemmas.List.{get_or-set_other, length-set, length-take-le}
use Rattle.rr_sort.specs.Graphs.{Graph, Names, Chain, OnCycle, CycleFrom, IsLowestCycle}
use Rattle.rr_sort.specs.Walks.{IsReached, IsOff, IsSeen, Spent}
use Rattle.rr_sort.proofs.Sorting.{not_both, get_old, get_new, get_take, length_push, chain_from, seen_grown, grown_set, name_inside}

-- how many are not marked
pub falses : List Bool → ℕ
falses [] = 0
falses (true ∷ bs) = falses bs
falses (false ∷ bs) = suc (falses bs)

pub falses_set : (bs : List Bool) (v : ℕ) → v < length bs → get_or bs v false ≡ false → falses bs ≡ suc (falses (set bs v true))
unfolding falses
falses_set [] v l h = absurd (omega arith)
falses_set (true ∷ bs) zero l h = absurd (not_both true refl h)
falses_set (false ∷ bs) zero l h = refl
falses_set (true ∷ bs) (suc v) l h = falses_set bs v (omega arith) h
falses_set (false ∷ bs) (suc v) l h = ap suc (falses_set bs v (omega arith) h)

-- a node is on the stack, or all its names have been looked at
abbrev pub Ahead : Graph → List ℕ → List ℕ → ℕ → Type 0
Ahead g seen stack v = ((i : ℕ) × ((i < length stack) × (get_or stack i 0 ≡ v))) ⊎ Spent g seen v

ahead_push : (g : Graph) (seen looked stack : List ℕ) (name v : ℕ) → ((u : ℕ) → get_or seen u 0 ≤ get_or looked u 0) → Ahead g seen stack v → Ahead g looked (stack ++ name ∷ []) v
ahead_push g seen looked stack name v m (inl (i, (l, q))) = inl (i, (omega (arith, length_push stack name), get_old stack name 0 i l ∙ q))
ahead_push g seen looked stack name v m (inr s) = let z = m v in inr (omega (arith, z, s))

ahead_new : (g : Graph) (looked stack : List ℕ) (name v : ℕ) → v ≡ name → Ahead g looked (stack ++ name ∷ []) v
ahead_new g looked stack name v q = inl (length stack, (omega (arith, length_push stack name), get_new stack name 0 (length stack) refl ∙ sym q))

ahead_pop : (g : Graph) (seen looked stack : List ℕ) (k v : ℕ) → suc k ≡ length stack → Spent g looked (get_or stack k 0) → ((u : ℕ) → get_or seen u 0 ≤ get_or looked u 0) → Ahead g seen stack v → Ahead g looked (take k stack) v
ahead_pop g seen looked stack k v e s m (inl (i, (l, q))) = elim (cases_eq i k) [
  | inl z ↦ inr (subst (λ (x : ℕ). Spent g looked x) (ap (λ (x : ℕ). get_or stack x 0) (sym z) ∙ q) s)
  | inr z ↦ inl (i, (omega (arith, length-take-le k stack (omega arith)), get_take stack k i (omega arith) ∙ q))
]
ahead_pop g seen looked stack k v e s m (inr p) = let z = m v in inr (omega (arith, z, p))

-- the nodes on the way down from the start, each naming the next, of which the start is not marked; and the start and
-- each marked node is on the way or has no more names to look at
pub record IsSearch (g : Graph) (start : ℕ) (reached : List Bool) (seen stack : List ℕ) : Type 0 where
  pub marks : length reached ≡ length g
  pub looked : IsSeen g reached seen
  pub inside : (i : ℕ) → i < length stack → get_or stack i 0 < length g
  pub begins : 0 < length stack → get_or stack 0 0 ≡ start
  pub walk : (i : ℕ) → i + 1 < length stack → Names g (get_or stack i 0) (get_or stack (i + 1) 0)
  pub apart : get_or reached start false ≡ false
  pub ahead : (v : ℕ) → (v ≡ start) ⊎ (get_or reached v false ≡ true) → Ahead g seen stack v

none_seen : (g : Graph) (reached : List Bool) (seen : List ℕ) → length seen ≡ length g → ((v : ℕ) → get_or seen v 0 ≡ 0) → IsSeen g reached seen
none_seen g reached seen c d = record {
  count = c;
  low = λ v. let z = d v in omega (arith, z);
  done = λ v i m. let z = d v in absurd (omega (arith, z, m));
}

pub search_start : (g : Graph) (start : ℕ) (reached : List Bool) (seen : List ℕ) → start < length g → length reached ≡ length g → ((v : ℕ) → get_or reached v false ≡ false) → length seen ≡ length g
    → ((v : ℕ) → get_or seen v 0 ≡ 0) → IsSearch g start reached seen (start ∷ [])
search_start g start reached seen l a b c d = record {
  marks = a;
  looked = none_seen g reached seen c d;
  inside = λ i m. let z : i ≡ 0 = omega arith in rw z l;
  begins = λ m. refl;
  walk = λ i m. absurd (omega arith);
  apart = b start;
  ahead = λ v r. elim r [ inl q ↦ inl (0, (omega arith, sym q)) | inr t ↦ absurd (not_both (get_or reached v false) t (b v)) ];
}

pub search_push : (g : Graph) (start : ℕ) (reached : List Bool) (seen looked stack : List ℕ) (k name : ℕ) → IsSearch g start reached seen stack → suc k ≡ length stack → IsSeen g reached looked
    → ((u : ℕ) → get_or seen u 0 ≤ get_or looked u 0) → Names g (get_or stack k 0) name → name < length g → (name ≡ start → ⊥) → IsSearch g start (set reached name true) looked (stack ++ name ∷ [])
search_push g start reached seen looked stack k name h e s m n l o =
    let p = length_push stack name in
    let c : name < length reached = omega (arith, h.marks) in
    record {
      marks = length-set reached name true ∙ h.marks;
      looked = seen_grown g reached (set reached name true) looked (grown_set reached name c) s;
      inside = λ i w. elim (cases_lt i (length stack)) [
        | inl r ↦ rw (get_old stack name 0 i r) (h.inside i r)
        | inr r ↦ rw (get_new stack name 0 i (omega (arith, p, w))) l
      ];
      begins = λ w. get_old stack name 0 0 (omega arith) ∙ h.begins (omega arith);
      walk = λ i w. elim (cases_lt (i + 1) (length stack)) [
        | inl r ↦ rw (get_old stack name 0 i (omega arith), get_old stack name 0 (i + 1) r) (h.walk i r)
        | inr r ↦
            let z : i ≡ k = omega (arith, p, w) in
            rw (get_old stack name 0 i (omega (arith, p, w)), get_new stack name 0 (i + 1) (omega (arith, p, w)), z) n
      ];
      apart = get_or-set_other reached name start true false (λ z. o (sym z)) ∙ h.apart;
      ahead = λ v w. elim (cases_eq v name) [
        | inl r ↦ ahead_new g looked stack name v r
        | inr r ↦ ahead_push g seen looked stack name v m (h.ahead v (back v r w))
      ];
    }
  where
    back : (v : ℕ) → (v ≡ name → ⊥) → (v ≡ start) ⊎ (get_or (set reached name true) v false ≡ true) → (v ≡ start) ⊎ (get_or reached v false ≡ true)
    back v r (inl z) = inl z
    back v r (inr t) = inr (sym (get_or-set_other reached name v true false r) ∙ t)

pub search_pop : (g : Graph) (start : ℕ) (reached : List Bool) (seen looked stack : List ℕ) (k : ℕ) → IsSearch g start reached seen stack → suc k ≡ length stack → IsSeen g reached looked
    → ((u : ℕ) → get_or seen u 0 ≤ get_or looked u 0) → Spent g looked (get_or stack k 0) → IsSearch g start reached looked (take k stack)
search_pop g start reached seen looked stack k h e s m p =
    let t : length (take k stack) ≡ k = length-take-le k stack (omega arith) in
    record {
      marks = h.marks;
      looked = s;
      inside = λ i w. rw (get_take stack k i (omega (arith, t, w))) (h.inside i (omega (arith, t, w)));
      begins = λ w. get_take stack k 0 (omega (arith, t, w)) ∙ h.begins (omega arith);
      walk = λ i w. rw (get_take stack k i (omega (arith, t, w)), get_take stack k (i + 1) (omega (arith, t, w))) (h.walk i (omega (arith, t, w)));
      apart = h.apart;
      ahead = λ v w. ahead_pop g seen looked stack k v e p m (h.ahead v w);
    }

-- what is closed under names and holds all names of a node but not the node shows that it lies on no cycle
spent_name : (g : Graph) (reached : List Bool) (seen : List ℕ) (v w : ℕ) → IsSeen g reached seen → Spent g seen v → Names g v w → get_or reached w false ≡ true
spent_name g reached seen v w s p (i, (k, q)) = ap (λ (x : ℕ). get_or reached x false) (sym q) ∙ s.done v i (omega (arith, k, p))

reach_chain : (g : Graph) (reached : List Bool) (seen : List ℕ) → IsSeen g reached seen → ((v : ℕ) → get_or reached v false ≡ true → Spent g seen v) → (u : ℕ) (vs : List ℕ) (t : ℕ)
    → Spent g seen u → Chain g u vs t → get_or reached t false ≡ true
reach_chain g reached seen s c u [] t p n = spent_name g reached seen u t s p n
reach_chain g reached seen s c u (v ∷ vs) t p n = reach_chain g reached seen s c v vs t (c v (spent_name g reached seen u v s p n.0)) n.1

pub spent_off : (g : Graph) (reached : List Bool) (seen : List ℕ) (v : ℕ) → IsSeen g reached seen → ((w : ℕ) → get_or reached w false ≡ true → Spent g seen w) → Spent g seen v → get_or reached v false ≡ false → OnCycle g v → ⊥
spent_off g reached seen v s c p f (vs, n) = not_both (get_or reached v false) (reach_chain g reached seen s c v vs v p n) f

emptied : (g : Graph) (seen stack : List ℕ) (v : ℕ) → length stack ≡ 0 → Ahead g seen stack v → Spent g seen v
emptied g seen stack v e (inl (i, (l, q))) = absurd (omega (arith, l, e))
emptied g seen stack v e (inr p) = p

pub search_none : (g : Graph) (start : ℕ) (reached : List Bool) (seen stack : List ℕ) → length stack ≡ 0 → IsSearch g start reached seen stack → OnCycle g start → ⊥
search_none g start reached seen stack e h =
    spent_off g reached seen start h.looked (λ w t. emptied g seen stack w e (h.ahead w (inr t))) (emptied g seen stack start e (h.ahead start (inl refl))) h.apart

-- the way down to a node that names the start
pub search_found : (g : Graph) (start : ℕ) (reached : List Bool) (seen stack : List ℕ) (k : ℕ) → suc k ≡ length stack → IsSearch g start reached seen stack → Names g (get_or stack k 0) start → CycleFrom g start stack
search_found g start reached seen [] k e h n = absurd (omega arith)
search_found g start reached seen (c ∷ cs) k e h n = found c cs (h.begins (omega arith)) h.walk (last n)
  where
    last : Names g (get_or (c ∷ cs) k 0) start → Names g (get_or (c ∷ cs) (length cs) 0) start
    last m = let z : k ≡ length cs = omega arith in rw z at m

    found : (d : ℕ) (ds : List ℕ) → d ≡ start → ((i : ℕ) → i + 1 < length (d ∷ ds) → Names g (get_or (d ∷ ds) i 0) (get_or (d ∷ ds) (i + 1) 0)) → Names g (get_or (d ∷ ds) (length ds) 0) start → CycleFrom g start (d ∷ ds)
    found d ds q w m = (q, chain_from g d ds d w (subst (λ (x : ℕ). Names g (get_or (d ∷ ds) (length ds) 0) x) (sym q) m))

pub lowest_found : (g : Graph) (node : ℕ) (cs : List ℕ) → ((v : ℕ) → v < node → OnCycle g v → ⊥) → CycleFrom g node cs → IsLowestCycle g cs
lowest_found g node [] h c = c
lowest_found g node (d ∷ ds) h (q, c) = (c, λ v l o. h v (rw q at l) o)

-- a node that is not there lies on no cycle
pub cycle_inside : (g : Graph) (v : ℕ) → OnCycle g v → v < length g
cycle_inside g v ([], n) = name_inside g v v n
cycle_inside g v (w ∷ ws, n) = name_inside g v w n.0

pub none_more : (g : Graph) (node : ℕ) → ((v : ℕ) → v < node → OnCycle g v → ⊥) → (OnCycle g node → ⊥) → (v : ℕ) → v < node + 1 → OnCycle g v → ⊥
none_more g node h n v l o = elim (cases_eq v node) [ inl q ↦ n (rw q at o) | inr q ↦ h v (omega arith) o ]

pub none_left : (g : Graph) → ((v : ℕ) → v < length g → OnCycle g v → ⊥) → (v : ℕ) → OnCycle g v → ⊥
none_left g h v o = h v (cycle_inside g v o) o

-- all that a node leads to
pub record IsFlooding (g : Graph) (reached : List Bool) (seen order stack : List ℕ) : Type 0 where
  pub count : length reached ≡ length g
  pub looked : IsSeen g reached seen
  pub inside : (i : ℕ) → i < length stack → get_or stack i 0 < length g
  pub listed : (i : ℕ) → i < length order → get_or order i 0 < length g
  pub ahead : (v : ℕ) → get_or reached v false ≡ true → Ahead g seen stack v

pub dry : (g : Graph) (reached : List Bool) (seen : List ℕ) → length reached ≡ length g → ((v : ℕ) → get_or reached v false ≡ false) → length seen ≡ length g → ((v : ℕ) → get_or seen v 0 ≡ 0) → IsReached g reached seen []
dry g reached seen a b c d = record {
  count = a;
  looked = none_seen g reached seen c d;
  closed = λ v t. absurd (not_both (get_or reached v false) t (b v));
  inside = λ i l. absurd (omega arith);
}

inside_push : (g : Graph) (stack : List ℕ) (name : ℕ) → name < length g → ((i : ℕ) → i < length stack → get_or stack i 0 < length g) → (i : ℕ) → i < length (stack ++ name ∷ []) → get_or (stack ++ name ∷ []) i 0 < length g
inside_push g stack name l h i w = elim (cases_lt i (length stack)) [
  | inl r ↦ rw (get_old stack name 0 i r) (h i r)
  | inr r ↦ rw (get_new stack name 0 i (omega (arith, length_push stack name, w))) l
]

pub flood_start : (g : Graph) (start : ℕ) (reached : List Bool) (seen order : List ℕ) → start < length g → IsReached g reached seen order → IsFlooding g (set reached start true) seen order (start ∷ [])
flood_start g start reached seen order l h =
    let c : start < length reached = omega (arith, h.count) in
    record {
      count = length-set reached start true ∙ h.count;
      looked = seen_grown g reached (set reached start true) seen (grown_set reached start c) h.looked;
      inside = λ i m. let z : i ≡ 0 = omega arith in rw z l;
      listed = h.inside;
      ahead = λ v t. elim (cases_eq v start) [
        | inl q ↦ inl (0, (omega arith, sym q))
        | inr q ↦ inr (h.closed v (sym (get_or-set_other reached start v true false q) ∙ t))
      ];
    }

pub flood_push : (g : Graph) (reached : List Bool) (seen looked order stack : List ℕ) (name : ℕ) → IsFlooding g reached seen order stack → IsSeen g reached looked → ((u : ℕ) → get_or seen u 0 ≤ get_or looked u 0) → name < length g
    → IsFlooding g (set reached name true) looked order (stack ++ name ∷ [])
flood_push g reached seen looked order stack name h s m l =
    let c : name < length reached = omega (arith, h.count) in
    record {
      count = length-set reached name true ∙ h.count;
      looked = seen_grown g reached (set reached name true) looked (grown_set reached name c) s;
      inside = inside_push g stack name l h.inside;
      listed = h.listed;
      ahead = λ v t. elim (cases_eq v name) [
        | inl r ↦ ahead_new g looked stack name v r
        | inr r ↦ ahead_push g seen looked stack name v m (h.ahead v (sym (get_or-set_other reached name v true false r) ∙ t))
      ];
    }

pub flood_pop : (g : Graph) (reached : List Bool) (seen looked order stack : List ℕ) (k : ℕ) → IsFlooding g reached seen order stack → suc k ≡ length stack → IsSeen g reached looked → ((u : ℕ) → get_or seen u 0 ≤ get_or looked u 0)
    → Spent g looked (get_or stack k 0) → IsFlooding g reached looked (order ++ get_or stack k 0 ∷ []) (take k stack)
flood_pop g reached seen looked order stack k h e s m p =
    let t : length (take k stack) ≡ k = length-take-le k stack (omega arith) in
    record {
      count = h.count;
      looked = s;
      inside = λ i w. rw (get_take stack k i (omega (arith, t, w))) (h.inside i (omega (arith, t, w)));
      listed = inside_push g order (get_or stack k 0) (h.inside k (omega arith)) h.listed;
      ahead = λ v w. ahead_pop g seen looked stack k v e p m (h.ahead v w);
    }

pub flood_done : (g : Graph) (reached : List Bool) (seen order stack : List ℕ) → length stack ≡ 0 → IsFlooding g reached seen order stack → IsReached g reached seen order
flood_done g reached seen order stack e h = record {
  count = h.count;
  looked = h.looked;
  closed = λ v t. emptied g seen stack v e (h.ahead v t);
  inside = h.listed;
}

-- a node that names only what was reached
pub reached_spent : (g : Graph) (reached : List Bool) (seen looked order : List ℕ) (node : ℕ) → IsReached g reached seen order → node < length g → IsSeen g reached looked → ((u : ℕ) → get_or seen u 0 ≤ get_or looked u 0) → Spent g looked node
    → IsReached g (set reached node true) looked order
reached_spent g reached seen looked order node h l s m p =
    let c : node < length reached = omega (arith, h.count) in
    record {
      count = length-set reached node true ∙ h.count;
      looked = seen_grown g reached (set reached node true) looked (grown_set reached node c) s;
      closed = λ v t. elim (cases_eq v node) [
        | inl q ↦ rw q p
        | inr q ↦ let a = h.closed v (sym (get_or-set_other reached node v true false q) ∙ t) in let b = m v in omega (arith, a, b)
      ];
      inside = h.inside;
    }

pub reached_seen : (g : Graph) (reached : List Bool) (seen looked order : List ℕ) → IsReached g reached seen order → IsSeen g reached looked → ((u : ℕ) → get_or seen u 0 ≤ get_or looked u 0) → IsReached g reached looked order
reached_seen g reached seen looked order h s m = record {
  count = h.count;
  looked = s;
  closed = λ v t. let a = h.closed v t in let b = m v in omega (arith, a, b);
  inside = h.inside;
}

pub off_none : (g : Graph) (off : List Bool) → length off ≡ length g → ((v : ℕ) → get_or off v false ≡ false) → IsOff g off
off_none g off c h = record { count = c; none = λ v t. absurd (not_both (get_or off v false) t (h v)) }

pub off_set : (g : Graph) (off : List Bool) (node : ℕ) → IsOff g off → (OnCycle g node → ⊥) → IsOff g (set off node true)
off_set g off node h n = record {
  count = length-set off node true ∙ h.count;
  none = λ v t o. elim (cases_eq v node) [
    | inl q ↦ n (rw q at o)
    | inr q ↦ h.none v (sym (get_or-set_other off node v true false q) ∙ t) o
  ];
}
