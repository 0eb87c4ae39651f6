-- the tables of an assignment
use Rattle.std.proofs.Common.{◌≡◌, ◌⊎◌, inl, inr, ℕ, suc, zero, ◌+◌, ◌-◌, ◌*◌, ◌<◌, ◌≤◌, Bool, true, false, not, cond, eqb, List, [], ◌∷◌, ◌++◌, length, get_or, map, set, take, replicate, refl, sym, ◌∙◌, ap, subst, arith}
use Rattle.std.specs.Prelude.{All, Contains}
use Rattle.std.proofs.lemmas.List.Elements.{All-push, All-nil, All-head, All-tail, All-weaker, All-take, All-get_or, Contains-push, Contains-push_cases, Contains-append_left}
use Rattle.rr_cnf.specs.Clauses.{Literal, negated, IsWithin}
use Rattle.rr_cnf.specs.Codes.{code_of, same_code}
use Rattle.std.specs.List.{AllByRecursion as ByRecursion, IsDistinct, list_any}
use Rattle.std.proofs.Math.Bool.{not-not}
use Rattle.std.proofs.lemmas.Map.Steps.{length-le_from_distinct_below}
use Rattle.std.proofs.lemmas.Bool.{ne_eqb, eqb-true, or_cases, cases_lt, cases_eq, false≢true}
use Rattle.std.proofs.lemmas.List.{length-map, length-set, length_push, length-take-le, take-map, get_or_default, get_or_append_left, get_or-map, map_push, get_or-take, length-replicate, get_or-set_same, get_or-set_other}
use Rattle.std.proofs.Math.Seq.{get_or-append_seam}
use Rattle.rr_trail.specs.Trails.{entry, lits}
use Rattle.rr_trail.specs.Tables.{AreApart, ArePlaced, Assigned, Cleared, IsTables, ReadsTrue, Represents, entries, entry_of, known_of, literal_at, unset}
use Rattle.rr_trail.specs.declared.assignment.Variable.{Variable}
use Rattle.rr_trail.proofs.EntryLaws.{All-from_contains}

pub negated-negated : (l : Literal) → negated (negated l) ≡ l
negated-negated l = ap (λ b. record { var = l.var; negative = b }) (not-not l.negative)

pub sign-cases : (a b : Bool) → (a ≡ b) ⊎ (a ≡ not b)
sign-cases true true = inl refl
sign-cases true false = inr refl
sign-cases false true = inr refl
sign-cases false false = inl refl

-- an open literal has another variable than each literal of the trail
pub open_apart : (ls : List Literal) (l : Literal) → (Contains ls l → ⊥) → (Contains ls (negated l) → ⊥) → All (λ m. m.var ≡ l.var → ⊥) ls
open_apart ls l p q = All-from_contains (λ m. m.var ≡ l.var → ⊥) ls (λ m k e. by_sign m k e (sign-cases m.negative l.negative))
  where
    by_sign : (m : Literal) → Contains ls m → m.var ≡ l.var → ((m.negative ≡ l.negative) ⊎ (m.negative ≡ not l.negative)) → ⊥
    by_sign m k e (inl s) = p (subst (Contains ls) (ap (λ x. record { var = x; negative = m.negative }) e ∙ ap (λ x. record { var = l.var; negative = x }) s) k)
    by_sign m k e (inr s) = q (subst (Contains ls) (ap (λ x. record { var = x; negative = m.negative }) e ∙ ap (λ x. record { var = l.var; negative = x }) s) k)

pub lits_entries : (vs : List Variable) (ls : List Literal) → lits (entries vs ls) ≡ ls
lits_entries vs [] = refl
lits_entries vs (l ∷ ls) = ap (λ t. l ∷ t) (lits_entries vs ls)

entries-other : (vs : List Variable) (v : ℕ) (x : Variable) (ls : List Literal) → All (λ m. m.var ≡ v → ⊥) ls → entries (set vs v x) ls ≡ entries vs ls
entries-other vs v x [] h = refl
entries-other vs v x (l ∷ ls) h =
    ap (λ q. record { lit = l; level = q.level; reason = q.reason } ∷ entries (set vs v x) ls) (get_or-set_other vs v l.var x unset (All-head (λ m. m.var ≡ v → ⊥) l ls h))
    ∙ ap (λ t. entry_of vs l ∷ t) (entries-other vs v x ls (All-tail (λ m. m.var ≡ v → ⊥) l ls h))

entries-push : (vs : List Variable) (ls : List Literal) (l : Literal) (x : Variable) → All (λ m. m.var ≡ l.var → ⊥) ls → l.var < length vs → entries (set vs l.var x) (ls ++ l ∷ []) ≡ entries vs ls ++ record { lit = l; level = x.level; reason = x.reason } ∷ []
entries-push vs ls l x h a =
    map_push (entry_of (set vs l.var x)) ls l
    ∙ ap (λ t. t ++ entry_of (set vs l.var x) l ∷ []) (entries-other vs l.var x ls h)
    ∙ ap (λ q. entries vs ls ++ record { lit = l; level = q.level; reason = q.reason } ∷ []) (get_or-set_same vs l.var x unset a)

pub entries-take : (vs : List Variable) (n : ℕ) (ls : List Literal) → entries vs (take n ls) ≡ take n (entries vs ls)
entries-take vs n ls = sym (take-map (entry_of vs) n ls)

pub length_entries : (vs : List Variable) (ls : List Literal) → length (entries vs ls) ≡ length ls
length_entries vs ls = length-map ls (entry_of vs)

pub AreApart-push : (ls : List Literal) (l : Literal) → AreApart ls → All (λ m. m.var ≡ l.var → ⊥) ls → AreApart (ls ++ l ∷ [])
AreApart-push [] l a h = (All-nil (λ m. l.var ≡ m.var → ⊥), tt)
AreApart-push (k ∷ ls) l a h =
    (All-push (λ m. k.var ≡ m.var → ⊥) ls l a.0 (All-head (λ m. m.var ≡ l.var → ⊥) k ls h), AreApart-push ls l a.1 (All-tail (λ m. m.var ≡ l.var → ⊥) k ls h))

apart_codes : (v : ℕ) (ls : List Literal) → All (λ m. v ≡ m.var → ⊥) ls → ByRecursion (λ y. eqb v y ≡ false) (map (λ l. l.var) ls)
apart_codes v [] h = tt
apart_codes v (l ∷ ls) h = (ne_eqb v l.var (All-head (λ m. v ≡ m.var → ⊥) l ls h), apart_codes v ls (All-tail (λ m. v ≡ m.var → ⊥) l ls h))

distinct_vars : (ls : List Literal) → AreApart ls → IsDistinct eqb (map (λ l. l.var) ls)
unfolding IsDistinct
distinct_vars [] a = tt
distinct_vars (l ∷ ls) a = (apart_codes l.var ls a.0, distinct_vars ls a.1)

distinct_with_zero : (n : ℕ) (ls : List Literal) → AreApart ls → All (IsWithin n) ls → IsDistinct eqb (0 ∷ map (λ l. l.var) ls)
unfolding IsDistinct
distinct_with_zero n ls a w = (apart_codes 0 ls (All-weaker (IsWithin n) (λ m. 0 ≡ m.var → ⊥) (λ m k e. omega arith) ls w), distinct_vars ls a)

vars_below : (n : ℕ) (ls : List Literal) → All (IsWithin n) ls → (q : ℕ) → list_any (eqb q) (map (λ l. l.var) ls) ≡ true → q < n + 1
vars_below n [] w q e = absurd (false≢true e)
vars_below n (l ∷ ls) w q e =
    let here = All-head (IsWithin n) l ls w in
    let rest = vars_below n ls (All-tail (IsWithin n) l ls w) q in
    elim (or_cases (eqb q l.var) (list_any (eqb q) (map (λ l. l.var) ls)) e) [ inl t ↦ (let k = eqb-true q l.var t in omega arith) | inr t ↦ rest t ]

-- literals of different variables are at most as many as the variables
pub trail_room : (n : ℕ) (ls : List Literal) → AreApart ls → All (IsWithin n) ls → length ls ≤ n
trail_room n ls a w =
    let below : (q : ℕ) → list_any (eqb q) (0 ∷ map (λ l. l.var) ls) ≡ true → q < n + 1 = λ q e. elim (or_cases (eqb q 0) (list_any (eqb q) (map (λ l. l.var) ls)) e) [ inl t ↦ (let k = eqb-true q 0 t in omega arith) | inr t ↦ vars_below n ls w q t ] in
    let h = length-le_from_distinct_below (0 ∷ map (λ l. l.var) ls) (n + 1) (distinct_with_zero n ls a w) below in
    omega (arith, length-map ls (λ l. l.var))

AreApart-take : (n : ℕ) (ls : List Literal) → AreApart ls → AreApart (take n ls)
AreApart-take zero ls a = tt
AreApart-take (suc n) [] a = tt
AreApart-take (suc n) (l ∷ ls) a = (All-take (λ m. l.var ≡ m.var → ⊥) n ls a.0, AreApart-take n ls a.1)

-- what the table reads
reads_false : (n i : ℕ) → get_or (replicate n false) i false ≡ false
reads_false zero i = refl
reads_false (suc n) zero = refl
reads_false (suc n) (suc i) = reads_false n i

Represents-none : (m : List Bool) (n : ℕ) → m ≡ replicate n false → Represents m []
Represents-none m n e l = (
  λ r. absurd (false≢true (sym (reads_false n (code_of l)) ∙ ap (λ t. get_or t (code_of l) false) (sym e) ∙ r)),
  λ c. absurd (omega (arith, c.1)),
)

Represents-push : (m : List Bool) (ls : List Literal) (l : Literal) → Represents m ls → code_of l < length m → Represents (set m (code_of l) true) (ls ++ l ∷ [])
Represents-push m ls l r h k = (to (cases_eq (code_of k) (code_of l)), from)
  where
    here : code_of k ≡ code_of l → ReadsTrue (set m (code_of l) true) k
    here e = ap (λ i. get_or (set m (code_of l) true) i false) e ∙ get_or-set_same m (code_of l) true false h

    to : ((code_of k ≡ code_of l) ⊎ (code_of k ≡ code_of l → ⊥)) → ReadsTrue (set m (code_of l) true) k → Contains (ls ++ l ∷ []) k
    to (inl e) q = subst (Contains (ls ++ l ∷ [])) (sym (same_code k l e)) (Contains-push ls l)
    to (inr n) q = Contains-append_left ls (l ∷ []) k ((r k).0 (sym (get_or-set_other m (code_of l) (code_of k) true false n) ∙ q))

    old : ((code_of k ≡ code_of l) ⊎ (code_of k ≡ code_of l → ⊥)) → Contains ls k → ReadsTrue (set m (code_of l) true) k
    old (inl e) c = here e
    old (inr n) c = get_or-set_other m (code_of l) (code_of k) true false n ∙ (r k).1 c

    from : Contains (ls ++ l ∷ []) k → ReadsTrue (set m (code_of l) true) k
    from c = elim (Contains-push_cases ls l k c) [ inl a ↦ old (cases_eq (code_of k) (code_of l)) a | inr e ↦ here (ap code_of (sym e)) ]

-- literals that are taken away
pub Cleared-none : (m : List Bool) (ls : List Literal) (n : ℕ) → Cleared m m ls n n
Cleared-none m ls n = record { long = refl; none = λ k a b. absurd (omega arith); kept = λ l r. r; others = λ l a r. r }

pub Cleared-more : (old now : List Bool) (ls : List Literal) (from to : ℕ) → code_of (literal_at ls to) < length old → from ≤ to → Cleared old now ls from to → Cleared old (set now (code_of (literal_at ls to)) false) ls from (to + 1)
Cleared-more old now ls from to h le w = record {
  long = length-set now code false ∙ w.long;
  none = λ k a b. none k a b (cases_eq (code_of (literal_at ls k)) code);
  kept = λ l r. kept l r (cases_eq (code_of l) code);
  others = λ l a r. others l a (w.others l (λ k x y. a k x (omega arith)) r) (cases_eq (code_of l) code);
}
  where
    code : ℕ
    code = code_of (literal_at ls to)

    gone : (l : Literal) → code_of l ≡ code → ReadsTrue (set now code false) l → ⊥
    gone l e r = false≢true (sym (get_or-set_same now code false false (omega (arith, h, w.long))) ∙ ap (λ i. get_or (set now code false) i false) (sym e) ∙ r)

    none : (k : ℕ) → from ≤ k → k < to + 1 → ((code_of (literal_at ls k) ≡ code) ⊎ (code_of (literal_at ls k) ≡ code → ⊥)) → ReadsTrue (set now code false) (literal_at ls k) → ⊥
    none k a b (inl e) = gone (literal_at ls k) e
    none k a b (inr n) = λ r. w.none k a (let q : k ≡ to → ⊥ = λ e. n (ap (λ i. code_of (literal_at ls i)) e) in omega (arith, q)) (sym (get_or-set_other now code (code_of (literal_at ls k)) false false n) ∙ r)

    kept : (l : Literal) → ReadsTrue (set now code false) l → ((code_of l ≡ code) ⊎ (code_of l ≡ code → ⊥)) → ReadsTrue old l
    kept l r (inl e) = absurd (gone l e r)
    kept l r (inr n) = w.kept l (sym (get_or-set_other now code (code_of l) false false n) ∙ r)

    others : (l : Literal) → ((k : ℕ) → from ≤ k → k < to + 1 → literal_at ls k ≡ l → ⊥) → ReadsTrue now l → ((code_of l ≡ code) ⊎ (code_of l ≡ code → ⊥)) → ReadsTrue (set now code false) l
    others l a r (inl e) = absurd (a to le (omega arith) (sym (same_code l (literal_at ls to) e)))
    others l a r (inr n) = get_or-set_other now code (code_of l) false false n ∙ r

-- each place has its own variable
own_var : (vs : List Variable) (ls : List Literal) → ArePlaced vs ls → (j k : ℕ) → j < length ls → k < length ls → (literal_at ls j).var ≡ (literal_at ls k).var → j ≡ k
own_var vs ls p j k a b e = sym (p j a) ∙ ap (λ v. (known_of vs v).place) e ∙ p k b

found_at : (ls : List Literal) (l : Literal) (c : Contains ls l) → literal_at ls c.0 ≡ l
found_at ls l c = get_or_default ls c.0 _ l c.1 ∙ c.2

Represents-cut : (m new : List Bool) (vs : List Variable) (ls : List Literal) (n : ℕ) → n ≤ length ls → ArePlaced vs ls → Cleared m new ls n (length ls) → Represents m ls → Represents new (take n ls)
Represents-cut m new vs ls n le p w r l = (to, from)
  where
    to : ReadsTrue new l → Contains (take n ls) l
    to q =
        let c = (r l).0 (w.kept l q) in
        elim (cases_lt c.0 n) [
          | inl h ↦ (c.0, omega (arith, h, length-take-le n ls le), get_or-take n ls c.0 l h ∙ c.2)
          | inr h ↦ absurd (w.none c.0 h c.1 (subst (ReadsTrue new) (sym (found_at ls l c)) q))
        ]

    from : Contains (take n ls) l → ReadsTrue new l
    from c =
        let h : c.0 < n = omega (arith, c.1, length-take-le n ls le) in
        let d : Contains ls l = (c.0, omega (arith, h, le), sym (get_or-take n ls c.0 l h) ∙ c.2) in
        w.others l (λ k a b e. let q = own_var vs ls p k d.0 b d.1 (ap (λ x. x.var) (e ∙ sym (found_at ls l d))) in omega (arith, q, h)) ((r l).1 d)

-- places
ArePlaced-push : (vs : List Variable) (ls : List Literal) (l : Literal) (x : Variable) → All (λ m. m.var ≡ l.var → ⊥) ls → l.var < length vs → x.place ≡ length ls → ArePlaced vs ls → ArePlaced (set vs l.var x) (ls ++ l ∷ [])
ArePlaced-push vs ls l x alone h e p k b = elim (cases_lt k (length ls)) [
  | inl i ↦ (let q = get_or_append_left ls (l ∷ []) (record { var = 0; negative = false }) k i in
      let n = All-get_or (λ m. m.var ≡ l.var → ⊥) ls k (record { var = 0; negative = false }) i alone in
      ap (λ m. (known_of (set vs l.var x) m.var).place) q ∙ ap (λ y. y.place) (get_or-set_other vs l.var (literal_at ls k).var x unset n) ∙ p k i)
  | inr i ↦ (let last : k ≡ length ls = omega (arith, b, i, length_push ls l) in
      ap (λ i. (known_of (set vs l.var x) (literal_at (ls ++ l ∷ []) i).var).place) last
      ∙ ap (λ m. (known_of (set vs l.var x) m.var).place) (get_or-append_seam ls l [] (record { var = 0; negative = false }))
      ∙ ap (λ y. y.place) (get_or-set_same vs l.var x unset h) ∙ e ∙ sym last)
]

ArePlaced-take : (vs : List Variable) (ls : List Literal) (n : ℕ) → n ≤ length ls → ArePlaced vs ls → ArePlaced vs (take n ls)
ArePlaced-take vs ls n le p k b =
    let h : k < n = omega (arith, b, length-take-le n ls le) in
    ap (λ m. (known_of vs m.var).place) (get_or-take n ls k (record { var = 0; negative = false }) h) ∙ p k (omega (arith, h, le))

-- the code of a literal in range
pub code_in_table : (m : List Bool) (vs : List Variable) (ls : List Literal) (cap : ℕ) → IsTables m vs ls cap → (l : Literal) → IsWithin (length vs - 1) l → code_of l < length m
code_in_table m vs ls cap w l within = by_sign l.negative
  where
    by_sign : (b : Bool) → 2 * l.var + cond b 1 0 < length m
    by_sign true = omega (arith, within.0, within.1, w.some, w.twice)
    by_sign false = omega (arith, within.0, within.1, w.some, w.twice)

-- what callers see, of the tables
module _ (vs : List Variable) (ls : List Literal) (a : Assigned) (e : record { vars = length vs - 1; entries = entries vs ls } ≡ a) where
  pub held_is : ls ≡ lits a.entries
  held_is = sym (lits_entries vs ls) ∙ ap (λ v. lits v.entries) e

  pub within_in : (l : Literal) → IsWithin a.vars l → IsWithin (length vs - 1) l
  within_in l = subst (λ v. IsWithin v.vars l) (sym e)

  pub open_in : (l : Literal) → (Contains (lits a.entries) l → ⊥) → Contains ls l → ⊥
  open_in l p = subst (λ t. Contains t l → ⊥) (sym held_is) p

-- an open literal becomes true
module _ (m : List Bool) (vs : List Variable) (ls : List Literal) (cap : ℕ) (l : Literal) (w : IsTables m vs ls cap) (within : IsWithin (length vs - 1) l) (p : Contains ls l → ⊥) (q : Contains ls (negated l) → ⊥) where
  alone : All (λ m. m.var ≡ l.var → ⊥) ls
  alone = open_apart ls l p q

  pub var_inside : l.var < length vs
  var_inside = omega (arith, within.0, within.1, w.some)

  pub code_inside : code_of l < length m
  code_inside = code_in_table m vs ls cap w l within

  pub pushed : (x : Variable) → entries (set vs l.var x) (ls ++ l ∷ []) ≡ entries vs ls ++ record { lit = l; level = x.level; reason = x.reason } ∷ []
  pushed x = entries-push vs ls l x alone var_inside

  pub pushed_room : length ls + 1 ≤ length vs - 1
  pushed_room =
      let r = trail_room (length vs - 1) (ls ++ l ∷ []) (AreApart-push ls l w.apart alone) (All-push (IsWithin (length vs - 1)) ls l w.within within) in
      omega (arith, r, length_push ls l)

  pub IsTables-push : (x : Variable) (more : ℕ) → x.place ≡ length ls → cap ≤ more → IsTables (set m (code_of l) true) (set vs l.var x) (ls ++ l ∷ []) more
  IsTables-push x more e g =
      let n = length-set vs l.var x in
      record {
        some = rw n w.some;
        most = rw n w.most;
        twice = rw (n, length-set m (code_of l) true) w.twice;
        within = rw n (All-push (IsWithin (length vs - 1)) ls l w.within within);
        apart = AreApart-push ls l w.apart alone;
        told = Represents-push m ls l w.told code_inside;
        placed = ArePlaced-push vs ls l x alone var_inside e w.placed;
        room = rw n (omega (arith, w.room, g));
      }

-- the first literals stay
pub IsTables-cut : (m new : List Bool) (vs : List Variable) (ls : List Literal) (cap more n : ℕ) → IsTables m vs ls cap → n ≤ length ls → cap ≤ more → Cleared m new ls n (length ls) → IsTables new vs (take n ls) more
IsTables-cut m new vs ls cap more n w le g c = record {
  some = w.some;
  most = w.most;
  twice = c.long ∙ w.twice;
  within = All-take (IsWithin (length vs - 1)) n ls w.within;
  apart = AreApart-take n ls w.apart;
  told = Represents-cut m new vs ls n le w.placed c w.told;
  placed = ArePlaced-take vs ls n le w.placed;
  room = omega (arith, w.room, g);
}

pub IsTables-new : (m : List Bool) (vs : List Variable) (ls : List Literal) (cap n : ℕ) → m ≡ replicate (2 * (n + 1)) false → n ≤ 4294967294 → length vs ≡ n + 1 → ls ≡ [] → n ≤ cap → IsTables m vs ls cap
IsTables-new m vs ls cap n e most a none h =
    let long : length m ≡ 2 * (n + 1) = ap length e ∙ length-replicate (2 * (n + 1)) false in
    rw none (record {
      some = omega (arith, a);
      most = omega (arith, a, most);
      twice = omega (arith, a, long);
      within = All-nil (IsWithin (length vs - 1));
      apart = tt;
      told = Represents-none m (2 * (n + 1)) e;
      placed = λ k b. absurd (omega arith);
      room = omega (arith, a, h);
    })

pub room_at : (m : List Bool) (vs : List Variable) (ls : List Literal) (cap : ℕ) → IsTables m vs ls cap → length (entries vs ls) ≤ length vs - 1
room_at m vs ls cap w = omega (arith, trail_room (length vs - 1) ls w.apart w.within, length-map ls (entry_of vs))

-- what is known of an assigned literal
module _ (vs : List Variable) (ls : List Literal) (k v : ℕ) (h : k < length (entries vs ls)) (e : (entry (entries vs ls) k).lit.var ≡ v) (x : Variable) (i : v < length vs) (q : x ≡ get_or vs v x) where
  short : k < length ls
  short = omega (arith, h, length-map ls (entry_of vs))

  at_read : entry (entries vs ls) k ≡ entry_of vs (literal_at ls k)
  at_read = get_or-map (entry_of vs) ls k _ _ short

  same_var : (literal_at ls k).var ≡ v
  same_var = sym (ap (λ z. z.lit.var) at_read) ∙ e

  known : known_of vs (literal_at ls k).var ≡ x
  known = ap (known_of vs) same_var ∙ get_or_default vs v unset x i ∙ sym q

  pub level_at : (entry (entries vs ls) k).level ≡ x.level
  level_at = ap (λ z. z.level) at_read ∙ ap (λ z. z.level) known

  pub reason_at : (entry (entries vs ls) k).reason ≡ x.reason
  reason_at = ap (λ z. z.reason) at_read ∙ ap (λ z. z.reason) known

  pub place_at : ArePlaced vs ls → x.place ≡ k
  place_at p = ap (λ z. z.place) (sym known) ∙ p k short
