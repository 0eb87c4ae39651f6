-- states that follow one another
use Rattle.std.proofs.Common.{◌≡◌, ◌⊎◌, inl, inr, ℕ, ◌+◌, ◌<◌, ◌≤◌, List, length, get_or, take, refl, sym, ◌∙◌, ap, subst, arith}
use Rattle.std.specs.Prelude.{All, Contains, Some}
use Rattle.std.proofs.lemmas.List.{get_or-take, take_all, length-map, get_or-map}
use Rattle.std.proofs.lemmas.Bool.{cases_lt}
use Rattle.rr_cnf.specs.Clauses.{Literal, negated}
use Rattle.rr_cnf.specs.Codes.{code_of, same_code}
use Rattle.rr_trail.specs.Trails.{Forces, Entry, entry, lits, Grown}
use Rattle.rr_watch_lists.specs.Holdings.{Held, all_numbered, held_at, numbered}
use Rattle.rr_watch.specs.Lists.{watching_at, Advances, Stays, KeepsPlace, IsForcedShort, AreForcedShort, Whole, IsServed, AreServed, IsNext, IsOther, IsPlaced}
use Rattle.rr_watch.specs.declared.propagator.Propagator.{Propagator}
use Rattle.rr_trail.proofs.EntryLaws.{place_of, holds_at, take_take}

pub Grown-none : (t : List Entry) → Grown t t
Grown-none t = record { longer = omega arith; same = take_all (length t) t (omega arith); forced = λ k a b r. omega arith }

-- an entry of the older trail
pub grown_entry : (old new : List Entry) → Grown old new → (k : ℕ) → k < length old → entry new k ≡ entry old k
grown_entry old new g k h = sym (get_or-take (length old) new k _ h) ∙ ap (λ t. entry t k) g.same

pub Grown-trans : (a b c : List Entry) → Grown a b → Grown b c → Grown a c
Grown-trans a b c g h = record {
  longer = omega (arith, g.longer, h.longer);
  same = sym (take_take (length a) (length b) c g.longer) ∙ ap (take (length a)) h.same ∙ g.same;
  forced = λ k x y r. elim (cases_lt k (length b)) [
    | inl z ↦ g.forced k x z (ap (λ e. e.reason) (sym (grown_entry b c h k z)) ∙ r)
    | inr z ↦ h.forced k z y r
  ];
}

pub grown_holds : (old new : List Entry) → Grown old new → (l : Literal) → Contains (lits old) l → Contains (lits new) l
grown_holds old new g l m =
    let k = place_of old l m in
    subst (Contains (lits new)) (ap (λ e. e.lit) (grown_entry old new g k.0 k.1.0) ∙ k.1.1) (holds_at new k.0 (omega (arith, k.1.0, g.longer)))

pub Advances-none : (p : Propagator) → Advances p p
Advances-none p = record { vars = refl; depth = refl; clauses = refl; grown = Grown-none p.trail.entries }

pub Advances-trans : (a b c : Propagator) → Advances a b → Advances b c → Advances a c
Advances-trans a b c g h = record {
  vars = h.vars ∙ g.vars;
  depth = h.depth ∙ g.depth;
  clauses = h.clauses ∙ g.clauses;
  grown = Grown-trans a.trail.entries b.trail.entries c.trail.entries g.grown h.grown;
}

pub Advances-stays : (a b : Propagator) → Stays a b → Advances a b
Advances-stays a b s = record {
  vars = ap (λ t. t.vars) s.trail;
  depth = ap (λ t. t.depth) s.trail;
  clauses = s.clauses;
  grown = subst (λ t. Grown a.trail.entries t.entries) (sym s.trail) (Grown-none a.trail.entries);
}

pub KeepsPlace-none : (p : Propagator) → KeepsPlace p p
KeepsPlace-none p = record { head = refl; late = refl; short = refl; settled = refl }

pub KeepsPlace-trans : (a b c : Propagator) → KeepsPlace a b → KeepsPlace b c → KeepsPlace a c
KeepsPlace-trans a b c g h = record { head = h.head ∙ g.head; late = h.late ∙ g.late; short = h.short ∙ g.short; settled = h.settled ∙ g.settled }

pub same_length : (hs ks : List Held) → all_numbered hs ≡ all_numbered ks → length hs ≡ length ks
same_length hs ks e = sym (length-map hs numbered) ∙ ap length e ∙ length-map ks numbered

pub same_clause_at : (hs ks : List Held) (k : ℕ) → all_numbered hs ≡ all_numbered ks → k < length hs → (held_at hs k).clause ≡ (held_at ks k).clause
same_clause_at hs ks k e b =
    ap (λ n. n.clause) (sym (get_or-map numbered hs k _ (record { id = 0; clause = (held_at hs k).clause }) b) ∙ ap (λ l. get_or l k (record { id = 0; clause = (held_at hs k).clause })) e ∙ get_or-map numbered ks k _ (record { id = 0; clause = (held_at hs k).clause }) (omega (arith, b, same_length hs ks e)))

-- the short clauses stay true
pub forced_more : (old new : Propagator) → Whole old → Advances old new → new.short.items ≡ old.short.items → (n : ℕ) → n ≤ length old.short.items → AreForcedShort old n → AreForcedShort new n
forced_more old new p a e n le f s b =
    let x = f s b in
    let at : get_or new.short.items s 0 ≡ get_or old.short.items s 0 = ap (λ l. get_or l s 0) e in
    let i = (p.shorts s (omega arith)).0 in
    let same = sym (same_clause_at old.hand.held new.hand.held (get_or old.short.items s 0) (sym a.clauses) i) in
    (x.0, (subst (λ k. Contains (held_at new.hand.held k).clause x.0) (sym at) (subst (λ c. Contains c x.0) (sym same) x.1.0), grown_holds old.trail.entries new.trail.entries a.grown x.0 x.1.1))

pub forced_settled : (p : Propagator) → Whole p → AreForcedShort p p.settled
forced_settled p w s b =
    let x = w.settled_true s b in
    ((entry p.trail.entries x.place).lit, (x.member, holds_at p.trail.entries x.place x.inside))

-- one more
pub forced_next : (p : Propagator) (n : ℕ) → AreForcedShort p n → IsForcedShort p n → AreForcedShort p (n + 1)
forced_next p n f x s b = elim (cases_lt s n) [ inl y ↦ f s y | inr y ↦ (let e : n ≡ s = omega arith in subst (IsForcedShort p) e x) ]

-- the clauses that have seen it have seen it after more literals
pub served_more : (t u : List Entry) (c : List Literal) → Grown t u → IsServed t c → IsServed u c
served_more t u c g s = (s.0, (s.1.0, grown_holds t u g s.0 s.1.1))

pub served_next : (p : Propagator) (q : Literal) (at : ℕ) → AreServed p q at → IsServed p.trail.entries (watching_at p q at).clause → AreServed p q (at + 1)
served_next p q at f x i b = elim (cases_lt i at) [ inl y ↦ f i y | inr y ↦ (let e : at ≡ i = omega arith in subst (λ k. IsServed p.trail.entries (watching_at p q k).clause) e x) ]

pub other_bound : (h : Held) (q : Literal) (o : ℕ) → IsPlaced h → IsOther h q (Some o) → o < length h.clause
other_bound h q o p (inl x) = subst (λ n. n < length h.clause) (sym x.1) p.second
other_bound h q o p (inr x) = subst (λ n. n < length h.clause) (sym x.1) p.first

-- what is read of a clause at hand
pub other_same : (h : Held) (q : Literal) (c : List Literal) (first second o : ℕ) → c ≡ h.clause → first ≡ h.first → second ≡ h.second → IsOther (record { id = 0; clause = c; first = first; second = second }) q (Some o) → IsOther h q (Some o)
other_same h q c first second o e f s x =
    subst (λ n. IsOther (record { id = 0; clause = h.clause; first = h.first; second = n }) q (Some o)) s
    (subst (λ n. IsOther (record { id = 0; clause = h.clause; first = n; second = second }) q (Some o)) f
    (subst (λ d. IsOther (record { id = 0; clause = d; first = first; second = second }) q (Some o)) e x))

-- the literal that is next stays so
pub next_more : (old new : Propagator) (q : Literal) → IsNext old q → Advances old new → KeepsPlace old new → IsNext new q
next_more old new q n a k = record {
  inside = omega (arith, n.inside, k.head, a.grown.longer);
  literal = ap (λ i. (entry new.trail.entries i).lit) k.head ∙ ap (λ e. e.lit) (grown_entry old.trail.entries new.trail.entries a.grown old.head n.inside) ∙ n.literal;
}

-- the literal that is next makes its negation false
pub next_false : (p : Propagator) (q : Literal) → IsNext p q → Contains (lits p.trail.entries) (negated q)
next_false p q n = subst (Contains (lits p.trail.entries)) n.literal (holds_at p.trail.entries p.head n.inside)

-- of two literals the other one is forced
pub two_force : (p : Propagator) (q : Literal) (c : List Literal) (l : Literal) → IsNext p q → Contains c l → All (λ m. (code_of m ≡ code_of q) ⊎ (m ≡ l)) c → Forces (lits p.trail.entries) c l
two_force p q c l n m two = record {
  member = m;
  others = λ k d b. elim (two k d b) [
    | inl e ↦ inr (subst (λ x. Contains (lits p.trail.entries) (negated x)) (sym (same_code (get_or c k d) q e)) (next_false p q n))
    | inr e ↦ inl e
  ];
}
