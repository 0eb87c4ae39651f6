-- the newest clause, and what the earlier ones have seen of the trail
use Rattle.std.proofs.Common.{◌≡◌, ◌⊎◌, false, inl, inr, ℕ, ◌+◌, ◌-◌, ◌<◌, ◌≤◌, List, length, sym, ◌∙◌, ap, subst, arith}
use Rattle.std.specs.Prelude.{All, Contains, None, Option, OnOk, Some, is_some}
use Rattle.std.specs.declared.result.Result.{Result}
use Rattle.std.specs.declared.result.Result.TheVariants.{Ok, Err}
use Rattle.std.specs.declared.alloc.AllocError.{AllocError}
use Rattle.std.proofs.lemmas.List.{length-map, length_push}
use Rattle.std.proofs.lemmas.Bool.{cases_lt, true≢false}
use Rattle.rr_cnf.specs.Clauses.{Literal, negated}
use Rattle.rr_trail.specs.Trails.{Entry, Forces, Standing, entry, lits, Grown}
use Rattle.rr_watch_lists.specs.WatchLists.{WatchList}
use Rattle.rr_watch_lists.specs.Holdings.{Adds, Held, all_numbered, held_at, numbered}
use Rattle.rr_watch_lists.specs.declared.hand.Source.{Source}
use Rattle.rr_watch.specs.declared.propagator.Propagator.{Propagator}
use Rattle.rr_watch.specs.Lists.{AreAlike, IsReplacement, Excuse, HasSeen, IsAhead, IsAsserted, IsLong, IsPropagator, IsShort, KeepsSeen, Serves, Whole, first_of, newest, second_of}
use Rattle.rr_trail.proofs.EntryLaws.{holds_at, place_of}
use Rattle.rr_watch.proofs.AdvanceLaws.{grown_entry}
use Rattle.rr_watch.proofs.StateLaws.{not_both}

-- where a clause came, the others have seen what they had seen before the trail was wound back
pub ahead_now : (o r n : Propagator) (s : Source) (c : List Literal) → Whole o → r ≡ record o { head = r.head } → r.head ≤ o.head → n.head ≡ r.head → n.trail ≡ r.trail → Adds r.hand n.hand s c → KeepsSeen r n → IsAhead n o.head
ahead_now o r n s c w e low head trail adds keeps = record {
  further = omega (arith, low, head);
  inside = omega (arith, w.seen, ap (λ t. length t.entries) (trail ∙ ap (λ x. x.trail) e));
  earlier = λ k b. keeps o.head k (omega (arith, b, one_more)) (subst (λ x. HasSeen x o.head k) (sym e) (w.keeps k (omega (arith, b, one_more, same))));
}
  where
    one_more : length n.hand.held ≡ length r.hand.held + 1
    one_more = sym (length-map n.hand.held numbered) ∙ ap length adds.clauses ∙ length_push (all_numbered r.hand.held) _ ∙ ap (λ l. l + 1) (length-map r.hand.held numbered)

    same : length r.hand.held ≡ length o.hand.held
    same = ap (λ x. length x.hand.held) e

-- what a call that holds a clause leaves, where it had memory
pub ahead_held : (o r n : Propagator) (s : Source) (c : List Literal) (e : Result (Unit {0}) AllocError) → Whole o → r ≡ record o { head = r.head } → r.head ≤ o.head → n.head ≡ r.head → n.trail ≡ r.trail
    → OnOk e (Adds r.hand n.hand s c) → OnOk e (KeepsSeen r n) → OnOk e (IsAhead n o.head)
ahead_held o r n s c (Ok x) w e low head trail adds keeps = ahead_now o r n s c w e low head trail adds keeps
ahead_held o r n s c (Err x) w e low head trail adds keeps = tt

-- the trail grows
module _ (t u : List Entry) (g : Grown t u) where
  Serves-grown : (head late : ℕ) (w : Literal) (c : List Literal) → head ≤ length t → Serves t head late w c → Serves u head late w c
  Serves-grown head late w c le s = λ j h q.
      let here : j < length t = omega arith in
      let x = s j h (ap (λ y. y.lit) (sym (grown_entry t u g j here)) ∙ q) in
      record {
        place = x.place;
        inside = omega (arith, x.inside, g.longer);
        member = subst (λ y. Contains c y.lit) (sym (grown_entry t u g x.place x.inside)) x.member;
        level = λ b. let k = x.level b in omega (arith, k, ap (λ y. y.level) (grown_entry t u g x.place x.inside), ap (λ y. y.level) (grown_entry t u g j here));
      }

  IsLong-grown : (ls : List WatchList) (head late k : ℕ) (h : Held) → head ≤ length t → IsLong t ls head late k h → IsLong u ls head late k h
  IsLong-grown ls head late k h le x = record {
    placed = x.placed;
    differ = x.differ;
    first_listed = x.first_listed;
    second_listed = x.second_listed;
    first_serves = Serves-grown head late (first_of h) h.clause le x.first_serves;
    second_serves = Serves-grown head late (second_of h) h.clause le x.second_serves;
  }

-- the clauses have seen more of the trail
State-ahead : (tr : Standing) (hs : List Held) (ls : List WatchList) (short : List ℕ) (settled head late : ℕ) → IsPropagator tr hs ls short settled head late
    → (h : ℕ) → head ≤ h → h ≤ length tr.entries → ((k : ℕ) → k < length hs → IsLong tr.entries ls h late k (held_at hs k) ⊎ IsShort short k (held_at hs k).clause) → IsPropagator tr hs ls short settled h late
State-ahead tr hs ls short settled head late p h le inside all = record {
  sized = p.sized;
  few = p.few;
  lawful = p.lawful;
  fits = p.fits;
  most = p.most;
  trail_within = p.trail_within;
  forced = p.forced;
  rising = p.rising;
  within = p.within;
  keeps = all;
  listed = p.listed;
  room = p.room;
  shorts = p.shorts;
  settled_few = p.settled_few;
  settled_true = p.settled_true;
  seen = inside;
  pending = λ k a b c. p.pending k (omega arith) b c;
}

-- no literal but this one is open or true
pub no_other : (t : List Entry) (c : List Literal) (l : Literal) (r : Option ℕ) → is_some r ≡ false → IsReplacement t c l r → All (λ m. (m ≡ l) ⊎ Contains (lits t) (negated m)) c
no_other t c l None e x = x
no_other t c l (Some k) e x = absurd (true≢false e)

-- a clause at hand that has two literals
pub apart_few : (p : Propagator) (k : ℕ) → Whole p → k < length p.hand.held → (AreAlike (held_at p.hand.held k).clause → ⊥) → length (held_at p.hand.held k).clause ≤ 4294967295
apart_few p k w b n = elim (w.keeps k b) [ inl x ↦ x.placed.few | inr x ↦ absurd (n x.alike) ]

-- what is read of the newest clause
pub asserted_at : (p : Propagator) (k : ℕ) (l m : Literal) (level : ℕ) → length p.hand.held - 1 ≡ k → k < length p.hand.held → l ≡ first_of (held_at p.hand.held k) → m ≡ second_of (held_at p.hand.held k)
    → (AreAlike (held_at p.hand.held k).clause → ⊥) → Forces (lits p.trail.entries) (held_at p.hand.held k).clause l
    → ((j : ℕ) → j < length p.trail.entries → (entry p.trail.entries j).lit.var ≡ m.var → (entry p.trail.entries j).level ≡ level) → level ≡ p.trail.depth → IsAsserted p l
asserted_at p k l m level e b one two apart forces at top = record {
  some = omega (arith, b);
  first = one ∙ ap (λ i. first_of (held_at p.hand.held i)) (sym e);
  apart = subst (λ i. AreAlike (held_at p.hand.held i).clause → ⊥) (sym e) apart;
  forces = subst (λ i. Forces (lits p.trail.entries) (held_at p.hand.held i).clause l) (sym e) forces;
  late = λ j i q. at j i (ap (λ x. x.var) (q ∙ ap negated (ap (λ i. second_of (held_at p.hand.held i)) e ∙ sym two))) ∙ top;
}

-- once the newest clause's literal is true, it has seen what the others have
pub skipped : (p : Propagator) (tr : Standing) (l : Literal) (h : ℕ) → IsAhead p h → IsAsserted p l → IsPropagator tr p.hand.held p.lists p.short.items p.settled p.head p.late
    → Grown p.trail.entries tr.entries → tr.depth ≡ p.trail.depth → Contains (lits tr.entries) l → IsPropagator tr p.hand.held p.lists p.short.items p.settled h p.late
skipped p tr l h a f w g d m = State-ahead tr p.hand.held p.lists p.short.items p.settled p.head p.late w h a.further (omega (arith, a.inside, g.longer)) all
  where
    is_true : (j : ℕ) → j < h → (entry tr.entries j).lit ≡ negated (first_of (newest p)) → Excuse tr.entries p.late j (newest p).clause
    is_true j b e = absurd (not_both tr.entries tr.depth w.lawful (first_of (newest p)) (subst (Contains (lits tr.entries)) f.first m) (subst (Contains (lits tr.entries)) e (holds_at tr.entries j (omega (arith, a.inside, g.longer)))))

    is_late : (j : ℕ) → j < h → (entry tr.entries j).lit ≡ negated (second_of (newest p)) → Excuse tr.entries p.late j (newest p).clause
    is_late j b e =
        let here : j < length p.trail.entries = omega (arith, a.inside) in
        let same = grown_entry p.trail.entries tr.entries g j here in
        let top = f.late j here (ap (λ y. y.lit) (sym same) ∙ e) in
        let q = place_of tr.entries l m in
        let low = w.lawful.below q.0 q.1.0 in
        record {
          place = q.0;
          inside = q.1.0;
          member = subst (Contains (newest p).clause) (sym q.1.1) f.forces.member;
          level = λ x. omega (arith, low, top, d, ap (λ y. y.level) same);
        }

    last : (k : ℕ) → IsLong tr.entries p.lists p.head p.late k (newest p) ⊎ IsShort p.short.items k (newest p).clause → IsLong tr.entries p.lists h p.late k (newest p) ⊎ IsShort p.short.items k (newest p).clause
    last k (inl x) = inl (record { placed = x.placed; differ = x.differ; first_listed = x.first_listed; second_listed = x.second_listed; first_serves = is_true; second_serves = is_late })
    last k (inr x) = absurd (f.apart x.alike)

    all : (k : ℕ) → k < length p.hand.held → IsLong tr.entries p.lists h p.late k (held_at p.hand.held k) ⊎ IsShort p.short.items k (held_at p.hand.held k).clause
    all k b = elim (cases_lt (k + 1) (length p.hand.held)) [
      | inl x ↦ elim (a.earlier k x) [
        | inl y ↦ inl (IsLong-grown p.trail.entries tr.entries g p.lists h p.late k (held_at p.hand.held k) a.inside y)
        | inr y ↦ inr y
      ]
      | inr x ↦ (let e : length p.hand.held - 1 ≡ k = omega (arith, b, x) in
          subst (λ i. IsLong tr.entries p.lists h p.late i (held_at p.hand.held i) ⊎ IsShort p.short.items i (held_at p.hand.held i).clause) e
          (last (length p.hand.held - 1) (w.keeps (length p.hand.held - 1) (omega (arith, b)))))
    ]
