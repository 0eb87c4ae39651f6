-- where the levels of a trail begin
use Rattle.std.proofs.Common.{◌≡◌, inl, inr, ℕ, ◌+◌, ◌<◌, ◌≤◌, cond, List, [], ◌∷◌, ◌++◌, length, get_or, take, refl, sym, ◌∙◌, ap, subst, arith}
use Rattle.std.specs.Prelude.{Contains, Some, None, is_some}
use Rattle.std.proofs.lemmas.Bool.{cases_lt}
use Rattle.std.proofs.lemmas.List.{get_or_append_left, get_or-take, length-take-le, length_push, take_all}
use Rattle.std.proofs.Math.Seq.{get_or-append_seam}
use Rattle.rr_cnf.specs.Clauses.{Literal, negated}
use Rattle.rr_trail.specs.Trails.{Entry, IsCutBack, IsTrail, decisions, entry, lits}
use Rattle.rr_trail.specs.Tables.{Assigned, Begins, IsLevelled, standing}
use Rattle.rr_trail.proofs.EntryLaws.{IsTrail-push, IsTrail-take, apart_at, decisions-le, decisions_more, entry_new, entry_old, entry_take}
use Rattle.rr_trail.proofs.TableLaws.{open_apart}

pub IsTrail-none : IsTrail [] 0
IsTrail-none = record {
  apart = λ j k a h. absurd (omega arith);
  counted = λ k h. absurd (omega arith);
  deep = refl;
  rising = λ j k a h. absurd (omega arith);
  opened = λ k h. absurd (omega arith);
  below = λ k h. absurd (omega arith);
  begun = λ n a b. absurd (omega arith);
}

pub IsLevelled-new : (n : ℕ) (starts : List ℕ) (cap : ℕ) → starts ≡ [] → n ≤ 4294967294 → n ≤ cap → IsLevelled (record { vars = n; entries = [] }) starts cap
IsLevelled-new n starts cap e most room = rw e (record {
  most = most;
  few = omega arith;
  room = room;
  lawful = IsTrail-none;
  begun = λ n h. absurd (omega arith);
})

-- there are no more levels than literals
pub few_levels : (a : Assigned) (starts : List ℕ) (cap : ℕ) → IsLevelled a starts cap → length starts ≤ length a.entries
few_levels a starts cap w = omega (arith, w.lawful.deep, decisions-le a.entries)

-- where a literal came, one more fits
pub grew : (a new : Assigned) (e : Entry) → new ≡ record a { entries = a.entries ++ e ∷ [] } → length new.entries ≤ new.vars → length a.entries + 1 ≤ a.vars
grew a new e s h = let r = subst (λ v. length v.entries ≤ v.vars) s h in omega (arith, r, length_push a.entries e)

-- an open literal comes
module _ (a : Assigned) (starts : List ℕ) (cap : ℕ) (w : IsLevelled a starts cap) (l : Literal) (p : Contains (lits a.entries) l → ⊥) (q : Contains (lits a.entries) (negated l) → ⊥) where
  alone : (j : ℕ) → j < length a.entries → (entry a.entries j).lit.var ≡ l.var → ⊥
  alone = apart_at a.entries l.var (open_apart (lits a.entries) l p q)

  Begins-push : (e : Entry) (place level : ℕ) → Begins a.entries place level → Begins (a.entries ++ e ∷ []) place level
  Begins-push e place level b = record {
    inside = omega (arith, b.inside, length_push a.entries e);
    decided = ap (λ x. x.reason) (entry_old a.entries e place b.inside) ∙ b.decided;
    level = ap (λ x. x.level) (entry_old a.entries e place b.inside) ∙ b.level;
  }

  pub IsTrail-decide : IsTrail (a.entries ++ record { lit = l; level = length starts + 1; reason = None } ∷ []) (length starts + 1)
  IsTrail-decide = IsTrail-push a.entries (length starts) w.lawful (record { lit = l; level = length starts + 1; reason = None }) alone (inl (refl, refl))

  pub IsTrail-force : (id : ℕ) → IsTrail (a.entries ++ record { lit = l; level = length starts; reason = Some id } ∷ []) (length starts)
  IsTrail-force id = IsTrail-push a.entries (length starts) w.lawful (record { lit = l; level = length starts; reason = Some id }) alone (inr (refl, (id, refl)))

  pub IsLevelled-decide : (more : ℕ) → length a.entries + 1 ≤ a.vars → cap ≤ more → IsLevelled (record a { entries = a.entries ++ record { lit = l; level = length starts + 1; reason = None } ∷ [] }) (starts ++ length a.entries ∷ []) more
  IsLevelled-decide more few g = record {
    most = w.most;
    few = omega (arith, few, length_push a.entries e);
    room = omega (arith, w.room, g);
    lawful = subst (IsTrail (a.entries ++ e ∷ [])) (sym (length_push starts (length a.entries))) IsTrail-decide;
    begun = λ n h. elim (cases_lt n (length starts)) [
      | inl i ↦ subst (λ p. Begins (a.entries ++ e ∷ []) p (n + 1)) (sym (get_or_append_left starts (length a.entries ∷ []) 0 n i)) (Begins-push e (get_or starts n 0) (n + 1) (w.begun n i))
      | inr i ↦ (let last : n ≡ length starts = omega (arith, h, i, length_push starts (length a.entries)) in
          let at : get_or (starts ++ length a.entries ∷ []) n 0 ≡ length a.entries = ap (λ i. get_or (starts ++ length a.entries ∷ []) i 0) last ∙ get_or-append_seam starts (length a.entries) [] 0 in
          subst (λ p. Begins (a.entries ++ e ∷ []) p (n + 1)) (sym at) (record {
            inside = omega (arith, length_push a.entries e);
            decided = ap (λ x. x.reason) (entry_new a.entries e);
            level = ap (λ x. x.level) (entry_new a.entries e) ∙ ap (λ i. i + 1) (sym last);
          }))
    ];
  }
    where
      e : Entry
      e = record { lit = l; level = length starts + 1; reason = None }

  pub IsLevelled-force : (id : ℕ) → length a.entries + 1 ≤ a.vars → IsLevelled (record a { entries = a.entries ++ record { lit = l; level = length starts; reason = Some id } ∷ [] }) starts cap
  IsLevelled-force id few = record {
    most = w.most;
    few = omega (arith, few, length_push a.entries (record { lit = l; level = length starts; reason = Some id }));
    room = w.room;
    lawful = IsTrail-force id;
    begun = λ n h. Begins-push (record { lit = l; level = length starts; reason = Some id }) (get_or starts n 0) (n + 1) (w.begun n h);
  }

-- the levels after this one go
module _ (a : Assigned) (starts : List ℕ) (cap : ℕ) (w : IsLevelled a starts cap) (level : ℕ) (h : level < length starts) where
  abbrev pub start : ℕ
  start = get_or starts level 0

  first : Begins a.entries start (level + 1)
  first = w.begun level h

  pub start_inside : start ≤ length a.entries
  start_inside = omega (arith, first.inside)

  earlier : (k : ℕ) → k < start → (entry a.entries k).level ≤ level
  earlier k b = let z = (w.lawful.opened start first.inside first.decided).1 k b in omega (arith, z, first.level)

  later : (k : ℕ) → start ≤ k → k < length a.entries → level < (entry a.entries k).level
  later k b i = elim (cases_lt start k) [
    | inl x ↦ (let z = w.lawful.rising start k x i in omega (arith, z, first.level))
    | inr x ↦ (let z : k ≡ start = omega (arith, x, b) in let y = ap (λ i. (entry a.entries i).level) z in omega (arith, y, first.level))
  ]

  below_start : (place n : ℕ) → place < length a.entries → (entry a.entries place).level ≡ n → n ≤ level → place < start
  below_start place n i e le = elim (cases_lt place start) [ inl x ↦ x | inr x ↦ absurd (let z = later place x i in omega (arith, z, e, le)) ]

  deep : level ≡ decisions (take start a.entries)
  deep =
      let c = w.lawful.counted start first.inside in
      let m = decisions_more a.entries start first.inside in
      let one : cond (is_some (entry a.entries start).reason) 0 1 ≡ 1 = ap {B = ℕ} (λ r. cond (is_some r) 0 1) first.decided in
      omega (arith, c, m, one, first.level)

  pub IsTrail-cut : IsTrail (take start a.entries) level
  IsTrail-cut = IsTrail-take a.entries (length starts) w.lawful start start_inside level deep earlier (λ i x y.
      let q = w.lawful.begun i x (omega (arith, h, y)) in
      (q, below_start q.place i q.inside q.level y))

  pub IsLevelled-cut : (more : ℕ) → cap ≤ more → IsLevelled (record a { entries = take start a.entries }) (take level starts) more
  IsLevelled-cut more g =
      let short : length (take level starts) ≡ level = length-take-le level starts (omega (arith, h)) in
      record {
        most = w.most;
        few = omega (arith, w.few, start_inside, length-take-le start a.entries start_inside);
        room = omega (arith, w.room, g);
        lawful = subst (IsTrail (take start a.entries)) (sym short) IsTrail-cut;
        begun = λ n i.
            let b : n < level = omega (arith, i, short) in
            let o = w.begun n (omega (arith, b, h)) in
            let inside = below_start (get_or starts n 0) (n + 1) o.inside o.level (omega (arith, b)) in
            let e = entry_take a.entries (length starts) w.lawful start start_inside (get_or starts n 0) inside in
            subst (λ p. Begins (take start a.entries) p (n + 1)) (sym (get_or-take level starts n 0 b)) (record {
              inside = omega (arith, inside, length-take-le start a.entries start_inside);
              decided = ap (λ x. x.reason) e ∙ o.decided;
              level = ap (λ x. x.level) e ∙ o.level;
            });
      }

  pub IsCutBack-cut : IsCutBack (standing a (length starts)) (standing (record a { entries = take start a.entries }) (length (take level starts))) level
  IsCutBack-cut =
      let long = length-take-le start a.entries start_inside in
      record {
        vars = refl;
        depth = length-take-le level starts (omega (arith, h));
        cut = record {
          shorter = omega (arith, long, start_inside);
          front = ap (λ i. take i a.entries) (sym long);
          undone = λ k x y. later k (omega (arith, x, long)) y;
        };
      }

-- no level goes
pub IsCutBack-none : (a : Assigned) (depth level : ℕ) → depth ≡ level → IsCutBack (standing a depth) (standing a depth) level
IsCutBack-none a depth level e = record {
  vars = refl;
  depth = e;
  cut = record {
    shorter = omega arith;
    front = sym (take_all (length a.entries) a.entries (omega arith));
    undone = λ k a b. absurd (omega arith);
  };
}
