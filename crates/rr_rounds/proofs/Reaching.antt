-- each reached state is lawful
use Rattle.std.proofs.Common.{◌≡◌, ◌⊎◌, inl, inr, ℕ, suc, zero, ◌<◌, ◌==◌, not, List, [], ◌∷◌, length, get_or, map, replicate, refl, sym, ◌∙◌, ap, subst, arith}
use Rattle.std.specs.Prelude.{All}
use Rattle.std.proofs.lemmas.Bool.{and_parts, cases_eq, cases_lt, cond_both, eqb-true}
use Rattle.std.proofs.lemmas.List.{get_or-map, get_or-set_other, get_or-set_same, get_or_append_left, get_or_past, length-map, length-set, length_push}
use Rattle.std.proofs.lemmas.List.Elements.{All-append, All-filter, All-get_or, All-nil}
use Rattle.rr_cnf.specs.Clauses.{Clauses}
use Rattle.rr_rounds.specs.States.{no_taken, Learned, Member, State, Taken, idle, learned, line_of, member, nothing}
use Rattle.rr_rounds.specs.declared.place.Place.{Place}
use Rattle.rr_rounds.specs.Joined.{IsLine, flat}
use Rattle.rr_rounds.specs.Rounds.{Event, learns, solves, refutes, HandsOver, May, Move, Reached, begun, by_move, by_hand, after, is_short, moved, shared, short_here, short_of, start}
use Rattle.rr_rounds.proofs.Lawful.{Grows, IsMember, IsMember-grows, IsMember-idle, IsMember-learns, IsMember-refutes, IsMember-solves, IsMember-takes}

-- the lines stay where an event adds one
lines_after : (round : ℕ) (m : Member) (e : Event) (k : ℕ) → k < length m.lines → (k < length (after round m e).lines) × (learned (after round m e) k ≡ learned m k)
lines_after round m (learns s) k h = (omega (arith, length_push m.lines (record { round = round; step = s })), get_or_append_left m.lines (record { round = round; step = s } ∷ []) nothing k h)
lines_after round m (solves bits) k h = (h, refl)
lines_after round m (refutes s) k h = (h, refl)

module _ (s : State) (v : Move) (h : v.member < length s.members) where
  pub member_moved : member (moved s v) v.member ≡ after s.round (member s v.member) v.event
  member_moved = get_or-set_same s.members v.member (after s.round (member s v.member) v.event) idle h

  pub member_other : (m : ℕ) → (m ≡ v.member → ⊥) → member (moved s v) m ≡ member s m
  member_other m ne = get_or-set_other s.members v.member m (after s.round (member s v.member) v.event) idle ne

  pub Grows-moved : Grows s (moved s v)
  Grows-moved = record {
    round = omega arith;
    lines = λ p l. elim (cases_eq p.member v.member) [
      | inl e ↦
          (let is : member (moved s v) p.member ≡ after s.round (member s p.member) v.event = ap (member (moved s v)) e ∙ member_moved ∙ ap (λ n. after s.round (member s n) v.event) (sym e) in
          let a = lines_after s.round (member s p.member) v.event p.line l.inside in (
            record {
              low = omega (arith, l.low, length-set s.members v.member (after s.round (member s v.member) v.event));
              inside = subst (λ (m : Member). p.line < length m.lines) (sym is) a.0;
            },
            ap (λ m. learned m p.line) is ∙ a.1,
          ))
      | inr ne ↦
          (let is = member_other p.member ne in (
            record {
              low = omega (arith, l.low, length-set s.members v.member (after s.round (member s v.member) v.event));
              inside = subst (λ (m : Member). p.line < length m.lines) (sym is) l.inside;
            },
            ap (λ m. learned m p.line) is,
          ))
    ];
  }

IsMember-after : (f : Clauses) (inputs : ℕ) (s : State) (m : Member) (e : Event) → IsMember f inputs s m → May f inputs m e → IsMember f inputs s (after s.round m e)
IsMember-after f inputs s m (learns x) w may = IsMember-learns f inputs s m w x may.1.0 may.1.1 may.0
IsMember-after f inputs s m (solves bits) w may = IsMember-solves f inputs s m w bits
IsMember-after f inputs s m (refutes x) w may = IsMember-refutes f inputs s m w x may.1.0 may.1.1

-- what is shared are lines of the round
pub All-flat : {X : Type 0} (P : X → Type 0) (f : ℕ → List X) (n : ℕ) → ((i : ℕ) → i < n → All P (f i)) → All P (flat n f)
All-flat P f zero each = All-nil P
All-flat P f (suc n) each = All-append P (flat n f) (f n) (All-flat P f n (λ i h. each i (omega arith))) (each n (omega arith))

abbrev pub IsShared : State → Place → Type 0
IsShared s p = IsLine s p × ((line_of s p).round ≡ s.round)

pub all_shared : (s : State) → All (IsShared s) (shared s)
all_shared s = All-flat (IsShared s) (short_of s) (length s.members) (λ m a.
    All-flat (IsShared s) (short_here s m) (length (member s m).lines) (λ k b.
    cond_both (is_short s.round (learned (member s m) k)) (record { member = m; line = k } ∷ []) [] (All (IsShared s))
    (λ e. All-one (record { member = m; line = k }) (record { low = a; inside = b }, eqb-true (learned (member s m) k).round s.round (and_parts _ _ e).0))
    (λ e. All-nil (IsShared s))))
  where
    All-one : (p : Place) → IsShared s p → All (IsShared s) (p ∷ [])
    All-one p i zero d h = i
    All-one p i (suc k) d h = absurd (omega arith)

module _ (f : Clauses) (old new : State) (h : HandsOver f old new) where
  member_handed : (m : ℕ) (l : m < length old.members) → (member new m).lines ≡ (member old m).lines
  member_handed m l = ap (λ (x : Member). x.lines) (h.each m l).1.1

  pub Grows-handed : Grows old new
  Grows-handed = record {
    round = omega (arith, h.round);
    lines = λ p l.
        let is = member_handed p.member l.low in (
          record {
            low = omega (arith, l.low, h.count);
            inside = subst (λ (ls : List Learned). p.line < length ls) (sym is) l.inside;
          },
          ap (λ ls. get_or ls p.line nothing) is,
        );
  }

  IsMember-handed : (inputs : ℕ) (m : ℕ) → IsMember f inputs old (member old m) → IsMember f inputs new (member new m)
  IsMember-handed inputs m w = elim (cases_lt m (length old.members)) [
    | inl l ↦
        (let x = h.each m l in
        let t = x.1.0 in
        subst (IsMember f inputs new) (sym x.1.1) (IsMember-takes f inputs old (member old m) w x.0 t.ids new Grows-handed h.round (λ k i.
        let inside : k < length (map (λ (y : Taken). y.origin) x.0) = omega (arith, length-map x.0 (λ (y : Taken). y.origin)) in
        let all : All (IsShared old) (map (λ (y : Taken). y.origin) x.0) = subst (All (IsShared old)) (sym t.origins) (All-filter (λ p. not (p.member == m)) (IsShared old) (shared old) (all_shared old)) in
        let at : IsShared old (get_or x.0 k no_taken).origin = subst (IsShared old) (get_or-map (λ (y : Taken). y.origin) x.0 k no_taken (record { member = 0; line = 0 }) i) (All-get_or (IsShared old) (map (λ (y : Taken). y.origin) x.0) k (record { member = 0; line = 0 }) inside all) in
        (at.0, (at.1, t.clauses k no_taken i)))))
    | inr l ↦ subst (IsMember f inputs new) (sym (get_or_past new.members m idle (omega (arith, l, h.count)))) (IsMember-idle f inputs new)
  ]

idle_at : (n m : ℕ) → get_or (replicate n idle) m idle ≡ idle
idle_at zero m = refl
idle_at (suc n) zero = refl
idle_at (suc n) (suc m) = idle_at n m

pub lawful : (f : Clauses) (inputs count : ℕ) (s : State) → Reached f inputs count s → (m : ℕ) → IsMember f inputs s (member s m)
lawful f inputs count s begun m = subst (IsMember f inputs (start count)) (sym (idle_at count m)) (IsMember-idle f inputs (start count))
lawful f inputs count s (by_move {s = old} v r is) m = by_cases (lawful f inputs count old r m) (lawful f inputs count old r v.member) (cases_eq m v.member)
  where
    by_cases : IsMember f inputs old (member old m) → IsMember f inputs old (member old v.member) → ((m ≡ v.member) ⊎ (m ≡ v.member → ⊥)) → IsMember f inputs (moved old v) (member (moved old v) m)
    by_cases w x (inl e) = subst (λ n. IsMember f inputs (moved old v) (member (moved old v) n)) (sym e)
        (subst (IsMember f inputs (moved old v)) (sym (member_moved old v is.0))
        (IsMember-grows f inputs old (moved old v) (after old.round (member old v.member) v.event) (Grows-moved old v is.0) (IsMember-after f inputs old (member old v.member) v.event x is.1)))
    by_cases w x (inr ne) = subst (IsMember f inputs (moved old v)) (sym (member_other old v is.0 m ne)) (IsMember-grows f inputs old (moved old v) (member old m) (Grows-moved old v is.0) w)
lawful f inputs count s (by_hand {old = old} {new = new} r h) m = IsMember-handed f old new h inputs m (lawful f inputs count old r m)
