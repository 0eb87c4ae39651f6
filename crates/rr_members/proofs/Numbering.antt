-- the ids of the joined journal
use Rattle.std.proofs.Common.{◌≡◌, ◌⊎◌, inl, inr, ℕ, ◌+◌, ◌-◌, ◌<◌, ◌≤◌, ◌==◌, Bool, true, false, List, [], ◌∷◌, length, get_or, map, set, take, Option, refl, sym, ◌∙◌, ap, subst, arith}
use Rattle.std.specs.Prelude.{All, Contains, Some, None}
use Rattle.std.specs.List.{find}
use Rattle.std.specs.Option.{option_map}
use Rattle.std.proofs.lemmas.Bool.{cases_Bool, cases_eq, cond-true, cond-false}
use Rattle.std.proofs.lemmas.List.{get_or-map, get_or-set_other, get_or-set_same, get_or-take, get_or_default, get_or_read, length-map, length-set, length-take-le, take_all}
use Rattle.std.proofs.lemmas.List.Elements.{Contains-append_left, Contains-append_right, Contains-push}
use Rattle.rr_cnf.specs.Clauses.{Clauses, Literal}
use Rattle.rr_derive.specs.Derive.{Derives, Step}
use Rattle.rr_rounds.specs.declared.place.Place.{Place}
use Rattle.rr_solver.specs.Searches.{line}
use Rattle.rr_solver.specs.declared.engine.Status.{Status}
use Rattle.rr_solver.specs.declared.engine.Status.TheVariants.{Running, Model, Refuted, Failed}
use Rattle.rr_rounds.specs.States.{emptied, solved, Member, State, line_of, member}
use Rattle.rr_rounds.specs.Joined.{HasIds, IsLine, Name, id_of, in_order, joined, joined_id, joined_step, names, names_of, renumbered}
use Rattle.rr_rounds.specs.Rounds.{Reached}
use Rattle.rr_member.specs.Seats.{Seated, ending_by, member_of}
use Rattle.rr_rounds.specs.Rounds.{AreApart}
use Rattle.rr_member.specs.Sharing.{nobody, state_of}
use Rattle.rr_members.specs.Groups.{AreLong, Group, IsGroup, group_of}
use Rattle.rr_rounds.proofs.Ordered.{Numbered, no_place, numbered}
use Rattle.rr_rounds.proofs.Standing.{listed}
use Rattle.rr_rounds.proofs.Reaching.{lawful}
use Rattle.rr_rounds.proofs.Joining.{apart_of, joined_derives, name_cases}
use Rattle.rr_member.proofs.Handing.{seat_at}

-- what is read of the members
pub member_read : (round : ℕ) (seats : List Seated) (k : ℕ) → k < length (map member_of seats) → (x : Seated) → x ≡ get_or seats k x → member (state_of round seats) k ≡ member_of x
member_read round seats k h x read =
    let low : k < length seats = omega (arith, length-map seats member_of) in
    seat_at seats k low ∙ ap member_of (sym (get_or_read seats k x low read nobody))

-- the same of all members, as contracts see them
module _ (g : Group) (round : ℕ) (seats : List Seated) (failed : Bool) (is : group_of round seats failed ≡ g) where
  pub same_member : (k : ℕ) → k < length g.state.members → (x : Seated) → x ≡ get_or seats k x → member g.state k ≡ member_of x
  same_member k h x read =
      sym (ap (λ v. member v.state k) is) ∙ member_read round seats k (subst (λ v. k < length v.state.members) (sym is) h) x read

  pub reached_of : (count : ℕ) → IsGroup seats round count → Reached g.formula g.inputs (length seats) g.state
  reached_of count w = subst (λ v. Reached v.formula v.inputs (length seats) v.state) is w.reached

  pub derived_of : (count : ℕ) → IsGroup seats round count → Derives g.formula.clauses (joined g.formula g.state)
  derived_of count w = joined_derives g.formula g.inputs (length seats) g.state (reached_of count w)

  pub counted_of : (count : ℕ) → IsGroup seats round count → count ≡ length g.formula.clauses
  counted_of count w = w.counted ∙ ap (λ v. length v.formula.clauses) is

same_place : (p r : Place) → p.member ≡ r.member → p.line ≡ r.line → p ≡ r
same_place p r a b = ap (λ m. record { member = m; line = p.line }) a ∙ ap (λ l. record { member = r.member; line = l }) b

abbrev pub id_in : List (List ℕ) → Place → ℕ
id_in ids p = get_or (get_or ids p.member []) p.line 0

abbrev pub with_id : List (List ℕ) → Place → ℕ → List (List ℕ)
with_id ids p id = set ids p.member (set (get_or ids p.member []) p.line id)

-- the ids after one is put
module _ (ids : List (List ℕ)) (p : Place) (id : ℕ) (low : p.member < length ids) (inside : p.line < length (get_or ids p.member [])) where
  pub id_same : id_in (with_id ids p id) p ≡ id
  id_same = ap (λ xs. get_or xs p.line 0) (get_or-set_same ids p.member (set (get_or ids p.member []) p.line id) [] low) ∙ get_or-set_same (get_or ids p.member []) p.line id 0 inside

  pub id_other : (r : Place) → (r ≡ p → ⊥) → id_in (with_id ids p id) r ≡ id_in ids r
  id_other r ne = elim (cases_eq r.member p.member) [
    | inl e ↦ (elim (cases_eq r.line p.line) [
      | inl q ↦ absurd (ne (same_place r p e q))
      | inr q ↦
          ap (λ m. get_or (get_or (with_id ids p id) m []) r.line 0) e
          ∙ ap (λ xs. get_or xs r.line 0) (get_or-set_same ids p.member (set (get_or ids p.member []) p.line id) [] low)
          ∙ get_or-set_other (get_or ids p.member []) p.line r.line id 0 q
          ∙ ap (λ m. get_or (get_or ids m []) r.line 0) (sym e)
    ])
    | inr q ↦ ap (λ xs. get_or xs r.line 0) (get_or-set_other ids p.member r.member (set (get_or ids p.member []) p.line id) [] q)
  ]

  pub long_same : (m : ℕ) → length (get_or (with_id ids p id) m []) ≡ length (get_or ids m [])
  long_same m = elim (cases_eq m p.member) [
    | inl e ↦ ap (λ m. length (get_or (with_id ids p id) m [])) e
        ∙ ap length (get_or-set_same ids p.member (set (get_or ids p.member []) p.line id) [] low)
        ∙ length-set (get_or ids p.member []) p.line id
        ∙ ap (λ m. length (get_or ids m [])) (sym e)
    | inr q ↦ ap length (get_or-set_other ids p.member m (set (get_or ids p.member []) p.line id) [] q)
  ]

  -- a value that the id has at its own place stays wherever it was
  pub id_kept : (g : Place → ℕ) → id ≡ g p → (r : Place) → ((r ≡ p → ⊥) → id_in ids r ≡ g r) → id_in (with_id ids p id) r ≡ g r
  id_kept g is r old = elim (cases_eq r.member p.member) [
    | inl e ↦ (elim (cases_eq r.line p.line) [
      | inl q ↦ (let same = same_place r p e q in ap (id_in (with_id ids p id)) same ∙ id_same ∙ is ∙ ap g (sym same))
      | inr q ↦ (let ne : r ≡ p → ⊥ = λ z. q (ap (λ (x : Place). x.line) z) in id_other r ne ∙ old ne)
    ])
    | inr q ↦ (let ne : r ≡ p → ⊥ = λ z. q (ap (λ (x : Place). x.member) z) in id_other r ne ∙ old ne)
  ]

-- the ids of the first lines of the order are put
pub record Put (f : Clauses) (s : State) (order : List Place) (ids : List (List ℕ)) (i : ℕ) : Type 0 where
  pub count : length ids ≡ length s.members
  pub long : (m : ℕ) → m < length s.members → length (get_or ids m []) ≡ length (member s m).lines
  pub done : (q : ℕ) (d : Place) → q < i → id_in ids (get_or order q d) ≡ joined_id f s (get_or order q d)

pub Put-none : (f : Clauses) (round : ℕ) (seats : List Seated) (order : List Place) (ids : List (List ℕ)) → AreLong seats ids → Put f (state_of round seats) order ids 0
Put-none f round seats order ids a = record {
  count = a.count ∙ sym (length-map seats member_of);
  long = λ m h. let l : m < length seats = omega (arith, length-map seats member_of) in a.each m l ∙ ap (λ (x : Member). length x.lines) (sym (seat_at seats m l));
  done = λ q d h. absurd (omega arith);
}

module _ (f : Clauses) (s : State) (order : List Place) (is : order ≡ in_order s) (ids : List (List ℕ)) (i : ℕ) (w : Put f s order ids i) where
  pub put_low : (d : Place) → i < length order → (get_or order i d).member < length ids
  put_low d h = let n = numbered f s order is i d h in let a = n.line.low in let b = w.count in omega (arith, a, b)

  pub put_inside : (d : Place) → i < length order → (get_or order i d).line < length (get_or ids (get_or order i d).member [])
  put_inside d h = let n = numbered f s order is i d h in let a = n.line.inside in let b = w.long (get_or order i d).member n.line.low in omega (arith, a, b)

  pub Put-more : (p : Place) (id : ℕ) (new : List (List ℕ)) → i < length order → p ≡ get_or order i p → id ≡ length f.clauses + 1 + i → new ≡ with_id ids p id → Put f s order new (i + 1)
  Put-more p id new h read e made =
      let n = subst (Numbered f s i) (sym read) (numbered f s order is i p h) in
      let low : p.member < length ids = let a = n.line.low in let b = w.count in omega (arith, a, b) in
      let inside : p.line < length (get_or ids p.member []) = let a = n.line.inside in let b = w.long p.member n.line.low in omega (arith, a, b) in
      let own : id ≡ joined_id f s p = e ∙ sym n.id in
      subst (λ x. Put f s order x (i + 1)) (sym made) (record {
        count = length-set ids p.member (set (get_or ids p.member []) p.line id) ∙ w.count;
        long = λ m l. long_same ids p id low inside m ∙ w.long m l;
        done = λ q d l. id_kept ids p id low inside (joined_id f s) own (get_or order q d) (λ ne. elim (cases_eq q i) [
          | inl z ↦ absurd (ne (ap (λ k. get_or order k d) z ∙ get_or_default order i d p h ∙ sym read))
          | inr z ↦ w.done q d (omega (arith, z))
        ]);
      })

  pub Put-all : i ≡ length order → HasIds f s ids
  Put-all all = record {
    count = w.count;
    long = w.long;
    each = λ p l r.
        let c = subst (λ xs. Contains xs p) (sym is) (listed s p l r) in
        subst (λ x. id_in ids x ≡ joined_id f s x) c.2 (w.done c.0 p (let b = c.1 in omega (arith, b, all)));
  }

-- what is found stands in the list
find_contained : {X : Type 0} (p : X → Bool) (xs : List X) (x : X) → find p xs ≡ Some x → Contains xs x
find_contained p [] x e = let z : None ≡ Some x = e in cc
find_contained p (y ∷ ys) x e = by_cases (find_contained p ys x) (cases_Bool (p y))
  where
    by_cases : (find p ys ≡ Some x → Contains ys x) → ((p y ≡ true) ⊎ (p y ≡ false)) → Contains (y ∷ ys) x
    by_cases later (inl t) = (let q : Some y ≡ Some x = sym (cond-true (p y) (Some y) (find p ys) t) ∙ e in let same : y ≡ x = cc in subst (Contains (y ∷ ys)) same (Contains-append_left (y ∷ []) ys y (Contains-push [] y)))
    by_cases later (inr t) = Contains-append_right (y ∷ []) ys x (later (sym (cond-false (p y) (Some y) (find p ys) t) ∙ e))

pub some_named : (o : Option Name) (p : Place) → Some p ≡ option_map (λ n. n.line) o → (n : Name) × ((o ≡ Some n) × (n.line ≡ p))
some_named None p e = let z : Some p ≡ None = e in cc
some_named (Some n) p e = (n, (refl, (let z : Some p ≡ Some n.line = e in cc)))

pub none_named : (o : Option Name) → ◌≡◌ {A = Option Place} None (option_map (λ n. n.line) o) → o ≡ None
none_named None e = refl
none_named (Some n) e = let z : None ≡ Some n.line = e in cc

-- a hint's new number, read off
module _ (f : Clauses) (inputs count : ℕ) (s : State) (r : Reached f inputs count s) (m : ℕ) (low : m < length s.members) where
  pub apart_at : AreApart (member s m)
  apart_at = apart_of f inputs s (member s m) (lawful f inputs count s r m)

  pub meant_line : (h : ℕ) (p : Place) → Some p ≡ option_map (λ n. n.line) (find (λ x. x.id == h) (names_of m (member s m))) → IsLine s p × ((line_of s p).round ≤ s.round)
  meant_line h p e =
      let w = lawful f inputs count s r m in
      let x = some_named (find (λ x. x.id == h) (names_of m (member s m))) p e in
      elim (name_cases m (member s m) apart_at x.0 (find_contained (λ y. y.id == h) (names s m) x.0 x.1.0)) [
        | inl a ↦ (subst (λ p. IsLine s p × ((line_of s p).round ≤ s.round)) (ap (λ (y : Name). y.line) a.1.1 ∙ x.1.1) (record { low = low; inside = a.1.0 }, w.upto a.0 a.1.0))
        | inr b ↦ (let o = w.origins b.0 b.1.0 in subst (λ p. IsLine s p × ((line_of s p).round ≤ s.round)) (ap (λ (y : Name). y.line) b.1.1 ∙ x.1.1) (o.at, (let z = o.old in omega arith)))
      ]

  pub renumbered_some : (h : ℕ) (p : Place) (ids : List (List ℕ)) → HasIds f s ids → Some p ≡ option_map (λ n. n.line) (find (λ x. x.id == h) (names_of m (member s m))) → id_in ids p ≡ renumbered f s m h
  renumbered_some h p ids has e =
      let l = meant_line h p e in
      let x = some_named (find (λ x. x.id == h) (names_of m (member s m))) p e in
      has.each p l.0 l.1 ∙ ap (joined_id f s) (sym x.1.1) ∙ ap (id_of f s h) (sym x.1.0)

  pub renumbered_none : (h : ℕ) → ◌≡◌ {A = Option Place} None (option_map (λ n. n.line) (find (λ x. x.id == h) (names_of m (member s m)))) → h ≡ renumbered f s m h
  renumbered_none h e = ap (id_of f s h) (sym (none_named (find (λ x. x.id == h) (names_of m (member s m))) e))

-- the ids of the first lines are below the next
pub joined_below : (f : Clauses) (s : State) (order : List Place) → order ≡ in_order s → (i : ℕ) → i ≤ length order → (id : ℕ) → id ≡ length f.clauses + 1 + i → All (λ x. x.id < id) (map (joined_step f s) (take i order))
joined_below f s order is i h id e k d l =
    let size = length-map (take i order) (joined_step f s) in
    let front = length-take-le i order h in
    let inside : k < i = omega (arith, size, front) in
    let p = get_or order k (no_place) in
    let n = numbered f s order is k (no_place) (omega arith) in
    let at : get_or (map (joined_step f s) (take i order)) k d ≡ joined_step f s p = get_or-map (joined_step f s) (take i order) k (no_place) d (omega (arith, size)) ∙ ap (joined_step f s) (get_or-take i order k (no_place) inside) in
    subst (λ (x : Step). x.id < id) (sym at) (let a = n.id in omega (arith, a, e))

pub all_below : (f : Clauses) (s : State) (order : List Place) → order ≡ in_order s → (id : ℕ) → id ≡ length f.clauses + 1 + length order → All (λ x. x.id < id) (joined f s)
all_below f s order is id e =
    subst (λ ps. All (λ (x : Step). x.id < id) (map (joined_step f s) ps)) (take_all (length order) order (omega arith) ∙ is) (joined_below f s order is (length order) (omega arith) id e)

-- how the member has ended
pub emptied_by : (status : Status) (bits : List Bool) (lines : List Step) (e : Step) → ending_by status bits lines ≡ Some (emptied e) → (status ≡ Refuted) × (line lines (length lines - 1) ≡ e)
emptied_by Running bits lines e q = let z : None ≡ Some (emptied e) = q in cc
emptied_by Model bits lines e q = let z : Some (solved bits) ≡ Some (emptied e) = q in cc
emptied_by Refuted bits lines e q = (refl, (let z : Some (emptied (line lines (length lines - 1))) ≡ Some (emptied e) = q in cc))
emptied_by Failed bits lines e q = let z : None ≡ Some (emptied e) = q in cc

pub solved_by : (status : Status) (bits new : List Bool) (lines : List Step) → ending_by status bits lines ≡ Some (solved new) → (status ≡ Model) × (bits ≡ new)
solved_by Running bits new lines q = let z : None ≡ Some (solved new) = q in cc
solved_by Model bits new lines q = (refl, (let z : Some (solved bits) ≡ Some (solved new) = q in cc))
solved_by Refuted bits new lines q = let z : Some (emptied (line lines (length lines - 1))) ≡ Some (solved new) = q in cc
solved_by Failed bits new lines q = let z : None ≡ Some (solved new) = q in cc

pub same_step : {i j : ℕ} {c d : List Literal} {hs is : List ℕ} → i ≡ j → c ≡ d → hs ≡ is → ◌≡◌ {A = Step} (record { id = i; clause = c; hints = hs }) (record { id = j; clause = d; hints = is })
same_step {j = j} {c = c} {d = d} {hs = hs} p q r = ap (λ x. record { id = x; clause = c; hints = hs }) p ∙ ap (λ x. record { id = j; clause = x; hints = hs }) q ∙ ap (λ x. record { id = j; clause = d; hints = x }) r
