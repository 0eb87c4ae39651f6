-- No clocked block reads what another writes at once exactly where no name is at fault.
use Rattle.std.proofs.Common.{◌≡◌, ◌∙◌, sym, ap, subst, ℕ, zero, suc, ◌+◌, ◌<◌, ◌⊎◌, inl, inr, Bool, true, false, not, cond, ◌||◌, List, [], ◌∷◌, length, Option, None, Some, refl, arith}
use Rattle.std.specs.Prelude.{flat_map, nat_eq}
use Rattle.std.specs.List.{list_any}
use Rattle.std.proofs.lemmas.Bool.{cases_eq, eq-eqb, ne_eqb, and_parts, or_cases}
use Rattle.rr_syntax.specs.Tree.{Identifier}
use Rattle.rr_flat.specs.Lawful.{AssignedIn, NoRace}
use Rattle.rr_flat.specs.Plain.{Block, Flat}
use Rattle.rr_flat.specs.Reads.{Assigned, assigned_by, names_read}
use Rattle.rr_flat.specs.Targets.{part_name}
use Rattle.rr_flat.specs.Writers.{block_at}
use Rattle.rr_text_names.specs.Names.{is_the, variable_named}
use Rattle.rr_assign.specs.Races.{writer_of, writers_of, writers_from, is_other, raced, race_of, races_from, races}
use Rattle.rr_assign.proofs.Same.{is_the_yes}
use Rattle.rr_text_names.proofs.Covering.{Member, empty_member, member_empty}
use Rattle.rr_assign.proofs.KindLaw.{member_at, at_member, member_left, member_right, member_cases, member_map, map_member}
use Rattle.rr_text_names.proofs.Walks.{left_empty, right_empty}

-- the writers

writes_one : (flat : Flat) (k : ℕ) (b : Block) (id : ℕ) → AssignedIn flat b id true → Member (k, Some id) (writers_of flat k b)
writes_one flat k b id h =
    let a = h.1.0 in
    let rest = h.1.1 in
    let at : writer_of flat b.scope k a ≡ (k, Some id) = ap (λ o. (k, o)) (rw rest.2 rest.3) in
    subst (λ z. Member z (writers_of flat k b)) at (member_map (writer_of flat b.scope k) (assigned_by b.body) a (member_at (assigned_by b.body) h.0 a rest.0 rest.1))

one_writes : (flat : Flat) (k : ℕ) (b : Block) (w : ℕ × Option ℕ) (id : ℕ) → Member w (writers_of flat k b) → w.1 ≡ Some id → (w.0 ≡ k) × AssignedIn flat b id true
one_writes flat k b w id m h = go x.0 x.1.0 x.1.1 x.0.now refl
  where
    x : (a : Assigned) × (Member a (assigned_by b.body) × (writer_of flat b.scope k a ≡ w))
    x = map_member (writer_of flat b.scope k) (assigned_by b.body) w m

    go : (a : Assigned) → Member a (assigned_by b.body) → writer_of flat b.scope k a ≡ w → (now : Bool) → a.now ≡ now → (w.0 ≡ k) × AssignedIn flat b id true
    go a n e true is =
        let at = at_member (assigned_by b.body) a n in
        let signal : variable_named flat b.scope (part_name a.part) ≡ Some id = rw is at (ap (λ z. z.1) e ∙ h) in
        (sym (ap (λ z. z.0) e), (at.0, (a, (at.1.0, at.1.1, is, signal))))
    go a n e false is = let bad : None ≡ Some id = rw is at (ap (λ z. z.1) e ∙ h) in cc

writers_there : (flat : Flat) (k : ℕ) (bs : List Block) (j id : ℕ) → j < length bs → AssignedIn flat (block_at bs j) id true → Member (k + j, Some id) (writers_from flat k bs)
unfolding writers_from
writers_there flat k [] j id l h = absurd (omega (arith, l))
writers_there flat k (b ∷ bs) zero id l h =
    subst (λ z. Member (z, Some id) (writers_from flat k (b ∷ bs))) (omega arith) (member_left (writers_of flat k b) (writers_from flat (k + 1) bs) (k, Some id) (writes_one flat k b id h))
writers_there flat k (b ∷ bs) (suc j) id l h =
    let at : k + 1 + j ≡ k + suc j = omega arith in
    member_right (writers_of flat k b) (writers_from flat (k + 1) bs) (k + suc j, Some id) (subst (λ z. Member (z, Some id) (writers_from flat (k + 1) bs)) at (writers_there flat (k + 1) bs j id (omega (arith, l)) h))

there_writers : (flat : Flat) (k : ℕ) (bs : List Block) (w : ℕ × Option ℕ) (id : ℕ) → Member w (writers_from flat k bs) → w.1 ≡ Some id
    → (j : ℕ) × ((j < length bs) × ((w.0 ≡ k + j) × AssignedIn flat (block_at bs j) id true))
unfolding writers_from
there_writers flat k [] w id m h = absurd m
there_writers flat k (b ∷ bs) w id m h = go (member_cases (writers_of flat k b) (writers_from flat (k + 1) bs) w m) (λ n. there_writers flat (k + 1) bs w id n h)
  where
    go : Member w (writers_of flat k b) ⊎ Member w (writers_from flat (k + 1) bs)
        → (Member w (writers_from flat (k + 1) bs) → (j : ℕ) × ((j < length bs) × ((w.0 ≡ k + 1 + j) × AssignedIn flat (block_at bs j) id true)))
        → (j : ℕ) × ((j < length (b ∷ bs)) × ((w.0 ≡ k + j) × AssignedIn flat (block_at (b ∷ bs) j) id true))
    go (inl n) rec = let r = one_writes flat k b w id n h in (0, (omega arith, (let e = r.0 in omega (arith, e), r.1)))
    go (inr n) rec = let r = rec n in (suc r.0, (let l = r.1.0 in omega (arith, l), (let e = r.1.1.0 in omega (arith, e), r.1.1.1)))

-- races

any_member : {X : Type 0} (p : X → Bool) (xs : List X) → list_any p xs ≡ true → (x : X) × (Member x xs × (p x ≡ true))
any_member p [] h = cc
any_member {X} p (y ∷ ys) h = go (or_cases (p y) (list_any p ys) h) (λ e. any_member p ys e)
  where
    go : (p y ≡ true) ⊎ (list_any p ys ≡ true) → (list_any p ys ≡ true → (x : X) × (Member x ys × (p x ≡ true))) → (x : X) × (Member x (y ∷ ys) × (p x ≡ true))
    go (inl e) rec = (y, (inl refl, e))
    go (inr e) rec = let r = rec e in (r.0, (inr r.1.0, r.1.1))

member_any : {X : Type 0} (p : X → Bool) (xs : List X) (x : X) → Member x xs → p x ≡ true → list_any p xs ≡ true
member_any p [] x m h = absurd m
member_any p (y ∷ ys) x (inl e) h = rw (subst (λ z. p z ≡ true) (sym e) h) refl
member_any p (y ∷ ys) x (inr m) h = rw (member_any p ys x m h) (go (p y))
  where
    go : (b : Bool) → (b || true) ≡ true
    go true = refl
    go false = refl

other_yes : (k id : ℕ) (w : ℕ × Option ℕ) → is_other k id w ≡ true → (w.0 ≡ k → ⊥) × (w.1 ≡ Some id)
other_yes k id w h =
    let p = and_parts (not (nat_eq w.0 k)) (is_the id w.1) h in
    (λ e. let bad : false ≡ true = rw (eq-eqb w.0 k e) at p.0 in cc, is_the_yes id w.1 p.1)

yes_other : (k j id : ℕ) → (j ≡ k → ⊥) → is_other k id (j, Some id) ≡ true
yes_other k j id nay = rw (ne_eqb j k nay, eq-eqb id id refl) refl

names_at : (flat : Flat) (ws : List (ℕ × Option ℕ)) (k : ℕ) (bs : List Block) (j : ℕ) → races_from flat ws k bs ≡ [] → j < length bs
    → flat_map (race_of flat ws (k + j) (block_at bs j).scope) (names_read (block_at bs j).body) ≡ []
unfolding races_from
names_at flat ws k [] j h l = absurd (omega (arith, l))
names_at flat ws k (b ∷ bs) zero h l =
    let at : k ≡ k + 0 = omega arith in
    subst (λ z. flat_map (race_of flat ws z b.scope) (names_read b.body) ≡ []) at (left_empty (flat_map (race_of flat ws k b.scope) (names_read b.body)) (races_from flat ws (k + 1) bs) h)
names_at flat ws k (b ∷ bs) (suc j) h l =
    let at : k + 1 + j ≡ k + suc j = omega arith in
    subst (λ z. flat_map (race_of flat ws z (block_at bs j).scope) (names_read (block_at bs j).body) ≡ []) at
    (names_at flat ws (k + 1) bs j (right_empty (flat_map (race_of flat ws k b.scope) (names_read b.body)) (races_from flat ws (k + 1) bs) h) (omega (arith, l)))

at_names : (flat : Flat) (ws : List (ℕ × Option ℕ)) (k : ℕ) (bs : List Block)
    → ((j : ℕ) → j < length bs → flat_map (race_of flat ws (k + j) (block_at bs j).scope) (names_read (block_at bs j).body) ≡ []) → races_from flat ws k bs ≡ []
unfolding races_from
at_names flat ws k [] h = refl
at_names flat ws k (b ∷ bs) h =
    let at : k + 0 ≡ k = omega arith in
    let first : flat_map (race_of flat ws k b.scope) (names_read b.body) ≡ [] = subst (λ z. flat_map (race_of flat ws z b.scope) (names_read b.body) ≡ []) at (h 0 (omega arith)) in
    rw first (at_names flat ws (k + 1) bs (λ j l.
    let next : k + suc j ≡ k + 1 + j = omega arith in
    subst (λ z. flat_map (race_of flat ws z (block_at bs j).scope) (names_read (block_at bs j).body) ≡ []) next (h (suc j) (omega (arith, l)))))

pub no_race : (flat : Flat) → races flat ≡ [] → NoRace flat
no_race flat h j k lj lk id a i n l e s = go (cases_eq j k)
  where
    ws : List (ℕ × Option ℕ)
    ws = writers_from flat 0 flat.clocked

    go : (j ≡ k) ⊎ (j ≡ k → ⊥) → j ≡ k
    go (inl q) = q
    go (inr nay) =
        let b = block_at flat.clocked k in
        let m = writers_there flat 0 flat.clocked j id lj a in
        let at : 0 + j ≡ j = omega arith in
        let raced : raced ws k (Some id) ≡ true = member_any (is_other k id) ws (j, Some id) (subst (λ z. Member (z, Some id) ws) at m) (yes_other k j id nay) in
        let zero_k : 0 + k ≡ k = omega arith in
        let none = empty_member (race_of flat ws k b.scope) (names_read b.body) n (subst (λ z. flat_map (race_of flat ws z b.scope) (names_read b.body) ≡ []) zero_k (names_at flat ws 0 flat.clocked k h lk)) (member_at (names_read b.body) i n l e) in
        let bad : (n.token ∷ []) ≡ [] = rw (s, raced) at none in cc

pub race_none : (flat : Flat) → NoRace flat → races flat ≡ []
race_none flat r = at_names flat (writers_from flat 0 flat.clocked) 0 flat.clocked (λ k l. member_empty (race_of flat (writers_from flat 0 flat.clocked) (0 + k) (block_at flat.clocked k).scope) (names_read (block_at flat.clocked k).body) (λ n m. at k l n m (variable_named flat (block_at flat.clocked k).scope n.text) refl))
  where
    ws : List (ℕ × Option ℕ)
    ws = writers_from flat 0 flat.clocked

    at : (k : ℕ) → k < length flat.clocked → (n : Identifier) → Member n (names_read (block_at flat.clocked k).body) → (o : Option ℕ) → variable_named flat (block_at flat.clocked k).scope n.text ≡ o
        → cond (raced ws (0 + k) o) (n.token ∷ []) [] ≡ []
    at k l n m None e = refl
    at k l n m (Some id) e = by (raced ws (0 + k) (Some id)) refl
      where
        by : (b : Bool) → raced ws (0 + k) (Some id) ≡ b → cond b (n.token ∷ []) [] ≡ []
        by false q = refl
        by true q =
            let w = any_member (is_other (0 + k) id) ws q in
            let o = other_yes (0 + k) id w.0 w.1.1 in
            let j = there_writers flat 0 flat.clocked w.0 id w.1.0 o.1 in
            let x = at_member (names_read (block_at flat.clocked k).body) n m in
            let same : j.0 ≡ k = r j.0 k j.1.0 l id j.1.1.1 x.0 n x.1.0 x.1.1 e in
            let is : w.0.0 ≡ 0 + j.0 = j.1.1.0 in
            absurd (o.0 (omega (arith, is, same)))
