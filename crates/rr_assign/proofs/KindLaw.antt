-- Each variable has one kind exactly where no target is at fault.
use Rattle.std.proofs.Common.{◌≡◌, ◌∙◌, sym, ap, subst, ℕ, zero, suc, ◌+◌, ◌<◌, ◌⊎◌, inl, inr, Bool, true, false, not, cond, ◌&&◌, List, [], ◌∷◌, ◌++◌, length, map, get_or, Option, None, Some, refl, arith, append_assoc, append-nil}
use Rattle.std.specs.Prelude.{flat_map, All, nat_eq}
use Rattle.std.specs.List.{list_any}
use Rattle.std.proofs.lemmas.Bool.{eqb-true, eq-eqb, or_parts}
use Rattle.rr_flat.specs.declared.design.Part as design
use Rattle.rr_flat.specs.declared.design.Part.TheVariants as part
use Rattle.rr_flat.specs.Lawful.{AssignedIn, AssignedSomewhere, RightKinds}
use Rattle.rr_flat.specs.Plain.{Flat}
use Rattle.rr_flat.specs.Reads.{Assigned, assigned_by}
use Rattle.rr_flat.specs.Sound.{IsPart}
use Rattle.rr_flat.specs.Writers.{block_at}
use Rattle.rr_assign.specs.Kinds.{Aim, aim_of, is_combinational, aims_of_part, aims, same_signal, differs, clashes, wrong_after, wrong_kinds}
use Rattle.rr_flat.specs.Parts.{block_of}
use Rattle.rr_text_names.proofs.Covering.{HasWalk, Member, all_member, clocked_member, combinational_member}
use Rattle.rr_text_names.proofs.Walks.{left_empty, right_empty}

-- members of lists

pub member_left : {X : Type 0} (xs ys : List X) (x : X) → Member x xs → Member x (xs ++ ys)
member_left [] ys x m = absurd m
member_left (z ∷ xs) ys x (inl e) = inl e
member_left (z ∷ xs) ys x (inr m) = inr (member_left xs ys x m)

pub member_right : {X : Type 0} (xs ys : List X) (x : X) → Member x ys → Member x (xs ++ ys)
member_right [] ys x m = m
member_right (z ∷ xs) ys x m = inr (member_right xs ys x m)

pub member_cases : {X : Type 0} (xs ys : List X) (x : X) → Member x (xs ++ ys) → Member x xs ⊎ Member x ys
member_cases [] ys x m = inr m
member_cases (z ∷ xs) ys x (inl e) = inl (inl e)
member_cases (z ∷ xs) ys x (inr m) = go (member_cases xs ys x m)
  where
    go : Member x xs ⊎ Member x ys → ((z ≡ x) ⊎ Member x xs) ⊎ Member x ys
    go (inl k) = inl (inr k)
    go (inr k) = inr k

pub member_flat : {X Y : Type 0} (f : X → List Y) (xs : List X) (x : X) (y : Y) → Member x xs → Member y (f x) → Member y (flat_map f xs)
member_flat f [] x y m n = absurd m
member_flat f (z ∷ xs) x y (inl e) n = member_left (f z) (flat_map f xs) y (subst (λ w. Member y (f w)) (sym e) n)
member_flat f (z ∷ xs) x y (inr m) n = member_right (f z) (flat_map f xs) y (member_flat f xs x y m n)

pub flat_member : {X Y : Type 0} (f : X → List Y) (xs : List X) (y : Y) → Member y (flat_map f xs) → (x : X) × (Member x xs × Member y (f x))
flat_member f [] y m = absurd m
flat_member {X} f (z ∷ xs) y m = go (member_cases (f z) (flat_map f xs) y m) (λ k. flat_member f xs y k)
  where
    go : Member y (f z) ⊎ Member y (flat_map f xs) → (Member y (flat_map f xs) → (x : X) × (Member x xs × Member y (f x))) → (x : X) × (Member x (z ∷ xs) × Member y (f x))
    go (inl k) rec = (z, (inl refl, k))
    go (inr k) rec = let h = rec k in (h.0, (inr h.1.0, h.1.1))

pub member_map : {X Y : Type 0} (f : X → Y) (xs : List X) (x : X) → Member x xs → Member (f x) (map f xs)
member_map f [] x m = absurd m
member_map f (z ∷ xs) x (inl e) = inl (ap f e)
member_map f (z ∷ xs) x (inr m) = inr (member_map f xs x m)

pub map_member : {X Y : Type 0} (f : X → Y) (xs : List X) (y : Y) → Member y (map f xs) → (x : X) × (Member x xs × (f x ≡ y))
map_member f [] y m = absurd m
map_member f (z ∷ xs) y (inl e) = (z, (inl refl, e))
map_member f (z ∷ xs) y (inr m) = let h = map_member f xs y m in (h.0, (inr h.1.0, h.1.1))

pub member_at : {X : Type 0} (xs : List X) (i : ℕ) (x : X) → i < length xs → get_or xs i x ≡ x → Member x xs
member_at [] i x l e = absurd (omega (arith, l))
member_at (z ∷ xs) zero x l e = inl e
member_at (z ∷ xs) (suc i) x l e = inr (member_at xs i x (omega (arith, l)) e)

pub at_member : {X : Type 0} (xs : List X) (x : X) → Member x xs → (i : ℕ) × ((i < length xs) × (get_or xs i x ≡ x))
at_member [] x m = absurd m
at_member (z ∷ xs) x (inl e) = (0, (omega arith, e))
at_member (z ∷ xs) x (inr m) = let h = at_member xs x m in (suc h.0, (let l = h.1.0 in omega (arith, l), h.1.1))

-- lists of targets in which each variable has one kind

abbrev Clash : Aim → Aim → Bool
Clash b a = same_signal b.signal a.signal && differs b.now a.now

abbrev Alone : Aim → Bool
Alone a = a.combinational && not a.now

same_back : (a b : Option ℕ) → same_signal a b ≡ same_signal b a
same_back None None = refl
same_back None (Some b) = refl
same_back (Some a) None = refl
same_back (Some a) (Some b) = go (nat_eq a b) refl (nat_eq b a) refl
  where
    go : (x : Bool) → nat_eq a b ≡ x → (y : Bool) → nat_eq b a ≡ y → nat_eq a b ≡ nat_eq b a
    go true p true q = p ∙ sym q
    go false p false q = p ∙ sym q
    go true p false q = let bad : true ≡ false = sym (eq-eqb b a (sym (eqb-true a b p))) ∙ q in cc
    go false p true q = let bad : true ≡ false = sym (eq-eqb a b (sym (eqb-true b a q))) ∙ p in cc

differs_back : (a b : Bool) → differs a b ≡ differs b a
differs_back true true = refl
differs_back true false = refl
differs_back false true = refl
differs_back false false = refl

differs_same : (a : Bool) → differs a a ≡ false
differs_same true = refl
differs_same false = refl

clash_back : (a b : Aim) → Clash b a ≡ false → Clash a b ≡ false
clash_back a b h = rw (same_back a.signal b.signal, differs_back a.now b.now) h

clash_self : (a : Aim) → Clash a a ≡ false
clash_self a = rw (differs_same a.now) (go (same_signal a.signal a.signal))
  where
    go : (b : Bool) → (b && false) ≡ false
    go true = refl
    go false = refl

pub record AreFine (xs : List Aim) : Type 0 where
  pub alone : (a : Aim) → Member a xs → Alone a ≡ false
  pub pairs : (a b : Aim) → Member a xs → Member b xs → Clash b a ≡ false

pub none_any : (p : Aim → Bool) (xs : List Aim) → list_any p xs ≡ false → (x : Aim) → Member x xs → p x ≡ false
none_any p [] h x m = absurd m
none_any p (y ∷ ys) h x (inl e) = subst (λ z. p z ≡ false) e (or_parts (p y) (list_any p ys) h).0
none_any p (y ∷ ys) h x (inr n) = none_any p ys (or_parts (p y) (list_any p ys) h).1 x n

pub any_none : (p : Aim → Bool) (xs : List Aim) → ((x : Aim) → Member x xs → p x ≡ false) → list_any p xs ≡ false
any_none p [] h = refl
any_none p (y ∷ ys) h = rw (h y (inl refl), any_none p ys (λ x m. h x (inr m))) refl

pub fine_nothing : AreFine []
fine_nothing = record { alone = λ a m. absurd m; pairs = λ a b m. absurd m }

pub fine_more : (before : List Aim) (a : Aim) → AreFine before → clashes before a ≡ false → AreFine (before ++ a ∷ [])
fine_more before a f h = record { alone = alone; pairs = pairs }
  where
    parts : (Alone a ≡ false) × (list_any (λ b. Clash b a) before ≡ false)
    parts = or_parts (Alone a) (list_any (λ b. Clash b a) before) h

    is : (x : Aim) → Member x (a ∷ []) → a ≡ x
    is x (inl e) = e
    is x (inr m) = absurd m

    alone : (x : Aim) → Member x (before ++ a ∷ []) → Alone x ≡ false
    alone x m = go (member_cases before (a ∷ []) x m)
      where
        go : Member x before ⊎ Member x (a ∷ []) → Alone x ≡ false
        go (inl k) = f.alone x k
        go (inr k) = subst (λ z. Alone z ≡ false) (is x k) parts.0

    pairs : (x y : Aim) → Member x (before ++ a ∷ []) → Member y (before ++ a ∷ []) → Clash y x ≡ false
    pairs x y m n = go (member_cases before (a ∷ []) x m) (member_cases before (a ∷ []) y n)
      where
        go : Member x before ⊎ Member x (a ∷ []) → Member y before ⊎ Member y (a ∷ []) → Clash y x ≡ false
        go (inl k) (inl l) = f.pairs x y k l
        go (inr k) (inl l) = subst (λ z. Clash y z ≡ false) (is x k) (none_any (λ b. Clash b a) before parts.1 y l)
        go (inl k) (inr l) = subst (λ z. Clash z x ≡ false) (is y l) (clash_back a x (none_any (λ b. Clash b a) before parts.1 x k))
        go (inr k) (inr l) = subst (λ z. Clash y z ≡ false) (is x k) (subst (λ z. Clash z a ≡ false) (is y l) (clash_self a))

pub fine_all : (before rest : List Aim) → AreFine before → wrong_after before rest ≡ [] → AreFine (before ++ rest)
unfolding wrong_after
fine_all before [] f h = rw (append-nil before) f
fine_all before (a ∷ rest) f h =
    subst AreFine (append_assoc before (a ∷ []) rest)
    (fine_all (before ++ a ∷ []) rest (fine_more before a f (go (clashes before a) (left_empty (cond (clashes before a) (a.token ∷ []) []) (wrong_after (before ++ a ∷ []) rest) h)))
    (right_empty (cond (clashes before a) (a.token ∷ []) []) (wrong_after (before ++ a ∷ []) rest) h))
  where
    go : (b : Bool) → cond b (a.token ∷ []) [] ≡ [] → b ≡ false
    go true e = cc
    go false e = refl

pub all_fine : (before rest : List Aim) → AreFine (before ++ rest) → wrong_after before rest ≡ []
unfolding wrong_after
all_fine before [] f = refl
all_fine before (a ∷ rest) f =
    rw (none) (all_fine (before ++ a ∷ []) rest (subst AreFine (sym (append_assoc before (a ∷ []) rest)) f))
  where
    here : Member a (before ++ (a ∷ rest))
    here = member_right before (a ∷ rest) a (inl refl)

    none : clashes before a ≡ false
    none = rw (f.alone a here, any_none (λ b. Clash b a) before (λ b m. f.pairs a b here (member_left before (a ∷ rest) b m))) refl

-- the targets of a design

-- a target of a block that assigns a variable by a kind
aim_there : (flat : Flat) (p : design.Part) (id : ℕ) (now : Bool) → AssignedIn flat (block_of flat p) id now
    → (a : Aim) × (Member a (aims_of_part flat p) × ((a.signal ≡ Some id) × (a.now ≡ now)))
aim_there flat p id now h =
    let b = block_of flat p in
    let a = h.1.0 in
    let rest = h.1.1 in (
      aim_of flat b.scope (is_combinational p) a,
      (
        member_map (aim_of flat b.scope (is_combinational p)) (assigned_by b.body) a (member_at (assigned_by b.body) h.0 a rest.0 rest.1),
        (rest.3, rest.2),
      ),
    )

there_aim : (flat : Flat) (p : design.Part) (a : Aim) (id : ℕ) → Member a (aims_of_part flat p) → a.signal ≡ Some id → AssignedIn flat (block_of flat p) id a.now
there_aim flat p a id m h =
    let b = block_of flat p in
    let x = map_member (aim_of flat b.scope (is_combinational p)) (assigned_by b.body) a m in
    let at = at_member (assigned_by b.body) x.0 x.1.0 in
    (at.0, (x.0, (at.1.0, at.1.1, ap (λ z. z.now) x.1.1, ap (λ z. z.signal) x.1.1 ∙ h)))

some_aim : (flat : Flat) → HasWalk flat → (id : ℕ) (now : Bool) → AssignedSomewhere flat id now → (a : Aim) × (Member a (aims flat) × ((a.signal ≡ Some id) × (a.now ≡ now)))
some_aim flat w id now (inl h) =
    let p = part.Clocked h.0 in
    let a = aim_there flat p id now h.1.1 in
    (a.0, (member_flat (aims_of_part flat) flat.walk p a.0 (clocked_member flat w h.0 h.1.0) a.1.0, a.1.1))
some_aim flat w id now (inr h) =
    let p = part.Combinational h.0 in
    let a = aim_there flat p id now h.1.1 in
    (a.0, (member_flat (aims_of_part flat) flat.walk p a.0 (combinational_member flat w h.0 h.1.0) a.1.0, a.1.1))

nothing_assigned : (flat : Flat) (k : ℕ) (a : Aim) → Member a (aims_of_part flat (part.Driver k)) → ⊥
unfolding assigned_by
nothing_assigned flat k a m = m

nothing_begun : (flat : Flat) (k : ℕ) (a : Aim) → Member a (aims_of_part flat (part.Initial k)) → ⊥
unfolding assigned_by
nothing_begun flat k a m = m

aim_some : (flat : Flat) → HasWalk flat → (a : Aim) (id : ℕ) → Member a (aims flat) → a.signal ≡ Some id → AssignedSomewhere flat id a.now
aim_some flat w a id m h = go x.0 (all_member (IsPart (length flat.drivers) (length flat.clocked) (length flat.combinational) (length flat.initials)) flat.walk x.0 w.parts_in x.1.0) x.1.1
  where
    x : (p : design.Part) × (Member p flat.walk × Member a (aims_of_part flat p))
    x = flat_member (aims_of_part flat) flat.walk a m

    go : (p : design.Part) → IsPart (length flat.drivers) (length flat.clocked) (length flat.combinational) (length flat.initials) p → Member a (aims_of_part flat p) → AssignedSomewhere flat id a.now
    go (part.Driver k) l n = absurd (nothing_assigned flat k a n)
    go (part.Clocked k) l n = inl (k, (l, there_aim flat (part.Clocked k) a id n h))
    go (part.Combinational k) l n = inr (k, (l, there_aim flat (part.Combinational k) a id n h))
    go (part.Initial k) l n = absurd (nothing_begun flat k a n)

pub right_kinds : (flat : Flat) → HasWalk flat → wrong_kinds flat ≡ [] → RightKinds flat
right_kinds flat w h = record { combinational = combinational; one = one }
  where
    fine : AreFine (aims flat)
    fine = fine_all [] (aims flat) fine_nothing h

    not_false : (b : Bool) → not b ≡ false → b ≡ true
    not_false true e = refl
    not_false false e = cc

    combinational : (k : ℕ) → k < length flat.combinational → All (λ a. a.now ≡ true) (assigned_by (block_at flat.combinational k).body)
    combinational k l i d m =
        let p = part.Combinational k in
        let b = block_at flat.combinational k in
        let a = get_or (assigned_by b.body) i d in
        let there = member_at (assigned_by b.body) i a m (same (assigned_by b.body) i d m) in
        let n = member_flat (aims_of_part flat) flat.walk p (aim_of flat b.scope true a) (combinational_member flat w k l) (member_map (aim_of flat b.scope true) (assigned_by b.body) a there) in
        not_false a.now (fine.alone (aim_of flat b.scope true a) n)
      where
        same : (xs : List Assigned) (i : ℕ) (d : Assigned) → i < length xs → get_or xs i (get_or xs i d) ≡ get_or xs i d
        same [] i d l = absurd (omega (arith, l))
        same (x ∷ xs) zero d l = refl
        same (x ∷ xs) (suc i) d l = same xs i d (omega (arith, l))

    one : (id : ℕ) → AssignedSomewhere flat id true → AssignedSomewhere flat id false → ⊥
    one id s t =
        let a = some_aim flat w id true s in
        let b = some_aim flat w id false t in
        let none = fine.pairs a.0 b.0 a.1.0 b.1.0 in
        let bad : true ≡ false = rw (b.1.1.0, a.1.1.0, b.1.1.1, a.1.1.1, eq-eqb id id refl) at none in cc

pub no_wrong_kinds : (flat : Flat) → HasWalk flat → RightKinds flat → wrong_kinds flat ≡ []
no_wrong_kinds flat w r = all_fine [] (aims flat) (record { alone = alone; pairs = pairs })
  where
    alone : (a : Aim) → Member a (aims flat) → Alone a ≡ false
    alone a m = go x.0 (all_member (IsPart (length flat.drivers) (length flat.clocked) (length flat.combinational) (length flat.initials)) flat.walk x.0 w.parts_in x.1.0) x.1.1
      where
        x : (p : design.Part) × (Member p flat.walk × Member a (aims_of_part flat p))
        x = flat_member (aims_of_part flat) flat.walk a m

        go : (p : design.Part) → IsPart (length flat.drivers) (length flat.clocked) (length flat.combinational) (length flat.initials) p → Member a (aims_of_part flat p) → Alone a ≡ false
        go (part.Driver k) l n = absurd (nothing_assigned flat k a n)
        go (part.Clocked k) l n =
            let y = map_member (aim_of flat (block_at flat.clocked k).scope false) (assigned_by (block_at flat.clocked k).body) a n in
            subst (λ z. Alone z ≡ false) y.1.1 refl
        go (part.Combinational k) l n =
            let b = block_at flat.combinational k in
            let y = map_member (aim_of flat b.scope true) (assigned_by b.body) a n in
            let now = all_member (λ z. z.now ≡ true) (assigned_by b.body) y.0 (r.combinational k l) y.1.0 in
            subst (λ z. Alone z ≡ false) y.1.1 (rw now refl)
        go (part.Initial k) l n = absurd (nothing_begun flat k a n)

    pairs : (a b : Aim) → Member a (aims flat) → Member b (aims flat) → Clash b a ≡ false
    pairs a b m n = go b.signal refl a.signal refl b.now refl a.now refl
      where
        go : (p : Option ℕ) → b.signal ≡ p → (q : Option ℕ) → a.signal ≡ q → (x : Bool) → b.now ≡ x → (y : Bool) → a.now ≡ y → (same_signal p q && differs x y) ≡ false
        go None e q f x g y h = refl
        go (Some i) e None f x g y h = refl
        go (Some i) e (Some j) f x g y h = by (nat_eq i j) refl
          where
            kind : (i ≡ j) → differs x y ≡ false
            kind same =
                let s = subst (AssignedSomewhere flat i) g (aim_some flat w b i n e) in
                let t = subst (AssignedSomewhere flat i) h (aim_some flat w a i m (f ∙ ap Some (sym same))) in
                two x y s t
              where
                two : (x y : Bool) → AssignedSomewhere flat i x → AssignedSomewhere flat i y → differs x y ≡ false
                two true true s t = refl
                two true false s t = absurd (r.one i s t)
                two false true s t = absurd (r.one i t s)
                two false false s t = refl

            by : (b : Bool) → nat_eq i j ≡ b → (b && differs x y) ≡ false
            by true k = kind (eqb-true i j k)
            by false k = refl
