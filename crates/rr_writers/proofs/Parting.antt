-- The numbers of a driver's bits and of a block's, by its writers.
use Rattle.std.proofs.Common.{◌≡◌, ◌∙◌, sym, ap, subst, ℕ, zero, suc, ◌<◌, ◌≤◌, ◌⊎◌, inl, inr, Bool, true, false, cond, ◌||◌, length, get_or, nat_eq, None, Some, refl, arith}
use Rattle.std.proofs.lemmas.Bool.{cases_lt, cases_order, eqb-true}
use Rattle.rr_expr.specs.declared.types.Bit.{Bit}
use Rattle.rr_flat.specs.declared.design.Part as design
use Rattle.rr_flat.specs.declared.design.Part.TheVariants as part
use Rattle.rr_flat.specs.Plain.{Flat, Driver, Block}
use Rattle.rr_flat.specs.Writers.{Writer, Driven, Clocked, Combinational, Writes, driven, driven_by, driver_at, writes_at_all, block_at}
use Rattle.rr_writers.specs.Doubles.{part_of}
use Rattle.rr_writers.specs.Marks.{is_free, times, SetMarked, IsTaken, ListMarked, IsTwice, PartMarked, PartTaken}
use Rattle.rr_writers.proofs.Counts.{at_times, two_places, times_at, times_twice}

-- no writer stands in a part that there is not

none_marked : (flat : Flat) (p : design.Part) (number : ℕ) (old : Bit → ℕ) → ((x : Writer) (b : Bit) → p ≡ part_of x → Writes flat x b → ⊥) → PartMarked flat p number old old
none_marked flat p number old never = record {
  alone = λ x y b e f u v. absurd (never x b e u);
  free = λ x b e u. absurd (never x b e u);
  put = λ x b e u. absurd (never x b e u);
  rest = λ b. inl refl;
}

driver_of : (k : ℕ) (x : Writer) → part.Driver k ≡ part_of x → (i : ℕ) × (x ≡ Driven k i)
driver_of k (Driven j i) e = let q : j ≡ k = cc in (i, ap (λ z. Driven z i) q)
driver_of k (Clocked j) e = cc
driver_of k (Combinational j) e = cc

clocked_of : (k : ℕ) (x : Writer) → part.Clocked k ≡ part_of x → x ≡ Clocked k
clocked_of k (Driven j i) e = cc
clocked_of k (Clocked j) e = let q : j ≡ k = cc in ap Clocked q
clocked_of k (Combinational j) e = cc

combinational_of : (k : ℕ) (x : Writer) → part.Combinational k ≡ part_of x → x ≡ Combinational k
combinational_of k (Driven j i) e = cc
combinational_of k (Clocked j) e = cc
combinational_of k (Combinational j) e = let q : j ≡ k = cc in ap Combinational q

pub no_driver_marked : (flat : Flat) (k number : ℕ) (old : Bit → ℕ) → length flat.drivers ≤ k → PartMarked flat (part.Driver k) number old old
unfolding Writes
no_driver_marked flat k number old l = none_marked flat (part.Driver k) number old (λ x b e u.
    let r = driver_of k x e in
    let w : (k < length flat.drivers) × (get_or (driven flat k) r.0 None ≡ Some b) = rw r.1 at u in
    omega (arith, w.0))

pub no_clocked_marked : (flat : Flat) (k number : ℕ) (old : Bit → ℕ) → length flat.clocked ≤ k → PartMarked flat (part.Clocked k) number old old
unfolding Writes
no_clocked_marked flat k number old l = none_marked flat (part.Clocked k) number old (λ x b e u.
    let w : (k < length flat.clocked) × (writes_at_all flat (block_at flat.clocked k) b ≡ true) = rw (clocked_of k x e) at u in
    omega (arith, w.0))

pub no_combinational_marked : (flat : Flat) (k number : ℕ) (old : Bit → ℕ) → length flat.combinational ≤ k → PartMarked flat (part.Combinational k) number old old
unfolding Writes
no_combinational_marked flat k number old l = none_marked flat (part.Combinational k) number old (λ x b e u.
    let w : (k < length flat.combinational) × (writes_at_all flat (block_at flat.combinational k) b ≡ true) = rw (combinational_of k x e) at u in
    omega (arith, w.0))

-- a driver

place_of : (flat : Flat) (k : ℕ) (x : Writer) (b : Bit) → part.Driver k ≡ part_of x → Writes flat x b → (i : ℕ) × ((x ≡ Driven k i) × (get_or (driven flat k) i None ≡ Some b))
unfolding Writes
place_of flat k x b e u =
    let r = driver_of k x e in
    let w : (k < length flat.drivers) × (get_or (driven flat k) r.0 None ≡ Some b) = rw r.1 at u in
    (r.0, (r.1, w.1))

driven_at : (flat : Flat) (k i : ℕ) (b : Bit) → k < length flat.drivers → get_or (driven flat k) i None ≡ Some b → Writes flat (Driven k i) b
unfolding Writes
driven_at flat k i b l e = (l, e)

pub driver_marked : (flat : Flat) (k number : ℕ) (old new : Bit → ℕ) → k < length flat.drivers → ListMarked number (driven flat k) old new → PartMarked flat (part.Driver k) number old new
driver_marked flat k number old new l m = record {
  alone = alone;
  free = λ x b e u. let r = place_of flat k x b e u in m.free b (at_times (driven flat k) r.0 b r.1.1);
  put = λ x b e u. let r = place_of flat k x b e u in m.put b (at_times (driven flat k) r.0 b r.1.1);
  rest = rest;
}
  where
    alone : (x y : Writer) (b : Bit) → part.Driver k ≡ part_of x → part.Driver k ≡ part_of y → Writes flat x b → Writes flat y b → x ≡ y
    alone x y b e f u v =
        let r = place_of flat k x b e u in
        let s = place_of flat k y b f v in
        let o = m.once b in
        elim (cases_order r.0 s.0) [
          | inl q ↦ r.1.0 ∙ (ap (Driven k) q ∙ sym s.1.0)
          | inr q ↦ elim q [
            | inl t ↦ let w = two_places (driven flat k) r.0 s.0 b r.1.1 s.1.1 t in absurd (omega arith)
            | inr t ↦ let w = two_places (driven flat k) s.0 r.0 b s.1.1 r.1.1 t in absurd (omega arith)
          ]
        ]

    rest : (b : Bit) → (new b ≡ old b) ⊎ ((new b ≡ number) × ((x : Writer) × ((part.Driver k ≡ part_of x) × Writes flat x b)))
    rest b = elim (cases_lt 0 (times (driven flat k) b)) [
      | inl h ↦ let r = times_at (driven flat k) b h in inr (m.put b h, (Driven k r.0, (refl, driven_at flat k r.0 b l r.1)))
      | inr h ↦ inl (m.rest b (omega arith))
    ]

differ : (k i j : ℕ) → i < j → Driven k i ≡ Driven k j → ⊥
differ k i j l e = let q : i ≡ j = cc in omega arith

pub driver_taken : (flat : Flat) (k number : ℕ) (old new : Bit → ℕ) (b : Bit) → k < length flat.drivers → IsTwice number (driven flat k) old new b → PartTaken flat (part.Driver k) number old new b
driver_taken flat k number old new b l t = go t.taken
  where
    go : ((2 ≤ times (driven flat k) b) × (new b ≡ number)) ⊎ ((0 < old b) × (new b ≡ old b)) → PartTaken flat (part.Driver k) number old new b
    go (inl (h, e)) =
        let r = times_twice (driven flat k) b h in
        record {
          writer = Driven k r.1.0;
          at = refl;
          writes = driven_at flat k r.1.0 b l r.1.1.1.1;
          taken = inr (e, (Driven k r.0, (refl, (driven_at flat k r.0 b l r.1.1.1.0, differ k r.0 r.1.0 r.1.1.0))));
        }
    go (inr (h, e)) =
        let r = times_at (driven flat k) b t.has in
        record { writer = Driven k r.0; at = refl; writes = driven_at flat k r.0 b l r.1; taken = inl (h, e) }

-- a block

fresh_free : (number x : ℕ) → x < number → is_free true number x ≡ true → x ≡ 0
fresh_free number x l h = go (nat_eq x 0) refl (nat_eq x number) refl h
  where
    go : (t : Bool) → nat_eq x 0 ≡ t → (u : Bool) → nat_eq x number ≡ u → (t || u) ≡ true → x ≡ 0
    go true e u f h = eqb-true x 0 e
    go false e true f h = let q = eqb-true x number f in absurd (omega arith)
    go false e false f h = cc

not_free : (number x : ℕ) → is_free true number x ≡ false → 0 < x
not_free number zero h = cc
not_free number (suc x) h = omega arith

block_marked : (flat : Flat) (p : design.Part) (w : Writer) (P : Bit → Bool) (number : ℕ) (old new : Bit → ℕ) → p ≡ part_of w → ((x : Writer) → p ≡ part_of x → x ≡ w)
    → ((b : Bit) → Writes flat w b → P b ≡ true) → ((b : Bit) → P b ≡ true → Writes flat w b) → ((b : Bit) → old b < number) → SetMarked true number P old new → PartMarked flat p number old new
block_marked flat p w P number old new at only is has low m = record {
  alone = λ x y b e f u v. only x e ∙ sym (only y f);
  free = λ x b e u. fresh_free number (old b) (low b) (m.free b (is b (moved x b e u)));
  put = λ x b e u. m.put b ∙ ap (λ z. cond z number (old b)) (is b (moved x b e u));
  rest = λ b. rest b (P b) refl;
}
  where
    moved : (x : Writer) (b : Bit) → p ≡ part_of x → Writes flat x b → Writes flat w b
    moved x b e u = rw (only x e) at u

    rest : (b : Bit) (t : Bool) → P b ≡ t → (new b ≡ old b) ⊎ ((new b ≡ number) × ((x : Writer) × ((p ≡ part_of x) × Writes flat x b)))
    rest b true e = inr (m.put b ∙ ap (λ z. cond z number (old b)) e, (w, (at, has b e)))
    rest b false e = inl (m.put b ∙ ap (λ z. cond z number (old b)) e)

block_taken : (flat : Flat) (p : design.Part) (w : Writer) (P : Bit → Bool) (number : ℕ) (old new : Bit → ℕ) (b : Bit) → p ≡ part_of w → ((b : Bit) → P b ≡ true → Writes flat w b)
    → IsTaken true number P old new b → PartTaken flat p number old new b
block_taken flat p w P number old new b at has t = record { writer = w; at = at; writes = has b t.has; taken = inl (not_free number (old b) t.taken, t.left) }

pub clocked_marked : (flat : Flat) (k number : ℕ) (old new : Bit → ℕ) → k < length flat.clocked → ((b : Bit) → old b < number)
    → SetMarked true number (writes_at_all flat (block_at flat.clocked k)) old new → PartMarked flat (part.Clocked k) number old new
unfolding Writes
clocked_marked flat k number old new l low m =
    block_marked flat (part.Clocked k) (Clocked k) (writes_at_all flat (block_at flat.clocked k)) number old new refl (λ x e. clocked_of k x e) (λ b u. u.1) (λ b h. (l, h)) low m

pub clocked_taken : (flat : Flat) (k number : ℕ) (old new : Bit → ℕ) (b : Bit) → k < length flat.clocked
    → IsTaken true number (writes_at_all flat (block_at flat.clocked k)) old new b → PartTaken flat (part.Clocked k) number old new b
unfolding Writes
clocked_taken flat k number old new b l t =
    block_taken flat (part.Clocked k) (Clocked k) (writes_at_all flat (block_at flat.clocked k)) number old new b refl (λ c h. (l, h)) t

pub combinational_marked : (flat : Flat) (k number : ℕ) (old new : Bit → ℕ) → k < length flat.combinational → ((b : Bit) → old b < number)
    → SetMarked true number (writes_at_all flat (block_at flat.combinational k)) old new → PartMarked flat (part.Combinational k) number old new
unfolding Writes
combinational_marked flat k number old new l low m =
    block_marked flat (part.Combinational k) (Combinational k) (writes_at_all flat (block_at flat.combinational k)) number old new refl (λ x e. combinational_of k x e) (λ b u. u.1) (λ b h. (l, h)) low m

pub combinational_taken : (flat : Flat) (k number : ℕ) (old new : Bit → ℕ) (b : Bit) → k < length flat.combinational
    → IsTaken true number (writes_at_all flat (block_at flat.combinational k)) old new b → PartTaken flat (part.Combinational k) number old new b
unfolding Writes
combinational_taken flat k number old new b l t =
    block_taken flat (part.Combinational k) (Combinational k) (writes_at_all flat (block_at flat.combinational k)) number old new b refl (λ c h. (l, h)) t

-- the same where a part, its driver or its block are known by equations

pub driver_at_marked : (flat : Flat) (p : design.Part) (k number : ℕ) (x : Driver) (old new : Bit → ℕ) → p ≡ part.Driver k → k < length flat.drivers → x ≡ driver_at flat k
    → ListMarked number (driven_by flat x.target) old new → PartMarked flat p number old new
driver_at_marked flat p k number x old new e l f m =
    let P : design.Part → Type 0 = λ q. PartMarked flat q number old new in
    let L : Driver → Type 0 = λ y. ListMarked number (driven_by flat y.target) old new in
    subst P (sym e) (driver_marked flat k number old new l (subst L f m))

pub driver_at_taken : (flat : Flat) (p : design.Part) (k number : ℕ) (x : Driver) (old new : Bit → ℕ) (b : Bit) → p ≡ part.Driver k → k < length flat.drivers → x ≡ driver_at flat k
    → IsTwice number (driven_by flat x.target) old new b → PartTaken flat p number old new b
driver_at_taken flat p k number x old new b e l f t =
    let P : design.Part → Type 0 = λ q. PartTaken flat q number old new b in
    let L : Driver → Type 0 = λ y. IsTwice number (driven_by flat y.target) old new b in
    subst P (sym e) (driver_taken flat k number old new b l (subst L f t))

pub driver_absent : (flat : Flat) (p : design.Part) (k number : ℕ) (old : Bit → ℕ) → p ≡ part.Driver k → length flat.drivers ≤ k → PartMarked flat p number old old
driver_absent flat p k number old e l =
    let P : design.Part → Type 0 = λ q. PartMarked flat q number old old in
    subst P (sym e) (no_driver_marked flat k number old l)

pub clocked_at_marked : (flat : Flat) (p : design.Part) (k number : ℕ) (x : Block) (old new : Bit → ℕ) → p ≡ part.Clocked k → k < length flat.clocked → x ≡ block_at flat.clocked k
    → ((b : Bit) → old b < number) → SetMarked true number (writes_at_all flat x) old new → PartMarked flat p number old new
clocked_at_marked flat p k number x old new e l f low m =
    let P : design.Part → Type 0 = λ q. PartMarked flat q number old new in
    let L : Block → Type 0 = λ y. SetMarked true number (writes_at_all flat y) old new in
    subst P (sym e) (clocked_marked flat k number old new l low (subst L f m))

pub clocked_at_taken : (flat : Flat) (p : design.Part) (k number : ℕ) (x : Block) (old new : Bit → ℕ) (b : Bit) → p ≡ part.Clocked k → k < length flat.clocked → x ≡ block_at flat.clocked k
    → IsTaken true number (writes_at_all flat x) old new b → PartTaken flat p number old new b
clocked_at_taken flat p k number x old new b e l f t =
    let P : design.Part → Type 0 = λ q. PartTaken flat q number old new b in
    let L : Block → Type 0 = λ y. IsTaken true number (writes_at_all flat y) old new b in
    subst P (sym e) (clocked_taken flat k number old new b l (subst L f t))

pub clocked_absent : (flat : Flat) (p : design.Part) (k number : ℕ) (old : Bit → ℕ) → p ≡ part.Clocked k → length flat.clocked ≤ k → PartMarked flat p number old old
clocked_absent flat p k number old e l =
    let P : design.Part → Type 0 = λ q. PartMarked flat q number old old in
    subst P (sym e) (no_clocked_marked flat k number old l)

pub combinational_at_marked : (flat : Flat) (p : design.Part) (k number : ℕ) (x : Block) (old new : Bit → ℕ) → p ≡ part.Combinational k → k < length flat.combinational
    → x ≡ block_at flat.combinational k → ((b : Bit) → old b < number) → SetMarked true number (writes_at_all flat x) old new → PartMarked flat p number old new
combinational_at_marked flat p k number x old new e l f low m =
    let P : design.Part → Type 0 = λ q. PartMarked flat q number old new in
    let L : Block → Type 0 = λ y. SetMarked true number (writes_at_all flat y) old new in
    subst P (sym e) (combinational_marked flat k number old new l low (subst L f m))

pub combinational_at_taken : (flat : Flat) (p : design.Part) (k number : ℕ) (x : Block) (old new : Bit → ℕ) (b : Bit) → p ≡ part.Combinational k → k < length flat.combinational
    → x ≡ block_at flat.combinational k → IsTaken true number (writes_at_all flat x) old new b → PartTaken flat p number old new b
combinational_at_taken flat p k number x old new b e l f t =
    let P : design.Part → Type 0 = λ q. PartTaken flat q number old new b in
    let L : Block → Type 0 = λ y. IsTaken true number (writes_at_all flat y) old new b in
    subst P (sym e) (combinational_taken flat k number old new b l (subst L f t))

pub combinational_absent : (flat : Flat) (p : design.Part) (k number : ℕ) (old : Bit → ℕ) → p ≡ part.Combinational k → length flat.combinational ≤ k → PartMarked flat p number old old
combinational_absent flat p k number old e l =
    let P : design.Part → Type 0 = λ q. PartMarked flat q number old old in
    subst P (sym e) (no_combinational_marked flat k number old l)
