-- The walk has each driver and block once.
use Rattle.std.proofs.Common.{◌≡◌, ◌∙◌, sym, ap, ℕ, zero, suc, ◌+◌, ◌<◌, ◌≤◌, inl, inr, List, [], ◌∷◌, length, map, get_or, Option, None, Some, refl, arith}
use Rattle.std.specs.List.{range_with_len}
use Rattle.std.proofs.lemmas.Bool.{cases_lt, cases_order}
use Rattle.std.proofs.lemmas.List.{length-map}
use Rattle.rr_flat.specs.declared.design.Part as design
use Rattle.rr_flat.specs.declared.design.Part.TheVariants as part
use Rattle.rr_flat.specs.Plain.{Flat}
use Rattle.rr_flat.specs.Sound.{IsWalk, drivers_of, clocked_of, combinational_of, initials_of}
use Rattle.rr_flat.specs.View.{Design, plain_flat, plain_driver, plain_block, plain_initial}

-- the numbers that a test finds in a list of parts
abbrev consed : Option ℕ → List ℕ → List ℕ
consed None ks = ks
consed (Some k) ks = k ∷ ks

numbers : (design.Part → Option ℕ) → List design.Part → List ℕ
numbers sel [] = []
numbers sel (p ∷ ps) = consed (sel p) (numbers sel ps)

abbrev as_driver : design.Part → Option ℕ
as_driver (part.Driver k) = Some k
as_driver (part.Clocked k) = None
as_driver (part.Combinational k) = None
as_driver (part.Initial k) = None

abbrev as_clocked : design.Part → Option ℕ
as_clocked (part.Driver k) = None
as_clocked (part.Clocked k) = Some k
as_clocked (part.Combinational k) = None
as_clocked (part.Initial k) = None

abbrev as_combinational : design.Part → Option ℕ
as_combinational (part.Driver k) = None
as_combinational (part.Clocked k) = None
as_combinational (part.Combinational k) = Some k
as_combinational (part.Initial k) = None

abbrev as_initial : design.Part → Option ℕ
as_initial (part.Driver k) = None
as_initial (part.Clocked k) = None
as_initial (part.Combinational k) = None
as_initial (part.Initial k) = Some k

driver_numbers : (ps : List design.Part) → numbers as_driver ps ≡ drivers_of ps
unfolding numbers drivers_of
driver_numbers [] = refl
driver_numbers (part.Driver k ∷ ps) = ap (λ z. k ∷ z) (driver_numbers ps)
driver_numbers (part.Clocked k ∷ ps) = driver_numbers ps
driver_numbers (part.Combinational k ∷ ps) = driver_numbers ps
driver_numbers (part.Initial k ∷ ps) = driver_numbers ps

clocked_numbers : (ps : List design.Part) → numbers as_clocked ps ≡ clocked_of ps
unfolding numbers clocked_of
clocked_numbers [] = refl
clocked_numbers (part.Driver k ∷ ps) = clocked_numbers ps
clocked_numbers (part.Clocked k ∷ ps) = ap (λ z. k ∷ z) (clocked_numbers ps)
clocked_numbers (part.Combinational k ∷ ps) = clocked_numbers ps
clocked_numbers (part.Initial k ∷ ps) = clocked_numbers ps

combinational_numbers : (ps : List design.Part) → numbers as_combinational ps ≡ combinational_of ps
unfolding numbers combinational_of
combinational_numbers [] = refl
combinational_numbers (part.Driver k ∷ ps) = combinational_numbers ps
combinational_numbers (part.Clocked k ∷ ps) = combinational_numbers ps
combinational_numbers (part.Combinational k ∷ ps) = ap (λ z. k ∷ z) (combinational_numbers ps)
combinational_numbers (part.Initial k ∷ ps) = combinational_numbers ps

initial_numbers : (ps : List design.Part) → numbers as_initial ps ≡ initials_of ps
unfolding numbers initials_of
initial_numbers [] = refl
initial_numbers (part.Driver k ∷ ps) = initial_numbers ps
initial_numbers (part.Clocked k ∷ ps) = initial_numbers ps
initial_numbers (part.Combinational k ∷ ps) = initial_numbers ps
initial_numbers (part.Initial k ∷ ps) = ap (λ z. k ∷ z) (initial_numbers ps)

-- a counting list
counts : (a n k : ℕ) (ks : List ℕ) → k ∷ ks ≡ range_with_len a n → (k ≡ a) × ((m : ℕ) × ((n ≡ suc m) × (ks ≡ range_with_len (a + 1) m)))
counts a zero k ks e = cc
counts a (suc n) k ks e =
    let h : k ≡ a = cc in
    let t : ks ≡ range_with_len (a + 1) n = cc in
    (h, (n, (refl, t)))

-- a later number is at least the first
later : (sel : design.Part → Option ℕ) (ps : List design.Part) (a n i k : ℕ) (d : design.Part) → numbers sel ps ≡ range_with_len a n → i < length ps → sel (get_or ps i d) ≡ Some k → a ≤ k
unfolding numbers
later sel [] a n i k d e l s = absurd (omega arith)
later sel (p ∷ ps) a n i k d e l s = go (sel p) refl i l s (λ b m j. later sel ps b m j k d)
  where
    go : (o : Option ℕ) → sel p ≡ o → (i : ℕ) → i < suc (length ps) → sel (get_or (p ∷ ps) i d) ≡ Some k
        → ((b m j : ℕ) → numbers sel ps ≡ range_with_len b m → j < length ps → sel (get_or ps j d) ≡ Some k → b ≤ k) → a ≤ k
    go None q zero l s ih = let bad : None ≡ Some k = sym q ∙ s in cc
    go None q (suc j) l s ih = ih a n j (sym (ap (λ o. consed o (numbers sel ps)) q) ∙ e) (omega arith) s
    go (Some h) q zero l s ih =
        let c = counts a n h (numbers sel ps) (sym (ap (λ o. consed o (numbers sel ps)) q) ∙ e) in
        let u : Some h ≡ Some k = sym q ∙ s in
        let v : h ≡ k = cc in
        omega (arith, c.0)
    go (Some h) q (suc j) l s ih =
        let c = counts a n h (numbers sel ps) (sym (ap (λ o. consed o (numbers sel ps)) q) ∙ e) in
        let r = ih (a + 1) c.1.0 j c.1.1.1 (omega arith) s in
        omega (arith, r)

-- a number stands once
once : (sel : design.Part → Option ℕ) (ps : List design.Part) (a n i j k : ℕ) (d : design.Part) → numbers sel ps ≡ range_with_len a n → i < j → j < length ps
    → sel (get_or ps i d) ≡ Some k → sel (get_or ps j d) ≡ Some k → ⊥
unfolding numbers
once sel [] a n i j k d e l m s t = omega arith
once sel (p ∷ ps) a n zero zero k d e l m s t = omega arith
once sel (p ∷ ps) a n zero (suc j) k d e l m s t =
    let c = counts a n k (numbers sel ps) (sym (ap (λ o. consed o (numbers sel ps)) s) ∙ e) in
    let r = later sel ps (a + 1) c.1.0 j k d c.1.1.1 (omega arith) t in
    omega (arith, c.0, r)
once sel (p ∷ ps) a n (suc i) zero k d e l m s t = omega arith
once sel (p ∷ ps) a n (suc i) (suc j) k d e l m s t = go (sel p) refl (λ b m' c. once sel ps b m' i j k d c (omega arith) (omega arith) s t)
  where
    go : (o : Option ℕ) → sel p ≡ o → ((b m' : ℕ) → numbers sel ps ≡ range_with_len b m' → ⊥) → ⊥
    go None q ih = ih a n (sym (ap (λ o. consed o (numbers sel ps)) q) ∙ e)
    go (Some h) q ih =
        let c = counts a n h (numbers sel ps) (sym (ap (λ o. consed o (numbers sel ps)) q) ∙ e) in
        ih (a + 1) c.1.0 c.1.1.1

-- each number stands somewhere
somewhere : (sel : design.Part → Option ℕ) (ps : List design.Part) (a n k : ℕ) (d : design.Part) → numbers sel ps ≡ range_with_len a n → a ≤ k → k < a + n
    → (i : ℕ) × ((i < length ps) × (sel (get_or ps i d) ≡ Some k))
unfolding numbers
somewhere sel [] a zero k d e l m = absurd (omega arith)
somewhere sel [] a (suc n) k d e l m = cc
somewhere sel (p ∷ ps) a n k d e l m = go (sel p) refl (λ b m'. somewhere sel ps b m' k d)
  where
    next : (i : ℕ) × ((i < length ps) × (sel (get_or ps i d) ≡ Some k)) → (i : ℕ) × ((i < suc (length ps)) × (sel (get_or (p ∷ ps) i d) ≡ Some k))
    next (i, (l, s)) = (suc i, (omega arith, s))

    go : (o : Option ℕ) → sel p ≡ o → ((b m' : ℕ) → numbers sel ps ≡ range_with_len b m' → b ≤ k → k < b + m' → (i : ℕ) × ((i < length ps) × (sel (get_or ps i d) ≡ Some k)))
        → (i : ℕ) × ((i < suc (length ps)) × (sel (get_or (p ∷ ps) i d) ≡ Some k))
    go None q ih = next (ih a n (sym (ap (λ o. consed o (numbers sel ps)) q) ∙ e) l m)
    go (Some h) q ih =
        let c = counts a n h (numbers sel ps) (sym (ap (λ o. consed o (numbers sel ps)) q) ∙ e) in
        elim (cases_lt a k) [
          | inl g ↦ next (ih (a + 1) c.1.0 c.1.1.1 (omega arith) (omega (arith, c.1.1.0)))
          | inr g ↦ let v : h ≡ k = omega (arith, c.0) in (0, (omega arith, q ∙ ap Some v))
        ]

abbrev pub HasWalk : Flat → Type 0
HasWalk flat = IsWalk (length flat.drivers) (length flat.clocked) (length flat.combinational) (length flat.initials) flat.walk

sel_once : (flat : Flat) (sel : design.Part → Option ℕ) (n i j k : ℕ) (d : design.Part) → numbers sel flat.walk ≡ range_with_len 0 n → i < length flat.walk → j < length flat.walk
    → sel (get_or flat.walk i d) ≡ Some k → sel (get_or flat.walk j d) ≡ Some k → i ≡ j
sel_once flat sel n i j k d e l m s t = elim (cases_order i j) [
  | inl q ↦ q
  | inr q ↦ elim q [ inl o ↦ absurd (once sel flat.walk 0 n i j k d e o m s t) | inr o ↦ absurd (once sel flat.walk 0 n j i k d e o l t s) ]
]

-- a part stands once
pub part_once : (flat : Flat) → HasWalk flat → (i j : ℕ) (d : design.Part) → i < length flat.walk → j < length flat.walk → get_or flat.walk i d ≡ get_or flat.walk j d → i ≡ j
part_once flat w i j d l m e = go (get_or flat.walk i d) refl
  where
    go : (p : design.Part) → get_or flat.walk i d ≡ p → i ≡ j
    go (part.Driver k) q = sel_once flat as_driver (length flat.drivers) i j k d (driver_numbers flat.walk ∙ w.all_drivers) l m (ap as_driver q) (ap as_driver (sym e ∙ q))
    go (part.Clocked k) q = sel_once flat as_clocked (length flat.clocked) i j k d (clocked_numbers flat.walk ∙ w.all_clocked) l m (ap as_clocked q) (ap as_clocked (sym e ∙ q))
    go (part.Combinational k) q = sel_once flat as_combinational (length flat.combinational) i j k d (combinational_numbers flat.walk ∙ w.all_combinational) l m (ap as_combinational q) (ap as_combinational (sym e ∙ q))
    go (part.Initial k) q = sel_once flat as_initial (length flat.initials) i j k d (initial_numbers flat.walk ∙ w.all_initials) l m (ap as_initial q) (ap as_initial (sym e ∙ q))

is_driver : (p : design.Part) (k : ℕ) → as_driver p ≡ Some k → p ≡ part.Driver k
is_driver (part.Driver j) k e = let q : j ≡ k = cc in ap part.Driver q
is_driver (part.Clocked j) k e = cc
is_driver (part.Combinational j) k e = cc
is_driver (part.Initial j) k e = cc

is_clocked : (p : design.Part) (k : ℕ) → as_clocked p ≡ Some k → p ≡ part.Clocked k
is_clocked (part.Driver j) k e = cc
is_clocked (part.Clocked j) k e = let q : j ≡ k = cc in ap part.Clocked q
is_clocked (part.Combinational j) k e = cc
is_clocked (part.Initial j) k e = cc

is_combinational : (p : design.Part) (k : ℕ) → as_combinational p ≡ Some k → p ≡ part.Combinational k
is_combinational (part.Driver j) k e = cc
is_combinational (part.Clocked j) k e = cc
is_combinational (part.Combinational j) k e = let q : j ≡ k = cc in ap part.Combinational q
is_combinational (part.Initial j) k e = cc

pub driver_somewhere : (flat : Flat) → HasWalk flat → (k : ℕ) (d : design.Part) → k < length flat.drivers → (i : ℕ) × ((i < length flat.walk) × (get_or flat.walk i d ≡ part.Driver k))
driver_somewhere flat w k d l =
    let r = somewhere as_driver flat.walk 0 (length flat.drivers) k d (driver_numbers flat.walk ∙ w.all_drivers) (omega arith) (omega arith) in
    (r.0, (r.1.0, is_driver (get_or flat.walk r.0 d) k r.1.1))

pub clocked_somewhere : (flat : Flat) → HasWalk flat → (k : ℕ) (d : design.Part) → k < length flat.clocked → (i : ℕ) × ((i < length flat.walk) × (get_or flat.walk i d ≡ part.Clocked k))
clocked_somewhere flat w k d l =
    let r = somewhere as_clocked flat.walk 0 (length flat.clocked) k d (clocked_numbers flat.walk ∙ w.all_clocked) (omega arith) (omega arith) in
    (r.0, (r.1.0, is_clocked (get_or flat.walk r.0 d) k r.1.1))

pub combinational_somewhere : (flat : Flat) → HasWalk flat → (k : ℕ) (d : design.Part) → k < length flat.combinational → (i : ℕ) × ((i < length flat.walk) × (get_or flat.walk i d ≡ part.Combinational k))
combinational_somewhere flat w k d l =
    let r = somewhere as_combinational flat.walk 0 (length flat.combinational) k d (combinational_numbers flat.walk ∙ w.all_combinational) (omega arith) (omega arith) in
    (r.0, (r.1.0, is_combinational (get_or flat.walk r.0 d) k r.1.1))

-- a place in a list of plain data
pub there_plain : {X Y : Type 0} (f : X → Y) (xs : List X) (k : ℕ) → k < length xs → k < length (map f xs)
there_plain f xs k l = rw (length-map xs f) l

pub past_plain : {X Y : Type 0} (f : X → Y) (xs : List X) (k : ℕ) → length xs ≤ k → length (map f xs) ≤ k
past_plain f xs k l = rw (length-map xs f) l

-- the walk of a design as plain data
pub has_walk : (d : Design) (walk : List design.Part) → walk ≡ d.walk → IsWalk (length d.drivers) (length d.clocked) (length d.combinational) (length d.initials) walk → HasWalk (plain_flat d)
has_walk d walk e w = rw (length-map d.drivers plain_driver, length-map d.clocked plain_block, length-map d.combinational plain_block, length-map d.initials plain_initial, ← e) w
