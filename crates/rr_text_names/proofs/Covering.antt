-- What holds at each part of a walk holds at each driver, block and `initial` item.
use Rattle.std.proofs.Common.{◌≡◌, sym, ap, subst, ℕ, zero, suc, ◌+◌, ◌<◌, ◌≤◌, ◌⊎◌, inl, inr, List, [], ◌∷◌, length, refl, arith}
use Rattle.std.specs.Prelude.{flat_map, All}
use Rattle.std.specs.List.{range_with_len}
use Rattle.std.proofs.lemmas.Bool.{cases_lt}
use Rattle.std.proofs.lemmas.List.{length-map}
use Rattle.rr_flat.specs.declared.design.Part as design
use Rattle.rr_flat.specs.declared.design.Part.TheVariants as part
use Rattle.rr_flat.specs.Plain.{Flat}
use Rattle.rr_flat.specs.Sound.{IsPart, IsWalk, drivers_of, clocked_of, combinational_of, initials_of}
use Rattle.rr_flat.specs.View.{Design, plain_flat, plain_driver, plain_block, plain_initial}
use Rattle.rr_text_names.proofs.Walks.{left_empty, right_empty}

abbrev pub Member : {X : Type 0} → X → List X → Type 0
Member x [] = ⊥
Member x (y ∷ ys) = (y ≡ x) ⊎ Member x ys

pub all_member : {X : Type 0} (P : X → Type 0) (xs : List X) (x : X) → All P xs → Member x xs → P x
all_member P [] x a m = absurd m
all_member P (y ∷ ys) x a (inl e) = subst P e (a 0 y (omega arith))
all_member P (y ∷ ys) x a (inr m) = all_member P ys x (λ k d l. a (suc k) d (omega (arith, l))) m

pub empty_member : {X : Type 0} (f : X → List ℕ) (xs : List X) (x : X) → flat_map f xs ≡ [] → Member x xs → f x ≡ []
empty_member f [] x h m = absurd m
empty_member f (y ∷ ys) x h (inl e) = subst (λ z. f z ≡ []) e (left_empty (f y) (flat_map f ys) h)
empty_member f (y ∷ ys) x h (inr m) = empty_member f ys x (right_empty (f y) (flat_map f ys) h) m

pub member_empty : {X : Type 0} (f : X → List ℕ) (xs : List X) → ((x : X) → Member x xs → f x ≡ []) → flat_map f xs ≡ []
member_empty f [] h = refl
member_empty f (y ∷ ys) h = rw (h y (inl refl)) (member_empty f ys (λ x m. h x (inr m)))

-- of a list as a whole

pub all_of_empty : {X : Type 0} (P : X → Type 0) (f : X → List ℕ) → ((x : X) → f x ≡ [] → P x) → (xs : List X) → flat_map f xs ≡ [] → All P xs
all_of_empty P f g [] h k d l = absurd (omega (arith, l))
all_of_empty P f g (x ∷ xs) h zero d l = g x (left_empty (f x) (flat_map f xs) h)
all_of_empty P f g (x ∷ xs) h (suc k) d l = all_of_empty P f g xs (right_empty (f x) (flat_map f xs) h) k d (omega (arith, l))

pub empty_of_all : {X : Type 0} (P : X → Type 0) (f : X → List ℕ) → ((x : X) → P x → f x ≡ []) → (xs : List X) → All P xs → flat_map f xs ≡ []
empty_of_all P f g [] a = refl
empty_of_all P f g (x ∷ xs) a = rw (g x (a 0 x (omega arith))) (empty_of_all P f g xs (λ k d l. a (suc k) d (omega (arith, l))))

-- the numbers of a walk

number_within : (a n k : ℕ) → a ≤ k → k < a + n → Member k (range_with_len a n)
number_within a zero k l m = absurd (omega (arith, l, m))
number_within a (suc n) k l m = go (cases_lt a k) (λ h. number_within (a + 1) n k (omega (arith, h)) (omega (arith, m)))
  where
    go : (a < k) ⊎ (k ≤ a) → (a < k → Member k (range_with_len (a + 1) n)) → (a ≡ k) ⊎ Member k (range_with_len (a + 1) n)
    go (inl h) later = inr (later h)
    go (inr h) later = inl (omega (arith, l, h))

number_of : (n k : ℕ) (ks : List ℕ) → ks ≡ range_with_len 0 n → k < n → Member k ks
number_of n k ks e l = subst (Member k) (sym e) (number_within 0 n k (omega arith) (omega (arith, l)))

driver_in : (ps : List design.Part) (k : ℕ) → Member k (drivers_of ps) → Member (part.Driver k) ps
unfolding drivers_of
driver_in [] k m = m
driver_in (part.Driver j ∷ ps) k (inl e) = inl (ap part.Driver e)
driver_in (part.Driver j ∷ ps) k (inr m) = inr (driver_in ps k m)
driver_in (part.Clocked j ∷ ps) k m = inr (driver_in ps k m)
driver_in (part.Combinational j ∷ ps) k m = inr (driver_in ps k m)
driver_in (part.Initial j ∷ ps) k m = inr (driver_in ps k m)

clocked_in : (ps : List design.Part) (k : ℕ) → Member k (clocked_of ps) → Member (part.Clocked k) ps
unfolding clocked_of
clocked_in [] k m = m
clocked_in (part.Driver j ∷ ps) k m = inr (clocked_in ps k m)
clocked_in (part.Clocked j ∷ ps) k (inl e) = inl (ap part.Clocked e)
clocked_in (part.Clocked j ∷ ps) k (inr m) = inr (clocked_in ps k m)
clocked_in (part.Combinational j ∷ ps) k m = inr (clocked_in ps k m)
clocked_in (part.Initial j ∷ ps) k m = inr (clocked_in ps k m)

combinational_in : (ps : List design.Part) (k : ℕ) → Member k (combinational_of ps) → Member (part.Combinational k) ps
unfolding combinational_of
combinational_in [] k m = m
combinational_in (part.Driver j ∷ ps) k m = inr (combinational_in ps k m)
combinational_in (part.Clocked j ∷ ps) k m = inr (combinational_in ps k m)
combinational_in (part.Combinational j ∷ ps) k (inl e) = inl (ap part.Combinational e)
combinational_in (part.Combinational j ∷ ps) k (inr m) = inr (combinational_in ps k m)
combinational_in (part.Initial j ∷ ps) k m = inr (combinational_in ps k m)

initial_in : (ps : List design.Part) (k : ℕ) → Member k (initials_of ps) → Member (part.Initial k) ps
unfolding initials_of
initial_in [] k m = m
initial_in (part.Driver j ∷ ps) k m = inr (initial_in ps k m)
initial_in (part.Clocked j ∷ ps) k m = inr (initial_in ps k m)
initial_in (part.Combinational j ∷ ps) k m = inr (initial_in ps k m)
initial_in (part.Initial j ∷ ps) k (inl e) = inl (ap part.Initial e)
initial_in (part.Initial j ∷ ps) k (inr m) = inr (initial_in ps k m)

abbrev pub HasWalk : Flat → Type 0
HasWalk flat = IsWalk (length flat.drivers) (length flat.clocked) (length flat.combinational) (length flat.initials) flat.walk

pub driver_member : (flat : Flat) → HasWalk flat → (k : ℕ) → k < length flat.drivers → Member (part.Driver k) flat.walk
driver_member flat w k l = driver_in flat.walk k (number_of (length flat.drivers) k (drivers_of flat.walk) w.all_drivers l)

pub clocked_member : (flat : Flat) → HasWalk flat → (k : ℕ) → k < length flat.clocked → Member (part.Clocked k) flat.walk
clocked_member flat w k l = clocked_in flat.walk k (number_of (length flat.clocked) k (clocked_of flat.walk) w.all_clocked l)

pub combinational_member : (flat : Flat) → HasWalk flat → (k : ℕ) → k < length flat.combinational → Member (part.Combinational k) flat.walk
combinational_member flat w k l = combinational_in flat.walk k (number_of (length flat.combinational) k (combinational_of flat.walk) w.all_combinational l)

pub initial_member : (flat : Flat) → HasWalk flat → (k : ℕ) → k < length flat.initials → Member (part.Initial k) flat.walk
initial_member flat w k l = initial_in flat.walk k (number_of (length flat.initials) k (initials_of flat.walk) w.all_initials l)

pub record NoneAt (flat : Flat) (f : design.Part → List ℕ) : Type 0 where
  pub drivers : (k : ℕ) → k < length flat.drivers → f (part.Driver k) ≡ []
  pub clocked : (k : ℕ) → k < length flat.clocked → f (part.Clocked k) ≡ []
  pub combinational : (k : ℕ) → k < length flat.combinational → f (part.Combinational k) ≡ []
  pub initials : (k : ℕ) → k < length flat.initials → f (part.Initial k) ≡ []

pub none_at : (flat : Flat) (f : design.Part → List ℕ) → HasWalk flat → flat_map f flat.walk ≡ [] → NoneAt flat f
none_at flat f w h = record {
  drivers = λ k l. empty_member f flat.walk (part.Driver k) h (driver_member flat w k l);
  clocked = λ k l. empty_member f flat.walk (part.Clocked k) h (clocked_member flat w k l);
  combinational = λ k l. empty_member f flat.walk (part.Combinational k) h (combinational_member flat w k l);
  initials = λ k l. empty_member f flat.walk (part.Initial k) h (initial_member flat w k l);
}

pub at_none : (flat : Flat) (f : design.Part → List ℕ) → HasWalk flat → NoneAt flat f → flat_map f flat.walk ≡ []
at_none flat f w n = member_empty f flat.walk (λ p m. go p (all_member (IsPart (length flat.drivers) (length flat.clocked) (length flat.combinational) (length flat.initials)) flat.walk p w.parts_in m))
  where
    go : (p : design.Part) → IsPart (length flat.drivers) (length flat.clocked) (length flat.combinational) (length flat.initials) p → f p ≡ []
    go (part.Driver k) l = n.drivers k l
    go (part.Clocked k) l = n.clocked k l
    go (part.Combinational k) l = n.combinational k l
    go (part.Initial k) l = n.initials k l

-- the walk of a design as plain data
pub has_walk : (d : Design) (walk : List design.Part) → walk ≡ d.walk → IsWalk (length d.drivers) (length d.clocked) (length d.combinational) (length d.initials) walk → HasWalk (plain_flat d)
has_walk d walk e w = rw (length-map d.drivers plain_driver, length-map d.clocked plain_block, length-map d.combinational plain_block, length-map d.initials plain_initial, ← e) w
