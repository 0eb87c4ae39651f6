-- The spots of an expression are the literals and the tests of `?:` that stand inside it.
use Rattle.std.proofs.Common.{◌≡◌, ℕ, Bool, true, false, if◌then◌else◌, List, [], ◌∷◌, ◌++◌, get_or, Contains, refl, sym, subst}
use Rattle.std.specs.List.{AllByRecursion}
use Rattle.std.proofs.lemmas.List.Elements.{Contains-append_left, Contains-append_right}
use Rattle.rr_syntax.specs.Tree.{Tree, Trees, Name, Literal, Bit, Part, Indexed, Unary, Binary, Cond, Concat, Repeat, Cast, Paren, End, More}
use Rattle.rr_expr.specs.declared.operators.Infix.TheVariants.{Either}
use Rattle.rr_expr.specs.Faults.{takes_constants}
use Rattle.rr_expr.specs.Operators.{infixes}
use Rattle.rr_change_places.specs.Spots.{Spot, Body, Test, Value, spots, spots_of_parts}
use Rattle.rr_sites_complete.specs.Inside.{IsPart, first_part, later_part, IsInside, itself, operand, left, right, condition, where_true, where_false, in_concatenation, in_replication, in_cast, in_brackets}
use Rattle.rr_sites_complete.proofs.Lists.{tail_in}

-- Each spot is there

module _ {X : Type 0} (P Q : X → Type 0) where
  pub all_weaken : (xs : List X) → ((x : X) → P x → Q x) → AllByRecursion P xs → AllByRecursion Q xs
  all_weaken [] k h = tt
  all_weaken (x ∷ xs) k h = (k x h.0, all_weaken xs k h.1)

pub all_both : {X : Type 0} (P : X → Type 0) (xs ys : List X) → AllByRecursion P xs → AllByRecursion P ys → AllByRecursion P (xs ++ ys)
all_both P [] ys h k = k
all_both P (x ∷ xs) ys h k = (h.0, all_both P xs ys h.1 k)

abbrev pub IsSpotIn : Tree → Spot → Type 0
IsSpotIn t (Body s) = ⊥
IsSpotIn t (Test c) = (a : Tree) × (b : Tree) × IsInside (Cond c a b) t
IsSpotIn t (Value token n) = IsInside (Literal token n) t

lifted : (t u : Tree) → ((e : Tree) → IsInside e t → IsInside e u) → (s : Spot) → IsSpotIn t s → IsSpotIn u s
lifted t u k (Body s) h = h
lifted t u k (Test c) (a, b, i) = (a, b, k (Cond c a b) i)
lifted t u k (Value token n) i = k (Literal token n) i

wider : (t u : Tree) → ((e : Tree) → IsInside e t → IsInside e u) → (xs : List Spot) → AllByRecursion (IsSpotIn t) xs → AllByRecursion (IsSpotIn u) xs
wider t u k xs h = all_weaken (IsSpotIn t) (IsSpotIn u) xs (lifted t u k) h

abbrev pub IsSpotInPart : Trees → Spot → Type 0
IsSpotInPart ts s = (t : Tree) × IsPart t ts × IsSpotIn t s

of_parts : (ts : Trees) (u : Tree) → ((t e : Tree) → IsPart t ts → IsInside e t → IsInside e u) → (xs : List Spot) → AllByRecursion (IsSpotInPart ts) xs → AllByRecursion (IsSpotIn u) xs
of_parts ts u k xs h = all_weaken (IsSpotInPart ts) (IsSpotIn u) xs (λ s p. lifted p.0 u (λ e i. k p.0 e p.1 i) s p.2) h

unless : (op : ℕ) (l r : Tree) (xs ys : List Spot) (b : Bool) → takes_constants (get_or infixes op Either) ≡ b → AllByRecursion (IsSpotIn l) xs → AllByRecursion (IsSpotIn r) ys →
    AllByRecursion (IsSpotIn (Binary op l r)) (if b then [] else xs ++ ys)
unless op l r xs ys true e h k = tt
unless op l r xs ys false e h k = all_both (IsSpotIn (Binary op l r)) xs ys (wider l (Binary op l r) (λ t i. left e i) xs h) (wider r (Binary op l r) (λ t i. right e i) ys k)

mutual
  unfolding spots

  pub spots_inside : (t : Tree) → AllByRecursion (IsSpotIn t) (spots t)
  spots_inside (Name token x) = tt
  spots_inside (Literal token n) = (itself, tt)
  spots_inside (Bit token x i) = tt
  spots_inside (Part token x l r) = tt
  spots_inside (Indexed token x f n up) = tt
  spots_inside (Unary op t) = wider t (Unary op t) (λ e i. operand i) (spots t) (spots_inside t)
  spots_inside (Binary op l r) = unless op l r (spots l) (spots r) (takes_constants (get_or infixes op Either)) refl (spots_inside l) (spots_inside r)
  spots_inside (Cond a b c) = (
    (b, c, itself),
    all_both (IsSpotIn (Cond a b c)) (spots a) (spots b ++ spots c) (wider a (Cond a b c) (λ e i. condition i) (spots a) (spots_inside a))
        (all_both (IsSpotIn (Cond a b c)) (spots b) (spots c) (wider b (Cond a b c) (λ e i. where_true i) (spots b) (spots_inside b)) (wider c (Cond a b c) (λ e i. where_false i) (spots c) (spots_inside c))),
  )
  spots_inside (Concat ts) = of_parts ts (Concat ts) (λ t e p i. in_concatenation p i) (spots_of_parts ts) (spots_inside_parts ts)
  spots_inside (Repeat n ts) = of_parts ts (Repeat n ts) (λ t e p i. in_replication p i) (spots_of_parts ts) (spots_inside_parts ts)
  spots_inside (Cast signed t) = wider t (Cast signed t) (λ e i. in_cast i) (spots t) (spots_inside t)
  spots_inside (Paren t) = wider t (Paren t) (λ e i. in_brackets i) (spots t) (spots_inside t)

  pub spots_inside_parts : (ts : Trees) → AllByRecursion (IsSpotInPart ts) (spots_of_parts ts)
  spots_inside_parts End = tt
  spots_inside_parts (More t ts) =
      all_both (IsSpotInPart (More t ts)) (spots t) (spots_of_parts ts) (all_weaken (IsSpotIn t) (IsSpotInPart (More t ts)) (spots t) (λ s h. (t, first_part, h)) (spots_inside t))
      (all_weaken (IsSpotInPart ts) (IsSpotInPart (More t ts)) (spots_of_parts ts) (λ s p. (p.0, later_part p.1, p.2)) (spots_inside_parts ts))

-- What stands inside has its spot

pub part_in : {t : Tree} {ts : Trees} → IsPart t ts → (s : Spot) → Contains (spots t) s → Contains (spots_of_parts ts) s
unfolding spots
part_in {t} (first_part {ts}) s c = Contains-append_left (spots t) (spots_of_parts ts) s c
part_in {t} (later_part {u} {ts} p) s c = Contains-append_right (spots u) (spots_of_parts ts) s (part_in p s c)

pub inside_in : {e t : Tree} → IsInside e t → (s : Spot) → Contains (spots e) s → Contains (spots t) s
unfolding spots
inside_in itself s h = h
inside_in (operand i) s h = inside_in i s h
inside_in (left {op} {t} {u} e i) s h =
    subst (λ b. Contains (if b then [] else spots t ++ spots u) s) (sym e) (Contains-append_left (spots t) (spots u) s (inside_in i s h))
inside_in (right {op} {t} {u} e i) s h =
    subst (λ b. Contains (if b then [] else spots t ++ spots u) s) (sym e) (Contains-append_right (spots t) (spots u) s (inside_in i s h))
inside_in (condition {c} {t} {u} i) s h = tail_in (Test c) (spots c ++ (spots t ++ spots u)) s (Contains-append_left (spots c) (spots t ++ spots u) s (inside_in i s h))
inside_in (where_true {c} {t} {u} i) s h =
    tail_in (Test c) (spots c ++ (spots t ++ spots u)) s (Contains-append_right (spots c) (spots t ++ spots u) s (Contains-append_left (spots t) (spots u) s (inside_in i s h)))
inside_in (where_false {c} {t} {u} i) s h =
    tail_in (Test c) (spots c ++ (spots t ++ spots u)) s (Contains-append_right (spots c) (spots t ++ spots u) s (Contains-append_right (spots t) (spots u) s (inside_in i s h)))
inside_in (in_concatenation p i) s h = part_in p s (inside_in i s h)
inside_in (in_replication p i) s h = part_in p s (inside_in i s h)
inside_in (in_cast i) s h = inside_in i s h
inside_in (in_brackets i) s h = inside_in i s h
