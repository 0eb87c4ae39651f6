-- The variables that a statement assigns as a whole.
use Rattle.std.proofs.Common.{◌≡◌, ℕ, ◌<◌, Bool, List, [], length, get_or, flat_map, ap, arith}
use Rattle.std.specs.List.{AllByRecursion, Contains}
use Rattle.std.proofs.lemmas.List.{get_or_default}
use Rattle.std.proofs.lemmas.List.Elements.{recursion_from_All}
use Rattle.rr_syntax.specs.Tree.{Tree, Name, Literal, Bit, Part, Indexed, Unary, Binary, Cond, Concat, Repeat, Cast, Paren, Statement}
use Rattle.rr_flat.specs.Reads.{assigned_by}
use Rattle.rr_guard.specs.Names.{whole_name}
use Rattle.rr_overwrite.specs.Overwrites.{Target, target_if, whole_target, targets_of}
use Rattle.rr_sites_ordered.proofs.Members.{all_flat, all_first_targets}

pub by_element : {X : Type 0} (P : X → Type 0) (xs : List X) → ((x : X) → Contains xs x → P x) → AllByRecursion P xs
by_element {X} P xs h = recursion_from_All P xs (λ k d l. h (get_or xs k d) (k, l, same xs k d l))
  where
    same : (xs : List X) (k : ℕ) (d : X) → k < length xs → get_or xs k (get_or xs k d) ≡ get_or xs k d
    same xs k d l = get_or_default xs k (get_or xs k d) d l

module _ (s : Statement) where
  -- it stands there as a whole target
  abbrev pub IsTarget : Target → Type 0
  IsTarget t = (token : ℕ) × Contains (assigned_by s) (record { part = Name token t.text; now = t.now })

  whole_is : (part : Tree) (now : Bool) → Contains (assigned_by s) (record { part = part; now = now }) → AllByRecursion IsTarget (target_if (whole_name part) now)
  whole_is (Name token name) now c = ((token, c), tt)
  whole_is (Literal token n) now c = tt
  whole_is (Bit token name i) now c = tt
  whole_is (Part token name l r) now c = tt
  whole_is (Indexed token name f n up) now c = tt
  whole_is (Unary op t) now c = tt
  whole_is (Binary op l r) now c = tt
  whole_is (Cond a b d) now c = tt
  whole_is (Concat ts) now c = tt
  whole_is (Repeat n ts) now c = tt
  whole_is (Cast signed t) now c = tt
  whole_is (Paren t) now c = tt

  pub targets_are : AllByRecursion IsTarget (targets_of s)
  unfolding targets_of
  targets_are =
      all_first_targets IsTarget (flat_map whole_target (assigned_by s))
      (all_flat IsTarget whole_target (assigned_by s) (by_element (λ a. AllByRecursion IsTarget (whole_target a)) (assigned_by s) (λ a c. whole_is a.part a.now c)))

  pub assigns_some : (t : Target) → IsTarget t → assigned_by s ≡ [] → ⊥
  assigns_some t (token, c) e = let l : c.0 < length (assigned_by s) = c.1 in let z : length (assigned_by s) ≡ 0 = ap length e in omega (arith, l, z)
