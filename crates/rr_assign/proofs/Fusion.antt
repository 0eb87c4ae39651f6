-- Faults of the targets and names that were collected from a text.
use Rattle.std.proofs.Common.{◌≡◌, ◌∙◌, sym, ap, ℕ, Bool, true, false, List, [], ◌∷◌, ◌++◌, map, None, Some, refl, append-nil}
use Rattle.std.specs.Prelude.{flat_map}
use Rattle.rr_syntax.specs.Tree.{Tree}
use Rattle.rr_flat.specs.Reads.{Assigned, assigned_parts}
use Rattle.rr_flat.specs.Writers.{no_block}
use Rattle.rr_flat.specs.Plain.{Flat}
use Rattle.rr_assign.specs.Aims.{bad_of_block, unless}
use Rattle.rr_text_names.specs.Firsts.{earliest}
use Rattle.rr_text_names.specs.View.{plain_target}
use Rattle.rr_text_names.specs.declared.lists.Target.{Target}
use Rattle.rr_text_names.proofs.Walks.{flat_map_map}

parts_same : (f : Tree → List ℕ) (now : Bool) (ts : List Tree) → flat_map (λ a. f a.part) (assigned_parts now ts) ≡ flat_map f ts
unfolding assigned_parts
parts_same f now [] = refl
parts_same f now (t ∷ ts) = ap (λ z. f t ++ z) (parts_same f now ts)

pub parts_collected : (f : Tree → List ℕ) (now : Bool) (xs : List Target) (ts : List Tree) → map plain_target xs ≡ assigned_parts now ts
    → flat_map (λ t. f (plain_target t).part) xs ≡ flat_map f ts
parts_collected f now xs ts h = flat_map_map (λ (a : Assigned). f a.part) plain_target xs ∙ (ap (flat_map (λ (a : Assigned). f a.part)) h ∙ parts_same f now ts)

pub targets_collected : (f : Assigned → List ℕ) (xs : List Target) (ts : List Assigned) → map plain_target xs ≡ ts → flat_map (λ t. f (plain_target t)) xs ≡ flat_map f ts
targets_collected f xs ts h = flat_map_map f plain_target xs ∙ ap (flat_map f) h

-- a part that is a driver has no block
pub no_targets : (flat : Flat) (xs : List ℕ) → earliest xs ≡ earliest (xs ++ bad_of_block flat no_block)
unfolding Rattle.rr_flat.specs.Reads.assigned_by
no_targets flat xs = ap earliest (sym (append-nil xs))

-- the answer for one name

pub unless_none : (ok : Bool) (token : ℕ) → ok ≡ true → None ≡ earliest (unless ok token)
unfolding earliest
unless_none ok token h = rw h refl

pub unless_some : (ok : Bool) (token other : ℕ) → ok ≡ false → other ≡ token → Some other ≡ earliest (unless ok token)
unfolding earliest
unless_some ok token other h e = rw (h, e) refl
