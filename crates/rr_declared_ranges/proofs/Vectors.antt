-- In each instance the names of the loops of its module are integers.
use Rattle.std.proofs.Common.{◌≡◌, ℕ, Bool, true, false, if◌then◌else◌, ◌||◌, List, [], ◌∷◌, ◌++◌, Option, Some, None, refl, sym, subst}
use Rattle.std.specs.List.{AllByRecursion}
use Rattle.std.specs.Str.{bytes_eq}
use Rattle.std.proofs.lemmas.Bool.{both_ways}
use Rattle.std.proofs.lemmas.Slice.Eq.{bytes_eq-Decides}
use Rattle.rr_syntax.specs.Tree.{Identifier, ModuleItem, Ports, Nets, Variables, Integers, Parameters, Assigns, Always, Initial, Instances, ModuleDeclaration}
use Rattle.rr_expr.specs.Scopes.{Names}
use Rattle.rr_flat.specs.Signals.{Text}
use Rattle.rr_flat.specs.Writers.{scope_at}
use Rattle.rr_loop_rules.specs.Rules.{LoopNames, contains, with_new, with_integer, loops_of, integers_of_item, integers_of, loop_names}
use Rattle.rr_flatten.proofs.HeadOf.{fold_over, all_append}
use Rattle.rr_flat_laws.specs.Names.{module_of}
use Rattle.rr_declared_ranges.specs.Ranges.{IsMade, ItemBy, AllBy}
use Rattle.rr_declared_ranges.specs.Laws.{LoopsAreVectors}
use Rattle.rr_declared_ranges.proofs.Members.{all_weaken, all_map, all_flat}
use Rattle.rr_declared_ranges.proofs.Scalars.{names_of_source}

-- what holds of the integers of a module holds of the names of its loops
module _ (Q : Text → Type 0) where
  all_with_new : (names : LoopNames) (name : Text) → AllByRecursion Q names → Q name → AllByRecursion Q (with_new names name)
  all_with_new names name h q = by (contains names name)
    where
      by : (b : Bool) → AllByRecursion Q (if b then names else names ++ name ∷ [])
      by true = h
      by false = all_append Q names (name ∷ []) h (q, tt)

  all_with_integer : (loops : List Text) (name : Text) (names : LoopNames) → Q name → AllByRecursion Q names → AllByRecursion Q (with_integer loops names name)
  all_with_integer loops name names q h = by (contains loops name)
    where
      by : (b : Bool) → AllByRecursion Q (if b then with_new names name else names)
      by true = all_with_new names name h q
      by false = h

  pub all_loops : (m : ModuleDeclaration) → AllByRecursion Q (integers_of m.items) → AllByRecursion Q (loop_names m)
  unfolding loop_names
  all_loops m h = fold_over Q (AllByRecursion Q) (with_integer (loops_of m.items)) (λ x s q p. all_with_integer (loops_of m.items) x s q p) (integers_of m.items) [] h tt

  held : (names : LoopNames) (name : Text) → AllByRecursion Q names → contains names name ≡ true → Q name
  held [] name h c = absurd (both_ways false refl c)
  held (x ∷ xs) name h c = by (bytes_eq name x) refl c (held xs name h.1)
    where
      by : (b : Bool) → bytes_eq name x ≡ b → (b || contains xs name) ≡ true → (contains xs name ≡ true → Q name) → Q name
      by true e k more = subst Q (sym ((bytes_eq-Decides name x).0 e)) h.0
      by false e k more = more k

-- an integer has 32 bits
module _ (P : Text → Option (ℕ × ℕ) → Option (ℕ × ℕ) → Type 0) (seen : Names) where
  abbrev IsLong : Text → Type 0
  IsLong name = P name (Some (31, 0)) None

  item_integers : (x : ModuleItem) → ItemBy P seen x → AllByRecursion IsLong (integers_of_item x)
  unfolding integers_of_item
  item_integers (Ports p) h = tt
  item_integers (Nets signed range list) h = tt
  item_integers (Variables signed range list) h = tt
  item_integers (Integers list) h = all_map IsLong (λ (n : Identifier). n.text) list h
  item_integers (Parameters p) h = tt
  item_integers (Assigns pairs) h = tt
  item_integers (Always events body token) h = tt
  item_integers (Initial body token) h = tt
  item_integers (Instances m token overrides list) h = tt

  loops_long : (m : ModuleDeclaration) → AllBy P seen m → (name : Text) → contains (loop_names m) name ≡ true → P name (Some (31, 0)) None
  loops_long m a name c =
      held IsLong (loop_names m) name (all_loops IsLong m (all_flat IsLong integers_of_item m.items (all_weaken (ItemBy P seen) m.items (λ x h. item_integers x h) a.items))) c

pub loops_of_source : LoopsAreVectors
loops_of_source source top flat e i l name c =
    let b = names_of_source source top flat e i l in
    loops_long (IsMade (scope_at flat i)) b.0 (module_of source flat i) b.1 name c
