-- The names of the loops of items, and the integers of items, at nodes of the arena.
use Rattle.std.proofs.Common.{◌≡◌, ◌∙◌, ap, ℕ, Bool, List, [], ◌∷◌, map, fold, Option, None, Some, refl}
use Rattle.rr_syntax.specs.declared.tree.Bounds.{Bounds}
use Rattle.rr_syntax.specs.declared.tree.Conns.{Conns}
use Rattle.rr_syntax.specs.declared.tree.Declarator.{Declarator}
use Rattle.rr_syntax.specs.declared.tree.Events.{Events}
use Rattle.rr_syntax.specs.declared.tree.Group.{Group}
use Rattle.rr_syntax.specs.declared.tree.Instance.{Instance}
use Rattle.rr_syntax.specs.declared.tree.Item.TheVariants as item
use Rattle.rr_syntax.specs.declared.tree.Module.{Module}
use Rattle.rr_syntax.specs.declared.tree.Named.{Named}
use Rattle.rr_syntax.specs.declared.tree.Pair.{Pair}
use Rattle.rr_syntax.specs.declared.tree.Params.{Params}
use Rattle.rr_syntax.specs.declared.tree.Stmt.{Stmt}
use Rattle.rr_syntax.specs.Tree.{Identifier}
use Rattle.rr_syntax.specs.View.{plain_identifier, plain_item, plain_module, plain_statement}
use Rattle.rr_flat.specs.Signals.{Text}
use Rattle.rr_loop_rules.specs.Rules.{LoopNames, with_new, with_integer, loops_in, loops_of, loops_of_item, integers_of, integers_of_item, loop_names}
use Rattle.rr_loop_rules.proofs.Sets.{among, same_integers}
use denote.Ref.{Bor}

texts_again : (names : List Named) → map (λ (n : Identifier). n.text) (map plain_identifier names) ≡ map (λ (n : Named). n.name.now) names
unfolding plain_identifier
texts_again [] = refl
texts_again (n ∷ ns) = ap (λ z. n.name.now ∷ z) (texts_again ns)

module _ (known : LoopNames) where
  pub loops-Ports : (g : Group) → fold with_new known (loops_of_item (plain_item (item.Ports g))) ≡ known
  unfolding plain_item loops_of_item
  loops-Ports g = refl

  pub loops-Nets : (signed : Bool) (range : Option Bounds) (names : Bor (List Declarator)) → fold with_new known (loops_of_item (plain_item (item.Nets signed range names))) ≡ known
  unfolding plain_item loops_of_item
  loops-Nets signed range names = refl

  pub loops-Variables : (signed : Bool) (range : Option Bounds) (names : Bor (List Declarator)) → fold with_new known (loops_of_item (plain_item (item.Variables signed range names))) ≡ known
  unfolding plain_item loops_of_item
  loops-Variables signed range names = refl

  pub loops-Integers : (names : Bor (List Named)) → fold with_new known (loops_of_item (plain_item (item.Integers names))) ≡ known
  unfolding plain_item loops_of_item
  loops-Integers names = refl

  pub loops-Parameters : (p : Params) → fold with_new known (loops_of_item (plain_item (item.Parameters p))) ≡ known
  unfolding plain_item loops_of_item
  loops-Parameters p = refl

  pub loops-Assigns : (pairs : Bor (List Pair)) → fold with_new known (loops_of_item (plain_item (item.Assigns pairs))) ≡ known
  unfolding plain_item loops_of_item
  loops-Assigns pairs = refl

  pub loops-Always : (events : Events) (body : Bor Stmt) (token : ℕ) → fold with_new known (loops_of_item (plain_item (item.Always events body token))) ≡ fold with_new known (loops_in (plain_statement body.now))
  unfolding plain_item loops_of_item
  loops-Always events body token = refl

  pub loops-Initial : (body : Bor Stmt) (token : ℕ) → fold with_new known (loops_of_item (plain_item (item.Initial body token))) ≡ fold with_new known (loops_in (plain_statement body.now))
  unfolding plain_item loops_of_item
  loops-Initial body token = refl

  pub loops-Instances : (m : Bor (List ℕ)) (token : ℕ) (overrides : Option Conns) (list : Bor (List Instance)) → fold with_new known (loops_of_item (plain_item (item.Instances m token overrides list))) ≡ known
  unfolding plain_item loops_of_item
  loops-Instances m token overrides list = refl

module _ (loops : List Text) (known : LoopNames) where
  pub integers-Ports : (g : Group) → fold (with_integer loops) known (integers_of_item (plain_item (item.Ports g))) ≡ known
  unfolding plain_item integers_of_item
  integers-Ports g = refl

  pub integers-Nets : (signed : Bool) (range : Option Bounds) (names : Bor (List Declarator)) → fold (with_integer loops) known (integers_of_item (plain_item (item.Nets signed range names))) ≡ known
  unfolding plain_item integers_of_item
  integers-Nets signed range names = refl

  pub integers-Variables : (signed : Bool) (range : Option Bounds) (names : Bor (List Declarator)) → fold (with_integer loops) known (integers_of_item (plain_item (item.Variables signed range names))) ≡ known
  unfolding plain_item integers_of_item
  integers-Variables signed range names = refl

  pub integers-Integers : (names : Bor (List Named)) → fold (with_integer loops) known (integers_of_item (plain_item (item.Integers names))) ≡ fold (with_integer loops) known (map (λ n. n.name.now) names.now)
  unfolding plain_item integers_of_item
  integers-Integers names = ap (fold (with_integer loops) known) (texts_again names.now)

  pub integers-Parameters : (p : Params) → fold (with_integer loops) known (integers_of_item (plain_item (item.Parameters p))) ≡ known
  unfolding plain_item integers_of_item
  integers-Parameters p = refl

  pub integers-Assigns : (pairs : Bor (List Pair)) → fold (with_integer loops) known (integers_of_item (plain_item (item.Assigns pairs))) ≡ known
  unfolding plain_item integers_of_item
  integers-Assigns pairs = refl

  pub integers-Always : (events : Events) (body : Bor Stmt) (token : ℕ) → fold (with_integer loops) known (integers_of_item (plain_item (item.Always events body token))) ≡ known
  unfolding plain_item integers_of_item
  integers-Always events body token = refl

  pub integers-Initial : (body : Bor Stmt) (token : ℕ) → fold (with_integer loops) known (integers_of_item (plain_item (item.Initial body token))) ≡ known
  unfolding plain_item integers_of_item
  integers-Initial body token = refl

  pub integers-Instances : (m : Bor (List ℕ)) (token : ℕ) (overrides : Option Conns) (list : Bor (List Instance)) → fold (with_integer loops) known (integers_of_item (plain_item (item.Instances m token overrides list))) ≡ known
  unfolding plain_item integers_of_item
  integers-Instances m token overrides list = refl

pub ruleset item_loops = (loops-Ports, loops-Nets, loops-Variables, loops-Integers, loops-Parameters, loops-Assigns, loops-Always, loops-Initial, loops-Instances)

pub ruleset item_integers = (integers-Ports, integers-Nets, integers-Variables, integers-Integers, integers-Parameters, integers-Assigns, integers-Always, integers-Initial, integers-Instances)

-- the integers of a module, by the names of its loops, each once
pub module_names : (m : Module) (loops names : LoopNames) → loops ≡ fold with_new [] (loops_of (map plain_item m.items.now)) → names ≡ fold (with_integer loops) [] (integers_of (map plain_item m.items.now)) → names ≡ loop_names (plain_module m)
unfolding plain_module loop_names
module_names m loops names l n =
    n ∙ (ap (λ ls. fold (with_integer ls) [] (integers_of (map plain_item m.items.now))) l
    ∙ same_integers (fold with_new [] (loops_of (map plain_item m.items.now))) (loops_of (map plain_item m.items.now)) (λ name. among name (loops_of (map plain_item m.items.now))) [] (integers_of (map plain_item m.items.now)))
