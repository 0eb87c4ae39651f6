-- Tables of names see nothing of an instance.
use Rattle.std.proofs.Common.{◌≡◌, ◌∙◌, ap, ℕ, zero, suc, ◌+◌, if◌then◌else◌, List, [], ◌∷◌, map, Option, Some, None, refl, fold, is_some, nat_eq}
use Rattle.std.specs.List.{list_any}
use Rattle.rr_syntax.specs.Tree.{ModuleItem, Ports, Nets, Variables, Integers, Parameters, Assigns, Always, Initial, Instances, ModuleDeclaration}
use Rattle.rr_expr.specs.Scopes.{Names, lookup}
use Rattle.rr_flat.specs.Faults.{each}
use Rattle.rr_flat.specs.Signals.{Text}
use Rattle.rr_flatten.specs.Tables.{add_module, instantiated_by_item, instantiated_by, last_free, add_parameter_names, add_item_parameter_names, parameter_table, add_open_names, add_item_open_names, open_names, port_names}
use Rattle.rr_flatten.specs.Walk.{module_at, top_place, reached_from}
use Rattle.rr_choice.specs.declared.pick.Pick.{Pick}
use Rattle.rr_choice.specs.Sites.{Site}
use Rattle.rr_instance.specs.Instances.{instance_item, instance_module}
use Rattle.rr_token_numbers.proofs.Folds.{fold_mapped}
use Rattle.rr_flat_instance.proofs.Lists.{each_mapped}

module _ (ss : List Site) (ps : List Pick) where
  -- the modules of a source

  add_module_instance : (m : ModuleDeclaration) (table : Names) → add_module (instance_module ss ps m) table ≡ add_module m table
  unfolding add_module instance_module
  add_module_instance m table = refl

  pub table_instance : (ms : List ModuleDeclaration) (table : Names) → each add_module (map (instance_module ss ps) ms) table ≡ each add_module ms table
  table_instance ms table = each_mapped (instance_module ss ps) add_module add_module_instance ms table

  pub module_instance : (ms : List ModuleDeclaration) (k : ℕ) → module_at (map (instance_module ss ps) ms) k ≡ instance_module ss ps (module_at ms k)
  unfolding instance_module
  module_instance [] k = refl
  module_instance (m ∷ ms) zero = refl
  module_instance (m ∷ ms) (suc k) = module_instance ms k

  instantiated_by_item_instance : (names : Names) (i : ModuleItem) → instantiated_by_item names (instance_item ss ps i) ≡ instantiated_by_item names i
  unfolding instantiated_by_item instance_item
  instantiated_by_item_instance names (Ports p) = refl
  instantiated_by_item_instance names (Nets signed range list) = refl
  instantiated_by_item_instance names (Variables signed range list) = refl
  instantiated_by_item_instance names (Integers list) = refl
  instantiated_by_item_instance names (Parameters p) = refl
  instantiated_by_item_instance names (Assigns pairs) = refl
  instantiated_by_item_instance names (Always events body token) = refl
  instantiated_by_item_instance names (Initial body token) = refl
  instantiated_by_item_instance names (Instances m token over list) = refl

  instantiated_by_instance : (names : Names) (m : ModuleDeclaration) → instantiated_by names (instance_module ss ps m) ≡ instantiated_by names m
  unfolding instantiated_by instance_module
  instantiated_by_instance names m = fold_mapped (instance_item ss ps) instantiated_by_item instantiated_by_item_instance names m.items

  last_free_instance : (names : Names) (k : ℕ) (ms : List ModuleDeclaration) (found : Option ℕ) → last_free names k (map (instance_module ss ps) ms) found ≡ last_free names k ms found
  unfolding last_free instance_module
  last_free_instance names k [] found = refl
  last_free_instance names k (m ∷ ms) found = last_free_instance names (k + 1) ms (if is_some (lookup m.text names) then found else Some k)

  pub top_place_instance : (ms : List ModuleDeclaration) (table : Names) (top : Option Text) → top_place (map (instance_module ss ps) ms) table top ≡ top_place ms table top
  top_place_instance ms table None =
      ap (λ (names : Names). last_free names 0 (map (instance_module ss ps) ms) None) (fold_mapped (instance_module ss ps) instantiated_by instantiated_by_instance [] ms)
      ∙ last_free_instance (fold instantiated_by [] ms) 0 ms None
  top_place_instance ms table (Some name) = refl

  pub reached_instance : (owners : List ℕ) (k : ℕ) (ms : List ModuleDeclaration) → reached_from owners k (map (instance_module ss ps) ms) ≡ reached_from owners k ms
  unfolding reached_from
  reached_instance owners k [] = refl
  reached_instance owners k (m ∷ ms) = ap (λ (rest : List ℕ). if list_any (nat_eq k) owners then k ∷ rest else rest) (reached_instance owners (k + 1) ms)

  -- the parameters and ports of a module

  add_item_parameter_names_instance : (table : Names) (i : ModuleItem) → add_item_parameter_names table (instance_item ss ps i) ≡ add_item_parameter_names table i
  unfolding add_item_parameter_names instance_item
  add_item_parameter_names_instance table (Ports p) = refl
  add_item_parameter_names_instance table (Nets signed range list) = refl
  add_item_parameter_names_instance table (Variables signed range list) = refl
  add_item_parameter_names_instance table (Integers list) = refl
  add_item_parameter_names_instance table (Parameters p) = refl
  add_item_parameter_names_instance table (Assigns pairs) = refl
  add_item_parameter_names_instance table (Always events body token) = refl
  add_item_parameter_names_instance table (Initial body token) = refl
  add_item_parameter_names_instance table (Instances m token over list) = refl

  pub parameter_table_instance : (m : ModuleDeclaration) → parameter_table (instance_module ss ps m) ≡ parameter_table m
  unfolding parameter_table instance_module
  parameter_table_instance m = fold_mapped (instance_item ss ps) add_item_parameter_names add_item_parameter_names_instance (fold add_parameter_names [] m.params) m.items

  add_item_open_names_instance : (names : List Text) (i : ModuleItem) → add_item_open_names names (instance_item ss ps i) ≡ add_item_open_names names i
  unfolding add_item_open_names instance_item
  add_item_open_names_instance names (Ports p) = refl
  add_item_open_names_instance names (Nets signed range list) = refl
  add_item_open_names_instance names (Variables signed range list) = refl
  add_item_open_names_instance names (Integers list) = refl
  add_item_open_names_instance names (Parameters p) = refl
  add_item_open_names_instance names (Assigns pairs) = refl
  add_item_open_names_instance names (Always events body token) = refl
  add_item_open_names_instance names (Initial body token) = refl
  add_item_open_names_instance names (Instances m token over list) = refl

  pub open_names_instance : (m : ModuleDeclaration) → open_names (instance_module ss ps m) ≡ open_names m
  unfolding open_names instance_module
  open_names_instance m = fold_mapped (instance_item ss ps) add_item_open_names add_item_open_names_instance (fold add_open_names [] m.params) m.items

  pub port_names_instance : (m : ModuleDeclaration) → port_names (instance_module ss ps m) ≡ port_names m
  unfolding port_names instance_module
  port_names_instance m = refl
