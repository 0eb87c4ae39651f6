-- Tables of names see nothing of a body, and a module that has an instance is one of those that change.
use Rattle.std.proofs.Common.{◌≡◌, ◌∙◌, sym, ap, ap₂, subst, ℕ, zero, suc, ◌+◌, ◌<◌, Bool, true, false, if◌then◌else◌, List, [], ◌∷◌, ◌++◌, length, map, flat_map, Option, Some, None, refl, fold, is_some, nat_eq, arith}
use Rattle.std.specs.List.{list_any}
use Rattle.std.proofs.lemmas.Bool.{eq-eqb, or_right}
use Rattle.rr_syntax.specs.Tree.{Statement, EventControl, Star, Edges, Levels, ModuleItem, Always, ModuleDeclaration}
use Rattle.rr_expr.specs.Scopes.{Names, lookup}
use Rattle.rr_flat.specs.Faults.{each}
use Rattle.rr_flat.specs.Signals.{Text}
use Rattle.rr_flatten.specs.Tables.{add_module, instantiated_by_item, instantiated_by, last_free, add_parameter_names, add_item_parameter_names, parameter_table, add_open_names, add_item_open_names, open_names, port_names}
use Rattle.rr_loop_rules.specs.Rules.{loops_in, loops_of_item, integers_of_item, loop_names, with_integer}
use Rattle.rr_flatten.specs.Walk.{module_at, top_place, reached_from}
use Rattle.rr_token_numbers.proofs.Folds.{fold_mapped}
use Rattle.rr_flat_instance.proofs.Lists.{and_then_same}
use Rattle.rr_body_laws.specs.Bodies.{Bodies, body_with, item_with, module_with, modules_with}

-- a module, or the same with other bodies
abbrev pub either_with : Bool → Bodies → ModuleDeclaration → ModuleDeclaration
either_with b f m = if b then module_with f m else m

module _ (f : Bodies) where
  -- the parameters and ports of a module

  add_item_parameter_names_with : (table : Names) (i : ModuleItem) → add_item_parameter_names table (item_with f i) ≡ add_item_parameter_names table i
  unfolding add_item_parameter_names item_with
  add_item_parameter_names_with table (Always events body token) = refl
  add_item_parameter_names_with table i = refl

  pub parameter_table_with : (b : Bool) (m : ModuleDeclaration) → parameter_table (either_with b f m) ≡ parameter_table m
  unfolding parameter_table module_with
  parameter_table_with true m = fold_mapped (item_with f) add_item_parameter_names add_item_parameter_names_with (fold add_parameter_names [] m.params) m.items
  parameter_table_with false m = refl

  add_item_open_names_with : (names : List Text) (i : ModuleItem) → add_item_open_names names (item_with f i) ≡ add_item_open_names names i
  unfolding add_item_open_names item_with
  add_item_open_names_with names (Always events body token) = refl
  add_item_open_names_with names i = refl

  pub open_names_with : (b : Bool) (m : ModuleDeclaration) → open_names (either_with b f m) ≡ open_names m
  unfolding open_names module_with
  open_names_with true m = fold_mapped (item_with f) add_item_open_names add_item_open_names_with (fold add_open_names [] m.params) m.items
  open_names_with false m = refl

  pub port_names_with : (b : Bool) (m : ModuleDeclaration) → port_names (either_with b f m) ≡ port_names m
  unfolding port_names module_with
  port_names_with true m = refl
  port_names_with false m = refl

  -- the names of the loops of a module, where each new body has loops of the same names

  body_loops_with : ((token : ℕ) (body : Statement) → loops_in (f token body) ≡ loops_in body) → (events : EventControl) (body : Statement) (token : ℕ) → loops_in (body_with f events body token) ≡ loops_in body
  body_loops_with h (Star brackets) body token = h token body
  body_loops_with h (Edges list commas) body token = refl
  body_loops_with h (Levels list commas) body token = h token body

  item_loops_with : ((token : ℕ) (body : Statement) → loops_in (f token body) ≡ loops_in body) → (i : ModuleItem) → loops_of_item (item_with f i) ≡ loops_of_item i
  unfolding loops_of_item item_with
  item_loops_with h (Always events body token) = body_loops_with h events body token
  item_loops_with h i = refl

  item_integers_with : (i : ModuleItem) → integers_of_item (item_with f i) ≡ integers_of_item i
  unfolding integers_of_item item_with
  item_integers_with (Always events body token) = refl
  item_integers_with i = refl

  flat_with_items : (g : ModuleItem → List Text) → ((i : ModuleItem) → g (item_with f i) ≡ g i) → (items : List ModuleItem) → flat_map g (map (item_with f) items) ≡ flat_map g items
  flat_with_items g h [] = refl
  flat_with_items g h (i ∷ items) = ap₂ (λ (xs ys : List Text). xs ++ ys) (h i) (flat_with_items g h items)

  pub loop_names_with : ((token : ℕ) (body : Statement) → loops_in (f token body) ≡ loops_in body) → (m : ModuleDeclaration) → loop_names (module_with f m) ≡ loop_names m
  unfolding loop_names module_with
  loop_names_with h m =
      ap₂ (λ (loops integers : List Text). fold (with_integer loops) [] integers) (flat_with_items loops_of_item (item_loops_with h) m.items) (flat_with_items integers_of_item item_integers_with m.items)

  text_with : (b : Bool) (m : ModuleDeclaration) → (either_with b f m).text ≡ m.text
  unfolding module_with
  text_with true m = refl
  text_with false m = refl

  token_with : (b : Bool) (m : ModuleDeclaration) → (either_with b f m).token ≡ m.token
  unfolding module_with
  token_with true m = refl
  token_with false m = refl

  add_module_with : (b : Bool) (m : ModuleDeclaration) (table : Names) → add_module (either_with b f m) table ≡ add_module m table
  unfolding add_module module_with
  add_module_with true m table = refl
  add_module_with false m table = refl

  instantiated_by_item_with : (names : Names) (i : ModuleItem) → instantiated_by_item names (item_with f i) ≡ instantiated_by_item names i
  unfolding instantiated_by_item item_with
  instantiated_by_item_with names (Always events body token) = refl
  instantiated_by_item_with names i = refl

  instantiated_by_with : (b : Bool) (names : Names) (m : ModuleDeclaration) → instantiated_by names (either_with b f m) ≡ instantiated_by names m
  unfolding instantiated_by module_with
  instantiated_by_with true names m = fold_mapped (item_with f) instantiated_by_item instantiated_by_item_with names m.items
  instantiated_by_with false names m = refl

  module _ (numbers : List ℕ) where
    -- the modules of a source

    pub table_with : (k : ℕ) (ms : List ModuleDeclaration) (table : Names) → each add_module (modules_with numbers f k ms) table ≡ each add_module ms table
    unfolding each modules_with
    table_with k [] table = refl
    table_with k (m ∷ ms) table =
        and_then_same (add_module (either_with (list_any (nat_eq k) numbers) f m) table) (add_module m table) (each add_module (modules_with numbers f (k + 1) ms)) (each add_module ms)
        (add_module_with (list_any (nat_eq k) numbers) m table) (table_with (k + 1) ms)

    all_instantiated_with : (k : ℕ) (names : Names) (ms : List ModuleDeclaration) → fold instantiated_by names (modules_with numbers f k ms) ≡ fold instantiated_by names ms
    unfolding modules_with
    all_instantiated_with k names [] = refl
    all_instantiated_with k names (m ∷ ms) =
        ap (λ (z : Names). fold instantiated_by z (modules_with numbers f (k + 1) ms)) (instantiated_by_with (list_any (nat_eq k) numbers) names m)
        ∙ all_instantiated_with (k + 1) (instantiated_by names m) ms

    last_free_with : (names : Names) (k : ℕ) (ms : List ModuleDeclaration) (found : Option ℕ) → last_free names k (modules_with numbers f k ms) found ≡ last_free names k ms found
    unfolding last_free modules_with
    last_free_with names k [] found = refl
    last_free_with names k (m ∷ ms) found =
        ap (λ (text : Text). last_free names (k + 1) (modules_with numbers f (k + 1) ms) (if is_some (lookup text names) then found else Some k)) (text_with (list_any (nat_eq k) numbers) m)
        ∙ last_free_with names (k + 1) ms (if is_some (lookup m.text names) then found else Some k)

    pub top_place_with : (ms : List ModuleDeclaration) (table : Names) (top : Option Text) → top_place (modules_with numbers f 0 ms) table top ≡ top_place ms table top
    top_place_with ms table None =
        ap (λ (names : Names). last_free names 0 (modules_with numbers f 0 ms) None) (all_instantiated_with 0 [] ms) ∙ last_free_with (fold instantiated_by [] ms) 0 ms None
    top_place_with ms table (Some name) = refl

    pub reached_with : (owners : List ℕ) (k : ℕ) (ms : List ModuleDeclaration) → reached_from owners k (modules_with numbers f k ms) ≡ reached_from owners k ms
    unfolding reached_from modules_with
    reached_with owners k [] = refl
    reached_with owners k (m ∷ ms) = ap (λ (rest : List ℕ). if list_any (nat_eq k) owners then k ∷ rest else rest) (reached_with owners (k + 1) ms)

    -- a module by its number

    no_module_with : (b : Bool) (k : ℕ) → module_at [] k ≡ either_with b f (module_at [] k)
    unfolding module_with
    no_module_with true k = refl
    no_module_with false k = refl

    pub module_either : (j : ℕ) (ms : List ModuleDeclaration) (k : ℕ) → module_at (modules_with numbers f j ms) k ≡ either_with (list_any (nat_eq (j + k)) numbers) f (module_at ms k)
    unfolding modules_with
    module_either j [] k = no_module_with (list_any (nat_eq (j + k)) numbers) k
    module_either j (m ∷ ms) zero = let e : j + 0 ≡ j = omega arith in ap (λ (n : ℕ). either_with (list_any (nat_eq n) numbers) f m) (sym e)
    module_either j (m ∷ ms) (suc k) =
        let e : j + 1 + k ≡ j + suc k = omega arith in module_either (j + 1) ms k ∙ ap (λ (n : ℕ). either_with (list_any (nat_eq n) numbers) f (module_at ms k)) e

    pub module_token : (ms : List ModuleDeclaration) (k : ℕ) → (module_at (modules_with numbers f 0 ms) k).token ≡ (module_at ms k).token
    module_token ms k = ap (λ (m : ModuleDeclaration). m.token) (module_either 0 ms k) ∙ token_with (list_any (nat_eq (0 + k)) numbers) (module_at ms k)

    -- one of those that change, and each beyond the last, which is none
    pub module_changed : (j : ℕ) (ms : List ModuleDeclaration) (k : ℕ) → (k < length ms → list_any (nat_eq (j + k)) numbers ≡ true) → module_at (modules_with numbers f j ms) k ≡ module_with f (module_at ms k)
    unfolding modules_with module_with
    module_changed j [] k h = refl
    module_changed j (m ∷ ms) zero h =
        let e : j + 0 ≡ j = omega arith in
        let t : list_any (nat_eq j) numbers ≡ true = subst (λ (n : ℕ). list_any (nat_eq n) numbers ≡ true) e (h (omega arith)) in
        ap (λ (b : Bool). either_with b f m) t
    module_changed j (m ∷ ms) (suc k) h =
        let e : j + suc k ≡ j + 1 + k = omega arith in
        module_changed (j + 1) ms k (λ l. subst (λ (n : ℕ). list_any (nat_eq n) numbers ≡ true) e (h (omega (arith, l))))

-- each module that owns an instance is reached
pub reached_owner : (owners : List ℕ) (j : ℕ) (ms : List ModuleDeclaration) (k : ℕ) → k < length ms → list_any (nat_eq (j + k)) owners ≡ true → list_any (nat_eq (j + k)) (reached_from owners j ms) ≡ true
unfolding reached_from
reached_owner owners j [] k l h = absurd (omega (arith, l))
reached_owner owners j (m ∷ ms) zero l h =
    let e : j + 0 ≡ j = omega arith in
    let t : list_any (nat_eq j) owners ≡ true = subst (λ (n : ℕ). list_any (nat_eq n) owners ≡ true) e h in
    rw (e, t, eq-eqb j j refl) refl
reached_owner owners j (m ∷ ms) (suc k) l h =
    let e : j + suc k ≡ j + 1 + k = omega arith in
    let r : list_any (nat_eq (j + 1 + k)) (reached_from owners (j + 1) ms) ≡ true =
    reached_owner owners (j + 1) ms k (omega (arith, l)) (subst (λ (n : ℕ). list_any (nat_eq n) owners ≡ true) e h) in
    by_test (list_any (nat_eq j) owners) (subst (λ (n : ℕ). list_any (nat_eq n) (reached_from owners (j + 1) ms) ≡ true) (sym e) r)
  where
    by_test : (b : Bool) → list_any (nat_eq (j + suc k)) (reached_from owners (j + 1) ms) ≡ true
        → list_any (nat_eq (j + suc k)) (if b then j ∷ reached_from owners (j + 1) ms else reached_from owners (j + 1) ms) ≡ true
    by_test true r = or_right (nat_eq (j + suc k) j) (list_any (nat_eq (j + suc k)) (reached_from owners (j + 1) ms)) r
    by_test false r = r

-- an element between two lists is among their elements
pub stands_among : (xs zs : List ℕ) (k : ℕ) → list_any (nat_eq k) ((xs ++ k ∷ []) ++ zs) ≡ true
stands_among [] zs k = rw (eq-eqb k k refl) refl
stands_among (x ∷ xs) zs k = or_right (nat_eq k x) (list_any (nat_eq k) ((xs ++ k ∷ []) ++ zs)) (stands_among xs zs k)
