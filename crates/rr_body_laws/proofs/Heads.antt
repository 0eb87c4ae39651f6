-- Declarations see nothing of a body: the head of a module with other bodies is its own.
use Rattle.std.proofs.Common.{◌≡◌, ◌∙◌, ap, ℕ, [], map, Ok, refl, fold}
use Rattle.rr_syntax.specs.Tree.{ModuleItem, Always, ModuleDeclaration}
use Rattle.rr_expr.specs.Scopes.{Names}
use Rattle.rr_flat.specs.Faults.{and_then, each}
use Rattle.rr_declarations.specs.Parameters.{add_parameters, add_item_parameters, parameters}
use Rattle.rr_declarations.specs.Declarations.{Declarations, know_ports, know_item, known, know_port_item, add_plain_name, plain_names, brackets, declare_ports, declare_item, declarations}
use Rattle.rr_declarations.specs.Heads.{declared_in_order, declared, numbered, head}
use Rattle.rr_token_numbers.proofs.Folds.{fold_mapped}
use Rattle.rr_flat_instance.proofs.Lists.{and_then_same, each_mapped}
use Rattle.rr_body_laws.specs.Bodies.{Bodies, item_with, module_with}

module _ (f : Bodies) where
  -- parameters

  add_item_parameters_with : (given : Names) (i : ModuleItem) (names : Names) → add_item_parameters given (item_with f i) names ≡ add_item_parameters given i names
  unfolding add_item_parameters item_with
  add_item_parameters_with given (Always events body token) names = refl
  add_item_parameters_with given i names = refl

  parameters_with : (given : Names) (m : ModuleDeclaration) → parameters given (module_with f m) ≡ parameters given m
  unfolding parameters module_with
  parameters_with given m =
      and_then_same (each (add_parameters given) m.params []) (each (add_parameters given) m.params []) (each (add_item_parameters given) (map (item_with f) m.items)) (each (add_item_parameters given) m.items)
      refl (each_mapped (item_with f) (add_item_parameters given) (add_item_parameters_with given) m.items)

  -- names

  know_item_with : (names : Names) (i : ModuleItem) → know_item names (item_with f i) ≡ know_item names i
  unfolding know_item item_with
  know_item_with names (Always events body token) = refl
  know_item_with names i = refl

  known_with : (m : ModuleDeclaration) (names : Names) → known (module_with f m) names ≡ known m names
  unfolding known module_with
  known_with m names = fold_mapped (item_with f) know_item know_item_with (fold know_ports names m.groups) m.items

  know_port_item_with : (names : Names) (i : ModuleItem) → know_port_item names (item_with f i) ≡ know_port_item names i
  unfolding know_port_item item_with
  know_port_item_with names (Always events body token) = refl
  know_port_item_with names i = refl

  brackets_with : (m : ModuleDeclaration) → brackets (module_with f m) ≡ brackets m
  unfolding brackets module_with
  brackets_with m =
      ap (λ (directed : Names). and_then (each (add_plain_name directed) (plain_names m.header) []) (λ (names : Names). Ok (fold know_ports names m.groups)))
      (fold_mapped (item_with f) know_port_item know_port_item_with [] m.items)

  -- declarations

  declare_item_with : (bracketed all : Names) (i : ModuleItem) (d : Declarations) → declare_item bracketed all (item_with f i) d ≡ declare_item bracketed all i d
  unfolding declare_item item_with
  declare_item_with bracketed all (Always events body token) d = refl
  declare_item_with bracketed all i d = refl

  declarations_with : (bracketed all : Names) (m : ModuleDeclaration) (d : Declarations) → declarations bracketed all (module_with f m) d ≡ declarations bracketed all m d
  unfolding declarations module_with
  declarations_with bracketed all m d =
      and_then_same (each (declare_ports bracketed all) m.groups d) (each (declare_ports bracketed all) m.groups d)
      (each (declare_item bracketed all) (map (item_with f) m.items)) (each (declare_item bracketed all) m.items)
      refl (each_mapped (item_with f) (declare_item bracketed all) (declare_item_with bracketed all) m.items)

  signals_with : (m : ModuleDeclaration) (d : Declarations) → declared_in_order (module_with f m) d ≡ declared_in_order m d
  unfolding declared_in_order module_with
  signals_with m d = refl

  declared_with : (i bits : ℕ) (m : ModuleDeclaration) (names : Names) → declared i bits (module_with f m) names ≡ declared i bits m names
  unfolding declared
  declared_with i bits m names =
      and_then_same (brackets (module_with f m)) (brackets m)
      (λ bracketed. declarations bracketed (known (module_with f m) names) (module_with f m) (record { instance = i; names = names; list = []; bits = bits }))
      (λ bracketed. declarations bracketed (known m names) m (record { instance = i; names = names; list = []; bits = bits }))
      (brackets_with m)
      (λ bracketed. ap (λ (all : Names). declarations bracketed all (module_with f m) (record { instance = i; names = names; list = []; bits = bits })) (known_with m names)
      ∙ declarations_with bracketed (known m names) m (record { instance = i; names = names; list = []; bits = bits }))

  pub head_with : (i base bits : ℕ) (given : Names) (m : ModuleDeclaration) → head i base bits given (module_with f m) ≡ head i base bits given m
  unfolding head
  head_with i base bits given m =
      and_then_same (parameters given (module_with f m)) (parameters given m)
      (λ names. and_then (declared i bits (module_with f m) names) (λ d. numbered i base d.bits (declared_in_order (module_with f m) d) names))
      (λ names. and_then (declared i bits m names) (λ d. numbered i base d.bits (declared_in_order m d) names))
      (parameters_with given m)
      (λ names. and_then_same (declared i bits (module_with f m) names) (declared i bits m names)
      (λ d. numbered i base d.bits (declared_in_order (module_with f m) d) names) (λ d. numbered i base d.bits (declared_in_order m d) names)
      (declared_with i bits m names)
      (λ d. ap (λ z. numbered i base d.bits z names) (signals_with m d)))
