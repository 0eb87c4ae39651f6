-- Declarations see nothing of an instance: the head of a module is that of its instance.
use Rattle.std.proofs.Common.{◌≡◌, ◌∙◌, ap, ℕ, Bool, true, false, List, [], map, Option, Some, None, Ok, refl, fold, is_none}
use Rattle.rr_syntax.specs.Tree.{DeclaredName, Range, ModuleItem, Ports, Nets, Variables, Integers, Parameters, Assigns, Always, Initial, Instances, ModuleDeclaration}
use Rattle.rr_expr.specs.Scopes.{Names, lookup}
use Rattle.rr_flat.specs.Faults.{and_then, each}
use Rattle.rr_declarations.specs.Values.{range_in}
use Rattle.rr_declarations.specs.Parameters.{add_parameters, add_item_parameters, parameters}
use Rattle.rr_declarations.specs.Declarations.{Declarations, know_declarator, know_ports, know_item, known, know_port_item, add_plain_name, plain_names, brackets, inner_declaration, again_place, repeated_place, declare_new, declare_again, declare_at, declare, declare_nets, declare_ports, declare_item, declarations}
use Rattle.rr_declarations.specs.Heads.{declared_in_order, declared, numbered, head}
use Rattle.rr_choice.specs.declared.pick.Pick.{Pick}
use Rattle.rr_choice.specs.Sites.{Site}
use Rattle.rr_instance.specs.Instances.{instance_net, instance_item, instance_module}
use Rattle.rr_token_numbers.proofs.Folds.{fold_mapped}
use Rattle.rr_flat_instance.proofs.Lists.{and_then_same, each_mapped}

module _ (ss : List Site) (ps : List Pick) where
  -- parameters

  add_item_parameters_instance : (given : Names) (i : ModuleItem) (names : Names) → add_item_parameters given (instance_item ss ps i) names ≡ add_item_parameters given i names
  unfolding add_item_parameters instance_item
  add_item_parameters_instance given (Ports p) names = refl
  add_item_parameters_instance given (Nets signed range list) names = refl
  add_item_parameters_instance given (Variables signed range list) names = refl
  add_item_parameters_instance given (Integers list) names = refl
  add_item_parameters_instance given (Parameters p) names = refl
  add_item_parameters_instance given (Assigns pairs) names = refl
  add_item_parameters_instance given (Always events body token) names = refl
  add_item_parameters_instance given (Initial body token) names = refl
  add_item_parameters_instance given (Instances m token over list) names = refl

  pub parameters_instance : (given : Names) (m : ModuleDeclaration) → parameters given (instance_module ss ps m) ≡ parameters given m
  unfolding parameters instance_module
  parameters_instance given m =
      and_then_same (each (add_parameters given) m.params []) (each (add_parameters given) m.params []) (each (add_item_parameters given) (map (instance_item ss ps) m.items)) (each (add_item_parameters given) m.items)
      refl (each_mapped (instance_item ss ps) (add_item_parameters given) (add_item_parameters_instance given) m.items)

  -- names

  know_net_instance : (names : Names) (n : DeclaredName) → know_declarator names (instance_net ss ps n) ≡ know_declarator names n
  unfolding instance_net
  know_net_instance names n = refl

  know_item_instance : (names : Names) (i : ModuleItem) → know_item names (instance_item ss ps i) ≡ know_item names i
  unfolding know_item instance_item
  know_item_instance names (Ports p) = refl
  know_item_instance names (Nets signed range list) = fold_mapped (instance_net ss ps) know_declarator know_net_instance names list
  know_item_instance names (Variables signed range list) = refl
  know_item_instance names (Integers list) = refl
  know_item_instance names (Parameters p) = refl
  know_item_instance names (Assigns pairs) = refl
  know_item_instance names (Always events body token) = refl
  know_item_instance names (Initial body token) = refl
  know_item_instance names (Instances m token over list) = refl

  known_instance : (m : ModuleDeclaration) (names : Names) → known (instance_module ss ps m) names ≡ known m names
  unfolding known instance_module
  known_instance m names = fold_mapped (instance_item ss ps) know_item know_item_instance (fold know_ports names m.groups) m.items

  know_port_item_instance : (names : Names) (i : ModuleItem) → know_port_item names (instance_item ss ps i) ≡ know_port_item names i
  unfolding know_port_item instance_item
  know_port_item_instance names (Ports p) = refl
  know_port_item_instance names (Nets signed range list) = refl
  know_port_item_instance names (Variables signed range list) = refl
  know_port_item_instance names (Integers list) = refl
  know_port_item_instance names (Parameters p) = refl
  know_port_item_instance names (Assigns pairs) = refl
  know_port_item_instance names (Always events body token) = refl
  know_port_item_instance names (Initial body token) = refl
  know_port_item_instance names (Instances m token over list) = refl

  brackets_instance : (m : ModuleDeclaration) → brackets (instance_module ss ps m) ≡ brackets m
  unfolding brackets instance_module
  brackets_instance m =
      ap (λ (directed : Names). and_then (each (add_plain_name directed) (plain_names m.header) []) (λ (names : Names). Ok (fold know_ports names m.groups)))
      (fold_mapped (instance_item ss ps) know_port_item know_port_item_instance [] m.items)

  -- declarations

  -- what drives a net is no starting value

  net_at_instance : (bracketed all : Names) (r : Option (ℕ × ℕ)) (signed : Bool) (n : DeclaredName) (d : Declarations) (place : Option ℕ)
      → declare_at bracketed all (inner_declaration false signed r) (instance_net ss ps n) d place ≡ declare_at bracketed all (inner_declaration false signed r) n d place
  unfolding declare_new declare_again instance_net
  net_at_instance bracketed all r signed n d None = refl
  net_at_instance bracketed all r signed n d (Some place) = refl

  declare_net_instance : (bracketed all : Names) (r : Option (ℕ × ℕ)) (signed : Bool) (n : DeclaredName) (d : Declarations)
      → declare bracketed all (inner_declaration false signed r) (instance_net ss ps n) d ≡ declare bracketed all (inner_declaration false signed r) n d
  unfolding declare instance_net
  declare_net_instance bracketed all r signed n d = net_at_instance bracketed all r signed n d (repeated_place (is_none n.words) (again_place (lookup n.text d.names) d.list))

  declare_nets_instance : (bracketed all : Names) (signed : Bool) (range : Option Range) (list : List DeclaredName) (d : Declarations) → declare_nets bracketed all signed range (map (instance_net ss ps) list) d ≡ declare_nets bracketed all signed range list d
  unfolding declare_nets
  declare_nets_instance bracketed all signed range list d =
      and_then_same (range_in all range) (range_in all range)
      (λ r. each (declare bracketed all (inner_declaration false signed r)) (map (instance_net ss ps) list) d)
      (λ r. each (declare bracketed all (inner_declaration false signed r)) list d)
      refl (λ r. each_mapped (instance_net ss ps) (declare bracketed all (inner_declaration false signed r)) (declare_net_instance bracketed all r signed) list d)

  declare_item_instance : (bracketed all : Names) (i : ModuleItem) (d : Declarations) → declare_item bracketed all (instance_item ss ps i) d ≡ declare_item bracketed all i d
  unfolding declare_item instance_item
  declare_item_instance bracketed all (Ports p) d = refl
  declare_item_instance bracketed all (Nets signed range list) d = declare_nets_instance bracketed all signed range list d
  declare_item_instance bracketed all (Variables signed range list) d = refl
  declare_item_instance bracketed all (Integers list) d = refl
  declare_item_instance bracketed all (Parameters p) d = refl
  declare_item_instance bracketed all (Assigns pairs) d = refl
  declare_item_instance bracketed all (Always events body token) d = refl
  declare_item_instance bracketed all (Initial body token) d = refl
  declare_item_instance bracketed all (Instances m token over list) d = refl

  declarations_instance : (bracketed all : Names) (m : ModuleDeclaration) (d : Declarations) → declarations bracketed all (instance_module ss ps m) d ≡ declarations bracketed all m d
  unfolding declarations instance_module
  declarations_instance bracketed all m d =
      and_then_same (each (declare_ports bracketed all) m.groups d) (each (declare_ports bracketed all) m.groups d)
      (each (declare_item bracketed all) (map (instance_item ss ps) m.items)) (each (declare_item bracketed all) m.items)
      refl (each_mapped (instance_item ss ps) (declare_item bracketed all) (declare_item_instance bracketed all) m.items)

  signals_instance : (m : ModuleDeclaration) (d : Declarations) → declared_in_order (instance_module ss ps m) d ≡ declared_in_order m d
  unfolding declared_in_order instance_module
  signals_instance m d = refl

  declared_instance : (i bits : ℕ) (m : ModuleDeclaration) (names : Names) → declared i bits (instance_module ss ps m) names ≡ declared i bits m names
  unfolding declared
  declared_instance i bits m names =
      and_then_same (brackets (instance_module ss ps m)) (brackets m)
      (λ bracketed. declarations bracketed (known (instance_module ss ps m) names) (instance_module ss ps m) (record { instance = i; names = names; list = []; bits = bits }))
      (λ bracketed. declarations bracketed (known m names) m (record { instance = i; names = names; list = []; bits = bits }))
      (brackets_instance m)
      (λ bracketed. ap (λ (all : Names). declarations bracketed all (instance_module ss ps m) (record { instance = i; names = names; list = []; bits = bits })) (known_instance m names)
      ∙ declarations_instance bracketed (known m names) m (record { instance = i; names = names; list = []; bits = bits }))

  pub head_instance : (i base bits : ℕ) (given : Names) (m : ModuleDeclaration) → head i base bits given (instance_module ss ps m) ≡ head i base bits given m
  unfolding head
  head_instance i base bits given m =
      and_then_same (parameters given (instance_module ss ps m)) (parameters given m)
      (λ names. and_then (declared i bits (instance_module ss ps m) names) (λ d. numbered i base d.bits (declared_in_order (instance_module ss ps m) d) names))
      (λ names. and_then (declared i bits m names) (λ d. numbered i base d.bits (declared_in_order m d) names))
      (parameters_instance given m)
      (λ names. and_then_same (declared i bits (instance_module ss ps m) names) (declared i bits m names)
      (λ d. numbered i base d.bits (declared_in_order (instance_module ss ps m) d) names) (λ d. numbered i base d.bits (declared_in_order m d) names)
      (declared_instance i bits m names)
      (λ d. ap (λ z. numbered i base d.bits z names) (signals_instance m d)))
