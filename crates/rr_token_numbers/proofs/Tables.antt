-- Tables of names without token numbers.
use Rattle.std.proofs.Common.{◌≡◌, ◌∙◌, ap, ℕ, zero, suc, ◌+◌, Bool, if◌then◌else◌, List, [], ◌∷◌, map, Option, Some, None, refl, fold, is_some, nat_eq}
use Rattle.std.specs.List.{list_any}
use Rattle.rr_syntax.specs.Tree.{Identifier, DeclaredName, PortDeclaration, ParamAssignment, ParameterDeclaration, ModuleItem, Ports, Nets, Variables, Integers, Parameters, Assigns, Always, Initial, Instances, ModuleDeclaration, bare_identifier, bare_declarator, bare_port, bare_assignment, bare_parameter, bare_item, bare_header, bare_module}
use Rattle.rr_expr.specs.Scopes.{Names, lookup}
use Rattle.rr_declarations.specs.Declarations.{plain_names}
use Rattle.rr_flat.specs.Faults.{fault_if, each}
use Rattle.rr_flat.specs.Signals.{Text, Signal, signal_at}
use Rattle.rr_flat.specs.declared.fault.FlatFault.TheVariants.{NameTwice}
use Rattle.rr_flatten.specs.Tables.{add_module, instantiated_by_item, instantiated_by, last_free, add_parameter_name, add_parameter_names, add_item_parameter_names, parameter_table, add_open_name, add_open_names, add_item_open_names, open_names, add_port_name, add_declarator_name, add_port_names, port_names}
use Rattle.rr_flatten.specs.Walk.{module_at, top_place, top_ports, is_top_port, reached_from}
use Rattle.rr_token_numbers.specs.Bare.{bare_signal}
use Rattle.rr_token_numbers.proofs.Folds.{fold_mapped}
use Rattle.rr_token_numbers.proofs.Results.{Barely, nil_if, settle_bare, each_bare}
use Rattle.rr_token_numbers.proofs.Heads.{plain_names-bare}

-- the modules of a source

module_bare : (m : ModuleDeclaration) (table : Names) → Barely (λ (n : Names). n) (add_module m table) (add_module (bare_module m) table)
unfolding add_module bare_module
module_bare m table =
    settle_bare (λ (n : Names). n) (fault_if (is_some (lookup m.text table)) (NameTwice m.token)) (fault_if (is_some (lookup m.text table)) (NameTwice 0)) _ _
    (nil_if (is_some (lookup m.text table)) (NameTwice m.token) (NameTwice 0)) refl

pub table_bare : (ms : List ModuleDeclaration) (table : Names) → Barely (λ (n : Names). n) (each add_module ms table) (each add_module (map bare_module ms) table)
table_bare ms table = each_bare bare_module (λ (n : Names). n) add_module add_module module_bare ms table

pub module_at-bare : (ms : List ModuleDeclaration) (k : ℕ) → module_at (map bare_module ms) k ≡ bare_module (module_at ms k)
unfolding bare_module bare_header
module_at-bare [] k = refl
module_at-bare (m ∷ ms) zero = refl
module_at-bare (m ∷ ms) (suc k) = module_at-bare ms k

instantiated_by_item-bare : (names : Names) (i : ModuleItem) → instantiated_by_item names (bare_item i) ≡ instantiated_by_item names i
unfolding instantiated_by_item bare_item
instantiated_by_item-bare names (Ports p) = refl
instantiated_by_item-bare names (Nets signed range list) = refl
instantiated_by_item-bare names (Variables signed range list) = refl
instantiated_by_item-bare names (Integers list) = refl
instantiated_by_item-bare names (Parameters p) = refl
instantiated_by_item-bare names (Assigns pairs) = refl
instantiated_by_item-bare names (Always events body token) = refl
instantiated_by_item-bare names (Initial body token) = refl
instantiated_by_item-bare names (Instances m token over list) = refl

instantiated_by-bare : (names : Names) (m : ModuleDeclaration) → instantiated_by names (bare_module m) ≡ instantiated_by names m
unfolding instantiated_by bare_module
instantiated_by-bare names m = fold_mapped bare_item instantiated_by_item instantiated_by_item-bare names m.items

last_free-bare : (names : Names) (k : ℕ) (ms : List ModuleDeclaration) (found : Option ℕ) → last_free names k (map bare_module ms) found ≡ last_free names k ms found
unfolding last_free bare_module
last_free-bare names k [] found = refl
last_free-bare names k (m ∷ ms) found = last_free-bare names (k + 1) ms (if is_some (lookup m.text names) then found else Some k)

pub top_place-bare : (ms : List ModuleDeclaration) (table : Names) (top : Option Text) → top_place (map bare_module ms) table top ≡ top_place ms table top
top_place-bare ms table None =
    ap (λ (names : Names). last_free names 0 (map bare_module ms) None) (fold_mapped bare_module instantiated_by instantiated_by-bare [] ms) ∙ last_free-bare (fold instantiated_by [] ms) 0 ms None
top_place-bare ms table (Some name) = refl

pub reached-bare : (owners : List ℕ) (k : ℕ) (ms : List ModuleDeclaration) → reached_from owners k (map bare_module ms) ≡ reached_from owners k ms
unfolding reached_from
reached-bare owners k [] = refl
reached-bare owners k (m ∷ ms) = ap (λ (rest : List ℕ). if list_any (nat_eq k) owners then k ∷ rest else rest) (reached-bare owners (k + 1) ms)

pub top_ports-bare : (input : Bool) (k : ℕ) (ss : List Signal) → top_ports input k (map bare_signal ss) ≡ top_ports input k ss
unfolding top_ports
top_ports-bare input k [] = refl
top_ports-bare input k (s ∷ ss) = ap (λ (rest : List ℕ). if is_top_port input s then k ∷ rest else rest) (top_ports-bare input (k + 1) ss)

pub signal_at-bare : (ss : List Signal) (id : ℕ) → signal_at (map bare_signal ss) id ≡ bare_signal (signal_at ss id)
signal_at-bare [] id = refl
signal_at-bare (s ∷ ss) zero = refl
signal_at-bare (s ∷ ss) (suc n) = signal_at-bare ss n

-- the parameters and ports of a module

add_parameter_name-bare : (local : Bool) (table : Names) (a : ParamAssignment) → add_parameter_name local table (bare_assignment a) ≡ add_parameter_name local table a
unfolding bare_assignment
add_parameter_name-bare local table a = refl

add_parameter_names-bare : (table : Names) (p : ParameterDeclaration) → add_parameter_names table (bare_parameter p) ≡ add_parameter_names table p
unfolding add_parameter_names bare_parameter
add_parameter_names-bare table p = fold_mapped bare_assignment (add_parameter_name p.local) (add_parameter_name-bare p.local) table p.sets

add_item_parameter_names-bare : (table : Names) (i : ModuleItem) → add_item_parameter_names table (bare_item i) ≡ add_item_parameter_names table i
unfolding add_item_parameter_names bare_item
add_item_parameter_names-bare table (Ports p) = refl
add_item_parameter_names-bare table (Nets signed range list) = refl
add_item_parameter_names-bare table (Variables signed range list) = refl
add_item_parameter_names-bare table (Integers list) = refl
add_item_parameter_names-bare table (Parameters p) = add_parameter_names-bare table p
add_item_parameter_names-bare table (Assigns pairs) = refl
add_item_parameter_names-bare table (Always events body token) = refl
add_item_parameter_names-bare table (Initial body token) = refl
add_item_parameter_names-bare table (Instances m token over list) = refl

pub parameter_table-bare : (m : ModuleDeclaration) → parameter_table (bare_module m) ≡ parameter_table m
unfolding parameter_table bare_module
parameter_table-bare m =
    fold_mapped bare_item add_item_parameter_names add_item_parameter_names-bare (fold add_parameter_names [] (map bare_parameter m.params)) m.items
    ∙ ap (λ (t : Names). fold add_item_parameter_names t m.items) (fold_mapped bare_parameter add_parameter_names add_parameter_names-bare [] m.params)

add_open_name-bare : (names : List Text) (a : ParamAssignment) → add_open_name names (bare_assignment a) ≡ add_open_name names a
unfolding bare_assignment
add_open_name-bare names a = refl

add_open_names-bare : (names : List Text) (p : ParameterDeclaration) → add_open_names names (bare_parameter p) ≡ add_open_names names p
unfolding add_open_names bare_parameter
add_open_names-bare names p = ap (λ (z : List Text). if p.local then names else z) (fold_mapped bare_assignment add_open_name add_open_name-bare names p.sets)

add_item_open_names-bare : (names : List Text) (i : ModuleItem) → add_item_open_names names (bare_item i) ≡ add_item_open_names names i
unfolding add_item_open_names bare_item
add_item_open_names-bare names (Ports p) = refl
add_item_open_names-bare names (Nets signed range list) = refl
add_item_open_names-bare names (Variables signed range list) = refl
add_item_open_names-bare names (Integers list) = refl
add_item_open_names-bare names (Parameters p) = add_open_names-bare names p
add_item_open_names-bare names (Assigns pairs) = refl
add_item_open_names-bare names (Always events body token) = refl
add_item_open_names-bare names (Initial body token) = refl
add_item_open_names-bare names (Instances m token over list) = refl

pub open_names-bare : (m : ModuleDeclaration) → open_names (bare_module m) ≡ open_names m
unfolding open_names bare_module
open_names-bare m =
    fold_mapped bare_item add_item_open_names add_item_open_names-bare (fold add_open_names [] (map bare_parameter m.params)) m.items
    ∙ ap (λ (t : List Text). fold add_item_open_names t m.items) (fold_mapped bare_parameter add_open_names add_open_names-bare [] m.params)

add_port_name-bare : (names : List Text) (i : Identifier) → add_port_name names (bare_identifier i) ≡ add_port_name names i
unfolding bare_identifier
add_port_name-bare names i = refl

add_declarator_name-bare : (names : List Text) (n : DeclaredName) → add_declarator_name names (bare_declarator n) ≡ add_declarator_name names n
unfolding bare_declarator
add_declarator_name-bare names n = refl

add_port_names-bare : (names : List Text) (p : PortDeclaration) → add_port_names names (bare_port p) ≡ add_port_names names p
unfolding add_port_names bare_port
add_port_names-bare names p = fold_mapped bare_declarator add_declarator_name add_declarator_name-bare names p.names

pub port_names-bare : (m : ModuleDeclaration) → port_names (bare_module m) ≡ port_names m
unfolding port_names bare_module
port_names-bare m =
    fold_mapped bare_port add_port_names add_port_names-bare (fold add_port_name [] (plain_names (bare_header m.header))) m.groups
    ∙ ap (λ (t : List Text). fold add_port_names t m.groups)
    (ap (λ (names : List Identifier). fold add_port_name [] names) (plain_names-bare m.header) ∙ fold_mapped bare_identifier add_port_name add_port_name-bare [] (plain_names m.header))
