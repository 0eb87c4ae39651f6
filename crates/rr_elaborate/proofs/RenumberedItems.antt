-- An item, a module and a source text have their token numbers from the bare ones: so two source texts that are
-- equal without token numbers, and have the numbers of their tokens, are equal.
use Rattle.std.proofs.Common.{ℕ, ◌≡◌, ◌∙◌, ◌+◌, List, [], ◌∷◌, length, map, Option, None, Some, refl, ap, sym, arith}
use Rattle.std.specs.List.{AllByRecursion}
use Rattle.rr_syntax.specs.Tree.{Identifier, PortDeclaration, ParameterDeclaration, NetAssignment, ModuleItem, Ports, Nets, Variables, Integers, Parameters, Assigns, Always, Initial, Instances, ModuleDeclaration, SourceText, IsSameSource, bare_port, bare_parameter, bare_declarator, bare_pair, bare_instance, bare_item, bare_header, bare_module, bare_source}
use Rattle.rr_syntax.specs.Items.{spell_type, spell_port, spell_parameter, spell_declarator, spell_pair, spell_events, spell_overrides, spell_instance, spell_item, spell_parameters, spell_ports, spell_module, spell_separated, spell_identifier, IsHeader, WellFormedModule, WellFormedSource, NumberedAll, NumberedDeclarator, NumberedPair, NumberedInstance, NumberedItem, NumberedPort, NumberedParameter, NumberedParameters, NumberedPorts, NumberedModule, NumberedSource}
use Rattle.rr_syntax.proofs.BareItems.{spell_port-bare, spell_parameter-bare, spell_item-bare, spell_module-bare, spell_names-bare, spell_type-bare, spell_declarator-bare, spell_pair-bare, spell_events-bare, spell_overrides-bare, spell_instance-bare, spell_parameters-bare, spell_ports-bare}
use Rattle.rr_elaborate.proofs.RenumberedStatements.{renumbered_statement, renumbered_statement-bare}
use Rattle.rr_elaborate.proofs.RenumberedParts.{renumbered_separated, renumbered_all, separated-bare, all-bare, renumbered_names, names-bare, renumbered_type, type-bare, renumbered_port, port-bare, renumbered_parameter, parameter-bare, renumbered_declarator, declarator-bare, renumbered_pair, pair-bare, renumbered_events, events-bare, renumbered_overrides, overrides-bare, renumbered_instance, instance-bare}

-- items
unfoldable pub renumbered_item : ModuleItem → ℕ → ModuleItem
renumbered_item (Ports p) at = Ports (renumbered_port p at)
renumbered_item (Nets signed range names) at =
    Nets signed (renumbered_type signed range (at + 1)) (renumbered_separated spell_declarator renumbered_declarator names (at + 1 + length (spell_type signed range)))
renumbered_item (Variables signed range names) at =
    Variables signed (renumbered_type signed range (at + 1)) (renumbered_separated spell_declarator renumbered_declarator names (at + 1 + length (spell_type signed range)))
renumbered_item (Integers names) at = Integers (renumbered_names names (at + 1))
renumbered_item (Parameters p) at = Parameters (renumbered_parameter p at)
renumbered_item (Assigns pairs) at = Assigns (renumbered_separated spell_pair renumbered_pair pairs (at + 1))
renumbered_item (Always events s token) at = Always (renumbered_events events (at + 2)) (renumbered_statement s (at + 2 + length (spell_events events))) at
renumbered_item (Initial s token) at = Initial (renumbered_statement s (at + 1)) at
renumbered_item (Instances m token overrides list) at =
    Instances m at (renumbered_overrides overrides (at + 1)) (renumbered_separated spell_instance renumbered_instance list (at + 1 + length (spell_overrides overrides)))

item-bare : (i : ModuleItem) (at : ℕ) → NumberedItem i at → renumbered_item (bare_item i) at ≡ i
unfolding renumbered_item bare_item NumberedItem
item-bare (Ports p) at h = ap (λ (q : PortDeclaration). Ports q) (port-bare p at h)
item-bare (Nets signed range names) at h =
    rw (
      spell_type-bare signed range,
      type-bare signed range (at + 1) h.0,
      separated-bare spell_declarator bare_declarator renumbered_declarator NumberedDeclarator spell_declarator-bare declarator-bare names (at + 1 + length (spell_type signed range)) h.1,
    ) refl
item-bare (Variables signed range names) at h =
    rw (
      spell_type-bare signed range,
      type-bare signed range (at + 1) h.0,
      separated-bare spell_declarator bare_declarator renumbered_declarator NumberedDeclarator spell_declarator-bare declarator-bare names (at + 1 + length (spell_type signed range)) h.1,
    ) refl
item-bare (Integers names) at h = ap (λ (n : List Identifier). Integers n) (names-bare names (at + 1) h)
item-bare (Parameters p) at h = ap (λ (q : ParameterDeclaration). Parameters q) (parameter-bare p at h)
item-bare (Assigns pairs) at h =
    ap (λ (l : List NetAssignment). Assigns l) (separated-bare spell_pair bare_pair renumbered_pair NumberedPair spell_pair-bare pair-bare pairs (at + 1) h)
item-bare (Always events s token) at h =
    rw (h.0, spell_events-bare events, events-bare events (at + 2) h.1, renumbered_statement-bare s (at + 2 + length (spell_events events)) h.2) refl
item-bare (Initial s token) at h = rw (h.0, renumbered_statement-bare s (at + 1) h.1) refl
item-bare (Instances m token overrides list) at h =
    rw (
      h.0,
      spell_overrides-bare overrides,
      overrides-bare overrides (at + 1) h.1,
      separated-bare spell_instance bare_instance renumbered_instance NumberedInstance spell_instance-bare instance-bare list
          (at + 1 + length (spell_overrides overrides)) h.2,
    ) refl

-- modules; `at` is the number of the opening bracket of the ports
unfoldable pub renumbered_header : Option (List Identifier) → ℕ → Option (List Identifier)
renumbered_header None at = None
renumbered_header (Some names) at = Some (renumbered_names names (at + 1))

unfoldable pub renumbered_groups : Option (List Identifier) → List PortDeclaration → ℕ → List PortDeclaration
renumbered_groups None groups at = []
renumbered_groups (Some names) groups at = renumbered_separated spell_port renumbered_port groups (at + 1 + length (spell_separated spell_identifier names))

header-bare : (header : Option (List Identifier)) (groups : List PortDeclaration) (at : ℕ) → NumberedPorts header groups at → renumbered_header (bare_header header) at ≡ header
unfolding renumbered_header bare_header NumberedPorts
header-bare None groups at h = refl
header-bare (Some names) groups at h = ap (λ (n : List Identifier). Some n) (names-bare names (at + 1) h.0)

groups-bare : (header : Option (List Identifier)) (groups : List PortDeclaration) (at : ℕ) → IsHeader header groups → NumberedPorts header groups at
    → renumbered_groups (bare_header header) (map bare_port groups) at ≡ groups
unfolding renumbered_groups bare_header NumberedPorts
groups-bare None [] at w h = refl
groups-bare None (p ∷ ps) at w h = absurd (omega (arith, w))
groups-bare (Some names) groups at w h =
    rw (spell_names-bare names)
    (separated-bare spell_port bare_port renumbered_port NumberedPort spell_port-bare port-bare groups (at + 1 + length (spell_separated spell_identifier names)) h.1)

unfoldable pub renumbered_module : ModuleDeclaration → ℕ → ModuleDeclaration
renumbered_module m at = record {
  text = m.text;
  token = at + 1;
  params = renumbered_separated spell_parameter renumbered_parameter m.params (at + 2 + 2);
  header = renumbered_header m.header (at + 2 + length (spell_parameters m.params));
  groups = renumbered_groups m.header m.groups (at + 2 + length (spell_parameters m.params));
  items = renumbered_all spell_item renumbered_item m.items (at + 2 + length (spell_parameters m.params) + length (spell_ports m.header m.groups) + 1);
}

module-bare : (m : ModuleDeclaration) (at : ℕ) → WellFormedModule m → NumberedModule m at → renumbered_module (bare_module m) at ≡ m
unfolding renumbered_module bare_module WellFormedModule NumberedModule NumberedParameters
module-bare m at w h =
    rw (spell_parameters-bare m.params, spell_ports-bare m.header m.groups)
    (λ k. record {
      text = m.text;
      token = sym h.0 k;
      params = separated-bare spell_parameter bare_parameter renumbered_parameter NumberedParameter spell_parameter-bare parameter-bare m.params (at + 2 + 2) h.1 k;
      header = header-bare m.header m.groups (at + 2 + length (spell_parameters m.params)) h.2 k;
      groups = groups-bare m.header m.groups (at + 2 + length (spell_parameters m.params)) w.1 h.2 k;
      items = all-bare spell_item bare_item renumbered_item NumberedItem spell_item-bare item-bare m.items
          (at + 2 + length (spell_parameters m.params) + length (spell_ports m.header m.groups) + 1) h.3 k;
    })

modules-bare : (ms : List ModuleDeclaration) (at : ℕ) → AllByRecursion WellFormedModule ms → NumberedAll spell_module NumberedModule ms at
    → renumbered_all spell_module renumbered_module (map bare_module ms) at ≡ ms
unfolding renumbered_all NumberedAll
modules-bare [] at w h = refl
modules-bare (m ∷ ms) at w h = rw (spell_module-bare m, module-bare m at w.0 h.0, modules-bare ms (at + length (spell_module m)) w.1 h.1) refl

-- the same source text with the numbers of its tokens
unfoldable pub renumbered_source : SourceText → SourceText
renumbered_source s = record { modules = renumbered_all spell_module renumbered_module s.modules 0 }

pub renumbered_source-bare : (s : SourceText) → WellFormedSource s → NumberedSource s → renumbered_source (bare_source s) ≡ s
unfolding renumbered_source bare_source WellFormedSource NumberedSource
renumbered_source-bare s w h = λ k. record { modules = modules-bare s.modules 0 w h k }

pub same_numbered : (a b : SourceText) → WellFormedSource a → WellFormedSource b → NumberedSource a → NumberedSource b → IsSameSource a b → a ≡ b
same_numbered a b v w m n same = sym (renumbered_source-bare a v m) ∙ (ap renumbered_source same ∙ renumbered_source-bare b w n)
