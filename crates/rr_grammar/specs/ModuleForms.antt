-- The formats of modules and source texts (IEEE 1364-2005 section 12.1, annex A.1.2), whose expressions have at most the depth k in
-- the brackets of a module and j in its items, and whose statements have at most the depth j.
use Rattle.std.specs.Prelude.{ℕ, ◌≤◌, ◌<◌, ◌≡◌, List, [], ◌∷◌, ◌++◌, length, map, Bool, true, false, ◌==◌, Option, Some, None}
use Rattle.rr_syntax.specs.Words.{Word, Marked, keyword_endmodule, keyword_module, mark_close_parenthesis, mark_hash, mark_open_parenthesis, mark_semicolon}
use Rattle.rr_syntax.specs.Tree.{Identifier, PortDeclaration, ParameterDeclaration, ModuleItem, ModuleDeclaration, SourceText, bare_header, bare_parameter, bare_port, bare_module, bare_source}
use Rattle.rr_syntax.specs.Items.{spell_parameters, spell_ports, spell_module, spell_source, NumberedParameters, NumberedPorts, NumberedModule}
use Rattle.rr_parse_expr.specs.Reading.{mark, rest}
use Rattle.rr_parse_stmt.specs.Reading.{keyword}
use Rattle.rr_grammar.specs.Formats.{Format, both, after_mark, after_word, before_mark, before_word, shaped, respelled, narrowed, behind_mark, imaged, list, repeated, choose, nothing_of}
use Rattle.rr_grammar.specs.Leaves.{identifier}
use Rattle.rr_grammar.specs.Declarations.{port, head_parameter}
use Rattle.rr_grammar.specs.Connections.{front_close}
use Rattle.rr_grammar.specs.ItemForms.{item, front_ports}

abbrev pub front_hash : List Word → Bool
front_hash ws = mark ws == mark_hash

abbrev pub NoHash : List Word → Type 0
NoHash ws = mark ws ≡ mark_hash → ⊥

abbrev pub as_they_are : List ParameterDeclaration → List ParameterDeclaration
as_they_are ps = ps

abbrev pub IsNil : {A : Type 0} → List A → Type 0
IsNil xs = length xs ≡ 0

abbrev pub some_heads : ℕ → Format (List ParameterDeclaration)
some_heads k = imaged (after_mark mark_hash (after_mark mark_open_parenthesis (before_mark (list (head_parameter k)) mark_close_parenthesis))) as_they_are spell_parameters (map bare_parameter) (list (head_parameter k)).Good NumberedParameters

abbrev pub no_heads : Format (List ParameterDeclaration)
no_heads = narrowed (imaged (nothing_of false) (λ b. []) spell_parameters (map bare_parameter) IsNil NumberedParameters) NoHash

-- the parameters of a module, where it has any
abbrev pub heads : ℕ → Format (List ParameterDeclaration)
heads k = choose front_hash (some_heads k) no_heads

abbrev pub PortList : Type 0
PortList = Option (List Identifier) × List PortDeclaration

abbrev pub ports_words : PortList → List Word
ports_words x = spell_ports x.0 x.1

abbrev pub ports_inside : PortList → List Word
ports_inside x = rest (spell_ports x.0 x.1)

abbrev pub bare_ports : PortList → PortList
bare_ports x = (bare_header x.0, map bare_port x.1)

abbrev pub ports_numbered : PortList → ℕ → Type 0
ports_numbered x at = NumberedPorts x.0 x.1 at

abbrev pub BothNil : Option (List Identifier) → List PortDeclaration → Type 0
BothNil None groups = ⊥
BothNil (Some names) groups = IsNil names × IsNil groups

abbrev pub AreGroups : (List PortDeclaration → Type 0) → Option (List Identifier) → List PortDeclaration → Type 0
AreGroups P None groups = ⊥
AreGroups P (Some names) groups = IsNil names × P groups

abbrev pub AreNames : (List Identifier → Type 0) → Option (List Identifier) → List PortDeclaration → Type 0
AreNames P None groups = ⊥
AreNames P (Some names) groups = P names × IsNil groups

abbrev pub to_groups : List PortDeclaration → PortList
to_groups gs = (Some [], gs)

abbrev pub to_names : List Identifier → PortList
to_names ns = (Some ns, [])

abbrev pub empty_ports : Format PortList
empty_ports = imaged (after_mark mark_close_parenthesis (nothing_of false)) (λ b. (Some [], [])) ports_inside bare_ports (λ x. BothNil x.0 x.1) (behind_mark ports_numbered)

abbrev pub group_ports : ℕ → Format PortList
group_ports k = imaged (before_mark (list (port k)) mark_close_parenthesis) to_groups ports_inside bare_ports (λ x. AreGroups (list (port k)).Good x.0 x.1) (behind_mark ports_numbered)

abbrev pub name_ports : Format PortList
name_ports = imaged (before_mark (list identifier) mark_close_parenthesis) to_names ports_inside bare_ports (λ x. AreNames (list identifier).Good x.0 x.1) (behind_mark ports_numbered)

abbrev pub ports_in : ℕ → Format PortList
ports_in k = choose front_close empty_ports (choose front_ports (group_ports k) name_ports)

abbrev pub front_open : List Word → Bool
front_open ws = mark ws == mark_open_parenthesis

abbrev pub NoOpen : List Word → Type 0
NoOpen ws = mark ws ≡ mark_open_parenthesis → ⊥

abbrev pub same_ports : PortList → PortList
same_ports x = x

abbrev pub with_ports : ℕ → Format PortList
with_ports k = imaged (after_mark mark_open_parenthesis (ports_in k)) same_ports ports_words bare_ports (ports_in k).Good ports_numbered

abbrev pub NoPorts : Option (List Identifier) → List PortDeclaration → Type 0
NoPorts None groups = IsNil groups
NoPorts (Some names) groups = ⊥

abbrev pub without_ports : Format PortList
without_ports = narrowed (imaged (nothing_of false) (λ b. (None, [])) ports_words bare_ports (λ x. NoPorts x.0 x.1) ports_numbered) NoOpen

-- the port brackets of a module, where it has them
abbrev pub port_list : ℕ → Format PortList
port_list k = choose front_open (with_ports k) without_ports

abbrev pub Parts : Type 0
Parts = Identifier × (List ParameterDeclaration × (PortList × List ModuleItem))

abbrev pub to_module : Parts → ModuleDeclaration
to_module x = record { text = x.0.text; token = x.0.token; params = x.1.0; header = x.1.1.0.0; groups = x.1.1.0.1; items = x.1.1.1 }

abbrev pub of_module : ModuleDeclaration → Parts
of_module m = (record { token = m.token; text = m.text }, (m.params, ((m.header, m.groups), m.items)))

abbrev pub module_words : ℕ → ℕ → Format Parts
module_words k j = both (after_word keyword_module identifier) (both (heads k) (both (port_list k) (after_mark mark_semicolon (before_word (repeated (item j)) keyword_endmodule))))

-- section 12.1, annex A.1.2
abbrev pub one_module : ℕ → ℕ → Format ModuleDeclaration
one_module k j = respelled (shaped (module_words k j) to_module of_module) spell_module bare_module NumberedModule

-- annex A.1.2
abbrev pub modules : ℕ → ℕ → Format (List ModuleDeclaration)
modules k j = repeated (one_module k j)
