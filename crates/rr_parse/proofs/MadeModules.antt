-- Modules that were read, from their parts.
use Rattle.std.proofs.Common.{◌≡◌, ℕ, ◌≤◌, ◌<◌, List, [], ◌∷◌, ◌++◌, length, drop, map, false, refl, ap, ◌∙◌, sym, arith, Option, Some, None, Result, Ok, Err, inl, inr, subst}
use Rattle.rr_syntax.specs.declared.token.Token.{Token}
use Rattle.rr_syntax.specs.declared.tree.Named.{Named as Name}
use Rattle.rr_syntax.specs.declared.tree.Group.{Group}
use Rattle.rr_syntax.specs.declared.tree.Params.{Params}
use Rattle.rr_syntax.specs.declared.tree.Item.{Item}
use Rattle.rr_syntax.specs.Words.{Marked, words, keyword_endmodule, keyword_module, mark_close_parenthesis, mark_hash, mark_open_parenthesis, mark_semicolon}
use Rattle.rr_syntax.specs.Tree.{Identifier, PortDeclaration, ParameterDeclaration, bare_header, bare_identifier, bare_parameter, bare_port, bare_module}
use Rattle.rr_syntax.specs.Items.{spell_identifier, spell_parameter, spell_parameters, spell_port, spell_ports, spell_item, spell_module, spell_separated, NumberedIdentifier, NumberedParameter, NumberedParameters, NumberedPort, NumberedPorts, NumberedItem, NumberedModule, NumberedSeparated, NumberedAll}
use Rattle.rr_syntax.specs.View.{plain_identifier, plain_parameter, plain_port, plain_header, plain_item, plain_module}
use Rattle.rr_parse_expr.specs.Reading.{mark, rest}
use Rattle.rr_parse_expr.specs.declared.expression.ParseFault.{ParseFault}
use Rattle.rr_parse_expr.proofs.Answered.{not_equal}
use Rattle.rr_grammar.specs.Formats.{behind_mark, list, repeated, Finds}
use Rattle.rr_grammar.specs.Leaves.{identifier}
use Rattle.rr_grammar.specs.Declarations.{port, head_parameter}
use Rattle.rr_grammar.specs.ItemForms.{item}
use Rattle.rr_grammar.specs.ModuleForms.{front_hash, as_they_are, IsNil, some_heads, no_heads, heads, ports_words, ports_inside, bare_ports, ports_numbered, BothNil, AreGroups, AreNames, to_groups, to_names, empty_ports, group_ports, name_ports, ports_in, front_open, same_ports, with_ports, NoPorts, without_ports, port_list, to_module, of_module, one_module}
use Rattle.rr_grammar.proofs.ModulesExact.{heads_list_exact, ports_in_exact}
use Rattle.rr_parse_expr.specs.declared.lists.Piece.{Piece}
use Rattle.rr_parse.specs.declared.modules.PortList as code
use Rattle.rr_parse.specs.Answer.{Answers, MarkAt, WordAt}
use Rattle.rr_parse.specs.Trees.{plain_port_list}
use Rattle.rr_parse.proofs.Founds.{passes, same, cond_first, mapped_none, behind_mark_none, finds_both, finds_after_mark, finds_before_mark, finds_after_word, finds_before_word, finds_nothing, finds_shaped, finds_respelled, finds_narrowed, finds_imaged, finds_left, finds_right}
use denote.Ref.{Bor}

-- ---- the parameters

heads_spelled : (ps : List ParameterDeclaration) → 0 < length (map bare_parameter ps) → spell_parameters ps ≡ Marked mark_hash ∷ (Marked mark_open_parenthesis ∷ (spell_separated spell_parameter ps ++ (Marked mark_close_parenthesis ∷ [])))
unfolding spell_parameters
heads_spelled [] h = absurd (omega arith)
heads_spelled (p ∷ ps) h = refl

pub made_heads : {k : ℕ} {T : List Token} {from : ℕ} (ps : Bor (List Params)) {first second third next : ℕ} →
    MarkAt T from mark_hash first → MarkAt T first mark_open_parenthesis second → Finds (list (head_parameter k)) T second (map plain_parameter ps.now) third → MarkAt T third mark_close_parenthesis next →
    Finds (heads k) T from (map plain_parameter ps.now) next
unfolding NumberedParameters
made_heads {k = k} {T = T} {from = from} ps {second = second} {third = third} e d f g =
    let xs = map plain_parameter ps.now in
    let w = (heads_list_exact k).good (drop second (words T)) (map bare_parameter xs, drop third (words T)) f.found_is in
    finds_left front_hash no_heads (same (mark (drop from (words T))) mark_hash e.1)
    (finds_imaged as_they_are spell_parameters (map bare_parameter) (list (head_parameter k)).Good NumberedParameters xs refl (heads_spelled xs w.0) refl
    (subst (NumberedSeparated spell_parameter NumberedParameter xs) (omega (arith, e.0, d.0)) f.numbered)
    (finds_after_mark e (finds_after_mark d (finds_before_mark f g))))

pub made_no_heads : (k : ℕ) (T : List Token) (from : ℕ) (ps : Bor (List Params)) → ps.now ≡ [] → (mark (drop from (words T)) ≡ mark_hash → ⊥) → from ≤ length T → Finds (heads k) T from (map plain_parameter ps.now) from
unfolding spell_parameters NumberedParameters NumberedSeparated
made_no_heads k T from ps z h i =
    finds_right front_hash (some_heads k) (not_equal (mark (drop from (words T))) mark_hash h) refl refl (λ n. n)
    (finds_narrowed (finds_imaged (λ b. []) spell_parameters (map bare_parameter) IsNil NumberedParameters (map plain_parameter ps.now) (ap (map plain_parameter) z) refl refl tt (finds_nothing false i)))

-- ---- the ports

pub made_groups : {k : ℕ} {T : List Token} {from : ℕ} (ns : Bor (List Name)) (gs : Bor (List Group)) {middle next : ℕ} → ns.now ≡ [] → Finds (list (port k)) T from (map plain_port gs.now) middle → MarkAt T middle mark_close_parenthesis next →
    Finds (group_ports k) T from (plain_port_list (record { header = Some ns; groups = gs })) next
unfolding plain_header spell_ports spell_separated rest bare_header NumberedPorts NumberedSeparated
made_groups {k = k} {from = from} ns gs z f e =
    finds_imaged to_groups ports_inside bare_ports (λ x. AreGroups (list (port k)).Good x.0 x.1) (behind_mark ports_numbered) (plain_port_list (record { header = Some ns; groups = gs }))
    (ap (λ (xs : List Name). (Some (map plain_identifier xs), map plain_port gs.now)) z) refl refl
    (λ at q. (tt, subst (NumberedSeparated spell_port NumberedPort (map plain_port gs.now)) (omega (arith, q)) f.numbered)) (finds_before_mark f e)

pub made_plain_ports : {T : List Token} {from : ℕ} (ns : Bor (List Name)) (gs : Bor (List Group)) {middle next : ℕ} → gs.now ≡ [] → Finds (list identifier) T from (map plain_identifier ns.now) middle → MarkAt T middle mark_close_parenthesis next →
    Finds name_ports T from (plain_port_list (record { header = Some ns; groups = gs })) next
unfolding plain_header spell_ports spell_separated rest bare_header NumberedPorts NumberedSeparated
made_plain_ports {from = from} ns gs z f e =
    finds_imaged to_names ports_inside bare_ports (λ x. AreNames (list identifier).Good x.0 x.1) (behind_mark ports_numbered) (plain_port_list (record { header = Some ns; groups = gs }))
    (ap (λ (xs : List Group). (Some (map plain_identifier ns.now), map plain_port xs)) z) refl refl
    (λ at q. (subst (NumberedSeparated spell_identifier NumberedIdentifier (map plain_identifier ns.now)) (sym q) f.numbered, tt)) (finds_before_mark f e)

pub made_empty_ports : {T : List Token} {from : ℕ} (ns : Bor (List Name)) (gs : Bor (List Group)) {next : ℕ} → ns.now ≡ [] → gs.now ≡ [] → MarkAt T from mark_close_parenthesis next → Finds empty_ports T from (plain_port_list (record { header = Some ns; groups = gs })) next
unfolding plain_header spell_ports spell_separated rest bare_header NumberedPorts NumberedSeparated
made_empty_ports {from = from} ns gs y z e =
    finds_imaged (λ b. (Some [], [])) ports_inside bare_ports (λ x. BothNil x.0 x.1) (behind_mark ports_numbered) (plain_port_list (record { header = Some ns; groups = gs }))
    (ap (λ (xs : List Name). (Some (map plain_identifier xs), map plain_port gs.now)) y ∙ ap (λ (xs : List Group). (Some [], map plain_port xs)) z) refl refl
    (λ at q. (tt, tt)) (finds_after_mark e (finds_nothing false (omega (arith, e.0, e.2))))

ports_spelled : (k : ℕ) (h : Option (List Identifier)) (g : List PortDeclaration) → (ports_in k).Good (bare_header h, map bare_port g) → spell_ports h g ≡ Marked mark_open_parenthesis ∷ rest (spell_ports h g)
unfolding spell_ports rest bare_header
ports_spelled k (Some names) g w = refl
ports_spelled k None g (inl w) = absurd w
ports_spelled k None g (inr (inl w)) = absurd w
ports_spelled k None g (inr (inr w)) = absurd w

pub made_port_list : (k : ℕ) (T : List Token) (from middle : ℕ) → MarkAt T from mark_open_parenthesis middle → (r : Result (Piece code.PortList) ParseFault) → Answers (ports_in k) plain_port_list T middle r → Answers (port_list k) plain_port_list T from r
made_port_list k T from middle e (Ok p) f =
    let a = plain_port_list p.value in
    let w = (ports_in_exact k).good (drop middle (words T)) (bare_ports a, drop p.next (words T)) f.found_is in
    finds_left front_open without_ports (same (mark (drop from (words T))) mark_open_parenthesis e.1)
    (finds_imaged same_ports ports_words bare_ports (ports_in k).Good ports_numbered a refl (ports_spelled k a.0 a.1 w) refl (f.numbered from (sym e.0)) (finds_after_mark e f))
made_port_list k T from middle e (Err x) m = passes (port_list k) (ports_in k) T from middle x (λ n. record { none_is = cond_first _ (same (mark (drop from (words T))) mark_open_parenthesis e.1) (mapped_none _ (behind_mark_none from e n)) }) m

pub made_no_ports : (k : ℕ) (T : List Token) (from : ℕ) (gs : Bor (List Group)) → gs.now ≡ [] → (mark (drop from (words T)) ≡ mark_open_parenthesis → ⊥) → from ≤ length T → Finds (port_list k) T from (plain_port_list (record { header = None; groups = gs })) from
unfolding plain_header spell_ports bare_header NumberedPorts
made_no_ports k T from gs z h i =
    finds_right front_open (with_ports k) (not_equal (mark (drop from (words T))) mark_open_parenthesis h) refl refl (λ n. n)
    (finds_narrowed (finds_imaged (λ b. (None, [])) ports_words bare_ports (λ x. NoPorts x.0 x.1) ports_numbered (plain_port_list (record { header = None; groups = gs }))
    (ap (λ (xs : List Group). (None, map plain_port xs)) z) refl refl tt (finds_nothing false i)))

-- ---- a module

pub made_module : {k j : ℕ} {T : List Token} {from : ℕ} (n : Name) (ps : Bor (List Params)) (l : code.PortList) (is : Bor (List Item)) {first second third fourth fifth sixth next : ℕ} →
    WordAt T from keyword_module first → Finds identifier T first (plain_identifier n) second → Finds (heads k) T second (map plain_parameter ps.now) third → Finds (port_list k) T third (plain_port_list l) fourth →
    MarkAt T fourth mark_semicolon fifth → Finds (repeated (item j)) T fifth (map plain_item is.now) sixth → WordAt T sixth keyword_endmodule next →
    Finds (one_module k j) T from (plain_module (record { name = n.name; token = n.token; params = ps; header = l.header; groups = l.groups; items = is })) next
unfolding plain_module plain_identifier spell_module spell_identifier bare_module bare_identifier NumberedModule NumberedIdentifier
made_module {from = from} n ps l is w f g h e i v =
    finds_respelled spell_module bare_module NumberedModule refl refl (
      omega (arith, w.0, f.numbered),
      subst (NumberedParameters (map plain_parameter ps.now)) (omega (arith, w.0, f.taken)) g.numbered,
      subst (NumberedPorts (plain_header l.header) (map plain_port l.groups.now)) (omega (arith, w.0, f.taken, g.taken)) h.numbered,
      subst (NumberedAll spell_item NumberedItem (map plain_item is.now)) (omega (arith, w.0, f.taken, g.taken, h.taken, e.0)) i.numbered,
    )
    (finds_shaped to_module of_module (plain_module (record { name = n.name; token = n.token; params = ps; header = l.header; groups = l.groups; items = is }))
    (finds_both (finds_after_word w f) (finds_both g (finds_both h (finds_after_mark e (finds_before_word i v))))))
