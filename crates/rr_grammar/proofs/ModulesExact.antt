-- The formats of modules and source texts are exact.
use Rattle.std.proofs.Common.{◌≡◌, ℕ, zero, suc, ◌+◌, ◌≤◌, ◌<◌, List, [], ◌∷◌, ◌++◌, length, map, refl, ap, ◌∙◌, sym, arith, Bool, true, false, cond, nat_eq, Option, Some, None, ◌⊎◌, inl, inr, subst, append_assoc}
use Rattle.rr_syntax.specs.declared.tree.Dir.{Dir}
use Rattle.rr_syntax.specs.declared.tree.Dir.TheVariants as dir
use Rattle.rr_syntax.specs.Words.{Word, Named, Marked, Reserved, keyword_else, keyword_endmodule, keyword_input, keyword_localparam, keyword_module, keyword_output, keyword_parameter, mark_close_parenthesis, mark_comma, mark_hash, mark_open_parenthesis, mark_semicolon}
use Rattle.rr_syntax.specs.Tree.{Identifier, PortDeclaration, ParameterDeclaration, ModuleItem, ModuleDeclaration, SourceText, bare_header, bare_identifier, bare_parameter, bare_port, bare_item, bare_module}
use Rattle.rr_syntax.specs.Items.{spell_identifier, spell_dir, spell_type, spell_port, spell_parameter, spell_declarator, spell_parameters, spell_ports, spell_item, spell_module, spell_separated, spell_each, spell_all, NumberedParameters}
use Rattle.rr_syntax.proofs.Nonempty.{spell_item-some, spell_module-some}
use Rattle.rr_parse_expr.specs.Reading.{Found, mapped, chain, mark, rest, no_mark, expect}
use Rattle.rr_parse_expr.proofs.Answered.{not_equal}
use Rattle.rr_parse_stmt.specs.Reading.{keyword, no_word, name}
use Rattle.rr_grammar.specs.Formats.{Format, IsExact, IsImage, Anything, both, after_mark, after_word, before_mark, before_word, shaped, respelled, narrowed, imaged, list, repeated, choose, nothing_of}
use Rattle.rr_grammar.specs.Leaves.{identifier}
use Rattle.rr_grammar.specs.Declarations.{single, port, setting, head_parameter}
use Rattle.rr_grammar.specs.Connections.{front_close}
use Rattle.rr_grammar.specs.ItemForms.{NoElse, item, begins_ports, front_ports}
use Rattle.rr_grammar.specs.ModuleForms.{front_hash, NoHash, as_they_are, IsNil, some_heads, no_heads, heads, PortList, ports_words, ports_inside, bare_ports, BothNil, AreGroups, AreNames, to_groups, to_names, empty_ports, group_ports, name_ports, ports_in, front_open, NoOpen, same_ports, with_ports, NoPorts, without_ports, port_list, Parts, to_module, of_module, module_words, one_module, modules, ports_numbered}
use Rattle.rr_grammar.proofs.Exacts.{both_exact, after_mark_exact, after_word_exact, before_mark_exact, before_word_exact, shaped_exact, respelled_exact, narrowed_exact, imaged_exact, list_exact, list_exact_by, expect_marked, repeated_exact, choose_exact, nothing_exact, Tells, tells_choose}
use Rattle.rr_grammar.proofs.LeavesExact.{identifier_exact}
use Rattle.rr_grammar.proofs.DeclarationsExact.{OpensNamed, named_word, named_mark, no_keyword, no_mark_at, comma_ends, not_equals, port_exact, head_parameter_exact}
use Rattle.rr_grammar.proofs.PartsExact.{close_ends}
use Rattle.rr_grammar.proofs.ItemsExact.{dir_front, item_exact, item_before, item_no_else}

no_comma : {A : Type 0} (r : List Word → Found A) (left : List Word) → expect mark_comma r (Marked mark_close_parenthesis ∷ left) ≡ None
unfolding expect mark
no_comma r left = refl

nil_is : {A : Type 0} (xs : List A) → length xs ≡ 0 → [] ≡ xs
nil_is [] h = refl
nil_is (x ∷ xs) h = absurd (omega arith)

-- ---- the parameters

expect_comma : {A : Type 0} (r : List Word → Found A) (ws : List Word) → r ws ≡ None → expect mark_comma r (Marked mark_comma ∷ ws) ≡ None
expect_comma r ws e = expect_marked mark_comma r ws ∙ e

no_setting : (k : ℕ) (w : ℕ) (ws : List Word) → (setting k).read (Reserved w ∷ ws) ≡ None
unfolding mapped chain name
no_setting k w ws = refl

-- a parameter begins with a reserved word
comma_stops : (k : ℕ) (p : ParameterDeclaration) (left : List Word) → expect mark_comma (setting k).read (Marked mark_comma ∷ (spell_parameter p ++ left)) ≡ None
unfolding spell_parameter
comma_stops k p left = expect_comma (setting k).read _ (no_setting k (cond p.local keyword_localparam keyword_parameter) _)

dir_name : (k : ℕ) (d : Dir) (ws : List Word) → (single k).read (spell_dir d ++ ws) ≡ None
unfolding spell_dir mapped chain name
dir_name k dir.Input ws = refl
dir_name k dir.InputWire ws = refl
dir_name k dir.Output ws = refl
dir_name k dir.OutputWire ws = refl
dir_name k dir.OutputReg ws = refl

-- a port declaration begins with a reserved word
name_stops : (k : ℕ) (p : PortDeclaration) (left : List Word) → expect mark_comma (single k).read (Marked mark_comma ∷ (spell_port p ++ left)) ≡ None
unfolding spell_port
name_stops k p left = expect_comma (single k).read _ (ap (single k).read (append_assoc (spell_dir p.dir) (spell_type p.signed p.range ++ spell_separated spell_declarator p.names) left) ∙ dir_name k p.dir _)

pub heads_words : (k : ℕ) (ps : List ParameterDeclaration) → (list (head_parameter k)).Good ps → spell_parameters ps ≡ Marked mark_hash ∷ (Marked mark_open_parenthesis ∷ (spell_separated spell_parameter ps ++ (Marked mark_close_parenthesis ∷ [])))
unfolding spell_parameters
heads_words k [] w = absurd (omega (arith, w.0))
heads_words k (p ∷ ps) w = refl

pub heads_list_exact : (k : ℕ) → IsExact (list (head_parameter k))
heads_list_exact k = list_exact_by (head_parameter k) (head_parameter_exact k) (λ p g left. (comma_ends (spell_parameter p ++ left), comma_stops k p left))

some_heads_exact : (k : ℕ) → IsExact (some_heads k)
some_heads_exact k = imaged_exact (after_mark mark_hash (after_mark mark_open_parenthesis (before_mark (list (head_parameter k)) mark_close_parenthesis)))
    (after_mark_exact (after_mark mark_open_parenthesis (before_mark (list (head_parameter k)) mark_close_parenthesis)) (after_mark_exact (before_mark (list (head_parameter k)) mark_close_parenthesis)
    (before_mark_exact (list (head_parameter k)) (heads_list_exact k) mark_close_parenthesis (omega arith) (λ left. ((close_ends left, no_comma _ left), no_comma (head_parameter k).read left)))
    mark_open_parenthesis (omega arith)) mark_hash (omega arith))
    as_they_are spell_parameters (map bare_parameter) (list (head_parameter k)).Good
    (record { from = λ b w. b; from_good = λ b w. w; from_is = λ b w. refl; good = λ a w. w; spelled = heads_words k; bared = λ a. refl })

no_heads_exact : IsExact no_heads
unfolding spell_parameters
no_heads_exact = narrowed_exact (imaged (nothing_of false) (λ b. []) spell_parameters (map bare_parameter) IsNil NumberedParameters)
    (imaged_exact (nothing_of false) (nothing_exact false) (λ b. []) spell_parameters (map bare_parameter) IsNil
    (record { from = λ b w. false; from_good = λ b w. refl; from_is = λ b w. nil_is b w; good = λ a w. refl; spelled = λ a w. refl; bared = λ a. refl })) NoHash (λ ws v. tt)

some_front : (k : ℕ) (ps : List ParameterDeclaration) → (list (head_parameter k)).Good ps → (left : List Word) → nat_eq (mark (spell_parameters ps ++ left)) mark_hash ≡ true
unfolding mark
some_front k ps w left = let e = heads_words k ps w in rw e refl

none_front : (ps : List ParameterDeclaration) → IsNil ps → (left : List Word) → NoHash left → nat_eq (mark (spell_parameters ps ++ left)) mark_hash ≡ false
unfolding spell_parameters
none_front [] w left v = not_equal (mark left) mark_hash v
none_front (p ∷ ps) w left v = absurd (omega arith)

heads_exact : (k : ℕ) → IsExact (heads k)
heads_exact k = choose_exact front_hash (some_heads k) no_heads (some_heads_exact k) no_heads_exact (λ a. refl) (λ a. refl)
    (record { at_front = λ a w left v. some_front k a w left }) (record { at_front = λ a w left v. none_front a w left v })

-- ---- the port brackets

both_nil : (h : Option (List Identifier)) (g : List PortDeclaration) → BothNil h g → ◌≡◌ {A = PortList} (Some [], []) (h, g)
both_nil None g w = absurd w
both_nil (Some names) g w = ap (λ (ns : List Identifier). (Some ns, [])) (nil_is names w.0) ∙ ap (λ (gs : List PortDeclaration). (Some names, gs)) (nil_is g w.1)

empty_good : (x : PortList) → BothNil x.0 x.1 → ◌≡◌ {A = PortList} (Some [], []) x
empty_good x w = both_nil x.0 x.1 w

empty_exact : IsExact empty_ports
unfolding spell_ports spell_separated rest bare_header
empty_exact = imaged_exact (after_mark mark_close_parenthesis (nothing_of false)) (after_mark_exact (nothing_of false) (nothing_exact false) mark_close_parenthesis (omega arith)) (λ b. (Some [], [])) ports_inside bare_ports (λ x. BothNil x.0 x.1)
    (record { from = λ b w. false; from_good = λ b w. refl; from_is = empty_good; good = λ a w. (refl, refl); spelled = λ a w. refl; bared = λ a. refl })

group_from_good : (P : List PortDeclaration → Type 0) (h : Option (List Identifier)) (g : List PortDeclaration) → AreGroups P h g → P g
group_from_good P None g w = absurd w
group_from_good P (Some names) g w = w.1

group_is : (P : List PortDeclaration → Type 0) (h : Option (List Identifier)) (g : List PortDeclaration) → AreGroups P h g → to_groups g ≡ (h, g)
group_is P None g w = absurd w
group_is P (Some names) g w = ap (λ (ns : List Identifier). (Some ns, g)) (nil_is names w.0)

group_exact : (k : ℕ) → IsExact (group_ports k)
unfolding spell_ports spell_separated rest bare_header
group_exact k = imaged_exact (before_mark (list (port k)) mark_close_parenthesis)
    (before_mark_exact (list (port k)) (list_exact_by (port k) (port_exact k) (λ p g left. ((comma_ends (spell_port p ++ left), not_equals mark_comma (spell_port p ++ left) (λ e. absurd (omega (arith, e)))), name_stops k p left)))
    mark_close_parenthesis (omega arith) (λ left. (((close_ends left, not_equals mark_close_parenthesis left (λ e. absurd (omega (arith, e)))), no_comma (single k).read left), no_comma (port k).read left)))
    to_groups ports_inside bare_ports (λ x. AreGroups (list (port k)).Good x.0 x.1)
    (record { from = λ b w. b.1; from_good = λ b w. group_from_good (list (port k)).Good b.0 b.1 w; from_is = λ b w. group_is (list (port k)).Good b.0 b.1 w; good = λ a w. (refl, w); spelled = λ a w. refl; bared = λ a. refl })

name_from : (P : List Identifier → Type 0) (h : Option (List Identifier)) (g : List PortDeclaration) → AreNames P h g → List Identifier
name_from P None g w = absurd w
name_from P (Some names) g w = names

name_from_good : (P : List Identifier → Type 0) (h : Option (List Identifier)) (g : List PortDeclaration) (w : AreNames P h g) → P (name_from P h g w)
unfolding name_from
name_from_good P None g w = absurd w
name_from_good P (Some names) g w = w.0

name_is : (P : List Identifier → Type 0) (h : Option (List Identifier)) (g : List PortDeclaration) (w : AreNames P h g) → to_names (name_from P h g w) ≡ (h, g)
unfolding name_from
name_is P None g w = absurd w
name_is P (Some names) g w = ap (λ (gs : List PortDeclaration). (Some names, gs)) (nil_is g w.1)

name_exact : IsExact name_ports
unfolding spell_ports spell_separated rest bare_header
name_exact = imaged_exact (before_mark (list identifier) mark_close_parenthesis)
    (before_mark_exact (list identifier) (list_exact identifier identifier_exact (λ left. tt)) mark_close_parenthesis (omega arith) (λ left. (tt, no_comma identifier.read left)))
    to_names ports_inside bare_ports (λ x. AreNames (list identifier).Good x.0 x.1)
    (record { from = λ b w. name_from (list identifier).Good b.0 b.1 w; from_good = λ b w. name_from_good (list identifier).Good b.0 b.1 w; from_is = λ b w. name_is (list identifier).Good b.0 b.1 w; good = λ a w. (w, refl); spelled = λ a w. refl; bared = λ a. refl })

empty_front : (h : Option (List Identifier)) (g : List PortDeclaration) → BothNil h g → (left : List Word) → nat_eq (mark (rest (spell_ports h g) ++ left)) mark_close_parenthesis ≡ true
unfolding spell_ports spell_separated rest mark
empty_front None g w left = absurd w
empty_front (Some []) [] w left = refl
empty_front (Some (n ∷ ns)) g w left = absurd (omega (arith, w.0))
empty_front (Some []) (x ∷ g) w left = absurd (omega (arith, w.1))

dir_mark : (d : Dir) (left : List Word) → mark (spell_dir d ++ left) ≡ no_mark
unfolding spell_dir mark
dir_mark dir.Input left = refl
dir_mark dir.InputWire left = refl
dir_mark dir.Output left = refl
dir_mark dir.OutputWire left = refl
dir_mark dir.OutputReg left = refl

group_word : (P : List PortDeclaration → Type 0) → ((gs : List PortDeclaration) → P gs → 0 < length gs) → (h : Option (List Identifier)) (g : List PortDeclaration) → AreGroups P h g → (left : List Word) → (mark (rest (spell_ports h g) ++ left) ≡ no_mark) × (begins_ports (keyword (rest (spell_ports h g) ++ left)) ≡ true)
unfolding spell_ports spell_separated spell_port rest
group_word P q None g w left = absurd w
group_word P q (Some (n ∷ ns)) g w left = absurd (omega (arith, w.0))
group_word P q (Some []) [] w left = absurd (omega (arith, q [] w.1))
group_word P q (Some []) (p ∷ g) w left =
    let us : List Word = (((spell_type p.signed p.range ++ spell_separated spell_declarator p.names) ++ spell_each spell_port g) ++ (Marked mark_close_parenthesis ∷ [])) ++ left in
    let e : (((spell_dir p.dir ++ (spell_type p.signed p.range ++ spell_separated spell_declarator p.names)) ++ spell_each spell_port g) ++ (Marked mark_close_parenthesis ∷ [])) ++ left ≡ spell_dir p.dir ++ us =
    ap (λ (vs : List Word). (vs ++ (Marked mark_close_parenthesis ∷ [])) ++ left) (append_assoc (spell_dir p.dir) (spell_type p.signed p.range ++ spell_separated spell_declarator p.names) (spell_each spell_port g)) ∙
    ap (λ (vs : List Word). vs ++ left) (append_assoc (spell_dir p.dir) ((spell_type p.signed p.range ++ spell_separated spell_declarator p.names) ++ spell_each spell_port g) (Marked mark_close_parenthesis ∷ [])) ∙
    append_assoc (spell_dir p.dir) (((spell_type p.signed p.range ++ spell_separated spell_declarator p.names) ++ spell_each spell_port g) ++ (Marked mark_close_parenthesis ∷ [])) left in
    (ap mark e ∙ dir_mark p.dir us, ap (λ (vs : List Word). begins_ports (keyword vs)) e ∙ elim (dir_front p.dir us) [ inl h ↦ ap begins_ports h | inr h ↦ ap begins_ports h ])

name_word : (h : Option (List Identifier)) (g : List PortDeclaration) → AreNames (list identifier).Good h g → (left : List Word) → (mark (rest (spell_ports h g) ++ left) ≡ no_mark) × (begins_ports (keyword (rest (spell_ports h g) ++ left)) ≡ false)
unfolding spell_ports spell_separated spell_identifier rest mark keyword
name_word None g w left = absurd w
name_word (Some []) g w left = absurd (omega (arith, w.0.0))
name_word (Some (n ∷ ns)) g w left = (refl, refl)

not_close : (ws : List Word) → mark ws ≡ no_mark → nat_eq (mark ws) mark_close_parenthesis ≡ false
not_close ws e = rw e refl

pub ports_in_exact : (k : ℕ) → IsExact (ports_in k)
ports_in_exact k =
    let l = choose_exact front_ports (group_ports k) name_ports (group_exact k) name_exact (λ a. refl) (λ a. refl)
    (record { at_front = λ a w left v. (group_word (list (port k)).Good (λ gs g. g.0) a.0 a.1 w left).1 }) (record { at_front = λ a w left v. (name_word a.0 a.1 w left).1 }) in
    choose_exact front_close empty_ports (choose front_ports (group_ports k) name_ports) empty_exact l (λ a. refl) (λ a. refl)
    (record { at_front = λ a w left v. empty_front a.0 a.1 w left })
    (tells_choose front_close front_ports (group_ports k) name_ports false (λ a. refl)
    (record { at_front = λ a w left v. not_close (rest (spell_ports a.0 a.1) ++ left) (group_word (list (port k)).Good (λ gs g. g.0) a.0 a.1 w left).0 })
    (record { at_front = λ a w left v. not_close (rest (spell_ports a.0 a.1) ++ left) (name_word a.0 a.1 w left).0 }))

pub in_words : (k : ℕ) (h : Option (List Identifier)) (g : List PortDeclaration) → (ports_in k).Good (h, g) → spell_ports h g ≡ Marked mark_open_parenthesis ∷ rest (spell_ports h g)
unfolding spell_ports rest
in_words k (Some names) g w = refl
in_words k None g (inl w) = absurd w
in_words k None g (inr (inl w)) = absurd w
in_words k None g (inr (inr w)) = absurd w

with_exact : (k : ℕ) → IsExact (with_ports k)
with_exact k = imaged_exact (after_mark mark_open_parenthesis (ports_in k)) (after_mark_exact (ports_in k) (ports_in_exact k) mark_open_parenthesis (omega arith)) same_ports ports_words bare_ports (ports_in k).Good
    (record { from = λ b w. b; from_good = λ b w. w; from_is = λ b w. refl; good = λ a w. w; spelled = λ a w. in_words k a.0 a.1 w; bared = λ a. refl })

none_is : (h : Option (List Identifier)) (g : List PortDeclaration) → NoPorts h g → ◌≡◌ {A = PortList} (None, []) (h, g)
none_is None g w = ap (λ (gs : List PortDeclaration). (None, gs)) (nil_is g w)
none_is (Some names) g w = absurd w

without_exact : IsExact without_ports
unfolding spell_ports bare_header
without_exact = narrowed_exact (imaged (nothing_of false) (λ b. (None, [])) ports_words bare_ports (λ x. NoPorts x.0 x.1) ports_numbered)
    (imaged_exact (nothing_of false) (nothing_exact false) (λ b. (None, [])) ports_words bare_ports (λ x. NoPorts x.0 x.1)
    (record { from = λ b w. false; from_good = λ b w. refl; from_is = λ b w. none_is b.0 b.1 w; good = λ a w. refl; spelled = λ a w. refl; bared = λ a. refl })) NoOpen (λ ws v. tt)

with_front : (k : ℕ) (h : Option (List Identifier)) (g : List PortDeclaration) → (ports_in k).Good (h, g) → (left : List Word) → nat_eq (mark (spell_ports h g ++ left)) mark_open_parenthesis ≡ true
unfolding mark
with_front k h g w left = let e = in_words k h g w in rw e refl

without_front : (h : Option (List Identifier)) (g : List PortDeclaration) → NoPorts h g → (left : List Word) → NoOpen left → nat_eq (mark (spell_ports h g ++ left)) mark_open_parenthesis ≡ false
unfolding spell_ports
without_front None g w left v = not_equal (mark left) mark_open_parenthesis v
without_front (Some names) g w left v = absurd w

port_list_exact : (k : ℕ) → IsExact (port_list k)
port_list_exact k = choose_exact front_open (with_ports k) without_ports (with_exact k) without_exact (λ a. refl) (λ a. refl)
    (record { at_front = λ a w left v. with_front k a.0 a.1 w left }) (record { at_front = λ a w left v. without_front a.0 a.1 w left v })

-- ---- modules

marked_no : (m n : ℕ) (left : List Word) → (m ≡ n → ⊥) → mark (Marked m ∷ left) ≡ n → ⊥
unfolding mark
marked_no m n left h e = h e

ports_no_hash : (h : Option (List Identifier)) (g : List PortDeclaration) (us left : List Word) → NoHash ((spell_ports h g ++ (Marked mark_semicolon ∷ us)) ++ left)
unfolding spell_ports
ports_no_hash None g us left = marked_no mark_semicolon mark_hash (us ++ left) (λ e. absurd (omega (arith, e)))
ports_no_hash (Some names) g us left = marked_no mark_open_parenthesis mark_hash _ (λ e. absurd (omega (arith, e)))

no_item : (j : ℕ) (left : List Word) → (item j).read (Reserved keyword_endmodule ∷ left) ≡ None
unfolding mapped chain name keyword mark rest
no_item j left = refl

endmodule_no_else : (left : List Word) → NoElse (Reserved keyword_endmodule ∷ left)
unfolding keyword
endmodule_no_else left e = absurd (omega (arith, e))

items_exact : (j : ℕ) → IsExact (after_mark mark_semicolon (before_word (repeated (item j)) keyword_endmodule))
items_exact j = after_mark_exact (before_word (repeated (item j)) keyword_endmodule)
    (before_word_exact (repeated (item j)) (repeated_exact (item j) (item_exact j) spell_item-some (λ a g left. item_before j (spell_item a ++ left) (item_no_else j a g left))) keyword_endmodule (omega arith)
    (λ left. (item_before j (Reserved keyword_endmodule ∷ left) (endmodule_no_else left), no_item j left))) mark_semicolon (omega arith)

module_words_exact : (k j : ℕ) → IsExact (module_words k j)
module_words_exact k j =
    let i = items_exact j in
    let p = both_exact (port_list k) (after_mark mark_semicolon (before_word (repeated (item j)) keyword_endmodule)) (port_list_exact k) i
    (λ xs g left v. ((tt, (tt, tt)), marked_no mark_semicolon mark_open_parenthesis ((spell_all spell_item xs ++ (Reserved keyword_endmodule ∷ [])) ++ left) (λ e. absurd (omega (arith, e))))) in
    let h = both_exact (heads k) (both (port_list k) (after_mark mark_semicolon (before_word (repeated (item j)) keyword_endmodule))) (heads_exact k) p
    (λ x g left v. (tt, ports_no_hash x.0.0 x.0.1 (spell_all spell_item x.1 ++ (Reserved keyword_endmodule ∷ [])) left)) in
    both_exact (after_word keyword_module identifier) (both (heads k) (both (port_list k) (after_mark mark_semicolon (before_word (repeated (item j)) keyword_endmodule))))
    (after_word_exact identifier identifier_exact keyword_module (omega arith)) h (λ x g left v. tt)

pub one_module_exact : (k j : ℕ) → IsExact (one_module k j)
unfolding spell_module spell_identifier bare_module bare_identifier
one_module_exact k j = respelled_exact (shaped (module_words k j) to_module of_module) (shaped_exact (module_words k j) (module_words_exact k j) to_module of_module (λ a. refl)) spell_module bare_module (λ a. refl) (λ a. refl)

pub modules_exact : (k j : ℕ) → IsExact (modules k j)
modules_exact k j = repeated_exact (one_module k j) (one_module_exact k j) spell_module-some (λ a g left. tt)

pub no_module : (k j : ℕ) → (one_module k j).read [] ≡ None
unfolding mapped chain keyword
no_module k j = refl
