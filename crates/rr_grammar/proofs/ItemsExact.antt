-- The formats of items are exact.
use Rattle.std.proofs.Common.{◌≡◌, ℕ, zero, suc, ◌+◌, ◌≤◌, ◌<◌, List, [], ◌∷◌, ◌++◌, length, map, refl, ap, ◌∙◌, sym, arith, Bool, true, false, cond, nat_eq, Option, Some, None, ◌⊎◌, inl, inr, subst, append_assoc}
use Rattle.std.proofs.lemmas.Bool.Decides.{Decides-eqb}
use Rattle.rr_syntax.specs.declared.tree.Dir.{Dir}
use Rattle.rr_syntax.specs.declared.tree.Dir.TheVariants as dir
use Rattle.rr_syntax.specs.Words.{Word, Named, Marked, Reserved, keyword_always, keyword_assign, keyword_else, keyword_endmodule, keyword_initial, keyword_input, keyword_integer, keyword_localparam, keyword_output, keyword_parameter, keyword_reg, keyword_signed, keyword_wire, mark_at, mark_comma, mark_hash, mark_open_bracket, mark_semicolon}
use Rattle.rr_syntax.specs.Tree.{Tree, Identifier, Range, PortDeclaration, ParameterDeclaration, DeclaredName, NetAssignment, EventControl, Connections, ModuleInstance, ModuleItem, Ports, Nets, Variables, Integers, Parameters, Assigns, Always, Initial, Instances, Statement, bare_identifier, bare_item}
use Rattle.rr_syntax.specs.Expressions.{infix_level}
use Rattle.rr_syntax.specs.Statements.{is_initial}
use Rattle.rr_syntax.specs.Items.{spell_item, spell_type, spell_dir, spell_port, spell_parameter, spell_identifier, spell_declarator, spell_instance, spell_separated, spell_each, spell_connections}
use Rattle.rr_syntax.proofs.BareStatements.{is_initial-bare}
use Rattle.rr_parse_expr.specs.Reading.{Found, mapped, chain, mark, rest, no_mark, expect}
use Rattle.rr_parse_stmt.specs.Reading.{keyword, no_word, name}
use Rattle.rr_parse_stmt.proofs.Complete.{reads_statement}
use Rattle.rr_parse_stmt.proofs.Sound.{FitsStatement, statement_sound}
use Rattle.rr_grammar.specs.Formats.{Format, IsExact, IsImage, both, after_mark, after_word, before_mark, position, guarded, imaged, list, choose}
use Rattle.rr_grammar.specs.Leaves.{identifier, Ends, NoType, typed}
use Rattle.rr_grammar.specs.Declarations.{port, single, variable, pair, parameter}
use Rattle.rr_grammar.specs.Parts.{events}
use Rattle.rr_grammar.specs.Connections.{overrides, one_instance}
use Rattle.rr_grammar.specs.ItemForms.{NoElse, statement_of, words_of_ports, to_ports, Good_ports, ports_item, words_of_nets, to_nets, Good_nets, nets_item, words_of_variables, to_variables, Good_variables, variables_item, words_of_integers, to_integers, Good_integers, integers_item, words_of_parameters, to_parameters, Good_parameters, parameters_item, words_of_assigns, to_assigns, Good_assigns, assigns_item, words_of_always, to_always, Good_always, always_item, words_of_initial, to_initial, Good_initial, initial_item, words_of_instances, to_instances, Good_instances, instances_item, begins_ports, front_ports, from_ports, begins_nets, front_nets, from_nets, begins_variables, front_variables, from_variables, begins_integers, front_integers, from_integers, begins_parameters, front_parameters, from_parameters, begins_assigns, front_assigns, from_assigns, begins_always, front_always, from_always, begins_initial, front_initial, from_initial, item}
use Rattle.rr_grammar.proofs.Exacts.{both_exact, after_mark_exact, after_word_exact, before_mark_exact, position_exact, list_exact, guarded_exact, imaged_exact, choose_exact, Tells, tells_choose}
use Rattle.rr_grammar.proofs.LeavesExact.{identifier_exact, typed_exact, ends_at}
use Rattle.rr_grammar.proofs.DeclarationsExact.{OpensNamed, names_open, named_word, named_mark, no_keyword, no_mark_at, comma_ends, not_equals, singles_exact, variables_exact as names_exact, port_exact, pair_exact, parameter_exact}
use Rattle.rr_grammar.proofs.PartsExact.{events_exact}
use Rattle.rr_grammar.proofs.ConnectionsExact.{overrides_exact, instance_exact}

pub statement_of_exact : (k : ℕ) → IsExact (statement_of k)
statement_of_exact k = record {
  finds = λ s w left v. reads_statement s w.0 k w.1 left (λ o. v);
  good = λ ws p e. let f = statement_sound k ws p e in (f.well, f.deep);
  bared = λ ws p e. (statement_sound k ws p e).bared;
  spelled = λ ws p e. (statement_sound k ws p e).spelled;
}

no_comma : {A : Type 0} (r : List Word → Found A) (left : List Word) → expect mark_comma r (Marked mark_semicolon ∷ left) ≡ None
unfolding expect mark
no_comma r left = refl

level-semicolon : infix_level mark_semicolon ≡ 0
unfolding infix_level
level-semicolon = refl

semicolon_ends : (left : List Word) → Ends (Marked mark_semicolon ∷ left)
semicolon_ends left = ends_at mark_semicolon left level-semicolon refl

no_type : (ws : List Word) → OpensNamed ws → NoType ws
no_type ws o = (no_keyword ws keyword_signed (named_word ws o) (omega arith), no_mark_at ws mark_open_bracket (named_mark ws o) (omega arith))

opens_behind : (xs ys : List Word) → OpensNamed xs → OpensNamed (xs ++ ys)
opens_behind xs ys o = (o.0, o.1 ++ ys, ap (λ (us : List Word). us ++ ys) o.2)

names_before : (ns : List DeclaredName) → 0 < length ns → (left : List Word) → NoType ((spell_separated spell_declarator ns ++ (Marked mark_semicolon ∷ [])) ++ left)
names_before ns h left =
    let us : List Word = spell_separated spell_declarator ns ++ (Marked mark_semicolon ∷ []) in
    no_type (us ++ left) (opens_behind us left (names_open ns h (Marked mark_semicolon ∷ [])))

names_end : (k : ℕ) (left : List Word) → (list (single k)).Before (Marked mark_semicolon ∷ left)
names_end k left = ((semicolon_ends left, not_equals mark_semicolon left (λ e. absurd (omega (arith, e)))), no_comma (single k).read left)

variables_end : (k : ℕ) (left : List Word) → (list (variable k)).Before (Marked mark_semicolon ∷ left)
variables_end k left = ((semicolon_ends left, not_equals mark_semicolon left (λ e. absurd (omega (arith, e)))), no_comma (variable k).read left)

instances_open : (is : List ModuleInstance) → 0 < length is → (left : List Word) → OpensNamed ((spell_separated spell_instance is ++ (Marked mark_semicolon ∷ [])) ++ left)
unfolding spell_separated spell_instance
instances_open [] h left = absurd (omega arith)
instances_open (i ∷ is) h left = (i.text, ((spell_connections i.connections ++ spell_each spell_instance is) ++ (Marked mark_semicolon ∷ [])) ++ left, refl)

-- ---- the words of each form

words_of_ports_exact : (k : ℕ) → IsExact (words_of_ports k)
words_of_ports_exact k = before_mark_exact (port k) (port_exact k) mark_semicolon (omega arith) (names_end k)

ports_from : (P : PortDeclaration → Type 0) (i : ModuleItem) → Good_ports P i → PortDeclaration
ports_from P (Ports p) w = p
ports_from P i w = absurd w

ports_good : (P : PortDeclaration → Type 0) (i : ModuleItem) (w : Good_ports P i) → P (ports_from P i w)
unfolding ports_from
ports_good P (Ports p) w = w
ports_good P i w = absurd w

ports_is : (P : PortDeclaration → Type 0) (i : ModuleItem) (w : Good_ports P i) → to_ports (ports_from P i w) ≡ i
unfolding ports_from
ports_is P (Ports p) w = refl
ports_is P i w = absurd w

ports_image : (k : ℕ) → IsImage (words_of_ports k) to_ports spell_item bare_item (Good_ports (words_of_ports k).Good)
unfolding spell_item bare_item
ports_image k = record { from = ports_from (words_of_ports k).Good; from_good = ports_good (words_of_ports k).Good; from_is = ports_is (words_of_ports k).Good; good = λ a w. w; spelled = λ a w. refl; bared = λ a. refl }

ports_exact : (k : ℕ) → IsExact (ports_item k)
ports_exact k = imaged_exact (words_of_ports k) (words_of_ports_exact k) to_ports spell_item bare_item (Good_ports (words_of_ports k).Good) (ports_image k)

words_of_nets_exact : (k : ℕ) → IsExact (words_of_nets k)
words_of_nets_exact k = after_word_exact (both (typed k) (before_mark (list (single k)) mark_semicolon)) (both_exact (typed k) (before_mark (list (single k)) mark_semicolon) (typed_exact k) (before_mark_exact (list (single k)) (singles_exact k) mark_semicolon (omega arith) (names_end k)) (λ ns g left v. names_before ns g.0 left)) keyword_wire (omega arith)

nets_from : (P : (Bool × Option Range) × List DeclaredName → Type 0) (i : ModuleItem) → Good_nets P i → (Bool × Option Range) × List DeclaredName
nets_from P (Nets s r ns) w = ((s, r), ns)
nets_from P i w = absurd w

nets_good : (P : (Bool × Option Range) × List DeclaredName → Type 0) (i : ModuleItem) (w : Good_nets P i) → P (nets_from P i w)
unfolding nets_from
nets_good P (Nets s r ns) w = w
nets_good P i w = absurd w

nets_is : (P : (Bool × Option Range) × List DeclaredName → Type 0) (i : ModuleItem) (w : Good_nets P i) → to_nets (nets_from P i w) ≡ i
unfolding nets_from
nets_is P (Nets s r ns) w = refl
nets_is P i w = absurd w

nets_image : (k : ℕ) → IsImage (words_of_nets k) to_nets spell_item bare_item (Good_nets (words_of_nets k).Good)
unfolding spell_item spell_type bare_item
nets_image k = record { from = nets_from (words_of_nets k).Good; from_good = nets_good (words_of_nets k).Good; from_is = nets_is (words_of_nets k).Good; good = λ a w. w; spelled = λ a w. refl; bared = λ a. refl }

nets_exact : (k : ℕ) → IsExact (nets_item k)
nets_exact k = imaged_exact (words_of_nets k) (words_of_nets_exact k) to_nets spell_item bare_item (Good_nets (words_of_nets k).Good) (nets_image k)

words_of_variables_exact : (k : ℕ) → IsExact (words_of_variables k)
words_of_variables_exact k = after_word_exact (both (typed k) (before_mark (list (variable k)) mark_semicolon)) (both_exact (typed k) (before_mark (list (variable k)) mark_semicolon) (typed_exact k) (before_mark_exact (list (variable k)) (names_exact k) mark_semicolon (omega arith) (variables_end k)) (λ ns g left v. names_before ns g.0 left)) keyword_reg (omega arith)

variables_from : (P : (Bool × Option Range) × List DeclaredName → Type 0) (i : ModuleItem) → Good_variables P i → (Bool × Option Range) × List DeclaredName
variables_from P (Variables s r ns) w = ((s, r), ns)
variables_from P i w = absurd w

variables_good : (P : (Bool × Option Range) × List DeclaredName → Type 0) (i : ModuleItem) (w : Good_variables P i) → P (variables_from P i w)
unfolding variables_from
variables_good P (Variables s r ns) w = w
variables_good P i w = absurd w

variables_is : (P : (Bool × Option Range) × List DeclaredName → Type 0) (i : ModuleItem) (w : Good_variables P i) → to_variables (variables_from P i w) ≡ i
unfolding variables_from
variables_is P (Variables s r ns) w = refl
variables_is P i w = absurd w

variables_image : (k : ℕ) → IsImage (words_of_variables k) to_variables spell_item bare_item (Good_variables (words_of_variables k).Good)
unfolding spell_item spell_type bare_item
variables_image k = record { from = variables_from (words_of_variables k).Good; from_good = variables_good (words_of_variables k).Good; from_is = variables_is (words_of_variables k).Good; good = λ a w. w; spelled = λ a w. refl; bared = λ a. refl }

variables_exact : (k : ℕ) → IsExact (variables_item k)
variables_exact k = imaged_exact (words_of_variables k) (words_of_variables_exact k) to_variables spell_item bare_item (Good_variables (words_of_variables k).Good) (variables_image k)

words_of_integers_exact : (k : ℕ) → IsExact (words_of_integers k)
words_of_integers_exact k = after_word_exact (before_mark (list identifier) mark_semicolon) (before_mark_exact (list identifier) (list_exact identifier identifier_exact (λ left. tt)) mark_semicolon (omega arith) (λ left. (tt, no_comma identifier.read left))) keyword_integer (omega arith)

integers_from : (P : List Identifier → Type 0) (i : ModuleItem) → Good_integers P i → List Identifier
integers_from P (Integers ns) w = ns
integers_from P i w = absurd w

integers_good : (P : List Identifier → Type 0) (i : ModuleItem) (w : Good_integers P i) → P (integers_from P i w)
unfolding integers_from
integers_good P (Integers ns) w = w
integers_good P i w = absurd w

integers_is : (P : List Identifier → Type 0) (i : ModuleItem) (w : Good_integers P i) → to_integers (integers_from P i w) ≡ i
unfolding integers_from
integers_is P (Integers ns) w = refl
integers_is P i w = absurd w

integers_image : (k : ℕ) → IsImage (words_of_integers k) to_integers spell_item bare_item (Good_integers (words_of_integers k).Good)
unfolding spell_item bare_item
integers_image k = record { from = integers_from (words_of_integers k).Good; from_good = integers_good (words_of_integers k).Good; from_is = integers_is (words_of_integers k).Good; good = λ a w. w; spelled = λ a w. refl; bared = λ a. refl }

integers_exact : (k : ℕ) → IsExact (integers_item k)
integers_exact k = imaged_exact (words_of_integers k) (words_of_integers_exact k) to_integers spell_item bare_item (Good_integers (words_of_integers k).Good) (integers_image k)

words_of_parameters_exact : (k : ℕ) → IsExact (words_of_parameters k)
words_of_parameters_exact k = before_mark_exact (parameter k) (parameter_exact k) mark_semicolon (omega arith) (λ left. (semicolon_ends left, no_comma _ left))

parameters_from : (P : ParameterDeclaration → Type 0) (i : ModuleItem) → Good_parameters P i → ParameterDeclaration
parameters_from P (Parameters p) w = p
parameters_from P i w = absurd w

parameters_good : (P : ParameterDeclaration → Type 0) (i : ModuleItem) (w : Good_parameters P i) → P (parameters_from P i w)
unfolding parameters_from
parameters_good P (Parameters p) w = w
parameters_good P i w = absurd w

parameters_is : (P : ParameterDeclaration → Type 0) (i : ModuleItem) (w : Good_parameters P i) → to_parameters (parameters_from P i w) ≡ i
unfolding parameters_from
parameters_is P (Parameters p) w = refl
parameters_is P i w = absurd w

parameters_image : (k : ℕ) → IsImage (words_of_parameters k) to_parameters spell_item bare_item (Good_parameters (words_of_parameters k).Good)
unfolding spell_item bare_item
parameters_image k = record { from = parameters_from (words_of_parameters k).Good; from_good = parameters_good (words_of_parameters k).Good; from_is = parameters_is (words_of_parameters k).Good; good = λ a w. w; spelled = λ a w. refl; bared = λ a. refl }

parameters_exact : (k : ℕ) → IsExact (parameters_item k)
parameters_exact k = imaged_exact (words_of_parameters k) (words_of_parameters_exact k) to_parameters spell_item bare_item (Good_parameters (words_of_parameters k).Good) (parameters_image k)

words_of_assigns_exact : (k : ℕ) → IsExact (words_of_assigns k)
words_of_assigns_exact k = after_word_exact (before_mark (list (pair k)) mark_semicolon) (before_mark_exact (list (pair k)) (list_exact (pair k) (pair_exact k) comma_ends) mark_semicolon (omega arith) (λ left. (semicolon_ends left, no_comma (pair k).read left))) keyword_assign (omega arith)

assigns_from : (P : List NetAssignment → Type 0) (i : ModuleItem) → Good_assigns P i → List NetAssignment
assigns_from P (Assigns ps) w = ps
assigns_from P i w = absurd w

assigns_good : (P : List NetAssignment → Type 0) (i : ModuleItem) (w : Good_assigns P i) → P (assigns_from P i w)
unfolding assigns_from
assigns_good P (Assigns ps) w = w
assigns_good P i w = absurd w

assigns_is : (P : List NetAssignment → Type 0) (i : ModuleItem) (w : Good_assigns P i) → to_assigns (assigns_from P i w) ≡ i
unfolding assigns_from
assigns_is P (Assigns ps) w = refl
assigns_is P i w = absurd w

assigns_image : (k : ℕ) → IsImage (words_of_assigns k) to_assigns spell_item bare_item (Good_assigns (words_of_assigns k).Good)
unfolding spell_item bare_item
assigns_image k = record { from = assigns_from (words_of_assigns k).Good; from_good = assigns_good (words_of_assigns k).Good; from_is = assigns_is (words_of_assigns k).Good; good = λ a w. w; spelled = λ a w. refl; bared = λ a. refl }

assigns_exact : (k : ℕ) → IsExact (assigns_item k)
assigns_exact k = imaged_exact (words_of_assigns k) (words_of_assigns_exact k) to_assigns spell_item bare_item (Good_assigns (words_of_assigns k).Good) (assigns_image k)

words_of_always_exact : (k : ℕ) → IsExact (words_of_always k)
words_of_always_exact k = both_exact position (after_word keyword_always (after_mark mark_at (both (events k) (statement_of k)))) position_exact (after_word_exact (after_mark mark_at (both (events k) (statement_of k))) (after_mark_exact (both (events k) (statement_of k)) (both_exact (events k) (statement_of k) (events_exact k) (statement_of_exact k) (λ s g left v. (tt, (tt, (tt, tt))))) mark_at (omega arith)) keyword_always (omega arith)) (λ x g left v. tt)

always_from : (P : ℕ × (EventControl × Statement) → Type 0) (i : ModuleItem) → Good_always P i → ℕ × (EventControl × Statement)
always_from P (Always e s n) w = (n, (e, s))
always_from P i w = absurd w

always_good : (P : ℕ × (EventControl × Statement) → Type 0) (i : ModuleItem) (w : Good_always P i) → P (always_from P i w)
unfolding always_from
always_good P (Always e s n) w = w
always_good P i w = absurd w

always_is : (P : ℕ × (EventControl × Statement) → Type 0) (i : ModuleItem) (w : Good_always P i) → to_always (always_from P i w) ≡ i
unfolding always_from
always_is P (Always e s n) w = refl
always_is P i w = absurd w

always_image : (k : ℕ) → IsImage (words_of_always k) to_always spell_item bare_item (Good_always (words_of_always k).Good)
unfolding spell_item bare_item
always_image k = record { from = always_from (words_of_always k).Good; from_good = always_good (words_of_always k).Good; from_is = always_is (words_of_always k).Good; good = λ a w. w; spelled = λ a w. refl; bared = λ a. refl }

always_exact : (k : ℕ) → IsExact (always_item k)
always_exact k = imaged_exact (words_of_always k) (words_of_always_exact k) to_always spell_item bare_item (Good_always (words_of_always k).Good) (always_image k)

words_of_initial_exact : (k : ℕ) → IsExact (words_of_initial k)
words_of_initial_exact k = both_exact position (after_word keyword_initial (guarded (statement_of k) is_initial)) position_exact (after_word_exact (guarded (statement_of k) is_initial) (guarded_exact (statement_of k) (statement_of_exact k) is_initial is_initial-bare) keyword_initial (omega arith)) (λ x g left v. tt)

initial_from : (P : ℕ × Statement → Type 0) (i : ModuleItem) → Good_initial P i → ℕ × Statement
initial_from P (Initial s n) w = (n, s)
initial_from P i w = absurd w

initial_good : (P : ℕ × Statement → Type 0) (i : ModuleItem) (w : Good_initial P i) → P (initial_from P i w)
unfolding initial_from
initial_good P (Initial s n) w = w
initial_good P i w = absurd w

initial_is : (P : ℕ × Statement → Type 0) (i : ModuleItem) (w : Good_initial P i) → to_initial (initial_from P i w) ≡ i
unfolding initial_from
initial_is P (Initial s n) w = refl
initial_is P i w = absurd w

initial_image : (k : ℕ) → IsImage (words_of_initial k) to_initial spell_item bare_item (Good_initial (words_of_initial k).Good)
unfolding spell_item bare_item
initial_image k = record { from = initial_from (words_of_initial k).Good; from_good = initial_good (words_of_initial k).Good; from_is = initial_is (words_of_initial k).Good; good = λ a w. w; spelled = λ a w. refl; bared = λ a. refl }

initial_exact : (k : ℕ) → IsExact (initial_item k)
initial_exact k = imaged_exact (words_of_initial k) (words_of_initial_exact k) to_initial spell_item bare_item (Good_initial (words_of_initial k).Good) (initial_image k)

words_of_instances_exact : (k : ℕ) → IsExact (words_of_instances k)
words_of_instances_exact k = both_exact identifier (both (overrides k) (before_mark (list (one_instance k)) mark_semicolon)) identifier_exact (both_exact (overrides k) (before_mark (list (one_instance k)) mark_semicolon) (overrides_exact k) (before_mark_exact (list (one_instance k)) (list_exact (one_instance k) (instance_exact k) (λ left. (tt, (tt, tt)))) mark_semicolon (omega arith) (λ left. ((tt, (tt, tt)), no_comma (one_instance k).read left))) (λ is g left v. ((tt, (tt, tt)), no_mark_at ((spell_separated spell_instance is ++ (Marked mark_semicolon ∷ [])) ++ left) mark_hash (named_mark ((spell_separated spell_instance is ++ (Marked mark_semicolon ∷ [])) ++ left) (instances_open is g.0 left)) (omega arith)))) (λ x g left v. tt)

instances_from : (P : Identifier × (Option Connections × List ModuleInstance) → Type 0) (i : ModuleItem) → Good_instances P i → Identifier × (Option Connections × List ModuleInstance)
instances_from P (Instances m n o is) w = (record { token = n; text = m }, (o, is))
instances_from P i w = absurd w

instances_good : (P : Identifier × (Option Connections × List ModuleInstance) → Type 0) (i : ModuleItem) (w : Good_instances P i) → P (instances_from P i w)
unfolding instances_from
instances_good P (Instances m n o is) w = w
instances_good P i w = absurd w

instances_is : (P : Identifier × (Option Connections × List ModuleInstance) → Type 0) (i : ModuleItem) (w : Good_instances P i) → to_instances (instances_from P i w) ≡ i
unfolding instances_from
instances_is P (Instances m n o is) w = refl
instances_is P i w = absurd w

instances_image : (k : ℕ) → IsImage (words_of_instances k) to_instances spell_item bare_item (Good_instances (words_of_instances k).Good)
unfolding spell_item spell_identifier bare_item bare_identifier
instances_image k = record { from = instances_from (words_of_instances k).Good; from_good = instances_good (words_of_instances k).Good; from_is = instances_is (words_of_instances k).Good; good = λ a w. w; spelled = λ a w. refl; bared = λ a. refl }

instances_exact : (k : ℕ) → IsExact (instances_item k)
instances_exact k = imaged_exact (words_of_instances k) (words_of_instances_exact k) to_instances spell_item bare_item (Good_instances (words_of_instances k).Good) (instances_image k)

-- ---- the first word of each form

pub dir_front : (d : Dir) (left : List Word) → (keyword (spell_dir d ++ left) ≡ keyword_input) ⊎ (keyword (spell_dir d ++ left) ≡ keyword_output)
unfolding spell_dir keyword
dir_front dir.Input left = inl refl
dir_front dir.InputWire left = inl refl
dir_front dir.Output left = inr refl
dir_front dir.OutputWire left = inr refl
dir_front dir.OutputReg left = inr refl

ports_word : (P : PortDeclaration → Type 0) (i : ModuleItem) → Good_ports P i → (left : List Word) → (keyword (spell_item i ++ left) ≡ keyword_input) ⊎ (keyword (spell_item i ++ left) ≡ keyword_output)
unfolding spell_item spell_port
ports_word P (Ports p) w left =
    let e : ((spell_dir p.dir ++ (spell_type p.signed p.range ++ spell_separated spell_declarator p.names)) ++ (Marked mark_semicolon ∷ [])) ++ left ≡ spell_dir p.dir ++ (((spell_type p.signed p.range ++ spell_separated spell_declarator p.names) ++ (Marked mark_semicolon ∷ [])) ++ left) =
    ap (λ (us : List Word). us ++ left) (append_assoc (spell_dir p.dir) (spell_type p.signed p.range ++ spell_separated spell_declarator p.names) (Marked mark_semicolon ∷ [])) ∙ append_assoc (spell_dir p.dir) ((spell_type p.signed p.range ++ spell_separated spell_declarator p.names) ++ (Marked mark_semicolon ∷ [])) left in
    elim (dir_front p.dir (((spell_type p.signed p.range ++ spell_separated spell_declarator p.names) ++ (Marked mark_semicolon ∷ [])) ++ left)) [ inl h ↦ inl (ap keyword e ∙ h) | inr h ↦ inr (ap keyword e ∙ h) ]
ports_word P i w left = absurd w

local_word : (b : Bool) → (cond b keyword_localparam keyword_parameter ≡ keyword_localparam) ⊎ (cond b keyword_localparam keyword_parameter ≡ keyword_parameter)
local_word true = inl refl
local_word false = inr refl

parameters_word : (P : ParameterDeclaration → Type 0) (i : ModuleItem) → Good_parameters P i → (left : List Word) → (keyword (spell_item i ++ left) ≡ keyword_localparam) ⊎ (keyword (spell_item i ++ left) ≡ keyword_parameter)
unfolding spell_item spell_parameter keyword
parameters_word P (Parameters p) w left = local_word p.local
parameters_word P i w left = absurd w

tells_ports : (k : ℕ) (t : ℕ → Bool) (b : Bool) → t keyword_input ≡ b → t keyword_output ≡ b → Tells (λ ws. t (keyword ws)) (ports_item k) b
tells_ports k t b g h = record { at_front = λ a w left v. elim (ports_word (words_of_ports k).Good a w left) [ inl e ↦ ap t e ∙ g | inr e ↦ ap t e ∙ h ] }

nets_word : (P : (Bool × Option Range) × List DeclaredName → Type 0) (i : ModuleItem) → Good_nets P i → (left : List Word) → keyword (spell_item i ++ left) ≡ keyword_wire
unfolding spell_item keyword
nets_word P (Nets s r ns) w left = refl
nets_word P i w left = absurd w

tells_nets : (k : ℕ) (t : ℕ → Bool) (b : Bool) → t keyword_wire ≡ b → Tells (λ ws. t (keyword ws)) (nets_item k) b
tells_nets k t b h = record { at_front = λ a w left v. ap t (nets_word (words_of_nets k).Good a w left) ∙ h }

variables_word : (P : (Bool × Option Range) × List DeclaredName → Type 0) (i : ModuleItem) → Good_variables P i → (left : List Word) → keyword (spell_item i ++ left) ≡ keyword_reg
unfolding spell_item keyword
variables_word P (Variables s r ns) w left = refl
variables_word P i w left = absurd w

tells_variables : (k : ℕ) (t : ℕ → Bool) (b : Bool) → t keyword_reg ≡ b → Tells (λ ws. t (keyword ws)) (variables_item k) b
tells_variables k t b h = record { at_front = λ a w left v. ap t (variables_word (words_of_variables k).Good a w left) ∙ h }

integers_word : (P : List Identifier → Type 0) (i : ModuleItem) → Good_integers P i → (left : List Word) → keyword (spell_item i ++ left) ≡ keyword_integer
unfolding spell_item keyword
integers_word P (Integers ns) w left = refl
integers_word P i w left = absurd w

tells_integers : (k : ℕ) (t : ℕ → Bool) (b : Bool) → t keyword_integer ≡ b → Tells (λ ws. t (keyword ws)) (integers_item k) b
tells_integers k t b h = record { at_front = λ a w left v. ap t (integers_word (words_of_integers k).Good a w left) ∙ h }

tells_parameters : (k : ℕ) (t : ℕ → Bool) (b : Bool) → t keyword_localparam ≡ b → t keyword_parameter ≡ b → Tells (λ ws. t (keyword ws)) (parameters_item k) b
tells_parameters k t b g h = record { at_front = λ a w left v. elim (parameters_word (words_of_parameters k).Good a w left) [ inl e ↦ ap t e ∙ g | inr e ↦ ap t e ∙ h ] }

assigns_word : (P : List NetAssignment → Type 0) (i : ModuleItem) → Good_assigns P i → (left : List Word) → keyword (spell_item i ++ left) ≡ keyword_assign
unfolding spell_item keyword
assigns_word P (Assigns ps) w left = refl
assigns_word P i w left = absurd w

tells_assigns : (k : ℕ) (t : ℕ → Bool) (b : Bool) → t keyword_assign ≡ b → Tells (λ ws. t (keyword ws)) (assigns_item k) b
tells_assigns k t b h = record { at_front = λ a w left v. ap t (assigns_word (words_of_assigns k).Good a w left) ∙ h }

always_word : (P : ℕ × (EventControl × Statement) → Type 0) (i : ModuleItem) → Good_always P i → (left : List Word) → keyword (spell_item i ++ left) ≡ keyword_always
unfolding spell_item keyword
always_word P (Always e s n) w left = refl
always_word P i w left = absurd w

tells_always : (k : ℕ) (t : ℕ → Bool) (b : Bool) → t keyword_always ≡ b → Tells (λ ws. t (keyword ws)) (always_item k) b
tells_always k t b h = record { at_front = λ a w left v. ap t (always_word (words_of_always k).Good a w left) ∙ h }

initial_word : (P : ℕ × Statement → Type 0) (i : ModuleItem) → Good_initial P i → (left : List Word) → keyword (spell_item i ++ left) ≡ keyword_initial
unfolding spell_item keyword
initial_word P (Initial s n) w left = refl
initial_word P i w left = absurd w

tells_initial : (k : ℕ) (t : ℕ → Bool) (b : Bool) → t keyword_initial ≡ b → Tells (λ ws. t (keyword ws)) (initial_item k) b
tells_initial k t b h = record { at_front = λ a w left v. ap t (initial_word (words_of_initial k).Good a w left) ∙ h }

instances_word : (P : Identifier × (Option Connections × List ModuleInstance) → Type 0) (i : ModuleItem) → Good_instances P i → (left : List Word) → keyword (spell_item i ++ left) ≡ no_word
unfolding spell_item keyword
instances_word P (Instances m n o is) w left = refl
instances_word P i w left = absurd w

tells_instances : (k : ℕ) (t : ℕ → Bool) (b : Bool) → t no_word ≡ b → Tells (λ ws. t (keyword ws)) (instances_item k) b
tells_instances k t b h = record { at_front = λ a w left v. ap t (instances_word (words_of_instances k).Good a w left) ∙ h }

from_initial_exact : (k : ℕ) → IsExact (from_initial k)
from_initial_exact k = choose_exact front_initial (initial_item k) (instances_item k) (initial_exact k) (instances_exact k) (λ a. refl) (λ a. refl) (tells_initial k begins_initial true refl)
    (tells_instances k begins_initial false refl)

from_always_exact : (k : ℕ) → IsExact (from_always k)
from_always_exact k = choose_exact front_always (always_item k) (from_initial k) (always_exact k) (from_initial_exact k) (λ a. refl) (λ a. refl) (tells_always k begins_always true refl)
    (tells_choose front_always front_initial (initial_item k) (instances_item k) false (λ a. refl) (tells_initial k begins_always false refl) (tells_instances k begins_always false refl))

from_assigns_exact : (k : ℕ) → IsExact (from_assigns k)
from_assigns_exact k = choose_exact front_assigns (assigns_item k) (from_always k) (assigns_exact k) (from_always_exact k) (λ a. refl) (λ a. refl) (tells_assigns k begins_assigns true refl)
    (tells_choose front_assigns front_always (always_item k) (from_initial k) false (λ a. refl) (tells_always k begins_assigns false refl) (tells_choose front_assigns front_initial (initial_item k) (instances_item k) false (λ a. refl) (tells_initial k begins_assigns false refl) (tells_instances k begins_assigns false refl)))

from_parameters_exact : (k : ℕ) → IsExact (from_parameters k)
from_parameters_exact k = choose_exact front_parameters (parameters_item k) (from_assigns k) (parameters_exact k) (from_assigns_exact k) (λ a. refl) (λ a. refl) (tells_parameters k begins_parameters true refl refl)
    (tells_choose front_parameters front_assigns (assigns_item k) (from_always k) false (λ a. refl) (tells_assigns k begins_parameters false refl) (tells_choose front_parameters front_always (always_item k) (from_initial k) false (λ a. refl) (tells_always k begins_parameters false refl) (tells_choose front_parameters front_initial (initial_item k) (instances_item k) false (λ a. refl) (tells_initial k begins_parameters false refl) (tells_instances k begins_parameters false refl))))

from_integers_exact : (k : ℕ) → IsExact (from_integers k)
from_integers_exact k = choose_exact front_integers (integers_item k) (from_parameters k) (integers_exact k) (from_parameters_exact k) (λ a. refl) (λ a. refl) (tells_integers k begins_integers true refl)
    (tells_choose front_integers front_parameters (parameters_item k) (from_assigns k) false (λ a. refl) (tells_parameters k begins_integers false refl refl) (tells_choose front_integers front_assigns (assigns_item k) (from_always k) false (λ a. refl) (tells_assigns k begins_integers false refl) (tells_choose front_integers front_always (always_item k) (from_initial k) false (λ a. refl) (tells_always k begins_integers false refl) (tells_choose front_integers front_initial (initial_item k) (instances_item k) false (λ a. refl) (tells_initial k begins_integers false refl) (tells_instances k begins_integers false refl)))))

from_variables_exact : (k : ℕ) → IsExact (from_variables k)
from_variables_exact k = choose_exact front_variables (variables_item k) (from_integers k) (variables_exact k) (from_integers_exact k) (λ a. refl) (λ a. refl) (tells_variables k begins_variables true refl)
    (tells_choose front_variables front_integers (integers_item k) (from_parameters k) false (λ a. refl) (tells_integers k begins_variables false refl) (tells_choose front_variables front_parameters (parameters_item k) (from_assigns k) false (λ a. refl) (tells_parameters k begins_variables false refl refl) (tells_choose front_variables front_assigns (assigns_item k) (from_always k) false (λ a. refl) (tells_assigns k begins_variables false refl) (tells_choose front_variables front_always (always_item k) (from_initial k) false (λ a. refl) (tells_always k begins_variables false refl) (tells_choose front_variables front_initial (initial_item k) (instances_item k) false (λ a. refl) (tells_initial k begins_variables false refl) (tells_instances k begins_variables false refl))))))

from_nets_exact : (k : ℕ) → IsExact (from_nets k)
from_nets_exact k = choose_exact front_nets (nets_item k) (from_variables k) (nets_exact k) (from_variables_exact k) (λ a. refl) (λ a. refl) (tells_nets k begins_nets true refl)
    (tells_choose front_nets front_variables (variables_item k) (from_integers k) false (λ a. refl) (tells_variables k begins_nets false refl) (tells_choose front_nets front_integers (integers_item k) (from_parameters k) false (λ a. refl) (tells_integers k begins_nets false refl) (tells_choose front_nets front_parameters (parameters_item k) (from_assigns k) false (λ a. refl) (tells_parameters k begins_nets false refl refl) (tells_choose front_nets front_assigns (assigns_item k) (from_always k) false (λ a. refl) (tells_assigns k begins_nets false refl) (tells_choose front_nets front_always (always_item k) (from_initial k) false (λ a. refl) (tells_always k begins_nets false refl) (tells_choose front_nets front_initial (initial_item k) (instances_item k) false (λ a. refl) (tells_initial k begins_nets false refl) (tells_instances k begins_nets false refl)))))))

from_ports_exact : (k : ℕ) → IsExact (from_ports k)
from_ports_exact k = choose_exact front_ports (ports_item k) (from_nets k) (ports_exact k) (from_nets_exact k) (λ a. refl) (λ a. refl) (tells_ports k begins_ports true refl refl)
    (tells_choose front_ports front_nets (nets_item k) (from_variables k) false (λ a. refl) (tells_nets k begins_ports false refl) (tells_choose front_ports front_variables (variables_item k) (from_integers k) false (λ a. refl) (tells_variables k begins_ports false refl) (tells_choose front_ports front_integers (integers_item k) (from_parameters k) false (λ a. refl) (tells_integers k begins_ports false refl) (tells_choose front_ports front_parameters (parameters_item k) (from_assigns k) false (λ a. refl) (tells_parameters k begins_ports false refl refl) (tells_choose front_ports front_assigns (assigns_item k) (from_always k) false (λ a. refl) (tells_assigns k begins_ports false refl) (tells_choose front_ports front_always (always_item k) (from_initial k) false (λ a. refl) (tells_always k begins_ports false refl) (tells_choose front_ports front_initial (initial_item k) (instances_item k) false (λ a. refl) (tells_initial k begins_ports false refl) (tells_instances k begins_ports false refl))))))))

pub item_exact : (k : ℕ) → IsExact (item k)
item_exact k = from_ports_exact k

pub item_before : (k : ℕ) (ws : List Word) → NoElse ws → (item k).Before ws
item_before k ws h = (tt, (tt, (tt, (tt, (tt, (tt, (h, (h, tt))))))))

no_else : (k : ℕ) → nat_eq k keyword_else ≡ false → (ws : List Word) → keyword ws ≡ k → NoElse ws
no_else k h ws e f = cc (h, (Decides-eqb k keyword_else).1 (sym e ∙ f))

pub item_no_else : (k : ℕ) (a : ModuleItem) → (item k).Good a → (left : List Word) → NoElse (spell_item a ++ left)
item_no_else k a (inl w) left = elim (ports_word (words_of_ports k).Good a w left) [ inl e ↦ no_else keyword_input refl (spell_item a ++ left) e | inr e ↦ no_else keyword_output refl (spell_item a ++ left) e ]
item_no_else k a (inr (inl w)) left = no_else keyword_wire refl (spell_item a ++ left) (nets_word (words_of_nets k).Good a w left)
item_no_else k a (inr (inr (inl w))) left = no_else keyword_reg refl (spell_item a ++ left) (variables_word (words_of_variables k).Good a w left)
item_no_else k a (inr (inr (inr (inl w)))) left = no_else keyword_integer refl (spell_item a ++ left) (integers_word (words_of_integers k).Good a w left)
item_no_else k a (inr (inr (inr (inr (inl w))))) left = elim (parameters_word (words_of_parameters k).Good a w left) [ inl e ↦ no_else keyword_localparam refl (spell_item a ++ left) e | inr e ↦ no_else keyword_parameter refl (spell_item a ++ left) e ]
item_no_else k a (inr (inr (inr (inr (inr (inl w)))))) left = no_else keyword_assign refl (spell_item a ++ left) (assigns_word (words_of_assigns k).Good a w left)
item_no_else k a (inr (inr (inr (inr (inr (inr (inl w))))))) left = no_else keyword_always refl (spell_item a ++ left) (always_word (words_of_always k).Good a w left)
item_no_else k a (inr (inr (inr (inr (inr (inr (inr (inl w)))))))) left = no_else keyword_initial refl (spell_item a ++ left) (initial_word (words_of_initial k).Good a w left)
item_no_else k a (inr (inr (inr (inr (inr (inr (inr (inr w)))))))) left = no_else no_word refl (spell_item a ++ left) (instances_word (words_of_instances k).Good a w left)
