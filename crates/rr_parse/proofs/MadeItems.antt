-- Items that were read, from their parts.
use Rattle.std.proofs.Common.{◌≡◌, ℕ, List, drop, map, true, false, refl, ◌∙◌, arith, Option, Result, subst}
use Rattle.rr_syntax.specs.declared.token.Token.{Token}
use Rattle.rr_syntax.specs.declared.tree.Named.{Named as Name}
use Rattle.rr_syntax.specs.declared.tree.Group.{Group}
use Rattle.rr_syntax.specs.declared.tree.Params.{Params}
use Rattle.rr_syntax.specs.declared.tree.Declarator.{Declarator}
use Rattle.rr_syntax.specs.declared.tree.Pair.{Pair}
use Rattle.rr_syntax.specs.declared.tree.Conns.{Conns}
use Rattle.rr_syntax.specs.declared.tree.Events.{Events}
use Rattle.rr_syntax.specs.declared.tree.Instance.{Instance}
use Rattle.rr_syntax.specs.declared.tree.Item.{Item}
use Rattle.rr_syntax.specs.declared.tree.Item.TheVariants as variant
use Rattle.rr_syntax.specs.declared.tree.Stmt.{Stmt}
use Rattle.rr_syntax.specs.Words.{words, keyword_always, keyword_assign, keyword_initial, keyword_integer, keyword_reg, keyword_wire, mark_at, mark_semicolon}
use Rattle.rr_syntax.specs.Tree.{bare_item, bare_identifier}
use Rattle.rr_syntax.specs.Statements.{is_initial, NumberedStatement}
use Rattle.rr_syntax.specs.Items.{spell_identifier, spell_type, spell_declarator, spell_pair, spell_instance, spell_item, NumberedIdentifier, NumberedType, NumberedDeclarator, NumberedPair, NumberedEvents, NumberedOverrides, NumberedInstance, NumberedItem, NumberedSeparated}
use Rattle.rr_syntax.specs.View.{plain_identifier, plain_range, plain_port, plain_parameter, plain_declarator, plain_pair, plain_events, plain_overrides, plain_instance, plain_statement, plain_item}
use Rattle.rr_syntax.proofs.BareStatements.{is_initial-bare}
use Rattle.rr_parse_expr.specs.declared.expression.ParseFault.{ParseFault}
use Rattle.rr_parse_expr.proofs.Answered.{not_equal}
use Rattle.rr_parse_stmt.specs.Reading.{keyword}
use Rattle.rr_grammar.specs.Formats.{guarded, list, Finds, FindsNone}
use Rattle.rr_grammar.specs.Leaves.{identifier, typed}
use Rattle.rr_grammar.specs.Declarations.{port, single, variable, pair, parameter}
use Rattle.rr_grammar.specs.Parts.{events}
use Rattle.rr_grammar.specs.Connections.{overrides, one_instance}
use Rattle.rr_grammar.specs.ItemForms.{statement_of, words_of_ports, to_ports, Good_ports, ports_item, words_of_nets, to_nets, Good_nets, nets_item, words_of_variables, to_variables, Good_variables, variables_item, words_of_integers, to_integers, Good_integers, integers_item, words_of_parameters, to_parameters, Good_parameters, parameters_item, words_of_assigns, to_assigns, Good_assigns, assigns_item, words_of_always, to_always, Good_always, always_item, words_of_initial, to_initial, Good_initial, initial_item, words_of_instances, to_instances, Good_instances, instances_item, begins_ports, begins_parameters, front_ports, front_nets, front_variables, front_integers, front_parameters, front_assigns, front_always, front_initial, from_nets, from_variables, from_integers, from_parameters, from_assigns, from_always, from_initial, item}
use Rattle.rr_parse_expr.specs.declared.lists.Piece.{Piece}
use Rattle.rr_parse.specs.declared.declarations.Type as typing
use Rattle.rr_parse.specs.Answer.{Answers, MarkAt, WordAt}
use Rattle.rr_parse.specs.Trees.{plain_type}
use Rattle.rr_parse.proofs.Founds.{same, chain_then, cond_second, finds_both, finds_after_mark, finds_before_mark, finds_after_word, finds_position, finds_guarded, finds_imaged, answers_left, answers_right}
use denote.Ref.{Bor}

pub made_ports : {k : ℕ} {T : List Token} {from : ℕ} (g : Group) {middle next : ℕ} → Finds (port k) T from (plain_port g) middle → MarkAt T middle mark_semicolon next → Finds (ports_item k) T from (plain_item (variant.Ports g)) next
unfolding plain_item spell_item bare_item NumberedItem
made_ports {k = k} g f e = finds_imaged to_ports spell_item bare_item (Good_ports (words_of_ports k).Good) NumberedItem (plain_item (variant.Ports g)) refl refl refl f.numbered (finds_before_mark f e)

pub made_nets : {k : ℕ} {T : List Token} {from : ℕ} (t : typing.Type) (ns : Bor (List Declarator)) {first second third next : ℕ} →
    WordAt T from keyword_wire first → Finds (typed k) T first (plain_type t) second → Finds (list (single k)) T second (map plain_declarator ns.now) third → MarkAt T third mark_semicolon next →
    Finds (nets_item k) T from (plain_item (variant.Nets t.signed t.range ns)) next
unfolding plain_item spell_item spell_type bare_item NumberedItem NumberedType
made_nets {k = k} t ns w f g e =
    finds_imaged to_nets spell_item bare_item (Good_nets (words_of_nets k).Good) NumberedItem (plain_item (variant.Nets t.signed t.range ns)) refl refl refl
    (subst (NumberedType t.signed (plain_range t.range)) w.0 f.numbered.1, subst (NumberedSeparated spell_declarator NumberedDeclarator (map plain_declarator ns.now)) (omega (arith, w.0, f.taken)) g.numbered)
    (finds_after_word w (finds_both f (finds_before_mark g e)))

pub made_variables : {k : ℕ} {T : List Token} {from : ℕ} (t : typing.Type) (ns : Bor (List Declarator)) {first second third next : ℕ} →
    WordAt T from keyword_reg first → Finds (typed k) T first (plain_type t) second → Finds (list (variable k)) T second (map plain_declarator ns.now) third → MarkAt T third mark_semicolon next →
    Finds (variables_item k) T from (plain_item (variant.Variables t.signed t.range ns)) next
unfolding plain_item spell_item spell_type bare_item NumberedItem NumberedType
made_variables {k = k} t ns w f g e =
    finds_imaged to_variables spell_item bare_item (Good_variables (words_of_variables k).Good) NumberedItem (plain_item (variant.Variables t.signed t.range ns)) refl refl refl
    (subst (NumberedType t.signed (plain_range t.range)) w.0 f.numbered.1, subst (NumberedSeparated spell_declarator NumberedDeclarator (map plain_declarator ns.now)) (omega (arith, w.0, f.taken)) g.numbered)
    (finds_after_word w (finds_both f (finds_before_mark g e)))

pub made_integers : (k : ℕ) {T : List Token} {from : ℕ} (ns : Bor (List Name)) {first second next : ℕ} →
    WordAt T from keyword_integer first → Finds (list identifier) T first (map plain_identifier ns.now) second → MarkAt T second mark_semicolon next → Finds (integers_item k) T from (plain_item (variant.Integers ns)) next
unfolding plain_item spell_item bare_item NumberedItem
made_integers k ns w f e =
    finds_imaged to_integers spell_item bare_item (Good_integers (words_of_integers k).Good) NumberedItem (plain_item (variant.Integers ns)) refl refl refl
    (subst (NumberedSeparated spell_identifier NumberedIdentifier (map plain_identifier ns.now)) w.0 f.numbered) (finds_after_word w (finds_before_mark f e))

pub made_parameters : {k : ℕ} {T : List Token} {from : ℕ} (p : Params) {middle next : ℕ} → Finds (parameter k) T from (plain_parameter p) middle → MarkAt T middle mark_semicolon next → Finds (parameters_item k) T from (plain_item (variant.Parameters p)) next
unfolding plain_item spell_item bare_item NumberedItem
made_parameters {k = k} p f e = finds_imaged to_parameters spell_item bare_item (Good_parameters (words_of_parameters k).Good) NumberedItem (plain_item (variant.Parameters p)) refl refl refl f.numbered (finds_before_mark f e)

pub made_assigns : {k : ℕ} {T : List Token} {from : ℕ} (ps : Bor (List Pair)) {first second next : ℕ} →
    WordAt T from keyword_assign first → Finds (list (pair k)) T first (map plain_pair ps.now) second → MarkAt T second mark_semicolon next → Finds (assigns_item k) T from (plain_item (variant.Assigns ps)) next
unfolding plain_item spell_item bare_item NumberedItem
made_assigns {k = k} ps w f e =
    finds_imaged to_assigns spell_item bare_item (Good_assigns (words_of_assigns k).Good) NumberedItem (plain_item (variant.Assigns ps)) refl refl refl
    (subst (NumberedSeparated spell_pair NumberedPair (map plain_pair ps.now)) w.0 f.numbered) (finds_after_word w (finds_before_mark f e))

pub made_always : {k : ℕ} {T : List Token} {from : ℕ} (v : Events) (s : Bor Stmt) {first second third next : ℕ} →
    WordAt T from keyword_always first → MarkAt T first mark_at second → Finds (events k) T second (plain_events v) third → Finds (statement_of k) T third (plain_statement s.now) next →
    Finds (always_item k) T from (plain_item (variant.Always v s from)) next
unfolding plain_item spell_item bare_item NumberedItem
made_always {k = k} {from = from} v s w e f g =
    finds_imaged to_always spell_item bare_item (Good_always (words_of_always k).Good) NumberedItem (plain_item (variant.Always v s from)) refl refl refl
    (refl, subst (NumberedEvents (plain_events v)) (omega (arith, w.0, e.0)) f.numbered, subst (NumberedStatement (plain_statement s.now)) (omega (arith, w.0, e.0, f.taken)) g.numbered)
    (finds_both (finds_position (omega (arith, w.2))) (finds_after_word w (finds_after_mark e (finds_both f g))))

pub made_initial_statement : {k : ℕ} {T : List Token} {from : ℕ} (s : Bor Stmt) {next : ℕ} → is_initial (plain_statement s.now) ≡ true → Finds (statement_of k) T from (plain_statement s.now) next → Finds (guarded (statement_of k) is_initial) T from (plain_statement s.now) next
made_initial_statement s e f = finds_guarded is_initial (is_initial-bare (plain_statement s.now) ∙ e) f

pub other_statement : {k : ℕ} {T : List Token} {from : ℕ} (s : Bor Stmt) {next : ℕ} → is_initial (plain_statement s.now) ≡ false → Finds (statement_of k) T from (plain_statement s.now) next → FindsNone (guarded (statement_of k) is_initial) T from
other_statement s e f = record { none_is = chain_then _ f.found_is (cond_second _ (is_initial-bare (plain_statement s.now) ∙ e) refl) }

pub made_initial : {k : ℕ} {T : List Token} {from : ℕ} (s : Bor Stmt) {first next : ℕ} → WordAt T from keyword_initial first → Finds (guarded (statement_of k) is_initial) T first (plain_statement s.now) next → Finds (initial_item k) T from (plain_item (variant.Initial s from)) next
unfolding plain_item spell_item bare_item NumberedItem
made_initial {k = k} {from = from} s w f =
    finds_imaged to_initial spell_item bare_item (Good_initial (words_of_initial k).Good) NumberedItem (plain_item (variant.Initial s from)) refl refl refl
    (refl, subst (NumberedStatement (plain_statement s.now)) w.0 f.numbered)
    (finds_both (finds_position (omega (arith, w.2))) (finds_after_word w f))

pub made_instances : {k : ℕ} {T : List Token} {from : ℕ} (n : Name) (o : Option Conns) (is : Bor (List Instance)) {first second third next : ℕ} →
    Finds identifier T from (plain_identifier n) first → Finds (overrides k) T first (plain_overrides o) second → Finds (list (one_instance k)) T second (map plain_instance is.now) third → MarkAt T third mark_semicolon next →
    Finds (instances_item k) T from (plain_item (variant.Instances n.name n.token o is)) next
unfolding plain_item plain_identifier spell_item spell_identifier bare_item bare_identifier NumberedItem NumberedIdentifier
made_instances {k = k} n o is f g h e =
    finds_imaged to_instances spell_item bare_item (Good_instances (words_of_instances k).Good) NumberedItem (plain_item (variant.Instances n.name n.token o is)) refl refl refl
    (f.numbered, subst (NumberedOverrides (plain_overrides o)) (omega (arith, f.taken)) g.numbered, subst (NumberedSeparated spell_instance NumberedInstance (map plain_instance is.now)) (omega (arith, f.taken, g.taken)) h.numbered)
    (finds_both f (finds_both g (finds_before_mark h e)))

-- ---- items by their first word

pub item_ports : (k : ℕ) (T : List Token) (from : ℕ) → begins_ports (keyword (drop from (words T))) ≡ true → (r : Result (Piece Item) ParseFault) → Answers (ports_item k) plain_item T from r → Answers (item k) plain_item T from r
item_ports k T from e r a =
    answers_left front_ports (ports_item k) (from_nets k) plain_item T from e r a

pub item_nets : (k : ℕ) (T : List Token) (from : ℕ) → begins_ports (keyword (drop from (words T))) ≡ false → keyword (drop from (words T)) ≡ keyword_wire → (r : Result (Piece Item) ParseFault) → Answers (nets_item k) plain_item T from r → Answers (item k) plain_item T from r
item_nets k T from h0 e r a =
    answers_right front_ports (ports_item k) (from_nets k) plain_item T from h0 (λ b. refl) (λ b. refl) (λ b at n. n) r (answers_left front_nets (nets_item k) (from_variables k) plain_item T from (same (keyword (drop from (words T))) keyword_wire e) r a)

pub item_variables : (k : ℕ) (T : List Token) (from : ℕ) → begins_ports (keyword (drop from (words T))) ≡ false → (keyword (drop from (words T)) ≡ keyword_wire → ⊥) → keyword (drop from (words T)) ≡ keyword_reg → (r : Result (Piece Item) ParseFault) → Answers (variables_item k) plain_item T from r → Answers (item k) plain_item T from r
item_variables k T from h0 h1 e r a =
    answers_right front_ports (ports_item k) (from_nets k) plain_item T from h0 (λ b. refl) (λ b. refl) (λ b at n. n) r (answers_right front_nets (nets_item k) (from_variables k) plain_item T from (not_equal (keyword (drop from (words T))) keyword_wire h1) (λ b. refl) (λ b. refl) (λ b at n. n) r (answers_left front_variables (variables_item k) (from_integers k) plain_item T from (same (keyword (drop from (words T))) keyword_reg e) r a))

pub item_integers : (k : ℕ) (T : List Token) (from : ℕ) → begins_ports (keyword (drop from (words T))) ≡ false → (keyword (drop from (words T)) ≡ keyword_wire → ⊥) → (keyword (drop from (words T)) ≡ keyword_reg → ⊥) → keyword (drop from (words T)) ≡ keyword_integer → (r : Result (Piece Item) ParseFault) → Answers (integers_item k) plain_item T from r → Answers (item k) plain_item T from r
item_integers k T from h0 h1 h2 e r a =
    answers_right front_ports (ports_item k) (from_nets k) plain_item T from h0 (λ b. refl) (λ b. refl) (λ b at n. n) r (answers_right front_nets (nets_item k) (from_variables k) plain_item T from (not_equal (keyword (drop from (words T))) keyword_wire h1) (λ b. refl) (λ b. refl) (λ b at n. n) r (answers_right front_variables (variables_item k) (from_integers k) plain_item T from (not_equal (keyword (drop from (words T))) keyword_reg h2) (λ b. refl) (λ b. refl) (λ b at n. n) r (answers_left front_integers (integers_item k) (from_parameters k) plain_item T from (same (keyword (drop from (words T))) keyword_integer e) r a)))

pub item_parameters : (k : ℕ) (T : List Token) (from : ℕ) → begins_ports (keyword (drop from (words T))) ≡ false → (keyword (drop from (words T)) ≡ keyword_wire → ⊥) → (keyword (drop from (words T)) ≡ keyword_reg → ⊥) → (keyword (drop from (words T)) ≡ keyword_integer → ⊥) → begins_parameters (keyword (drop from (words T))) ≡ true → (r : Result (Piece Item) ParseFault) → Answers (parameters_item k) plain_item T from r → Answers (item k) plain_item T from r
item_parameters k T from h0 h1 h2 h3 e r a =
    answers_right front_ports (ports_item k) (from_nets k) plain_item T from h0 (λ b. refl) (λ b. refl) (λ b at n. n) r (answers_right front_nets (nets_item k) (from_variables k) plain_item T from (not_equal (keyword (drop from (words T))) keyword_wire h1) (λ b. refl) (λ b. refl) (λ b at n. n) r (answers_right front_variables (variables_item k) (from_integers k) plain_item T from (not_equal (keyword (drop from (words T))) keyword_reg h2) (λ b. refl) (λ b. refl) (λ b at n. n) r (answers_right front_integers (integers_item k) (from_parameters k) plain_item T from (not_equal (keyword (drop from (words T))) keyword_integer h3) (λ b. refl) (λ b. refl) (λ b at n. n) r (answers_left front_parameters (parameters_item k) (from_assigns k) plain_item T from e r a))))

pub item_assigns : (k : ℕ) (T : List Token) (from : ℕ) → begins_ports (keyword (drop from (words T))) ≡ false → (keyword (drop from (words T)) ≡ keyword_wire → ⊥) → (keyword (drop from (words T)) ≡ keyword_reg → ⊥) → (keyword (drop from (words T)) ≡ keyword_integer → ⊥) → begins_parameters (keyword (drop from (words T))) ≡ false → keyword (drop from (words T)) ≡ keyword_assign → (r : Result (Piece Item) ParseFault) → Answers (assigns_item k) plain_item T from r → Answers (item k) plain_item T from r
item_assigns k T from h0 h1 h2 h3 h4 e r a =
    answers_right front_ports (ports_item k) (from_nets k) plain_item T from h0 (λ b. refl) (λ b. refl) (λ b at n. n) r (answers_right front_nets (nets_item k) (from_variables k) plain_item T from (not_equal (keyword (drop from (words T))) keyword_wire h1) (λ b. refl) (λ b. refl) (λ b at n. n) r (answers_right front_variables (variables_item k) (from_integers k) plain_item T from (not_equal (keyword (drop from (words T))) keyword_reg h2) (λ b. refl) (λ b. refl) (λ b at n. n) r (answers_right front_integers (integers_item k) (from_parameters k) plain_item T from (not_equal (keyword (drop from (words T))) keyword_integer h3) (λ b. refl) (λ b. refl) (λ b at n. n) r (answers_right front_parameters (parameters_item k) (from_assigns k) plain_item T from h4 (λ b. refl) (λ b. refl) (λ b at n. n) r (answers_left front_assigns (assigns_item k) (from_always k) plain_item T from (same (keyword (drop from (words T))) keyword_assign e) r a)))))

pub item_always : (k : ℕ) (T : List Token) (from : ℕ) → begins_ports (keyword (drop from (words T))) ≡ false → (keyword (drop from (words T)) ≡ keyword_wire → ⊥) → (keyword (drop from (words T)) ≡ keyword_reg → ⊥) → (keyword (drop from (words T)) ≡ keyword_integer → ⊥) → begins_parameters (keyword (drop from (words T))) ≡ false → (keyword (drop from (words T)) ≡ keyword_assign → ⊥) → keyword (drop from (words T)) ≡ keyword_always → (r : Result (Piece Item) ParseFault) → Answers (always_item k) plain_item T from r → Answers (item k) plain_item T from r
item_always k T from h0 h1 h2 h3 h4 h5 e r a =
    answers_right front_ports (ports_item k) (from_nets k) plain_item T from h0 (λ b. refl) (λ b. refl) (λ b at n. n) r (answers_right front_nets (nets_item k) (from_variables k) plain_item T from (not_equal (keyword (drop from (words T))) keyword_wire h1) (λ b. refl) (λ b. refl) (λ b at n. n) r (answers_right front_variables (variables_item k) (from_integers k) plain_item T from (not_equal (keyword (drop from (words T))) keyword_reg h2) (λ b. refl) (λ b. refl) (λ b at n. n) r (answers_right front_integers (integers_item k) (from_parameters k) plain_item T from (not_equal (keyword (drop from (words T))) keyword_integer h3) (λ b. refl) (λ b. refl) (λ b at n. n) r (answers_right front_parameters (parameters_item k) (from_assigns k) plain_item T from h4 (λ b. refl) (λ b. refl) (λ b at n. n) r (answers_right front_assigns (assigns_item k) (from_always k) plain_item T from (not_equal (keyword (drop from (words T))) keyword_assign h5) (λ b. refl) (λ b. refl) (λ b at n. n) r (answers_left front_always (always_item k) (from_initial k) plain_item T from (same (keyword (drop from (words T))) keyword_always e) r a))))))

pub item_initial : (k : ℕ) (T : List Token) (from : ℕ) → begins_ports (keyword (drop from (words T))) ≡ false → (keyword (drop from (words T)) ≡ keyword_wire → ⊥) → (keyword (drop from (words T)) ≡ keyword_reg → ⊥) → (keyword (drop from (words T)) ≡ keyword_integer → ⊥) → begins_parameters (keyword (drop from (words T))) ≡ false → (keyword (drop from (words T)) ≡ keyword_assign → ⊥) → (keyword (drop from (words T)) ≡ keyword_always → ⊥) → keyword (drop from (words T)) ≡ keyword_initial → (r : Result (Piece Item) ParseFault) → Answers (initial_item k) plain_item T from r → Answers (item k) plain_item T from r
item_initial k T from h0 h1 h2 h3 h4 h5 h6 e r a =
    answers_right front_ports (ports_item k) (from_nets k) plain_item T from h0 (λ b. refl) (λ b. refl) (λ b at n. n) r (answers_right front_nets (nets_item k) (from_variables k) plain_item T from (not_equal (keyword (drop from (words T))) keyword_wire h1) (λ b. refl) (λ b. refl) (λ b at n. n) r (answers_right front_variables (variables_item k) (from_integers k) plain_item T from (not_equal (keyword (drop from (words T))) keyword_reg h2) (λ b. refl) (λ b. refl) (λ b at n. n) r (answers_right front_integers (integers_item k) (from_parameters k) plain_item T from (not_equal (keyword (drop from (words T))) keyword_integer h3) (λ b. refl) (λ b. refl) (λ b at n. n) r (answers_right front_parameters (parameters_item k) (from_assigns k) plain_item T from h4 (λ b. refl) (λ b. refl) (λ b at n. n) r (answers_right front_assigns (assigns_item k) (from_always k) plain_item T from (not_equal (keyword (drop from (words T))) keyword_assign h5) (λ b. refl) (λ b. refl) (λ b at n. n) r (answers_right front_always (always_item k) (from_initial k) plain_item T from (not_equal (keyword (drop from (words T))) keyword_always h6) (λ b. refl) (λ b. refl) (λ b at n. n) r (answers_left front_initial (initial_item k) (instances_item k) plain_item T from (same (keyword (drop from (words T))) keyword_initial e) r a)))))))

pub item_instances : (k : ℕ) (T : List Token) (from : ℕ) → begins_ports (keyword (drop from (words T))) ≡ false → (keyword (drop from (words T)) ≡ keyword_wire → ⊥) → (keyword (drop from (words T)) ≡ keyword_reg → ⊥) → (keyword (drop from (words T)) ≡ keyword_integer → ⊥) → begins_parameters (keyword (drop from (words T))) ≡ false → (keyword (drop from (words T)) ≡ keyword_assign → ⊥) → (keyword (drop from (words T)) ≡ keyword_always → ⊥) → (keyword (drop from (words T)) ≡ keyword_initial → ⊥) → (r : Result (Piece Item) ParseFault) → Answers (instances_item k) plain_item T from r → Answers (item k) plain_item T from r
item_instances k T from h0 h1 h2 h3 h4 h5 h6 h7 r a =
    answers_right front_ports (ports_item k) (from_nets k) plain_item T from h0 (λ b. refl) (λ b. refl) (λ b at n. n) r (answers_right front_nets (nets_item k) (from_variables k) plain_item T from (not_equal (keyword (drop from (words T))) keyword_wire h1) (λ b. refl) (λ b. refl) (λ b at n. n) r (answers_right front_variables (variables_item k) (from_integers k) plain_item T from (not_equal (keyword (drop from (words T))) keyword_reg h2) (λ b. refl) (λ b. refl) (λ b at n. n) r (answers_right front_integers (integers_item k) (from_parameters k) plain_item T from (not_equal (keyword (drop from (words T))) keyword_integer h3) (λ b. refl) (λ b. refl) (λ b at n. n) r (answers_right front_parameters (parameters_item k) (from_assigns k) plain_item T from h4 (λ b. refl) (λ b. refl) (λ b at n. n) r (answers_right front_assigns (assigns_item k) (from_always k) plain_item T from (not_equal (keyword (drop from (words T))) keyword_assign h5) (λ b. refl) (λ b. refl) (λ b at n. n) r (answers_right front_always (always_item k) (from_initial k) plain_item T from (not_equal (keyword (drop from (words T))) keyword_always h6) (λ b. refl) (λ b. refl) (λ b at n. n) r (answers_right front_initial (initial_item k) (instances_item k) plain_item T from (not_equal (keyword (drop from (words T))) keyword_initial h7) (λ b. refl) (λ b. refl) (λ b at n. n) r a)))))))
