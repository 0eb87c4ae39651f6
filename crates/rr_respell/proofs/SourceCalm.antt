-- No new token stands between `*` and `)` in what a choice prints of a well-formed source.
use Rattle.std.proofs.Common.{◌≡◌, ◌⊎◌, inl, inr, ℕ, ◌%◌, ◌^◌, ◌==◌, ◌&&◌, Bool, true, false, cond, if◌then◌else◌, IsTrue, List, [], ◌∷◌, ◌++◌, get_or, codes, Option, Some, None, refl, sym, subst}
use Rattle.std.proofs.lemmas.Bool.{eqb-true, cases_Bool}
use Rattle.std.proofs.lemmas.List.{append_assoc}
use Rattle.rr_syntax.specs.declared.token.Number.{Number}
use Rattle.rr_syntax.specs.Words.{Word, Named, System, Digits, Reserved, Marked, keyword_always, keyword_assign, keyword_begin, keyword_default, keyword_else, keyword_end, keyword_endcase, keyword_endmodule, keyword_for, keyword_if, keyword_initial, keyword_module, keyword_reg, keyword_integer, keyword_signed, keyword_wire, mark_open_parenthesis, mark_close_parenthesis, mark_open_bracket, mark_close_bracket, mark_open_brace, mark_close_brace, mark_comma, mark_semicolon, mark_colon, mark_dot, mark_hash, mark_at, mark_question, mark_equals, mark_not, mark_less_or_equal, mark_logical_and, mark_logical_or, mark_part_up, mark_part_down}
use Rattle.rr_syntax.specs.Tree.{Tree, Trees, Name, Literal, Bit, Part, Indexed, Unary, Binary, Cond, Concat, Repeat, Cast, Paren, End, More, Identifier, Range, LoopHead, Statement, Statements, Arm, Arms, Null, Block, If, IfElse, Case, Assign, For, Done, Then, CaseItem, NoArms, MoreArms, PortDeclaration, ParameterDeclaration, DeclaredName, NetAssignment, NamedConnection, Connections, Positions, Names, ModuleInstance, ModuleItem, Ports, Nets, Variables, Integers, Parameters, Assigns, Always, Initial, Instances, ModuleDeclaration, SourceText}
use Rattle.rr_syntax.specs.Expressions.{spell, spell_parts, WellFormed, WellFormedParts, WellFormedMore, is_prefix, prefixes}
use Rattle.rr_syntax.specs.Statements.{spell_label, spell_labels, spell_loop, spell_statement, spell_statements, spell_arms, WellFormedStatement, WellFormedStatements, WellFormedArm, WellFormedArms}
use Rattle.rr_syntax.specs.Items.{spell_separated, spell_where, spell_identifier, spell_declarator, spell_range, spell_type, spell_port, spell_parameter, spell_events, spell_connection, spell_connections, spell_overrides, spell_item, spell_parameters, spell_ports, WellFormedValue, WellFormedDeclarator, WellFormedPair, WellFormedConnection, WellFormedConnections, WellFormedInstance, WellFormedItem, WellFormedModule, WellFormedSource}
use Rattle.rr_expr.specs.declared.operators.Infix.TheVariants.{Either}
use Rattle.rr_expr.specs.Faults.{takes_constants}
use Rattle.rr_expr.specs.Operators.{infixes}
use Rattle.rr_lex.specs.Patch as lex
use Rattle.rr_lex.specs.Patch.{New, new_keyword, new_mark, new_name}
use Rattle.rr_choice.specs.declared.pick.Pick.{Pick}
use Rattle.rr_choice.specs.Sites as sites
use Rattle.rr_choice.specs.Sites.{SiteKind, Site, guard_names}
use Rattle.rr_instance.specs.Firsts.{first_token}
use Rattle.rr_choice.specs.Choices.{picked_form, picked_name}
use Rattle.rr_choice.specs.Places.{find_pick, is_literal_at, is_overwrite_at}
use Rattle.rr_instance.specs.Instances.{is_guard_of}
use Rattle.rr_respell.specs.Pieces.{Piece, Kept, Replaced, Put, kept, puts}
use Rattle.rr_respell.specs.Printing.{literal_pieces, bracketed, negated_name, guarded_pieces, test_pieces, tree_pieces, part_pieces, more_pieces, condition_pieces, label_pieces, statement_pieces, statements_pieces, arm_pieces, arms_pieces, gate_words, last_assignment, overwritten_pieces, new_body_pieces, all_overwritten_pieces, body_pieces, separated_pieces, all_pieces, value_pieces, net_pieces, pair_pieces, optional_pieces, connection_pieces, connections_pieces, child_pieces, item_pieces, module_pieces, source_pieces}
use Rattle.rr_respell.proofs.TreeMakes.{tree_makes}
use Rattle.rr_respell.proofs.SourceParts.{body_makes, Free, free}
use Rattle.rr_respell.proofs.Calm.{is_star, is_close, Opens, Quiet, Opening, opening, none, join, keep, keep_any, put, news, replaced, kept_before, Ended, ended, ended_more, ended_join, words, separated_quiet, all_quiet}

prefix_open : (op : ℕ) → IsTrue (is_prefix op) → is_close (Marked op) ≡ false
unfolding is_prefix
prefix_open op h = by_close (cases_Bool (op == mark_close_parenthesis))
  where
    by_close : ((op == mark_close_parenthesis) ≡ true) ⊎ ((op == mark_close_parenthesis) ≡ false) → is_close (Marked op) ≡ false
    by_close (inr e) = e
    by_close (inl e) = absurd (let bad : false ≡ true = subst (λ n. IsTrue (get_or prefixes n 0 == 1)) (eqb-true op 1 e) h in cc)

joined_open : (xs ys more : List Word) → ((more : List Word) → Opens (xs ++ more)) → Opens ((xs ++ ys) ++ more)
joined_open xs ys more h = subst Opens (sym (append_assoc xs ys more)) (h (ys ++ more))

-- no expression begins with a closing bracket
tree_opens : (t : Tree) → WellFormed t → (more : List Word) → Opens (spell t ++ more)
unfolding spell WellFormed
tree_opens (Name token x) h more = refl
tree_opens (Literal token n) h more = refl
tree_opens (Bit token x i) h more = refl
tree_opens (Part token x l r) h more = refl
tree_opens (Indexed token x f n up) h more = refl
tree_opens (Unary op t) h more = prefix_open op h.0
tree_opens (Binary op l r) h more = joined_open (spell l) (Marked op ∷ spell r) more (tree_opens l h.1)
tree_opens (Cond a b c) h more = joined_open (spell a) (Marked mark_question ∷ (spell b ++ (Marked mark_colon ∷ spell c))) more (tree_opens a h.0)
tree_opens (Concat ts) h more = refl
tree_opens (Repeat n ts) h more = refl
tree_opens (Cast signed t) h more = refl
tree_opens (Paren t) h more = refl

-- none ends with a `*`
tree_ended : (t : Tree) → Ended (spell t)
unfolding spell
tree_ended (Name token x) = ended (Named x) refl
tree_ended (Literal token n) = ended (Digits n) refl
tree_ended (Bit token x i) = ended_more (Named x) _ (ended_more (Marked mark_open_bracket) _ (ended_join (spell i) _ (ended (Marked mark_close_bracket) refl)))
tree_ended (Part token x l r) =
    ended_more (Named x) _ (ended_more (Marked mark_open_bracket) _ (ended_join (spell l) _ (ended_more (Marked mark_colon) _ (ended_join (spell r) _ (ended (Marked mark_close_bracket) refl)))))
tree_ended (Indexed token x f n up) =
    ended_more (Named x) _
    (ended_more (Marked mark_open_bracket) _ (ended_join (spell f) _ (ended_more (Marked (cond up mark_part_up mark_part_down)) _ (ended_join (spell n) _ (ended (Marked mark_close_bracket) refl)))))
tree_ended (Unary op t) = ended_more (Marked op) (spell t) (tree_ended t)
tree_ended (Binary op l r) = ended_join (spell l) _ (ended_more (Marked op) (spell r) (tree_ended r))
tree_ended (Cond a b c) = ended_join (spell a) _ (ended_more (Marked mark_question) _ (ended_join (spell b) _ (ended_more (Marked mark_colon) (spell c) (tree_ended c))))
tree_ended (Concat ts) = ended_more (Marked mark_open_brace) _ (ended_join (spell_parts ts) _ (ended (Marked mark_close_brace) refl))
tree_ended (Repeat n ts) =
    ended_more (Marked mark_open_brace) _
    (ended_join (spell n) _ (ended_more (Marked mark_open_brace) _ (ended_join (spell_parts ts) _ (ended_more (Marked mark_close_brace) _ (ended (Marked mark_close_brace) refl)))))
tree_ended (Cast signed t) =
    ended_more (System (cond signed (codes "signed") (codes "unsigned"))) _ (ended_more (Marked mark_open_parenthesis) _ (ended_join (spell t) _ (ended (Marked mark_close_parenthesis) refl)))
tree_ended (Paren t) = ended_more (Marked mark_open_parenthesis) _ (ended_join (spell t) _ (ended (Marked mark_close_parenthesis) refl))

-- no head of a loop ends with a `*`
loop_ended : (h : LoopHead) → Ended (spell_loop h)
unfolding spell_loop
loop_ended h =
    ended_more (Marked mark_open_parenthesis) _
    (ended_more (Named h.text) _
    (ended_more (Marked mark_equals) _
    (ended_join (spell h.start) _
    (ended_more (Marked mark_semicolon) _
    (ended_join (spell h.test) _
    (ended_more (Marked mark_semicolon) _
    (ended_more (Named h.step_text) _ (ended_more (Marked mark_equals) _ (ended_join (spell h.step) _ (ended (Marked mark_close_parenthesis) refl))))))))))

-- none ends with a `*`
statement_ended : (t : Statement) → Ended (spell_statement t)
unfolding spell_statement
statement_ended Null = ended (Marked mark_semicolon) refl
statement_ended (Block label ts) = ended_more (Reserved keyword_begin) _ (ended_join (spell_label label) _ (ended_join (spell_statements ts) _ (ended (Reserved keyword_end) refl)))
statement_ended (If c t) =
    ended_more (Reserved keyword_if) _ (ended_more (Marked mark_open_parenthesis) _ (ended_join (spell c) _ (ended_more (Marked mark_close_parenthesis) (spell_statement t) (statement_ended t))))
statement_ended (IfElse c t u) =
    ended_more (Reserved keyword_if) _
    (ended_more (Marked mark_open_parenthesis) _
    (ended_join (spell c) _ (ended_more (Marked mark_close_parenthesis) _ (ended_join (spell_statement t) _ (ended_more (Reserved keyword_else) (spell_statement u) (statement_ended u))))))
statement_ended (Case kind on arms) =
    ended_more (Reserved kind) _
    (ended_more (Marked mark_open_parenthesis) _ (ended_join (spell on) _ (ended_more (Marked mark_close_parenthesis) _ (ended_join (spell_arms arms) _ (ended (Reserved keyword_endcase) refl)))))
statement_ended (Assign t now e) =
    ended_join (spell t) _ (ended_more (Marked (cond now mark_equals mark_less_or_equal)) _ (ended_join (spell e) _ (ended (Marked mark_semicolon) refl)))
statement_ended (For h t) = ended_more (Reserved keyword_for) _ (ended_join (spell_loop h) (spell_statement t) (statement_ended t))

-- no statement begins with a closing bracket
statement_opens : (t : Statement) → WellFormedStatement t → (more : List Word) → Opens (spell_statement t ++ more)
unfolding spell_statement WellFormedStatement
statement_opens Null h more = refl
statement_opens (Block label ts) h more = refl
statement_opens (If c t) h more = refl
statement_opens (IfElse c t u) h more = refl
statement_opens (Case kind on arms) h more = refl
statement_opens (Assign t now e) h more = joined_open (spell t) _ more (tree_opens t h.1)
statement_opens (For head t) h more = refl

literal_quiet : (found : Option (Site × Pick)) (n : Number) → Quiet (literal_pieces found n)
literal_quiet None n = keep (Digits n) [] refl none
literal_quiet (Some (s, p)) n = by_switch p.on
  where
    by_switch : (on : Bool) → Quiet (if on then Replaced (Digits n) (lex.new_literal n.width n.signed (p.value % 2 ^ n.width)) ∷ [] else Kept (Digits n) ∷ [])
    by_switch true = replaced (Digits n) (lex.new_literal n.width n.signed (p.value % 2 ^ n.width)) refl refl
    by_switch false = keep (Digits n) [] refl none

bracketed_quiet : (xs : List Piece) → Quiet xs → Quiet (bracketed xs)
bracketed_quiet xs x = put (new_mark mark_open_parenthesis) _ (join xs _ x (news (new_mark mark_close_parenthesis ∷ [])))

guarded_quiet : (form : ℕ) (name : List ℕ) (xs : List Piece) → Quiet xs → Quiet (guarded_pieces form name xs)
guarded_quiet form name xs x = by_form (form == 0) (form == 1) (form == 2) (form == 3)
  where
    joined : (ns : List New) → Quiet (bracketed xs ++ puts ns)
    joined ns = join (bracketed xs) (puts ns) (bracketed_quiet xs x) (news ns)

    by_form : (c0 c1 c2 c3 : Bool) →
        Quiet
        (if c0 then Put (new_mark mark_not) ∷ bracketed xs
        else if c1 then bracketed xs ++ puts (new_mark mark_logical_and ∷ (new_name name ∷ []))
        else if c2 then bracketed xs ++ puts (new_mark mark_logical_and ∷ negated_name name)
        else if c3 then bracketed xs ++ puts (new_mark mark_logical_or ∷ (new_name name ∷ []))
        else bracketed xs ++ puts (new_mark mark_logical_or ∷ negated_name name))
    by_form true c1 c2 c3 = put (new_mark mark_not) (bracketed xs) (bracketed_quiet xs x)
    by_form false true c2 c3 = joined (new_mark mark_logical_and ∷ (new_name name ∷ []))
    by_form false false true c3 = joined (new_mark mark_logical_and ∷ negated_name name)
    by_form false false false true = joined (new_mark mark_logical_or ∷ (new_name name ∷ []))
    by_form false false false false = joined (new_mark mark_logical_or ∷ negated_name name)

test_quiet : (found : Option (Site × Pick)) (xs : List Piece) → Quiet xs → Quiet (test_pieces found xs)
test_quiet None xs x = x
test_quiet (Some (s, p)) xs x = by_switch p.on
  where
    by_switch : (on : Bool) → Quiet (if on then guarded_pieces (picked_form (guard_names s.kind) p.form) (picked_name (guard_names s.kind) p.name) xs else xs)
    by_switch true = guarded_quiet (picked_form (guard_names s.kind) p.form) (picked_name (guard_names s.kind) p.name) xs x
    by_switch false = x

module _ (ss : List Site) (ps : List Pick) where
  tree_opening : (t : Tree) → WellFormed t → Opening (tree_pieces ss ps t)
  tree_opening t h = opening (tree_pieces ss ps t) (spell t) (tree_makes Free ss (free ss) ps t).source (tree_opens t h)

  -- a mark, and pieces
  closed : (m : ℕ) → is_star (Marked m) ≡ false → Quiet (Kept (Marked m) ∷ [])
  closed m h = keep (Marked m) [] h none

  mutual
    unfolding tree_pieces WellFormed

    tree_quiet : (t : Tree) → WellFormed t → Quiet (tree_pieces ss ps t)
    tree_quiet (Name token x) h = keep (Named x) [] refl none
    tree_quiet (Literal token n) h = literal_quiet (find_pick (is_literal_at token) ss ps) n
    tree_quiet (Bit token x i) h = words (spell (Bit token x i)) (tree_ended (Bit token x i))
    tree_quiet (Part token x l r) h = words (spell (Part token x l r)) (tree_ended (Part token x l r))
    tree_quiet (Indexed token x f n up) h = words (spell (Indexed token x f n up)) (tree_ended (Indexed token x f n up))
    tree_quiet (Unary op t) h = keep_any (Marked op) (tree_pieces ss ps t) (tree_opening t h.1) (tree_quiet t h.1)
    tree_quiet (Binary op l r) h = by_kind (takes_constants (get_or infixes op Either)) (tree_quiet l h.1) (tree_quiet r h.2)
      where
        by_kind : (c : Bool) → Quiet (tree_pieces ss ps l) → Quiet (tree_pieces ss ps r) → Quiet (if c then kept (spell (Binary op l r)) else tree_pieces ss ps l ++ (Kept (Marked op) ∷ tree_pieces ss ps r))
        by_kind true x y = words (spell (Binary op l r)) (tree_ended (Binary op l r))
        by_kind false x y = join (tree_pieces ss ps l) _ x (keep_any (Marked op) (tree_pieces ss ps r) (tree_opening r h.2) y)
    tree_quiet (Cond a b c) h =
        join (condition_pieces ss ps a) _ (test_quiet (find_pick (is_guard_of a) ss ps) (tree_pieces ss ps a) (tree_quiet a h.0))
        (keep (Marked mark_question) _ refl (join (tree_pieces ss ps b) _ (tree_quiet b h.1) (keep (Marked mark_colon) _ refl (tree_quiet c h.2))))
    tree_quiet (Concat ts) h = keep (Marked mark_open_brace) _ refl (join (part_pieces ss ps ts) _ (some_quiet ts h) (closed mark_close_brace refl))
    tree_quiet (Repeat n ts) h =
        keep (Marked mark_open_brace) _ refl
        (join (kept (spell n)) _ (words (spell n) (tree_ended n))
        (keep (Marked mark_open_brace) _ refl (join (part_pieces ss ps ts) _ (some_quiet ts h.1) (keep (Marked mark_close_brace) _ refl (closed mark_close_brace refl)))))
    tree_quiet (Cast signed t) h =
        keep (System (cond signed (codes "signed") (codes "unsigned"))) _ refl
        (keep (Marked mark_open_parenthesis) _ refl (join (tree_pieces ss ps t) _ (tree_quiet t h) (closed mark_close_parenthesis refl)))
    tree_quiet (Paren t) h = keep (Marked mark_open_parenthesis) _ refl (join (tree_pieces ss ps t) _ (tree_quiet t h) (closed mark_close_parenthesis refl))

    some_quiet : (ts : Trees) → WellFormedParts ts → Quiet (part_pieces ss ps ts)
    some_quiet End h = absurd h
    some_quiet (More t ts) h = join (tree_pieces ss ps t) (more_pieces ss ps ts) (tree_quiet t h.0) (more_quiet ts h.1)

    more_quiet : (ts : Trees) → WellFormedMore ts → Quiet (more_pieces ss ps ts)
    more_quiet End h = none
    more_quiet (More t ts) h = keep (Marked mark_comma) _ refl (join (tree_pieces ss ps t) (more_pieces ss ps ts) (tree_quiet t h.0) (more_quiet ts h.1))

  parts_quiet : (ts : Trees) → WellFormedMore ts → Quiet (part_pieces ss ps ts)
  unfolding tree_pieces WellFormed
  parts_quiet End h = none
  parts_quiet (More t ts) h = join (tree_pieces ss ps t) (more_pieces ss ps ts) (tree_quiet t h.0) (more_quiet ts h.1)

  condition_quiet : (t : Tree) → WellFormed t → Quiet (condition_pieces ss ps t)
  condition_quiet t h = test_quiet (find_pick (is_guard_of t) ss ps) (tree_pieces ss ps t) (tree_quiet t h)

  label_quiet : (label : Option Identifier) → Quiet (kept (spell_label label))
  unfolding spell_label
  label_quiet None = none
  label_quiet (Some i) = keep (Marked mark_colon) _ refl (keep (Named i.text) [] refl none)

  labels_quiet : (labels : Trees) (colon : Bool) → WellFormedMore labels → Quiet (label_pieces ss ps labels colon)
  unfolding label_pieces spell_labels
  labels_quiet End true h = keep (Reserved keyword_default) _ refl (closed mark_colon refl)
  labels_quiet End false h = keep (Reserved keyword_default) [] refl none
  labels_quiet (More t ts) colon h = join (part_pieces ss ps (More t ts)) _ (parts_quiet (More t ts) h) (closed mark_colon refl)

  assigns_dark : (now : Bool) → is_star (Marked (cond now mark_equals mark_less_or_equal)) ≡ false
  assigns_dark true = refl
  assigns_dark false = refl

  mutual
    unfolding statement_pieces WellFormedStatement

    statement_quiet : (t : Statement) → WellFormedStatement t → Quiet (statement_pieces ss ps t)
    statement_quiet Null h = closed mark_semicolon refl
    statement_quiet (Block label ts) h =
        keep (Reserved keyword_begin) _ refl
        (join (kept (spell_label label)) _ (label_quiet label) (join (statements_pieces ss ps ts) _ (statements_quiet ts h) (keep (Reserved keyword_end) [] refl none)))
    statement_quiet (If c t) h =
        keep (Reserved keyword_if) _ refl
        (keep (Marked mark_open_parenthesis) _ refl
        (join (condition_pieces ss ps c) _ (condition_quiet c h.0) (keep (Marked mark_close_parenthesis) _ refl (statement_quiet t h.1))))
    statement_quiet (IfElse c t u) h =
        keep (Reserved keyword_if) _ refl
        (keep (Marked mark_open_parenthesis) _ refl
        (join (condition_pieces ss ps c) _ (condition_quiet c h.0)
        (keep (Marked mark_close_parenthesis) _ refl
        (join (statement_pieces ss ps t) _ (statement_quiet t h.1) (keep (Reserved keyword_else) _ refl (statement_quiet u h.3))))))
    statement_quiet (Case kind on arms) h =
        keep (Reserved kind) _ refl
        (keep (Marked mark_open_parenthesis) _ refl
        (join (tree_pieces ss ps on) _ (tree_quiet on h.1)
        (keep (Marked mark_close_parenthesis) _ refl (join (arms_pieces ss ps arms) _ (arms_quiet arms h.3) (keep (Reserved keyword_endcase) [] refl none)))))
    statement_quiet (Assign t now e) h =
        join (kept (spell t)) _ (words (spell t) (tree_ended t))
        (keep (Marked (cond now mark_equals mark_less_or_equal)) _ (assigns_dark now) (join (tree_pieces ss ps e) _ (tree_quiet e h.2) (closed mark_semicolon refl)))
    statement_quiet (For head t) h =
        keep (Reserved keyword_for) _ refl (join (kept (spell_loop head)) (statement_pieces ss ps t) (words (spell_loop head) (loop_ended head)) (statement_quiet t h.1))

    statements_quiet : (ts : Statements) → WellFormedStatements ts → Quiet (statements_pieces ss ps ts)
    statements_quiet Done h = none
    statements_quiet (Then t ts) h = join (statement_pieces ss ps t) (statements_pieces ss ps ts) (statement_quiet t h.0) (statements_quiet ts h.1)

    arm_quiet : (a : Arm) → WellFormedArm a → Quiet (arm_pieces ss ps a)
    arm_quiet (CaseItem labels colon t) h = join (label_pieces ss ps labels colon) (statement_pieces ss ps t) (labels_quiet labels colon h.0) (statement_quiet t h.2)

    arms_quiet : (arms : Arms) → WellFormedArms arms → Quiet (arms_pieces ss ps arms)
    arms_quiet NoArms h = none
    arms_quiet (MoreArms a rest) h = join (arm_pieces ss ps a) (arms_pieces ss ps rest) (arm_quiet a h.0) (arms_quiet rest h.1)

overwritten_quiet : (kind : SiteKind) (p : Pick) (xs : List Piece) → Quiet xs → Quiet (overwritten_pieces kind p xs)
overwritten_quiet (sites.Literal width signed) p xs x = x
overwritten_quiet (sites.Guard owner extent names) p xs x = x
overwritten_quiet (sites.Overwrite owner target width now names) p xs x =
    put (new_keyword keyword_begin) _
    (join xs _ x (news (last_assignment (gate_words (picked_form names p.form) (picked_name names p.name)) target now (lex.new_literal width false (p.value % 2 ^ width)))))

new_body_quiet : (token : ℕ) (s : Site) (p : Pick) (xs : List Piece) → Quiet xs → Quiet (new_body_pieces token s p xs)
new_body_quiet token s p xs x = by_test (is_overwrite_at token s && p.on)
  where
    by_test : (c : Bool) → Quiet (if c then overwritten_pieces s.kind p xs else xs)
    by_test true = overwritten_quiet s.kind p xs x
    by_test false = x

all_overwritten_quiet : (token : ℕ) (ss : List Site) (ps : List Pick) (xs : List Piece) → Quiet xs → Quiet (all_overwritten_pieces token ss ps xs)
unfolding all_overwritten_pieces
all_overwritten_quiet token [] ps xs x = x
all_overwritten_quiet token (s ∷ ss) [] xs x = x
all_overwritten_quiet token (s ∷ ss) (p ∷ ps) xs x = all_overwritten_quiet token ss ps (new_body_pieces token s p xs) (new_body_quiet token s p xs x)

range_quiet : (range : Option Range) → Quiet (kept (spell_range range))
unfolding spell_range
range_quiet None = none
range_quiet (Some r) =
    words _ (ended_more (Marked mark_open_bracket) _ (ended_join (spell r.left) _ (ended_more (Marked mark_colon) _ (ended_join (spell r.right) _ (ended (Marked mark_close_bracket) refl)))))

type_quiet : (signed : Bool) (range : Option Range) → Quiet (kept (spell_type signed range))
unfolding spell_type spell_where spell_range
type_quiet true None = keep (Reserved keyword_signed) [] refl none
type_quiet false None = none
type_quiet true (Some r) =
    words _ (ended_more (Reserved keyword_signed) _ (ended_more (Marked mark_open_bracket) _ (ended_join (spell r.left) _ (ended_more (Marked mark_colon) _ (ended_join (spell r.right) _ (ended (Marked mark_close_bracket) refl))))))
type_quiet false (Some r) =
    words _ (ended_more (Marked mark_open_bracket) _ (ended_join (spell r.left) _ (ended_more (Marked mark_colon) _ (ended_join (spell r.right) _ (ended (Marked mark_close_bracket) refl)))))

connections_ended : (c : Connections) → Ended (spell_connections c)
unfolding spell_connections
connections_ended (Positions ts) = ended_more (Marked mark_open_parenthesis) _ (ended_join (spell_parts ts) _ (ended (Marked mark_close_parenthesis) refl))
connections_ended (Names cs) = ended_more (Marked mark_open_parenthesis) _ (ended_join (spell_separated spell_connection cs) _ (ended (Marked mark_close_parenthesis) refl))

overrides_quiet : (o : Option Connections) → Quiet (kept (spell_overrides o))
unfolding spell_overrides
overrides_quiet None = none
overrides_quiet (Some c) = words _ (ended_more (Marked mark_hash) (spell_connections c) (connections_ended c))

parameters_quiet : (params : List ParameterDeclaration) → Quiet (kept (spell_parameters params))
unfolding spell_parameters
parameters_quiet [] = none
parameters_quiet (p ∷ params) =
    words _ (ended_more (Marked mark_hash) _ (ended_more (Marked mark_open_parenthesis) _ (ended_join (spell_separated spell_parameter (p ∷ params)) _ (ended (Marked mark_close_parenthesis) refl))))

ports_quiet : (header : Option (List Identifier)) (groups : List PortDeclaration) → Quiet (kept (spell_ports header groups))
unfolding spell_ports
ports_quiet None groups = none
ports_quiet (Some names) groups =
    words _ (ended_more (Marked mark_open_parenthesis) _ (ended_join (spell_separated spell_identifier names) _ (ended_join (spell_separated spell_port groups) _ (ended (Marked mark_close_parenthesis) refl))))

module _ (ss : List Site) (ps : List Pick) where
  body_quiet : (token : ℕ) (t : Statement) → WellFormedStatement t → Quiet (body_pieces ss ps token t)
  body_quiet token t h = all_overwritten_quiet token ss ps (statement_pieces ss ps t) (statement_quiet ss ps t h)

  body_opening : (token : ℕ) (t : Statement) → WellFormedStatement t → Opening (body_pieces ss ps token t)
  body_opening token t h = opening (body_pieces ss ps token t) (spell_statement t) (body_makes Free ss (free ss) ps token t).source (statement_opens t h)

  value_quiet : (v : Option Tree) → WellFormedValue v → Quiet (value_pieces ss ps v)
  unfolding value_pieces WellFormedValue
  value_quiet None h = none
  value_quiet (Some t) h = keep (Marked mark_equals) _ refl (tree_quiet ss ps t h)

  optional_quiet : (v : Option Tree) → WellFormedValue v → Quiet (optional_pieces ss ps v)
  unfolding optional_pieces WellFormedValue
  optional_quiet None h = none
  optional_quiet (Some t) h = tree_quiet ss ps t h

  net_quiet : (n : DeclaredName) → WellFormedDeclarator n → Quiet (net_pieces ss ps n)
  unfolding net_pieces WellFormedDeclarator
  net_quiet n h = keep (Named n.text) _ refl (join (kept (spell_range n.words)) _ (range_quiet n.words) (value_quiet n.value h.1))

  pair_quiet : (p : NetAssignment) → WellFormedPair p → Quiet (pair_pieces ss ps p)
  unfolding pair_pieces WellFormedPair
  pair_quiet p h = join (kept (spell p.target)) _ (words (spell p.target) (tree_ended p.target)) (keep (Marked mark_equals) _ refl (tree_quiet ss ps p.value h.2))

  connection_quiet : (c : NamedConnection) → WellFormedConnection c → Quiet (connection_pieces ss ps c)
  unfolding connection_pieces WellFormedConnection
  connection_quiet c h =
      keep (Marked mark_dot) _ refl
      (keep (Named c.text) _ refl (keep (Marked mark_open_parenthesis) _ refl (join (optional_pieces ss ps c.value) _ (optional_quiet c.value h) (keep (Marked mark_close_parenthesis) [] refl none))))

  connections_quiet : (c : Connections) → WellFormedConnections c → Quiet (connections_pieces ss ps c)
  unfolding connections_pieces WellFormedConnections
  connections_quiet (Positions ts) h = keep (Marked mark_open_parenthesis) _ refl (join (part_pieces ss ps ts) _ (parts_quiet ss ps ts h) (keep (Marked mark_close_parenthesis) [] refl none))
  connections_quiet (Names cs) h =
      keep (Marked mark_open_parenthesis) _ refl
      (join (separated_pieces (connection_pieces ss ps) cs) _ (separated_quiet (connection_pieces ss ps) WellFormedConnection connection_quiet cs h.1) (keep (Marked mark_close_parenthesis) [] refl none))

  child_quiet : (i : ModuleInstance) → WellFormedInstance i → Quiet (child_pieces ss ps i)
  unfolding child_pieces WellFormedInstance
  child_quiet i h = keep (Named i.text) _ refl (connections_quiet i.connections h)

  item_quiet : (i : ModuleItem) → WellFormedItem i → Quiet (item_pieces ss ps i)
  unfolding item_pieces spell_item WellFormedItem
  item_quiet (Ports p) h = words _ (ended_join (spell_port p) _ (ended (Marked mark_semicolon) refl))
  item_quiet (Nets signed range names) h =
      keep (Reserved keyword_wire) _ refl
      (join (kept (spell_type signed range)) _ (type_quiet signed range)
      (join (separated_pieces (net_pieces ss ps) names) _ (separated_quiet (net_pieces ss ps) WellFormedDeclarator net_quiet names h.2) (keep (Marked mark_semicolon) [] refl none)))
  item_quiet (Variables signed range names) h =
      words _ (ended_more (Reserved keyword_reg) _ (ended_join (spell_type signed range) _ (ended_join (spell_separated spell_declarator names) _ (ended (Marked mark_semicolon) refl))))
  item_quiet (Integers names) h = words _ (ended_more (Reserved keyword_integer) _ (ended_join (spell_separated spell_identifier names) _ (ended (Marked mark_semicolon) refl)))
  item_quiet (Parameters p) h = words _ (ended_join (spell_parameter p) _ (ended (Marked mark_semicolon) refl))
  item_quiet (Assigns pairs) h =
      keep (Reserved keyword_assign) _ refl
      (join (separated_pieces (pair_pieces ss ps) pairs) _ (separated_quiet (pair_pieces ss ps) WellFormedPair pair_quiet pairs h.1) (keep (Marked mark_semicolon) [] refl none))
  item_quiet (Always events body token) h =
      keep (Reserved keyword_always) _ refl
      (keep (Marked mark_at) _ refl
      (kept_before (spell_events events) (body_pieces ss ps (first_token body) body) (body_opening (first_token body) body h.1) (body_quiet (first_token body) body h.1)))
  item_quiet (Initial s token) h = words _ (ended_more (Reserved keyword_initial) (spell_statement s) (statement_ended s))
  item_quiet (Instances m token overrides list) h =
      keep (Named m) _ refl
      (join (kept (spell_overrides overrides)) _ (overrides_quiet overrides)
      (join (separated_pieces (child_pieces ss ps) list) _ (separated_quiet (child_pieces ss ps) WellFormedInstance child_quiet list h.2) (keep (Marked mark_semicolon) [] refl none)))

  module_quiet : (m : ModuleDeclaration) → WellFormedModule m → Quiet (module_pieces ss ps m)
  unfolding module_pieces WellFormedModule
  module_quiet m h =
      keep (Reserved keyword_module) _ refl
      (keep (Named m.text) _ refl
      (join (kept (spell_parameters m.params)) _ (parameters_quiet m.params)
      (join (kept (spell_ports m.header m.groups)) _ (ports_quiet m.header m.groups)
      (keep (Marked mark_semicolon) _ refl
      (join (all_pieces (item_pieces ss ps) m.items) _ (all_quiet (item_pieces ss ps) WellFormedItem item_quiet m.items h.3) (keep (Reserved keyword_endmodule) [] refl none))))))

  pub source_quiet : (s : SourceText) → WellFormedSource s → Quiet (source_pieces ss ps s)
  unfolding source_pieces WellFormedSource
  source_quiet s h = all_quiet (module_pieces ss ps) WellFormedModule module_quiet s.modules h
