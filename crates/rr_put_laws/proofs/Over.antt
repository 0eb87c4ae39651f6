-- What a choice puts in the place of a token of a source is a literal.
use Rattle.std.proofs.Common.{ℕ, ◌%◌, ◌^◌, ◌==◌, ◌&&◌, Bool, true, false, cond, if◌then◌else◌, List, [], ◌∷◌, ◌++◌, get_or, codes, Option, Some, None}
use Rattle.rr_syntax.specs.declared.token.Number.{Number}
use Rattle.rr_syntax.specs.Words.{Word, Named, System, Digits, Reserved, Marked, keyword_always, keyword_assign, keyword_begin, keyword_else, keyword_end, keyword_endcase, keyword_endmodule, keyword_for, keyword_if, keyword_module, keyword_wire, mark_open_parenthesis, mark_close_parenthesis, mark_open_brace, mark_close_brace, mark_comma, mark_semicolon, mark_colon, mark_dot, mark_at, mark_question, mark_equals, mark_not, mark_less_or_equal, mark_logical_and, mark_logical_or}
use Rattle.rr_syntax.specs.Tree.{Tree, Trees, Name, Literal, Bit, Part, Indexed, Unary, Binary, Cond, Concat, Repeat, Cast, Paren, End, More, Statement, Statements, Arm, Arms, Null, Block, If, IfElse, Case, Assign, For, Done, Then, CaseItem, NoArms, MoreArms, DeclaredName, NetAssignment, NamedConnection, Connections, Positions, Names, ModuleInstance, ModuleItem, Ports, Nets, Variables, Integers, Parameters, Assigns, Always, Initial, Instances, ModuleDeclaration, SourceText}
use Rattle.rr_syntax.specs.Expressions.{spell}
use Rattle.rr_syntax.specs.Statements.{spell_label, spell_labels, spell_loop}
use Rattle.rr_syntax.specs.Items.{spell_range, spell_type, spell_events, spell_overrides, spell_item, spell_parameters, spell_ports}
use Rattle.rr_expr.specs.declared.operators.Infix.TheVariants.{Either}
use Rattle.rr_expr.specs.Faults.{takes_constants}
use Rattle.rr_expr.specs.Operators.{infixes}
use Rattle.rr_lex.specs.Patch as lex
use Rattle.rr_lex.specs.Patch.{New, new_keyword, new_mark, new_name}
use Rattle.rr_choice.specs.declared.pick.Pick.{Pick}
use Rattle.rr_choice.specs.Sites as sites
use Rattle.rr_choice.specs.Sites.{SiteKind, Site, guard_names}
use Rattle.rr_choice.specs.Choices.{picked_form, picked_name}
use Rattle.rr_choice.specs.Places.{find_pick, is_literal_at, is_overwrite_at}
use Rattle.rr_instance.specs.Firsts.{first_token}
use Rattle.rr_instance.specs.Instances.{is_guard_of}
use Rattle.rr_respell.specs.Pieces.{Piece, Kept, Replaced, Put, kept, puts}
use Rattle.rr_respell.specs.Printing.{literal_pieces, bracketed, negated_name, guarded_pieces, test_pieces, tree_pieces, part_pieces, more_pieces, condition_pieces, label_pieces, statement_pieces, statements_pieces, arm_pieces, arms_pieces, gate_words, last_assignment, overwritten_pieces, new_body_pieces, all_overwritten_pieces, body_pieces, each_pieces, separated_pieces, all_pieces, value_pieces, net_pieces, pair_pieces, optional_pieces, connection_pieces, connections_pieces, child_pieces, item_pieces, module_pieces, source_pieces}

-- P holds of each new token in the place of one of the source
unfoldable pub Over : (New → Type 0) → List Piece → Type 0
Over P [] = Unit {0}
Over P (Kept w ∷ xs) = Over P xs
Over P (Replaced w n ∷ xs) = P n × Over P xs
Over P (Put n ∷ xs) = Over P xs

none : (P : New → Type 0) → Over P []
unfolding Over
none P = tt

keep : (P : New → Type 0) (w : Word) (xs : List Piece) → Over P xs → Over P (Kept w ∷ xs)
unfolding Over
keep P w xs h = h

put : (P : New → Type 0) (n : New) (xs : List Piece) → Over P xs → Over P (Put n ∷ xs)
unfolding Over
put P n xs h = h

replace : (P : New → Type 0) (w : Word) (n : New) → P n → Over P (Replaced w n ∷ [])
unfolding Over
replace P w n h = (h, tt)

join : (P : New → Type 0) (xs ys : List Piece) → Over P xs → Over P ys → Over P (xs ++ ys)
unfolding Over
join P [] ys a b = b
join P (Kept w ∷ xs) ys a b = join P xs ys a b
join P (Replaced w n ∷ xs) ys a b = (a.0, join P xs ys a.1 b)
join P (Put n ∷ xs) ys a b = join P xs ys a b

words : (P : New → Type 0) (ws : List Word) → Over P (kept ws)
words P [] = none P
words P (w ∷ ws) = keep P w (kept ws) (words P ws)

news : (P : New → Type 0) (ns : List New) → Over P (puts ns)
news P [] = none P
news P (n ∷ ns) = put P n (puts ns) (news P ns)

-- lists
module _ {A : Type 0} (P : New → Type 0) (f : A → List Piece) (h : (x : A) → Over P (f x)) where
  each_over : (xs : List A) → Over P (each_pieces f xs)
  unfolding each_pieces
  each_over [] = none P
  each_over (x ∷ xs) = keep P (Marked mark_comma) _ (join P (f x) (each_pieces f xs) (h x) (each_over xs))

  separated_over : (xs : List A) → Over P (separated_pieces f xs)
  unfolding separated_pieces
  separated_over [] = none P
  separated_over (x ∷ xs) = join P (f x) (each_pieces f xs) (h x) (each_over xs)

  all_over : (xs : List A) → Over P (all_pieces f xs)
  unfolding all_pieces
  all_over [] = none P
  all_over (x ∷ xs) = join P (f x) (all_pieces f xs) (h x) (all_over xs)

module _ (P : New → Type 0) (literals : (w : ℕ) (signed : Bool) (v : ℕ) → P (lex.new_literal w signed v)) where
  after : (ns : List New) (xs : List Piece) → Over P xs → Over P (xs ++ puts ns)
  after ns xs h = join P xs (puts ns) h (news P ns)

  last : (w : Word) (xs : List Piece) → Over P xs → Over P (xs ++ (Kept w ∷ []))
  last w xs h = join P xs (Kept w ∷ []) h (keep P w [] (none P))

  literal_over : (found : Option (Site × Pick)) (n : Number) → Over P (literal_pieces found n)
  literal_over None n = keep P (Digits n) [] (none P)
  literal_over (Some (s, p)) n = by_switch p.on
    where
      by_switch : (on : Bool) → Over P (if on then Replaced (Digits n) (lex.new_literal n.width n.signed (p.value % 2 ^ n.width)) ∷ [] else Kept (Digits n) ∷ [])
      by_switch true = replace P (Digits n) (lex.new_literal n.width n.signed (p.value % 2 ^ n.width)) (literals n.width n.signed (p.value % 2 ^ n.width))
      by_switch false = keep P (Digits n) [] (none P)

  bracketed_over : (xs : List Piece) → Over P xs → Over P (bracketed xs)
  bracketed_over xs h = put P (new_mark mark_open_parenthesis) _ (after (new_mark mark_close_parenthesis ∷ []) xs h)

  guarded_over : (form : ℕ) (name : List ℕ) (xs : List Piece) → Over P xs → Over P (guarded_pieces form name xs)
  guarded_over form name xs h = by_form (form == 0) (form == 1) (form == 2) (form == 3)
    where
      by_form : (c0 c1 c2 c3 : Bool) →
          Over P
          (if c0 then Put (new_mark mark_not) ∷ bracketed xs
          else if c1 then bracketed xs ++ puts (new_mark mark_logical_and ∷ (new_name name ∷ []))
          else if c2 then bracketed xs ++ puts (new_mark mark_logical_and ∷ negated_name name)
          else if c3 then bracketed xs ++ puts (new_mark mark_logical_or ∷ (new_name name ∷ []))
          else bracketed xs ++ puts (new_mark mark_logical_or ∷ negated_name name))
      by_form true c1 c2 c3 = put P (new_mark mark_not) (bracketed xs) (bracketed_over xs h)
      by_form false true c2 c3 = after (new_mark mark_logical_and ∷ (new_name name ∷ [])) (bracketed xs) (bracketed_over xs h)
      by_form false false true c3 = after (new_mark mark_logical_and ∷ negated_name name) (bracketed xs) (bracketed_over xs h)
      by_form false false false true = after (new_mark mark_logical_or ∷ (new_name name ∷ [])) (bracketed xs) (bracketed_over xs h)
      by_form false false false false = after (new_mark mark_logical_or ∷ negated_name name) (bracketed xs) (bracketed_over xs h)

  test_over : (found : Option (Site × Pick)) (xs : List Piece) → Over P xs → Over P (test_pieces found xs)
  test_over None xs h = h
  test_over (Some (s, p)) xs h = by_switch p.on
    where
      by_switch : (on : Bool) → Over P (if on then guarded_pieces (picked_form (guard_names s.kind) p.form) (picked_name (guard_names s.kind) p.name) xs else xs)
      by_switch true = guarded_over (picked_form (guard_names s.kind) p.form) (picked_name (guard_names s.kind) p.name) xs h
      by_switch false = h

  overwritten_over : (kind : SiteKind) (p : Pick) (xs : List Piece) → Over P xs → Over P (overwritten_pieces kind p xs)
  overwritten_over (sites.Literal width signed) p xs h = h
  overwritten_over (sites.Guard owner extent names) p xs h = h
  overwritten_over (sites.Overwrite owner target width now names) p xs h =
      put P (new_keyword keyword_begin) _ (after (last_assignment (gate_words (picked_form names p.form) (picked_name names p.name)) target now (lex.new_literal width false (p.value % 2 ^ width))) xs h)

  new_body_over : (token : ℕ) (s : Site) (p : Pick) (xs : List Piece) → Over P xs → Over P (new_body_pieces token s p xs)
  new_body_over token s p xs h = by_test (is_overwrite_at token s && p.on)
    where
      by_test : (c : Bool) → Over P (if c then overwritten_pieces s.kind p xs else xs)
      by_test true = overwritten_over s.kind p xs h
      by_test false = h

  all_overwritten_over : (token : ℕ) (ss : List Site) (ps : List Pick) (xs : List Piece) → Over P xs → Over P (all_overwritten_pieces token ss ps xs)
  unfolding all_overwritten_pieces
  all_overwritten_over token [] ps xs h = h
  all_overwritten_over token (s ∷ ss) [] xs h = h
  all_overwritten_over token (s ∷ ss) (p ∷ ps) xs h = all_overwritten_over token ss ps (new_body_pieces token s p xs) (new_body_over token s p xs h)

  module _ (ss : List Site) (ps : List Pick) where
    mutual
      unfolding tree_pieces

      tree_over : (t : Tree) → Over P (tree_pieces ss ps t)
      tree_over (Name token x) = keep P (Named x) [] (none P)
      tree_over (Literal token n) = literal_over (find_pick (is_literal_at token) ss ps) n
      tree_over (Bit token x i) = words P (spell (Bit token x i))
      tree_over (Part token x l r) = words P (spell (Part token x l r))
      tree_over (Indexed token x f n up) = words P (spell (Indexed token x f n up))
      tree_over (Unary op t) = keep P (Marked op) (tree_pieces ss ps t) (tree_over t)
      tree_over (Binary op l r) = by_kind (takes_constants (get_or infixes op Either)) (tree_over l) (tree_over r)
        where
          by_kind : (c : Bool) → Over P (tree_pieces ss ps l) → Over P (tree_pieces ss ps r) → Over P (if c then kept (spell (Binary op l r)) else tree_pieces ss ps l ++ (Kept (Marked op) ∷ tree_pieces ss ps r))
          by_kind true x y = words P (spell (Binary op l r))
          by_kind false x y = join P (tree_pieces ss ps l) _ x (keep P (Marked op) (tree_pieces ss ps r) y)
      tree_over (Cond a b c) =
          join P (test_pieces (find_pick (is_guard_of a) ss ps) (tree_pieces ss ps a)) _ (test_over (find_pick (is_guard_of a) ss ps) (tree_pieces ss ps a) (tree_over a))
          (keep P (Marked mark_question) _ (join P (tree_pieces ss ps b) _ (tree_over b) (keep P (Marked mark_colon) (tree_pieces ss ps c) (tree_over c))))
      tree_over (Concat ts) = keep P (Marked mark_open_brace) _ (last (Marked mark_close_brace) (part_pieces ss ps ts) (parts_over ts))
      tree_over (Repeat n ts) =
          keep P (Marked mark_open_brace) _
          (join P (kept (spell n)) _ (words P (spell n))
          (keep P (Marked mark_open_brace) _
          (join P (part_pieces ss ps ts) _ (parts_over ts) (keep P (Marked mark_close_brace) _ (keep P (Marked mark_close_brace) [] (none P))))))
      tree_over (Cast signed t) =
          keep P (System (cond signed (codes "signed") (codes "unsigned"))) _ (keep P (Marked mark_open_parenthesis) _ (last (Marked mark_close_parenthesis) (tree_pieces ss ps t) (tree_over t)))
      tree_over (Paren t) = keep P (Marked mark_open_parenthesis) _ (last (Marked mark_close_parenthesis) (tree_pieces ss ps t) (tree_over t))

      parts_over : (ts : Trees) → Over P (part_pieces ss ps ts)
      parts_over End = none P
      parts_over (More t ts) = join P (tree_pieces ss ps t) (more_pieces ss ps ts) (tree_over t) (more_over ts)

      more_over : (ts : Trees) → Over P (more_pieces ss ps ts)
      more_over End = none P
      more_over (More t ts) = keep P (Marked mark_comma) _ (join P (tree_pieces ss ps t) (more_pieces ss ps ts) (tree_over t) (more_over ts))

    condition_over : (t : Tree) → Over P (condition_pieces ss ps t)
    condition_over t = test_over (find_pick (is_guard_of t) ss ps) (tree_pieces ss ps t) (tree_over t)

    labels_over : (labels : Trees) (colon : Bool) → Over P (label_pieces ss ps labels colon)
    unfolding label_pieces
    labels_over End colon = words P (spell_labels End colon)
    labels_over (More t ts) colon = last (Marked mark_colon) (part_pieces ss ps (More t ts)) (parts_over (More t ts))

    mutual
      unfolding statement_pieces

      statement_over : (t : Statement) → Over P (statement_pieces ss ps t)
      statement_over Null = keep P (Marked mark_semicolon) [] (none P)
      statement_over (Block label ts) =
          keep P (Reserved keyword_begin) _ (join P (kept (spell_label label)) _ (words P (spell_label label)) (last (Reserved keyword_end) (statements_pieces ss ps ts) (statements_over ts)))
      statement_over (If c t) =
          keep P (Reserved keyword_if) _
          (keep P (Marked mark_open_parenthesis) _ (join P (condition_pieces ss ps c) _ (condition_over c) (keep P (Marked mark_close_parenthesis) (statement_pieces ss ps t) (statement_over t))))
      statement_over (IfElse c t u) =
          keep P (Reserved keyword_if) _
          (keep P (Marked mark_open_parenthesis) _
          (join P (condition_pieces ss ps c) _ (condition_over c)
          (keep P (Marked mark_close_parenthesis) _ (join P (statement_pieces ss ps t) _ (statement_over t) (keep P (Reserved keyword_else) (statement_pieces ss ps u) (statement_over u))))))
      statement_over (Case kind on arms) =
          keep P (Reserved kind) _
          (keep P (Marked mark_open_parenthesis) _
          (join P (tree_pieces ss ps on) _ (tree_over on) (keep P (Marked mark_close_parenthesis) _ (last (Reserved keyword_endcase) (arms_pieces ss ps arms) (arms_over arms)))))
      statement_over (Assign t now e) =
          join P (kept (spell t)) _ (words P (spell t))
          (keep P (Marked (cond now mark_equals mark_less_or_equal)) _ (last (Marked mark_semicolon) (tree_pieces ss ps e) (tree_over e)))
      statement_over (For h t) =
          keep P (Reserved keyword_for) _ (join P (kept (spell_loop h)) (statement_pieces ss ps t) (words P (spell_loop h)) (statement_over t))

      statements_over : (ts : Statements) → Over P (statements_pieces ss ps ts)
      statements_over Done = none P
      statements_over (Then t ts) = join P (statement_pieces ss ps t) (statements_pieces ss ps ts) (statement_over t) (statements_over ts)

      arm_over : (a : Arm) → Over P (arm_pieces ss ps a)
      arm_over (CaseItem labels colon t) = join P (label_pieces ss ps labels colon) (statement_pieces ss ps t) (labels_over labels colon) (statement_over t)

      arms_over : (arms : Arms) → Over P (arms_pieces ss ps arms)
      arms_over NoArms = none P
      arms_over (MoreArms a rest) = join P (arm_pieces ss ps a) (arms_pieces ss ps rest) (arm_over a) (arms_over rest)

    body_over : (token : ℕ) (t : Statement) → Over P (body_pieces ss ps token t)
    body_over token t = all_overwritten_over token ss ps (statement_pieces ss ps t) (statement_over t)

    value_over : (v : Option Tree) → Over P (value_pieces ss ps v)
    unfolding value_pieces
    value_over None = none P
    value_over (Some t) = keep P (Marked mark_equals) (tree_pieces ss ps t) (tree_over t)

    optional_over : (v : Option Tree) → Over P (optional_pieces ss ps v)
    unfolding optional_pieces
    optional_over None = none P
    optional_over (Some t) = tree_over t

    net_over : (n : DeclaredName) → Over P (net_pieces ss ps n)
    unfolding net_pieces
    net_over n = keep P (Named n.text) _ (join P (kept (spell_range n.words)) _ (words P (spell_range n.words)) (value_over n.value))

    pair_over : (p : NetAssignment) → Over P (pair_pieces ss ps p)
    unfolding pair_pieces
    pair_over p = join P (kept (spell p.target)) _ (words P (spell p.target)) (keep P (Marked mark_equals) (tree_pieces ss ps p.value) (tree_over p.value))

    connection_over : (c : NamedConnection) → Over P (connection_pieces ss ps c)
    unfolding connection_pieces
    connection_over c = keep P (Marked mark_dot) _ (keep P (Named c.text) _ (keep P (Marked mark_open_parenthesis) _ (last (Marked mark_close_parenthesis) (optional_pieces ss ps c.value) (optional_over c.value))))

    connections_over : (c : Connections) → Over P (connections_pieces ss ps c)
    unfolding connections_pieces
    connections_over (Positions ts) = keep P (Marked mark_open_parenthesis) _ (last (Marked mark_close_parenthesis) (part_pieces ss ps ts) (parts_over ts))
    connections_over (Names cs) =
        keep P (Marked mark_open_parenthesis) _ (last (Marked mark_close_parenthesis) (separated_pieces (connection_pieces ss ps) cs) (separated_over P (connection_pieces ss ps) connection_over cs))

    child_over : (i : ModuleInstance) → Over P (child_pieces ss ps i)
    unfolding child_pieces
    child_over i = keep P (Named i.text) (connections_pieces ss ps i.connections) (connections_over i.connections)

    item_over : (i : ModuleItem) → Over P (item_pieces ss ps i)
    unfolding item_pieces
    item_over (Ports p) = words P (spell_item (Ports p))
    item_over (Nets signed range names) =
        keep P (Reserved keyword_wire) _
        (join P (kept (spell_type signed range)) _ (words P (spell_type signed range)) (last (Marked mark_semicolon) (separated_pieces (net_pieces ss ps) names) (separated_over P (net_pieces ss ps) net_over names)))
    item_over (Variables signed range names) = words P (spell_item (Variables signed range names))
    item_over (Integers names) = words P (spell_item (Integers names))
    item_over (Parameters p) = words P (spell_item (Parameters p))
    item_over (Assigns pairs) = keep P (Reserved keyword_assign) _ (last (Marked mark_semicolon) (separated_pieces (pair_pieces ss ps) pairs) (separated_over P (pair_pieces ss ps) pair_over pairs))
    item_over (Always events body token) =
        keep P (Reserved keyword_always) _ (keep P (Marked mark_at) _ (join P (kept (spell_events events)) _ (words P (spell_events events)) (body_over (first_token body) body)))
    item_over (Initial s token) = words P (spell_item (Initial s token))
    item_over (Instances m token overrides list) =
        keep P (Named m) _
        (join P (kept (spell_overrides overrides)) _ (words P (spell_overrides overrides)) (last (Marked mark_semicolon) (separated_pieces (child_pieces ss ps) list) (separated_over P (child_pieces ss ps) child_over list)))

    module_over : (m : ModuleDeclaration) → Over P (module_pieces ss ps m)
    unfolding module_pieces
    module_over m =
        keep P (Reserved keyword_module) _
        (keep P (Named m.text) _
        (join P (kept (spell_parameters m.params)) _ (words P (spell_parameters m.params))
        (join P (kept (spell_ports m.header m.groups)) _ (words P (spell_ports m.header m.groups))
        (keep P (Marked mark_semicolon) _ (last (Reserved keyword_endmodule) (all_pieces (item_pieces ss ps) m.items) (all_over P (item_pieces ss ps) item_over m.items))))))

    pub source_over : (s : SourceText) → Over P (source_pieces ss ps s)
    unfolding source_pieces
    source_over s = all_over P (module_pieces ss ps) module_over s.modules
