-- The pieces of statements, items, modules and sources.
use Rattle.std.proofs.Common.{◌≡◌, ℕ, ◌%◌, ◌^◌, ◌==◌, ◌&&◌, Bool, true, false, cond, if◌then◌else◌, List, [], ◌∷◌, ◌++◌, map, Option, Some, None, refl, sym, ap, arith}
use Rattle.std.proofs.lemmas.List.{append_assoc}
use Rattle.rr_syntax.specs.Words.{Word, Named, Reserved, Marked, keyword_always, keyword_assign, keyword_begin, keyword_else, keyword_end, keyword_endcase, keyword_endmodule, keyword_for, keyword_if, keyword_module, keyword_wire, mark_open_parenthesis, mark_close_parenthesis, mark_comma, mark_semicolon, mark_colon, mark_dot, mark_at, mark_equals, mark_not, mark_less_or_equal}
use Rattle.rr_syntax.specs.Tree.{Tree, Trees, Literal, End, More, Statement, Statements, Arm, Arms, Null, Block, If, IfElse, Case, Assign, For, Done, Then, CaseItem, NoArms, MoreArms, DeclaredName, NetAssignment, NamedConnection, Connections, Positions, Names, ModuleInstance, ModuleItem, Ports, Nets, Variables, Integers, Parameters, Assigns, Always, Initial, Instances, ModuleDeclaration, SourceText}
use Rattle.rr_syntax.specs.Expressions.{spell}
use Rattle.rr_syntax.specs.Statements.{spell_label, spell_labels, spell_loop, spell_statement, spell_statements, spell_arm, spell_arms}
use Rattle.rr_syntax.specs.Items.{spell_each, spell_separated, spell_all, spell_range, spell_type, spell_events, spell_overrides, spell_value, spell_declarator, spell_pair, spell_optional, spell_connection, spell_connections, spell_instance, spell_item, spell_parameters, spell_ports, spell_module, spell_source}
use Rattle.rr_lex.specs.Patch as lex
use Rattle.rr_lex.specs.Patch.{New, new_keyword, new_mark, new_name, new_words}
use Rattle.rr_choice.specs.declared.pick.Pick.{Pick}
use Rattle.rr_choice.specs.Sites as sites
use Rattle.rr_choice.specs.Sites.{SiteKind, Site, guard_names}
use Rattle.rr_instance.specs.Firsts.{first_token}
use Rattle.rr_choice.specs.Choices.{picked_form, picked_name}
use Rattle.rr_choice.specs.Places.{is_overwrite_at}
use Rattle.rr_instance.specs.Instances.{fresh, unsigned_number, named, negated, gate, followed, overwritten, new_body, all_overwritten, instance_tree, instance_parts, instance_statement, instance_statements, instance_arm, instance_arms, instance_body, instance_value, instance_net, instance_pair, instance_connection, instance_connections, instance_child, instance_item, instance_module, instance_source}
use Rattle.rr_instance_laws.proofs.Rounds.{picked_is_one}
use Rattle.rr_respell.specs.Pieces.{Piece, Put, puts}
use Rattle.rr_respell.specs.Printing.{negated_name, label_pieces, statement_pieces, statements_pieces, arm_pieces, arms_pieces, gate_words, last_assignment, overwritten_pieces, new_body_pieces, all_overwritten_pieces, body_pieces, each_pieces, separated_pieces, all_pieces, value_pieces, net_pieces, pair_pieces, optional_pieces, connection_pieces, connections_pieces, child_pieces, item_pieces, module_pieces, source_pieces}
use Rattle.rr_respell.specs.Laws.{SpellsBoth}
use Rattle.rr_respell.proofs.Makes.{AllowsKind, AllowsSites, Allows, Makes, none, join, keep, put, words, after, printing}
use Rattle.rr_respell.proofs.TreeMakes.{tree_makes, parts_make, condition_makes}

-- lists whose entries' pieces make the words of entries
module _ {A : Type 0} (P : New → Type 0) (f : A → List Piece) (g : A → A) (s : A → List Word) (h : (x : A) → Makes P (f x) (s x) (s (g x))) where
  pub each_make : (xs : List A) → Makes P (each_pieces f xs) (spell_each s xs) (spell_each s (map g xs))
  unfolding each_pieces spell_each
  each_make [] = none P
  each_make (x ∷ xs) = keep (Marked mark_comma) (join (h x) (each_make xs))

  pub separated_make : (xs : List A) → Makes P (separated_pieces f xs) (spell_separated s xs) (spell_separated s (map g xs))
  unfolding separated_pieces spell_separated
  separated_make [] = none P
  separated_make (x ∷ xs) = join (h x) (each_make xs)

  pub all_make : (xs : List A) → Makes P (all_pieces f xs) (spell_all s xs) (spell_all s (map g xs))
  unfolding all_pieces spell_all
  all_make [] = none P
  all_make (x ∷ xs) = join (h x) (all_make xs)

module _ (P : New → Type 0) (ss : List Site) (k : Allows P ss) where
  module _ (ps : List Pick) where
    pub labels_make : (labels : Trees) (colon : Bool) → Makes P (label_pieces ss ps labels colon) (spell_labels labels colon) (spell_labels (instance_parts ss ps labels) colon)
    unfolding label_pieces spell_labels instance_tree
    labels_make End colon = words P (spell_labels End colon)
    labels_make (More t ts) colon = join (parts_make P ss k ps (More t ts)) (keep (Marked mark_colon) (none P))

    mutual
      unfolding spell_statement statement_pieces instance_statement

      pub statement_makes : (t : Statement) → Makes P (statement_pieces ss ps t) (spell_statement t) (spell_statement (instance_statement ss ps t))
      statement_makes Null = keep (Marked mark_semicolon) (none P)
      statement_makes (Block label ts) = keep (Reserved keyword_begin) (join (words P (spell_label label)) (join (statements_make ts) (keep (Reserved keyword_end) (none P))))
      statement_makes (If c t) =
          keep (Reserved keyword_if) (keep (Marked mark_open_parenthesis) (join (condition_makes P ss k ps c) (keep (Marked mark_close_parenthesis) (statement_makes t))))
      statement_makes (IfElse c t u) =
          keep (Reserved keyword_if)
          (keep (Marked mark_open_parenthesis)
          (join (condition_makes P ss k ps c) (keep (Marked mark_close_parenthesis) (join (statement_makes t) (keep (Reserved keyword_else) (statement_makes u))))))
      statement_makes (Case kind on arms) =
          keep (Reserved kind)
          (keep (Marked mark_open_parenthesis)
          (join (tree_makes P ss k ps on) (keep (Marked mark_close_parenthesis) (join (arms_make arms) (keep (Reserved keyword_endcase) (none P))))))
      statement_makes (Assign t now e) =
          join (words P (spell t)) (keep (Marked (cond now mark_equals mark_less_or_equal)) (join (tree_makes P ss k ps e) (keep (Marked mark_semicolon) (none P))))
      statement_makes (For h t) = keep (Reserved keyword_for) (join (words P (spell_loop h)) (statement_makes t))

      pub statements_make : (ts : Statements) → Makes P (statements_pieces ss ps ts) (spell_statements ts) (spell_statements (instance_statements ss ps ts))
      statements_make Done = none P
      statements_make (Then t ts) = join (statement_makes t) (statements_make ts)

      arm_makes : (a : Arm) → Makes P (arm_pieces ss ps a) (spell_arm a) (spell_arm (instance_arm ss ps a))
      arm_makes (CaseItem labels colon t) = join (labels_make labels colon) (statement_makes t)

      pub arms_make : (arms : Arms) → Makes P (arms_pieces ss ps arms) (spell_arms arms) (spell_arms (instance_arms ss ps arms))
      arms_make NoArms = none P
      arms_make (MoreArms a rest) = join (arm_makes a) (arms_make rest)

  -- `begin S if (g) v <= C; end`, for each form of g
  followed_makes : (form : ℕ) (name target : List ℕ) (now : Bool) (width value : ℕ) (xs : List Piece) (a : List Word) (body : Statement) →
      ((form == 0) ≡ false → P (new_name name)) → P (new_name target) → P (lex.new_literal width false (value % 2 ^ width)) → Makes P xs a (spell_statement body) →
      Makes P (Put (new_keyword keyword_begin) ∷ (xs ++ puts (last_assignment (gate_words form name) target now (lex.new_literal width false (value % 2 ^ width))))) a
      (spell_statement (followed (gate form name) target now (unsigned_number width value) body))
  unfolding spell_statement spell_label spell
  followed_makes form name target now width value xs a body n t v x = by_form (form == 0) (form == 1) n
    where
      last : Tree → Statement
      last g = If g (Assign (named target) now (Literal fresh (unsigned_number width value)))

      now_mark : (b : Bool) → P (new_mark (cond b mark_equals mark_less_or_equal))
      now_mark true = k.marks mark_equals (omega arith)
      now_mark false = k.marks mark_less_or_equal (omega arith)

      closed : (g : Tree) (ys : List Piece) → Makes P ys a (Reserved keyword_begin ∷ (spell_statement body ++ ((spell_statement (last g) ++ []) ++ (Reserved keyword_end ∷ [])))) →
          Makes P ys a (spell_statement (followed g target now (unsigned_number width value) body))
      closed g ys y = printing (ap (λ (l : List Word). Reserved keyword_begin ∷ l) (sym (append_assoc (spell_statement body) (spell_statement (last g) ++ []) (Reserved keyword_end ∷ [])))) y

      end_allowed : P (new_mark mark_close_parenthesis) × (P (new_name target) × (P (new_mark (cond now mark_equals mark_less_or_equal)) × (P (lex.new_literal width false (value % 2 ^ width)) × (P (new_mark mark_semicolon) × (P (new_keyword keyword_end) × Unit {0})))))
      end_allowed = (k.marks 1 (omega arith), (t, (now_mark now, (v, (k.marks mark_semicolon (omega arith), (k.keywords keyword_end (omega arith), tt))))))

      by_form : (c0 c1 : Bool) → (c0 ≡ false → P (new_name name)) →
          Makes P
          (Put (new_keyword keyword_begin) ∷ (xs ++ puts (last_assignment (if c0 then lex.new_literal 1 false 1 ∷ [] else if c1 then new_name name ∷ [] else negated_name name) target now (lex.new_literal width false (value % 2 ^ width)))))
          a
          (spell_statement (followed (if c0 then Literal fresh (unsigned_number 1 1) else if c1 then named name else negated (named name)) target now (unsigned_number width value) body))
      by_form true c1 h =
          closed (Literal fresh (unsigned_number 1 1)) _
          (put (new_keyword keyword_begin) (k.keywords keyword_begin (omega arith))
          (after (last_assignment (lex.new_literal 1 false 1 ∷ []) target now (lex.new_literal width false (value % 2 ^ width)))
          (k.keywords keyword_if (omega arith), (k.marks 0 (omega arith), (k.literals 1 false 1 (omega arith) (omega arith) (omega arith), end_allowed))) x))
      by_form false true h =
          closed (named name) _
          (put (new_keyword keyword_begin) (k.keywords keyword_begin (omega arith))
          (after (last_assignment (new_name name ∷ []) target now (lex.new_literal width false (value % 2 ^ width)))
          (k.keywords keyword_if (omega arith), (k.marks 0 (omega arith), (h refl, end_allowed))) x))
      by_form false false h =
          closed (negated (named name)) _
          (put (new_keyword keyword_begin) (k.keywords keyword_begin (omega arith))
          (after (last_assignment (negated_name name) target now (lex.new_literal width false (value % 2 ^ width)))
          (k.keywords keyword_if (omega arith), (k.marks 0 (omega arith), (k.marks mark_not (omega arith), (h refl, end_allowed)))) x))

  overwritten_makes : (kind : SiteKind) (p : Pick) (xs : List Piece) (a : List Word) (body : Statement) → AllowsKind P kind → Makes P xs a (spell_statement body) →
      Makes P (overwritten_pieces kind p xs) a (spell_statement (overwritten kind p body))
  overwritten_makes (sites.Literal width signed) p xs a body h x = x
  overwritten_makes (sites.Guard owner extent names) p xs a body h x = x
  overwritten_makes (sites.Overwrite owner target width now names) p xs a body h x =
      followed_makes (picked_form names p.form) (picked_name names p.name) target now width p.value xs a body
      (λ e. h.0 (picked_name names p.name) (picked_is_one names p.form p.name e)) h.1 (h.2 p.value) x

  body_makes_more : (token : ℕ) (s : Site) (p : Pick) (xs : List Piece) (a : List Word) (body : Statement) → AllowsKind P s.kind → Makes P xs a (spell_statement body) →
      Makes P (new_body_pieces token s p xs) a (spell_statement (new_body token s p body))
  body_makes_more token s p xs a body h x = by_test (is_overwrite_at token s && p.on)
    where
      by_test : (c : Bool) → Makes P (if c then overwritten_pieces s.kind p xs else xs) a (spell_statement (if c then overwritten s.kind p body else body))
      by_test true = overwritten_makes s.kind p xs a body h x
      by_test false = x

  all_overwritten_make : (token : ℕ) (sites : List Site) (ps : List Pick) (xs : List Piece) (a : List Word) (body : Statement) → AllowsSites P sites → Makes P xs a (spell_statement body) →
      Makes P (all_overwritten_pieces token sites ps xs) a (spell_statement (all_overwritten token sites ps body))
  unfolding all_overwritten_pieces all_overwritten AllowsSites
  all_overwritten_make token [] ps xs a body h x = x
  all_overwritten_make token (s ∷ sites) [] xs a body h x = x
  all_overwritten_make token (s ∷ sites) (p ∷ ps) xs a body h x =
      all_overwritten_make token sites ps (new_body_pieces token s p xs) a (new_body token s p body) h.1 (body_makes_more token s p xs a body h.0 x)

  module _ (ps : List Pick) where
    pub body_makes : (token : ℕ) (t : Statement) → Makes P (body_pieces ss ps token t) (spell_statement t) (spell_statement (instance_body ss ps token t))
    body_makes token t = all_overwritten_make token ss ps (statement_pieces ss ps t) (spell_statement t) (instance_statement ss ps t) k.sites (statement_makes ps t)

    value_makes : (v : Option Tree) → Makes P (value_pieces ss ps v) (spell_value v) (spell_value (instance_value ss ps v))
    unfolding value_pieces spell_value instance_value
    value_makes None = none P
    value_makes (Some t) = keep (Marked mark_equals) (tree_makes P ss k ps t)

    optional_makes : (v : Option Tree) → Makes P (optional_pieces ss ps v) (spell_optional v) (spell_optional (instance_value ss ps v))
    unfolding optional_pieces spell_optional instance_value
    optional_makes None = none P
    optional_makes (Some t) = tree_makes P ss k ps t

    pub net_makes : (n : DeclaredName) → Makes P (net_pieces ss ps n) (spell_declarator n) (spell_declarator (instance_net ss ps n))
    unfolding net_pieces spell_declarator instance_net
    net_makes n = keep (Named n.text) (join (words P (spell_range n.words)) (value_makes n.value))

    pub pair_makes : (p : NetAssignment) → Makes P (pair_pieces ss ps p) (spell_pair p) (spell_pair (instance_pair ss ps p))
    unfolding pair_pieces spell_pair instance_pair
    pair_makes p = join (words P (spell p.target)) (keep (Marked mark_equals) (tree_makes P ss k ps p.value))

    pub connection_makes : (c : NamedConnection) → Makes P (connection_pieces ss ps c) (spell_connection c) (spell_connection (instance_connection ss ps c))
    unfolding connection_pieces spell_connection instance_connection
    connection_makes c =
        keep (Marked mark_dot) (keep (Named c.text) (keep (Marked mark_open_parenthesis) (join (optional_makes c.value) (keep (Marked mark_close_parenthesis) (none P)))))

    connections_make : (c : Connections) → Makes P (connections_pieces ss ps c) (spell_connections c) (spell_connections (instance_connections ss ps c))
    unfolding connections_pieces spell_connections instance_connections
    connections_make (Positions ts) = keep (Marked mark_open_parenthesis) (join (parts_make P ss k ps ts) (keep (Marked mark_close_parenthesis) (none P)))
    connections_make (Names cs) =
        keep (Marked mark_open_parenthesis)
        (join (separated_make P (connection_pieces ss ps) (instance_connection ss ps) spell_connection connection_makes cs) (keep (Marked mark_close_parenthesis) (none P)))

    pub child_makes : (i : ModuleInstance) → Makes P (child_pieces ss ps i) (spell_instance i) (spell_instance (instance_child ss ps i))
    unfolding child_pieces spell_instance instance_child
    child_makes i = keep (Named i.text) (connections_make i.connections)

    pub item_makes : (i : ModuleItem) → Makes P (item_pieces ss ps i) (spell_item i) (spell_item (instance_item ss ps i))
    unfolding item_pieces spell_item instance_item
    item_makes (Ports p) = words P (spell_item (Ports p))
    item_makes (Nets signed range names) =
        keep (Reserved keyword_wire)
        (join (words P (spell_type signed range)) (join (separated_make P (net_pieces ss ps) (instance_net ss ps) spell_declarator net_makes names) (keep (Marked mark_semicolon) (none P))))
    item_makes (Variables signed range names) = words P (spell_item (Variables signed range names))
    item_makes (Integers names) = words P (spell_item (Integers names))
    item_makes (Parameters p) = words P (spell_item (Parameters p))
    item_makes (Assigns pairs) =
        keep (Reserved keyword_assign) (join (separated_make P (pair_pieces ss ps) (instance_pair ss ps) spell_pair pair_makes pairs) (keep (Marked mark_semicolon) (none P)))
    item_makes (Always events body token) =
        keep (Reserved keyword_always) (keep (Marked mark_at) (join (words P (spell_events events)) (body_makes (first_token body) body)))
    item_makes (Initial s token) = words P (spell_item (Initial s token))
    item_makes (Instances m token overrides list) =
        keep (Named m)
        (join (words P (spell_overrides overrides)) (join (separated_make P (child_pieces ss ps) (instance_child ss ps) spell_instance child_makes list) (keep (Marked mark_semicolon) (none P))))

    pub module_makes : (m : ModuleDeclaration) → Makes P (module_pieces ss ps m) (spell_module m) (spell_module (instance_module ss ps m))
    unfolding module_pieces spell_module instance_module
    module_makes m =
        keep (Reserved keyword_module)
        (keep (Named m.text)
        (join (words P (spell_parameters m.params))
        (join (words P (spell_ports m.header m.groups))
        (keep (Marked mark_semicolon)
        (join (all_make P (item_pieces ss ps) (instance_item ss ps) spell_item item_makes m.items) (keep (Reserved keyword_endmodule) (none P)))))))

    pub source_makes : (s : SourceText) → Makes P (source_pieces ss ps s) (spell_source s) (spell_source (instance_source ss ps s))
    unfolding source_pieces spell_source instance_source
    source_makes s = all_make P (module_pieces ss ps) (instance_module ss ps) spell_module module_makes s.modules

-- where nothing is asked of new tokens, all sites may bring any
abbrev pub Free : New → Type 0
Free n = Unit {0}

free_kind : (k : SiteKind) → AllowsKind Free k
free_kind (sites.Literal width signed) = tt
free_kind (sites.Guard owner extent names) = λ name c. tt
free_kind (sites.Overwrite owner target width now names) = (λ name c. tt, tt, λ v. tt)

free_sites : (ss : List Site) → AllowsSites Free ss
unfolding AllowsSites
free_sites [] = tt
free_sites (s ∷ ss) = (free_kind s.kind, free_sites ss)

pub free : (ss : List Site) → Allows Free ss
free ss = record { marks = λ m h. tt; keywords = λ k h. tt; literals = λ w signed v h l m. tt; sites = free_sites ss }

pub spells : SpellsBoth
spells = record {
  source = λ ss ps s. (source_makes Free ss (free ss) ps s).source;
  instance = λ ss ps s. (source_makes Free ss (free ss) ps s).printed;
}
