-- The pieces of mended parts have the words of the parts, and their new tokens can be written.
use Rattle.std.proofs.Common.{◌≡◌, ℕ, ◌+◌, Bool, true, false, nat_eq, List, [], ◌∷◌, ◌++◌, length, if◌then◌else◌, refl, sym, ◌∙◌, ap, subst, arith, append-nil, ◌<◌, ◌^◌}
use Rattle.std.specs.List.{list_any}
use Rattle.std.proofs.lemmas.List.{append_assoc}
use Rattle.std.proofs.lemmas.Nat.{pow_pos}
use Rattle.rr_syntax.specs.Words.{Word, Named, Reserved, Marked, keyword_always, keyword_begin, keyword_else, keyword_end, keyword_endcase, keyword_endmodule, keyword_for, keyword_if, keyword_module, mark_open_parenthesis, mark_close_parenthesis, mark_at, mark_semicolon, mark_equals, mark_less_or_equal}
use Rattle.rr_syntax.specs.Tree.{Statement, Statements, Arm, Arms, Null, Block, If, IfElse, Case, Assign, For, Done, Then, CaseItem, NoArms, MoreArms, EventControl, Star, Edges, Levels, ModuleItem, Ports, Nets, Variables, Integers, Parameters, Assigns, Always, Initial, Instances, ModuleDeclaration, SourceText}
use Rattle.rr_syntax.specs.Expressions.{spell}
use Rattle.rr_syntax.specs.Statements.{spell_label, spell_labels, spell_loop, spell_statement, spell_statements, spell_arm, spell_arms}
use Rattle.rr_syntax.specs.Items.{spell_all, spell_events, spell_item, spell_module, spell_parameters, spell_ports, spell_source}
use Rattle.rr_lex.specs.Numbers.{digit, is_wild, is_x, is_z, number, one_more, plain_literal}
use Rattle.rr_lex.specs.Patch.{New, new_decimal, new_keyword, new_mark, new_name}
use Rattle.rr_respell.specs.Pieces.{Piece, Replaced, Put, kept, puts, source_words}
use Rattle.rr_respell.specs.Printing.{all_pieces}
use Rattle.rr_respell.proofs.Makes.{Makes, none, join, put, replace, words}
use Rattle.rr_patch.proofs.Joined.{FitNew}
use Rattle.rr_lint_laws.specs.Mended.{Marks, cleared_by}
use Rattle.rr_lint_print.specs.Pieces.{immediate_pieces, all_immediate_pieces, arm_immediate_pieces, arms_immediate_pieces, cleared_news, defaulted_pieces, body_pieces, item_pieces, module_pieces, modules_pieces, source_pieces}

-- pieces of these words of a source
pub record Has (xs : List Piece) (a : List Word) : Type 0 where
  pub printed : List Word
  pub makes : Makes FitNew xs a printed

has_none : Has [] []
has_none = record { printed = []; makes = none FitNew }

has_words : (ws : List Word) → Has (kept ws) ws
has_words ws = record { printed = ws; makes = words FitNew ws }

has_join : (xs ys : List Piece) (a b : List Word) → Has xs a → Has ys b → Has (xs ++ ys) (a ++ b)
has_join xs ys a b x y = record { printed = x.printed ++ y.printed; makes = join x.makes y.makes }

has_put : (n : New) (xs : List Piece) (a : List Word) → FitNew n → Has xs a → Has (Put n ∷ xs) a
has_put n xs a h x = record { printed = n.word ∷ x.printed; makes = put n h x.makes }

has_same : (xs : List Piece) (a b : List Word) → a ≡ b → Has xs a → Has xs b
has_same xs a b e x = record { printed = x.printed; makes = record { source = x.makes.source ∙ e; printed = x.makes.printed; allowed = x.makes.allowed } }

-- a condition in brackets, and what follows
headed : (v w m : Word) (c : List Word) (xs : List Piece) (a : List Word) → Has xs a → Has (kept (v ∷ (w ∷ (c ++ (m ∷ [])))) ++ xs) (v ∷ (w ∷ (c ++ (m ∷ a))))
headed v w m c xs a x =
    has_same (kept (v ∷ (w ∷ (c ++ (m ∷ [])))) ++ xs) ((v ∷ (w ∷ (c ++ (m ∷ [])))) ++ a) (v ∷ (w ∷ (c ++ (m ∷ a)))) (ap (λ (l : List Word). v ∷ (w ∷ l)) (append_assoc c (m ∷ []) a))
    (has_join (kept (v ∷ (w ∷ (c ++ (m ∷ []))))) xs (v ∷ (w ∷ (c ++ (m ∷ [])))) a (has_words (v ∷ (w ∷ (c ++ (m ∷ []))))) x)

mutual
  unfolding immediate_pieces spell_statement

  pub statement_has : (t : Statement) → Has (immediate_pieces t) (spell_statement t)
  statement_has Null = has_words (spell_statement Null)
  statement_has (Block label ts) =
      has_join (kept (Reserved keyword_begin ∷ spell_label label)) (all_immediate_pieces ts ++ kept (Reserved keyword_end ∷ [])) (Reserved keyword_begin ∷ spell_label label) (spell_statements ts ++ (Reserved keyword_end ∷ []))
      (has_words (Reserved keyword_begin ∷ spell_label label)) (has_join (all_immediate_pieces ts) (kept (Reserved keyword_end ∷ [])) (spell_statements ts) (Reserved keyword_end ∷ []) (statements_have ts) (has_words (Reserved keyword_end ∷ [])))
  statement_has (If c t) = headed (Reserved keyword_if) (Marked mark_open_parenthesis) (Marked mark_close_parenthesis) (spell c) (immediate_pieces t) (spell_statement t) (statement_has t)
  statement_has (IfElse c t u) =
      headed (Reserved keyword_if) (Marked mark_open_parenthesis) (Marked mark_close_parenthesis) (spell c) (immediate_pieces t ++ (kept (Reserved keyword_else ∷ []) ++ immediate_pieces u)) (spell_statement t ++ (Reserved keyword_else ∷ spell_statement u))
      (has_join (immediate_pieces t) (kept (Reserved keyword_else ∷ []) ++ immediate_pieces u) (spell_statement t) (Reserved keyword_else ∷ spell_statement u) (statement_has t)
      (has_join (kept (Reserved keyword_else ∷ [])) (immediate_pieces u) (Reserved keyword_else ∷ []) (spell_statement u) (has_words (Reserved keyword_else ∷ [])) (statement_has u)))
  statement_has (Case kind on arms) =
      headed (Reserved kind) (Marked mark_open_parenthesis) (Marked mark_close_parenthesis) (spell on) (arms_immediate_pieces arms ++ kept (Reserved keyword_endcase ∷ [])) (spell_arms arms ++ (Reserved keyword_endcase ∷ []))
      (has_join (arms_immediate_pieces arms) (kept (Reserved keyword_endcase ∷ [])) (spell_arms arms) (Reserved keyword_endcase ∷ []) (arms_have arms) (has_words (Reserved keyword_endcase ∷ [])))
  statement_has (Assign t true e) = has_words (spell_statement (Assign t true e))
  statement_has (Assign t false e) =
      has_join (kept (spell t)) (Replaced (Marked mark_less_or_equal) (new_mark mark_equals) ∷ kept (spell e ++ (Marked mark_semicolon ∷ []))) (spell t) (Marked mark_less_or_equal ∷ (spell e ++ (Marked mark_semicolon ∷ []))) (has_words (spell t))
      (has_join (Replaced (Marked mark_less_or_equal) (new_mark mark_equals) ∷ []) (kept (spell e ++ (Marked mark_semicolon ∷ []))) (Marked mark_less_or_equal ∷ []) (spell e ++ (Marked mark_semicolon ∷ []))
      (record { printed = Marked mark_equals ∷ []; makes = replace (Marked mark_less_or_equal) (new_mark mark_equals) (λ _. tt) }) (has_words (spell e ++ (Marked mark_semicolon ∷ []))))
  statement_has (For h t) = has_join (kept (Reserved keyword_for ∷ spell_loop h)) (immediate_pieces t) (Reserved keyword_for ∷ spell_loop h) (spell_statement t) (has_words (Reserved keyword_for ∷ spell_loop h)) (statement_has t)

  pub statements_have : (ts : Statements) → Has (all_immediate_pieces ts) (spell_statements ts)
  statements_have Done = has_none
  statements_have (Then t ts) = has_join (immediate_pieces t) (all_immediate_pieces ts) (spell_statement t) (spell_statements ts) (statement_has t) (statements_have ts)

  pub arm_has : (a : Arm) → Has (arm_immediate_pieces a) (spell_arm a)
  arm_has (CaseItem labels colon t) = has_join (kept (spell_labels labels colon)) (immediate_pieces t) (spell_labels labels colon) (spell_statement t) (has_words (spell_labels labels colon)) (statement_has t)

  pub arms_have : (arms : Arms) → Has (arms_immediate_pieces arms) (spell_arms arms)
  arms_have NoArms = has_none
  arms_have (MoreArms a rest) = has_join (arm_immediate_pieces a) (arms_immediate_pieces rest) (spell_arm a) (spell_arms rest) (arm_has a) (arms_have rest)

-- how many tokens of the source they have
pub size : (xs : List Piece) (a : List Word) → Has xs a → length (source_words xs) ≡ length a
size xs a h = ap length h.makes.source

zero_width : (plain_literal (48 ∷ [])).width ≡ 32
unfolding plain_literal
zero_width = refl

zero_value : (plain_literal (48 ∷ [])).value ≡ 0
unfolding plain_literal number one_more digit is_wild is_x is_z
zero_value = refl

zero_fits : FitNew (new_decimal (48 ∷ []))
zero_fits =
    let w : (plain_literal (48 ∷ [])).width ≡ 32 = zero_width in
    let v : (plain_literal (48 ∷ [])).value ≡ 0 = zero_value in
    (omega (arith, w), omega (arith, w), subst (λ (n : ℕ). n < 2 ^ (plain_literal (48 ∷ [])).width) (sym v) (pow_pos (plain_literal (48 ∷ [])).width))

news_have : (names : List (List ℕ)) (xs : List Piece) (a : List Word) → Has xs a → Has (puts (cleared_news names) ++ xs) a
unfolding cleared_news
news_have [] xs a x = x
news_have (name ∷ names) xs a x =
    let rest : List Piece = puts (cleared_news names) ++ xs in
    has_put (new_name name) (Put (new_mark mark_equals) ∷ (Put (new_decimal (48 ∷ [])) ∷ (Put (new_mark mark_semicolon) ∷ rest))) a tt
    (has_put (new_mark mark_equals) (Put (new_decimal (48 ∷ [])) ∷ (Put (new_mark mark_semicolon) ∷ rest)) a tt
    (has_put (new_decimal (48 ∷ [])) (Put (new_mark mark_semicolon) ∷ rest) a zero_fits (has_put (new_mark mark_semicolon) rest a tt (news_have names xs a x))))

ended : (xs : List Piece) (a : List Word) (n : New) → FitNew n → Has xs a → Has (xs ++ puts (n ∷ [])) a
ended xs a n h x = has_same (xs ++ puts (n ∷ [])) (a ++ []) a (simp append-nil) (has_join xs (puts (n ∷ [])) a [] x (has_put n [] [] h has_none))

defaulted_has : (names : List (List ℕ)) (xs : List Piece) (a : List Word) → Has xs a → Has (defaulted_pieces names xs) a
defaulted_has [] xs a x = x
defaulted_has (name ∷ names) xs a x =
    has_put (new_keyword keyword_begin) (puts (cleared_news (name ∷ names)) ++ (xs ++ puts (new_keyword keyword_end ∷ []))) a tt
    (news_have (name ∷ names) (xs ++ puts (new_keyword keyword_end ∷ [])) a (ended xs a (new_keyword keyword_end) tt x))

module _ (marks : Marks) where
  body_has : (events : EventControl) (t : Statement) (token : ℕ) → Has (body_pieces marks events t token) (spell_statement t)
  body_has (Star brackets) t token = defaulted_has (cleared_by marks token t) (immediate_pieces t) (spell_statement t) (statement_has t)
  body_has (Edges list commas) t token = has_words (spell_statement t)
  body_has (Levels list commas) t token = defaulted_has (cleared_by marks token t) (immediate_pieces t) (spell_statement t) (statement_has t)

  pub item_has : (i : ModuleItem) → Has (item_pieces marks i) (spell_item i)
  unfolding item_pieces spell_item
  item_has (Ports p) = has_words (spell_item (Ports p))
  item_has (Nets signed range list) = has_words (spell_item (Nets signed range list))
  item_has (Variables signed range list) = has_words (spell_item (Variables signed range list))
  item_has (Integers list) = has_words (spell_item (Integers list))
  item_has (Parameters p) = has_words (spell_item (Parameters p))
  item_has (Assigns pairs) = has_words (spell_item (Assigns pairs))
  item_has (Always events body token) =
      has_join (kept (Reserved keyword_always ∷ (Marked mark_at ∷ spell_events events))) (body_pieces marks events body token) (Reserved keyword_always ∷ (Marked mark_at ∷ spell_events events)) (spell_statement body)
      (has_words (Reserved keyword_always ∷ (Marked mark_at ∷ spell_events events))) (body_has events body token)
  item_has (Initial body token) = has_words (spell_item (Initial body token))
  item_has (Instances m token overrides list) = has_words (spell_item (Instances m token overrides list))

  items_have : (is : List ModuleItem) → Has (all_pieces (item_pieces marks) is) (spell_all spell_item is)
  unfolding all_pieces spell_all
  items_have [] = has_none
  items_have (i ∷ is) = has_join (item_pieces marks i) (all_pieces (item_pieces marks) is) (spell_item i) (spell_all spell_item is) (item_has i) (items_have is)

  pub module_has : (m : ModuleDeclaration) → Has (module_pieces marks m) (spell_module m)
  unfolding module_pieces spell_module
  module_has m =
      let P : List Word = spell_parameters m.params in
      let Q : List Word = spell_ports m.header m.groups in
      let I : List Word = spell_all spell_item m.items ++ (Reserved keyword_endmodule ∷ []) in
      let xs : List Piece = all_pieces (item_pieces marks) m.items ++ kept (Reserved keyword_endmodule ∷ []) in
      let head : List Word = Reserved keyword_module ∷ (Named m.text ∷ (P ++ (Q ++ (Marked mark_semicolon ∷ [])))) in
      has_same (kept head ++ xs) (head ++ I) (Reserved keyword_module ∷ (Named m.text ∷ (P ++ (Q ++ (Marked mark_semicolon ∷ I)))))
      (ap (λ (l : List Word). Reserved keyword_module ∷ (Named m.text ∷ l)) (append_assoc P (Q ++ (Marked mark_semicolon ∷ [])) I ∙ ap (λ (l : List Word). P ++ l) (append_assoc Q (Marked mark_semicolon ∷ []) I)))
      (has_join (kept head) xs head I (has_words head)
      (has_join (all_pieces (item_pieces marks) m.items) (kept (Reserved keyword_endmodule ∷ [])) (spell_all spell_item m.items) (Reserved keyword_endmodule ∷ []) (items_have m.items) (has_words (Reserved keyword_endmodule ∷ []))))

  module _ (numbers : List ℕ) where
    numbered_has : (b : Bool) (m : ModuleDeclaration) → Has (if b then module_pieces marks m else kept (spell_module m)) (spell_module m)
    numbered_has true m = module_has m
    numbered_has false m = has_words (spell_module m)

    pub modules_have : (k : ℕ) (ms : List ModuleDeclaration) → Has (modules_pieces numbers marks k ms) (spell_all spell_module ms)
    unfolding modules_pieces spell_all
    modules_have k [] = has_none
    modules_have k (m ∷ ms) =
        has_join (if list_any (nat_eq k) numbers then module_pieces marks m else kept (spell_module m)) (modules_pieces numbers marks (k + 1) ms) (spell_module m) (spell_all spell_module ms)
        (numbered_has (list_any (nat_eq k) numbers) m) (modules_have (k + 1) ms)

    pub source_has : (s : SourceText) → Has (source_pieces numbers marks s) (spell_source s)
    unfolding source_pieces spell_source
    source_has s = modules_have 0 s.modules
