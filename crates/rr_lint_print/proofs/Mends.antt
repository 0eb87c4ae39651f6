-- The words of the pieces of a mended source, part by part, and what stands in the place of a token.
use Rattle.std.proofs.Common.{◌≡◌, ℕ, ◌+◌, Bool, true, false, if◌then◌else◌, nat_eq, List, [], ◌∷◌, ◌++◌, map, refl, sym, ◌∙◌, ap, append_assoc, append-nil}
use Rattle.std.specs.List.{list_any}
use Rattle.rr_syntax.specs.Words.{Word, Named, Digits, Reserved, Marked, keyword_always, keyword_begin, keyword_else, keyword_end, keyword_endcase, keyword_endmodule, keyword_for, keyword_if, keyword_module, mark_open_parenthesis, mark_close_parenthesis, mark_at, mark_semicolon, mark_equals, mark_less_or_equal}
use Rattle.rr_syntax.specs.Tree.{Tree, Statement, Statements, Arm, Arms, Null, Block, If, IfElse, Case, Assign, For, Done, Then, CaseItem, NoArms, MoreArms, EventControl, Star, Edges, Levels, ModuleItem, Ports, Nets, Variables, Integers, Parameters, Assigns, Always, Initial, Instances, ModuleDeclaration, SourceText}
use Rattle.rr_syntax.specs.Expressions.{spell}
use Rattle.rr_syntax.specs.Statements.{spell_label, spell_labels, spell_loop, spell_statement, spell_statements, spell_arm, spell_arms}
use Rattle.rr_syntax.specs.Items.{spell_all, spell_events, spell_item, spell_module, spell_parameters, spell_ports, spell_source}
use Rattle.rr_lex.specs.Numbers.{plain_literal}
use Rattle.rr_lex.specs.Patch.{New, new_keyword, new_mark, new_words}
use Rattle.rr_latch.specs.Immediate.{immediate, immediate_all, immediate_arm, immediate_arms}
use Rattle.rr_body_laws.specs.Bodies.{body_with, item_with, module_with, modules_with, source_with}
use Rattle.rr_lint_laws.specs.Mended.{Marks, all_cleared, cleared_by, mended_body, with_defaults}
use Rattle.rr_respell.specs.Pieces.{Piece, Kept, Replaced, Put, kept, puts}
use Rattle.rr_respell.specs.Printing.{all_pieces}
use Rattle.rr_respell.proofs.Makes as makes
use Rattle.rr_respell.proofs.Makes.{AllowedAll, Makes, replace}
use Rattle.rr_respell.proofs.SourceParts.{Free}
use Rattle.rr_lint_print.specs.Laws.{SpellsMended}
use Rattle.rr_lint_print.specs.Pieces.{immediate_pieces, all_immediate_pieces, arm_immediate_pieces, arms_immediate_pieces, cleared_news, defaulted_pieces, mended_pieces, body_pieces, item_pieces, module_pieces, modules_pieces, source_pieces}

-- what stands in the place of a token is `=` for `<=`, and P holds of each token that is put between
unfoldable pub Swaps : (New → Type 0) → List Piece → Type 0
Swaps P [] = Unit {0}
Swaps P (Kept w ∷ xs) = Swaps P xs
Swaps P (Replaced w n ∷ xs) = (w ≡ Marked mark_less_or_equal) × (n ≡ new_mark mark_equals) × Swaps P xs
Swaps P (Put n ∷ xs) = P n × Swaps P xs

-- such pieces of these words of a source, which print those
pub record Mends (P : New → Type 0) (xs : List Piece) (a b : List Word) : Type 0 where
  pub makes : Makes Free xs a b
  pub swaps : Swaps P xs

swaps_join : (P : New → Type 0) (xs ys : List Piece) → Swaps P xs → Swaps P ys → Swaps P (xs ++ ys)
unfolding Swaps
swaps_join P [] ys a b = b
swaps_join P (Kept w ∷ xs) ys a b = swaps_join P xs ys a b
swaps_join P (Replaced w n ∷ xs) ys a b = (a.0, a.1, swaps_join P xs ys a.2 b)
swaps_join P (Put n ∷ xs) ys a b = (a.0, swaps_join P xs ys a.1 b)

kept_swaps : (P : New → Type 0) (ws : List Word) → Swaps P (kept ws)
unfolding Swaps
kept_swaps P [] = tt
kept_swaps P (w ∷ ws) = kept_swaps P ws

puts_swap : (P : New → Type 0) (ns : List New) → AllowedAll P ns → Swaps P (puts ns)
unfolding Swaps
puts_swap P [] h = tt
puts_swap P (n ∷ ns) h = (h.0, puts_swap P ns h.1)

free_all : (ns : List New) → AllowedAll Free ns
free_all [] = tt
free_all (n ∷ ns) = (tt, free_all ns)

none : (P : New → Type 0) → Mends P [] [] []
unfolding Swaps
none P = record { makes = makes.none Free; swaps = tt }

join : {P : New → Type 0} {xs ys : List Piece} {a b c d : List Word} → Mends P xs a b → Mends P ys c d → Mends P (xs ++ ys) (a ++ c) (b ++ d)
join {P = P} {xs = xs} {ys = ys} x y = record { makes = makes.join x.makes y.makes; swaps = swaps_join P xs ys x.swaps y.swaps }

-- words that stay
words : (P : New → Type 0) (ws : List Word) → Mends P (kept ws) ws ws
words P ws = record { makes = makes.words Free ws; swaps = kept_swaps P ws }

news : (P : New → Type 0) (ns : List New) → AllowedAll P ns → Mends P (puts ns) [] (new_words ns)
news P ns h = record { makes = makes.after ns (free_all ns) (makes.none Free); swaps = puts_swap P ns h }

-- `=` for `<=`
equals : (P : New → Type 0) → Mends P (Replaced (Marked mark_less_or_equal) (new_mark mark_equals) ∷ []) (Marked mark_less_or_equal ∷ []) (Marked mark_equals ∷ [])
unfolding Swaps
equals P = record { makes = replace (Marked mark_less_or_equal) (new_mark mark_equals) (λ h. tt); swaps = (refl, refl, tt) }

-- equal words
same : {P : New → Type 0} {xs : List Piece} {a b c d : List Word} → a ≡ c → b ≡ d → Mends P xs a b → Mends P xs c d
same e f x = record { makes = record { source = x.makes.source ∙ e; printed = x.makes.printed ∙ f; allowed = x.makes.allowed }; swaps = x.swaps }

-- a keyword and an expression in brackets
abbrev headed : ℕ → Tree → List Word
headed k c = Reserved k ∷ (Marked mark_open_parenthesis ∷ (spell c ++ (Marked mark_close_parenthesis ∷ [])))

head : (k : ℕ) (c : Tree) (rest : List Word) → headed k c ++ rest ≡ Reserved k ∷ (Marked mark_open_parenthesis ∷ (spell c ++ (Marked mark_close_parenthesis ∷ rest)))
head k c rest = ap (λ (l : List Word). Reserved k ∷ (Marked mark_open_parenthesis ∷ l)) (append_assoc (spell c) (Marked mark_close_parenthesis ∷ []) rest)

module _ (P : New → Type 0) where
  mutual
    unfolding spell_statement immediate_pieces immediate

    pub statement_mends : (t : Statement) → Mends P (immediate_pieces t) (spell_statement t) (spell_statement (immediate t))
    statement_mends Null = words P (spell_statement Null)
    statement_mends (Block label ss) = join (words P (Reserved keyword_begin ∷ spell_label label)) (join (statements_mend ss) (words P (Reserved keyword_end ∷ [])))
    statement_mends (If c t) = same (head keyword_if c (spell_statement t)) (head keyword_if c (spell_statement (immediate t))) (join (words P (headed keyword_if c)) (statement_mends t))
    statement_mends (IfElse c t u) =
        same (head keyword_if c (spell_statement t ++ (Reserved keyword_else ∷ spell_statement u))) (head keyword_if c (spell_statement (immediate t) ++ (Reserved keyword_else ∷ spell_statement (immediate u))))
        (join (words P (headed keyword_if c)) (join (statement_mends t) (join (words P (Reserved keyword_else ∷ [])) (statement_mends u))))
    statement_mends (Case kind on arms) =
        same (head kind on (spell_arms arms ++ (Reserved keyword_endcase ∷ []))) (head kind on (spell_arms (immediate_arms arms) ++ (Reserved keyword_endcase ∷ [])))
        (join (words P (headed kind on)) (join (arms_mend arms) (words P (Reserved keyword_endcase ∷ []))))
    statement_mends (Assign t true e) = words P (spell_statement (Assign t true e))
    statement_mends (Assign t false e) = join (words P (spell t)) (join (equals P) (words P (spell e ++ (Marked mark_semicolon ∷ []))))
    statement_mends (For h t) = join (words P (Reserved keyword_for ∷ spell_loop h)) (statement_mends t)

    statements_mend : (ts : Statements) → Mends P (all_immediate_pieces ts) (spell_statements ts) (spell_statements (immediate_all ts))
    statements_mend Done = none P
    statements_mend (Then t ts) = join (statement_mends t) (statements_mend ts)

    arm_mends : (a : Arm) → Mends P (arm_immediate_pieces a) (spell_arm a) (spell_arm (immediate_arm a))
    arm_mends (CaseItem labels colon t) = join (words P (spell_labels labels colon)) (statement_mends t)

    arms_mend : (arms : Arms) → Mends P (arms_immediate_pieces arms) (spell_arms arms) (spell_arms (immediate_arms arms))
    arms_mend NoArms = none P
    arms_mend (MoreArms a rest) = join (arm_mends a) (arms_mend rest)

-- `v = 0;` for each name, and the body
cleared_spelled : (names : List (List ℕ)) (body : Statement) → new_words (cleared_news names) ++ spell_statement body ≡ spell_statements (all_cleared names body)
unfolding spell_statement spell all_cleared cleared_news
cleared_spelled [] body = sym (append-nil (spell_statement body))
cleared_spelled (name ∷ names) body =
    ap (λ (l : List Word). Named name ∷ (Marked mark_equals ∷ (Digits (plain_literal (48 ∷ [])) ∷ (Marked mark_semicolon ∷ l)))) (cleared_spelled names body)

-- `begin v = 0; .. S end`
defaulted_mends : (names : List (List ℕ)) (xs : List Piece) (a : List Word) (body : Statement) → Mends Free xs a (spell_statement body) →
    Mends Free (defaulted_pieces names xs) a (spell_statement (with_defaults names body))
unfolding spell_statement spell_label
defaulted_mends [] xs a body x = x
defaulted_mends (name ∷ names) xs a body x =
    same (append-nil a)
    (ap (λ (l : List Word). Reserved keyword_begin ∷ l)
    (sym (append_assoc (new_words (cleared_news (name ∷ names))) (spell_statement body) (Reserved keyword_end ∷ []))
    ∙ ap (λ (l : List Word). l ++ (Reserved keyword_end ∷ [])) (cleared_spelled (name ∷ names) body)))
    (join (news Free (new_keyword keyword_begin ∷ cleared_news (name ∷ names)) (free_all (new_keyword keyword_begin ∷ cleared_news (name ∷ names)))) (join x (news Free (new_keyword keyword_end ∷ []) (tt, tt))))

-- a list with nothing between
all_mend : {A : Type 0} (f : A → List Piece) (g : A → A) (s : A → List Word) → ((x : A) → Mends Free (f x) (s x) (s (g x))) → (xs : List A) →
    Mends Free (all_pieces f xs) (spell_all s xs) (spell_all s (map g xs))
unfolding all_pieces spell_all
all_mend f g s h [] = none Free
all_mend f g s h (x ∷ xs) = join (h x) (all_mend f g s h xs)

module _ (marks : Marks) where
  mended_mends : (token : ℕ) (body : Statement) → Mends Free (mended_pieces marks token body) (spell_statement body) (spell_statement (mended_body marks token body))
  mended_mends token body = defaulted_mends (cleared_by marks token body) (immediate_pieces body) (spell_statement body) (immediate body) (statement_mends Free body)

  body_mends : (events : EventControl) (body : Statement) (token : ℕ) →
      Mends Free (body_pieces marks events body token) (spell_statement body) (spell_statement (body_with (mended_body marks) events body token))
  body_mends (Star brackets) body token = mended_mends token body
  body_mends (Edges list commas) body token = words Free (spell_statement body)
  body_mends (Levels list commas) body token = mended_mends token body

  pub item_mends : (i : ModuleItem) → Mends Free (item_pieces marks i) (spell_item i) (spell_item (item_with (mended_body marks) i))
  unfolding item_pieces item_with spell_item
  item_mends (Ports p) = words Free (spell_item (Ports p))
  item_mends (Nets signed range list) = words Free (spell_item (Nets signed range list))
  item_mends (Variables signed range list) = words Free (spell_item (Variables signed range list))
  item_mends (Integers list) = words Free (spell_item (Integers list))
  item_mends (Parameters p) = words Free (spell_item (Parameters p))
  item_mends (Assigns pairs) = words Free (spell_item (Assigns pairs))
  item_mends (Always events body token) = join (words Free (Reserved keyword_always ∷ (Marked mark_at ∷ spell_events events))) (body_mends events body token)
  item_mends (Initial body token) = words Free (spell_item (Initial body token))
  item_mends (Instances m token overrides list) = words Free (spell_item (Instances m token overrides list))

  module_mends : (m : ModuleDeclaration) → Mends Free (module_pieces marks m) (spell_module m) (spell_module (module_with (mended_body marks) m))
  unfolding module_pieces module_with spell_module
  module_mends m =
      same (opened (spell_all spell_item m.items ++ (Reserved keyword_endmodule ∷ []))) (opened (spell_all spell_item (map (item_with (mended_body marks)) m.items) ++ (Reserved keyword_endmodule ∷ [])))
      (join (words Free (Reserved keyword_module ∷ (Named m.text ∷ (spell_parameters m.params ++ (spell_ports m.header m.groups ++ (Marked mark_semicolon ∷ []))))))
      (join (all_mend (item_pieces marks) (item_with (mended_body marks)) spell_item item_mends m.items) (words Free (Reserved keyword_endmodule ∷ []))))
    where
      opened : (rest : List Word) →
          (Reserved keyword_module ∷ (Named m.text ∷ (spell_parameters m.params ++ (spell_ports m.header m.groups ++ (Marked mark_semicolon ∷ []))))) ++ rest ≡
          Reserved keyword_module ∷ (Named m.text ∷ (spell_parameters m.params ++ (spell_ports m.header m.groups ++ (Marked mark_semicolon ∷ rest))))
      opened rest =
          ap (λ (l : List Word). Reserved keyword_module ∷ (Named m.text ∷ l))
          (append_assoc (spell_parameters m.params) (spell_ports m.header m.groups ++ (Marked mark_semicolon ∷ [])) rest
          ∙ ap (λ (l : List Word). spell_parameters m.params ++ l) (append_assoc (spell_ports m.header m.groups) (Marked mark_semicolon ∷ []) rest))

  modules_mend : (numbers : List ℕ) (k : ℕ) (ms : List ModuleDeclaration) →
      Mends Free (modules_pieces numbers marks k ms) (spell_all spell_module ms) (spell_all spell_module (modules_with numbers (mended_body marks) k ms))
  unfolding modules_pieces modules_with spell_all
  modules_mend numbers k [] = none Free
  modules_mend numbers k (m ∷ ms) = join (by_number (list_any (nat_eq k) numbers)) (modules_mend numbers (k + 1) ms)
    where
      by_number : (b : Bool) → Mends Free (if b then module_pieces marks m else kept (spell_module m)) (spell_module m) (spell_module (if b then module_with (mended_body marks) m else m))
      by_number true = module_mends m
      by_number false = words Free (spell_module m)

  pub source_mends : (numbers : List ℕ) (s : SourceText) → Mends Free (source_pieces numbers marks s) (spell_source s) (spell_source (source_with numbers (mended_body marks) s))
  unfolding source_pieces source_with spell_source
  source_mends numbers s = modules_mend numbers 0 s.modules

pub spells_mended : SpellsMended
spells_mended = record {
  source = λ numbers marks s. (source_mends marks numbers s).makes.source;
  mended = λ numbers marks s. (source_mends marks numbers s).makes.printed;
}
