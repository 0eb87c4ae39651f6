-- The new tokens of a mended source: each is one where it stands, none stands before `)`, and no comment, use or directive stands in its text.
use Rattle.std.proofs.Common.{◌≡◌, ℕ, ◌+◌, ◌<◌, ◌^◌, Bool, true, false, if◌then◌else◌, nat_eq, IsTrue, List, [], ◌∷◌, ◌++◌, refl, sym, ◌∙◌, ap, subst, arith, append_assoc}
use Rattle.std.specs.List.{AllByRecursion, list_any}
use Rattle.std.proofs.lemmas.Bool.{false≢true}
use Rattle.rr_syntax.specs.declared.tree.Dir.{Dir}
use Rattle.rr_syntax.specs.declared.tree.Dir.TheVariants as dir
use Rattle.rr_syntax.specs.Words.{Word, Named, Reserved, Marked, keyword_always, keyword_begin, keyword_end, keyword_endmodule, keyword_module, mark_at, mark_semicolon, mark_equals}
use Rattle.rr_syntax.specs.Tree.{Tree, Name, Literal, Bit, Part, Indexed, Unary, Binary, Cond, Concat, Repeat, Cast, Paren, Statement, Null, Block, If, IfElse, Case, Assign, For, EventControl, Star, Edges, Levels, ModuleItem, Ports, Nets, Variables, Integers, Parameters, Assigns, Always, Initial, Instances, ModuleDeclaration, SourceText}
use Rattle.rr_syntax.specs.Expressions.{spell, is_target}
use Rattle.rr_syntax.specs.Statements.{spell_statement, WellFormedStatement}
use Rattle.rr_syntax.specs.Items.{spell_all, spell_dir, spell_events, spell_item, spell_module, spell_parameter, spell_parameters, spell_port, spell_ports, spell_source, WellFormedItem, WellFormedModule, WellFormedSource}
use Rattle.rr_lex.specs.Bytes.{is_decimal, is_digit}
use Rattle.rr_lex.specs.Numbers.{IsDecimal, digit, number, one_more, is_wild, is_x, is_z}
use Rattle.rr_lex.specs.Patch.{New, IsNameText, IsNew, IsNewBefore, new_decimal, new_keyword, new_mark, new_name}
use Rattle.rr_lex.proofs.Fresh.{decimal_new, keyword_new, mark_new, name_new}
use Rattle.rr_put_laws.proofs.Calm.{Calm, quiet_calm}
use Rattle.rr_put_laws.proofs.Texts.{keyword_calm, mark_calm, name_calm}
use Rattle.rr_respell.specs.Pieces.{Piece, Kept, Replaced, Put, kept, puts, source_words, run_of}
use Rattle.rr_respell.specs.Printing.{all_pieces}
use Rattle.rr_respell.proofs.Calm.{Opens}
use Rattle.rr_respell.proofs.Makes.{source_join}
use Rattle.rr_lint_laws.specs.Mended.{Marks, cleared_by}
use Rattle.rr_lint_print.specs.Pieces.{immediate_pieces, cleared_news, defaulted_pieces, mended_pieces, body_pieces, item_pieces, module_pieces, modules_pieces, source_pieces}
use Rattle.rr_lint_print.proofs.Mends.{Swaps, statement_mends, item_mends}
use Rattle.rr_lint_print.proofs.Names.{Each, front, back, cleared_named}

-- each token that is put is one before what follows it, the next token of the source is no `)`, and nothing but single bytes and escaped names is read in its text
unfoldable pub Fits : List Piece → Type 0
Fits [] = Unit {0}
Fits (Kept w ∷ xs) = Fits xs
Fits (Replaced w n ∷ xs) = Fits xs
Fits (Put n ∷ xs) = IsNewBefore (run_of xs) n × Calm n.text × Opens (source_words xs) × Fits xs

-- no token is put
abbrev NonePut : New → Type 0
NonePut n = ⊥

bare_fits : (xs rest : List Piece) → Swaps NonePut xs → Fits rest → Fits (xs ++ rest)
unfolding Fits Swaps
bare_fits [] rest s h = h
bare_fits (Kept w ∷ xs) rest s h = bare_fits xs rest s h
bare_fits (Replaced w n ∷ xs) rest s h = bare_fits xs rest s.2 h
bare_fits (Put n ∷ xs) rest s h = absurd s.0

-- words that stay
kept_fits : (ws : List Word) (rest : List Piece) → Fits rest → Fits (kept ws ++ rest)
unfolding Fits
kept_fits [] rest h = h
kept_fits (w ∷ ws) rest h = kept_fits ws rest h

-- a token that is one wherever a blank follows
before_any : (n : New) (ns : List New) → IsNew n → IsNewBefore ns n
before_any n [] h = h
before_any n (m ∷ ns) h = record { alone = λ after _. h.alone after; unquoted = h.unquoted }

put_fits : (n : New) (xs : List Piece) → IsNew n → Calm n.text → Opens (source_words xs) → Fits xs → Fits (Put n ∷ xs)
unfolding Fits
put_fits n xs k c o h = (before_any n (run_of xs) k, c, o, h)

-- the literal 0
zero_decimal : IsDecimal (48 ∷ [])
unfolding is_digit is_decimal
zero_decimal = (refl, refl)

zero_value : number 10 digit (48 ∷ []) ≡ 0
unfolding number one_more digit is_wild is_x is_z
zero_value = refl

zero_small : number 10 digit (48 ∷ []) < 2 ^ 32
zero_small = subst (λ (n : ℕ). n < 2 ^ 32) (sym zero_value) (omega arith)

zero_calm : Calm (48 ∷ [])
zero_calm = quiet_calm (48 ∷ []) refl

puts_open : (ns : List New) (xs : List Piece) → Opens (source_words xs) → Opens (source_words (puts ns ++ xs))
unfolding source_words
puts_open [] xs o = o
puts_open (n ∷ ns) xs o = puts_open ns xs o

-- `v = 0;` for each name
cleared_fits : (names : List (List ℕ)) (rest : List Piece) → AllByRecursion IsNameText names → Opens (source_words rest) → Fits rest → Fits (puts (cleared_news names) ++ rest)
unfolding cleared_news Fits run_of source_words
cleared_fits [] rest h o f = f
cleared_fits (name ∷ names) rest h o f =
    let after : List Piece = puts (cleared_news names) ++ rest in
    let ended : List Piece = Put (new_mark mark_semicolon) ∷ after in
    let valued : List Piece = Put (new_decimal (48 ∷ [])) ∷ ended in
    let first : Opens (source_words after) = puts_open (cleared_news names) rest o in
    let end : Fits ended = put_fits (new_mark mark_semicolon) after (mark_new mark_semicolon (omega arith)) (mark_calm mark_semicolon (omega arith)) first (cleared_fits names rest h.1 o f) in
    let value : Fits valued = (decimal_new (48 ∷ []) zero_decimal zero_small, zero_calm, first, end) in
    let equals : Fits (Put (new_mark mark_equals) ∷ valued) = put_fits (new_mark mark_equals) valued (mark_new mark_equals (omega arith)) (mark_calm mark_equals (omega arith)) first value in
    put_fits (new_name name) (Put (new_mark mark_equals) ∷ valued) (name_new name h.0) (name_calm name h.0) first equals

joined_open : (xs ys more : List Word) → ((more : List Word) → Opens (xs ++ more)) → Opens ((xs ++ ys) ++ more)
joined_open xs ys more h = subst Opens (sym (append_assoc xs ys more)) (h (ys ++ more))

-- no target begins with a closing bracket
target_opens : (t : Tree) → IsTrue (is_target t) → (more : List Word) → Opens (spell t ++ more)
unfolding spell is_target
target_opens (Name token x) h more = refl
target_opens (Literal token n) h more = refl
target_opens (Bit token x i) h more = refl
target_opens (Part token x l r) h more = refl
target_opens (Indexed token x f n up) h more = refl
target_opens (Unary op t) h more = absurd (false≢true h)
target_opens (Binary op l r) h more = absurd (false≢true h)
target_opens (Cond a b c) h more = absurd (false≢true h)
target_opens (Concat ts) h more = refl
target_opens (Repeat n ts) h more = refl
target_opens (Cast signed t) h more = refl
target_opens (Paren t) h more = refl

-- no statement does
statement_opens : (t : Statement) → WellFormedStatement t → (more : List Word) → Opens (spell_statement t ++ more)
unfolding spell_statement WellFormedStatement
statement_opens Null h more = refl
statement_opens (Block label ts) h more = refl
statement_opens (If c t) h more = refl
statement_opens (IfElse c t u) h more = refl
statement_opens (Case kind on arms) h more = refl
statement_opens (Assign t now e) h more = joined_open (spell t) _ more (target_opens t h.0)
statement_opens (For head t) h more = refl

-- no item does
dir_opens : (d : Dir) (more : List Word) → Opens (spell_dir d ++ more)
unfolding spell_dir
dir_opens dir.Input more = refl
dir_opens dir.InputWire more = refl
dir_opens dir.Output more = refl
dir_opens dir.OutputWire more = refl
dir_opens dir.OutputReg more = refl

item_opens : (i : ModuleItem) (more : List Word) → Opens (spell_item i ++ more)
unfolding spell_item spell_port spell_parameter
item_opens (Ports p) more = joined_open (spell_port p) (Marked mark_semicolon ∷ []) more (λ rest. joined_open (spell_dir p.dir) _ rest (dir_opens p.dir))
item_opens (Nets signed range list) more = refl
item_opens (Variables signed range list) more = refl
item_opens (Integers list) more = refl
item_opens (Parameters p) more = refl
item_opens (Assigns pairs) more = refl
item_opens (Always events body token) more = refl
item_opens (Initial body token) more = refl
item_opens (Instances m token overrides list) more = refl

-- of pieces with these words
opened : (xs rest : List Piece) (a : List Word) → source_words xs ≡ a → ((more : List Word) → Opens (a ++ more)) → Opens (source_words (xs ++ rest))
opened xs rest a e h = subst Opens (sym (source_join xs rest ∙ ap (λ (l : List Word). l ++ source_words rest) e)) (h (source_words rest))

-- `begin v = 0; .. S end`
defaulted_fits : (names : List (List ℕ)) (body : Statement) (rest : List Piece) → AllByRecursion IsNameText names → WellFormedStatement body → Opens (source_words rest) → Fits rest →
    Fits (defaulted_pieces names (immediate_pieces body) ++ rest)
defaulted_fits [] body rest h w o f = bare_fits (immediate_pieces body) rest (statement_mends NonePut body).swaps f
defaulted_fits (name ∷ names) body rest h w o f =
    let m = statement_mends NonePut body in
    let news : List Piece = puts (cleared_news (name ∷ names)) in
    let last : List Piece = Put (new_keyword keyword_end) ∷ [] in
    let whole : (news ++ (immediate_pieces body ++ last)) ++ rest ≡ news ++ (immediate_pieces body ++ (Put (new_keyword keyword_end) ∷ rest)) =
    append_assoc news (immediate_pieces body ++ last) rest ∙ ap (λ (l : List Piece). news ++ l) (append_assoc (immediate_pieces body) last rest) in
    let end = put_fits (new_keyword keyword_end) rest (keyword_new keyword_end (omega arith)) (keyword_calm keyword_end (omega arith)) o f in
    let first = opened (immediate_pieces body) (Put (new_keyword keyword_end) ∷ rest) (spell_statement body) m.makes.source (statement_opens body w) in
    let after : List Piece = immediate_pieces body ++ (Put (new_keyword keyword_end) ∷ rest) in
    let inner : Fits (news ++ after) = cleared_fits (name ∷ names) after h first (bare_fits (immediate_pieces body) (Put (new_keyword keyword_end) ∷ rest) m.swaps end) in
    subst (λ (l : List Piece). Fits (Put (new_keyword keyword_begin) ∷ l)) (sym whole)
    (put_fits (new_keyword keyword_begin) (news ++ after) (keyword_new keyword_begin (omega arith)) (keyword_calm keyword_begin (omega arith)) (puts_open (cleared_news (name ∷ names)) after first) inner)

module _ (marks : Marks) where
  mended_fits : (token : ℕ) (body : Statement) (rest : List Piece) → Each (spell_statement body) → WellFormedStatement body → Opens (source_words rest) → Fits rest → Fits (mended_pieces marks token body ++ rest)
  mended_fits token body rest h w o f = defaulted_fits (cleared_by marks token body) body rest (cleared_named marks token body h) w o f

  body_fits : (events : EventControl) (body : Statement) (token : ℕ) (rest : List Piece) → Each (spell_statement body) → WellFormedStatement body → Opens (source_words rest) → Fits rest →
      Fits (body_pieces marks events body token ++ rest)
  body_fits (Star brackets) body token rest h w o f = mended_fits token body rest h w o f
  body_fits (Edges list commas) body token rest h w o f = kept_fits (spell_statement body) rest f
  body_fits (Levels list commas) body token rest h w o f = mended_fits token body rest h w o f

  item_fits : (i : ModuleItem) (rest : List Piece) → Each (spell_item i) → WellFormedItem i → Opens (source_words rest) → Fits rest → Fits (item_pieces marks i ++ rest)
  unfolding item_pieces spell_item WellFormedItem
  item_fits (Ports p) rest h w o f = kept_fits (spell_item (Ports p)) rest f
  item_fits (Nets signed range list) rest h w o f = kept_fits (spell_item (Nets signed range list)) rest f
  item_fits (Variables signed range list) rest h w o f = kept_fits (spell_item (Variables signed range list)) rest f
  item_fits (Integers list) rest h w o f = kept_fits (spell_item (Integers list)) rest f
  item_fits (Parameters p) rest h w o f = kept_fits (spell_item (Parameters p)) rest f
  item_fits (Assigns pairs) rest h w o f = kept_fits (spell_item (Assigns pairs)) rest f
  item_fits (Always events body token) rest h w o f =
      let opening : List Word = Reserved keyword_always ∷ (Marked mark_at ∷ spell_events events) in
      subst Fits (sym (append_assoc (kept opening) (body_pieces marks events body token) rest))
      (kept_fits opening (body_pieces marks events body token ++ rest) (body_fits events body token rest (back (spell_events events) (spell_statement body) h.1.1) w.1 o f))
  item_fits (Initial body token) rest h w o f = kept_fits (spell_item (Initial body token)) rest f
  item_fits (Instances m token overrides list) rest h w o f = kept_fits (spell_item (Instances m token overrides list)) rest f

  items_fit : (is : List ModuleItem) (rest : List Piece) → Each (spell_all spell_item is) → AllByRecursion WellFormedItem is → Opens (source_words rest) → Fits rest →
      Fits (all_pieces (item_pieces marks) is ++ rest) × Opens (source_words (all_pieces (item_pieces marks) is ++ rest))
  unfolding all_pieces spell_all
  items_fit [] rest h w o f = (f, o)
  items_fit (i ∷ is) rest h w o f =
      let more : List Piece = all_pieces (item_pieces marks) is ++ rest in
      let k = items_fit is rest (back (spell_item i) (spell_all spell_item is) h) w.1 o f in
      let whole : (item_pieces marks i ++ all_pieces (item_pieces marks) is) ++ rest ≡ item_pieces marks i ++ more = append_assoc (item_pieces marks i) (all_pieces (item_pieces marks) is) rest in (
        subst Fits (sym whole) (item_fits i more (front (spell_item i) (spell_all spell_item is) h) w.0 k.1 k.0),
        subst (λ (l : List Piece). Opens (source_words l)) (sym whole) (opened (item_pieces marks i) more (spell_item i) (item_mends marks i).makes.source (item_opens i)),
      )

  module_fits : (m : ModuleDeclaration) (rest : List Piece) → Each (spell_module m) → WellFormedModule m → Fits rest → Fits (module_pieces marks m ++ rest)
  unfolding module_pieces spell_module WellFormedModule Fits source_words
  module_fits m rest h w f =
      let opening : List Word = Reserved keyword_module ∷ (Named m.text ∷ (spell_parameters m.params ++ (spell_ports m.header m.groups ++ (Marked mark_semicolon ∷ [])))) in
      let items : List Piece = all_pieces (item_pieces marks) m.items in
      let last : List Piece = Kept (Reserved keyword_endmodule) ∷ [] in
      let ending : List Word = spell_all spell_item m.items ++ (Reserved keyword_endmodule ∷ []) in
      let sound = front (spell_all spell_item m.items) (Reserved keyword_endmodule ∷ []) (back (spell_ports m.header m.groups) (Marked mark_semicolon ∷ ending) (back (spell_parameters m.params) _ h.1.1)).1 in
      subst Fits (sym (append_assoc (kept opening) (items ++ last) rest))
      (kept_fits opening ((items ++ last) ++ rest)
      (subst Fits (sym (append_assoc items last rest)) (items_fit m.items (Kept (Reserved keyword_endmodule) ∷ rest) sound w.3 refl f).0))

  modules_fit : (numbers : List ℕ) (k : ℕ) (ms : List ModuleDeclaration) → Each (spell_all spell_module ms) → AllByRecursion WellFormedModule ms → Fits (modules_pieces numbers marks k ms)
  unfolding modules_pieces spell_all Fits
  modules_fit numbers k [] h w = tt
  modules_fit numbers k (m ∷ ms) h w = by_number (list_any (nat_eq k) numbers) (modules_fit numbers (k + 1) ms (back (spell_module m) (spell_all spell_module ms) h) w.1)
    where
      by_number : (b : Bool) → Fits (modules_pieces numbers marks (k + 1) ms) → Fits ((if b then module_pieces marks m else kept (spell_module m)) ++ modules_pieces numbers marks (k + 1) ms)
      by_number true f = module_fits m (modules_pieces numbers marks (k + 1) ms) (front (spell_module m) (spell_all spell_module ms) h) w.0 f
      by_number false f = kept_fits (spell_module m) (modules_pieces numbers marks (k + 1) ms) f

  pub source_fits : (numbers : List ℕ) (s : SourceText) → Each (spell_source s) → WellFormedSource s → Fits (source_pieces numbers marks s)
  unfolding source_pieces spell_source WellFormedSource
  source_fits numbers s h w = modules_fit numbers 0 s.modules h w
