-- The changes of expressions, node by node.
use Rattle.std.proofs.Common.{◌≡◌, ℕ, ◌+◌, Bool, true, false, if◌then◌else◌, List, [], ◌∷◌, ◌++◌, take, get_or, length, refl, sym, ◌∙◌, ap, arith, append-nil, ◌<◌}
use denote.Ref.{Bor}
use Rattle.std.proofs.lemmas.List.{append_assoc, take_more}
use Rattle.rr_syntax.specs.declared.token.Mark.{Mark}
use Rattle.rr_syntax.specs.declared.token.Number.{Number}
use Rattle.rr_syntax.specs.declared.tree.Expr.{Expr}
use Rattle.rr_syntax.specs.declared.tree.Expr.TheVariants as expr
use Rattle.rr_syntax.specs.Words.{Word, Marked, mark_comma, mark_colon, mark_question, mark_close_parenthesis, mark_open_brace, mark_close_brace}
use Rattle.rr_syntax.specs.Tree.{Tree, Trees, End, More, Binary}
use Rattle.rr_syntax.specs.Expressions.{spell}
use Rattle.rr_syntax.specs.View.{plain, plain_list}
use Rattle.rr_syntax.proofs.Rows.{plain_concat, plain_repeat}
use Rattle.rr_syntax.proofs.Lengths.{more_len}
use Rattle.rr_expr.specs.declared.operators.Infix.TheVariants.{Either}
use Rattle.rr_expr.specs.Faults.{takes_constants}
use Rattle.rr_expr.specs.Operators.{infixes}
use Rattle.rr_choice.specs.declared.pick.Pick.{Pick}
use Rattle.rr_choice.specs.Sites.{Site}
use Rattle.rr_choice.specs.Places.{find_pick, is_literal_at}
use Rattle.rr_instance.specs.Instances.{is_guard_of}
use Rattle.rr_respell.specs.Pieces.{Piece, Kept, kept, puts, source_words}
use Rattle.rr_respell.specs.Printing.{literal_pieces, condition_pieces, tree_pieces, part_pieces, more_pieces}
use Rattle.rr_patch.specs.Changes.{Change, changes}
use Rattle.rr_patch.specs.Walks.{opened, closed}
use Rattle.rr_respell.proofs.SourceParts.{Free, free}
use Rattle.rr_respell.proofs.TreeMakes.{tree_makes, condition_makes, more_make}
use Rattle.rr_patch.proofs.Walks.{changes_join, kept_none, kept_words, test_changes}

-- pieces, a token and pieces
pub around : (k : ℕ) (xs ys : List Piece) (w : Word) (n : ℕ) → length (source_words xs) ≡ n → changes k (xs ++ (Kept w ∷ ys)) ≡ changes k xs ++ changes (k + n + 1) ys
unfolding changes
around k xs ys w n e = changes_join k xs (Kept w ∷ ys) ∙ ap (λ (m : ℕ). changes k xs ++ changes (k + m + 1) ys) e

-- pieces and words that stay
pub kept_last : (k : ℕ) (xs : List Piece) (ws : List Word) → changes k (xs ++ kept ws) ≡ changes k xs
kept_last k xs ws = changes_join k xs (kept ws) ∙ ap (λ (l : List Change). changes k xs ++ l) (kept_none (k + length (source_words xs)) ws) ∙ append-nil (changes k xs)

module _ (ss : List Site) (ps : List Pick) where
  abbrev T : Bor Expr → List Piece
  T e = tree_pieces ss ps (plain e.now)

  len : (t : Tree) → length (source_words (tree_pieces ss ps t)) ≡ length (spell t)
  len t = ap length (tree_makes Free ss (free ss) ps t).source

  abbrev Made : List Change → List Change → ℕ → Expr → Type 0
  Made o o' k e = o' ≡ o ++ changes k (tree_pieces ss ps (plain e))

  pub made_Name : (o : List Change) (k : ℕ) (e : Expr) (token : ℕ) (x : Bor (List ℕ)) → e ≡ expr.Name token x → Made o o k e
  unfolding plain tree_pieces changes
  made_Name o k e token x q = sym (append-nil o) ∙ ap (λ (y : Expr). o ++ changes k (tree_pieces ss ps (plain y))) (sym q)

  pub made_Literal : (o o' : List Change) (k : ℕ) (e : Expr) (token : ℕ) (n : Number) → e ≡ expr.Literal token n → o' ≡ o ++ changes k (literal_pieces (find_pick (is_literal_at token) ss ps) n) → Made o o' k e
  unfolding plain tree_pieces
  made_Literal o o' k e token n q h = h ∙ ap (λ (y : Expr). o ++ changes k (tree_pieces ss ps (plain y))) (sym q)

  pub made_Bit : (o : List Change) (k : ℕ) (e : Expr) (token : ℕ) (x : Bor (List ℕ)) (i : Bor Expr) → e ≡ expr.Bit token x i → Made o o k e
  unfolding plain tree_pieces
  made_Bit o k e token x i q =
      sym (append-nil o) ∙ ap (λ (l : List Change). o ++ l) (sym (kept_none k (spell (plain (expr.Bit token x i))))) ∙ ap (λ (y : Expr). o ++ changes k (tree_pieces ss ps (plain y))) (sym q)

  pub made_Part : (o : List Change) (k : ℕ) (e : Expr) (token : ℕ) (x : Bor (List ℕ)) (l r : Bor Expr) → e ≡ expr.Part token x l r → Made o o k e
  unfolding plain tree_pieces
  made_Part o k e token x l r q =
      sym (append-nil o) ∙ ap (λ (l : List Change). o ++ l) (sym (kept_none k (spell (plain (expr.Part token x l r))))) ∙ ap (λ (y : Expr). o ++ changes k (tree_pieces ss ps (plain y))) (sym q)

  pub made_Indexed : (o : List Change) (k : ℕ) (e : Expr) (token : ℕ) (x : Bor (List ℕ)) (f n : Bor Expr) (up : Bool) → e ≡ expr.Indexed token x f n up → Made o o k e
  unfolding plain tree_pieces
  made_Indexed o k e token x f n up q =
      sym (append-nil o) ∙ ap (λ (l : List Change). o ++ l) (sym (kept_none k (spell (plain (expr.Indexed token x f n up))))) ∙ ap (λ (y : Expr). o ++ changes k (tree_pieces ss ps (plain y))) (sym q)

  pub made_Unary : (o o' : List Change) (k : ℕ) (e : Expr) (op : Mark) (x : Bor Expr) → e ≡ expr.Unary op x → o' ≡ o ++ changes (k + 1) (T x) → Made o o' k e
  unfolding plain tree_pieces changes
  made_Unary o o' k e op x q h = h ∙ ap (λ (y : Expr). o ++ changes k (tree_pieces ss ps (plain y))) (sym q)

  pub made_constant : (o : List Change) (k : ℕ) (e : Expr) (op : Mark) (l r : Bor Expr) → e ≡ expr.Binary op l r → takes_constants (get_or infixes op.0 Either) ≡ true → Made o o k e
  unfolding plain tree_pieces
  made_constant o k e op l r q c =
      sym (append-nil o) ∙ ap (λ (l : List Change). o ++ l) (sym (kept_none k (spell (Binary op.0 (plain l.now) (plain r.now)))))
      ∙ ap (λ (b : Bool). o ++ changes k (if b then kept (spell (Binary op.0 (plain l.now) (plain r.now))) else T l ++ (Kept (Marked op.0) ∷ T r))) (sym c)
      ∙ ap (λ (y : Expr). o ++ changes k (tree_pieces ss ps (plain y))) (sym q)

  pub made_Binary : (o o1 o' : List Change) (k m : ℕ) (e : Expr) (op : Mark) (l r : Bor Expr) → e ≡ expr.Binary op l r → takes_constants (get_or infixes op.0 Either) ≡ false →
      o1 ≡ o ++ changes k (T l) → m ≡ k + length (spell (plain l.now)) → o' ≡ o1 ++ changes (m + 1) (T r) → Made o o' k e
  unfolding plain tree_pieces
  made_Binary o o1 o' k m e op l r q c a n b =
      b ∙ ap (λ (x : List Change). x ++ changes (m + 1) (T r)) a ∙ append_assoc o (changes k (T l)) (changes (m + 1) (T r))
      ∙ ap (λ (x : List Change). o ++ x) (ap (λ (i : ℕ). changes k (T l) ++ changes (i + 1) (T r)) n ∙ sym (around k (T l) (T r) (Marked op.0) (length (spell (plain l.now))) (len (plain l.now))))
      ∙ ap (λ (b : Bool). o ++ changes k (if b then kept (spell (Binary op.0 (plain l.now) (plain r.now))) else T l ++ (Kept (Marked op.0) ∷ T r))) (sym c)
      ∙ ap (λ (y : Expr). o ++ changes k (tree_pieces ss ps (plain y))) (sym q)

  pub made_Cond : (o o1 o2 o' : List Change) (k m n : ℕ) (e : Expr) (a b c : Bor Expr) → e ≡ expr.Cond a b c →
      o1 ≡ o ++ changes k (condition_pieces ss ps (plain a.now)) → m ≡ k + length (spell (plain a.now)) → o2 ≡ o1 ++ changes (m + 1) (T b) → n ≡ m + 1 + length (spell (plain b.now)) → o' ≡ o2 ++ changes (n + 1) (T c) → Made o o' k e
  unfolding plain tree_pieces
  made_Cond o o1 o2 o' k m n e a b c q h1 p1 h2 p2 h3 =
      let C : List Piece = condition_pieces ss ps (plain a.now) in
      let inner : changes (m + 1) (T b ++ (Kept (Marked mark_colon) ∷ T c)) ≡ changes (m + 1) (T b) ++ changes (n + 1) (T c) =
      around (m + 1) (T b) (T c) (Marked mark_colon) (length (spell (plain b.now))) (len (plain b.now)) ∙ ap (λ (i : ℕ). changes (m + 1) (T b) ++ changes (i + 1) (T c)) (sym p2) in
      let outer : changes k (C ++ (Kept (Marked mark_question) ∷ (T b ++ (Kept (Marked mark_colon) ∷ T c)))) ≡ changes k C ++ (changes (m + 1) (T b) ++ changes (n + 1) (T c)) =
      around k C (T b ++ (Kept (Marked mark_colon) ∷ T c)) (Marked mark_question) (length (spell (plain a.now))) (ap length (condition_makes Free ss (free ss) ps (plain a.now)).source)
      ∙ ap (λ (i : ℕ). changes k C ++ changes (i + 1) (T b ++ (Kept (Marked mark_colon) ∷ T c))) (sym p1) ∙ ap (λ (x : List Change). changes k C ++ x) inner in
      h3 ∙ ap (λ (x : List Change). x ++ changes (n + 1) (T c)) (h2 ∙ ap (λ (x : List Change). x ++ changes (m + 1) (T b)) h1)
      ∙ append_assoc (o ++ changes k C) (changes (m + 1) (T b)) (changes (n + 1) (T c)) ∙ append_assoc o (changes k C) (changes (m + 1) (T b) ++ changes (n + 1) (T c))
      ∙ ap (λ (x : List Change). o ++ x) (sym outer)
      ∙ ap (λ (y : Expr). o ++ changes k (tree_pieces ss ps (plain y))) (sym q)

  -- with brackets or braces round pieces, the parts of a list stand where a mark before the first would put them
  pub parts_are : (k : ℕ) (ts : Trees) → changes (k + 1) (part_pieces ss ps ts) ≡ changes k (more_pieces ss ps ts)
  unfolding tree_pieces changes
  parts_are k End = refl
  parts_are k (More t ts) = refl

  pub made_Concat : (o o' : List Change) (k : ℕ) (e : Expr) (parts : Bor (List Expr)) → e ≡ expr.Concat parts → o' ≡ o ++ changes k (more_pieces ss ps (plain_list parts.now)) → Made o o' k e
  unfolding tree_pieces changes
  made_Concat o o' k e parts q h =
      h ∙ ap (λ (x : List Change). o ++ x) (sym (kept_last (k + 1) (part_pieces ss ps (plain_list parts.now)) (Marked mark_close_brace ∷ []) ∙ parts_are k (plain_list parts.now)))
      ∙ ap (λ (y : Tree). o ++ changes k (tree_pieces ss ps y)) (sym (plain_concat parts)) ∙ ap (λ (y : Expr). o ++ changes k (tree_pieces ss ps (plain y))) (sym q)

  pub made_Repeat : (o o' : List Change) (k : ℕ) (e : Expr) (n : Bor Expr) (parts : Bor (List Expr)) → e ≡ expr.Repeat n parts →
      o' ≡ o ++ changes (k + 1 + length (spell (plain n.now))) (more_pieces ss ps (plain_list parts.now)) → Made o o' k e
  unfolding tree_pieces changes
  made_Repeat o o' k e n parts q h =
      let w : List Word = spell (plain n.now) in
      let P : List Piece = part_pieces ss ps (plain_list parts.now) in
      let inner : changes (k + 1 + length w + 1) (P ++ kept (Marked mark_close_brace ∷ (Marked mark_close_brace ∷ []))) ≡ changes (k + 1 + length w) (more_pieces ss ps (plain_list parts.now)) =
      kept_last (k + 1 + length w + 1) P (Marked mark_close_brace ∷ (Marked mark_close_brace ∷ [])) ∙ parts_are (k + 1 + length w) (plain_list parts.now) in
      let outer = around (k + 1) (kept w) (P ++ kept (Marked mark_close_brace ∷ (Marked mark_close_brace ∷ []))) (Marked mark_open_brace) (length w) (ap length (kept_words w)) in
      h ∙ ap (λ (x : List Change). o ++ x) (sym (outer ∙ ap (λ (x : List Change). x ++ changes (k + 1 + length w + 1) (P ++ kept (Marked mark_close_brace ∷ (Marked mark_close_brace ∷ [])))) (kept_none (k + 1) w) ∙ inner))
      ∙ ap (λ (y : Tree). o ++ changes k (tree_pieces ss ps y)) (sym (plain_repeat n parts)) ∙ ap (λ (y : Expr). o ++ changes k (tree_pieces ss ps (plain y))) (sym q)

  pub made_Cast : (o o' : List Change) (k : ℕ) (e : Expr) (signed : Bool) (x : Bor Expr) → e ≡ expr.Cast signed x → o' ≡ o ++ changes (k + 2) (T x) → Made o o' k e
  unfolding plain tree_pieces changes
  made_Cast o o' k e signed x q h =
      h ∙ ap (λ (l : List Change). o ++ l) (ap (λ (i : ℕ). changes i (T x)) (omega arith) ∙ sym (kept_last (k + 1 + 1) (T x) (Marked mark_close_parenthesis ∷ []))) ∙ ap (λ (y : Expr). o ++ changes k (tree_pieces ss ps (plain y))) (sym q)

  pub made_Paren : (o o' : List Change) (k : ℕ) (e : Expr) (x : Bor Expr) → e ≡ expr.Paren x → o' ≡ o ++ changes (k + 1) (T x) → Made o o' k e
  unfolding plain tree_pieces changes
  made_Paren o o' k e x q h =
      h ∙ ap (λ (l : List Change). o ++ l) (sym (kept_last (k + 1) (T x) (Marked mark_close_parenthesis ∷ []))) ∙ ap (λ (y : Expr). o ++ changes k (tree_pieces ss ps (plain y))) (sym q)

  -- a condition
  pub made_condition : (o o1 o2 o' : List Change) (k m : ℕ) (t : Tree) → o1 ≡ o ++ changes k (puts (opened (find_pick (is_guard_of t) ss ps))) → o2 ≡ o1 ++ changes k (tree_pieces ss ps t) →
      m ≡ k + length (spell t) → o' ≡ o2 ++ changes m (puts (closed (find_pick (is_guard_of t) ss ps))) → o' ≡ o ++ changes k (condition_pieces ss ps t)
  made_condition o o1 o2 o' k m t a b n c =
      let f = find_pick (is_guard_of t) ss ps in
      let A = changes k (puts (opened f)) in
      let B = changes k (tree_pieces ss ps t) in
      let C = changes m (puts (closed f)) in
      c ∙ ap (λ (x : List Change). x ++ C) (b ∙ ap (λ (x : List Change). x ++ B) a) ∙ append_assoc (o ++ A) B C ∙ append_assoc o A (B ++ C)
      ∙ ap (λ (x : List Change). o ++ x)
      (ap (λ (i : ℕ). A ++ (B ++ changes i (puts (closed f)))) (n ∙ ap (λ (j : ℕ). k + j) (sym (len t))) ∙ sym (test_changes k f (tree_pieces ss ps t)))

  -- one part more
  more_snoc : (es : List Expr) (x : Expr) → more_pieces ss ps (plain_list (es ++ x ∷ [])) ≡ more_pieces ss ps (plain_list es) ++ (Kept (Marked mark_comma) ∷ (tree_pieces ss ps (plain x) ++ []))
  unfolding plain_list tree_pieces
  more_snoc [] x = refl
  more_snoc (e ∷ es) x =
      ap (λ (l : List Piece). Kept (Marked mark_comma) ∷ l)
      (ap (λ (l : List Piece). tree_pieces ss ps (plain e) ++ l) (more_snoc es x) ∙ sym (append_assoc (tree_pieces ss ps (plain e)) (more_pieces ss ps (plain_list es)) _))

  pub more_none : (o : List Change) (k : ℕ) → o ≡ o ++ changes k (more_pieces ss ps (plain_list []))
  unfolding plain_list tree_pieces changes
  more_none o k = sym (append-nil o)

  pub more_next : (o o1 o2 : List Change) (es : List Expr) (i : ℕ) (x : Expr) (k next : ℕ) → i < length es → x ≡ get_or es i x → next ≡ k + more_len (take i es) →
      o1 ≡ o ++ changes k (more_pieces ss ps (plain_list (take i es))) → o2 ≡ o1 ++ changes (next + 1) (tree_pieces ss ps (plain x)) →
      o2 ≡ o ++ changes k (more_pieces ss ps (plain_list (take (i + 1) es)))
  more_next o o1 o2 es i x k next l is n a b =
      let M : List Piece = more_pieces ss ps (plain_list (take i es)) in
      let X : List Piece = tree_pieces ss ps (plain x) in
      let up : take (i + 1) es ≡ take i es ++ x ∷ [] = take_more es i x l ∙ ap (λ (y : Expr). take i es ++ y ∷ []) (sym is) in
      let w : length (source_words M) ≡ more_len (take i es) = ap length (more_make Free ss (free ss) ps (plain_list (take i es))).source in
      b ∙ ap (λ (y : List Change). y ++ changes (next + 1) X) a ∙ append_assoc o (changes k M) (changes (next + 1) X)
      ∙ ap (λ (y : List Change). o ++ y)
      (ap (λ (j : ℕ). changes k M ++ changes (j + 1) X) n ∙ ap (λ (y : List Piece). changes k M ++ changes (k + more_len (take i es) + 1) y) (sym (append-nil X))
      ∙ sym (around k M (X ++ []) (Marked mark_comma) (more_len (take i es)) w) ∙ sym (ap (changes k) (more_snoc (take i es) x)) ∙ ap (λ (y : List Expr). changes k (more_pieces ss ps (plain_list y))) (sym up))

pub ruleset walks =
    (made_Name, made_Literal, made_Bit, made_Part, made_Indexed, made_Unary, made_constant, made_Binary, made_Cond, made_Concat, made_Repeat, made_Cast, made_Paren, made_condition)
