-- The changes of statements, node by node.
use Rattle.std.proofs.Common.{◌≡◌, ℕ, ◌+◌, ◌-◌, ◌<◌, Bool, true, false, cond, List, [], ◌∷◌, ◌++◌, take, get_or, length, Option, None, Some, refl, sym, ◌∙◌, ap, arith, append-nil}
use denote.Ref.{Bor}
use Rattle.std.proofs.lemmas.List.{append_assoc, take_more, length-append}
use Rattle.rr_syntax.specs.declared.token.Keyword.{Keyword}
use Rattle.rr_syntax.specs.declared.tree.Arm.{Arm as Branch}
use Rattle.rr_syntax.specs.declared.tree.Expr.{Expr}
use Rattle.rr_syntax.specs.declared.tree.Head.{Head}
use Rattle.rr_syntax.specs.declared.tree.Named.{Named}
use Rattle.rr_syntax.specs.declared.tree.Stmt.{Stmt}
use Rattle.rr_syntax.specs.declared.tree.Stmt.TheVariants as stmt
use Rattle.rr_syntax.specs.Words.{Word, Reserved, Marked, keyword_end, keyword_else, keyword_endcase, mark_colon, mark_semicolon, mark_close_parenthesis, mark_equals, mark_less_or_equal}
use Rattle.rr_syntax.specs.Tree.{End, Statement}
use Rattle.rr_syntax.specs.Expressions.{spell, spell_parts, spell_more}
use Rattle.rr_syntax.specs.Statements.{spell_label, spell_labels, spell_loop, spell_statement}
use Rattle.rr_syntax.specs.View.{plain, plain_list, plain_label, plain_loop, plain_statement, plain_statements, plain_arm, plain_arms}
use Rattle.rr_syntax.proofs.Lengths.{body_len, cases_len, parts_len}
use Rattle.rr_syntax.proofs.Rows.{plain_block, plain_case}
use Rattle.rr_choice.specs.declared.pick.Pick.{Pick}
use Rattle.rr_choice.specs.Sites.{Site}
use Rattle.rr_respell.specs.Pieces.{Piece, Kept, kept, source_words}
use Rattle.rr_respell.specs.Printing.{condition_pieces, tree_pieces, part_pieces, more_pieces, label_pieces, statement_pieces, statements_pieces, arm_pieces, arms_pieces}
use Rattle.rr_patch.specs.Changes.{Change, changes}
use Rattle.rr_respell.proofs.SourceParts.{Free, free, statement_makes, statements_make, arms_make, labels_make}
use Rattle.rr_respell.proofs.TreeMakes.{tree_makes, condition_makes}
use Rattle.rr_patch.proofs.Walks.{changes_join, kept_none, kept_words}
use Rattle.rr_patch.proofs.TreeWalks.{around, kept_last, parts_are}

-- two lots of changes, one after the other
pub two : (o o1 o' A B C : List Change) → o1 ≡ o ++ A → o' ≡ o1 ++ B → C ≡ A ++ B → o' ≡ o ++ C
two o o1 o' A B C a b c = b ∙ ap (λ (x : List Change). x ++ B) a ∙ append_assoc o A B ∙ ap (λ (x : List Change). o ++ x) (sym c)

-- words that stay, and pieces
pub kept_first : (k : ℕ) (ws : List Word) (xs : List Piece) → changes k (kept ws ++ xs) ≡ changes (k + length ws) xs
kept_first k ws xs =
    changes_join k (kept ws) xs ∙ ap (λ (l : List Change). l ++ changes (k + length (source_words (kept ws))) xs) (kept_none k ws) ∙ ap (λ (w : List Word). changes (k + length w) xs) (kept_words ws)

module _ (ss : List Site) (ps : List Pick) where
  abbrev T : Bor Expr → List Piece
  T e = tree_pieces ss ps (plain e.now)

  abbrev C : Bor Expr → List Piece
  C e = condition_pieces ss ps (plain e.now)

  abbrev S : Bor Stmt → List Piece
  S s = statement_pieces ss ps (plain_statement s.now)

  clen : (e : Bor Expr) → length (source_words (C e)) ≡ length (spell (plain e.now))
  clen e = ap length (condition_makes Free ss (free ss) ps (plain e.now)).source

  tlen : (e : Bor Expr) → length (source_words (T e)) ≡ length (spell (plain e.now))
  tlen e = ap length (tree_makes Free ss (free ss) ps (plain e.now)).source

  slen : (s : Stmt) → length (source_words (statement_pieces ss ps (plain_statement s))) ≡ length (spell_statement (plain_statement s))
  slen s = ap length (statement_makes Free ss (free ss) ps (plain_statement s)).source

  abbrev Made : List Change → List Change → ℕ → Stmt → Type 0
  Made o o' k s = o' ≡ o ++ changes k (statement_pieces ss ps (plain_statement s))

  at_node : (o o' : List Change) (k : ℕ) (s u : Stmt) → s ≡ u → Made o o' k u → Made o o' k s
  at_node o o' k s u q h = h ∙ ap (λ (y : Stmt). o ++ changes k (statement_pieces ss ps (plain_statement y))) (sym q)

  pub made_Null : (o : List Change) (k : ℕ) (s : Stmt) → s ≡ stmt.Null → Made o o k s
  unfolding plain_statement statement_pieces changes
  made_Null o k s q = at_node o o k s stmt.Null q (sym (append-nil o))

  pub made_Block : (o o' : List Change) (k : ℕ) (s : Stmt) (label : Option Named) (body : Bor (List Stmt)) → s ≡ stmt.Block label body →
      o' ≡ o ++ changes (k + 1 + length (spell_label (plain_label label))) (statements_pieces ss ps (plain_statements body.now)) → Made o o' k s
  unfolding statement_pieces changes
  made_Block o o' k s label body q h =
      at_node o o' k s (stmt.Block label body) q
      (h ∙ ap (λ (l : List Change). o ++ l)
      (sym (kept_last (k + 1 + length (spell_label (plain_label label))) (statements_pieces ss ps (plain_statements body.now)) (Reserved keyword_end ∷ []))
      ∙ sym (kept_first (k + 1) (spell_label (plain_label label)) (statements_pieces ss ps (plain_statements body.now) ++ kept (Reserved keyword_end ∷ []))))
      ∙ ap (λ (y : Statement). o ++ changes k (statement_pieces ss ps y)) (sym (plain_block label body)))

  pub made_If : (o o1 o' : List Change) (k m : ℕ) (s : Stmt) (c : Bor Expr) (t : Bor Stmt) → s ≡ stmt.If c t None →
      o1 ≡ o ++ changes (k + 2) (C c) → m ≡ k + 2 + length (spell (plain c.now)) → o' ≡ o1 ++ changes (m + 1) (S t) → Made o o' k s
  unfolding plain_statement statement_pieces changes
  made_If o o1 o' k m s c t q a n b =
      at_node o o' k s (stmt.If c t None) q
      (two o o1 o' (changes (k + 2) (C c)) (changes (m + 1) (S t)) _ a b
      (ap (λ (i : ℕ). changes i (C c ++ (Kept (Marked mark_close_parenthesis) ∷ S t))) (omega arith)
      ∙ around (k + 2) (C c) (S t) (Marked mark_close_parenthesis) (length (spell (plain c.now))) (clen c) ∙ ap (λ (i : ℕ). changes (k + 2) (C c) ++ changes (i + 1) (S t)) (sym n)))

  pub made_IfElse : (o o1 o2 o' : List Change) (k m n : ℕ) (s : Stmt) (c : Bor Expr) (t u : Bor Stmt) → s ≡ stmt.If c t (Some u) →
      o1 ≡ o ++ changes (k + 2) (C c) → m ≡ k + 2 + length (spell (plain c.now)) → o2 ≡ o1 ++ changes (m + 1) (S t) → n ≡ m + 1 + length (spell_statement (plain_statement t.now)) → o' ≡ o2 ++ changes (n + 1) (S u) → Made o o' k s
  unfolding plain_statement statement_pieces changes
  made_IfElse o o1 o2 o' k m n s c t u q a p b r d =
      let R : List Piece = S t ++ (Kept (Reserved keyword_else) ∷ S u) in
      let inner : changes (m + 1) R ≡ changes (m + 1) (S t) ++ changes (n + 1) (S u) =
      around (m + 1) (S t) (S u) (Reserved keyword_else) (length (spell_statement (plain_statement t.now))) (slen t.now) ∙ ap (λ (i : ℕ). changes (m + 1) (S t) ++ changes (i + 1) (S u)) (sym r) in
      at_node o o' k s (stmt.If c t (Some u)) q
      (two o o1 o' (changes (k + 2) (C c)) (changes (m + 1) R) _ a (two o1 o2 o' (changes (m + 1) (S t)) (changes (n + 1) (S u)) (changes (m + 1) R) b d inner)
      (ap (λ (i : ℕ). changes i (C c ++ (Kept (Marked mark_close_parenthesis) ∷ R))) (omega arith)
      ∙ around (k + 2) (C c) R (Marked mark_close_parenthesis) (length (spell (plain c.now))) (clen c) ∙ ap (λ (i : ℕ). changes (k + 2) (C c) ++ changes (i + 1) R) (sym p)))

  pub made_Case : (o o1 o' : List Change) (k m : ℕ) (s : Stmt) (kind : Keyword) (on : Bor Expr) (arms : Bor (List Branch)) → s ≡ stmt.Case kind on arms →
      o1 ≡ o ++ changes (k + 2) (T on) → m ≡ k + 2 + length (spell (plain on.now)) → o' ≡ o1 ++ changes (m + 1) (arms_pieces ss ps (plain_arms arms.now)) → Made o o' k s
  unfolding statement_pieces changes
  made_Case o o1 o' k m s kind on arms q a n b =
      let A : List Piece = arms_pieces ss ps (plain_arms arms.now) in
      let R : List Piece = A ++ kept (Reserved keyword_endcase ∷ []) in
      at_node o o' k s (stmt.Case kind on arms) q
      (two o o1 o' (changes (k + 2) (T on)) (changes (m + 1) A) _ a b
      (ap (λ (i : ℕ). changes i (T on ++ (Kept (Marked mark_close_parenthesis) ∷ R))) (omega arith)
      ∙ around (k + 2) (T on) R (Marked mark_close_parenthesis) (length (spell (plain on.now))) (tlen on)
      ∙ ap (λ (i : ℕ). changes (k + 2) (T on) ++ changes (i + 1) R) (sym n) ∙ ap (λ (l : List Change). changes (k + 2) (T on) ++ l) (kept_last (m + 1) A (Reserved keyword_endcase ∷ [])))
      ∙ ap (λ (y : Statement). o ++ changes k (statement_pieces ss ps y)) (sym (plain_case kind on arms)))

  pub made_Assign : (o o' : List Change) (k : ℕ) (s : Stmt) (t : Bor Expr) (now : Bool) (v : Bor Expr) → s ≡ stmt.Assign t now v → o' ≡ o ++ changes (k + length (spell (plain t.now)) + 1) (T v) → Made o o' k s
  unfolding plain_statement statement_pieces changes
  made_Assign o o' k s t now v q h =
      at_node o o' k s (stmt.Assign t now v) q
      (h ∙ ap (λ (l : List Change). o ++ l)
      (sym (kept_last (k + length (spell (plain t.now)) + 1) (T v) (Marked mark_semicolon ∷ []))
      ∙ sym (kept_first k (spell (plain t.now)) (Kept (Marked (cond now mark_equals mark_less_or_equal)) ∷ (T v ++ kept (Marked mark_semicolon ∷ []))))))

  pub made_For : (o o' : List Change) (k : ℕ) (s : Stmt) (h : Head) (t : Bor Stmt) → s ≡ stmt.For h t → o' ≡ o ++ changes (k + 1 + length (spell_loop (plain_loop h))) (S t) → Made o o' k s
  unfolding plain_statement statement_pieces changes
  made_For o o' k s h t q e =
      at_node o o' k s (stmt.For h t) q (e ∙ ap (λ (l : List Change). o ++ l) (sym (kept_first (k + 1) (spell_loop (plain_loop h)) (S t))))

  -- one statement more
  statements_snoc : (body : List Stmt) (s : Stmt) → statements_pieces ss ps (plain_statements (body ++ s ∷ [])) ≡ statements_pieces ss ps (plain_statements body) ++ statement_pieces ss ps (plain_statement s)
  unfolding plain_statements statement_pieces
  statements_snoc [] s = append-nil (statement_pieces ss ps (plain_statement s))
  statements_snoc (u ∷ body) s =
      ap (λ (l : List Piece). statement_pieces ss ps (plain_statement u) ++ l) (statements_snoc body s)
      ∙ sym (append_assoc (statement_pieces ss ps (plain_statement u)) (statements_pieces ss ps (plain_statements body)) (statement_pieces ss ps (plain_statement s)))

  pub statements_none : (o : List Change) (k : ℕ) → o ≡ o ++ changes k (statements_pieces ss ps (plain_statements []))
  unfolding plain_statements statement_pieces changes
  statements_none o k = sym (append-nil o)

  pub statements_next : (o o1 o2 : List Change) (body : List Stmt) (i : ℕ) (s : Stmt) (k next : ℕ) → i < length body → s ≡ get_or body i s → next ≡ k + body_len (take i body) →
      o1 ≡ o ++ changes k (statements_pieces ss ps (plain_statements (take i body))) → o2 ≡ o1 ++ changes next (statement_pieces ss ps (plain_statement s)) →
      o2 ≡ o ++ changes k (statements_pieces ss ps (plain_statements (take (i + 1) body)))
  statements_next o o1 o2 body i s k next l is n a b =
      let B : List Piece = statements_pieces ss ps (plain_statements (take i body)) in
      let X : List Piece = statement_pieces ss ps (plain_statement s) in
      let up : take (i + 1) body ≡ take i body ++ s ∷ [] = take_more body i s l ∙ ap (λ (y : Stmt). take i body ++ y ∷ []) (sym is) in
      let w : length (source_words B) ≡ body_len (take i body) = ap length (statements_make Free ss (free ss) ps (plain_statements (take i body))).source in
      two o o1 o2 (changes k B) (changes next X) _ a b
      (ap (λ (y : List Stmt). changes k (statements_pieces ss ps (plain_statements y))) up ∙ ap (changes k) (statements_snoc (take i body) s) ∙ changes_join k B X
      ∙ ap (λ (j : ℕ). changes k B ++ changes j X) (ap (λ (j : ℕ). k + j) w ∙ sym n))

  -- one arm more
  arms_snoc : (arms : List Branch) (a : Branch) → arms_pieces ss ps (plain_arms (arms ++ a ∷ [])) ≡ arms_pieces ss ps (plain_arms arms) ++ arm_pieces ss ps (plain_arm a)
  unfolding plain_arms statement_pieces
  arms_snoc [] a = append-nil (arm_pieces ss ps (plain_arm a))
  arms_snoc (u ∷ arms) a =
      ap (λ (l : List Piece). arm_pieces ss ps (plain_arm u) ++ l) (arms_snoc arms a) ∙ sym (append_assoc (arm_pieces ss ps (plain_arm u)) (arms_pieces ss ps (plain_arms arms)) (arm_pieces ss ps (plain_arm a)))

  pub arms_none : (o : List Change) (k : ℕ) → o ≡ o ++ changes k (arms_pieces ss ps (plain_arms []))
  unfolding plain_arms statement_pieces changes
  arms_none o k = sym (append-nil o)

  arm_split : (k : ℕ) (a : Branch) →
      changes k (arm_pieces ss ps (plain_arm a)) ≡ changes k (label_pieces ss ps (plain_list a.labels.now) a.colon) ++ changes (k + length (spell_labels (plain_list a.labels.now) a.colon)) (S a.body)
  unfolding plain_arm statement_pieces
  arm_split k a =
      changes_join k (label_pieces ss ps (plain_list a.labels.now) a.colon) (S a.body)
      ∙ ap (λ (j : ℕ). changes k (label_pieces ss ps (plain_list a.labels.now) a.colon) ++ changes (k + j) (S a.body)) (ap length (labels_make Free ss (free ss) ps (plain_list a.labels.now) a.colon).source)

  pub arms_next : (o o1 o2 o3 : List Change) (arms : List Branch) (i : ℕ) (a : Branch) (k next colon : ℕ) → i < length arms → a ≡ get_or arms i a → next ≡ k + cases_len (take i arms) →
      o1 ≡ o ++ changes k (arms_pieces ss ps (plain_arms (take i arms))) → o2 ≡ o1 ++ changes next (label_pieces ss ps (plain_list a.labels.now) a.colon) →
      colon ≡ next + length (spell_labels (plain_list a.labels.now) a.colon) → o3 ≡ o2 ++ changes colon (S a.body) →
      o3 ≡ o ++ changes k (arms_pieces ss ps (plain_arms (take (i + 1) arms)))
  arms_next o o1 o2 o3 arms i a k next colon l is n h1 h2 c h3 =
      let B : List Piece = arms_pieces ss ps (plain_arms (take i arms)) in
      let X : List Piece = arm_pieces ss ps (plain_arm a) in
      let L : List Piece = label_pieces ss ps (plain_list a.labels.now) a.colon in
      let up : take (i + 1) arms ≡ take i arms ++ a ∷ [] = take_more arms i a l ∙ ap (λ (y : Branch). take i arms ++ y ∷ []) (sym is) in
      let w : length (source_words B) ≡ cases_len (take i arms) = ap length (arms_make Free ss (free ss) ps (plain_arms (take i arms))).source in
      two o o1 o3 (changes k B) (changes next X) _ h1
      (two o1 o2 o3 (changes next L) (changes colon (S a.body)) (changes next X) h2 h3 (arm_split next a ∙ ap (λ (j : ℕ). changes next L ++ changes j (S a.body)) (sym c)))
      (ap (λ (y : List Branch). changes k (arms_pieces ss ps (plain_arms y))) up ∙ ap (changes k) (arms_snoc (take i arms) a) ∙ changes_join k B X
      ∙ ap (λ (j : ℕ). changes k B ++ changes j X) (ap (λ (j : ℕ). k + j) w ∙ sym n))

  -- labels
  pub label_none : (o : List Change) (k : ℕ) (es : List Expr) (colon : Bool) → length es ≡ 0 → o ≡ o ++ changes k (label_pieces ss ps (plain_list es) colon)
  unfolding label_pieces plain_list
  label_none o k [] colon e = sym (append-nil o) ∙ ap (λ (l : List Change). o ++ l) (sym (kept_none k (spell_labels End colon)))
  label_none o k (x ∷ es) colon e = absurd (omega (arith, e))

  pub label_some : (o o' : List Change) (k : ℕ) (es : List Expr) (colon : Bool) → (length es ≡ 0 → ⊥) → 0 < k → o' ≡ o ++ changes (k - 1) (more_pieces ss ps (plain_list es)) → o' ≡ o ++ changes k (label_pieces ss ps (plain_list es) colon)
  unfolding label_pieces plain_list
  label_some o o' k [] colon e p h = absurd (e refl)
  label_some o o' k (x ∷ es) colon e p h =
      h ∙ ap (λ (l : List Change). o ++ l)
      (sym (parts_are ss ps (k - 1) (plain_list (x ∷ es))) ∙ ap (λ (i : ℕ). changes i (part_pieces ss ps (plain_list (x ∷ es)))) (omega (arith, p)) ∙ sym (kept_last k (part_pieces ss ps (plain_list (x ∷ es))) (Marked mark_colon ∷ [])))

-- how many tokens labels have
pub label_two : (es : List Expr) (colon : Bool) → length es ≡ 0 → colon ≡ true → length (spell_labels (plain_list es) colon) ≡ 2
unfolding spell_labels plain_list
label_two [] true e q = refl
label_two [] false e q = absurd (let bad : false ≡ true = q in cc)
label_two (x ∷ es) colon e q = absurd (omega (arith, e))

pub label_one : (es : List Expr) (colon : Bool) → length es ≡ 0 → colon ≡ false → length (spell_labels (plain_list es) colon) ≡ 1
unfolding spell_labels plain_list
label_one [] false e q = refl
label_one [] true e q = absurd (let bad : true ≡ false = q in cc)
label_one (x ∷ es) colon e q = absurd (omega (arith, e))

pub label_more : (es : List Expr) (colon : Bool) → (length es ≡ 0 → ⊥) → length (spell_labels (plain_list es) colon) ≡ length (spell_more (plain_list es))
unfolding spell_labels plain_list spell
label_more [] colon e = absurd (e refl)
label_more (x ∷ es) colon e =
    let p = parts_len (plain_list (x ∷ es)) in let a = length-append (spell_parts (plain_list (x ∷ es))) (Marked mark_colon ∷ []) in omega (arith, p, a)

pub ruleset label_steps = (label_none, label_some, label_two, label_one, label_more)
