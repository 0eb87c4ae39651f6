-- The changes of statements in which each `<=` that assigns becomes `=`, node by node.
use Rattle.std.proofs.Common.{◌≡◌, ℕ, ◌+◌, ◌<◌, Bool, true, false, List, [], ◌∷◌, ◌++◌, take, get_or, length, Option, None, Some, refl, sym, ◌∙◌, ap, arith, append-nil}
use denote.Ref.{Bor}
use Rattle.std.proofs.lemmas.List.{append_assoc, take_more, length-append}
use Rattle.rr_syntax.specs.declared.token.Keyword.{Keyword}
use Rattle.rr_syntax.specs.declared.tree.Arm.{Arm as Branch}
use Rattle.rr_syntax.specs.declared.tree.Expr.{Expr}
use Rattle.rr_syntax.specs.declared.tree.Head.{Head}
use Rattle.rr_syntax.specs.declared.tree.Named.{Named}
use Rattle.rr_syntax.specs.declared.tree.Stmt.{Stmt}
use Rattle.rr_syntax.specs.declared.tree.Stmt.TheVariants as stmt
use Rattle.rr_syntax.specs.Words.{Word, Reserved, Marked, keyword_begin, keyword_for, keyword_if, keyword_end, keyword_else, keyword_endcase, mark_semicolon, mark_open_parenthesis, mark_close_parenthesis, mark_equals, mark_less_or_equal}
use Rattle.rr_syntax.specs.Tree.{Statement}
use Rattle.rr_syntax.specs.Expressions.{spell}
use Rattle.rr_syntax.specs.Statements.{spell_label, spell_labels, spell_loop, spell_statement}
use Rattle.rr_syntax.specs.View.{plain, plain_list, plain_label, plain_loop, plain_statement, plain_statements, plain_arm, plain_arms}
use Rattle.rr_syntax.proofs.Lengths.{body_len, cases_len}
use Rattle.rr_syntax.proofs.Rows.{plain_block, plain_case}
use Rattle.rr_lex.specs.Patch.{new_mark}
use Rattle.rr_respell.specs.Pieces.{Piece, Kept, Replaced, kept, source_words}
use Rattle.rr_patch.specs.declared.change.Change.{Change as Given}
use Rattle.rr_patch.specs.declared.change.Added.TheVariants as added
use Rattle.rr_patch.specs.declared.change.Fixed.TheVariants as fixed
use Rattle.rr_patch.specs.Changes.{Change, changes, plain_changes}
use Rattle.rr_patch.proofs.StatementWalks.{two, kept_first}
use Rattle.rr_patch.proofs.TreeWalks.{around, kept_last}
use Rattle.rr_patch.proofs.Walks.{changes_join, kept_none, one_made}
use Rattle.rr_lint_print.specs.Pieces.{immediate_pieces, all_immediate_pieces, arm_immediate_pieces, arms_immediate_pieces}
use Rattle.rr_lint.specs.Walks.{mark_pieces}
use Rattle.rr_lint.proofs.Making.{size, statement_has, statements_have, arms_have}

-- words that stay
pub stays : (o : List Change) (k : ℕ) (ws : List Word) → o ≡ o ++ changes k (kept ws)
stays o k ws = sym (append-nil o) ∙ ap (λ (l : List Change). o ++ l) (sym (kept_none k ws))

-- a condition in brackets, and what follows
headed : (k m : ℕ) (v w z : Word) (c : List Word) (xs : List Piece) → m ≡ k + 3 + length c → changes k (kept (v ∷ (w ∷ (c ++ (z ∷ [])))) ++ xs) ≡ changes m xs
headed k m v w z c xs e =
    let a = length-append c (z ∷ []) in
    kept_first k (v ∷ (w ∷ (c ++ (z ∷ [])))) xs ∙ ap (λ (j : ℕ). changes j xs) (omega (arith, a, e))

abbrev S : Bor Stmt → List Piece
S s = immediate_pieces (plain_statement s.now)

abbrev Made : List Change → List Change → ℕ → Stmt → Type 0
Made o o' k s = o' ≡ o ++ changes k (immediate_pieces (plain_statement s))

at_node : (o o' : List Change) (k : ℕ) (s u : Stmt) → s ≡ u → Made o o' k u → Made o o' k s
at_node o o' k s u q h = h ∙ ap (λ (y : Stmt). o ++ changes k (immediate_pieces (plain_statement y))) (sym q)

pub made_Null : (o : List Change) (k : ℕ) (s : Stmt) → s ≡ stmt.Null → Made o o k s
unfolding plain_statement immediate_pieces
made_Null o k s q = at_node o o k s stmt.Null q (stays o k (spell_statement (plain_statement stmt.Null)))

pub made_Block : (o o' : List Change) (k m : ℕ) (s : Stmt) (label : Option Named) (body : Bor (List Stmt)) → s ≡ stmt.Block label body → m ≡ k + 1 + length (spell_label (plain_label label)) →
    o' ≡ o ++ changes m (all_immediate_pieces (plain_statements body.now)) → Made o o' k s
unfolding immediate_pieces
made_Block o o' k m s label body q n h =
    let A : List Piece = all_immediate_pieces (plain_statements body.now) in
    let W : List Word = Reserved keyword_begin ∷ spell_label (plain_label label) in
    at_node o o' k s (stmt.Block label body) q
    (h ∙ ap (λ (l : List Change). o ++ l)
    (sym (kept_first k W (A ++ kept (Reserved keyword_end ∷ [])) ∙ ap (λ (j : ℕ). changes j (A ++ kept (Reserved keyword_end ∷ []))) (omega (arith, n)) ∙ kept_last m A (Reserved keyword_end ∷ [])))
    ∙ ap (λ (y : Statement). o ++ changes k (immediate_pieces y)) (sym (plain_block label body)))

pub made_If : (o o' : List Change) (k m : ℕ) (s : Stmt) (c : Bor Expr) (t : Bor Stmt) → s ≡ stmt.If c t None → m ≡ k + 3 + length (spell (plain c.now)) → o' ≡ o ++ changes m (S t) → Made o o' k s
unfolding plain_statement immediate_pieces
made_If o o' k m s c t q n h =
    at_node o o' k s (stmt.If c t None) q
    (h ∙ ap (λ (l : List Change). o ++ l) (sym (headed k m (Reserved keyword_if) (Marked mark_open_parenthesis) (Marked mark_close_parenthesis) (spell (plain c.now)) (S t) n)))

pub made_IfElse : (o o1 o' : List Change) (k m n : ℕ) (s : Stmt) (c : Bor Expr) (t u : Bor Stmt) → s ≡ stmt.If c t (Some u) → m ≡ k + 3 + length (spell (plain c.now)) → o1 ≡ o ++ changes m (S t) →
    n ≡ m + length (spell_statement (plain_statement t.now)) → o' ≡ o1 ++ changes (n + 1) (S u) → Made o o' k s
unfolding plain_statement immediate_pieces
made_IfElse o o1 o' k m n s c t u q p a r b =
    at_node o o' k s (stmt.If c t (Some u)) q
    (two o o1 o' (changes m (S t)) (changes (n + 1) (S u)) _ a b
    (headed k m (Reserved keyword_if) (Marked mark_open_parenthesis) (Marked mark_close_parenthesis) (spell (plain c.now)) (S t ++ (Kept (Reserved keyword_else) ∷ S u)) p
    ∙ around m (S t) (S u) (Reserved keyword_else) (length (spell_statement (plain_statement t.now))) (size (S t) (spell_statement (plain_statement t.now)) (statement_has (plain_statement t.now)))
    ∙ ap (λ (i : ℕ). changes m (S t) ++ changes (i + 1) (S u)) (sym r)))

pub made_Case : (o o' : List Change) (k m : ℕ) (s : Stmt) (kind : Keyword) (on : Bor Expr) (arms : Bor (List Branch)) → s ≡ stmt.Case kind on arms → m ≡ k + 3 + length (spell (plain on.now)) →
    o' ≡ o ++ changes m (arms_immediate_pieces (plain_arms arms.now)) → Made o o' k s
unfolding immediate_pieces
made_Case o o' k m s kind on arms q n h =
    let A : List Piece = arms_immediate_pieces (plain_arms arms.now) in
    at_node o o' k s (stmt.Case kind on arms) q
    (h ∙ ap (λ (l : List Change). o ++ l)
    (sym (headed k m (Reserved kind.0) (Marked mark_open_parenthesis) (Marked mark_close_parenthesis) (spell (plain on.now)) (A ++ kept (Reserved keyword_endcase ∷ [])) n ∙ kept_last m A (Reserved keyword_endcase ∷ [])))
    ∙ ap (λ (y : Statement). o ++ changes k (immediate_pieces y)) (sym (plain_case kind on arms)))

pub made_Assign : (o o' : List Change) (k m : ℕ) (s : Stmt) (t : Bor Expr) (now : Bool) (v : Bor Expr) → s ≡ stmt.Assign t now v → m ≡ k + length (spell (plain t.now)) → o' ≡ o ++ changes m (mark_pieces now) → Made o o' k s
unfolding plain_statement immediate_pieces changes
made_Assign o o' k m s t true v q n h = at_node o o' k s (stmt.Assign t true v) q (h ∙ append-nil o ∙ stays o k (spell_statement (plain_statement (stmt.Assign t true v))))
made_Assign o o' k m s t false v q n h =
    let E : List Word = spell (plain v.now) ++ (Marked mark_semicolon ∷ []) in
    at_node o o' k s (stmt.Assign t false v) q
    (h ∙ ap (λ (l : List Change). o ++ l)
    (sym (kept_first k (spell (plain t.now)) (Replaced (Marked mark_less_or_equal) (new_mark mark_equals) ∷ kept E) ∙ ap (λ (j : ℕ). changes j (Replaced (Marked mark_less_or_equal) (new_mark mark_equals) ∷ kept E)) (sym n)
    ∙ ap (λ (l : List Change). record { place = m; over = true; new = new_mark mark_equals } ∷ l) (kept_none (m + 1) E))))

pub made_For : (o o' : List Change) (k m : ℕ) (s : Stmt) (head : Head) (t : Bor Stmt) → s ≡ stmt.For head t → m ≡ k + 1 + length (spell_loop (plain_loop head)) → o' ≡ o ++ changes m (S t) → Made o o' k s
unfolding plain_statement immediate_pieces
made_For o o' k m s head t q n h =
    at_node o o' k s (stmt.For head t) q
    (h ∙ ap (λ (l : List Change). o ++ l) (sym (kept_first k (Reserved keyword_for ∷ spell_loop (plain_loop head)) (S t) ∙ ap (λ (j : ℕ). changes j (S t)) (omega (arith, n)))))

-- the mark of an assignment
pub mark_now : (o : List Change) (k : ℕ) (now : Bool) → now ≡ true → o ≡ o ++ changes k (mark_pieces now)
unfolding changes
mark_now o k true e = sym (append-nil o)
mark_now o k false e = absurd (let bad : false ≡ true = e in cc)

pub mark_later : (o o' : List Given) (k : ℕ) (now : Bool) → now ≡ false → o' ≡ o ++ (record { place = k; over = true; new = added.Fixed fixed.Equals } ∷ []) → plain_changes o' ≡ plain_changes o ++ changes k (mark_pieces now)
unfolding changes
mark_later o o' k false e h = one_made o o' (record { place = k; over = true; new = added.Fixed fixed.Equals }) _ h refl
mark_later o o' k true e h = absurd (let bad : true ≡ false = e in cc)

-- one statement more
statements_snoc : (body : List Stmt) (s : Stmt) → all_immediate_pieces (plain_statements (body ++ s ∷ [])) ≡ all_immediate_pieces (plain_statements body) ++ immediate_pieces (plain_statement s)
unfolding plain_statements immediate_pieces
statements_snoc [] s = append-nil (immediate_pieces (plain_statement s))
statements_snoc (u ∷ body) s =
    ap (λ (l : List Piece). immediate_pieces (plain_statement u) ++ l) (statements_snoc body s)
    ∙ sym (append_assoc (immediate_pieces (plain_statement u)) (all_immediate_pieces (plain_statements body)) (immediate_pieces (plain_statement s)))

pub statements_none : (o : List Change) (k : ℕ) → o ≡ o ++ changes k (all_immediate_pieces (plain_statements []))
unfolding plain_statements immediate_pieces changes
statements_none o k = sym (append-nil o)

pub statements_next : (o o1 o2 : List Change) (body : List Stmt) (i : ℕ) (s : Stmt) (k next : ℕ) → i < length body → s ≡ get_or body i s → next ≡ k + body_len (take i body) →
    o1 ≡ o ++ changes k (all_immediate_pieces (plain_statements (take i body))) → o2 ≡ o1 ++ changes next (immediate_pieces (plain_statement s)) →
    o2 ≡ o ++ changes k (all_immediate_pieces (plain_statements (take (i + 1) body)))
statements_next o o1 o2 body i s k next l is n a b =
    let B : List Piece = all_immediate_pieces (plain_statements (take i body)) in
    let X : List Piece = immediate_pieces (plain_statement s) in
    let up : take (i + 1) body ≡ take i body ++ s ∷ [] = take_more body i s l ∙ ap (λ (y : Stmt). take i body ++ y ∷ []) (sym is) in
    let w : length (source_words B) ≡ body_len (take i body) = size B _ (statements_have (plain_statements (take i body))) in
    two o o1 o2 (changes k B) (changes next X) _ a b
    (ap (λ (y : List Stmt). changes k (all_immediate_pieces (plain_statements y))) up ∙ ap (changes k) (statements_snoc (take i body) s) ∙ changes_join k B X
    ∙ ap (λ (j : ℕ). changes k B ++ changes j X) (ap (λ (j : ℕ). k + j) w ∙ sym n))

-- one arm more
arms_snoc : (arms : List Branch) (a : Branch) → arms_immediate_pieces (plain_arms (arms ++ a ∷ [])) ≡ arms_immediate_pieces (plain_arms arms) ++ arm_immediate_pieces (plain_arm a)
unfolding plain_arms immediate_pieces
arms_snoc [] a = append-nil (arm_immediate_pieces (plain_arm a))
arms_snoc (u ∷ arms) a =
    ap (λ (l : List Piece). arm_immediate_pieces (plain_arm u) ++ l) (arms_snoc arms a)
    ∙ sym (append_assoc (arm_immediate_pieces (plain_arm u)) (arms_immediate_pieces (plain_arms arms)) (arm_immediate_pieces (plain_arm a)))

pub arms_none : (o : List Change) (k : ℕ) → o ≡ o ++ changes k (arms_immediate_pieces (plain_arms []))
unfolding plain_arms immediate_pieces changes
arms_none o k = sym (append-nil o)

arm_is : (k : ℕ) (a : Branch) → changes k (arm_immediate_pieces (plain_arm a)) ≡ changes (k + length (spell_labels (plain_list a.labels.now) a.colon)) (S a.body)
unfolding plain_arm immediate_pieces
arm_is k a = kept_first k (spell_labels (plain_list a.labels.now) a.colon) (S a.body)

pub arms_next : (o o1 o2 : List Change) (arms : List Branch) (i : ℕ) (a : Branch) (k next colon : ℕ) → i < length arms → a ≡ get_or arms i a → next ≡ k + cases_len (take i arms) →
    o1 ≡ o ++ changes k (arms_immediate_pieces (plain_arms (take i arms))) → colon ≡ next + length (spell_labels (plain_list a.labels.now) a.colon) → o2 ≡ o1 ++ changes colon (S a.body) →
    o2 ≡ o ++ changes k (arms_immediate_pieces (plain_arms (take (i + 1) arms)))
arms_next o o1 o2 arms i a k next colon l is n h c b =
    let B : List Piece = arms_immediate_pieces (plain_arms (take i arms)) in
    let X : List Piece = arm_immediate_pieces (plain_arm a) in
    let up : take (i + 1) arms ≡ take i arms ++ a ∷ [] = take_more arms i a l ∙ ap (λ (y : Branch). take i arms ++ y ∷ []) (sym is) in
    let w : length (source_words B) ≡ cases_len (take i arms) = size B _ (arms_have (plain_arms (take i arms))) in
    two o o1 o2 (changes k B) (changes next X) _ h (b ∙ ap (λ (l : List Change). o1 ++ l) (ap (λ (j : ℕ). changes j (S a.body)) c ∙ sym (arm_is next a)))
    (ap (λ (y : List Branch). changes k (arms_immediate_pieces (plain_arms y))) up ∙ ap (changes k) (arms_snoc (take i arms) a) ∙ changes_join k B X
    ∙ ap (λ (j : ℕ). changes k B ++ changes j X) (ap (λ (j : ℕ). k + j) w ∙ sym n))
