-- What the functions that read marks, labels, names and bodies answer, over plain values.
use Rattle.std.proofs.Common.{◌≡◌, ℕ, zero, suc, ◌+◌, ◌≤◌, ◌<◌, List, [], ◌∷◌, ◌++◌, length, drop, refl, ap, ◌∙◌, sym, arith, Option, Some, None, length-append, length-drop, subst}
use Rattle.std.proofs.Math.Seq.{drop-nil}
use Rattle.rr_syntax.specs.declared.token.Token.{Token}
use Rattle.rr_syntax.specs.declared.tree.Stmt.{Stmt}
use Rattle.rr_syntax.specs.declared.tree.Stmt.TheVariants as stmt
use Rattle.rr_syntax.specs.declared.tree.Arm.{Arm as Branch}
use Rattle.rr_syntax.specs.declared.tree.Named.{Named as NamedToken}
use Rattle.rr_syntax.specs.Words.{Word, words, keyword_end, mark_open_parenthesis, mark_close_parenthesis, mark_colon}
use Rattle.rr_syntax.specs.Tree.{Tree, Trees, Identifier, Statement, Statements, Arm, Arms, Block, Done, Then, bare, bare_identifier, bare_label, bare_statement, bare_statements}
use Rattle.rr_syntax.specs.Statements.{spell_label, spell_statement, spell_statements, NumberedLabel, NumberedStatement, NumberedStatements}
use Rattle.rr_syntax.specs.View.{plain, plain_identifier, plain_label, plain_statement, plain_statements}
use Rattle.rr_syntax.proofs.Equations.{statement_spellings}
use Rattle.rr_syntax.proofs.Nonempty.{spell_statement-some}
use Rattle.rr_syntax.proofs.Rows.{plain_block}
use Rattle.rr_parse_expr.specs.Reading.{Found, mark, rest, closed}
use Rattle.rr_parse_expr.specs.Reading as expressions
use Rattle.rr_parse_expr.proofs.TokenWords.{length_words}
use Rattle.rr_parse_expr.proofs.Answered.{not_equal, rest_drop}
use Rattle.rr_parse_stmt.specs.declared.expressions.Placed.{Placed}
use Rattle.rr_parse_stmt.specs.declared.expressions.LabelList.{LabelList}
use Rattle.rr_parse_stmt.specs.declared.nodes.Piece.{Piece}
use Rattle.rr_parse_stmt.specs.declared.nodes.ArmPiece.{ArmPiece}
use Rattle.rr_parse_stmt.specs.declared.nodes.LabelPiece.{LabelPiece}
use Rattle.rr_parse_stmt.specs.Reading.{keyword, no_word, name, label, snoc_statement, body, block, tested, labels, below_statement}
use Rattle.rr_parse_stmt.specs.Answer.{FindsTree, AnswersTree, FindsLabels, AnswersLabels, FindsStatement, AnswersStatement, FindsArm, AnswersArm, FindsLabel, AnswersLabel, FindsBody, AnswersBody, FindsArms, AnswersArms, AnswersName}
use Rattle.rr_parse_stmt.specs.Loops.{Bodied}
use Rattle.rr_parse_stmt.proofs.Steps.{body-end, body-next, body-none, label-none, label-some, label-fail, block-some, block-open, tested-some, tested-open, tested-other}
use denote.Ref.{Bor}

-- ---- what an answer says of an option

pub tree_some : (T : List Token) (begin more : ℕ) (found : Found Tree) (o : Option Placed) (r : Placed) → o ≡ Some r → AnswersTree T begin more found o → FindsTree T begin more found r
tree_some T begin more found o r e h = rw e at h

pub tree_none : (T : List Token) (begin more : ℕ) (found : Found Tree) (o : Option Placed) → o ≡ None → AnswersTree T begin more found o → found ≡ None
tree_none T begin more found o e h = rw e at h

pub stmt_some : (T : List Token) (begin : ℕ) (found : Found Statement) (o : Option Piece) (r : Piece) → o ≡ Some r → AnswersStatement T begin found o → FindsStatement T begin found r
stmt_some T begin found o r e h = rw e at h

pub stmt_none : (T : List Token) (begin : ℕ) (found : Found Statement) (o : Option Piece) → o ≡ None → AnswersStatement T begin found o → found ≡ None
stmt_none T begin found o e h = rw e at h

pub arm_some : (T : List Token) (begin : ℕ) (found : Found Arm) (o : Option ArmPiece) (r : ArmPiece) → o ≡ Some r → AnswersArm T begin found o → FindsArm T begin found r
arm_some T begin found o r e h = rw e at h

pub arm_none : (T : List Token) (begin : ℕ) (found : Found Arm) (o : Option ArmPiece) → o ≡ None → AnswersArm T begin found o → found ≡ None
arm_none T begin found o e h = rw e at h

pub labels_some : (T : List Token) (begin : ℕ) (found : Found Trees) (o : Option LabelList) (r : LabelList) → o ≡ Some r → AnswersLabels T begin found o → FindsLabels T begin found r
labels_some T begin found o r e h = rw e at h

pub labels_nothing : (T : List Token) (begin : ℕ) (found : Found Trees) (o : Option LabelList) → o ≡ None → AnswersLabels T begin found o → found ≡ None
labels_nothing T begin found o e h = rw e at h

pub label_is : (T : List Token) (begin : ℕ) (found : Found (Option Identifier)) (o : Option LabelPiece) (r : LabelPiece) → o ≡ Some r → AnswersLabel T begin found o → FindsLabel T begin found r
label_is T begin found o r e h = rw e at h

pub label_fails : (T : List Token) (begin : ℕ) (found : Found (Option Identifier)) (o : Option LabelPiece) → o ≡ None → AnswersLabel T begin found o → found ≡ None
label_fails T begin found o e h = rw e at h

pub body_is : (T : List Token) (begin : ℕ) (found : Found Statements) (items : List Stmt) (o : Option ℕ) (next : ℕ) → o ≡ Some next → AnswersBody T begin found items o → FindsBody T begin found items next
body_is T begin found items o next e h = rw e at h

pub body_fails : (T : List Token) (begin : ℕ) (found : Found Statements) (items : List Stmt) (o : Option ℕ) → o ≡ None → AnswersBody T begin found items o → found ≡ None
body_fails T begin found items o e h = rw e at h

pub arms_is : (T : List Token) (begin : ℕ) (found : Found Arms) (items : List Branch) (o : Option ℕ) (next : ℕ) → o ≡ Some next → AnswersArms T begin found items o → FindsArms T begin found items next
arms_is T begin found items o next e h = rw e at h

pub arms_fails : (T : List Token) (begin : ℕ) (found : Found Arms) (items : List Branch) (o : Option ℕ) → o ≡ None → AnswersArms T begin found items o → found ≡ None
arms_fails T begin found items o e h = rw e at h

-- ---- words among the tokens

pub keyword_inside : (T : List Token) (i k : ℕ) → keyword (drop i (words T)) ≡ k → k < no_word → i < length T
unfolding keyword words
keyword_inside [] i k e h = absurd (omega (arith, ap keyword (sym (drop-nil {A = Word} i)) ∙ e))
keyword_inside (t ∷ ts) zero k e h = omega arith
keyword_inside (t ∷ ts) (suc i) k e h = omega (arith, keyword_inside ts i k e h)

-- ---- expressions in brackets

pub tested_is : (T : List Token) (from room : ℕ) (o : Option Placed) → mark (drop from (words T)) ≡ mark_open_parenthesis → AnswersTree T (from + 1) 1 (closed (expressions.below room) mark_close_parenthesis (drop (from + 1) (words T))) o →
    AnswersTree T (from + 1) 1 (tested (expressions.below room) (drop from (words T))) o
tested_is T from room None m h = tested-open (expressions.below room) (drop from (words T)) m (rw rest_drop h)
tested_is T from room (Some r) m h =
    let f : closed (expressions.below room) mark_close_parenthesis (rest (drop from (words T))) ≡ Some (bare (plain r.expr.now), drop r.next (words T)) = rw rest_drop h.found_is in
    record { found_is = tested-some (expressions.below room) (drop from (words T)) (bare (plain r.expr.now), drop r.next (words T)) m f; within = h.within; taken = h.taken; numbered = h.numbered }

pub tested_differs : (T : List Token) (from room : ℕ) → (mark (drop from (words T)) ≡ mark_open_parenthesis → ⊥) → tested (expressions.below room) (drop from (words T)) ≡ None
tested_differs T from room h = tested-other (expressions.below room) (drop from (words T)) (not_equal (mark (drop from (words T))) mark_open_parenthesis h)

-- ---- the name of a block

pub label_absent : (T : List Token) (from : ℕ) → from ≤ length T → (mark (drop from (words T)) ≡ mark_colon → ⊥) → FindsLabel T from (label (drop from (words T))) (record { label = None; next = from })
unfolding plain_label bare_label spell_label NumberedLabel
label_absent T from i h = record {
  found_is = label-none (drop from (words T)) (not_equal (mark (drop from (words T))) mark_colon h);
  within = i;
  taken = omega arith;
  numbered = tt;
}

pub label_there : (T : List Token) (from : ℕ) (n : NamedToken) → mark (drop from (words T)) ≡ mark_colon → AnswersName T (from + 1) (Some n) → FindsLabel T from (label (drop from (words T))) (record { label = Some n; next = from + 2 })
unfolding plain_label plain_identifier bare_label bare_identifier spell_label NumberedLabel
label_there T from n m h =
    let e : name (rest (drop from (words T))) ≡ Some (record { token = 0; text = n.name.now }, drop (from + 1 + 1) (words T)) = rw rest_drop h.1 in
    let k : from + 1 + 1 ≡ from + 2 = omega arith in
    record {
      found_is = label-some (drop from (words T)) (record { token = 0; text = n.name.now }, drop (from + 1 + 1) (words T)) m e ∙ ap (λ (i : ℕ). Some (Some (record { token = 0; text = n.name.now }), drop i (words T))) k;
      within = omega (arith, h.2);
      taken = omega arith;
      numbered = h.0;
    }

pub label_missing : (T : List Token) (from : ℕ) → mark (drop from (words T)) ≡ mark_colon → name (drop (from + 1) (words T)) ≡ None → label (drop from (words T)) ≡ None
label_missing T from m h = label-fail (drop from (words T)) m (rw rest_drop h)

-- ---- the body of a block

body_snoc : (ss : List Stmt) (s : Stmt) → plain_statements (ss ++ (s ∷ [])) ≡ snoc_statement (plain_statements ss) (plain_statement s)
unfolding plain_statements snoc_statement
body_snoc [] s = refl
body_snoc (x ∷ ss) s = ap (Then (plain_statement x)) (body_snoc ss s)

bare_snoc_statement : (ss : Statements) (s : Statement) → bare_statements (snoc_statement ss s) ≡ snoc_statement (bare_statements ss) (bare_statement s)
unfolding bare_statement snoc_statement
bare_snoc_statement Done s = refl
bare_snoc_statement (Then u us) s = ap (Then (bare_statement u)) (bare_snoc_statement us s)

body_length : (ss : Statements) (s : Statement) → length (spell_statements (snoc_statement ss s)) ≡ length (spell_statements ss) + length (spell_statement s)
unfolding snoc_statement
body_length Done s = simp (statement_spellings, length-append) (omega arith)
body_length (Then u us) s = simp (statement_spellings, length-append) (omega (arith, body_length us s))

body_first : (s : Statement) (ss : Statements) → length (spell_statements (Then s ss)) ≡ length (spell_statement s) + length (spell_statements ss)
body_first s ss = simp (statement_spellings, length-append) (omega arith)

no_body : length (spell_statements Done) ≡ 0
no_body = simp statement_spellings refl

body_numbered : (ss : Statements) (s : Statement) (at n : ℕ) → n ≡ at + length (spell_statements ss) → NumberedStatements ss at → NumberedStatement s n → NumberedStatements (snoc_statement ss s) at
unfolding NumberedStatement snoc_statement
body_numbered Done s at n h a b = (let P : ℕ → Type 0 = λ (k : ℕ). NumberedStatement s k in subst P (omega (arith, h, no_body)) b, tt)
body_numbered (Then u us) s at n h a b = (a.0, body_numbered us s (at + length (spell_statement u)) n (omega (arith, h, body_first u us)) a.1 b)

pub bodied_start : (T : List Token) (from room : ℕ) (items : List Stmt) → from ≤ length T → items ≡ [] → Bodied T from room (body (below_statement room) (suc (length (drop from (words T)))) Done (drop from (words T))) items from
unfolding plain_statements bare_statement NumberedStatement
bodied_start T from room items i e = rw e (record {
  fuel = suc (length (drop from (words T)));
  enough = omega (arith, length-drop from (words T), length_words T);
  whole = refl;
  within = i;
  taken = omega (arith, no_body);
  numbered = tt;
})

bodied_turn : (T : List Token) (begin room : ℕ) (found : Found Statements) (items : List Stmt) (next : ℕ) (r : Piece) (fuel : ℕ) (c : Bodied T begin room found items next) → c.fuel ≡ fuel → (keyword (drop next (words T)) ≡ keyword_end → ⊥) →
    FindsStatement T next (below_statement room (drop next (words T))) r → Bodied T begin room found (items ++ (r.stmt ∷ [])) r.next
bodied_turn T begin room found items next r zero c e m h = absurd (omega (arith, c.enough, c.within))
bodied_turn T begin room found items next r (suc n) c e m h =
    let P : Statements → Type 0 = λ (x : Statements). NumberedStatements x begin in
    record {
      fuel = n;
      enough = omega (arith, c.enough, h.taken, spell_statement-some (plain_statement r.stmt));
      whole = c.whole ∙ ap (λ (k : ℕ). body (below_statement room) k (bare_statements (plain_statements items)) (drop next (words T))) e ∙
          body-next (below_statement room) n (bare_statements (plain_statements items)) (drop next (words T)) (bare_statement (plain_statement r.stmt), drop r.next (words T)) (not_equal (keyword (drop next (words T))) keyword_end m) h.found_is ∙
          ap (λ (us : Statements). body (below_statement room) n us (drop r.next (words T))) (sym (ap bare_statements (body_snoc items r.stmt) ∙ bare_snoc_statement (plain_statements items) (plain_statement r.stmt)));
      within = h.within;
      taken = omega (arith, c.taken, h.taken, ap (λ (us : Statements). length (spell_statements us)) (body_snoc items r.stmt), body_length (plain_statements items) (plain_statement r.stmt));
      numbered = subst P (sym (body_snoc items r.stmt)) (body_numbered (plain_statements items) (plain_statement r.stmt) begin next c.taken c.numbered h.numbered);
    }

pub bodied_more : (T : List Token) (begin room : ℕ) (found : Found Statements) (items new : List Stmt) (next : ℕ) (r : Piece) → Bodied T begin room found items next → (keyword (drop next (words T)) ≡ keyword_end → ⊥) →
    FindsStatement T next (below_statement room (drop next (words T))) r → new ≡ items ++ (r.stmt ∷ []) → Bodied T begin room found new r.next
bodied_more T begin room found items new next r c m h e = rw e (bodied_turn T begin room found items next r c.fuel c refl m h)

pub bodied_fail : (T : List Token) (begin room : ℕ) (found : Found Statements) (items : List Stmt) (next : ℕ) → Bodied T begin room found items next → (keyword (drop next (words T)) ≡ keyword_end → ⊥) → below_statement room (drop next (words T)) ≡ None → found ≡ None
bodied_fail T begin room found items next c m e = c.whole ∙ body-none (below_statement room) c.fuel (bare_statements (plain_statements items)) (drop next (words T)) (not_equal (keyword (drop next (words T))) keyword_end m) e

body_close : (T : List Token) (room : ℕ) (us : Statements) (next fuel : ℕ) → 0 < fuel → keyword (drop next (words T)) ≡ keyword_end → body (below_statement room) fuel us (drop next (words T)) ≡ Some (us, drop (next + 1) (words T))
body_close T room us next zero h m = absurd (omega arith)
body_close T room us next (suc n) h m = body-end (below_statement room) n us (drop next (words T)) m ∙ ap (λ (x : List Word). Some (us, x)) (rest_drop (words T) next)

pub bodied_end : (T : List Token) (begin room : ℕ) (found : Found Statements) (items : List Stmt) (next : ℕ) → Bodied T begin room found items next → keyword (drop next (words T)) ≡ keyword_end → FindsBody T begin found items (next + 1)
bodied_end T begin room found items next c m = record {
  found_is = c.whole ∙ body_close T room (bare_statements (plain_statements items)) next c.fuel (omega (arith, c.enough, c.within)) m;
  within = omega (arith, keyword_inside T next keyword_end m (omega arith));
  taken = omega (arith, c.taken);
  numbered = c.numbered;
}

len-Block : (l : Option Identifier) (ss : Statements) → length (spell_statement (Block l ss)) ≡ 2 + length (spell_label l) + length (spell_statements ss)
len-Block l ss = simp (statement_spellings, length-append) (omega arith)

pub made_block : (T : List Token) (from room : ℕ) (n : LabelPiece) (es : Bor (List Stmt)) (items : List Stmt) (next : ℕ) → es.now ≡ items → FindsLabel T (from + 1) (label (drop (from + 1) (words T))) n →
    FindsBody T n.next (body (below_statement room) (suc (length (drop n.next (words T)))) Done (drop n.next (words T))) items next →
    FindsStatement T from (block (below_statement room) (drop (from + 1) (words T))) (record { stmt = stmt.Block n.label es; next = next })
unfolding bare_statement NumberedStatement
made_block T from room n es items next e f g =
    let same : plain_statement (stmt.Block n.label es) ≡ Block (plain_label n.label) (plain_statements items) = plain_block n.label es ∙ ap (λ (x : List Stmt). Block (plain_label n.label) (plain_statements x)) e in
    let P : Statement → Type 0 = λ (x : Statement). NumberedStatement x from in
    let Q : ℕ → Type 0 = λ (k : ℕ). NumberedStatements (plain_statements items) k in
    record {
      found_is = block-some (below_statement room) (drop (from + 1) (words T)) (bare_label (plain_label n.label), drop n.next (words T)) (bare_statements (plain_statements items), drop next (words T)) f.found_is g.found_is ∙ ap (λ (x : Statement). Some (bare_statement x, drop next (words T))) (sym same);
      within = g.within;
      taken = omega (arith, f.taken, g.taken, ap (λ (x : Statement). length (spell_statement x)) same, len-Block (plain_label n.label) (plain_statements items));
      numbered = subst P (sym same) (f.numbered, subst Q f.taken g.numbered);
    }

pub block_fails : (T : List Token) (from room : ℕ) (n : LabelPiece) → FindsLabel T (from + 1) (label (drop (from + 1) (words T))) n → body (below_statement room) (suc (length (drop n.next (words T)))) Done (drop n.next (words T)) ≡ None →
    block (below_statement room) (drop (from + 1) (words T)) ≡ None
block_fails T from room n f e = block-open (below_statement room) (drop (from + 1) (words T)) (bare_label (plain_label n.label), drop n.next (words T)) f.found_is e
