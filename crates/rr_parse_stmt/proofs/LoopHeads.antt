-- What the functions that read the heads of loops, and loops, answer, over plain values.
use Rattle.std.proofs.Common.{◌≡◌, ℕ, ◌+◌, List, length, drop, ap, ◌∙◌, arith, Option, Some, None, length-append}
use Rattle.rr_syntax.specs.declared.token.Token.{Token}
use Rattle.rr_syntax.specs.declared.tree.Named.{Named as NamedToken}
use Rattle.rr_syntax.specs.Words.{words, mark_open_parenthesis, mark_close_parenthesis, mark_semicolon, mark_equals}
use Rattle.rr_syntax.specs.Tree.{LoopHead, Statement, For, bare, bare_loop, bare_statement}
use Rattle.rr_syntax.specs.Expressions.{spell}
use Rattle.rr_syntax.specs.Statements.{spell_loop, spell_statement, NumberedLoop, NumberedStatement}
use Rattle.rr_syntax.specs.View.{plain, plain_loop, plain_statement}
use Rattle.rr_syntax.proofs.Equations.{loop-Head, statement_spellings}
use Rattle.rr_parse_expr.specs.Reading.{Found, mark, rest, closed}
use Rattle.rr_parse_expr.specs.Reading as expressions
use Rattle.rr_parse_expr.proofs.Answered.{not_equal, rest_drop, rest_next}
use Rattle.rr_parse_stmt.specs.declared.expressions.Placed.{Placed}
use Rattle.rr_parse_stmt.specs.declared.heads.NamePiece.{NamePiece}
use Rattle.rr_parse_stmt.specs.declared.heads.HeadPiece.{HeadPiece}
use Rattle.rr_parse_stmt.specs.declared.nodes.Piece.{Piece}
use Rattle.rr_parse_stmt.specs.Reading.{NamedValue, name, setting, after_start, head, looped, below_statement}
use Rattle.rr_parse_stmt.specs.Answer.{IsPiece, FindsTree, FindsStatement, FindsSetting, AnswersSetting, FindsHead, AnswersHead, AnswersName}
use Rattle.rr_parse_stmt.proofs.Choices.{as_piece, at_next, at_place}
use Rattle.rr_parse_stmt.proofs.Steps.{setting-some, setting-none, setting-other, setting-open, head-start, head-other, head-none, start-some, start-none, start-open, looped-some, looped-none, looped-open}

-- ---- what an answer says of an option

pub setting_found : (T : List Token) (begin : ℕ) (found : Found NamedValue) (o : Option NamePiece) (r : NamePiece) → o ≡ Some r → AnswersSetting T begin found o → FindsSetting T begin found r
setting_found T begin found o r e h = rw e at h

pub no_setting : (T : List Token) (begin : ℕ) (found : Found NamedValue) (o : Option NamePiece) → o ≡ None → AnswersSetting T begin found o → found ≡ None
no_setting T begin found o e h = rw e at h

pub head_found : (T : List Token) (begin : ℕ) (found : Found LoopHead) (o : Option HeadPiece) (r : HeadPiece) → o ≡ Some r → AnswersHead T begin found o → FindsHead T begin found r
head_found T begin found o r e h = rw e at h

pub no_head : (T : List Token) (begin : ℕ) (found : Found LoopHead) (o : Option HeadPiece) → o ≡ None → AnswersHead T begin found o → found ≡ None
no_head T begin found o e h = rw e at h

-- ---- a name that is set

pub made_setting : (T : List Token) (from room m : ℕ) (n : NamedToken) (v : Placed) → AnswersName T from (Some n) → mark (drop (from + 1) (words T)) ≡ mark_equals →
    FindsTree T (from + 2) 1 (closed (expressions.below room) m (drop (from + 2) (words T))) v → FindsSetting T from (setting (expressions.below room) m (drop from (words T))) (record { name = n; value = v })
made_setting T from room m n v h e f =
    let w : closed (expressions.below room) m (rest (drop (from + 1) (words T))) ≡ Some (bare (plain v.expr.now), drop v.next (words T)) = rw rest_next f.found_is in
    record {
      found_is = setting-some (expressions.below room) m (drop from (words T)) (record { token = 0; text = n.name.now }, drop (from + 1) (words T)) (bare (plain v.expr.now), drop v.next (words T)) h.1 e w;
      within = f.within;
      taken = f.taken;
      named = h.0;
      numbered = f.numbered;
    }

pub setting_unnamed : (T : List Token) (from room m : ℕ) → name (drop from (words T)) ≡ None → setting (expressions.below room) m (drop from (words T)) ≡ None
setting_unnamed T from room m e = setting-none (expressions.below room) m (drop from (words T)) e

pub setting_unset : (T : List Token) (from room m : ℕ) (n : NamedToken) → AnswersName T from (Some n) → (mark (drop (from + 1) (words T)) ≡ mark_equals → ⊥) → setting (expressions.below room) m (drop from (words T)) ≡ None
setting_unset T from room m n h e = setting-other (expressions.below room) m (drop from (words T)) (record { token = 0; text = n.name.now }, drop (from + 1) (words T)) h.1 (not_equal (mark (drop (from + 1) (words T))) mark_equals e)

pub setting_unvalued : (T : List Token) (from room m : ℕ) (n : NamedToken) → AnswersName T from (Some n) → mark (drop (from + 1) (words T)) ≡ mark_equals → closed (expressions.below room) m (drop (from + 2) (words T)) ≡ None →
    setting (expressions.below room) m (drop from (words T)) ≡ None
setting_unvalued T from room m n h e f = setting-open (expressions.below room) m (drop from (words T)) (record { token = 0; text = n.name.now }, drop (from + 1) (words T)) h.1 e (rw rest_next f)

-- ---- the head of a loop

len-Loop : (h : LoopHead) → length (spell_loop h) ≡ 8 + length (spell h.start) + length (spell h.test) + length (spell h.step)
len-Loop h = simp (loop-Head, length-append) (omega arith)

pub head_differs : (T : List Token) (from room : ℕ) → (mark (drop from (words T)) ≡ mark_open_parenthesis → ⊥) → head (expressions.below room) (drop from (words T)) ≡ None
head_differs T from room e = head-other (expressions.below room) (drop from (words T)) (not_equal (mark (drop from (words T))) mark_open_parenthesis e)

pub head_unset : (T : List Token) (from room : ℕ) → mark (drop from (words T)) ≡ mark_open_parenthesis → setting (expressions.below room) mark_semicolon (drop (from + 1) (words T)) ≡ None → head (expressions.below room) (drop from (words T)) ≡ None
head_unset T from room m e = head-none (expressions.below room) (drop from (words T)) m (rw rest_drop e)

module _ (T : List Token) (from room : ℕ) (a : NamePiece) (m : mark (drop from (words T)) ≡ mark_open_parenthesis) (f : FindsSetting T (from + 1) (setting (expressions.below room) mark_semicolon (drop (from + 1) (words T))) a) where
  abbrev started : NamedValue
  started = record { text = a.name.name.now; value = bare (plain a.value.expr.now) }

  begins : head (expressions.below room) (drop from (words T)) ≡ after_start (expressions.below room) started (drop a.value.next (words T))
  begins = head-start (expressions.below room) (drop from (words T)) (started, drop a.value.next (words T)) m (rw rest_drop f.found_is)

  pub head_untested : closed (expressions.below room) mark_semicolon (drop a.value.next (words T)) ≡ None → head (expressions.below room) (drop from (words T)) ≡ None
  head_untested e = begins ∙ start-none (expressions.below room) started (drop a.value.next (words T)) e

  pub head_unstepped : (t : Placed) → FindsTree T a.value.next 1 (closed (expressions.below room) mark_semicolon (drop a.value.next (words T))) t → setting (expressions.below room) mark_close_parenthesis (drop t.next (words T)) ≡ None →
      head (expressions.below room) (drop from (words T)) ≡ None
  head_unstepped t g e = begins ∙ start-open (expressions.below room) started (drop a.value.next (words T)) (bare (plain t.expr.now), drop t.next (words T)) g.found_is e

  pub made_head : (t : Placed) (b : NamePiece) → FindsTree T a.value.next 1 (closed (expressions.below room) mark_semicolon (drop a.value.next (words T))) t →
      FindsSetting T t.next (setting (expressions.below room) mark_close_parenthesis (drop t.next (words T))) b →
      FindsHead T from (head (expressions.below room) (drop from (words T))) (record { head = record { token = a.name.token; name = a.name.name; start = a.value.expr; test = t.expr; step_token = b.name.token; step_name = b.name.name; step = b.value.expr }; next = b.value.next })
  unfolding bare_loop plain_loop NumberedLoop
  made_head t b g k =
      record {
        found_is = begins ∙ start-some (expressions.below room) started (drop a.value.next (words T)) (bare (plain t.expr.now), drop t.next (words T)) (record { text = b.name.name.now; value = bare (plain b.value.expr.now) }, drop b.value.next (words T)) g.found_is k.found_is;
        within = k.within;
        taken = omega (arith, f.taken, g.taken, k.taken, len-Loop (plain_loop (record { token = a.name.token; name = a.name.name; start = a.value.expr; test = t.expr; step_token = b.name.token; step_name = b.name.name; step = b.value.expr })));
        numbered = (
          f.named,
          at_next (from + 1 + 2) (from + 3) (plain a.value.expr.now) (omega arith) f.numbered,
          at_next a.value.next (from + 3 + length (spell (plain a.value.expr.now)) + 1) (plain t.expr.now) (omega (arith, f.taken)) g.numbered,
          omega (arith, k.named, g.taken, f.taken),
          at_next (t.next + 2) (from + 3 + length (spell (plain a.value.expr.now)) + 1 + length (spell (plain t.expr.now)) + 3) (plain b.value.expr.now) (omega (arith, g.taken, f.taken)) k.numbered,
        );
      }

-- ---- loops

len-For : (h : LoopHead) (s : Statement) → length (spell_statement (For h s)) ≡ 1 + length (spell_loop h) + length (spell_statement s)
len-For h s = simp (statement_spellings, length-append) (omega arith)

pub made_loop : (T : List Token) (from room : ℕ) (h : HeadPiece) (s r : Piece) → IsPiece (For (plain_loop h.head) (plain_statement s.stmt)) s.next r → FindsHead T (from + 1) (head (expressions.below room) (drop (from + 1) (words T))) h →
    FindsStatement T h.next (below_statement room (drop h.next (words T))) s → FindsStatement T from (looped (expressions.below room) (below_statement room) (drop (from + 1) (words T))) r
unfolding bare_statement NumberedStatement
made_loop T from room h s r i f g =
    as_piece T from (looped (expressions.below room) (below_statement room) (drop (from + 1) (words T))) (For (plain_loop h.head) (plain_statement s.stmt)) s.next r i
    (looped-some (expressions.below room) (below_statement room) (drop (from + 1) (words T)) (bare_loop (plain_loop h.head), drop h.next (words T)) (bare_statement (plain_statement s.stmt), drop s.next (words T)) f.found_is g.found_is)
    g.within
    (omega (arith, f.taken, g.taken, len-For (plain_loop h.head) (plain_statement s.stmt)))
    (f.numbered, at_place h.next (from + 1 + length (spell_loop (plain_loop h.head))) (plain_statement s.stmt) f.taken g.numbered)

pub loop_unheaded : (T : List Token) (from room : ℕ) → head (expressions.below room) (drop (from + 1) (words T)) ≡ None → looped (expressions.below room) (below_statement room) (drop (from + 1) (words T)) ≡ None
loop_unheaded T from room e = looped-none (expressions.below room) (below_statement room) (drop (from + 1) (words T)) e

pub loop_open : (T : List Token) (from room : ℕ) (h : HeadPiece) → FindsHead T (from + 1) (head (expressions.below room) (drop (from + 1) (words T))) h → below_statement room (drop h.next (words T)) ≡ None →
    looped (expressions.below room) (below_statement room) (drop (from + 1) (words T)) ≡ None
loop_open T from room h f e = looped-open (expressions.below room) (below_statement room) (drop (from + 1) (words T)) (bare_loop (plain_loop h.head), drop h.next (words T)) f.found_is e
