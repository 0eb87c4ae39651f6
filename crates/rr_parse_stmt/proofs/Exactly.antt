-- What the reading function finds is the statement that stands there, and where it finds none, none stands.
use Rattle.std.proofs.Common.{◌≡◌, ℕ, suc, ◌+◌, max, List, ◌++◌, drop, refl, ap, ◌∙◌, sym, arith, Option, Some, None, subst}
use Rattle.rr_syntax.specs.declared.token.Token.{Token}
use Rattle.rr_syntax.specs.declared.tree.Stmt.{Stmt}
use Rattle.rr_syntax.specs.Words.{Word, words}
use Rattle.rr_syntax.specs.Tree.{Statement, bare_statement, IsSameStatement}
use Rattle.rr_syntax.specs.Statements.{spell_statement, depth_statement, WellFormedStatement}
use Rattle.rr_syntax.specs.View.{plain_statement}
use Rattle.rr_syntax.proofs.BareStatements.{is_open-bare, spell_statement-bare, WellFormedStatement-bare, depth_statement-bare}
use Rattle.rr_parse_stmt.specs.declared.nodes.Piece.{Piece}
use Rattle.rr_parse_stmt.specs.Reading.{statement, below_statement}
use Rattle.rr_parse_stmt.specs.Answer.{FindsStatement, AnswersStatement}
use Rattle.rr_parse_stmt.specs.Exact.{Closes, IsStatement, NoneStands}
use Rattle.rr_parse_stmt.proofs.Complete.{reads_statement}
use Rattle.rr_parse_stmt.proofs.Sound.{statement_sound}

pub below_next : (limit : ℕ) (ws : List Word) → below_statement (limit + 1) ws ≡ statement limit ws
unfolding below_statement
below_next limit ws = let e : limit + 1 ≡ suc limit = omega arith in rw e refl

statement_of : (limit : ℕ) (T : List Token) (from : ℕ) (r : Piece) → FindsStatement T from (below_statement (limit + 1) (drop from (words T))) r → IsStatement limit T from r.stmt r.next
statement_of limit T from r f =
    let ws : List Word = drop from (words T) in
    let e : statement limit ws ≡ Some (bare_statement (plain_statement r.stmt), drop r.next (words T)) = sym (below_next limit ws) ∙ f.found_is in
    let s = statement_sound limit ws (bare_statement (plain_statement r.stmt), drop r.next (words T)) e in
    record {
      well = subst (λ (P : Type 0). P) (WellFormedStatement-bare (plain_statement r.stmt)) s.well;
      shallow = omega (arith, s.deep, depth_statement-bare (plain_statement r.stmt));
      spelled = s.spelled ∙ ap (λ (x : List Word). x ++ drop r.next (words T)) (spell_statement-bare (plain_statement r.stmt));
      closes = λ o. s.closes (is_open-bare (plain_statement r.stmt) ∙ o);
      taken = f.taken;
      within = f.within;
      numbered = f.numbered;
    }

pub is_statement : (limit : ℕ) (T : List Token) (from : ℕ) (o : Option Piece) (r : Piece) (s : Stmt) → o ≡ Some r → s ≡ r.stmt → AnswersStatement T from (below_statement (limit + 1) (drop from (words T))) o → IsStatement limit T from s r.next
is_statement limit T from o r s h at a = rw at (statement_of limit T from r (rw h at a))

pub none_stands : (limit : ℕ) (T : List Token) (from : ℕ) (o : Option Piece) → o ≡ None → AnswersStatement T from (below_statement (limit + 1) (drop from (words T))) o → NoneStands limit T from
none_stands limit T from o h a s b =
    let ws : List Word = drop from (words T) in
    let n : below_statement (limit + 1) ws ≡ None = rw h at a in
    let e : statement limit ws ≡ Some (bare_statement s, b.left) = ap (statement limit) b.spelled ∙ reads_statement s b.well limit b.shallow b.left b.closes in
    let k : statement limit ws ≡ None = sym (below_next limit ws) ∙ n in
    cc (e, k)

pub unique_statement : (a b : Statement) (left right : List Word) → WellFormedStatement a → WellFormedStatement b → Closes a left → Closes b right → spell_statement a ++ left ≡ spell_statement b ++ right → IsSameStatement a b × (left ≡ right)
unique_statement a b left right v w c d e =
    let n : ℕ = max (depth_statement a) (depth_statement b) in
    let p = reads_statement a v n (omega arith) left c in
    let q = reads_statement b w n (omega arith) right d in
    let k : Some (bare_statement a, left) ≡ Some (bare_statement b, right) = sym p ∙ ap (statement n) e ∙ q in
    let f : (bare_statement a, left) ≡ (bare_statement b, right) = cc k in
    (ap (λ (x : Statement × List Word). x.0) f, ap (λ (x : Statement × List Word). x.1) f)
