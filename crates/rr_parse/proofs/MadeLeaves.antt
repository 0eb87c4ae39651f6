-- Names, reserved words, expressions and statements that were read.
use Rattle.std.proofs.Common.{◌≡◌, ℕ, ◌+◌, ◌≤◌, ◌<◌, List, length, drop, true, false, nat_eq, refl, ap, ◌∙◌, sym, arith, inl, inr, Some, None}
use Rattle.rr_syntax.specs.declared.token.Token.{Token}
use Rattle.rr_syntax.specs.declared.token.Mark.{Mark}
use Rattle.rr_syntax.specs.declared.tree.Expr.{Expr}
use Rattle.rr_syntax.specs.declared.tree.Stmt.{Stmt}
use Rattle.rr_syntax.specs.declared.tree.Named.{Named as NamedToken}
use Rattle.rr_syntax.specs.Words.{Word, words}
use Rattle.rr_syntax.specs.Tree.{Statement, bare_identifier}
use Rattle.rr_syntax.specs.Items.{spell_where, spell_identifier, NumberedIdentifier}
use Rattle.rr_syntax.specs.View.{plain, plain_identifier, plain_statement}
use Rattle.rr_parse_expr.specs.Fronts.{IsNameAt}
use Rattle.rr_parse_expr.specs.Reading.{Found, no_mark, rest, reads}
use Rattle.rr_parse_expr.specs.Exact.{IsExpression, IsLongest, IsLongestOperand, IsClosed, NoClosed, Fails, FailsTarget, FailsClosed}
use Rattle.rr_parse_expr.specs.declared.expression.ParseFault.{ParseFault}
use Rattle.rr_parse_expr.specs.declared.expression.ParseFault.TheVariants.{Unsupported, Syntax, Memory}
use Rattle.rr_parse_expr.proofs.Answered.{not_equal, rest_drop}
use Rattle.rr_parse_expr.proofs.Exactly.{expressions_read}
use Rattle.rr_parse_expr.proofs.FrontMarks.{mark_found, mark_is, front_inside}
use Rattle.rr_parse_stmt.specs.Reading.{keyword, statement}
use Rattle.rr_parse_stmt.specs.Exact.{IsStatement, NoneStands}
use Rattle.rr_parse_stmt.specs.Exact as statements
use Rattle.rr_parse_stmt.proofs.FromExpressions.{expressions_well, longest_read, none_read}
use Rattle.rr_parse_stmt.proofs.Names.{name_is}
use Rattle.rr_parse_stmt.proofs.Targets.{target_by, no_target_by}
use Rattle.rr_parse_stmt.proofs.Complete.{reads_statement}
use Rattle.rr_parse_stmt.proofs.Sound.{statement_sound}
use Rattle.rr_grammar.specs.Formats.{before_mark, Finds, FindsNone}
use Rattle.rr_grammar.specs.Leaves.{identifier, expression, target_of, flag, choice}
use Rattle.rr_grammar.specs.ItemForms.{statement_of}
use Rattle.rr_parse.specs.Answer.{Misses, WordAt}
use Rattle.rr_parse.proofs.Founds.{same, if_true, if_false, chain_none, chain_then, other_mark, finds_before_mark}

-- ---- reserved words

pub flag_there : {T : List Token} {from w : ℕ} → WordAt T from w (from + 1) → Finds (flag w) T from true (from + 1)
unfolding spell_where
flag_there {T = T} {from = from} {w = w} e = record {
  found_is = if_true (nat_eq (keyword (drop from (words T))) w) (Some (true, rest (drop from (words T)))) (Some (false, drop from (words T))) (Some (true, drop (from + 1) (words T))) (same (keyword (drop from (words T))) w e.1) (ap (λ (us : List Word). Some (true, us)) (rest_drop (words T) from));
  within = omega (arith, e.2);
  taken = omega arith;
  numbered = tt;
}

pub flag_absent : {T : List Token} {from w : ℕ} → from ≤ length T → (keyword (drop from (words T)) ≡ w → ⊥) → Finds (flag w) T from false from
unfolding spell_where
flag_absent {T = T} {from = from} {w = w} i h = record {
  found_is = if_false (nat_eq (keyword (drop from (words T))) w) (Some (true, rest (drop from (words T)))) (Some (false, drop from (words T))) (Some (false, drop from (words T))) (not_equal (keyword (drop from (words T))) w h) refl;
  within = i;
  taken = omega arith;
  numbered = tt;
}

pub first_there : {T : List Token} {from v w : ℕ} → WordAt T from v (from + 1) → Finds (choice v w) T from true (from + 1)
first_there {T = T} {from = from} {v = v} {w = w} e = record {
  found_is = if_true (nat_eq (keyword (drop from (words T))) v) (Some (true, rest (drop from (words T)))) _ (Some (true, drop (from + 1) (words T))) (same (keyword (drop from (words T))) v e.1) (ap (λ (us : List Word). Some (true, us)) (rest_drop (words T) from));
  within = omega (arith, e.2);
  taken = omega arith;
  numbered = tt;
}

pub second_there : {T : List Token} {from v w : ℕ} → (keyword (drop from (words T)) ≡ v → ⊥) → WordAt T from w (from + 1) → Finds (choice v w) T from false (from + 1)
second_there {T = T} {from = from} {v = v} {w = w} h e =
    let ws : List Word = drop from (words T) in
    let p = Some (false, drop (from + 1) (words T)) in
    record {
      found_is = if_false (nat_eq (keyword ws) v) (Some (true, rest ws)) _ p (not_equal (keyword ws) v h)
          (if_true (nat_eq (keyword ws) w) (Some (false, rest ws)) None p (same (keyword ws) w e.1) (ap (λ (us : List Word). Some (false, us)) (rest_drop (words T) from)));
      within = omega (arith, e.2);
      taken = omega arith;
      numbered = tt;
    }

pub no_choice : {T : List Token} {from v w : ℕ} → (keyword (drop from (words T)) ≡ v → ⊥) → (keyword (drop from (words T)) ≡ w → ⊥) → FindsNone (choice v w) T from
no_choice {T = T} {from = from} {v = v} {w = w} h i =
    let ws : List Word = drop from (words T) in
    record { none_is = if_false (nat_eq (keyword ws) v) (Some (true, rest ws)) _ None (not_equal (keyword ws) v h) (if_false (nat_eq (keyword ws) w) (Some (false, rest ws)) None None (not_equal (keyword ws) w i) refl) }

-- ---- names

pub name_found : {T : List Token} {from : ℕ} (n : NamedToken) → IsNameAt T from (Some n) → Finds identifier T from (plain_identifier n) (from + 1)
unfolding plain_identifier bare_identifier spell_identifier NumberedIdentifier
name_found {T = T} {from = from} n h = let a = name_is T from (Some n) h in record { found_is = a.1; within = omega (arith, a.2); taken = omega arith; numbered = a.0 }

pub no_name : {T : List Token} {from : ℕ} → IsNameAt T from None → FindsNone identifier T from
no_name {T = T} {from = from} h = record { none_is = name_is T from None h }

-- ---- expressions

pub expression_found : {k : ℕ} {T : List Token} {from : ℕ} {e : Expr} {next : ℕ} → IsLongest IsExpression k T from e next → Finds (expression k) T from (plain e) next
expression_found {k = k} {T = T} {from = from} {e = e} {next = next} h = record { found_is = longest_read IsExpression 1 expressions_read expressions_well k T from e next h; within = h.within; taken = h.taken; numbered = h.numbered }

pub no_expression : (k : ℕ) (T : List Token) (from : ℕ) (f : ParseFault) → Fails IsExpression k T from f → Misses (expression k) T from f
no_expression k T from (Syntax at) h = record { none_is = none_read IsExpression 1 expressions_read k T from h.1 }
no_expression k T from (Unsupported at) h = h
no_expression k T from Memory h = h

pub target_found : {k : ℕ} {T : List Token} {from : ℕ} {e : Expr} {next : ℕ} → IsLongestOperand true k T from e next → Finds (target_of k) T from (plain e) next
target_found {k = k} {T = T} {from = from} {e = e} {next = next} h = record {
  found_is = target_by (reads k) k T from e next refl h;
  within = h.operand.within;
  taken = h.operand.taken;
  numbered = h.operand.numbered;
}

pub no_target : (k : ℕ) (T : List Token) (from : ℕ) (f : ParseFault) → FailsTarget k T from f → Misses (target_of k) T from f
no_target k T from (Syntax at) h = record { none_is = no_target_by (reads k) k T from refl h.1 }
no_target k T from (Unsupported at) h = h
no_target k T from Memory h = h

-- an expression with a mark behind it
pub closed_found : {m : Mark} {k : ℕ} {T : List Token} {from : ℕ} {e : Expr} {next : ℕ} → IsClosed m k T from e next → Finds (before_mark (expression k) m.0) T from (plain e) next
closed_found {m = m} {k = k} {T = T} {from = from} {e = e} {next = next} h =
    finds_before_mark (expression_found h.expression) (h.behind, mark_found (drop h.end (words T)) (sym h.closes), front_inside T h.end m h.closes)

not_closed : (m : Mark) (k : ℕ) (T : List Token) (from : ℕ) → m.0 < no_mark → NoClosed m k T from → FindsNone (before_mark (expression k) m.0) T from
not_closed m k T from l (inl n) = record { none_is = chain_none _ (none_read IsExpression 1 expressions_read k T from n) }
not_closed m k T from l (inr (e, end, h, n)) =
    let f : Finds (expression k) T from (plain e) end = expression_found h in
    record { none_is = chain_then _ f.found_is (other_mark m.0 _ (drop end (words T)) (λ q. n (mark_is (drop end (words T)) m q l))) }

pub no_closed : (m : Mark) (k : ℕ) (T : List Token) (from : ℕ) → m.0 < no_mark → (f : ParseFault) → FailsClosed m k T from f → Misses (before_mark (expression k) m.0) T from f
no_closed m k T from l (Syntax at) h = not_closed m k T from l h.1
no_closed m k T from l (Unsupported at) h = h
no_closed m k T from l Memory h = h

-- ---- statements

pub statement_found : {k : ℕ} {T : List Token} {from : ℕ} {s : Stmt} {next : ℕ} → IsStatement k T from s next → Finds (statement_of k) T from (plain_statement s) next
statement_found {k = k} {T = T} {from = from} {s = s} {next = next} h = record {
  found_is = ap (statement k) h.spelled ∙ reads_statement (plain_statement s) h.well k h.shallow (drop next (words T)) h.closes;
  within = h.within;
  taken = h.taken;
  numbered = h.numbered;
}

nothing_stands : (k : ℕ) (T : List Token) (from : ℕ) → NoneStands k T from → (o : Found Statement) → statement k (drop from (words T)) ≡ o → o ≡ None
nothing_stands k T from h None e = refl
nothing_stands k T from h (Some p) e =
    let s = statement_sound k (drop from (words T)) p e in
    absurd (h p.0 (record { well = s.well; shallow = s.deep; left = p.1; spelled = s.spelled; closes = s.closes }))

pub no_statement : (k : ℕ) (T : List Token) (from : ℕ) (f : ParseFault) → statements.Fails k T from f → Misses (statement_of k) T from f
no_statement k T from (Syntax at) h = record { none_is = nothing_stands k T from h.1 (statement k (drop from (words T))) refl }
no_statement k T from (Unsupported at) h = h
no_statement k T from Memory h = h
