-- The equations of the reading function, a step at a time.
use Rattle.std.proofs.Common.{◌≡◌, ℕ, zero, suc, ◌<◌, List, ◌∷◌, codes, refl, Bool, true, false, cond, nat_eq, Some, None}
use Rattle.rr_syntax.specs.declared.token.Number.{Number}
use Rattle.rr_syntax.specs.Words.{Word, Named, System, Digits, Marked, mark_open_parenthesis, mark_close_parenthesis, mark_open_bracket, mark_close_bracket, mark_open_brace, mark_close_brace, mark_comma, mark_colon, mark_question}
use Rattle.rr_syntax.specs.Tree.{Tree, Trees, Name, Literal, Bit, Unary, Binary, Cond, Concat, Repeat, Cast, Paren}
use Rattle.rr_syntax.specs.Expressions.{infix_level, is_prefix, unary_level}
use Rattle.rr_parse_expr.specs.Made.{select_of}
use Rattle.rr_parse_expr.specs.Reading.{Reader, mapped, chain, or_keep, mark, rest, expect, closed, is_between, after_index, select, named, cast_sign, cast_by, system, snoc, parts, parts_from, repeated, after_first, braces, after_mark, operand, goes_on, turn, climb, reads_by, reads, below}
use Rattle.std.proofs.lemmas.Bool.Decides.{Decides-eqb}
use Rattle.rr_parse_expr.proofs.Facts.{binary-other}

pub reads-below : (limit low : ℕ) (ws : List Word) → reads limit low ws ≡ reads_by (below limit) limit low ws
unfolding reads below
reads-below zero low ws = refl
reads-below (suc n) low ws = refl

module _ (sub : Reader) (limit low : ℕ) where
  -- no operator is taken
  pub climb-stop : (fuel : ℕ) (t : Tree) (ws : List Word) → goes_on limit low t (mark ws) ≡ false → climb sub limit low fuel t ws ≡ Some (t, ws)
  unfolding climb
  climb-stop zero t ws e = refl
  climb-stop (suc n) t ws e = rw e refl

  pub climb-turn : (fuel : ℕ) (t : Tree) (ws : List Word) (p : Tree × List Word) → goes_on limit low t (mark ws) ≡ true → turn sub t (mark ws) (rest ws) ≡ Some p →
      climb sub limit low (suc fuel) t ws ≡ climb sub limit low fuel p.0 p.1
  unfolding climb or_keep
  climb-turn n t ws p e f = rw (e, f) refl

  pub climb-none : (fuel : ℕ) (t : Tree) (ws : List Word) → goes_on limit low t (mark ws) ≡ true → turn sub t (mark ws) (rest ws) ≡ None →
      climb sub limit low fuel t ws ≡ Some (t, ws)
  unfolding climb or_keep
  climb-none zero t ws e f = refl
  climb-none (suc n) t ws e f = rw (e, f) refl

  pub reads_by-operand : (ws : List Word) (p : Tree × List Word) → operand sub ws ≡ Some p → reads_by sub limit low ws ≡ climb sub limit low limit p.0 p.1
  unfolding reads_by chain
  reads_by-operand ws p e = rw e refl

  pub reads_by-none : (ws : List Word) → operand sub ws ≡ None → reads_by sub limit low ws ≡ None
  unfolding reads_by chain
  reads_by-none ws e = rw e refl

-- an expression with a mark behind it
pub closed-some : (sub : Reader) (m : ℕ) (ws : List Word) (p : Tree × List Word) → sub 1 ws ≡ Some p → mark p.1 ≡ m → closed sub m ws ≡ Some (p.0, rest p.1)
unfolding closed chain expect
closed-some sub m ws p e f = let h : nat_eq (mark p.1) m ≡ true = (Decides-eqb (mark p.1) m).1 f in rw (e, h) refl

pub closed-none : (sub : Reader) (m : ℕ) (ws : List Word) → sub 1 ws ≡ None → closed sub m ws ≡ None
unfolding closed chain
closed-none sub m ws e = rw e refl

pub closed-other : (sub : Reader) (m : ℕ) (ws : List Word) (p : Tree × List Word) → sub 1 ws ≡ Some p → nat_eq (mark p.1) m ≡ false → closed sub m ws ≡ None
unfolding closed chain expect
closed-other sub m ws p e f = rw (e, f) refl

-- what a turn gives
pub turn-binary : (sub : Reader) (t : Tree) (m : ℕ) (ws : List Word) (p : Tree × List Word) → 1 < infix_level m → sub (suc (infix_level m)) ws ≡ Some p →
    turn sub t m ws ≡ Some (Binary m t p.0, p.1)
unfolding turn mapped
turn-binary sub t m ws p h e = rw (binary-other m h, e) refl

pub turn-cond : (sub : Reader) (t : Tree) (ws : List Word) (p : Tree × List Word) (q : Tree × List Word) → closed sub mark_colon ws ≡ Some p → sub 1 p.1 ≡ Some q →
    turn sub t mark_question ws ≡ Some (Cond t p.0 q.0, q.1)
unfolding turn mapped chain
turn-cond sub t ws p q e f = rw (e, f) refl

-- a name, and a select of one
pub named-select : (sub : Reader) (s : List ℕ) (ws : List Word) (p : Tree × List Word) → select sub s ws ≡ Some p → named sub s ws ≡ Some p
unfolding named or_keep
named-select sub s ws p e = rw e refl

pub named-alone : (sub : Reader) (s : List ℕ) (ws : List Word) → select sub s ws ≡ None → named sub s ws ≡ Some (Name 0 s, ws)
unfolding named or_keep
named-alone sub s ws e = rw e refl

pub select-other : (sub : Reader) (s : List ℕ) (ws : List Word) → nat_eq (mark ws) mark_open_bracket ≡ false → select sub s ws ≡ None
unfolding select expect
select-other sub s ws e = rw e refl

pub select-none : (sub : Reader) (s : List ℕ) (ws : List Word) → mark ws ≡ mark_open_bracket → sub 1 (rest ws) ≡ None → select sub s ws ≡ None
unfolding select expect chain
select-none sub s ws e f = rw (e, f) refl

pub select-index : (sub : Reader) (s : List ℕ) (ws : List Word) (p : Tree × List Word) → mark ws ≡ mark_open_bracket → sub 1 (rest ws) ≡ Some p → select sub s ws ≡ after_index sub s p.0 (mark p.1) (rest p.1)
unfolding select expect chain
select-index sub s ws p e f = rw (e, f) refl

pub index-bit : (sub : Reader) (s : List ℕ) (t : Tree) (m : ℕ) (ws : List Word) → m ≡ mark_close_bracket → after_index sub s t m ws ≡ Some (Bit 0 s t, ws)
unfolding after_index
index-bit sub s t m ws e = rw e refl

not_close : (m : ℕ) → is_between m ≡ true → nat_eq m mark_close_bracket ≡ false
unfolding is_between
not_close m e = elim (nat_eq m mark_close_bracket) as (λ b. nat_eq m mark_close_bracket ≡ b → nat_eq m mark_close_bracket ≡ false) [
  | true ↦ λ f. absurd (let h : m ≡ mark_close_bracket = (Decides-eqb m mark_close_bracket).0 f in cc (rw h at e))
  | false ↦ λ f. f
] refl

pub index-part : (sub : Reader) (s : List ℕ) (t : Tree) (m : ℕ) (ws : List Word) (p : Tree × List Word) → is_between m ≡ true → closed sub mark_close_bracket ws ≡ Some p →
    after_index sub s t m ws ≡ Some (select_of 0 s m t p.0, p.1)
unfolding after_index mapped
index-part sub s t m ws p e f = rw (not_close m e, e, f) refl

pub index-open : (sub : Reader) (s : List ℕ) (t : Tree) (m : ℕ) (ws : List Word) → is_between m ≡ true → closed sub mark_close_bracket ws ≡ None → after_index sub s t m ws ≡ None
unfolding after_index mapped
index-open sub s t m ws e f = rw (not_close m e, e, f) refl

pub index-other : (sub : Reader) (s : List ℕ) (t : Tree) (m : ℕ) (ws : List Word) → nat_eq m mark_close_bracket ≡ false → is_between m ≡ false → after_index sub s t m ws ≡ None
unfolding after_index
index-other sub s t m ws e f = rw (e, f) refl

-- casts
pub cast-none : (sub : Reader) (s : List ℕ) (ws : List Word) → cast_sign s ≡ None → system sub s ws ≡ None
unfolding system cast_by
cast-none sub s ws e = rw e refl

pub cast-other : (sub : Reader) (s : List ℕ) (signed : Bool) (ws : List Word) → cast_sign s ≡ Some signed → nat_eq (mark ws) mark_open_parenthesis ≡ false → system sub s ws ≡ None
unfolding system cast_by expect
cast-other sub s signed ws e f = rw (e, f) refl

pub cast-open : (sub : Reader) (s : List ℕ) (signed : Bool) (ws : List Word) → cast_sign s ≡ Some signed → mark ws ≡ mark_open_parenthesis → closed sub mark_close_parenthesis (rest ws) ≡ None → system sub s ws ≡ None
unfolding system cast_by expect mapped
cast-open sub s signed ws e f g = rw (e, f, g) refl

pub cast-some : (sub : Reader) (s : List ℕ) (signed : Bool) (ws : List Word) (p : Tree × List Word) → cast_sign s ≡ Some signed → mark ws ≡ mark_open_parenthesis → closed sub mark_close_parenthesis (rest ws) ≡ Some p →
    system sub s ws ≡ Some (Cast signed p.0, p.1)
unfolding system cast_by expect mapped
cast-some sub s signed ws p e f g = rw (e, f, g) refl

pub sign-of : (signed : Bool) → cast_sign (cond signed (codes "signed") (codes "unsigned")) ≡ Some signed
unfolding cast_sign
sign-of true = refl
sign-of false = refl

-- lists in braces
pub parts-close : (sub : Reader) (n : ℕ) (have : Trees) (ws : List Word) → mark ws ≡ mark_close_brace → parts sub (suc n) have ws ≡ Some (have, rest ws)
unfolding parts
parts-close sub n have ws e = rw e refl

pub parts-comma : (sub : Reader) (n : ℕ) (have : Trees) (ws : List Word) (p : Tree × List Word) → mark ws ≡ mark_comma → sub 1 (rest ws) ≡ Some p → parts sub (suc n) have ws ≡ parts sub n (snoc have p.0) p.1
unfolding parts chain
parts-comma sub n have ws p e f = rw (e, f) refl

pub braces-none : (sub : Reader) (ws : List Word) → sub 1 ws ≡ None → braces sub ws ≡ None
unfolding braces chain
braces-none sub ws e = rw e refl

pub braces-first : (sub : Reader) (ws : List Word) (p : Tree × List Word) → sub 1 ws ≡ Some p → braces sub ws ≡ after_first sub p.0 p.1
unfolding braces chain
braces-first sub ws p e = rw e refl

pub first-concat : (sub : Reader) (t : Tree) (ws : List Word) (p : Trees × List Word) → nat_eq (mark ws) mark_open_brace ≡ false → parts_from sub t ws ≡ Some p → after_first sub t ws ≡ Some (Concat p.0, p.1)
unfolding after_first mapped
first-concat sub t ws p e f = rw (e, f) refl

pub first-open : (sub : Reader) (t : Tree) (ws : List Word) → nat_eq (mark ws) mark_open_brace ≡ false → parts_from sub t ws ≡ None → after_first sub t ws ≡ None
unfolding after_first mapped
first-open sub t ws e f = rw (e, f) refl

pub first-repeat : (sub : Reader) (t : Tree) (ws : List Word) → mark ws ≡ mark_open_brace → after_first sub t ws ≡ repeated sub t (rest ws)
unfolding after_first
first-repeat sub t ws e = rw e refl

pub repeated-none : (sub : Reader) (t : Tree) (ws : List Word) → sub 1 ws ≡ None → repeated sub t ws ≡ None
unfolding repeated chain
repeated-none sub t ws e = rw e refl

pub repeated-open : (sub : Reader) (t : Tree) (ws : List Word) (p : Tree × List Word) → sub 1 ws ≡ Some p → parts_from sub p.0 p.1 ≡ None → repeated sub t ws ≡ None
unfolding repeated chain
repeated-open sub t ws p e f = rw (e, f) refl

pub repeated-other : (sub : Reader) (t : Tree) (ws : List Word) (p : Tree × List Word) (q : Trees × List Word) → sub 1 ws ≡ Some p → parts_from sub p.0 p.1 ≡ Some q → nat_eq (mark q.1) mark_close_brace ≡ false → repeated sub t ws ≡ None
unfolding repeated chain expect
repeated-other sub t ws p q e f g = rw (e, f, g) refl

pub repeated-some : (sub : Reader) (t : Tree) (ws : List Word) (p : Tree × List Word) (q : Trees × List Word) → sub 1 ws ≡ Some p → parts_from sub p.0 p.1 ≡ Some q → mark q.1 ≡ mark_close_brace → repeated sub t ws ≡ Some (Repeat t q.0, rest q.1)
unfolding repeated chain expect
repeated-some sub t ws p q e f g = rw (e, f, g) refl

-- operands
pub operand-unary : (sub : Reader) (m : ℕ) (ws : List Word) (p : Tree × List Word) → is_prefix m ≡ true → sub unary_level ws ≡ Some p → operand sub (Marked m ∷ ws) ≡ Some (Unary m p.0, p.1)
unfolding operand after_mark mapped
operand-unary sub m ws p e f = rw (e, f) refl

pub operand-paren : (sub : Reader) (ws : List Word) (p : Tree × List Word) → closed sub mark_close_parenthesis ws ≡ Some p → operand sub (Marked mark_open_parenthesis ∷ ws) ≡ Some (Paren p.0, p.1)
unfolding operand after_mark mapped is_prefix
operand-paren sub ws p e = rw e refl

pub operand-braces : (sub : Reader) (ws : List Word) → operand sub (Marked mark_open_brace ∷ ws) ≡ braces sub ws
unfolding operand after_mark is_prefix
operand-braces sub ws = refl

pub operand-named : (sub : Reader) (s : List ℕ) (ws : List Word) → operand sub (Named s ∷ ws) ≡ named sub s ws
unfolding operand
operand-named sub s ws = refl

pub operand-system : (sub : Reader) (s : List ℕ) (ws : List Word) → operand sub (System s ∷ ws) ≡ system sub s ws
unfolding operand
operand-system sub s ws = refl

pub operand-literal : (sub : Reader) (d : Number) (ws : List Word) → operand sub (Digits d ∷ ws) ≡ Some (Literal 0 d, ws)
unfolding operand
operand-literal sub d ws = refl
