-- The longest expression at a token is what the reading function of expressions finds.
use Rattle.std.proofs.Common.{◌≡◌, ℕ, ◌≤◌, List, [], ◌∷◌, ◌++◌, length, drop, refl, ap, ◌∙◌, sym, arith, Some, None}
use Rattle.rr_syntax.specs.declared.token.Token.{Token}
use Rattle.rr_syntax.specs.declared.tree.Expr.{Expr}
use Rattle.rr_syntax.specs.Words.{Word, words}
use Rattle.rr_syntax.specs.Tree.{Tree, bare}
use Rattle.rr_syntax.specs.Expressions.{spell, WellFormed}
use Rattle.rr_syntax.specs.View.{plain}
use Rattle.rr_parse_expr.specs.Reading.{Found, reads}
use Rattle.rr_parse_expr.specs.Exact.{IsExpression, IsOperand, Begins, IsLongest, NoneBegins, Fails}
use Rattle.rr_parse_expr.specs.declared.expression.ParseFault.{ParseFault}
use Rattle.rr_parse_expr.specs.declared.expression.ParseFault.TheVariants.{Unsupported, Syntax, Memory}
use Rattle.rr_parse_expr.proofs.Exactly.{IsRead}
use Rattle.rr_parse_expr.proofs.Longest.{unique}
use Rattle.rr_parse_expr.proofs.Sound.{reads_sound}

same_front : (xs ys us vs : List Word) → length xs ≡ length ys → xs ++ us ≡ ys ++ vs → (xs ≡ ys) × (us ≡ vs)
same_front [] [] us vs n e = (refl, e)
same_front [] (y ∷ ys) us vs n e = absurd (omega arith)
same_front (x ∷ xs) [] us vs n e = absurd (omega arith)
same_front (x ∷ xs) (y ∷ ys) us vs n e =
    let h : xs ++ us ≡ ys ++ vs = cc in
    let k : x ≡ y = cc in
    let r = same_front xs ys us vs (omega arith) h in
    (ap (λ (w : Word). w ∷ xs) k ∙ ap (λ (ws : List Word). y ∷ ws) r.0, r.1)

-- a class of which each member is well-formed
pub record IsWell (Class : Tree → Type 0) : Type 0 where
  pub well : (t : Tree) → Class t → WellFormed t

pub expressions_well : IsWell IsExpression
expressions_well = record { well = λ t c. c }

pub operands_well : IsWell IsOperand
operands_well = record { well = λ t c. c.0 }

longest_found : (Class : Tree → Type 0) (low : ℕ) → IsRead Class low → IsWell Class → (limit : ℕ) (T : List Token) (from : ℕ) (e : Expr) (next : ℕ) → IsLongest Class limit T from e next →
    (p : Tree × List Word) → reads limit low (drop from (words T)) ≡ Some p → length (spell (plain e)) ≤ length (spell p.0) → reads limit low (drop from (words T)) ≡ Some (bare (plain e), drop next (words T))
longest_found Class low c w limit T from e next h p q l =
    let ws : List Word = drop from (words T) in
    let s = reads_sound limit low c.some c.most ws p q in
    let b : Begins Class limit ws p.0 = record { is = c.holds p.0 s.well s.high; shallow = s.deep; left = p.1; spelled = s.spelled } in
    let n : length (spell p.0) ≡ length (spell (plain e)) = omega (arith, h.longest p.0 b, l) in
    let f = same_front (spell p.0) (spell (plain e)) p.1 (drop next (words T)) n (sym s.spelled ∙ h.spelled) in
    let t : p.0 ≡ bare (plain e) = sym s.bared ∙ unique p.0 (plain e) s.well (w.well (plain e) h.is) f.0 in
    q ∙ ap (λ (x : Tree). Some (x, p.1)) t ∙ ap (λ (x : List Word). Some (bare (plain e), x)) f.1

pub longest_read : (Class : Tree → Type 0) (low : ℕ) → IsRead Class low → IsWell Class → (limit : ℕ) (T : List Token) (from : ℕ) (e : Expr) (next : ℕ) → IsLongest Class limit T from e next →
    reads limit low (drop from (words T)) ≡ Some (bare (plain e), drop next (words T))
longest_read Class low c w limit T from e next h =
    let r = c.finds limit (drop from (words T)) (plain e) (record { is = h.is; shallow = h.shallow; left = drop next (words T); spelled = h.spelled }) in
    longest_found Class low c w limit T from e next h r.0 r.1 r.2

none_by : (Class : Tree → Type 0) (low : ℕ) → IsRead Class low → (limit : ℕ) (T : List Token) (from : ℕ) → NoneBegins Class limit T from → (o : Found Tree) → reads limit low (drop from (words T)) ≡ o → o ≡ None
none_by Class low c limit T from h None e = refl
none_by Class low c limit T from h (Some p) e =
    let s = reads_sound limit low c.some c.most (drop from (words T)) p e in
    absurd (h p.0 (record { is = c.holds p.0 s.well s.high; shallow = s.deep; left = p.1; spelled = s.spelled }))

pub none_read : (Class : Tree → Type 0) (low : ℕ) → IsRead Class low → (limit : ℕ) (T : List Token) (from : ℕ) → NoneBegins Class limit T from → reads limit low (drop from (words T)) ≡ None
none_read Class low c limit T from h = none_by Class low c limit T from h (reads limit low (drop from (words T))) refl

-- a fault that is no want of memory says that nothing begins
pub fails_none : (Class : Tree → Type 0) (limit : ℕ) (T : List Token) (from : ℕ) (f : ParseFault) → (f ≡ Memory → ⊥) → Fails Class limit T from f → NoneBegins Class limit T from
fails_none Class limit T from (Unsupported at) h k = absurd k
fails_none Class limit T from (Syntax at) h k = k.1
fails_none Class limit T from Memory h k = absurd (h refl)

pub syntax_memory : (f : ParseFault) (at : ℕ) → f ≡ Syntax at → f ≡ Memory → ⊥
syntax_memory f at e h = cc (e, h)
