-- What the reading function finds is the longest tree, and where it finds none there is none.
use Rattle.std.proofs.Common.{◌≡◌, ℕ, zero, suc, ◌+◌, ◌-◌, ◌≤◌, ◌<◌, List, ◌++◌, length, drop, refl, ap, ◌∙◌, sym, arith, Option, Some, None, subst}
use Rattle.rr_syntax.specs.declared.token.Token.{Token}
use Rattle.rr_syntax.specs.declared.tree.Expr.{Expr}
use Rattle.rr_syntax.specs.Words.{Word, words}
use Rattle.rr_syntax.specs.Tree.{Tree}
use Rattle.rr_syntax.specs.Expressions.{spell, level, unary_level, WellFormed}
use Rattle.rr_syntax.specs.View.{plain}
use Rattle.rr_syntax.proofs.BareExpressions.{level-bare, depth-bare, spell-bare, WellFormed-bare}
use Rattle.rr_parse_expr.specs.declared.nodes.Read.{Read}
use Rattle.rr_parse_expr.specs.Reading.{reads, below}
use Rattle.rr_parse_expr.specs.Answer.{form, FindsBelow, AnswersBelow}
use Rattle.rr_parse_expr.specs.Exact.{IsExpression, IsOperand, Begins, IsLongest, NoneBegins}
use Rattle.rr_parse_expr.proofs.Facts.{level_pos}
use Rattle.rr_parse_expr.proofs.Longest.{reaches, Reaches}
use Rattle.rr_parse_expr.proofs.Sound.{reads_sound}

pub below_zero : (room low : ℕ) (ws : List Word) → room ≡ 0 → below room low ws ≡ None
unfolding below
below_zero room low ws e = rw e refl

pub below_is : (room low : ℕ) (ws : List Word) → 0 < room → below room low ws ≡ reads (room - 1) low ws
unfolding below
below_is zero low ws h = absurd (omega arith)
below_is (suc k) low ws h = let e : suc k - 1 ≡ k = omega arith in ap (λ (j : ℕ). reads j low ws) (sym e)

pub below_next : (limit low : ℕ) (ws : List Word) → below (limit + 1) low ws ≡ reads limit low ws
below_next limit low ws = let e : limit + 1 - 1 ≡ limit = omega arith in below_is (limit + 1) low ws (omega arith) ∙ ap (λ (j : ℕ). reads j low ws) e

-- a class of trees, of at least a level, whose members are read
pub record IsRead (Class : Tree → Type 0) (low : ℕ) : Type 0 where
  pub some : 1 ≤ low
  pub most : low ≤ unary_level
  pub holds : (t : Tree) → WellFormed t → low ≤ level t → Class t
  pub finds : (limit : ℕ) (ws : List Word) (t : Tree) → Begins Class limit ws t → Reaches limit low ws t

expression_found : (limit : ℕ) (ws : List Word) (t : Tree) → Begins IsExpression limit ws t → Reaches limit 1 ws t
expression_found limit ws t b = rw b.spelled (reaches t b.is limit 1 (omega arith) (level_pos t b.is) (omega arith) b.shallow b.left)

operand_found : (limit : ℕ) (ws : List Word) (t : Tree) → Begins IsOperand limit ws t → Reaches limit unary_level ws t
operand_found limit ws t b = rw b.spelled (reaches t b.is.0 limit unary_level (omega arith) b.is.1 (omega arith) b.shallow b.left)

pub expressions_read : IsRead IsExpression 1
expressions_read = record { some = omega arith; most = omega arith; holds = λ t w h. w; finds = expression_found }

pub operands_read : IsRead IsOperand unary_level
operands_read = record { some = omega arith; most = omega arith; holds = λ t w h. (w, h); finds = operand_found }

at_most : (limit low : ℕ) (ws : List Word) (t u : Tree) (left : List Word) → reads limit low ws ≡ Some (u, left) → Reaches limit low ws t → length (spell t) ≤ length (spell u)
at_most limit low ws t u left e r =
    let q : r.0 ≡ (u, left) = cc (e, r.1) in
    omega (arith, r.2, ap (λ (x : Tree × List Word). length (spell x.0)) q)

never : (limit low : ℕ) (ws : List Word) (t : Tree) → reads limit low ws ≡ None → Reaches limit low ws t → ⊥
never limit low ws t e r = cc (e, r.1)

plain_well : (e : Expr) → WellFormed (form e) → WellFormed (plain e)
plain_well e w = subst (λ (P : Type 0). P) (WellFormed-bare (plain e)) w

longest_of : (Class : Tree → Type 0) (low : ℕ) → IsRead Class low → (limit : ℕ) (T : List Token) (from : ℕ) (r : Read) → FindsBelow T from (limit + 1) (below (limit + 1) low (drop from (words T))) r → IsLongest Class limit T from r.expr r.next
longest_of Class low c limit T from r f =
    let ws : List Word = drop from (words T) in
    let e : reads limit low ws ≡ Some (form r.expr, drop r.next (words T)) = sym (below_next limit low ws) ∙ f.found_is in
    let s = reads_sound limit low c.some c.most ws (form r.expr, drop r.next (words T)) e in
    record {
      is = c.holds (plain r.expr) (plain_well r.expr s.well) (omega (arith, s.high, level-bare (plain r.expr)));
      shallow = omega (arith, s.deep, depth-bare (plain r.expr));
      spelled = s.spelled ∙ ap (λ (x : List Word). x ++ drop r.next (words T)) (spell-bare (plain r.expr));
      taken = f.read.taken;
      within = f.read.within;
      numbered = f.read.numbered;
      longest = λ t b. omega (arith, at_most limit low ws t (form r.expr) (drop r.next (words T)) e (c.finds limit ws t b), ap length (spell-bare (plain r.expr)));
    }

pub is_longest : (Class : Tree → Type 0) (low : ℕ) → IsRead Class low → (limit : ℕ) (T : List Token) (from : ℕ) (o : Option Read) (r : Read) (e : Expr) → o ≡ Some r → e ≡ r.expr →
    AnswersBelow T from (limit + 1) (below (limit + 1) low (drop from (words T))) o → IsLongest Class limit T from e r.next
is_longest Class low c limit T from o r e h at a = rw at (longest_of Class low c limit T from r (rw h at a))

pub none_begins : (Class : Tree → Type 0) (low : ℕ) → IsRead Class low → (limit : ℕ) (T : List Token) (from : ℕ) (o : Option Read) → o ≡ None →
    AnswersBelow T from (limit + 1) (below (limit + 1) low (drop from (words T))) o → NoneBegins Class limit T from
none_begins Class low c limit T from o h a t b =
    let ws : List Word = drop from (words T) in
    let n : below (limit + 1) low ws ≡ None = rw h at a in
    never limit low ws t (sym (below_next limit low ws) ∙ n) (c.finds limit ws t b)
