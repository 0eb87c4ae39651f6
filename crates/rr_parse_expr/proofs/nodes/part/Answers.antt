use Rattle.std.proofs.Common.{◌≡◌, refl, sym, ap, ◌∙◌, ℕ, ◌+◌, nat_eq, Bool, List, false, arith}
use Rattle.std.proofs.lemmas.Bool.Decides.{nat_tests}
use Rattle.rr_syntax.specs.declared.tree.Expr.{Expr}
use Rattle.rr_syntax.specs.Tree.{Tree, Part, Indexed}
use Rattle.rr_syntax.specs.View.{plain}
use Rattle.rr_syntax.proofs.Rows.{plain_part, plain_indexed}
use Rattle.rr_parse_expr.specs.Made.{select_of}
use Rattle.rr_parse_expr.proofs.Answered.{equal_true, equal_false}
use denote.MutBor.{as_bor}
use Rattle.rr_parse_expr.proofs.nodes.part.Goals as goal

as_part : (n : ℕ) (s : List ℕ) (m : ℕ) (t u : Tree) → m ≡ 8 → Part n s t u ≡ select_of n s m t u
unfolding select_of
as_part n s m t u e = rw e refl

as_indexed : (n : ℕ) (s : List ℕ) (m : ℕ) (t u : Tree) → (m ≡ 8 → ⊥) → Indexed n s t u (nat_eq m 43) ≡ select_of n s m t u
unfolding select_of
as_indexed n s m t u e = let h : nat_eq m 8 ≡ false = grind (arith, nat_tests) in rw h refl

pub returns-then-eq : goal.returns-then-eq
returns-then-eq c = record {
  tree = plain_part c.args.token c.args.name (as_bor c.in_ok-left.left) (as_bor c.in_ok-right.right) ∙
      ap (λ (x : Expr). Part c.args.token c.args.name.now (plain x) (plain c.in_ok-right.right.now)) c.in_ok-left.ensures ∙
      ap (λ (x : Expr). Part c.args.token c.args.name.now (plain c.args.first.expr) (plain x)) c.in_ok-right.ensures ∙
      as_part c.args.token c.args.name.now c.args.between.0 (plain c.args.first.expr) (plain c.args.second.expr) (equal_true _ _ (sym c.eq.ensures ∙ c.if-eq.true));
  next_is = refl;
  depth_is = ap (λ (x : ℕ). x + 1) c.max-depth.ensures;
}

pub returns-else-eq : goal.returns-else-eq
returns-else-eq c = record {
  tree = plain_indexed c.args.token c.args.name (as_bor c.in_ok-left.left) (as_bor c.in_ok-right.right) c.eq-up.result ∙
      ap (λ (x : Expr). Indexed c.args.token c.args.name.now (plain x) (plain c.in_ok-right.right.now) c.eq-up.result) c.in_ok-left.ensures ∙
      ap (λ (x : Expr). Indexed c.args.token c.args.name.now (plain c.args.first.expr) (plain x) c.eq-up.result) c.in_ok-right.ensures ∙
      ap (λ (b : Bool). Indexed c.args.token c.args.name.now (plain c.args.first.expr) (plain c.args.second.expr) b) c.eq-up.ensures ∙
      as_indexed c.args.token c.args.name.now c.args.between.0 (plain c.args.first.expr) (plain c.args.second.expr) (equal_false _ _ (sym c.eq.ensures ∙ c.if-eq.false));
  next_is = refl;
  depth_is = ap (λ (x : ℕ). x + 1) c.max-depth.ensures;
}
