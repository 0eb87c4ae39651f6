-- statements at nodes of the arena, and machines over a netlist that grows
use Rattle.std.proofs.Common.{◌≡◌, ◌∙◌, sym, ap, ap₂, refl, subst, ℕ, Bool, cond, List, [], Option, None, Some}
use Rattle.rr_circuit.specs.Values.{Netlist, Extends}
use Rattle.rr_syntax.specs.declared.token.Keyword.{Keyword}
use Rattle.rr_syntax.specs.declared.tree.Arm.{Arm as Branch}
use Rattle.rr_syntax.specs.declared.tree.Expr.{Expr}
use Rattle.rr_syntax.specs.declared.tree.Named.{Named as Label}
use Rattle.rr_syntax.specs.declared.tree.Head.{Head}
use Rattle.rr_syntax.specs.declared.tree.Stmt.{Stmt}
use Rattle.rr_syntax.specs.declared.tree.Stmt.TheVariants as stmt
use Rattle.rr_syntax.specs.Tree.{Assign, Statement}
use Rattle.rr_syntax.specs.View.{plain, plain_statement, plain_statements, plain_arms}
use Rattle.rr_syntax.proofs.Rows.{plain_block, plain_case}
use Rattle.rr_expr.specs.declared.types.Shape.{Shape}
use Rattle.rr_expr.specs.Scopes.{Names}
use Rattle.rr_expr.specs.Values.{value}
use Rattle.rr_flat.specs.Shapes.{shape_faults, statement_faults}
use Rattle.rr_exec.proofs.Nodes.{shaped-If-test, shaped-If-yes, shaped-IfElse-test, shaped-IfElse-yes}
use Rattle.rr_choice.specs.declared.pick.Pick.{Pick}
use Rattle.rr_instance.specs.Instances.{instance_arms, instance_statement, instance_statements, instance_test, instance_tree}
use Rattle.rr_choice.specs.Sites.{Site}
use Rattle.rr_cycle.specs.Exec.{applied, case_shape, executed, is_true, updates}
use Rattle.rr_blast_terms.specs.declared.choice.ChoiceWires.{ChoiceWires}
use Rattle.rr_blast_stmt.specs.declared.statements.Machine.{Machine}
use Rattle.rr_blast_stmt.specs.Running.{IsMachine, Values, held, ran, ran_all, ran_arms}
use Rattle.rr_signal_wires.specs.Words.{Holds, widths_of}
use Rattle.rr_blast_terms.specs.Choosing.{IsReady, picks_of}
use Rattle.rr_blast_stmt.proofs.RanLaws.{made, ran_if, ran_if_else}
use Rattle.rr_blast_stmt.proofs.ShapeLaws.{case_shape_same}
use Rattle.rr_signal_wires.proofs.WordLaws.{AreWords-extends, carried-extends}
use Rattle.rr_blast_terms.proofs.ChoiceLaws.{picks-extends}
use denote.Ref.{Bor}

-- what instances do

pub run-Null : (s : Names) (ss : List Site) (ps : List Pick) (v : Values) → ran s (instance_statement ss ps (plain_statement stmt.Null)) v ≡ v
unfolding plain_statement instance_statement ran executed updates applied
run-Null s ss ps v = refl

pub run-For : (s : Names) (ss : List Site) (ps : List Pick) (head : Head) (body : Bor Stmt) (v : Values) → ran s (instance_statement ss ps (plain_statement (stmt.For head body))) v ≡ v
unfolding plain_statement instance_statement ran executed updates applied
run-For s ss ps head body v = refl

pub run-Block : (s : Names) (ss : List Site) (ps : List Pick) (label : Option Label) (body : Bor (List Stmt)) (v : Values) →
    ran s (instance_statement ss ps (plain_statement (stmt.Block label body))) v ≡ ran_all s (instance_statements ss ps (plain_statements body.now)) v
unfolding instance_statement ran ran_all executed updates
run-Block s ss ps label body v = ap (λ (t : Statement). ran s (instance_statement ss ps t) v) (plain_block label body)

pub run-If : (s : Names) (ss : List Site) (ps : List Pick) (t : Bor Expr) (y : Bor Stmt) (v : Values) →
    ran s (instance_statement ss ps (plain_statement (stmt.If t y None))) v ≡ cond (is_true s (instance_test ss ps (plain t.now)) v.now) (ran s (instance_statement ss ps (plain_statement y.now)) v) v
unfolding plain_statement instance_statement
run-If s ss ps t y v = ran_if s (instance_test ss ps (plain t.now)) (instance_statement ss ps (plain_statement y.now)) v

pub run-IfElse : (s : Names) (ss : List Site) (ps : List Pick) (t : Bor Expr) (y n : Bor Stmt) (v : Values) →
    ran s (instance_statement ss ps (plain_statement (stmt.If t y (Some n)))) v
    ≡ cond (is_true s (instance_test ss ps (plain t.now)) v.now) (ran s (instance_statement ss ps (plain_statement y.now)) v) (ran s (instance_statement ss ps (plain_statement n.now)) v)
unfolding plain_statement instance_statement
run-IfElse s ss ps t y n v = ran_if_else s (instance_test ss ps (plain t.now)) (instance_statement ss ps (plain_statement y.now)) (instance_statement ss ps (plain_statement n.now)) v

pub run-Case : (s : Names) (ss : List Site) (ps : List Pick) (kind : Keyword) (on : Bor Expr) (arms : Bor (List Branch)) (v : Values) (a : Shape) → a ≡ case_shape s (plain on.now) (plain_arms arms.now) →
    ran s (instance_statement ss ps (plain_statement (stmt.Case kind on arms))) v
    ≡ ran_arms s kind.0 a (value s (instance_tree ss ps (plain on.now)) v.now a.width a.signed) (instance_arms ss ps (plain_arms arms.now)) v
unfolding instance_statement ran ran_arms executed updates
run-Case s ss ps kind on arms v a q =
    ap (λ (t : Statement). ran s (instance_statement ss ps t) v) (plain_case kind on arms)
    ∙ ap (λ (b : Shape). ran_arms s kind.0 b (value s (instance_tree ss ps (plain on.now)) v.now b.width b.signed) (instance_arms ss ps (plain_arms arms.now)) v) (case_shape_same s ss ps (plain on.now) (plain_arms arms.now) ∙ sym q)

pub run-Assign : (s : Names) (ss : List Site) (ps : List Pick) (t : Bor Expr) (now : Bool) (e : Bor Expr) (v : Values) →
    ran s (instance_statement ss ps (plain_statement (stmt.Assign t now e))) v ≡ ran s (Assign (plain t.now) now (instance_tree ss ps (plain e.now))) v
unfolding plain_statement instance_statement
run-Assign s ss ps t now e v = refl

-- machines

pub machine-extends : (old new : Netlist) (widths : List ℕ) (m : Machine) → Extends old new → IsMachine old widths m → IsMachine new widths m
machine-extends old new widths m e h = record {
  now = AreWords-extends old new m.now.items e h.now;
  later = AreWords-extends old new m.later.items e h.later;
  now_widths = h.now_widths;
  later_widths = h.later_widths;
}

pub machine_again : (n : Netlist) (widths : List ℕ) (m : Machine) → IsMachine n widths m → IsMachine n (widths_of m.now.items) m
machine_again n widths m h = subst (λ (ws : List ℕ). IsMachine n ws m) (sym h.now_widths) h

pub holds_again : (s : Names) (n : Netlist) (widths : List ℕ) (m : Machine) → IsMachine n widths m → Holds s widths → Holds s (widths_of m.now.items)
holds_again s n widths m h k = subst (λ (ws : List ℕ). Holds s ws) (sym h.now_widths) k

pub held-extends : (old new : Netlist) (env : ℕ → Bool) (widths : List ℕ) (m : Machine) → Extends old new → IsMachine old widths m → held new env m ≡ held old env m
held-extends old new env widths m e h = ap₂ made (carried-extends old new env m.now.items e h.now) (carried-extends old new env m.later.items e h.later)

-- what was done over a netlist that has grown was done over the one before
pub rebased : (old new : Netlist) (env : ℕ → Bool) (c : ChoiceWires) (m : Machine) (widths : List ℕ) (g k : Bool) (F : List Pick → Values → Values) (x : Values) → Extends old new → IsReady old c → IsMachine old widths m → g ≡ k →
    x ≡ cond g (F (picks_of new env c) (held new env m)) (held new env m) → x ≡ cond k (F (picks_of old env c) (held old env m)) (held old env m)
rebased old new env c m widths g k F x e w h q r =
    r ∙ ap (λ (b : Bool). cond b (F (picks_of new env c) (held new env m)) (held new env m)) q
    ∙ ap₂ (λ (ps : List Pick) (v : Values). cond k (F ps v) v) (picks-extends old new env c e w) (held-extends old new env widths m e h)

-- an `if` with an `else` or without

pub shaped-test : (s : Names) (t : Bor Expr) (y : Bor Stmt) (no : Option (Bor Stmt)) → statement_faults s (plain_statement (stmt.If t y no)) ≡ [] → shape_faults s (plain t.now) ≡ []
shaped-test s t y None h = shaped-If-test s t y h
shaped-test s t y (Some n) h = shaped-IfElse-test s t y n h

pub shaped-yes : (s : Names) (t : Bor Expr) (y : Bor Stmt) (no : Option (Bor Stmt)) → statement_faults s (plain_statement (stmt.If t y no)) ≡ [] → statement_faults s (plain_statement y.now) ≡ []
shaped-yes s t y None h = shaped-If-yes s t y h
shaped-yes s t y (Some n) h = shaped-IfElse-yes s t y n h
