use Rattle.std.proofs.Common.{rules, ◌≡◌, ◌∙◌, sym, ap, ap₂, Bool, false, List, cond, not, drop, length, ◌+◌, ◌&&◌}
use Rattle.std.specs.Prelude.{Vec}
use Rattle.std.specs.Global.{Global}
use Rattle.std.proofs.lemmas.List.{length-map}
use Rattle.rr_circuit.specs.declared.Wire.{Wire}
use Rattle.rr_circuit.specs.Values.{wire_value, wire_values}
use Rattle.rr_circuit.proofs.Netlists.{AreWires-extends, Extends-refl, Extends-trans, wire_values-extends}
use Rattle.rr_syntax.specs.declared.tree.Stmt.{Stmt, the_lemmas}
use Rattle.rr_syntax.specs.declared.tree.Stmt.TheVariants as stmt
use Rattle.rr_syntax.specs.Tree.{Arms}
use Rattle.rr_syntax.specs.View.{plain, plain_arms, plain_list, plain_statement}
use Rattle.rr_expr.specs.Values.{value}
use Rattle.rr_flat.proofs.Shaping.{clear}
use Rattle.rr_choice.specs.declared.pick.Pick.{Pick}
use Rattle.rr_instance.specs.Instances.{instance_arms, instance_parts, instance_statement, instance_test, instance_tree}
use Rattle.rr_cycle.specs.Exec.{is_matched, is_true}
use Rattle.rr_exec.proofs.Loops.{arm_body_shaped, arm_labels_shaped, narrow_labels_at, shaped_at}
use Rattle.rr_wiring.proofs.Widths.{length_value}
use Rattle.rr_exec.proofs.Nodes.{shaped-Block, shaped-IfElse-no, shaped-Case-on, shaped-Case-arms, shaped-Assign-target, shaped-Assign-value}
use Rattle.rr_blast_stmt.specs.Running.{Values, held, ran, ran_arms, ran_default}
use Rattle.rr_signal_wires.specs.Words.{carried, widths_of}
use Rattle.rr_blast_terms.specs.Choosing.{picks_of}
use Rattle.rr_blast_stmt.proofs.ArmLaws.{holds_again, machine-extends, machine_again, rebased, run-Assign, run-Block, run-Case, run-For, run-If, run-IfElse, run-Null, shaped-test, shaped-yes}
use Rattle.rr_blast_stmt.proofs.RanLaws.{default_at, default_none, guard_else, guard_then, left_done, left_more, left_start, and_false, and_true, no_match, same_case, ran_done, ran_more, rest_all, rest_at, rest_none}
use Rattle.rr_blast_terms.proofs.ChoiceLaws.{picks-extends, ready-extends}
use Rattle.rr_blast_stmt.proofs.statements.+execute.Goals as goal

pub execute-execute_all-requires : goal.execute-execute_all-requires
execute-execute_all-requires t c = (search (rules, the_lemmas), (shaped-Block _ _ _ (rw c.in-Block.is at c.requires.shaped), (c.requires.guard, (c.requires.choice, (c.requires.machine, c.requires.holds)))))

pub execute-case_shape-shape-requires-clause-on : goal.execute-case_shape-shape-requires-clause-on
execute-case_shape-shape-requires-clause-on t c = shaped-Case-on _ _ _ _ (rw c.in-Case.is at c.requires.shaped)

pub execute-case_shape-shape-requires-clause-arms : goal.execute-case_shape-shape-requires-clause-arms
execute-case_shape-shape-requires-clause-arms t c = shaped-Case-arms _ _ _ _ (rw c.in-Case.is at c.requires.shaped)

pub execute-wires-requires-clause-shaped : goal.execute-wires-requires-clause-shaped
execute-wires-requires-clause-shaped t c = clear c.args.scope.now _ (shaped-Case-on _ _ _ _ (rw c.in-Case.is at c.requires.shaped))

pub execute-execute_arms-requires : goal.execute-execute_arms-requires
execute-execute_arms-requires t c =
    let x = c.in_ok-value-in-Case.ensures in
    let a = c.case_shape-shape.ensures in
    let l = ap length c.as_slice-in-Case-2.ensures.value ∙ sym (length-map c.in_ok-value-in-Case.value.items (wire_value c.wires.new.b (λ k. false))) ∙ ap length (x.value (λ k. false))
    ∙ length_value c.args.scope.now _ (carried c.args.b.now (λ k. false) c.as_slice-in-Case.result.now) c.case_shape-shape.result.width c.case_shape-shape.result.signed in (
      search (rules, the_lemmas),
      (
        shaped-Case-arms _ _ _ _ (rw c.in-Case.is at c.requires.shaped),
        (
          a.narrow,
          (
            rw c.as_slice-in-Case-2.ensures.value x.wires,
            (
              l,
              (
                a.high,
                (
                  x.extends.wires _ c.requires.guard,
                  (ready-extends c.args.b.now _ c.args.choice.now x.extends c.requires.choice, (machine-extends c.args.b.now _ _ c.args.machine.now x.extends c.requires.machine, c.requires.holds)),
                ),
              ),
            ),
          ),
        ),
      ),
    )

pub execute-assign-requires-clause-target : goal.execute-assign-requires-clause-target
execute-assign-requires-clause-target t c = clear c.args.scope.now _ (shaped-Assign-target _ _ _ _ (rw c.in-Assign.is at c.requires.shaped))

pub execute-assign-requires-clause-value : goal.execute-assign-requires-clause-value
execute-assign-requires-clause-value t c = clear c.args.scope.now _ (shaped-Assign-value _ _ _ _ (rw c.in-Assign.is at c.requires.shaped))

pub execute-returns-in-Null-clause-ran : goal.execute-returns-in-Null-clause-ran
execute-returns-in-Null-clause-ran t c = λ env.
    let s = c.args.scope.now in
    let ss = c.args.choice.now.sites.now in
    let k : List Pick = picks_of c.args.b.now env c.args.choice.now in
    let v : Values = held c.args.b.now env c.args.machine.now in
    let g : Bool = wire_value c.args.b.now env c.args.guard in
    same_case g v _ (sym (ap (λ (p : Stmt). ran s (instance_statement ss k (plain_statement p)) v) c.in-Null.is ∙ run-Null s ss k v))

pub execute-returns-in-For-clause-ran : goal.execute-returns-in-For-clause-ran
execute-returns-in-For-clause-ran t c = λ env.
    let s = c.args.scope.now in
    let ss = c.args.choice.now.sites.now in
    let k : List Pick = picks_of c.args.b.now env c.args.choice.now in
    let v : Values = held c.args.b.now env c.args.machine.now in
    let g : Bool = wire_value c.args.b.now env c.args.guard in
    same_case g v _ (sym (ap (λ (p : Stmt). ran s (instance_statement ss k (plain_statement p)) v) c.in-For.is ∙ run-For s ss k _ _ v))

pub execute-returns-in_ok-execute_all-in-Block-clause-ran : goal.execute-returns-in_ok-execute_all-in-Block-clause-ran
execute-returns-in_ok-execute_all-in-Block-clause-ran t c = λ env.
    let s = c.args.scope.now in
    let ss = c.args.choice.now.sites.now in
    let k : List Pick = picks_of c.args.b.now env c.args.choice.now in
    let v : Values = held c.args.b.now env c.args.machine.now in
    let g : Bool = wire_value c.args.b.now env c.args.guard in
    c.in_ok-execute_all-in-Block.ensures.ran env
    ∙ ap (λ (u : Values). cond g u v) (sym (ap (λ (p : Stmt). ran s (instance_statement ss k (plain_statement p)) v) c.in-Block.is ∙ run-Block s ss k c.in-Block.label c.in-Block.body v))

pub execute-returns-in_ok-execute_arms-in-Case-clause-ran : goal.execute-returns-in_ok-execute_arms-in-Case-clause-ran
execute-returns-in_ok-execute_arms-in-Case-clause-ran t c = λ env.
    let s = c.args.scope.now in
    let ss = c.args.choice.now.sites.now in
    let k : List Pick = picks_of c.args.b.now env c.args.choice.now in
    let v : Values = held c.args.b.now env c.args.machine.now in
    let g : Bool = wire_value c.args.b.now env c.args.guard in
    let x = c.in_ok-value-in-Case.ensures in
    let a = c.case_shape-shape.result in
    rebased c.args.b.now c.wires.new.b env c.args.choice.now c.args.machine.now (widths_of c.args.machine.now.now.items) _ g
    (λ ps u. ran_arms s c.in-Case.kind.0 a (wire_values c.wires.new.b env c.as_slice-in-Case-2.result.now) (instance_arms ss ps (plain_arms c.in-Case.arms.now)) u) _ x.extends c.requires.choice c.requires.machine (x.extends.values env c.args.guard c.requires.guard)
    (c.in_ok-execute_arms-in-Case.ensures.ran env)
    ∙ ap (λ (bs : List Bool). cond g (ran_arms s c.in-Case.kind.0 a bs (instance_arms ss k (plain_arms c.in-Case.arms.now)) v) v)
    (ap (wire_values c.wires.new.b env) c.as_slice-in-Case-2.ensures.value ∙ x.value env
    ∙ ap (λ (ws : List (Vec Wire Global)). value s (instance_tree ss k (plain c.in-Case.on.now)) (carried c.args.b.now env ws) a.width a.signed) c.as_slice-in-Case.ensures.value)
    ∙ ap (λ (u : Values). cond g u v) (sym (ap (λ (p : Stmt). ran s (instance_statement ss k (plain_statement p)) v) c.in-Case.is ∙ run-Case s ss k c.in-Case.kind c.in-Case.on c.in-Case.arms v a c.case_shape-shape.ensures.value))

pub execute-returns-in_ok-assign-in-Assign-clause-ran : goal.execute-returns-in_ok-assign-in-Assign-clause-ran
execute-returns-in_ok-assign-in-Assign-clause-ran t c = λ env.
    let s = c.args.scope.now in
    let ss = c.args.choice.now.sites.now in
    let k : List Pick = picks_of c.args.b.now env c.args.choice.now in
    let v : Values = held c.args.b.now env c.args.machine.now in
    let g : Bool = wire_value c.args.b.now env c.args.guard in
    c.in_ok-assign-in-Assign.ensures.ran env
    ∙ ap (λ (u : Values). cond g u v) (sym (ap (λ (p : Stmt). ran s (instance_statement ss k (plain_statement p)) v) c.in-Assign.is ∙ run-Assign s ss k c.in-Assign.target c.in-Assign.now c.in-Assign.value v))

pub execute_all-execute-requires : goal.execute_all-execute-requires
execute_all-execute-requires t c =
    let h = c.loop-stmt.invariant in (
      search (rules, the_lemmas),
      (
        shaped_at c.args.scope.now c.args.body.now c.loop-stmt.stmt-index c.stmt-item.result c.loop-stmt-test.true c.stmt-item.is c.requires.shaped,
        (
          h.extends.wires _ c.requires.guard,
          (ready-extends c.args.b.now _ c.args.choice.now h.extends c.requires.choice, (machine_again _ _ _ h.machine, holds_again c.args.scope.now _ _ _ h.machine c.requires.holds)),
        ),
      ),
    )

pub execute_all-loop-stmt-preserved : goal.execute_all-loop-stmt-preserved
execute_all-loop-stmt-preserved t c =
    let h = c.loop-stmt.invariant in
    let x = c.in_ok-execute.ensures in
    record {
      extends = Extends-trans _ _ _ h.extends x.extends;
      machine = rw (sym h.machine.now_widths) x.machine;
      ran = λ env.
          let ss = c.args.choice.now.sites.now in
          let k : List Pick = picks_of c.args.b.now env c.args.choice.now in
          let m : Values = held c.loop-stmt.b env c.loop-stmt.machine in
          let g : Bool = wire_value c.args.b.now env c.args.guard in
          ran_more c.args.scope.now ss k c.args.body.now c.loop-stmt.stmt-index c.stmt-item.result g m _ _ c.loop-stmt-test.true c.stmt-item.is
          (x.ran env ∙ ap₂ (λ (d : Bool) (ps : List Pick). cond d (ran c.args.scope.now (instance_statement ss ps (plain_statement c.stmt-item.result)) m) m) (h.extends.values env c.args.guard c.requires.guard) (picks-extends c.args.b.now _ env c.args.choice.now h.extends c.requires.choice))
          (h.ran env);
    }

pub execute_all-returns-clause-ran : goal.execute_all-returns-clause-ran
execute_all-returns-clause-ran t c = λ env.
    ran_done c.args.scope.now c.args.choice.now.sites.now (picks_of c.args.b.now env c.args.choice.now) c.args.body.now c.loop-stmt.stmt-index (wire_value c.args.b.now env c.args.guard) _ _ c.loop-stmt-test.false (c.loop-stmt.invariant.ran env)

pub execute_arm-returns-clause-ran : goal.execute_arm-returns-clause-ran
execute_arm-returns-clause-ran t c = λ env.
    let s = c.args.scope.now in
    let ss = c.args.choice.now.sites.now in
    let k : List Pick = picks_of c.args.b.now env c.args.choice.now in
    let v : Values = held c.args.b.now env c.args.machine.now in
    let g : Bool = wire_value c.args.b.now env c.args.guard in
    let f = c.in_ok-found.ensures in
    let e = c.in_ok-here.ensures in
    let r = c.in_ok-rest.ensures in
    let x = Extends-trans _ _ _ (Extends-trans _ _ _ f.extends e.extends) r.extends in
    let a = c.args.selector.now in
    let b : Bool = is_matched s a.kind.0 a.shape (wire_values c.args.b.now env a.value.now) (instance_parts ss k (plain_list c.args.arm.now.labels.now)) v.now in
    rebased c.args.b.now _ env c.args.choice.now c.args.machine.now (widths_of c.args.machine.now.now.items) _ (g && b) (λ ps u. ran s (instance_statement ss ps (plain_statement c.args.arm.now.body.now)) u) _ x c.requires.choice c.requires.machine
    (r.extends.values env _ e.wire ∙ e.value env ∙ ap₂ (λ (y z : Bool). y && z) (f.extends.values env c.args.guard c.requires.guard)
    (f.value env ∙ ap (λ (ws : List (Vec Wire Global)). is_matched s a.kind.0 a.shape (wire_values c.args.b.now env a.value.now) (instance_parts ss k (plain_list c.args.arm.now.labels.now)) (carried c.args.b.now env ws)) c.as_slice.ensures.value))
    (c.in_ok-execute.ensures.ran env)

pub execute_arms-loop-arm-init : goal.execute_arms-loop-arm-init
execute_arms-loop-arm-init t c = record {
  extends = Extends-refl c.args.b.now;
  wire = c.requires.guard;
  machine = c.requires.machine;
  ran = λ env. left_start (wire_value c.args.b.now env c.args.guard) (held c.args.b.now env c.args.machine.now) _ _ (rest_all c.args.scope.now c.args.selector.now.kind.0 c.args.selector.now.shape (wire_values c.args.b.now env c.args.selector.now.value.now) (instance_arms c.args.choice.now.sites.now (picks_of c.args.b.now env c.args.choice.now) (plain_arms c.args.arms.now)) (held c.args.b.now env c.args.machine.now));
}

pub execute_arms-execute_arm-requires : goal.execute_arms-execute_arm-requires
execute_arms-execute_arm-requires t c =
    let h = c.loop-arm.invariant in
    let s = c.args.scope.now in (
      search (rules, the_lemmas),
      (
        arm_labels_shaped s c.args.arms.now c.loop-arm.arm-index c.arm-item.result c.loop-arm-test.true c.arm-item.is c.requires.arms,
        (
          arm_body_shaped s c.args.arms.now c.loop-arm.arm-index c.arm-item.result c.loop-arm-test.true c.arm-item.is c.requires.arms,
          (
            narrow_labels_at s c.args.selector.now.shape.width c.args.arms.now c.loop-arm.arm-index c.arm-item.result c.loop-arm-test.true c.arm-item.is c.requires.narrow,
            (
              AreWires-extends c.args.b.now _ c.args.selector.now.value.now h.extends c.requires.selector,
              (
                c.requires.width,
                (
                  c.requires.high,
                  (
                    h.wire,
                    (ready-extends c.args.b.now _ c.args.choice.now h.extends c.requires.choice, (machine_again _ _ _ h.machine, holds_again s _ _ _ h.machine c.requires.holds)),
                  ),
                ),
              ),
            ),
          ),
        ),
      ),
    )

pub execute_arms-loop-arm-preserved : goal.execute_arms-loop-arm-preserved
execute_arms-loop-arm-preserved t c =
    let h = c.loop-arm.invariant in
    let x = c.in_ok-rest.ensures in
    record {
      extends = Extends-trans _ _ _ h.extends x.extends;
      wire = x.wire;
      machine = rw (sym h.machine.now_widths) x.machine;
      ran = λ env.
          let s = c.args.scope.now in
          let a = c.args.selector.now in
          let ss = c.args.choice.now.sites.now in
          let k : List Pick = picks_of c.args.b.now env c.args.choice.now in
          let v : Values = held c.args.b.now env c.args.machine.now in
          let m : Values = held c.loop-arm.b env c.loop-arm.machine in
          let w : List Bool = wire_values c.args.b.now env a.value.now in
          let y = c.arm-item.result in
          let q : Values → Bool = λ u. is_matched s a.kind.0 a.shape w (instance_parts ss k (plain_list y.labels.now)) u.now in
          let r : Bool = wire_value c.loop-arm.b env c.loop-arm.rest in
          let p = picks-extends c.args.b.now c.loop-arm.b env c.args.choice.now h.extends c.requires.choice in
          let z = wire_values-extends c.args.b.now c.loop-arm.b a.value.now env h.extends c.requires.selector in
          let e : is_matched s a.kind.0 a.shape (wire_values c.loop-arm.b env a.value.now) (instance_parts ss (picks_of c.loop-arm.b env c.args.choice.now) (plain_list y.labels.now)) m.now ≡ q m =
          ap₂ (λ (bs : List Bool) (ps : List Pick). is_matched s a.kind.0 a.shape bs (instance_parts ss ps (plain_list y.labels.now)) m.now) z p in
          left_more (wire_value c.args.b.now env c.args.guard) r _ v m _ _ _ _ q (λ u. ran s (instance_statement ss k (plain_statement y.body.now)) u) (h.ran env)
          (rest_at s a.kind.0 a.shape w ss k (instance_arms ss k (plain_arms c.args.arms.now)) c.args.arms.now c.loop-arm.arm-index y v c.loop-arm-test.true c.arm-item.is)
          (x.value env ∙ ap (λ (b : Bool). r && not b) e)
          (x.ran env ∙ ap₂ (λ (b : Bool) (ps : List Pick). cond (r && b) (ran s (instance_statement ss ps (plain_statement y.body.now)) m) m) e p);
    }

pub execute_arms-returns-clause-ran : goal.execute_arms-returns-clause-ran
execute_arms-returns-clause-ran t c = λ env.
    let h = c.loop-arm.invariant in
    let s = c.args.scope.now in
    let ss = c.args.choice.now.sites.now in
    let k : List Pick = picks_of c.args.b.now env c.args.choice.now in
    let arms : Arms = instance_arms ss k (plain_arms c.args.arms.now) in
    let m : Values = held c.loop-arm.b env c.loop-arm.machine in
    left_done (wire_value c.args.b.now env c.args.guard) (wire_value c.loop-arm.b env c.loop-arm.rest) (held c.args.b.now env c.args.machine.now) m _ _ _ (λ u. ran_default s arms u) (h.ran env)
    (rest_none s c.args.selector.now.kind.0 c.args.selector.now.shape (wire_values c.args.b.now env c.args.selector.now.value.now) ss k arms c.args.arms.now c.loop-arm.arm-index (held c.args.b.now env c.args.machine.now) c.loop-arm-test.false)
    (c.in_ok-execute_default.ensures.ran env ∙ ap (λ (ps : List Pick). cond (wire_value c.loop-arm.b env c.loop-arm.rest) (ran_default s (instance_arms ss ps (plain_arms c.args.arms.now)) m) m) (picks-extends c.args.b.now _ env c.args.choice.now h.extends c.requires.choice))

pub execute_default-execute-requires : goal.execute_default-execute-requires
execute_default-execute-requires t c =
    let h = c.loop-arm.invariant in (
      search (rules, the_lemmas),
      (
        arm_body_shaped c.args.scope.now c.args.arms.now c.loop-arm.arm-index c.arm-item.result c.loop-arm-test.true c.arm-item.is c.requires.arms,
        (rw h.builder c.requires.guard, (rw h.builder c.requires.choice, (rw (h.builder, h.same) c.requires.machine, rw h.same c.requires.holds))),
      ),
    )

pub execute_default-returns-then-is_empty-clause-ran : goal.execute_default-returns-then-is_empty-clause-ran
execute_default-returns-then-is_empty-clause-ran t c = λ env.
    let h = c.loop-arm.invariant in
    let s = c.args.scope.now in
    let ss = c.args.choice.now.sites.now in
    let k : List Pick = picks_of c.args.b.now env c.args.choice.now in
    let v : Values = held c.args.b.now env c.args.machine.now in
    c.in_ok-execute.ensures.ran env ∙ rw (h.builder, h.same)
    (ap (λ (u : Values). cond (wire_value c.args.b.now env c.args.guard) u v)
    (sym (sym (h.ran env) ∙ default_at s ss k c.args.arms.now c.loop-arm.arm-index c.arm-item.result v _ c.loop-arm-test.true c.arm-item.is c.is_empty.ensures
    ∙ ap (λ (b : Bool). cond b (ran s (instance_statement ss k (plain_statement c.arm-item.result.body.now)) v) (ran_default s (instance_arms ss k (plain_arms (drop (c.loop-arm.arm-index + 1) c.args.arms.now))) v)) c.if-is_empty.true)))

pub execute_default-loop-arm-preserved : goal.execute_default-loop-arm-preserved
execute_default-loop-arm-preserved t c =
    let h = c.loop-arm.invariant in
    record {
      same = h.same;
      builder = h.builder;
      ran = λ env.
          let s = c.args.scope.now in
          let ss = c.args.choice.now.sites.now in
          let k : List Pick = picks_of c.args.b.now env c.args.choice.now in
          let v : Values = held c.args.b.now env c.args.machine.now in
          sym (default_at s ss k c.args.arms.now c.loop-arm.arm-index c.arm-item.result v _ c.loop-arm-test.true c.arm-item.is c.is_empty.ensures
          ∙ ap (λ (b : Bool). cond b (ran s (instance_statement ss k (plain_statement c.arm-item.result.body.now)) v) (ran_default s (instance_arms ss k (plain_arms (drop (c.loop-arm.arm-index + 1) c.args.arms.now))) v)) c.if-is_empty.false)
          ∙ h.ran env;
    }

pub execute_default-returns-clause-ran : goal.execute_default-returns-clause-ran
execute_default-returns-clause-ran t c = λ env.
    let h = c.loop-arm.invariant in
    let v : Values = held c.args.b.now env c.args.machine.now in
    rw (h.builder, h.same) (same_case (wire_value c.args.b.now env c.args.guard) v _ (sym (sym (h.ran env) ∙ default_none c.args.scope.now c.args.choice.now.sites.now (picks_of c.args.b.now env c.args.choice.now) c.args.arms.now c.loop-arm.arm-index v c.loop-arm-test.false)))

pub execute_arm-returns-then-is_empty-clause-value : goal.execute_arm-returns-then-is_empty-clause-value
execute_arm-returns-then-is_empty-clause-value t c = λ env.
    sym (ap (λ (b : Bool). wire_value c.args.b.now env c.args.guard && not b)
    (no_match c.args.scope.now c.args.selector.now.kind.0 c.args.selector.now.shape (wire_values c.args.b.now env c.args.selector.now.value.now) c.args.choice.now.sites.now (picks_of c.args.b.now env c.args.choice.now) c.args.arm.now.labels.now (carried c.args.b.now env c.args.machine.now.now.items) (sym c.is_empty.ensures ∙ c.if-is_empty.true))
    ∙ and_true (wire_value c.args.b.now env c.args.guard))

pub execute_arm-returns-then-is_empty-clause-ran : goal.execute_arm-returns-then-is_empty-clause-ran
execute_arm-returns-then-is_empty-clause-ran t c = λ env.
    let v : Values = held c.args.b.now env c.args.machine.now in
    sym (ap (λ (b : Bool). cond b (ran c.args.scope.now (instance_statement c.args.choice.now.sites.now (picks_of c.args.b.now env c.args.choice.now) (plain_statement c.args.arm.now.body.now)) v) v)
    (ap (λ (b : Bool). wire_value c.args.b.now env c.args.guard && b)
    (no_match c.args.scope.now c.args.selector.now.kind.0 c.args.selector.now.shape (wire_values c.args.b.now env c.args.selector.now.value.now) c.args.choice.now.sites.now (picks_of c.args.b.now env c.args.choice.now) c.args.arm.now.labels.now (carried c.args.b.now env c.args.machine.now.now.items) (sym c.is_empty.ensures ∙ c.if-is_empty.true))
    ∙ and_false (wire_value c.args.b.now env c.args.guard)))

pub execute-test-requires-clause-shaped : goal.execute-test-requires-clause-shaped
execute-test-requires-clause-shaped t c = clear c.args.scope.now _ (shaped-test _ _ _ _ (rw c.in-If.is at c.requires.shaped))

pub execute-execute-requires : goal.execute-execute-requires
execute-execute-requires t c =
    let x = Extends-trans _ _ _ (Extends-trans _ _ _ c.in_ok-holds-in-If.ensures.extends c.in_ok-here-in-If.ensures.extends) c.in_ok-there-in-If.ensures.extends in (
      search (rules, the_lemmas),
      (
        shaped-yes _ _ _ _ (rw c.in-If.is at c.requires.shaped),
        (
          c.in_ok-there-in-If.ensures.extends.wires _ c.in_ok-here-in-If.ensures.wire,
          (ready-extends c.args.b.now _ c.args.choice.now x c.requires.choice, (machine-extends c.args.b.now _ _ c.args.machine.now x c.requires.machine, c.requires.holds)),
        ),
      ),
    )

pub execute-execute-requires-in-Some : goal.execute-execute-requires-in-Some
execute-execute-requires-in-Some t c =
    let x = Extends-trans _ _ _ (Extends-trans _ _ _ c.in_ok-holds-in-If.ensures.extends c.in_ok-here-in-If.ensures.extends) c.in_ok-there-in-If.ensures.extends in
    let y = c.in_ok-execute-in-If.ensures in (
      search (rules, the_lemmas),
      (
        shaped-IfElse-no _ _ _ _ (rw (c.in-If.is, c.in-Some.is) at c.requires.shaped),
        (
          y.extends.wires _ c.in_ok-there-in-If.ensures.wire,
          (ready-extends c.args.b.now _ c.args.choice.now (Extends-trans _ _ _ x y.extends) c.requires.choice, (machine_again _ _ _ y.machine, holds_again c.args.scope.now _ _ _ y.machine c.requires.holds)),
        ),
      ),
    )

pub execute-returns-in_ok-execute-in-Some-clause-ran : goal.execute-returns-in_ok-execute-in-Some-clause-ran
execute-returns-in_ok-execute-in-Some-clause-ran t c = λ env.
    let s = c.args.scope.now in
    let ss = c.args.choice.now.sites.now in
    let k : List Pick = picks_of c.args.b.now env c.args.choice.now in
    let v : Values = held c.args.b.now env c.args.machine.now in
    let g : Bool = wire_value c.args.b.now env c.args.guard in
    let h = c.in_ok-holds-in-If.ensures in
    let e = c.in_ok-here-in-If.ensures in
    let f = c.in_ok-there-in-If.ensures in
    let he = Extends-trans _ _ _ h.extends e.extends in
    let x = Extends-trans _ _ _ he f.extends in
    let y = c.in_ok-execute-in-If.ensures in
    let b : Bool = is_true s (instance_test ss k (plain c.in-If.test.now)) v.now in
    let t : wire_value c.test.new.b env c.in_ok-holds-in-If.holds ≡ b =
    h.value env ∙ ap (λ (ws : List (Vec Wire Global)). is_true s (instance_test ss k (plain c.in-If.test.now)) (carried c.args.b.now env ws)) c.as_slice.ensures.value in
    let q : wire_value c.and-in-If.new.self env c.in_ok-here-in-If.here ≡ (g && b) =
    f.extends.values env _ e.wire ∙ e.value env ∙ ap₂ (λ (y z : Bool). y && z) (h.extends.values env c.args.guard c.requires.guard) t in
    let first = rebased c.args.b.now c.and-in-If.new.self env c.args.choice.now c.args.machine.now (widths_of c.args.machine.now.now.items) _ (g && b) (λ ps u. ran s (instance_statement ss ps (plain_statement c.in-If.yes.now)) u) _ x c.requires.choice c.requires.machine q (y.ran env) in
    let r : wire_value c.execute.new.b env c.in_ok-there-in-If.there ≡ (g && not b) =
    y.extends.values env _ f.wire ∙ f.value env ∙ ap₂ (λ (y z : Bool). y && z) (he.values env c.args.guard c.requires.guard)
    (c.not-fails.ensures.value env ∙ ap not (e.extends.values env _ h.wire ∙ t)) in
    let m1 : Values = held c.execute.new.b env c.execute.new.machine in
    guard_else g b (λ u. ran s (instance_statement ss k (plain_statement c.in-If.yes.now)) u) (λ u. ran s (instance_statement ss k (plain_statement c.in-Some.other.now)) u) v m1 _ first
    (c.in_ok-execute-in-Some.ensures.ran env
    ∙ ap₂ (λ (d : Bool) (ps : List Pick). cond d (ran s (instance_statement ss ps (plain_statement c.in-Some.other.now)) m1) m1) r (picks-extends c.args.b.now _ env c.args.choice.now (Extends-trans _ _ _ x y.extends) c.requires.choice))
    ∙ ap (λ (u : Values). cond g u v)
    (sym (ap (λ (p : Stmt). ran s (instance_statement ss k (plain_statement p)) v) (c.in-If.is ∙ ap (λ o. stmt.If c.in-If.test c.in-If.yes o) c.in-Some.is) ∙ run-IfElse s ss k c.in-If.test c.in-If.yes c.in-Some.other v))

pub execute-returns-in-None-clause-ran : goal.execute-returns-in-None-clause-ran
execute-returns-in-None-clause-ran t c = λ env.
    let s = c.args.scope.now in
    let ss = c.args.choice.now.sites.now in
    let k : List Pick = picks_of c.args.b.now env c.args.choice.now in
    let v : Values = held c.args.b.now env c.args.machine.now in
    let g : Bool = wire_value c.args.b.now env c.args.guard in
    let h = c.in_ok-holds-in-If.ensures in
    let e = c.in_ok-here-in-If.ensures in
    let f = c.in_ok-there-in-If.ensures in
    let he = Extends-trans _ _ _ h.extends e.extends in
    let x = Extends-trans _ _ _ he f.extends in
    let y = c.in_ok-execute-in-If.ensures in
    let b : Bool = is_true s (instance_test ss k (plain c.in-If.test.now)) v.now in
    let t : wire_value c.test.new.b env c.in_ok-holds-in-If.holds ≡ b =
    h.value env ∙ ap (λ (ws : List (Vec Wire Global)). is_true s (instance_test ss k (plain c.in-If.test.now)) (carried c.args.b.now env ws)) c.as_slice.ensures.value in
    let q : wire_value c.and-in-If.new.self env c.in_ok-here-in-If.here ≡ (g && b) =
    f.extends.values env _ e.wire ∙ e.value env ∙ ap₂ (λ (y z : Bool). y && z) (h.extends.values env c.args.guard c.requires.guard) t in
    let first = rebased c.args.b.now c.and-in-If.new.self env c.args.choice.now c.args.machine.now (widths_of c.args.machine.now.now.items) _ (g && b) (λ ps u. ran s (instance_statement ss ps (plain_statement c.in-If.yes.now)) u) _ x c.requires.choice c.requires.machine q (y.ran env) in
    guard_then g b (ran s (instance_statement ss k (plain_statement c.in-If.yes.now)) v) v _ first
    ∙ ap (λ (u : Values). cond g u v)
    (sym (ap (λ (p : Stmt). ran s (instance_statement ss k (plain_statement p)) v) (c.in-If.is ∙ ap (λ o. stmt.If c.in-If.test c.in-If.yes o) c.in-None.is) ∙ run-If s ss k c.in-If.test c.in-If.yes v))
