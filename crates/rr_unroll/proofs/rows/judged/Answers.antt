use Rattle.std.proofs.Common.{◌≡◌, ℕ, ◌++◌, [], Bool, List, ◌+◌, ◌<◌, length, get_or, map, take, drop, sym, subst, ◌∙◌, ap, ap₂, arith, rules}
use Rattle.std.specs.List.{sum}
use Rattle.std.proofs.lemmas.List.{length-map}
use Rattle.rr_circuit.specs.Values.{OutputNetlist, wire_value, wire_values, output_values, given}
use Rattle.rr_circuit.proofs.Netlists.{wire_values-extends, Extends-refl, Extends-trans}
use Rattle.rr_trace.specs.View.{plain_table}
use Rattle.rr_trace.specs.declared.cell.Cell.{Cell}
use Rattle.rr_unroll.specs.Questions.{agree_row, judged}
use Rattle.rr_transition.specs.Transitions.{Transition, words}
use Rattle.rr_unroll.specs.Fixed.{IsFixed}
use Rattle.rr_unroll.proofs.FixedLaws.{fixed_at, fixed_length}
use Rattle.rr_unroll.proofs.AskedLaws.{judged_more, judged_all}
use Rattle.rr_unroll.proofs.rows.judged.Goals as goal

pub loop-r-init : goal.loop-r-init
loop-r-init c =
    let none = c.new-out.ensures.items in
    let t = c.args.transition.now in
    let s : c.as_slice.result.now ≡ t.start = c.as_slice.ensures.value ∙ ap (λ (x : Transition). x.start) c.transition.view_is in
    let l : length t.start ≡ t.state_bits = subst (λ (x : Transition). length x.start ≡ x.state_bits) c.transition.view_is c.transition.invariant.start in
    record {
      extends = Extends-refl c.args.b.now;
      wires = rw none (search rules);
      state = c.in_ok-state.ensures.wires;
      width = omega (arith, c.in_ok-state.ensures.width, ap length s, l);
      value = λ env. rw none
          (ap (λ xs. judged c.args.transition.now (wire_values c.args.b.now env c.args.choice.now) xs (plain_table c.args.table.now).inputs (plain_table c.args.table.now).expected)
          (c.in_ok-state.ensures.value env ∙ s));
    }

pub loop-r-preserved : goal.loop-r-preserved
loop-r-preserved c =
    let h = c.loop-r.invariant in
    let e = c.in_ok-state-2.ensures in
    let is : IsFixed c.args.transition.now (words c.args.transition.now.input_widths (get_or (plain_table c.args.table.now).inputs c.loop-r.r [])) c.index-circuits-r.result =
    subst (IsFixed c.args.transition.now _) (sym c.index-circuits-r.is) (fixed_at c.args.transition.now (plain_table c.args.table.now).inputs c.args.circuits.now c.loop-r.r c.index-circuits-r.result c.requires.circuits c.loop-r-test.true) in
    let few : c.loop-r.r < length (plain_table c.args.table.now).inputs = let m = fixed_length _ _ _ c.requires.circuits in omega arith in
    record {
      extends = Extends-trans c.args.b.now c.loop-r.b c.push_row.new.b h.extends e.extends;
      wires = e.out;
      state = e.state;
      width = e.width;
      value = λ env.
          let t = c.args.transition.now in
          let rows : List (List ℕ) = (plain_table c.args.table.now).inputs in
          let expected : List (List Cell) = (plain_table c.args.table.now).expected in
          let choice : List Bool = wire_values c.args.b.now env c.args.choice.now in
          let state : List Bool = wire_values c.loop-r.b env c.loop-r.state.items in
          let out : List Bool = wire_values c.loop-r.b env c.loop-r.out.items in
          let cells = c.cells_at-cells.ensures ∙ ap (λ xs. get_or (map (λ v. v.items) xs) c.loop-r.r []) c.as_slice-in-loop-r.ensures.value in
          let same =
          ap₂ (λ xs ys. output_values c.index-circuits-r.result (given (xs ++ ys)))
          (wire_values-extends c.args.b.now c.loop-r.b c.args.choice.now env h.extends c.requires.choice)
          (ap (wire_values c.loop-r.b env) c.as_slice-in-loop-r-2.ensures.value)
          ∙ is.values choice state (length-map c.args.choice.now (wire_value c.args.b.now env) ∙ c.requires.width) (length-map c.loop-r.state.items (wire_value c.loop-r.b env) ∙ h.width) in
          judged_more t choice state (wire_values c.push_row.new.b env c.in_ok-state-2.state.items) out (wire_values c.push_row.new.b env c.push_row.new.out.items) _ rows expected c.loop-r.r
          few
          (e.asked env ∙ ap₂ (λ cs bs. out ++ agree_row t.output_widths cs (drop t.state_bits bs)) cells same)
          (e.next env ∙ ap (take t.state_bits) same)
          (h.value env);
    }

pub returns-clause-value : goal.returns-clause-value
returns-clause-value c = λ env.
    judged_all c.args.transition.now (wire_values c.args.b.now env c.args.choice.now) (wire_values c.loop-r.b env c.loop-r.state.items) (wire_values c.loop-r.b env c.loop-r.out.items) _
    (plain_table c.args.table.now).inputs (plain_table c.args.table.now).expected c.loop-r.r
    (let m = fixed_length _ _ _ c.requires.circuits in omega arith)
    (c.loop-r.invariant.value env)

pub push_row-requires-clause-inputs : goal.push_row-requires-clause-inputs
push_row-requires-clause-inputs c =
    let is = fixed_at c.args.transition.now (plain_table c.args.table.now).inputs c.args.circuits.now c.loop-r.r c.index-circuits-r.result c.requires.circuits c.loop-r-test.true in
    let state = ap length c.as_slice-in-loop-r-2.ensures.value ∙ c.loop-r.invariant.width in
    ap₂ (λ x y. x + y) c.requires.width state ∙ sym is.inputs ∙ sym (ap (λ (x : OutputNetlist). x.netlist.inputs) c.index-circuits-r.is)

pub push_row-requires-clause-outputs : goal.push_row-requires-clause-outputs
push_row-requires-clause-outputs c =
    let t = c.args.transition.now in
    let is = fixed_at t (plain_table c.args.table.now).inputs c.args.circuits.now c.loop-r.r c.index-circuits-r.result c.requires.circuits c.loop-r-test.true in
    let outputs : length t.circuit.outputs ≡ t.state_bits + sum t.output_widths = subst (λ (x : Transition). length x.circuit.outputs ≡ x.state_bits + sum x.output_widths) c.transition.view_is c.transition.invariant.outputs in
    ap (λ (x : OutputNetlist). length x.outputs) c.index-circuits-r.is ∙ is.outputs ∙ outputs
