use Rattle.std.proofs.Common.{[], Bool, List, ℕ, get_or, map, take, sym, ◌∙◌, ap, arith}
use Rattle.std.proofs.lemmas.List.{length-map}
use Rattle.rr_trace.specs.View.{plain_table}
use Rattle.rr_transition.specs.Transitions.{cycle_bits}
use Rattle.rr_unroll.specs.Walking.{state_after}
use Rattle.rr_unroll.proofs.WalkingLaws.{state_after-none, state_after-more, take_there}
use Rattle.rr_unroll.proofs.walking.state_before.Goals as goal

pub loop-r-init : goal.loop-r-init
loop-r-init c = record {
  width = c.in_ok-state.ensures.width;
  reached = c.in_ok-state.ensures.state ∙ sym (state_after-none c.args.transition.now c.args.choice.now c.args.transition.now.start);
}

pub loop-r-preserved : goal.loop-r-preserved
loop-r-preserved c =
    let t = c.args.transition.now in
    let choice : List Bool = c.args.choice.now in
    let state : List Bool = c.loop-r.state.items in
    let numbers = c.numbers_at-numbers.ensures ∙ ap (λ xs. get_or (map (λ v. v.items) xs) c.loop-r.r []) c.as_slice-rows.ensures.value in
    let l = length-map c.args.table.now.inputs.items (λ v. v.items) in
    record {
      width = c.in_ok-turn.ensures.state_width;
      reached = state_after-more t choice state _ (plain_table c.args.table.now).inputs c.loop-r.r (omega arith) c.loop-r.invariant.reached
          (c.in_ok-turn.ensures.state ∙ ap (λ ns. take t.state_bits (cycle_bits t choice state ns)) numbers);
    }

pub returns-clause-state : goal.returns-clause-state
returns-clause-state c =
    let t = c.args.transition.now in
    let choice : List Bool = c.args.choice.now in
    let l = length-map c.args.table.now.inputs.items (λ v. v.items) in
    c.loop-r.invariant.reached
    ∙ ap (λ rows. state_after t choice t.start rows) (take_there (plain_table c.args.table.now).inputs c.args.row c.loop-r.r (omega (arith, c.loop-r-test.false, c.loop-r.auto.r-end)))
