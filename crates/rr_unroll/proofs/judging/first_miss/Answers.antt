use Rattle.std.proofs.Common.{[], Bool, List, ℕ, Option, Some, None, get_or, map, take, sym, ◌∙◌, ap, arith, below_more}
use Rattle.std.proofs.lemmas.List.{length-map}
use Rattle.rr_trace.specs.View.{plain_table}
use Rattle.rr_transition.specs.Transitions.{cycle_bits}
use Rattle.rr_unroll.specs.Walking.{RowAgrees, IsFirstMissed}
use Rattle.rr_unroll.proofs.InstanceLaws.{instance_matches}
use Rattle.rr_unroll.proofs.WalkingLaws.{state_after-none, state_after-more, row_decided, first_missed, none_is_missed}
use Rattle.rr_unroll.proofs.judging.first_miss.Goals as goal

pub loop-r-init : goal.loop-r-init
loop-r-init c = record {
  width = c.in_ok-state.ensures.width;
  reached = c.in_ok-state.ensures.state ∙ sym (state_after-none c.args.transition.now c.args.choice.now c.args.transition.now.start);
  before = λ k l. absurd (omega arith);
}

pub loop-r-preserved : goal.loop-r-preserved
loop-r-preserved c =
    let t = c.args.transition.now in
    let choice : List Bool = c.args.choice.now in
    let state : List Bool = c.loop-r.state.items in
    let row = c.numbers_at-row.ensures ∙ ap (λ xs. get_or (map (λ v. v.items) xs) c.loop-r.r []) c.as_slice-rows.ensures.value in
    let cells = c.cells_at-cells.ensures ∙ ap (λ xs. get_or (map (λ v. v.items) xs) c.loop-r.r []) c.as_slice-expected.ensures.value in
    let l = length-map c.args.table.now.inputs.items (λ v. v.items) in
    record {
      width = c.in_ok-agrees.ensures.width;
      reached = state_after-more t choice state _ (plain_table c.args.table.now).inputs c.loop-r.r (omega arith) c.loop-r.invariant.reached
          (c.in_ok-agrees.ensures.state ∙ ap (λ ns. take t.state_bits (cycle_bits t choice state ns)) row);
      before = below_more (RowAgrees t choice (plain_table c.args.table.now)) c.loop-r.r c.loop-r.invariant.before
          ((row_decided t choice (plain_table c.args.table.now) c.loop-r.r c.in_ok-agrees.agrees state _ _ c.loop-r.invariant.reached row cells c.in_ok-agrees.ensures.agrees).0 c.if-not-agrees.false);
    }

pub returns-then-not-agrees : goal.returns-then-not-agrees
returns-then-not-agrees c =
    let t = c.args.transition.now in
    let choice : List Bool = c.args.choice.now in
    let row = c.numbers_at-row.ensures ∙ ap (λ xs. get_or (map (λ v. v.items) xs) c.loop-r.r []) c.as_slice-rows.ensures.value in
    let cells = c.cells_at-cells.ensures ∙ ap (λ xs. get_or (map (λ v. v.items) xs) c.loop-r.r []) c.as_slice-expected.ensures.value in
    let l = length-map c.args.table.now.inputs.items (λ v. v.items) in
    let first : IsFirstMissed t choice (plain_table c.args.table.now) (Some c.loop-r.r) =
    first_missed t choice (plain_table c.args.table.now) c.loop-r.r c.in_ok-agrees.agrees (omega arith) c.loop-r.invariant.before
    (row_decided t choice (plain_table c.args.table.now) c.loop-r.r c.in_ok-agrees.agrees c.loop-r.state.items _ _ c.loop-r.invariant.reached row cells c.in_ok-agrees.ensures.agrees)
    c.if-not-agrees.true in
    record {
      first = first;
      matches = instance_matches t (plain_table c.args.table.now) choice _ c.requires (none_is_missed t choice (plain_table c.args.table.now) (Some c.loop-r.r) first);
    }

pub returns : goal.returns
returns c =
    let t = c.args.transition.now in
    let choice : List Bool = c.args.choice.now in
    let l = length-map c.args.table.now.inputs.items (λ v. v.items) in
    let first : IsFirstMissed t choice (plain_table c.args.table.now) None = λ k h. c.loop-r.invariant.before k (omega arith) in
    record {
      first = first;
      matches = instance_matches t (plain_table c.args.table.now) choice _ c.requires (none_is_missed t choice (plain_table c.args.table.now) None first);
    }
