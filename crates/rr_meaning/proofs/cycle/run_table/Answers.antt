use Rattle.std.proofs.Common.{◌≡◌, ◌∙◌, ◌+◌, ◌++◌, ◌∷◌, [], sym, ap, List, ℕ, map, take, length}
use Rattle.std.specs.Prelude.{Vec}
use Rattle.std.specs.declared.alloc.Global.{Global}
use Rattle.std.proofs.lemmas.List.{map_more, map_push, take_all}
use Rattle.rr_expr.specs.Scopes.{env_of}
use Rattle.rr_expr.specs.declared.types.Env.{Env}
use Rattle.rr_flat.specs.View.{plain_flat}
use Rattle.rr_cycle.specs.Cycles.{beginning, ended, outputs_of}
use Rattle.rr_cycle.proofs.Settled.{run_only}
use Rattle.rr_meaning.specs.Work.{row_items}
use Rattle.rr_meaning.proofs.Walking.{runs_more}
use Rattle.rr_meaning.proofs.cycle.run_table.Goals as goal

pub loop-row-init : goal.loop-row-init
loop-row-init c =
    let e : env_of c.machine_on-machine.result.env.values.items ≡ beginning (plain_flat c.args.flat.now) = ap (λ (v : Env). env_of v.values.items) c.machine_on-machine.ensures.env ∙ c.in_ok-beginning.ensures.env in
    let n : length c.machine_on-machine.result.env.values.items ≡ length c.args.flat.now.signals =
    ap (λ (v : Env). length v.values.items) c.machine_on-machine.ensures.env ∙ c.in_ok-beginning.ensures.count in
    record { runs = rw (c.new-table.ensures.items, e) ended; count = n; none = c.machine_on-machine.ensures.none }

pub loop-row-preserved : goal.loop-row-preserved
loop-row-preserved c =
    let F = plain_flat c.args.flat.now in
    let i : ℕ = c.loop-row.row-index in
    let a : map row_items (take (i + 1) c.args.inputs.now) ≡ map row_items (take i c.args.inputs.now) ++ c.row-item.result.items ∷ [] =
    map_more row_items c.args.inputs.now i c.row-item.result c.loop-row-test.true ∙ ap (λ (y : Vec ℕ Global). map row_items (take i c.args.inputs.now) ++ row_items y ∷ []) (sym c.row-item.is) in
    let b : map row_items c.push_row.new.list.items ≡ map row_items c.loop-row.table.items ++ outputs_of F (env_of c.settle_in.new.machine.env.values.items) ∷ [] =
    ap (map row_items) c.in_ok-push_row.ensures ∙ map_push row_items c.loop-row.table.items c.in_ok-row.row ∙ ap (λ (ys : List ℕ). map row_items c.loop-row.table.items ++ ys ∷ []) c.in_ok-row.ensures in
    record {
      runs = rw (a, b) (runs_more c.row-item.result.items (env_of c.settle_in.new.machine.env.values.items) (env_of c.edge.new.machine.env.values.items) c.loop-row.invariant.runs (rw c.as_slice.ensures.value at c.in_ok-settle_in.ensures.settled) c.in_ok-edge.ensures.next);
      count = c.in_ok-edge.ensures.count;
      none = rw (c.in_ok-edge.ensures.none, c.in_ok-settle_in.ensures.none) c.loop-row.invariant.none;
    }

pub returns-clause-run : goal.returns-clause-run
returns-clause-run c = (env_of c.loop-row.machine.env.values.items, rw (take_all c.loop-row.row-index c.args.inputs.now c.loop-row-test.false) at c.loop-row.invariant.runs)

pub returns-clause-only : goal.returns-clause-only
returns-clause-only c = λ outputs h.
    run_only _ (c.requires.ordered.0, c.requires.ordered.1.0) c.args.order.now.clock (map row_items c.args.inputs.now) outputs _ h
    (env_of c.loop-row.machine.env.values.items, rw (take_all c.loop-row.row-index c.args.inputs.now c.loop-row-test.false) at c.loop-row.invariant.runs)
