use Rattle.std.proofs.Common.{◌≡◌, sym, subst, ℕ, Vec, Global}
use Rattle.std.proofs.lemmas.Result.{IfOk-weaker}
use Rattle.std.specs.List.{All}
use Rattle.rr_flat.specs.View.{plain_flat}
use Rattle.rr_trace.specs.View.{plain_table, plain_values}
use Rattle.rr_trace.specs.Tops.{ports_of}
use Rattle.rr_trace.specs.Written.{table_text}
use Rattle.rr_meaning.specs.Calls.{IsRow}
use Rattle.rr_run.specs.Runs.{GivesText}
use Rattle.rr_run.proofs.Reading.{of_vectors}
use Rattle.rr_run.proofs.run.text_of.Goals as goal

pub run_table-requires-clause-rows : goal.run_table-requires-clause-rows
run_table-requires-clause-rows c =
    let F = plain_flat c.args.design.now.flat in
    let k = c.args.design.now.order.clock in
    subst (All (λ (v : Vec ℕ Global). IsRow F k v.items)) (sym c.as_slice.ensures.value)
    (of_vectors (IsRow F k) c.args.rows.now.inputs.items c.requires.fit)

pub returns : goal.returns
returns c =
    let F = plain_flat c.args.design.now.flat in
    let k = c.args.design.now.order.clock in
    IfOk-weaker c.write_table.result
    (λ text. text.items ≡ table_text (ports_of F k) (plain_table c.args.rows.now).inputs (plain_values c.as_slice-2.result.now))
    (λ text. GivesText F k (plain_table c.args.rows.now) text.items)
    (λ text e. record {
      outputs = plain_values c.as_slice-2.result.now;
      run = rw (c.as_slice.ensures.value, ← c.as_slice-2.ensures.value) at c.in_ok-outputs.ensures.run;
      printed = e;
    })
    c.write_table.ensures
