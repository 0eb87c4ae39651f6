use Rattle.std.proofs.Common.{sym, subst, ℕ, Vec, Global}
use Rattle.std.specs.List.{All}
use Rattle.rr_flat.specs.View.{plain_flat}
use Rattle.rr_meaning.specs.Calls.{IsRow}
use Rattle.rr_meaning.proofs.Tabled.{read_rows}
use Rattle.rr_cycle_tests.proofs.cycles.outputs.Goals as goal

pub run_table-requires-clause-rows : goal.run_table-requires-clause-rows
run_table-requires-clause-rows c =
    subst (All (λ (v : Vec ℕ Global). IsRow (plain_flat c.args.flat.now) c.in-Ok.order.clock v.items)) (sym c.as_slice.ensures.value)
    (read_rows (plain_flat c.args.flat.now) c.in-Ok.order.clock c.as_bytes.result.now c.in-Ok-read_table.table c.in-Ok-read_table.ensures)
