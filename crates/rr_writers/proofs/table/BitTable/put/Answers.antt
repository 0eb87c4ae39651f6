use Rattle.std.proofs.Common.{◌∙◌, ap, cond}
use Rattle.std.proofs.lemmas.Result.{on_ok_weaker}
use Rattle.rr_flat.specs.Targets.{same_bit}
use Rattle.rr_writers.specs.Tables.{entry}
use Rattle.rr_writers.proofs.Entries.{row_put}
use Rattle.rr_writers.proofs.table.BitTable.put.Goals as goal

pub returns : goal.returns
returns c =
    on_ok_weaker c.put_number.result
    (λ h b.
    row_put c.grow_rows.new.rows.items c.index_mut.result.now c.put_number.new.row c.args.bit b c.args.number c.in_ok-grow_rows.ensures.there c.index_mut.ensures.value h
    ∙ ap (λ z. cond (same_bit c.args.bit b) c.args.number z) (c.in_ok-grow_rows.ensures.same b ∙ ap (λ z. entry z b) c.self.view_is))
    c.put_number.ensures
