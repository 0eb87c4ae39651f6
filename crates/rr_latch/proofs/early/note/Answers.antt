use Rattle.std.proofs.Common.{◌∙◌, sym}
use Rattle.std.proofs.lemmas.Bool.{eq-eqb, ne_eqb}
use Rattle.rr_writers.specs.Tables.{entry}
use Rattle.rr_latch.proofs.Noting.{note_one, note_assigned, note_again}
use Rattle.rr_latch.proofs.early.note.Goals.{else-get-ne0-via-then-get-ne0+else-get-ne0-2, else-get-ne0-via-else-get-ne0}
use Rattle.rr_latch.proofs.early.note.Goals as goal

pub returns-in_ok-push : goal.returns-in_ok-push
returns-in_ok-push c =
    note_one c.args.early.now (record { unnoted = c.put.new.self; bits = c.push.new.self }) c.args.bit c.args.table.now
    (ne_eqb (entry c.args.table.now c.args.bit) 0 (λ e. c.if-get-ne0.true (c.get.ensures ∙ e))) (ne_eqb _ 0 (λ e. c.if-get-ne0-2.true (c.get-then-get-ne0.ensures ∙ e))) c.in_ok-put.ensures c.in_ok-push.ensures.items

pub returns-else-get-ne0 : goal.returns-else-get-ne0
returns-else-get-ne0 c = elim c.else-get-ne0.branch [
  | else-get-ne0-via-then-get-ne0+else-get-ne0-2 w ↦ note_again c.args.early.now c.args.bit c.args.table.now (eq-eqb _ 0 (sym w.get-then-get-ne0.ensures ∙ w.if-get-ne0-2.false))
  | else-get-ne0-via-else-get-ne0 w ↦ note_assigned c.args.early.now c.args.bit c.args.table.now (eq-eqb _ 0 (sym c.get.ensures ∙ w.if-get-ne0.false))
]
