use Rattle.std.proofs.Common.{◌∙◌, ap, ◌||◌}
use Rattle.std.proofs.lemmas.Result.{on_ok_weaker}
use Rattle.rr_syntax.specs.View.{plain_statement}
use Rattle.rr_named_bits.specs.Lists.{covered}
use Rattle.rr_writers.specs.Tables.{entry}
use Rattle.rr_latch.specs.Notes.{is_shut}
use Rattle.rr_latch.specs.Paths.{assigned}
use Rattle.rr_latch.proofs.Keeping.{block_listed}
use Rattle.rr_latch.proofs.Putting.{put_one, put_zero}
use Rattle.rr_latch.proofs.kept.list_kept.Goals as goal

pub returns-clause-kept : goal.returns-clause-kept
returns-clause-kept c =
    on_ok_weaker c.put_all-3.result
    (λ v. (block_listed c.args.later c.args.names.now (plain_statement c.args.body.now) c.new-writes.result.items c.add_assigned_bits.new.list.items c.as_slice.result.now
    c.in_ok-reaches.reaches.items c.as_slice-2.result.now c.as_slice-3.result.now c.as_slice-4.result.now (assigned c.args.path.now.unassigned) (assigned c.put_all.new.table) (is_shut c.args.early.now)
    c.run.new.path.unassigned c.args.path.now.log.items c.run.new.path.log.items (record { unnoted = c.put_all-2.new.table; bits = c.args.early.now.bits }) c.run.new.early c.note_reaches.new.early
    c.new-writes.ensures.items c.as_slice.ensures.value c.as_slice-2.ensures.value c.as_slice-3.ensures.value c.as_slice-4.ensures.value c.requires.assigned c.requires.shut c.requires.empty
    c.in_ok-add_assigned_bits.ensures c.in_ok-reaches.ensures
    (put_one (covered c.as_slice-2.result.now) (entry c.args.path.now.unassigned) (entry c.put_all.new.table) c.in_ok-put_all.ensures)
    (put_one (covered c.as_slice-3.result.now) (entry c.args.early.now.unnoted) (entry c.put_all-2.new.table) c.in_ok-put_all-2.ensures)
    c.in_ok-run.ensures.ran c.in_ok-run.ensures.noted c.in_ok-note_reaches.ensures).kept) c.put_all-3.ensures

pub returns-clause-all : goal.returns-clause-all
returns-clause-all c =
    on_ok_weaker c.put_all-3.result
    (λ v. (block_listed c.args.later c.args.names.now (plain_statement c.args.body.now) c.new-writes.result.items c.add_assigned_bits.new.list.items c.as_slice.result.now
    c.in_ok-reaches.reaches.items c.as_slice-2.result.now c.as_slice-3.result.now c.as_slice-4.result.now (assigned c.args.path.now.unassigned) (assigned c.put_all.new.table) (is_shut c.args.early.now)
    c.run.new.path.unassigned c.args.path.now.log.items c.run.new.path.log.items (record { unnoted = c.put_all-2.new.table; bits = c.args.early.now.bits }) c.run.new.early c.note_reaches.new.early
    c.new-writes.ensures.items c.as_slice.ensures.value c.as_slice-2.ensures.value c.as_slice-3.ensures.value c.as_slice-4.ensures.value c.requires.assigned c.requires.shut c.requires.empty
    c.in_ok-add_assigned_bits.ensures c.in_ok-reaches.ensures
    (put_one (covered c.as_slice-2.result.now) (entry c.args.path.now.unassigned) (entry c.put_all.new.table) c.in_ok-put_all.ensures)
    (put_one (covered c.as_slice-3.result.now) (entry c.args.early.now.unnoted) (entry c.put_all-2.new.table) c.in_ok-put_all-2.ensures)
    c.in_ok-run.ensures.ran c.in_ok-run.ensures.noted c.in_ok-note_reaches.ensures).all) c.put_all-3.ensures

pub returns-clause-left : goal.returns-clause-left
returns-clause-left c =
    on_ok_weaker c.put_all-3.result
    (λ v. (block_listed c.args.later c.args.names.now (plain_statement c.args.body.now) c.new-writes.result.items c.add_assigned_bits.new.list.items c.as_slice.result.now
    c.in_ok-reaches.reaches.items c.as_slice-2.result.now c.as_slice-3.result.now c.as_slice-4.result.now (assigned c.args.path.now.unassigned) (assigned c.put_all.new.table) (is_shut c.args.early.now)
    c.run.new.path.unassigned c.args.path.now.log.items c.run.new.path.log.items (record { unnoted = c.put_all-2.new.table; bits = c.args.early.now.bits }) c.run.new.early c.note_reaches.new.early
    c.new-writes.ensures.items c.as_slice.ensures.value c.as_slice-2.ensures.value c.as_slice-3.ensures.value c.as_slice-4.ensures.value c.requires.assigned c.requires.shut c.requires.empty
    c.in_ok-add_assigned_bits.ensures c.in_ok-reaches.ensures
    (put_one (covered c.as_slice-2.result.now) (entry c.args.path.now.unassigned) (entry c.put_all.new.table) c.in_ok-put_all.ensures)
    (put_one (covered c.as_slice-3.result.now) (entry c.args.early.now.unnoted) (entry c.put_all-2.new.table) c.in_ok-put_all-2.ensures)
    c.in_ok-run.ensures.ran c.in_ok-run.ensures.noted c.in_ok-note_reaches.ensures).left) c.put_all-3.ensures

pub returns-clause-closed : goal.returns-clause-closed
returns-clause-closed c =
    on_ok_weaker c.put_all-3.result
    (λ v. (block_listed c.args.later c.args.names.now (plain_statement c.args.body.now) c.new-writes.result.items c.add_assigned_bits.new.list.items c.as_slice.result.now
    c.in_ok-reaches.reaches.items c.as_slice-2.result.now c.as_slice-3.result.now c.as_slice-4.result.now (assigned c.args.path.now.unassigned) (assigned c.put_all.new.table) (is_shut c.args.early.now)
    c.run.new.path.unassigned c.args.path.now.log.items c.run.new.path.log.items (record { unnoted = c.put_all-2.new.table; bits = c.args.early.now.bits }) c.run.new.early c.note_reaches.new.early
    c.new-writes.ensures.items c.as_slice.ensures.value c.as_slice-2.ensures.value c.as_slice-3.ensures.value c.as_slice-4.ensures.value c.requires.assigned c.requires.shut c.requires.empty
    c.in_ok-add_assigned_bits.ensures c.in_ok-reaches.ensures
    (put_one (covered c.as_slice-2.result.now) (entry c.args.path.now.unassigned) (entry c.put_all.new.table) c.in_ok-put_all.ensures)
    (put_one (covered c.as_slice-3.result.now) (entry c.args.early.now.unnoted) (entry c.put_all-2.new.table) c.in_ok-put_all-2.ensures)
    c.in_ok-run.ensures.ran c.in_ok-run.ensures.noted c.in_ok-note_reaches.ensures).closed) c.put_all-3.ensures

pub returns-clause-shut : goal.returns-clause-shut
returns-clause-shut c =
    on_ok_weaker c.put_all-3.result
    (λ v b.
    put_zero (covered c.as_slice-5.result.now) (entry c.note_reaches.new.early.unnoted) (entry c.put_all-3.new.table) v b
    ∙ (ap (λ z. is_shut c.note_reaches.new.early b || covered z b) c.as_slice-5.ensures.value
    ∙ (block_listed c.args.later c.args.names.now (plain_statement c.args.body.now) c.new-writes.result.items c.add_assigned_bits.new.list.items c.as_slice.result.now
    c.in_ok-reaches.reaches.items c.as_slice-2.result.now c.as_slice-3.result.now c.as_slice-4.result.now (assigned c.args.path.now.unassigned) (assigned c.put_all.new.table) (is_shut c.args.early.now)
    c.run.new.path.unassigned c.args.path.now.log.items c.run.new.path.log.items (record { unnoted = c.put_all-2.new.table; bits = c.args.early.now.bits }) c.run.new.early c.note_reaches.new.early
    c.new-writes.ensures.items c.as_slice.ensures.value c.as_slice-2.ensures.value c.as_slice-3.ensures.value c.as_slice-4.ensures.value c.requires.assigned c.requires.shut c.requires.empty
    c.in_ok-add_assigned_bits.ensures c.in_ok-reaches.ensures
    (put_one (covered c.as_slice-2.result.now) (entry c.args.path.now.unassigned) (entry c.put_all.new.table) c.in_ok-put_all.ensures)
    (put_one (covered c.as_slice-3.result.now) (entry c.args.early.now.unnoted) (entry c.put_all-2.new.table) c.in_ok-put_all-2.ensures)
    c.in_ok-run.ensures.ran c.in_ok-run.ensures.noted c.in_ok-note_reaches.ensures).shut b)) c.put_all-3.ensures
