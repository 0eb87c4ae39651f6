use Rattle.std.proofs.Common.{◌++◌, false, sym, arith}
use Rattle.rr_lex.specs.Patch.{run_end}
use Rattle.rr_patch.specs.declared.change.Added.TheVariants as added
use Rattle.rr_patch.specs.declared.change.Fixed.TheVariants as fixed
use Rattle.rr_patch.specs.Changes.{after_run, plain_changes, run_at}
use Rattle.rr_patch.proofs.Changed.{run_goes, rest_goes, run_stops, rest_stops, run_ends, rest_ends}
use Rattle.rr_patch.proofs.editing.push_run.Goals as goal

pub returns-then-not-is_before_at-clause-text : goal.returns-then-not-is_before_at-clause-text
returns-then-not-is_before_at-clause-text c =
    run_stops c.args.place c.args.changes.now c.loop-i.i (record { place = 0; over = false; new = added.Fixed fixed.Begin }) c.loop-i-test.true (c.args.out.now.items ++ run_end (run_at c.args.place (plain_changes c.args.changes.now)))
    c.loop-i.out.items c.push.new.self.items (sym c.if-not-is_before_at.ensures) c.in_ok-push.ensures.items c.loop-i.invariant.text

pub returns-then-not-is_before_at-clause-left : goal.returns-then-not-is_before_at-clause-left
returns-then-not-is_before_at-clause-left c =
    rest_stops c.args.place c.args.changes.now c.loop-i.i (record { place = 0; over = false; new = added.Fixed fixed.Begin }) c.loop-i-test.true (after_run c.args.place (plain_changes c.args.changes.now))
    (sym c.if-not-is_before_at.ensures) c.loop-i.invariant.rest

pub loop-i-preserved : goal.loop-i-preserved
loop-i-preserved c = record {
  within = let l = c.loop-i-test.true in omega (arith, l);
  text = run_goes c.args.place c.args.changes.now c.loop-i.i (record { place = 0; over = false; new = added.Fixed fixed.Begin }) c.loop-i-test.true (c.args.out.now.items ++ run_end (run_at c.args.place (plain_changes c.args.changes.now)))
      c.loop-i.out.items c.push_new.new.out.items (sym c.if-not-is_before_at.ensures) c.in_ok-push_new.ensures c.loop-i.invariant.text;
  rest = rest_goes c.args.place c.args.changes.now c.loop-i.i (record { place = 0; over = false; new = added.Fixed fixed.Begin }) c.loop-i-test.true (after_run c.args.place (plain_changes c.args.changes.now))
      (sym c.if-not-is_before_at.ensures) c.loop-i.invariant.rest;
}

pub returns-clause-text : goal.returns-clause-text
returns-clause-text c =
    run_ends c.args.place c.args.changes.now c.loop-i.i c.loop-i-test.false (c.args.out.now.items ++ run_end (run_at c.args.place (plain_changes c.args.changes.now))) c.loop-i.out.items c.push-2.new.self.items c.in_ok-push-2.ensures.items
    c.loop-i.invariant.text

pub returns-clause-left : goal.returns-clause-left
returns-clause-left c = rest_ends c.args.place c.args.changes.now c.loop-i.i c.loop-i-test.false (after_run c.args.place (plain_changes c.args.changes.now)) c.loop-i.invariant.rest
