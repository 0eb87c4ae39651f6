use Rattle.std.proofs.Common.{arith, ◌∙◌}
use Rattle.std.specs.Prelude.{Result, Ok, Err, OnErr}
use Rattle.rr_watch_lists.proofs.SpanLaws.{all_kept, read_span, expected, expected_behind}
use Rattle.rr_watch_lists.proofs.watchers.WatchLists.expect_one.Goals as goal

at_err : {T E P : Type 0} (r : Result T E) → P → OnErr r P
at_err (Ok x) p = tt
at_err (Err e) p = p

pub overflow_add-span : goal.overflow_add-span
overflow_add-span c =
    let h = c.self.inside in
    let i = read_span h.entries.items h.spans.items c.self.invariant c.args.self.now c.self.view_is c.args.at c.index-span.result.now c.requires c.index-span.ensures in
    omega (arith, i.few, c.if-span.true)

pub returns-in_err-self-inside-clause-err : goal.returns-in_err-self-inside-clause-err
returns-in_err-self-inside-clause-err c =
    let h = c.self.inside in
    at_err c.from_residual.result (all_kept h.entries.items c.moved.new.entries.items h.spans.items c.self.invariant c.in_err-self-inside.ensures.err ∙ c.self.view_is)

pub returns-then-span-clause-ok : goal.returns-then-span-clause-ok
returns-then-span-clause-ok c =
    let h = c.self.inside in
    expected h.entries.items h.spans.items c.self.invariant c.args.self.now c.self.view_is c.args.at c.index-span.result.now c.requires c.index-span.ensures

pub returns-in_ok-self-inside-clause-ok : goal.returns-in_ok-self-inside-clause-ok
returns-in_ok-self-inside-clause-ok c =
    let h = c.self.inside in
    expected_behind h.entries.items h.spans.items c.self.invariant c.args.self.now c.self.view_is c.args.at c.index-span.result.now c.requires c.index-span.ensures c.moved.new.entries.items c.in_ok-self-inside.field-0 c.in_ok-self-inside.ensures.ok
