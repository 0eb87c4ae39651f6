use Rattle.std.proofs.Common.{◌∙◌, sym, arith}
use Rattle.rr_writers.specs.Tables.{entry}
use Rattle.rr_writers.proofs.Marking.{words_none, words_next, words_hit, words_all}
use Rattle.rr_writers.proofs.Options.{none_of_some, none_known, some_map}
use Rattle.rr_writers.proofs.marks.mark_reach.Goals as goal

pub loop-word-init : goal.loop-word-init
loop-word-init c = words_none c.args.number c.args.reach.now (entry c.args.table.now)

pub loop-word-preserved : goal.loop-word-preserved
loop-word-preserved c =
    let m = none_known _ _ (sym c.is_some.ensures ∙ c.if-is_some.false) c.in_ok-taken.ensures.none in
    words_next c.args.number c.args.reach.now c.loop-word.word _ (entry c.args.table.now) (entry c.loop-word.table) _ c.in_ok-piece.ensures c.loop-word.invariant m

pub returns-then-is_some-clause-none : goal.returns-then-is_some-clause-none
returns-then-is_some-clause-none c = none_of_some _ _ (sym c.is_some.ensures ∙ c.if-is_some.true)

pub returns-then-is_some-clause-some : goal.returns-then-is_some-clause-some
returns-then-is_some-clause-some c =
    some_map _ _ _ (λ b. words_hit c.args.number c.args.reach.now c.loop-word.word _ (entry c.args.table.now) (entry c.loop-word.table) _ b c.in_ok-piece.ensures c.loop-word-test.true c.loop-word.invariant) c.in_ok-taken.ensures.some

pub returns-clause-none : goal.returns-clause-none
returns-clause-none c = words_all c.args.number c.args.reach.now c.loop-word.word (entry c.args.table.now) (entry c.loop-word.table) (omega (arith, c.loop-word-test.false, c.loop-word.auto.word-end)) c.loop-word.invariant
