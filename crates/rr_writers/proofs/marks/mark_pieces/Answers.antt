use Rattle.std.proofs.Common.{◌∙◌, sym}
use Rattle.rr_writers.specs.Tables.{entry}
use Rattle.rr_writers.proofs.Marking.{list_none, list_step, list_clash, list_all}
use Rattle.rr_writers.proofs.Options.{none_of_some, none_known, some_map}
use Rattle.rr_writers.proofs.marks.mark_pieces.Goals as goal

pub loop-piece-init : goal.loop-piece-init
loop-piece-init c = list_none c.args.number (entry c.args.table.now)

pub loop-piece-preserved : goal.loop-piece-preserved
loop-piece-preserved c =
    let m = none_known _ _ (sym c.is_some.ensures ∙ c.if-is_some.false) c.in_ok-taken.ensures.none in
    list_step c.args.number c.args.pieces.now c.loop-piece.piece-index _ (entry c.args.table.now) (entry c.loop-piece.table) _ c.loop-piece-test.true c.requires c.loop-piece.invariant m

pub returns-then-is_some-clause-none : goal.returns-then-is_some-clause-none
returns-then-is_some-clause-none c = none_of_some _ _ (sym c.is_some.ensures ∙ c.if-is_some.true)

pub returns-then-is_some-clause-some : goal.returns-then-is_some-clause-some
returns-then-is_some-clause-some c =
    some_map _ _ _ (λ b. list_clash c.args.number c.args.pieces.now c.loop-piece.piece-index _ (entry c.args.table.now) (entry c.loop-piece.table) _ b c.loop-piece-test.true c.requires c.loop-piece.invariant) c.in_ok-taken.ensures.some

pub returns-clause-none : goal.returns-clause-none
returns-clause-none c = list_all c.args.number c.args.pieces.now c.loop-piece.piece-index (entry c.args.table.now) (entry c.loop-piece.table) c.loop-piece-test.false c.loop-piece.invariant
