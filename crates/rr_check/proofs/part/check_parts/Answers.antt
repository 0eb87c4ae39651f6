use Rattle.std.proofs.Common.{◌+◌, ◌<◌, ◌≤◌, ◌∙◌, subst, sym, arith, length, drop, slice_index_or}
use Rattle.std.proofs.lemmas.List.{drop_more, drop_all}
use Rattle.rr_check.proofs.Joins.{Gone, Gone-more, Gone-all}
use Rattle.rr_check.proofs.part.check_parts.Goals as goal

pub loop-part-preserved : goal.loop-part-preserved
loop-part-preserved c =
    let cs = c.args.formula.now.clauses in
    let lines = c.args.journal.now.lines in
    let parts = c.args.parts.now in
    let i = c.loop-part.part-index in
    let v = c.loop-part.verdict in
    let lt : i < length parts = omega arith in
    record {
      room = c.check_part.ensures.room ∙ c.loop-part.invariant.room;
      gone = λ start end f.
          let p = slice_index_or parts i (record { start = 0; end = 0 }) in
          let at = drop_more parts i (record { start = 0; end = 0 }) lt in
          let more = Gone-more cs lines start end v c.check_part.result p (drop (i + 1) parts) (subst (Gone cs lines start end v) at (c.loop-part.invariant.gone start end f)) c.check_part.ensures.verdict in
          subst (λ w. Gone cs lines start end w (drop (i + 1) parts)) (sym c.and_then-verdict.ensures) more;
    }

pub returns : goal.returns
returns c = λ start end f.
    let parts = c.args.parts.now in
    let over : length parts ≤ c.loop-part.part-index = omega arith in
    Gone-all _ c.args.journal.now.lines start end c.loop-part.verdict (subst (Gone _ c.args.journal.now.lines start end c.loop-part.verdict) (drop_all c.loop-part.part-index parts over) (c.loop-part.invariant.gone start end f))
