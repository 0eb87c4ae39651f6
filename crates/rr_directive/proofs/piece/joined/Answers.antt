use Rattle.std.proofs.Common.{◌≡◌, ◌∙◌, ◌==◌, arith, get_or, drop, if◌then◌else◌}
use Rattle.std.proofs.lemmas.Bool.Decides.{nat_tests}
use Rattle.rr_directive.specs.Pieces.{join_len}
use Rattle.rr_directive.proofs.Facts.{joins, joins_all}
use Rattle.rr_directive.proofs.piece.joined.Goals as goal
use Rattle.rr_directive.proofs.piece.joined.Goals.{then-join_len-eq0, else-join_len-eq0}

pub loop-at-preserved : goal.loop-at-preserved
loop-at-preserved c =
    let h : c.if-join_len-eq0.byte ≡ (if join_len (drop c.loop-at.at c.args.text.now) == 0 then get_or c.args.text.now c.loop-at.at 0 else 32) = elim c.if-join_len-eq0.branch [
      | then-join_len-eq0 w ↦ grind (arith, nat_tests, c.join_len.ensures.plain)
      | else-join_len-eq0 w ↦ grind (arith, nat_tests, c.join_len.ensures.plain)
    ] in
    record {
      within = c.further-at.ensures.within;
      same = joins c.loop-at.at c.further-at.result _ c.args.text.now _ c.loop-at.out.items _ c.loop-at-test.true c.further-at.ensures.place h c.loop-at.invariant.same c.in_ok-push.ensures.items;
    }

pub returns : goal.returns
returns c = c.into_bump_slice.ensures ∙ joins_all c.loop-at.at c.args.text.now _ c.loop-at.out.items c.loop-at-test.false c.loop-at.invariant.same
