use Rattle.std.proofs.Common.{arith}
use Rattle.rr_patch.proofs.StatementWalks.{label_more}
use Rattle.rr_patch.proofs.statement.labels.Goals as goal

pub expressions-requires : goal.expressions-requires
expressions-requires c = let f = c.requires.fits in let p = c.requires.some in let l = label_more c.args.parts.now c.args.colon c.if-parts-eq0.false in record { fits = omega (arith, f, p, l) }

pub overflow_add-result-else-parts-eq0 : goal.overflow_add-result-else-parts-eq0
overflow_add-result-else-parts-eq0 c =
    let f = c.requires.fits in let p = c.requires.some in let n = c.in_ok-next.ensures.next in let l = label_more c.args.parts.now c.args.colon c.if-parts-eq0.false in omega (arith, f, p, n, l)

pub returns-in_ok-next-clause-next : goal.returns-in_ok-next-clause-next
returns-in_ok-next-clause-next c = let p = c.requires.some in let n = c.in_ok-next.ensures.next in let l = label_more c.args.parts.now c.args.colon c.if-parts-eq0.false in omega (arith, p, n, l)
