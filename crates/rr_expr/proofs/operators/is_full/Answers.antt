use Rattle.rr_expr.proofs.Words.{full_mask}
use Rattle.rr_expr.proofs.operators.is_full.Goals as goal

pub returns : goal.returns
returns c = rw (c.to_u128.ensures, c.width.ensures.value) (full_mask c.args.word (rw c.width.ensures.value at c.width.ensures.low) (rw c.width.ensures.value at c.width.ensures.high))
