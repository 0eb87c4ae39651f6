use Rattle.std.proofs.Common.{arith}
use Rattle.rr_arith.proofs.Comparisons.{Signed-all}
use Rattle.rr_arith.proofs.less_signed.Goals as goal

pub returns-clause-value : goal.returns-clause-value
returns-clause-value c =
    let h = c.requires.some in
    Signed-all _ _ _ _ _ _ _ _ _ (omega arith) c.requires.widths c.requires.x c.requires.y c.in_ok-below.ensures.extends c.in_ok-below.ensures.value c.in_ok-less.ensures.value
