use Rattle.rr_expr.specs.Scopes.{range_width}
use Rattle.rr_declarations.proofs.Firsts.{wide_first}
use Rattle.rr_declarations.proofs.parameters.sized.Goals as goal
use Rattle.std.proofs.Common.{◌<◌, arith}

pub returns-in-None-clause-fault : goal.returns-in-None-clause-fault
returns-in-None-clause-fault c =
    let lt : 128 < range_width c.args.range = omega arith in
    rw (c.in-None.is, c.range_width-width.ensures.value) (wide_first c.args.token (range_width c.args.range) lt)
