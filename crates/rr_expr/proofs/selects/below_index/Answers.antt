use Rattle.rr_expr.proofs.Indices.{lowest_moved, lowest_here}
use Rattle.rr_expr.proofs.selects.below_index.Goals as goal

pub returns-then-up-falling-clause-place : goal.returns-then-up-falling-clause-place
returns-then-up-falling-clause-place c i = lowest_moved c.args.range c.args.up c.args.count i c.requires c.if-up-falling.true

pub returns-else-up-falling-clause-place : goal.returns-else-up-falling-clause-place
returns-else-up-falling-clause-place c i = lowest_here c.args.range c.args.up c.args.count i c.if-up-falling.false
