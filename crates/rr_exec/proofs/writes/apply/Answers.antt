use Rattle.std.proofs.Common.{◌∙◌}
use Rattle.rr_expr.specs.Scopes.{env_of}
use Rattle.rr_exec.proofs.Pieces.{applied_more, applied_done}
use Rattle.rr_exec.proofs.writes.apply.Goals as goal

pub loop-later-preserved : goal.loop-later-preserved
loop-later-preserved c = record {
  env = applied_more c.args.list.now c.loop-later.later-index c.later-item.result c.later-item.result (env_of c.loop-later.values.items) _ _ c.loop-later-test.true c.later-item.is c.loop-later.invariant.env c.write_piece.ensures.env;
  count = c.write_piece.ensures.count ∙ c.loop-later.invariant.count;
}

pub returns-clause-env : goal.returns-clause-env
returns-clause-env c = applied_done c.args.list.now c.loop-later.later-index (env_of c.loop-later.values.items) _ c.loop-later-test.false c.loop-later.invariant.env
