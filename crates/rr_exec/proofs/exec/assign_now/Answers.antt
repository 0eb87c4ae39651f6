use Rattle.rr_syntax.specs.View.{plain}
use Rattle.rr_expr.specs.Scopes.{env_of}
use Rattle.rr_exec.proofs.Fitting.{target_few}
use Rattle.rr_exec.proofs.exec.assign_now.Goals as goal

pub write_pieces-requires-clause-few : goal.write_pieces-requires-clause-few
write_pieces-requires-clause-few c =
    rw c.as_slice.ensures.value (target_few c.args.scope.now (env_of c.args.machine.now.env.values.items) (plain c.args.target.now) c.name_pieces.new.pieces.items c.requires.target c.in_ok-name_pieces.ensures.bits)
