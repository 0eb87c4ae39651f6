use Rattle.std.proofs.Common.{length}
use Rattle.std.proofs.lemmas.Result.{on_ok_weaker}
use Rattle.rr_syntax.specs.View.{plain}
use Rattle.rr_expr.specs.Scopes.{env_of}
use Rattle.rr_exec.proofs.Fitting.{target_few}
use Rattle.rr_exec.proofs.exec.assign_later.Goals as goal

pub postpone-requires : goal.postpone-requires
postpone-requires c = record {
  few = rw c.as_slice.ensures.value (target_few c.args.scope.now (env_of c.args.machine.now.env.values.items) (plain c.args.target.now) c.name_pieces.new.pieces.items c.requires.target c.in_ok-name_pieces.ensures.bits);
}

pub returns-clause-fits : goal.returns-clause-fits
returns-clause-fits c = on_ok_weaker c.postpone.result (λ h. h (length c.args.machine.now.env.values.items) (rw c.as_slice.ensures.value c.in_ok-name_pieces.ensures.fits) c.requires.fits) c.postpone.ensures.fits
