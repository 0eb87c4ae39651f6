use Rattle.rr_top.specs.Commands.{command_of_plan}
use Rattle.rr_top.proofs.Ends.{stopped_ends}
use Rattle.rr_top.proofs.commands.conclude.Goals as goal

pub returns-in-Err : goal.returns-in-Err
returns-in-Err g c = λ plan files given gives.
    stopped_ends (g.H.Shelf.told c.args.shelf.now) (g.H.Shelf.faults c.args.shelf.now) (g.K.Sink.written c.args.out.now) (g.K.Sink.faults c.args.out.now)
    (command_of_plan plan) files c.in-Err.stop c.stopped.result c.stopped.ensures given (rw c.in-Err.is at gives)
