use Rattle.std.proofs.Common.{◌++◌, ◌∷◌, [], sym, subst, Some, None}
use Rattle.rr_assign.specs.Races.{HoldsWriters, writer_table}
use Rattle.rr_assign.proofs.Racing.{writers_kept}
use Rattle.rr_assign.proofs.races.note_writer.Goals as goal

pub returns-in-None-clause-held : goal.returns-in-None-clause-held
returns-in-None-clause-held c ws h =
    subst (λ z. HoldsWriters (ws ++ (c.args.block, z) ∷ []) (writer_table c.args.writers.now.items)) (sym c.in-None.is) (writers_kept ws (writer_table c.args.writers.now.items) c.args.block h)
