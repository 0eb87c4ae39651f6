use Rattle.std.proofs.Common.{◌∙◌, sym, ap, drop, fold, ◌+◌}
use Rattle.rr_syntax.specs.View.{plain_statements}
use Rattle.rr_flat.specs.Faults.{earlier}
use Rattle.rr_starts.specs.Starts.{all_initial_faults}
use Rattle.rr_starts.proofs.Nodes.{all_more, all_done}
use Rattle.rr_starts.proofs.initials.+notes.Goals as goal

pub note_initials-loop-stmt-preserved : goal.note_initials-loop-stmt-preserved
note_initials-loop-stmt-preserved t c =
    ap (λ z. fold earlier z (all_initial_faults c.args.names.now (plain_statements (drop (c.loop-stmt.stmt-index + 1) c.args.body.now)))) c.note_initial-found.ensures
    ∙ (all_more c.loop-stmt.found c.args.names.now c.args.body.now c.loop-stmt.stmt-index c.stmt-item.result c.loop-stmt-test.true c.stmt-item.is ∙ c.loop-stmt.invariant)

pub note_initials-returns : goal.note_initials-returns
note_initials-returns t c = sym (all_done c.loop-stmt.found c.args.names.now c.args.body.now c.loop-stmt.stmt-index c.loop-stmt-test.false) ∙ c.loop-stmt.invariant
