use Rattle.std.proofs.Common.{◌≡◌, ◌≤◌, ◌+◌, ℕ, Bool, List, drop, length}
use Rattle.rr_circuit.specs.Values.{Extends}
use Rattle.rr_syntax.specs.View.{plain_list}
use Rattle.rr_expr.specs.Values.{nowhere}
use Rattle.rr_flat.specs.Targets.{targets_bits}
use Rattle.rr_cycle.specs.Exec.{Environment, write}
use Rattle.rr_signal_wires.specs.GuardedPieces.{AreGuardedPieces, put_guarded_pieces}
use Rattle.rr_signal_wires.specs.Words.{carried, widths_of}
use Rattle.rr_blast_terms.proofs.targets.+naming.Given as goal

abbrev pub invariant-add_guarded_pieces_of_all-loop-left : goal.invariant-add_guarded_pieces_of_all-loop-left
invariant-add_guarded_pieces_of_all-loop-left l = record {
  left : l.left ≤ length l.parts;
  extends : Extends l.fn.b l.b;
  next : l.next ≡ l.from + length (targets_bits l.scope nowhere (plain_list (drop l.left l.parts)));
  guarded_pieces : AreGuardedPieces l.b (widths_of l.words) l.list.items;
  value : (env : ℕ → Bool) (vs : List Bool) (e : Environment) → put_guarded_pieces l.b env l.list.items vs e
      ≡ write (targets_bits l.scope (carried l.fn.b env l.words) (plain_list (drop l.left l.parts))) (drop l.from vs) (put_guarded_pieces l.fn.b env l.fn.list.items vs e);
}

abbrev pub decreases-add_guarded_pieces_of_all-loop-left : goal.decreases-add_guarded_pieces_of_all-loop-left
decreases-add_guarded_pieces_of_all-loop-left l = l.left
