use Rattle.std.proofs.Common.{◌≡◌, ◌≤◌, ◌<◌, ℕ, Bool, List, length, get_or, drop, cond}
use Rattle.rr_circuit.specs.Values.{Extends, wire_values}
use Rattle.rr_bits.specs.Words.{reading}
use Rattle.rr_expr.specs.declared.types.Entity.TheVariants.{Signal}
use Rattle.rr_expr.specs.Scopes.{entity_range, range_width}
use Rattle.rr_expr.specs.Selects.{lowest_place}
use Rattle.rr_flat.specs.Targets.{bits_there}
use Rattle.rr_cycle.specs.Exec.{Environment, write}
use Rattle.rr_signal_wires.specs.GuardedPieces.{AreGuardedPieces, put_guarded_pieces}
use Rattle.rr_signal_wires.proofs.GuardedPieceLaws.{window}
use Rattle.rr_signal_wires.proofs.guarded_pieces.add_moving.Given as goal

abbrev pub invariant-loop-k : goal.invariant-loop-k
invariant-loop-k l = record {
  extends : Extends l.fn.b l.b;
  low : 1 ≤ l.k;
  guarded_pieces : (widths : List ℕ) → l.run.signal < length widths → get_or widths l.run.signal 0 ≡ range_width l.run.range → AreGuardedPieces l.fn.b widths l.fn.list.items → AreGuardedPieces l.b widths l.list.items;
  value : (signed : Bool) (widths : List ℕ) → l.run.signal < length widths → get_or widths l.run.signal 0 ≡ range_width l.run.range → AreGuardedPieces l.fn.b widths l.fn.list.items → (env : ℕ → Bool) (vs : List Bool) (e : Environment) →
      put_guarded_pieces l.b env l.list.items vs e
      ≡ cond (window (lowest_place (entity_range (Signal l.run.signal l.run.range signed)) l.run.up (reading l.run.signed (wire_values l.fn.b env l.run.index.now)) l.run.count) l.run.count l.k)
      (write (bits_there (Signal l.run.signal l.run.range signed) (lowest_place (entity_range (Signal l.run.signal l.run.range signed)) l.run.up (reading l.run.signed (wire_values l.fn.b env l.run.index.now)) l.run.count) l.run.count)
      (drop l.run.from vs) (put_guarded_pieces l.fn.b env l.fn.list.items vs e))
      (put_guarded_pieces l.fn.b env l.fn.list.items vs e);
}
