use Rattle.std.proofs.Common.{◌≡◌, ◌+◌, ◌<◌, ℕ, Bool, List, drop}
use Rattle.rr_circuit.specs.Values.{Extends, wire_values}
use Rattle.rr_bits.specs.Words.{reading}
use Rattle.rr_cycle.specs.Exec.{Environment}
use Rattle.rr_signal_wires.specs.GuardedPieces.{AreGuardedPieces, put_guarded_pieces}
use Rattle.rr_signal_wires.specs.Words.{HasWord}
use Rattle.rr_signal_wires.proofs.WordPieces.{written}
use Rattle.rr_signal_wires.proofs.guarded_pieces.add_word.Given as goal

abbrev pub invariant-loop-k : goal.invariant-loop-k
invariant-loop-k l = record {
  extends : Extends l.fn.b l.b;
  guarded_pieces : (widths : List ℕ) → ((k : ℕ) → k < l.run.words → HasWord widths l.run.range (l.run.first + k)) → AreGuardedPieces l.fn.b widths l.fn.list.items → AreGuardedPieces l.b widths l.list.items;
  value : (widths : List ℕ) → ((k : ℕ) → k < l.run.words → HasWord widths l.run.range (l.run.first + k)) → AreGuardedPieces l.fn.b widths l.fn.list.items → (env : ℕ → Bool) (vs : List Bool) (e : Environment) →
      put_guarded_pieces l.b env l.list.items vs e
      ≡ written l.run.range l.run.first l.run.low l.k (reading l.run.signed (wire_values l.fn.b env l.run.index.now)) (drop l.run.from vs) (put_guarded_pieces l.fn.b env l.fn.list.items vs e);
}
