-- Targets on wires: pieces, each with a wire that says whether it is the one that is named.
use Rattle.std.specs.Prelude.{ℕ, ◌≤◌, Bool, List, [], ◌∷◌, drop, cond, All}
use Rattle.rr_circuit.specs.Values.{Netlist, IsWire, wire_value}
use Rattle.rr_named_bits.specs.Pieces.{bits_of}
use Rattle.rr_cycle.specs.Exec.{Environment, write}
use Rattle.rr_signal_wires.specs.Words.{Fits}
use Rattle.rr_signal_wires.specs.declared.guarded_pieces.GuardedPiece.{GuardedPiece}

-- the bits of a piece take those of a word from a place up, where its own wire is true
abbrev pub put_guarded_piece : Netlist → (ℕ → Bool) → GuardedPiece → List Bool → Environment → Environment
put_guarded_piece n env p vs e = cond (wire_value n env p.when) (write (bits_of p.piece) (drop p.from vs) e) e

-- one after the other
unfoldable pub put_guarded_pieces : Netlist → (ℕ → Bool) → List GuardedPiece → List Bool → Environment → Environment
put_guarded_pieces n env [] vs e = e
put_guarded_pieces n env (p ∷ ps) vs e = put_guarded_pieces n env ps vs (put_guarded_piece n env p vs e)

-- the piece's bits have wires, and its own wire is one
pub record IsGuardedPiece (n : Netlist) (widths : List ℕ) (p : GuardedPiece) : Type 0 where
  pub piece : Fits widths p.piece
  pub when : IsWire n p.when
  pub from : p.from ≤ 128

abbrev pub AreGuardedPieces : Netlist → List ℕ → List GuardedPiece → Type 0
AreGuardedPieces n widths ps = All (IsGuardedPiece n widths) ps
