-- What a statement makes of the values of all bits, and of those that they take once the updates that wait are applied.
use Rattle.std.specs.Prelude.{◌≡◌, ℕ, Bool, cond, List, Option}
use Rattle.rr_circuit.specs.Values.{Netlist}
use Rattle.rr_syntax.specs.Tree.{Statement, Statements, Arms}
use Rattle.rr_expr.specs.declared.types.Bit.{Bit}
use Rattle.rr_expr.specs.declared.types.Shape.{Shape}
use Rattle.rr_expr.specs.Scopes.{Names}
use Rattle.rr_cycle.specs.Exec.{Environment, executed, executed_all, executed_case, executed_default, updates, updates_of_all, updates_of_case, updates_of_default, applied, write}
use Rattle.rr_blast_stmt.specs.declared.statements.Machine.{Machine}
use Rattle.rr_signal_wires.specs.Words.{AreWords, carried, widths_of}

-- the values now, and later
pub record Values : Type 0 where
  pub now : Environment
  pub later : Environment

-- bits take those of a word, now or later
abbrev pub stored : Bool → List (Option Bit) → List Bool → Values → Values
stored now bits word v = cond now (record { now = write bits word v.now; later = v.later }) (record { now = v.now; later = write bits word v.later })

unfoldable pub ran : Names → Statement → Values → Values
ran s t v = record { now = executed s t v.now; later = applied (updates s t v.now) v.later }

unfoldable pub ran_all : Names → Statements → Values → Values
ran_all s ts v = record { now = executed_all s ts v.now; later = applied (updates_of_all s ts v.now) v.later }

-- the first arm that has an equal label, else the `default`, else nothing
unfoldable pub ran_arms : Names → ℕ → Shape → List Bool → Arms → Values → Values
ran_arms s kind a x arms v = record {
  now = executed_case s kind a x arms (executed_default s arms v.now) v.now;
  later = applied (updates_of_case s kind a x arms (updates_of_default s arms v.now) v.now) v.later;
}

unfoldable pub ran_default : Names → Arms → Values → Values
ran_default s arms v = record { now = executed_default s arms v.now; later = applied (updates_of_default s arms v.now) v.later }

-- those that the wires of a machine carry
abbrev pub held : Netlist → (ℕ → Bool) → Machine → Values
held n env m = record { now = carried n env m.now.items; later = carried n env m.later.items }

-- its wires are those of a netlist, and each signal has a number of them
pub record IsMachine (n : Netlist) (widths : List ℕ) (m : Machine) : Type 0 where
  pub now : AreWords n m.now.items
  pub later : AreWords n m.later.items
  pub now_widths : widths_of m.now.items ≡ widths
  pub later_widths : widths_of m.later.items ≡ widths
