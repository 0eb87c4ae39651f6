-- What lists of wires carry, one for each signal, lowest bit first: an environment for each input of the circuit.
use Rattle.std.specs.Prelude.{◌≡◌, ℕ, ◌+◌, ◌<◌, ◌≤◌, Bool, true, List, length, map, get_or, All, Option, Vec}
use Rattle.std.specs.Global.{Global}
use Rattle.rr_circuit.specs.declared.Wire.{Wire}
use Rattle.rr_circuit.specs.Values.{Netlist, AreWires, wire_values}
use Rattle.rr_expr.specs.declared.types.Bit.{Bit}
use Rattle.rr_expr.specs.declared.types.Entity.TheVariants.{Signal, Memory}
use Rattle.rr_expr.specs.Scopes.{Names, meant, range_width, env_of_lists}
use Rattle.rr_cycle.specs.Exec.{Environment}
use Rattle.rr_named_bits.specs.declared.piece.Piece.{Piece}
use Rattle.rr_named_bits.specs.Pieces.{covers}

abbrev pub AreWords : Netlist → List (Vec Wire Global) → Type 0
AreWords n words = All (λ (w : Vec Wire Global). AreWires n w.items) words

unfoldable pub word_values : Netlist → (ℕ → Bool) → List (Vec Wire Global) → List (List Bool)
word_values n env words = map (λ (w : Vec Wire Global). wire_values n env w.items) words

-- the environment that they carry; a bit without a wire is 0
unfoldable pub carried : Netlist → (ℕ → Bool) → List (Vec Wire Global) → Environment
carried n env words b = env_of_lists (word_values n env words) b

-- the number of wires of each
unfoldable pub widths_of : List (Vec Wire Global) → List ℕ
widths_of words = map (λ (w : Vec Wire Global). length w.items) words

-- a bit that has a wire
abbrev pub IsThere : List ℕ → Bit → Type 0
IsThere widths b = (b.signal < length widths) × (b.place < get_or widths b.signal 0)

-- each bit of a run of places has one
abbrev pub Fits : List ℕ → Piece → Type 0
Fits widths p = (b : Bit) → covers p b ≡ true → IsThere widths b

-- a signal that has as many wires as a range has bits
abbrev pub HasWord : List ℕ → Option (ℕ × ℕ) → ℕ → Type 0
HasWord widths range id = (id < length widths) × (get_or widths id 0 ≡ range_width range)

-- each name of a signal stands for one that has as many wires as it has bits, so has each word of a memory, and all are few
pub record Holds (s : Names) (widths : List ℕ) : Type 0 where
  pub signals : (name : List ℕ) (id : ℕ) (range : Option (ℕ × ℕ)) (signed : Bool) → meant s name ≡ Signal id range signed → HasWord widths range id
  pub memories : (name : List ℕ) (first low words : ℕ) (range : Option (ℕ × ℕ)) (signed : Bool) → meant s name ≡ Memory first low words range signed → (k : ℕ) → k < words → HasWord widths range (first + k)
  pub few : length widths ≤ 65536
