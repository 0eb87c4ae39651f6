-- the text of a circuit in ASCII AIGER, and the grammar of such texts line by line (AIGER
-- 20071012, "ASCII Format": literals, header, inputs, outputs, AND gates), with one fixed
-- numbering, no latches, no symbols, and no constant as an operand
use Rattle.std.specs.Prelude.{◌≡◌, ◌⊎◌, ⊤, ℕ, ◌+◌, ◌-◌, ◌*◌, ◌^◌, ◌<◌, ◌≤◌, List, [], ◌∷◌, ◌++◌, length, map, codes, decimal, Result, MatchResult}
use Rattle.std.specs.List.{range_with_len}
use Rattle.rr_circuit.specs.declared.Wire.{Wire}
use Rattle.rr_circuit.specs.declared.Gate.{Gate}
use Rattle.rr_circuit.specs.declared.aag.Counts.{Counts}
use Rattle.rr_circuit.specs.declared.aag.AagFault.{AagFault}
use Rattle.rr_circuit.specs.declared.aag.AagFault.TheVariants.{BadCircuit, Memory}
use Rattle.rr_circuit.specs.Values.{OutputNetlist, IsGateAt, IsNetlist, AreWires}

-- the greatest variable, M, and the number of outputs, O, are below 2 ^ 62
abbrev pub AreCounts : Counts → Type 0
AreCounts h = (h.inputs + h.gates < 2 ^ 62) × (h.outputs < 2 ^ 62)

abbrev pub counts_of : OutputNetlist → Counts
counts_of c = record { inputs = c.netlist.inputs; outputs = length c.outputs; gates = length c.netlist.gates }

-- ---- lines, without their ends

-- `aag M I L O A`, where there are no latches and each variable is an input or a gate
abbrev pub header_line : Counts → List ℕ
header_line h = codes "aag " ++ (decimal (h.inputs + h.gates) ++ 32 ∷ (decimal h.inputs ++ 32 ∷ (decimal 0 ++ 32 ∷ (decimal h.outputs ++ 32 ∷ decimal h.gates))))

-- the input with this variable
abbrev pub input_line : ℕ → List ℕ
input_line variable = decimal (2 * variable)

abbrev pub output_line : Wire → List ℕ
output_line w = decimal w.0

-- the gate with this variable: its literal and its two operands
abbrev pub gate_line : ℕ → Gate → List ℕ
gate_line variable g = decimal (2 * variable) ++ 32 ∷ (decimal g.left.0 ++ 32 ∷ decimal g.right.0)

-- ---- the text of a circuit

abbrev pub input_lines : ℕ → List (List ℕ)
input_lines inputs = map (λ k. input_line (k + 1)) (range_with_len 0 inputs)

abbrev pub output_lines : List Wire → List (List ℕ)
output_lines outputs = map output_line outputs

-- the gates from this variable on
abbrev pub gate_lines : ℕ → List Gate → List (List ℕ)
gate_lines variable [] = []
gate_lines variable (g ∷ gs) = gate_line variable g ∷ gate_lines (variable + 1) gs

-- each line with its end
abbrev pub text_of : List (List ℕ) → List ℕ
text_of [] = []
text_of (line ∷ lines) = line ++ 10 ∷ text_of lines

abbrev pub aag_lines : OutputNetlist → List (List ℕ)
aag_lines c = (((header_line (counts_of c) ∷ []) ++ input_lines c.netlist.inputs) ++ output_lines c.outputs) ++ gate_lines (1 + c.netlist.inputs) c.netlist.gates

abbrev pub aag : OutputNetlist → List ℕ
aag c = text_of (aag_lines c)

-- ---- the grammar

-- the n-th line of a text with this header, counted from 0, is that of an input
pub record IsInputLine (h : Counts) (n : ℕ) (line : List ℕ) : Type 0 where
  pub number : ℕ
  pub within : number < h.inputs
  pub place : n ≡ 1 + number
  pub text : line ≡ input_line (number + 1)

-- .. of an output: any literal up to 2 M + 1
pub record IsOutputLine (h : Counts) (n : ℕ) (line : List ℕ) : Type 0 where
  pub number : ℕ
  pub within : number < h.outputs
  pub place : n ≡ 1 + h.inputs + number
  pub wire : Wire
  pub known : wire.0 < 2 * (1 + h.inputs + h.gates)
  pub text : line ≡ output_line wire

-- .. of a gate: its operands name inputs and earlier gates
pub record IsGateLine (h : Counts) (n : ℕ) (line : List ℕ) : Type 0 where
  pub number : ℕ
  pub within : number < h.gates
  pub place : n ≡ 1 + h.inputs + h.outputs + number
  pub gate : Gate
  pub known : IsGateAt h.inputs number gate
  pub text : line ≡ gate_line (1 + h.inputs + number) gate

abbrev pub IsLine : Counts → ℕ → List ℕ → Type 0
IsLine h n line = ((n ≡ 0) × (line ≡ header_line h)) ⊎ (IsInputLine h n line ⊎ (IsOutputLine h n line ⊎ IsGateLine h n line))

-- these are the lines from the n-th on
abbrev pub AreLines : Counts → ℕ → List (List ℕ) → Type 0
AreLines h n [] = ⊤
AreLines h n (line ∷ lines) = IsLine h n line × AreLines h (n + 1) lines

abbrev pub line_count : Counts → ℕ
line_count h = 1 + h.inputs + h.outputs + h.gates

-- the first n lines of the bytes are there, are ended, and begin a text
pub record Begins (bytes : List ℕ) (n : ℕ) : Type 0 where
  pub counts : Counts
  pub bounds : AreCounts counts
  pub lines : List (List ℕ)
  pub count : length lines ≡ n
  pub grammar : AreLines counts 0 lines
  pub rest : List ℕ
  pub text : bytes ≡ text_of lines ++ rest

-- nothing, or symbols (`i`, `o`) or a comment (`c`), which are not read
abbrev pub IsUnread : List ℕ → Type 0
IsUnread [] = ⊤
IsUnread (b ∷ bs) = (b ≡ 105) ⊎ ((b ≡ 111) ⊎ (b ≡ 99))

-- the bytes are a text: all its lines, and what is not read
pub record IsText (bytes : List ℕ) : Type 0 where
  pub counts : Counts
  pub bounds : AreCounts counts
  pub lines : List (List ℕ)
  pub count : length lines ≡ line_count counts
  pub grammar : AreLines counts 0 lines
  pub rest : List ℕ
  pub text : bytes ≡ text_of lines ++ rest
  pub unread : IsUnread rest

-- the bytes are no text, and line n, counted from 1, is the first bad one
pub record IsBadLine (bytes : List ℕ) (n : ℕ) : Type 0 where
  pub no_text : IsText bytes → ⊥
  pub first : 1 ≤ n
  pub before : Begins bytes (n - 1)
  pub here : Begins bytes n → ⊥

-- the bytes are this circuit's text, and what is not read
pub record IsTextOf (bytes : List ℕ) (c : OutputNetlist) : Type 0 where
  pub rest : List ℕ
  pub text : bytes ≡ aag c ++ rest
  pub unread : IsUnread rest

-- the circuits that have texts
pub record IsCircuit (c : OutputNetlist) : Type 0 where
  pub gates : IsNetlist c.netlist.inputs c.netlist.gates
  pub outputs : AreWires c.netlist c.outputs
  pub bounds : AreCounts (counts_of c)

-- why no circuit was read
abbrev pub IsCause : List ℕ → AagFault → Type 0
IsCause bytes (BadCircuit n) = IsBadLine bytes n
IsCause bytes Memory = ⊤

-- a text of a circuit gives this circuit, but for want of memory
abbrev pub ReadsAs : Result OutputNetlist AagFault → OutputNetlist → Type 0
ReadsAs r c = MatchResult r (λ d. d ≡ c) (λ e. e ≡ Memory)

-- ---- parts of the reader

-- from this line on, the text goes wrong: line `bad`, counted from 1, is none of the grammar
pub record GoesWrong (h : Counts) (n : ℕ) (text : List ℕ) (bad : ℕ) : Type 0 where
  pub lines : List (List ℕ)
  pub grammar : AreLines h n lines
  pub rest : List ℕ
  pub text_is : text ≡ text_of lines ++ rest
  pub place : bad ≡ n + length lines + 1
  pub within : n + length lines < line_count h
  pub none : (line more : List ℕ) → IsLine h (n + length lines) line → rest ≡ line ++ 10 ∷ more → ⊥

abbrev pub GoesWrongBy : Counts → ℕ → List ℕ → AagFault → Type 0
GoesWrongBy h n text (BadCircuit bad) = GoesWrong h n text bad
GoesWrongBy h n text Memory = ⊤
