-- What a transition stands for: one cycle of every instance of a design, as the synchronous designs of IEEE 1364-2005 have
-- it: the settled outputs of a state and a row of inputs, and the state after the clock edge. It speaks of `Settled` and
-- `IsNext` alone; no order of evaluation and no gate of a circuit stands in it.
use Rattle.std.specs.Prelude.{◌≡◌, ℕ, ◌+◌, List, [], ◌∷◌, ◌++◌, Bool, length, map, flat_map, Option, Ok}
use Rattle.rr_syntax.specs.Tree.{SourceText}
use Rattle.rr_expr.specs.declared.types.Bit.{Bit}
use Rattle.rr_flat.specs.Signals.{Text, signal_at}
use Rattle.rr_flat.specs.Clocks.{OneClock}
use Rattle.rr_flat.specs.Lawful.{Lawful}
use Rattle.rr_flat.specs.Plain.{Flat}
use Rattle.rr_flatten.specs.Walk.{flat_of}
use Rattle.rr_flat.specs.Inputs.{row_inputs}
use Rattle.rr_cycle.specs.Cycles.{IsNext, Settled, beginning, signal_value}
use Rattle.rr_cycle.specs.Exec.{Environment}
use Rattle.rr_choice.specs.declared.pick.Pick.{Pick}
use Rattle.rr_choice.specs.Choices.{decode, site_bits, total_bits}
use Rattle.rr_instance.specs.Instances.{instance_source}
use Rattle.rr_choice.specs.Sites.{Site}
use Rattle.rr_transition.specs.Transitions.{Transition, cycle_bits}

-- a source, with the word that names its top and the word that names its clock
pub record Design : Type 0 where
  pub source : SourceText
  pub top : Option Text
  pub word : Option Text

-- the words stay
abbrev pub instance_design : List Site → List Pick → Design → Design
instance_design ss ps j = record { source = instance_source ss ps j.source; top = j.top; word = j.word }

-- its flat design, which is lawful, and its clock
pub record IsLawfulFlat (j : Design) (flat : Flat) (clock : Option ℕ) : Type 0 where
  pub design : flat_of j.source j.top ≡ Ok flat
  pub lawful : Lawful flat j.word
  pub rising : Bool
  pub one_clock : OneClock flat j.word clock rising

abbrev pub widths_of : Flat → List ℕ → List ℕ
widths_of flat ids = map (λ id. (signal_at flat.signals id).width) ids

-- the outputs in port order, each lowest bit first
abbrev pub output_bits : Flat → Environment → List Bool
output_bits flat env = flat_map (λ id. signal_value flat id env) flat.outputs

-- a flat design settles on a row, the next state follows, and the transition gives the bits of both: of the next state those
-- of the registers
pub record IsCycle (flat : Flat) (clock : Option ℕ) (t : Transition) (registers : List Bit) (choice : List Bool) (state : Environment) (row : List ℕ) : Type 0 where
  pub env : Environment
  pub next : Environment
  pub settled : Settled flat clock state row env
  pub edge : IsNext flat env next
  pub bits : cycle_bits t choice (map state registers) row ≡ map next registers ++ output_bits flat env

-- with these bits of a choice the transition gives each cycle of a design; a run starts in what the registers begin with
pub record HasCycles (j : Design) (t : Transition) (registers : List Bit) (choice : List Bool) : Type 0 where
  pub flat : Flat
  pub clock : Option ℕ
  pub design : IsLawfulFlat j flat clock
  pub input_widths : t.input_widths ≡ widths_of flat (row_inputs clock flat.inputs)
  pub output_widths : t.output_widths ≡ widths_of flat flat.outputs
  pub start : t.start ≡ map (beginning flat) registers
  pub cycles : (state : Environment) (row : List ℕ) → IsCycle flat clock t registers choice state row

-- where the switches of sites stand among the bits of a choice, from a place on
unfoldable pub switch_places : ℕ → List Site → List ℕ
switch_places at [] = []
switch_places at (s ∷ ss) = at ∷ switch_places (at + site_bits s) ss

-- a transition stands for a design and its sites: with each choice's bits it gives the cycles of the choice's instance
pub record Cycle (j : Design) (sites : List Site) (t : Transition) : Type 0 where
  pub choice_bits : t.choice_bits ≡ total_bits sites
  pub switches : t.switches ≡ switch_places 0 sites
  pub registers : List Bit
  pub state_bits : t.state_bits ≡ length registers
  pub instances : (choice : List Bool) → length choice ≡ total_bits sites → HasCycles (instance_design sites (decode sites choice) j) t registers choice
