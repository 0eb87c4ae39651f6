-- The graph of a design: its nodes are its bits, its signals and its steps, in this order. A bit names the steps that
-- write it, a signal its bits, and a step the bits, or signals all of whose bits, that it names.
use Rattle.std.specs.Prelude.{ℕ, zero, suc, ◌+◌, ◌-◌, ◌<◌, ◌≤◌, ◌≡◌, ◌⊎◌, List, [], ◌∷◌, length, map, get_or, Bool, true, false, nat_lt, Vec}
use Rattle.rr_expr.specs.declared.types.Bit.{Bit}
use Rattle.rr_flat.specs.declared.design.Step.{Step}
use Rattle.rr_flat.specs.declared.design.Step.TheVariants as step
use Rattle.rr_flat.specs.Ordered.{IsStep, StepWrites, StepNames, step_at}
use Rattle.rr_flat.specs.Plain.{Flat, Side, Written, Whole}
use Rattle.rr_flat.specs.Writers.{scope_at, driver_at}
use Rattle.rr_expr.specs.Scopes.{range_width}
use Rattle.rr_flat.specs.Signals.{signal_at}
use Rattle.rr_flat.specs.Sound.{AreNamed}
use Rattle.rr_sort.specs.Graphs.{Graph, Names, names_of}
use Rattle.std.specs.declared.alloc.Global.{Global}

-- the numbers of bits of its signals
abbrev pub widths : Flat → List ℕ
widths flat = map (λ s. s.width) flat.signals

-- the number of the bits of the signals before one, by the widths of all
abbrev pub start_of : List ℕ → ℕ → ℕ
start_of ws zero = 0
start_of [] (suc s) = 0
start_of (w ∷ ws) (suc s) = w + start_of ws s

abbrev pub total : List ℕ → ℕ
total ws = start_of ws (length ws)

-- a step of the design writes the bit, or names it
abbrev pub IsWrittenBy : Flat → Step → Bit → Type 0
IsWrittenBy flat s b = IsStep flat s × StepWrites flat s b

abbrev pub IsNamedBy : Flat → Step → Bit → Type 0
IsNamedBy flat s b = IsStep flat s × StepNames flat s b

-- a bit that is there
abbrev pub IsBit : List ℕ → Bit → Type 0
IsBit ws b = (b.signal < length ws) × (b.place < get_or ws b.signal 0)

abbrev pub bit_node : List ℕ → Bit → ℕ
bit_node ws b = start_of ws b.signal + b.place

abbrev pub signal_node : List ℕ → ℕ → ℕ
signal_node ws s = total ws + s

abbrev pub step_node : List ℕ → ℕ → ℕ
step_node ws j = total ws + (length ws + j)

abbrev pub In : ℕ → List ℕ → Type 0
In w row = (i : ℕ) × ((i < length row) × (get_or row i 0 ≡ w))

abbrev pub no_bit : Bit
no_bit = record { signal = 0; place = 0 }

-- all bits, each at the number of its node
pub record IsTable (ws : List ℕ) (table : List Bit) : Type 0 where
  pub count : length table ≡ total ws
  pub at : (b : Bit) → IsBit ws b → get_or table (bit_node ws b) no_bit ≡ b

-- that table, and where the bits of each signal begin in it
pub record IsLayout (ws starts : List ℕ) (table : List Bit) : Type 0 where
  pub count : length starts ≡ suc (length ws)
  pub starts_at : (s : ℕ) → s ≤ length ws → get_or starts s 0 ≡ start_of ws s
  pub few : total ws ≤ 8388608
  pub table_of : IsTable ws table

-- the bits of one signal more, so many of them
pub record MoreBits (old new : List Bit) (signal width : ℕ) : Type 0 where
  pub count : length new ≡ length old + width
  pub kept : (i : ℕ) → i < length old → get_or new i no_bit ≡ get_or old i no_bit
  pub added : (p : ℕ) → p < width → get_or new (length old + p) no_bit ≡ record { signal = signal; place = p }

-- the node of a bit of a set, or of a signal all of whose bits it has
abbrev pub Fits : List ℕ → (Bit → Type 0) → ℕ → Type 0
Fits ws P w =
    ((b : Bit) × (IsBit ws b × ((bit_node ws b ≡ w) × P b)))
    ⊎ ((s : ℕ) × ((s < length ws) × ((signal_node ws s ≡ w) × ((b : Bit) → IsBit ws b → b.signal ≡ s → P b))))

-- the nodes of a set of bits, with one node for a signal that is in it whole
pub record IsRow (ws : List ℕ) (P : Bit → Type 0) (row : List ℕ) : Type 0 where
  pub sound : (w : ℕ) → In w row → Fits ws P w
  pub complete : (b : Bit) → IsBit ws b → P b → In (bit_node ws b) row ⊎ In (signal_node ws b.signal) row

-- the nodes of its bits alone
pub record IsWritten (ws : List ℕ) (P : Bit → Type 0) (nodes : List ℕ) : Type 0 where
  pub sound : (w : ℕ) → In w nodes → (b : Bit) × (IsBit ws b × ((bit_node ws b ≡ w) × P b))
  pub complete : (b : Bit) → IsBit ws b → P b → In (bit_node ws b) nodes

-- each of these nodes names one more
pub record Joined (g h : Graph) (nodes : List ℕ) (to : ℕ) : Type 0 where
  pub count : length h ≡ length g
  pub kept : (v w : ℕ) → Names g v w → Names h v w
  pub added : (v : ℕ) → In v nodes → Names h v to
  pub only : (v w : ℕ) → Names h v w → Names g v w ⊎ (In v nodes × (w ≡ to))

-- the graph of steps that write and name bits
pub record IsGraphOf {A : Type 0} (d : A) (ws : List ℕ) (W R : A → Bit → Type 0) (steps : List A) (g : Graph) : Type 0 where
  pub count : length g ≡ total ws + (length ws + length steps)
  pub writes : (j : ℕ) (b : Bit) → j < length steps → W (get_or steps j d) b → IsBit ws b → Names g (bit_node ws b) (step_node ws j)
  pub written : (b : Bit) (w : ℕ) → IsBit ws b → Names g (bit_node ws b) w → (j : ℕ) × ((j < length steps) × ((w ≡ step_node ws j) × W (get_or steps j d) b))
  pub bits : (b : Bit) → IsBit ws b → Names g (signal_node ws b.signal) (bit_node ws b)
  pub bit : (s w : ℕ) → s < length ws → Names g (signal_node ws s) w → (b : Bit) × (IsBit ws b × ((b.signal ≡ s) × (w ≡ bit_node ws b)))
  pub names : (j : ℕ) (b : Bit) → j < length steps → R (get_or steps j d) b → IsBit ws b →
      Names g (step_node ws j) (bit_node ws b) ⊎ Names g (step_node ws j) (signal_node ws b.signal)
  pub named : (j w : ℕ) → j < length steps → Names g (step_node ws j) w → Fits ws (R (get_or steps j d)) w

-- the steps among nodes, of which the first steps have lower numbers
abbrev pub keep : {A : Type 0} → Bool → A → List A → List A
keep true x xs = xs
keep false x xs = x ∷ xs

unfoldable pub steps_in : {A : Type 0} → A → ℕ → List A → List ℕ → List A
steps_in d first steps [] = []
steps_in d first steps (n ∷ ns) = keep (nat_lt n first) (get_or steps (n - first) d) (steps_in d first steps ns)

-- the bits among them, by a list of all bits
abbrev pub pick : Bool → Bit → List Bit → List Bit
pick true b bs = b ∷ bs
pick false b bs = bs

unfoldable pub bits_among : List Bit → List ℕ → List Bit
bits_among table [] = []
bits_among table (n ∷ ns) = pick (nat_lt n (length table)) (get_or table n no_bit) (bits_among table ns)

-- nodes of bits of a set are added, and so that all are there
pub record Added (ws : List ℕ) (old new : List ℕ) (P : Bit → Type 0) : Type 0 where
  pub kept : (w : ℕ) → In w old → In w new
  pub sound : (w : ℕ) → In w new → In w old ⊎ ((b : Bit) × (IsBit ws b × ((bit_node ws b ≡ w) × P b)))
  pub complete : (b : Bit) → IsBit ws b → P b → In (bit_node ws b) new

-- the same with nodes of whole signals
pub record Covered (ws : List ℕ) (old new : List ℕ) (P : Bit → Type 0) : Type 0 where
  pub kept : (w : ℕ) → In w old → In w new
  pub sound : (w : ℕ) → In w new → In w old ⊎ Fits ws P w
  pub complete : (b : Bit) → IsBit ws b → P b → In (bit_node ws b) new ⊎ In (signal_node ws b.signal) new

-- a bit whose node does not have this stamp
abbrev pub Foreign : List ℕ → List ℕ → ℕ → Bit → Type 0
Foreign ws own stamp b = get_or own (bit_node ws b) 0 ≡ stamp → ⊥

-- these nodes have the stamp now
pub record Stamped (old new nodes : List ℕ) (stamp : ℕ) : Type 0 where
  pub count : length new ≡ length old
  pub on : (v : ℕ) → In v nodes → get_or new v 0 ≡ stamp
  pub off : (v : ℕ) → In v nodes ⊎ (get_or new v 0 ≡ get_or old v 0)

-- the steps of the drivers before one, and of its bits before one, and of the blocks before one
abbrev pub StepsTo : ℕ → ℕ → ℕ → Step → Type 0
StepsTo drivers bits blocks (step.Driver k) = k < drivers
StepsTo drivers bits blocks (step.Wire k i) = (k < drivers) ⊎ ((k ≡ drivers) × (i < bits))
StepsTo drivers bits blocks (step.Block k) = k < blocks

-- these of the steps of a design, each once, and the graph of them
pub record IsStepGraph (flat : Flat) (P : Step → Type 0) (steps : List Step) (rows : List (Vec ℕ Global)) : Type 0 where
  pub each : (i : ℕ) → i < length steps → IsStep flat (step_at steps i) × P (step_at steps i)
  pub all : (s : Step) → IsStep flat s → P s → (i : ℕ) × ((i < length steps) × (step_at steps i ≡ s))
  pub once : (i j : ℕ) → i < length steps → j < length steps → step_at steps i ≡ step_at steps j → i ≡ j
  pub graph : IsGraphOf (step.Block 0) (widths flat) (IsWrittenBy flat) (IsNamedBy flat) steps (map names_of rows)

-- a whole signal is there
abbrev pub IsThere : Flat → Side → Type 0
IsThere flat (Written t i) = Unit {0}
IsThere flat (Whole id) = id < length flat.signals

-- names stand for signals that there are
pub record IsClosed (flat : Flat) : Type 0 where
  pub scopes : (i : ℕ) → AreNamed 0 flat.signals (scope_at flat i)
  pub signals : (id : ℕ) → id < length flat.signals → (signal_at flat.signals id).width ≡ range_width (signal_at flat.signals id).range
  pub targets : (k : ℕ) → k < length flat.drivers → IsThere flat (driver_at flat k).target
  pub values : (k : ℕ) → k < length flat.drivers → IsThere flat (driver_at flat k).value
