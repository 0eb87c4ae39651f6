-- Flat designs as plain data: without addresses, the leaves of trees with the numbers of their tokens.
use Rattle.std.specs.Prelude.{ℕ, List, []}
use Rattle.rr_syntax.specs.Tree.{Tree, Statement, EdgeEvent}
use Rattle.rr_expr.specs.Scopes.{Names}
use Rattle.rr_flat.specs.Signals.{Signal}
use Rattle.rr_flat.specs.declared.design.Part as part

-- one side of a driver: an expression with the number of its scope, or a whole signal
pub data Side : Type 0 where
  Written : Tree → ℕ → Side
  Whole : ℕ → Side

-- a continuous assignment (IEEE 1364-2005 section 6.1) or a port connection (section 12.3.9.2)
pub record Driver : Type 0 where
  pub target : Side
  pub value : Side
  pub token : ℕ

-- an `always` (section 9.9.2), with its edges where it is clocked, and the number of its scope
pub record Block : Type 0 where
  pub body : Statement
  pub edges : List EdgeEvent
  pub scope : ℕ
  pub token : ℕ

-- an `initial` item (section 9.9.1), with the number of its scope and the token of its word
pub record Initial : Type 0 where
  pub body : Statement
  pub scope : ℕ
  pub token : ℕ

-- the token of the top module's name; starts are the starting values of the signals; the scopes and the owners, which are numbers of modules, are those of the
-- instances in order; walk are the drivers, blocks and `initial` items in the order in which they were met; inputs and outputs are numbers
-- of signals, in port order; reached are the modules of the instances, each once
pub record Flat : Type 0 where
  pub top : ℕ
  pub signals : List Signal
  pub starts : List ℕ
  pub scopes : List Names
  pub drivers : List Driver
  pub clocked : List Block
  pub combinational : List Block
  pub initials : List Initial
  pub walk : List part.Part
  pub inputs : List ℕ
  pub outputs : List ℕ
  pub owners : List ℕ
  pub reached : List ℕ

-- no instances, where the name of the top has this token
abbrev pub no_design : ℕ → Flat
no_design top = record { top = top; signals = []; starts = []; scopes = []; drivers = []; clocked = []; combinational = []; initials = []; walk = []; inputs = []; outputs = []; owners = []; reached = [] }
