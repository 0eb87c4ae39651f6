-- How the program ends.
use Rattle.std.specs.Prelude.{ℕ, List, Result}
use Rattle.std.specs.declared.alloc.Global.{Global}
use Rattle.std.specs.declared.io.Error.{Error}
use Rattle.std.specs.declared.string.String.{String}
use Rattle.std.specs.declared.vec.IntoIter.{IntoIter}
use Rattle.rr_top.specs.Execution.{Execution}
use Rattle.rr_top.specs.Program.{IsProgram}

-- the run over the arguments that the system hands over, or what ends the program before one
pub record EndsAsProgram (run : List (List ℕ) → Execution) : Type 0 where
  pub found : Result (IntoIter (String Global) Global) Error
  pub program : IsProgram found run
