-- the text of a formula (DIMACS, "cnf")
use Rattle.std.specs.Prelude.{◌≡◌, ◌<◌, ◌^◌, ℕ, cond, List, [], ◌++◌, codes, length}
use Rattle.std.specs.Fmt.{decimal}
use Rattle.std.specs.List.{flat_map}
use Rattle.rr_cnf.specs.Clauses.{AreWithin, Clauses, Literal}

-- `-` where it is negated, the variable, and a blank
abbrev pub literal_text : Literal → List ℕ
literal_text l = cond l.negative (codes "-") [] ++ (decimal l.var ++ codes " ")

-- the literals, and a line's end behind 0
abbrev pub clause_text : List Literal → List ℕ
clause_text c = flat_map literal_text c ++ codes "0\n"

abbrev pub header : Clauses → List ℕ
header f = codes "p cnf " ++ (decimal f.vars ++ (codes " " ++ (decimal (length f.clauses) ++ codes "\n")))

abbrev pub dimacs : Clauses → List ℕ
dimacs f = header f ++ flat_map clause_text f.clauses

-- its variables are those from 1 to its number of variables, and its numbers fit 64 bits
pub record IsCounted (f : Clauses) : Type 0 where
  pub within : AreWithin f.vars f.clauses
  pub vars_fit : f.vars < 2 ^ 64
  pub clauses_fit : length f.clauses < 2 ^ 64

-- two formulas with one text are one
abbrev pub NamesOneFormula : Type 0
NamesOneFormula = (f g : Clauses) → IsCounted f → IsCounted g → dimacs f ≡ dimacs g → f ≡ g
