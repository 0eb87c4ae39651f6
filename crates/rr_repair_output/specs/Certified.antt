-- The three files of a certificate: a circuit as AIGER, its formula as DIMACS, and lines of a proof as LRAT.
use Rattle.std.specs.Prelude.{List, ℕ, [], ◌∷◌, ◌++◌, codes}
use Rattle.rr_circuit.specs.Aag.{aag}
use Rattle.rr_circuit.specs.Values.{OutputNetlist}
use Rattle.rr_cnf.specs.Dimacs.{dimacs}
use Rattle.rr_derive.specs.Derive.{Proof}
use Rattle.rr_derive.specs.Lrat.{lrat}
use Rattle.rr_endings.specs.Found.{File}
use Rattle.rr_tseitin.specs.Tseitin.{formula_of}

abbrev pub certificate : List ℕ → OutputNetlist → Proof → List File
certificate cert circuit proof =
    (cert ++ codes ".aag", aag circuit) ∷ ((cert ++ codes ".cnf", dimacs (formula_of circuit)) ∷ ((cert ++ codes ".lrat", lrat proof) ∷ []))
