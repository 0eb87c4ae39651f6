-- The usage line of the program.
use Rattle.std.specs.Prelude.{ℕ, List, [], ◌∷◌, ◌++◌, codes}

-- the commands with the names that they take, ended by LF
abbrev pub usage_text : List ℕ
usage_text = codes "usage: rtl_repair repair DESIGN TABLE CERT, run DESIGN TABLE, sites DESIGN, check CIRCUIT PROOF, make SEED CERT, lint DESIGN" ++ (10 ∷ [])
