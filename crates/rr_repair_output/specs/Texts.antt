-- The reports of a repair that is not the least, or of none, each line ended by LF; that of a least repair stands in
-- `rr_repair_report`.
use Rattle.std.specs.Prelude.{ℕ, List, ◌++◌, codes, decimal}
use Rattle.rr_lex.specs.Tokens.{Lexeme}
use Rattle.rr_choice.specs.declared.pick.Pick.{Pick}
use Rattle.rr_choice.specs.Choices.{cost}
use Rattle.rr_choice.specs.Sites.{Site}
use Rattle.rr_repair_report.specs.Texts.{site_lines}
use Rattle.rr_check_certificate.specs.Texts.{line}

-- the design matches as it is
abbrev pub unchanged_text : List ℕ
unchanged_text = line (codes "unchanged")

-- no choice among so many sites matches
abbrev pub beyond_text : ℕ → List ℕ
beyond_text sites = line (codes "no repair") ++ line (codes "sites " ++ decimal sites)

-- each member has learned so many lines, and whether so many changes match is left open
abbrev pub open_text : ℕ → ℕ → List ℕ
open_text budget bound = line (codes "budget spent " ++ (decimal budget ++ (codes " bound " ++ decimal bound)))

-- so many changes were found to match
abbrev pub found_line : ℕ → List ℕ
found_line changes = line (codes "found " ++ decimal changes)

-- .. and the changes of this choice do: how many they are, and a line for each site that it switches on
abbrev pub found_text : ℕ → ℕ → List Lexeme → List Site → List Pick → List ℕ
found_text budget bound tokens sites choice = open_text budget bound ++ (found_line (cost choice) ++ site_lines tokens 0 sites choice)
