-- The report of a repair, each line ended by LF: the number of changes, then for each site that changes its number from 0,
-- its kind, the byte of its first token and what it becomes, and then the number of proposals that were tested. The lines of
-- the sites stand in other reports too.
use Rattle.std.specs.Prelude.{ℕ, ◌+◌, ◌/◌, ◌%◌, ◌^◌, ◌==◌, Bool, false, if◌then◌else◌, List, [], ◌∷◌, ◌++◌, get_or, codes, decimal}
use Rattle.rr_syntax.specs.Words.{Marked}
use Rattle.rr_lex.specs.Numbers.{hex_text}
use Rattle.rr_lex.specs.Tokens.{Lexeme}
use Rattle.rr_choice.specs.declared.pick.Pick.{Pick}
use Rattle.rr_choice.specs.Choices.{cost, picked_form, picked_name}
use Rattle.rr_choice.specs.Sites.{SiteKind, Site, Literal, Guard, Overwrite, guard_names}

-- a literal: its width in decimal, its sign, and its value in as many hexadecimal digits as a quarter of the width, rounded up
abbrev pub literal_text : ℕ → Bool → ℕ → List ℕ
literal_text width signed value = decimal width ++ ((if signed then (codes "'sh") else (codes "'h")) ++ hex_text ((width + 3) / 4) (value % 2 ^ width))

-- a condition E with a guard
abbrev pub guard_text : ℕ → List ℕ → List ℕ
guard_text form name =
    if form == 0 then codes "!(E)"
    else if form == 1 then codes "(E) && " ++ name
    else if form == 2 then codes "(E) && !" ++ name
    else if form == 3 then codes "(E) || " ++ name
    else codes "(E) || !" ++ name

-- when a last assignment is made
abbrev pub gate_text : ℕ → List ℕ → List ℕ
gate_text form name = if form == 0 then codes "1'h1" else if form == 1 then name else codes "!" ++ name

abbrev pub assign_text : Bool → List ℕ
assign_text now = if now then (codes " = ") else (codes " <= ")

abbrev pub kind_text : SiteKind → List ℕ
kind_text (Literal width signed) = codes "literal"
kind_text (Guard owner extent names) = codes "guard"
kind_text (Overwrite owner target width now names) = codes "overwrite"

-- what a site becomes; of a last assignment the value has no sign
abbrev pub change_text : SiteKind → Pick → List ℕ
change_text (Literal width signed) p = literal_text width signed p.value
change_text (Guard owner extent names) p = guard_text (picked_form names p.form) (picked_name names p.name)
change_text (Overwrite owner target width now names) p =
    codes "if (" ++ (gate_text (picked_form names p.form) (picked_name names p.name) ++ (codes ") " ++ (target ++ (assign_text now ++ (literal_text width false p.value ++ codes ";")))))

-- the byte at which a token begins
abbrev pub byte_of : List Lexeme → ℕ → ℕ
byte_of ts at = (get_or ts at (record { word = Marked 0; start = 0; end = 0 })).start

abbrev pub site_line : List Lexeme → ℕ → Site → Pick → List ℕ
site_line ts number s p =
    codes "site " ++ (decimal number ++ (codes " " ++ (kind_text s.kind ++ (codes " " ++ (decimal (byte_of ts s.token) ++ (codes " " ++ (change_text s.kind p ++ codes "\n")))))))

-- a line for each site that is switched on, in the order of the sites, of which the first has this number
unfoldable pub site_lines : List Lexeme → ℕ → List Site → List Pick → List ℕ
site_lines ts number [] ps = []
site_lines ts number (s ∷ ss) [] = []
site_lines ts number (s ∷ ss) (p ∷ ps) = (if p.on then site_line ts number s p else []) ++ site_lines ts (number + 1) ss ps

-- the whole report on a choice
abbrev pub report : List Lexeme → List Site → List Pick → ℕ → List ℕ
report ts ss ps proposals =
    (codes "repaired " ++ (decimal (cost ps) ++ codes "\n")) ++ (site_lines ts 0 ss ps ++ (codes "proposals " ++ (decimal proposals ++ codes "\n")))
