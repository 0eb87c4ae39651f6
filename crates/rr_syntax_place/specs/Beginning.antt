-- How a source text begins: its first module's first word is `module` (IEEE 1364-2005 annex A.1.2).
use Rattle.std.specs.Prelude.{List, [], ◌∷◌, Bool, false, ◌==◌}
use Rattle.rr_syntax.specs.declared.token.Token.{Token}
use Rattle.rr_syntax.specs.Words.{Word, Named, System, Digits, Reserved, Marked, word, keyword_module}

abbrev pub is_module : Word → Bool
is_module (Named s) = false
is_module (System s) = false
is_module (Digits n) = false
is_module (Reserved k) = k == keyword_module
is_module (Marked m) = false

-- the first word is `module`
abbrev pub begins_module : List Token → Bool
begins_module [] = false
begins_module (t ∷ ts) = is_module (word t.kind)
