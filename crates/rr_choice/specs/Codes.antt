-- The bits of a choice, as a circuit's inputs give them: for each site a switch, a value, a form and the number of a name.
-- What they mean is what reading them gives: `decode`.
use Rattle.std.specs.Prelude.{◌==◌, if◌then◌else◌, Bool, List, [], ◌∷◌, ◌++◌, length}
use Rattle.rr_bits.specs.Words.{word}
use Rattle.rr_choice.specs.declared.pick.Pick.{Pick}
use Rattle.rr_choice.specs.Choices.{name_width}
use Rattle.rr_choice.specs.Sites.{SiteKind, Site, guard_names, value_width, form_width}

-- the bits of a form and of a name, of which a site without names has none
unfoldable pub guard_code : SiteKind → Pick → List Bool
guard_code k p = if length (guard_names k) == 0 then [] else word (form_width k) p.form ++ word (name_width (length (guard_names k))) p.name

-- the bits of a pick
unfoldable pub code_of : Site → Pick → List Bool
code_of s p = p.on ∷ (word (value_width s.kind) p.value ++ guard_code s.kind p)

-- the bits of a choice, site after site
unfoldable pub code : List Site → List Pick → List Bool
code [] ps = []
code (s ∷ ss) [] = []
code (s ∷ ss) (p ∷ ps) = code_of s p ++ code ss ps
