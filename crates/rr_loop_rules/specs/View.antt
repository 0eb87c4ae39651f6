-- What the names of the loops around a place stand for.
use Rattle.std.specs.Prelude.{List, [], ◌∷◌, fold}
use Rattle.rr_flat.specs.Signals.{Text}
use Rattle.rr_loop_rules.specs.Rules.{LoopNames}
use denote.Ref.{Bor}

-- one loop more, inside the others
abbrev pub inside : LoopNames → Bor Text → LoopNames
inside around name = name.now ∷ around

-- in the code's list the innermost loop is last, as it is entered last
unfoldable pub plain_around : List (Bor Text) → LoopNames
plain_around names = fold inside [] names

-- the loops around the innermost one
abbrev pub outside : LoopNames → LoopNames
outside [] = []
outside (name ∷ names) = names
