-- Labels whose literal a choice changes: a new value has no place that matches anything.
use Rattle.std.specs.Prelude.{Bool, false, List}
use Rattle.rr_syntax.specs.Tree.{Tree, Name, Literal, Bit as BitSelect, Part, Indexed, Unary, Binary, Cond, Concat, Repeat, Cast, Paren}
use Rattle.rr_choice.specs.declared.pick.Pick.{Pick}
use Rattle.rr_choice.specs.Places.{find_pick, is_literal_at}
use Rattle.rr_choice.specs.Sites.{Site}
use Rattle.rr_blast_sites.specs.Finding.{is_on}

unfoldable pub changes : List Site → List Pick → Tree → Bool
changes ss ps (Name token name) = false
changes ss ps (Literal token n) = is_on (find_pick (is_literal_at token) ss ps)
changes ss ps (BitSelect token name i) = false
changes ss ps (Part token name l r) = false
changes ss ps (Indexed token name f n up) = false
changes ss ps (Unary op t) = false
changes ss ps (Binary op l r) = false
changes ss ps (Cond a b c) = false
changes ss ps (Concat ts) = false
changes ss ps (Repeat n ts) = false
changes ss ps (Cast signed t) = false
changes ss ps (Paren t) = changes ss ps t
