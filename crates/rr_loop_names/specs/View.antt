-- What the names of a turn stand for.
use Rattle.std.specs.Prelude.{List, [], ◌∷◌, fold}
use Rattle.rr_loop_names.specs.declared.turns.TurnName.{TurnName}
use Rattle.rr_loop_names.specs.Turns.{Turn}

-- one loop more, inside the others
abbrev pub entered : Turn → TurnName → Turn
entered turn n = (n.name.now, n.value) ∷ turn

-- in the code's list the innermost loop is last, as it is entered last
unfoldable pub plain_turn : List TurnName → Turn
plain_turn names = fold entered [] names
