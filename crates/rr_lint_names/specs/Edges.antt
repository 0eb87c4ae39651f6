-- What an `always` waits for.
use Rattle.std.specs.Prelude.{Bool, true, false}
use Rattle.rr_syntax.specs.Tree.{EventControl, Star, Edges, Levels}

-- whether an `always` waits for edges (IEEE 1364-2005 section 9.7.2)
abbrev pub waits_for_edges : EventControl → Bool
waits_for_edges (Star brackets) = false
waits_for_edges (Edges list commas) = true
waits_for_edges (Levels list commas) = false
