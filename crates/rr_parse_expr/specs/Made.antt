-- The select with a mark between its two expressions (IEEE 1364-2005 section 5.2.1).
use Rattle.std.specs.Prelude.{ℕ, List, if◌then◌else◌, ◌==◌}
use Rattle.rr_syntax.specs.Words.{mark_colon, mark_part_up}
use Rattle.rr_syntax.specs.Tree.{Tree, Part, Indexed}

unfoldable pub select_of : ℕ → List ℕ → ℕ → Tree → Tree → Tree
select_of n s m t u = if m == mark_colon then Part n s t u else Indexed n s t u (m == mark_part_up)
