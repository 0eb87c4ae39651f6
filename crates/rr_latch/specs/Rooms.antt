-- What stands in the room of blocks that are asked one after the other.
use Rattle.std.specs.Prelude.{◌≡◌, [], true}
use Rattle.rr_expr.specs.declared.types.Bit.{Bit}
use Rattle.rr_latch.specs.declared.kept.Room.{Room}
use Rattle.rr_latch.specs.Notes.{is_shut}
use Rattle.rr_latch.specs.Paths.{assigned}

-- no block has left anything: each bit is assigned, and none is to be noted
pub record IsBlank (r : Room) : Type 0 where
  pub assigned : (b : Bit) → assigned r.path.unassigned b ≡ true
  pub shut : (b : Bit) → is_shut r.early b ≡ true
  pub empty : r.early.bits.items ≡ []
