use Rattle.std.proofs.Common.{◌≡◌, map, drop, fold}
use Rattle.rr_syntax.specs.View.{plain_connection}
use Rattle.rr_flatten.specs.Walk.{check_override}
use Rattle.rr_flatten.specs.View.{plain_checked}
use Rattle.rr_flatten.proofs.settings.Checked.check_overrides.Given as goal

abbrev pub invariant-loop-one : goal.invariant-loop-one
invariant-loop-one l = fold (check_override l.table l.names) (plain_checked l.self) (map plain_connection (drop l.one-index l.list)) ≡ fold (check_override l.table l.names) (plain_checked l.fn.self) (map plain_connection l.list)
