use Rattle.std.proofs.Common.{◌≡◌, map, drop, fold}
use Rattle.rr_syntax.specs.View.{plain_connection}
use Rattle.rr_flatten.specs.Walk.{check_connection}
use Rattle.rr_flatten.specs.View.{plain_connected}
use Rattle.rr_flatten.proofs.settings.Connected.check_connections.Given as goal

abbrev pub invariant-loop-one : goal.invariant-loop-one
invariant-loop-one l = fold (check_connection l.loops l.ports l.names) (plain_connected l.self) (map plain_connection (drop l.one-index l.list)) ≡ fold (check_connection l.loops l.ports l.names) (plain_connected l.fn.self) (map plain_connection l.list)
