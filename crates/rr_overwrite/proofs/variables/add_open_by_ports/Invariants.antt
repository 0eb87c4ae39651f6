use Rattle.std.proofs.Common.{◌≡◌, ◌||◌, map, drop}
use Rattle.std.specs.List.{list_any}
use Rattle.rr_syntax.specs.View.{plain_port}
use Rattle.rr_flat.specs.Signals.{Text}
use Rattle.rr_guard.specs.Candidates.{is_among}
use Rattle.rr_overwrite.specs.Overwrites.{port_opens}
use Rattle.rr_overwrite.proofs.variables.add_open_by_ports.Given as goal

abbrev pub invariant-loop-group : goal.invariant-loop-group
invariant-loop-group l =
    (name : Text) → (is_among name l.set || list_any (port_opens name) (map plain_port (drop l.group-index l.groups))) ≡ (is_among name l.fn.set || list_any (port_opens name) (map plain_port l.groups))
