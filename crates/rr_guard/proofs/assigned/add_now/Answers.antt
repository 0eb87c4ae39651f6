use Rattle.std.proofs.Common.{◌∙◌}
use Rattle.std.specs.List.{list_any}
use Rattle.std.specs.Str.{bytes_eq}
use Rattle.rr_guard.proofs.AssignedNodes.{now_is, name_by}
use Rattle.rr_guard.proofs.assigned.add_now.Goals as goal

pub returns-in_ok-add : goal.returns-in_ok-add
returns-in_ok-add c = λ name.
    c.in_ok-add.ensures.among name
    ∙ now_is c.args.target.now c.identifier_of-named.result.name.now name (list_any (bytes_eq name) c.args.set.now) c.if-target.true (name_by c.identifier_of-named.result _ c.identifier_of-named.ensures)
