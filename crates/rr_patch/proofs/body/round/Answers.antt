use Rattle.rr_patch.specs.Changes.{plain_changes}
use Rattle.rr_patch.proofs.Bodies.{last_made}
use Rattle.rr_patch.proofs.body.round.Goals as goal

pub returns-in_ok-put_all-in-After-2 : goal.returns-in_ok-put_all-in-After-2
returns-in_ok-put_all-in-After-2 c =
    last_made (plain_changes c.args.out.now.items) (plain_changes c.put_all-in-After.new.out.items) (plain_changes c.gate.new.out.items) (plain_changes c.put_all-in-After-2.new.out.items) c.args.place c.args.side c.args.site.now.kind c.args.pick.now
    c.in-Overwrite.module c.in-Overwrite.target c.in-Overwrite.width c.in-Overwrite.now c.in-Overwrite.names c.picked_form-form.result c.picked_name.result.now c.assigns.result c.cut.result
    c.in-After.is c.in-Overwrite.is c.picked_form-form.ensures c.picked_name.ensures c.assigns.ensures c.cut.ensures c.in_ok-put_all-in-After.ensures c.in_ok-gate-in-After.ensures c.in_ok-put_all-in-After-2.ensures
