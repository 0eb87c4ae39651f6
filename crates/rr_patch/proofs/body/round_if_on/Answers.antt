use Rattle.rr_choice.specs.View.{plain_kind}
use Rattle.rr_patch.specs.Changes.{plain_changes}
use Rattle.rr_patch.specs.Walks.{round_of}
use Rattle.rr_patch.proofs.Bodies.{round_off}
use Rattle.rr_patch.proofs.body.round_if_on.Goals as goal

pub returns : goal.returns
returns c = round_off (plain_changes c.args.out.now.items) c.args.place (round_of c.args.side (plain_kind c.args.site.now.kind) c.args.pick.now) c.args.pick.now.on c.if-pick.false
