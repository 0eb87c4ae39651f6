use Rattle.rr_blast_sites.proofs.GuardLaws.{rest_whole}
use Rattle.rr_blast_body.proofs.bodies.from_place.Goals as goal

pub returns : goal.returns
returns c = rest_whole c.args.wires.now c.args.at
