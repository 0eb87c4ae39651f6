use Rattle.std.proofs.Common.{◌≡◌, [], length, arith}
use Rattle.std.specs.Vec.{vec_len}
use Rattle.std.proofs.lemmas.List.{get_or_read}
use Rattle.rr_flatten.proofs.items.loops_of.Goals as goal

pub index-requires : goal.index-requires
index-requires c =
    let n : vec_len c.args.walked.now.loops ≡ length c.args.walked.now.loops.items = c.args.walked.now.loops.ok.0 in
    omega (arith, c.requires.there, c.requires.loops, n)

pub returns : goal.returns
returns c = get_or_read c.args.walked.now.loops.items c.args.number c.index.result.now (rw c.requires.loops c.requires.there) c.index.ensures []
