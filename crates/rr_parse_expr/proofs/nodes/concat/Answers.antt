use Rattle.std.proofs.Common.{refl}
use Rattle.rr_syntax.proofs.Rows.{plain_concat}
use Rattle.rr_parse_expr.proofs.nodes.concat.Goals as goal

pub returns : goal.returns
returns c = record {
  tree = plain_concat c.args.parts;
  next_is = refl;
  depth_is = refl;
}
