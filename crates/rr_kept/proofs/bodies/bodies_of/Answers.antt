use Rattle.std.proofs.Common.{nat_eq, ap, arith}
use Rattle.std.specs.Map.{lookup}
use Rattle.indexmap.specs.IndexMap.{get}
use Rattle.rr_syntax.proofs.ItemLengths.{source_len}
use Rattle.rr_kept.proofs.BodyTable.{table_is}
use Rattle.rr_kept.proofs.bodies.bodies_of.Goals as goal

pub modules-requires : goal.modules-requires
modules-requires c = let a = source_len c.args.source.now in let f = c.requires.fits in record { fits = omega (arith, a, f) }

pub returns : goal.returns
returns c = table_is (get nat_eq c.new-bodies.result) (get nat_eq c.modules.new.bodies) c.args.source.now (λ k. ap (lookup (nat_eq k)) c.new-bodies.ensures.empty) c.in_ok-modules.ensures
