use Rattle.std.proofs.Common.{subst}
use Rattle.rr_blast.proofs.BaseLaws.{narrow_of}
use Rattle.rr_meaning.proofs.Scoping.{IsSound}
use Rattle.rr_blast.proofs.PlacedLaws.{zeros_carried}
use Rattle.rr_blast.proofs.beginning.zero_words.Goals as goal

pub returns-clause-zeros : goal.returns-clause-zeros
returns-clause-zeros c = λ env. zeros_carried c.args.b.now env c.constant-zero.result c.loop-signal.words.items (c.constant-zero.ensures.value env) c.loop-signal.invariant.same

pub returns-clause-narrow : goal.returns-clause-narrow
returns-clause-narrow c = narrow_of c.args.flat.now (subst IsSound c.flat.view_is c.flat.invariant)
