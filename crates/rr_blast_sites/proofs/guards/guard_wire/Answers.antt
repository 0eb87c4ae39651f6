use Rattle.std.proofs.Common.{arith}
use Rattle.rr_blast_sites.proofs.GuardLaws.{guarded-carried, rest_whole}
use Rattle.rr_blast_sites.proofs.guards.guard_wire.Goals as goal

pub returns-clause-value : goal.returns-clause-value
returns-clause-value c = λ W h. guarded-carried c.args.inputs.now _ _ _ W c.args.names.now c.args.bits.now _ _ _ _ _ (rest_whole c.args.bits.now 1) (omega (arith, c.requires.room)) c.in_ok-changed.ensures.extends c.requires.bits c.requires.e (c.in_ok-changed.ensures.value W h) c.in_ok-out.ensures.wire c.in_ok-out.ensures.value
