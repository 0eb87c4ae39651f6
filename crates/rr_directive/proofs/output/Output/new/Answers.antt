use Rattle.std.proofs.Common.{refl}
use Rattle.rr_directive.proofs.Outputs.{shows_none}
use Rattle.rr_directive.proofs.output.Output.new.Goals as goal

pub returns : goal.returns
returns c = shows_none _ c.new.ensures.items c.new-2.ensures.items refl
