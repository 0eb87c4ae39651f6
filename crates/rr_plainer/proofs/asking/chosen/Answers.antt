use Rattle.std.proofs.Common.{sym, subst, List}
use Rattle.rr_choice.specs.Choices.{IsChoice}
use Rattle.rr_choice.specs.declared.pick.Pick.{Pick}
use Rattle.rr_instance_laws.proofs.DecodeLaws.{decoded_choice}
use Rattle.rr_plainer.proofs.asking.chosen.Goals as goal

pub returns : goal.returns
returns c = subst (λ (ps : List Pick). IsChoice c.args.list.now ps) (sym c.in_ok-choice.ensures) (decoded_choice c.args.list.now c.as_slice.result.now)
