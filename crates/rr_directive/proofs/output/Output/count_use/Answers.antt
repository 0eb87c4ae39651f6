use Rattle.std.proofs.Common.{sym, arith}
use Rattle.std.proofs.lemmas.List.{append-nil}
use Rattle.rr_directive.specs.Expand.{Uses, stands_for}
use Rattle.rr_directive.proofs.Outputs.{shows_more}
use Rattle.rr_directive.proofs.output.Output.count_use.Goals as goal

pub returns-clause-counted : goal.returns-clause-counted
returns-clause-counted c = λ events at h. shows_more c.args.self.now _ events (stands_for at Uses) h (sym (append-nil c.args.self.now.text.items)) (sym (append-nil c.args.self.now.origins.items)) (omega (arith, c.if-self-eq0.false))
