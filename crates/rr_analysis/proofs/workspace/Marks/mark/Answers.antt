use Rattle.std.proofs.Common.{ap, ◌∙◌, set, true}
use Rattle.rr_analysis.proofs.Waiting.{marks_one}
use Rattle.rr_analysis.proofs.workspace.Marks.mark.Goals as goal

pub returns : goal.returns
returns c = marks_one c.self.inside.stamps.items c.self.inside.newest c.args.var ∙ ap (λ m. set m c.args.var true) c.self.view_is
